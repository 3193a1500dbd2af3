-- What a session has in a phase of a script is what its lines there are, and its answers are put back behind them.
use Rattle.std.proofs.Common.{zero, suc, ◌≡◌, ◌≢◌, ℕ, ◌+◌, ◌==◌, ◌<◌, ◌≤◌, inl, inr, Bool, false, cond, List, [], ◌∷◌, ◌++◌, length, drop, replicate, Option, None, Some, Ok, Err, refl, sym, ap, ◌∙◌, subst, arith}
use Rattle.std.specs.List.{zip}
use Rattle.std.proofs.lemmas.Bool.{cases_eq, eq-eqb, ne_eqb}
use Rattle.std.proofs.lemmas.List.{length-replicate}
use Rattle.pol_answer.specs.declared.answer.Answer.{Answer}
use Rattle.pol_answer.specs.declared.answer.Answer.TheVariants as answer
use Rattle.pol_script.specs.declared.command.Command.{Command}
use Rattle.pol_script.specs.declared.command.Command.TheVariants as command
use Rattle.pol_run.specs.ByIndex.{is_phase}
use Rattle.pol_run.specs.Spots.{Line, Reading}
use Rattle.pol_run_laws.specs.Cut.{AreSeated, answers_from, change_at, change_first, change_session, first_answer, first_phase, in_phase, list_at, script_of, session_at, told_after, with_command}
use Rattle.pol_run_laws.specs.Phases.{command_of, played_in}
use Rattle.pol_run_laws.proofs.PhaseLines.{lead, played_more}

-- ---- lists of lists

module _ {X : Type 0} (change : List X → List X) where
  change_itself : (i : ℕ) (lists : List (List X)) → i < length lists → list_at (change_at i change lists) i ≡ change (list_at lists i)
  change_itself i [] less = absurd (omega (arith, less))
  change_itself zero (xs ∷ others) less = refl
  change_itself (suc i) (xs ∷ others) less = change_itself i others (omega (arith, less))

  -- also past the end, where nothing stays nothing
  change_always : (i : ℕ) (lists : List (List X)) → change [] ≡ [] → list_at (change_at i change lists) i ≡ change (list_at lists i)
  change_always i [] none = sym none
  change_always zero (xs ∷ others) none = refl
  change_always (suc i) (xs ∷ others) none = change_always i others none

  change_other : (i j : ℕ) (lists : List (List X)) → i ≢ j → list_at (change_at i change lists) j ≡ list_at lists j
  change_other i j [] apart = refl
  change_other zero zero (xs ∷ others) apart = absurd (apart refl)
  change_other zero (suc j) (xs ∷ others) apart = refl
  change_other (suc i) zero (xs ∷ others) apart = refl
  change_other (suc i) (suc j) (xs ∷ others) apart = change_other i j others (λ same. apart (ap (λ (n : ℕ). suc n) same))

  change_length : (i : ℕ) (lists : List (List X)) → length (change_at i change lists) ≡ length lists
  change_length i [] = refl
  change_length zero (xs ∷ others) = refl
  change_length (suc i) (xs ∷ others) = ap (λ (n : ℕ). suc n) (change_length i others)

  session_itself : (session : ℕ) (lists : List (List X)) → 1 ≤ session → session ≤ length lists
      → session_at (change_session session change lists) session ≡ change (session_at lists session)
  session_itself zero lists some within = absurd (omega (arith, some))
  session_itself (suc i) lists some within = change_itself i lists (omega (arith, within))

  session_always : (session : ℕ) (lists : List (List X)) → change [] ≡ []
      → session_at (change_session session change lists) session ≡ change (session_at lists session)
  session_always zero lists none = sym none
  session_always (suc i) lists none = change_always i lists none

  session_other : (session other : ℕ) (lists : List (List X)) → session ≢ other
      → session_at (change_session session change lists) other ≡ session_at lists other
  session_other zero other lists apart = refl
  session_other (suc i) zero lists apart = refl
  session_other (suc i) (suc j) lists apart = change_other i j lists (λ same. apart (ap (λ (n : ℕ). suc n) same))

  session_length : (session : ℕ) (lists : List (List X)) → length (change_session session change lists) ≡ length lists
  session_length zero lists = refl
  session_length (suc i) lists = change_length i lists

  -- the same of the first phase
  phase_itself : (session : ℕ) (phases : List (List (List X))) → 1 ≤ session → session ≤ length (first_phase phases)
      → in_phase (change_first (change_session session change) phases) 0 session ≡ change (in_phase phases 0 session)
  phase_itself session [] some within = absurd (omega (arith, some, within))
  phase_itself session (first ∷ later) some within = session_itself session first some within

  phase_always : (session : ℕ) (phases : List (List (List X))) → change [] ≡ []
      → in_phase (change_first (change_session session change) phases) 0 session ≡ change (in_phase phases 0 session)
  phase_always session [] none = sym none
  phase_always session (first ∷ later) none = session_always session first none

  phase_other : (session other : ℕ) (phases : List (List (List X))) → session ≢ other
      → in_phase (change_first (change_session session change) phases) 0 other ≡ in_phase phases 0 other
  phase_other session other [] apart = refl
  phase_other session other (first ∷ later) apart = session_other session other first apart

  phase_later : (session other phase : ℕ) (phases : List (List (List X)))
      → in_phase (change_first (change_session session change) phases) (suc phase) other ≡ in_phase phases (suc phase) other
  phase_later session other phase [] = refl
  phase_later session other phase (first ∷ later) = refl

  first_length : (session : ℕ) (phases : List (List (List X))) → length (first_phase (change_first (change_session session change) phases)) ≡ length (first_phase phases)
  first_length session [] = refl
  first_length session (first ∷ later) = session_length session first

none_at : {X : Type 0} (n i : ℕ) → list_at {X = X} (replicate n []) i ≡ []
none_at zero i = refl
none_at (suc n) zero = refl
none_at (suc n) (suc i) = none_at n i

pub none_of : {X : Type 0} (n session : ℕ) → session_at {X = X} (replicate n []) session ≡ []
none_of n zero = refl
none_of n (suc i) = none_at n i

next_phase : {X : Type 0} (phases : List (List (List X))) (phase session : ℕ) → in_phase (drop 1 phases) phase session ≡ in_phase phases (suc phase) session
next_phase [] phase session = refl
next_phase (first ∷ later) phase session = refl

first_in : {X : Type 0} (phases : List (List (List X))) (session : ℕ) → in_phase phases 0 session ≡ session_at (first_phase phases) session
first_in [] zero = refl
first_in [] (suc i) = refl
first_in (first ∷ later) session = refl

-- ---- the script

with_length : (n : ℕ) (c : Command) (o : Option ℕ) (phases : List (List (List Command))) → length (first_phase phases) ≡ n → length (first_phase (with_command n c o phases)) ≡ n
with_length n c None phases same = length-replicate n []
with_length n c (Some session) phases same = first_length (λ commands. c ∷ commands) session phases ∙ same

-- each phase has a list for every session
pub script_length : (n : ℕ) (lines : List Reading) → length (first_phase (script_of n lines)) ≡ n
script_length n [] = length-replicate n []
script_length n (Err fault ∷ lines) = script_length n lines
script_length n (Ok (command.Commit session request) ∷ lines) = with_length n (command.Commit session request) (Some session) (script_of n lines) (script_length n lines)
script_length n (Ok (command.Look session query) ∷ lines) = with_length n (command.Look session query) (Some session) (script_of n lines) (script_length n lines)
script_length n (Ok (command.Trace session query) ∷ lines) = with_length n (command.Trace session query) (Some session) (script_of n lines) (script_length n lines)
script_length n (Ok (command.Sync session) ∷ lines) = with_length n (command.Sync session) (Some session) (script_of n lines) (script_length n lines)
script_length n (Ok command.Phase ∷ lines) = length-replicate n []

-- there is one answer for each command
abbrev pub AreOneEach : List (List (List Command)) → List (List (List Answer)) → Type 0
AreOneEach commands told = (phase session : ℕ) → length (in_phase told phase session) ≡ length (in_phase commands phase session)

-- what a session has in a phase, command by command
abbrev pub turn : List (List (List Command)) → List (List (List Answer)) → ℕ → ℕ → List (Command × Answer)
turn commands told phase session = zip (in_phase commands phase session) (in_phase told phase session)

first_none : {X Y : Type 0} (xs : List X) (ys : List Y) → xs ≡ [] → zip xs ys ≡ []
first_none xs ys none = ap (λ zs. zip zs ys) none

lead_none : (phase : ℕ) (xs : List (Command × Answer)) → lead phase None ++ xs ≡ xs
lead_none zero xs = refl
lead_none (suc phase) xs = refl

first_of : (xs : List Answer) (n : ℕ) → length xs ≡ suc n → xs ≡ first_answer xs ∷ drop 1 xs
first_of [] n long = absurd (omega (arith, long))
first_of (x ∷ xs) n long = refl

drop_one : (xs : List Answer) (n : ℕ) → length xs ≡ suc n → length (drop 1 xs) ≡ n
drop_one [] n long = absurd (omega (arith, long))
drop_one (x ∷ xs) n long = omega (arith, long)

-- a command of a session, in front of a script
module _ (c : Command) (session n : ℕ) (seated : (1 ≤ session) × (session ≤ n)) (phases : List (List (List Command))) (all : length (first_phase phases) ≡ n)
    (told : List (List (List Answer))) (long : AreOneEach (change_first (change_session session (λ (cs : List Command). c ∷ cs)) phases) told) where
  abbrev more : List (List (List Command))
  more = change_first (change_session session (λ (cs : List Command). c ∷ cs)) phases

  abbrev left : List (List (List Answer))
  left = change_first (change_session session (λ (given : List Answer). drop 1 given)) told

  abbrev next : Answer
  next = first_answer (session_at (first_phase told) session)

  its_commands : in_phase more 0 session ≡ c ∷ in_phase phases 0 session
  its_commands = phase_itself (λ (cs : List Command). c ∷ cs) session phases seated.0 (omega (arith, seated.1, all))

  its_left : in_phase left 0 session ≡ drop 1 (in_phase told 0 session)
  its_left = phase_always (λ (given : List Answer). drop 1 given) session told refl

  its_long : length (in_phase told 0 session) ≡ suc (length (in_phase phases 0 session))
  its_long = long 0 session ∙ ap (λ (cs : List Command). length cs) its_commands

  its_answers : in_phase told 0 session ≡ next ∷ in_phase left 0 session
  its_answers =
      first_of (in_phase told 0 session) (length (in_phase phases 0 session)) its_long
      ∙ ap (λ (given : List Answer). first_answer given ∷ drop 1 (in_phase told 0 session)) (first_in told session)
      ∙ ap (λ (given : List Answer). next ∷ given) (sym its_left)

  pub left_each : AreOneEach phases left
  left_each (suc phase) other =
      ap (λ (given : List Answer). length given) (phase_later (λ (given : List Answer). drop 1 given) session other phase told)
      ∙ long (suc phase) other
      ∙ ap (λ (cs : List Command). length cs) (phase_later (λ (cs : List Command). c ∷ cs) session other phase phases)
  left_each zero other =
      elim (cases_eq session other) [
        | inl same ↦ subst (λ (s : ℕ). length (in_phase left 0 s) ≡ length (in_phase phases 0 s)) same
            (ap (λ (given : List Answer). length given) its_left ∙ drop_one (in_phase told 0 session) (length (in_phase phases 0 session)) its_long)
        | inr apart ↦
            ap (λ (given : List Answer). length given) (phase_other (λ (given : List Answer). drop 1 given) session other told apart)
            ∙ long 0 other
            ∙ ap (λ (cs : List Command). length cs) (phase_other (λ (cs : List Command). c ∷ cs) session other phases apart)
      ]

  -- what its session has begins with it, and nobody else has more
  pub turn_itself : turn more told 0 session ≡ (c, next) ∷ turn phases left 0 session
  turn_itself =
      ap (λ (cs : List Command). zip cs (in_phase told 0 session)) its_commands
      ∙ ap (λ (given : List Answer). zip (c ∷ in_phase phases 0 session) given) its_answers

  pub turn_other : (other : ℕ) → session ≢ other → turn more told 0 other ≡ turn phases left 0 other
  turn_other other apart =
      ap (λ (cs : List Command). zip cs (in_phase told 0 other)) (phase_other (λ (cs : List Command). c ∷ cs) session other phases apart)
      ∙ ap (λ (given : List Answer). zip (in_phase phases 0 other) given) (sym (phase_other (λ (given : List Answer). drop 1 given) session other told apart))

  turn_later : (phase other : ℕ) → turn more told (suc phase) other ≡ turn phases left (suc phase) other
  turn_later phase other =
      ap (λ (cs : List Command). zip cs (in_phase told (suc phase) other)) (phase_later (λ (cs : List Command). c ∷ cs) session other phase phases)
      ∙ ap (λ (given : List Answer). zip (in_phase phases (suc phase) other) given) (sym (phase_later (λ (given : List Answer). drop 1 given) session other phase told))

  module _ (lines : List Line) (its : (other : ℕ) → command_of other (Ok c, next) ≡ cond (session == other) (Some (c, next)) None)
      (no_phase : is_phase (Ok c, next) ≡ false) where
    pub more_played : (phase other : ℕ) → played_in phase other lines ≡ turn phases left phase other
        → played_in phase other ((Ok c, next) ∷ lines) ≡ turn more told phase other
    more_played (suc phase) other same =
        played_more other (Ok c, next) lines (suc phase) no_phase ∙ same ∙ sym (turn_later phase other)
    more_played zero other same =
        elim (cases_eq session other) [
          | inl itself ↦
              let lead_is : lead 0 (command_of other (Ok c, next)) ≡ (c, next) ∷ [] =
              ap (λ (o : Option (Command × Answer)). lead 0 o) (its other ∙ ap (λ (b : Bool). cond b (Some (c, next)) None) (eq-eqb session other itself)) in
              played_more other (Ok c, next) lines 0 no_phase
              ∙ ap (λ (xs : List (Command × Answer)). xs ++ played_in 0 other lines) lead_is
              ∙ ap (λ (xs : List (Command × Answer)). (c, next) ∷ xs) same
              ∙ subst (λ (s : ℕ). (c, next) ∷ turn phases left 0 s ≡ turn more told 0 s) itself (sym turn_itself)
          | inr apart ↦
              let lead_is : lead 0 (command_of other (Ok c, next)) ≡ [] =
              ap (λ (o : Option (Command × Answer)). lead 0 o) (its other ∙ ap (λ (b : Bool). cond b (Some (c, next)) None) (ne_eqb session other apart)) in
              played_more other (Ok c, next) lines 0 no_phase
              ∙ ap (λ (xs : List (Command × Answer)). xs ++ played_in 0 other lines) lead_is
              ∙ same
              ∙ sym (turn_other other apart)
        ]

pub phase_each : (n : ℕ) (phases : List (List (List Command))) (told : List (List (List Answer))) → AreOneEach (replicate n [] ∷ phases) told → AreOneEach phases (drop 1 told)
phase_each n phases told long phase session = ap (λ (given : List Answer). length given) (next_phase told phase session) ∙ long (suc phase) session

-- what a session plays in a phase is what it has there
pub played_is : (n : ℕ) (lines : List Reading) (number : ℕ) (told : List (List (List Answer))) → AreSeated n lines → AreOneEach (script_of n lines) told
    → (phase session : ℕ) → played_in phase session (zip lines (answers_from number lines told)) ≡ turn (script_of n lines) told phase session
played_is n [] number told seated long zero session = sym (first_none (session_at (replicate n []) session) (in_phase told 0 session) (none_of n session))
played_is n [] number told seated long (suc phase) session = refl
played_is n (Err fault ∷ lines) number told seated long phase session =
    let later = zip lines (answers_from number lines told) in
    played_more session (Err fault, answer.BadLine fault) later phase refl
    ∙ lead_none phase (played_in phase session later)
    ∙ played_is n lines number told seated.1 long phase session
played_is n (Ok command.Phase ∷ lines) number told seated long zero session =
    sym (first_none (session_at (replicate n []) session) (in_phase told 0 session) (none_of n session))
played_is n (Ok command.Phase ∷ lines) number told seated long (suc phase) session =
    played_is n lines (number + 1) (drop 1 told) seated.1 (phase_each n (script_of n lines) told long) phase session
    ∙ ap (λ (given : List Answer). zip (in_phase (script_of n lines) phase session) given) (next_phase told phase session)
played_is n (Ok (command.Commit s request) ∷ lines) number told seated long phase session =
    let c = command.Commit s request in let rest = script_of n lines in let left = told_after (Some s) told in
    more_played c s n seated.0 rest (script_length n lines) told long (zip lines (answers_from number lines left)) (λ other. refl) refl phase session
    (played_is n lines number left seated.1 (left_each c s n seated.0 rest (script_length n lines) told long) phase session)
played_is n (Ok (command.Look s query) ∷ lines) number told seated long phase session =
    let c = command.Look s query in let rest = script_of n lines in let left = told_after (Some s) told in
    more_played c s n seated.0 rest (script_length n lines) told long (zip lines (answers_from number lines left)) (λ other. refl) refl phase session
    (played_is n lines number left seated.1 (left_each c s n seated.0 rest (script_length n lines) told long) phase session)
played_is n (Ok (command.Trace s query) ∷ lines) number told seated long phase session =
    let c = command.Trace s query in let rest = script_of n lines in let left = told_after (Some s) told in
    more_played c s n seated.0 rest (script_length n lines) told long (zip lines (answers_from number lines left)) (λ other. refl) refl phase session
    (played_is n lines number left seated.1 (left_each c s n seated.0 rest (script_length n lines) told long) phase session)
played_is n (Ok (command.Sync s) ∷ lines) number told seated long phase session =
    let c = command.Sync s in let rest = script_of n lines in let left = told_after (Some s) told in
    more_played c s n seated.0 rest (script_length n lines) told long (zip lines (answers_from number lines left)) (λ other. refl) refl phase session
    (played_is n lines number left seated.1 (left_each c s n seated.0 rest (script_length n lines) told long) phase session)
