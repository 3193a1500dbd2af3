-- The answers that are put back: one for each line, faulty lines refused, `phase` lines counted, and what each session
-- committed.
use Rattle.std.proofs.Common.{zero, suc, ◌≡◌, ℕ, ◌+◌, ◌==◌, ◌≤◌, inl, inr, Bool, true, false, cond, List, [], ◌∷◌, ◌++◌, length, take, drop, replicate, Option, None, Some, Ok, Err, refl, sym, ap, ◌∙◌, subst, arith}
use Rattle.std.specs.Prelude.{count_by}
use Rattle.std.specs.List.{cons_option, slice_get, zip}
use Rattle.std.proofs.lemmas.Bool.{cases_eq, eq-eqb, ne_eqb, false≢true}
use Rattle.pol_data.proofs.Counts.{count_by-cons}
use Rattle.pol_model.specs.declared.request.Request.{Request}
use Rattle.pol_answer.specs.declared.answer.Answer.{Answer}
use Rattle.pol_answer.specs.declared.answer.Answer.TheVariants as answer
use Rattle.pol_script.specs.declared.command.Command.{Command}
use Rattle.pol_script.specs.declared.command.Command.TheVariants as command
use Rattle.pol_script.specs.declared.line_fault.LineFault.{LineFault}
use Rattle.pol_run.specs.ByIndex.{is_phase}
use Rattle.pol_run.specs.Spots.{Line, Reading, phase_after, session_of}
use Rattle.pol_history.proofs.Lists.{no_element}
use Rattle.pol_run_laws.specs.Cut.{AreSeated, answer_in, answers_from, change_first, change_session, first_answer, first_phase, in_phase, script_of, session_at, told_after}
use Rattle.pol_run_laws.specs.Placed.{request_ok, requests_ok}
use Rattle.pol_run_laws.specs.Session.{request_done, requests_done}
use Rattle.pol_run_laws.proofs.CutScript.{AreOneEach, left_each, none_of, phase_each, script_length, turn, turn_itself, turn_other}

pub one_each : (number : ℕ) (lines : List Reading) (told : List (List (List Answer))) → length (answers_from number lines told) ≡ length lines
one_each number [] told = refl
one_each number (Err fault ∷ lines) told = ap (λ (n : ℕ). suc n) (one_each number lines told)
one_each number (Ok c ∷ lines) told = ap (λ (n : ℕ). suc n) (one_each (phase_after number (Ok c)) lines (told_after (session_of (Ok c)) told))

-- ---- the lines with their answers

abbrev pub put_back : ℕ → List Reading → List (List (List Answer)) → List Line
put_back number lines told = zip lines (answers_from number lines told)

abbrev told_in : Option Line → Answer
told_in None = answer.Phase 0
told_in (Some line) = line.1

abbrev refusal_in : Option Line → Answer
refusal_in None = answer.Phase 0
refusal_in (Some (Ok c, told)) = answer.Phase 0
refusal_in (Some (Err fault, told)) = answer.BadLine fault

abbrev was_read : Option Line → Bool
was_read None = false
was_read (Some (Ok c, told)) = true
was_read (Some (Err fault, told)) = false

abbrev reading_in : Option Line → Option Reading
reading_in None = None
reading_in (Some line) = Some line.0

-- a line that is there was read so
pub read_so : (lines : List Reading) (answers : List Answer) (i : ℕ) (line : Line) → slice_get (zip lines answers) i ≡ Some line → slice_get lines i ≡ Some line.0
read_so [] answers i line there = absurd (no_element line there)
read_so (first ∷ lines) [] i line there = absurd (no_element line there)
read_so (first ∷ lines) (told ∷ answers) zero line there = ap reading_in there
read_so (first ∷ lines) (told ∷ answers) (suc i) line there = read_so lines answers i line there

pub faulty_back : (number : ℕ) (lines : List Reading) (told : List (List (List Answer))) (i : ℕ) (fault : LineFault) (given : Answer)
    → slice_get (put_back number lines told) i ≡ Some (Err fault, given) → given ≡ answer.BadLine fault
faulty_back number [] told i fault given there = absurd (no_element _ there)
faulty_back number (Err first ∷ lines) told zero fault given there = sym (ap told_in there) ∙ ap refusal_in there
faulty_back number (Err first ∷ lines) told (suc i) fault given there = faulty_back number lines told i fault given there
faulty_back number (Ok c ∷ lines) told zero fault given there = absurd (false≢true (sym (ap was_read there)))
faulty_back number (Ok c ∷ lines) told (suc i) fault given there =
    faulty_back (phase_after number (Ok c)) lines (told_after (session_of (Ok c)) told) i fault given there

counted : (line : Line) (lines : List Line) (i n : ℕ) → cond (is_phase line) 1 0 ≡ n
    → count_by is_phase (take (suc i) (line ∷ lines)) ≡ n + count_by is_phase (take i lines)
counted line lines i n is = count_by-cons is_phase line (take i lines) ∙ ap (λ (k : ℕ). k + count_by is_phase (take i lines)) is

abbrev flag : Option Line → Bool
flag None = false
flag (Some line) = is_phase line

-- a line in front that ends no phase
of_other : (number : ℕ) (first : Line) (later : List Line) → is_phase first ≡ false
    → ((i : ℕ) (given : Answer) → slice_get later i ≡ Some (Ok command.Phase, given) → given ≡ answer.Phase (number + count_by is_phase (take i later)))
    → (i : ℕ) (given : Answer) → slice_get (first ∷ later) i ≡ Some (Ok command.Phase, given) → given ≡ answer.Phase (number + count_by is_phase (take i (first ∷ later)))
of_other number first later no_phase each zero given there = absurd (false≢true (sym no_phase ∙ ap flag there))
of_other number first later no_phase each (suc i) given there =
    let more = counted first later i 0 (ap (λ (b : Bool). cond b 1 0) no_phase) in
    let same : number + count_by is_phase (take i later) ≡ number + count_by is_phase (take (suc i) (first ∷ later)) = omega (arith, more) in
    each i given there ∙ ap (λ (n : ℕ). answer.Phase n) same

pub phases_back : (number : ℕ) (lines : List Reading) (told : List (List (List Answer))) (i : ℕ) (given : Answer)
    → slice_get (put_back number lines told) i ≡ Some (Ok command.Phase, given) → given ≡ answer.Phase (number + count_by is_phase (take i (put_back number lines told)))
phases_back number [] told i given there = absurd (no_element _ there)
phases_back number (Err fault ∷ lines) told zero given there = absurd (false≢true (ap was_read there))
phases_back number (Err fault ∷ lines) told (suc i) given there =
    let more = counted (Err fault, answer.BadLine fault) (put_back number lines told) i 0 refl in
    let same : number + count_by is_phase (take i (put_back number lines told)) ≡ number + count_by is_phase (take (suc i) (put_back number (Err fault ∷ lines) told)) = omega (arith, more) in
    phases_back number lines told i given there ∙ ap (λ (n : ℕ). answer.Phase n) same
phases_back number (Ok command.Phase ∷ lines) told zero given there =
    let same : number ≡ number + 0 = omega arith in sym (ap told_in there) ∙ ap (λ (n : ℕ). answer.Phase n) same
phases_back number (Ok command.Phase ∷ lines) told (suc i) given there =
    let later = put_back (number + 1) lines (drop 1 told) in
    let more = counted (Ok command.Phase, answer.Phase number) later i 1 refl in
    let same : number + 1 + count_by is_phase (take i later) ≡ number + count_by is_phase (take (suc i) (put_back number (Ok command.Phase ∷ lines) told)) = omega (arith, more) in
    phases_back (number + 1) lines (drop 1 told) i given there ∙ ap (λ (n : ℕ). answer.Phase n) same
phases_back number (Ok (command.Commit s request) ∷ lines) told i given there =
    let left = told_after (Some s) told in
    of_other number (Ok (command.Commit s request), answer_in number (Some s) told) (put_back number lines left) refl (phases_back number lines left) i given there
phases_back number (Ok (command.Look s query) ∷ lines) told i given there =
    let left = told_after (Some s) told in
    of_other number (Ok (command.Look s query), answer_in number (Some s) told) (put_back number lines left) refl (phases_back number lines left) i given there
phases_back number (Ok (command.Trace s query) ∷ lines) told i given there =
    let left = told_after (Some s) told in
    of_other number (Ok (command.Trace s query), answer_in number (Some s) told) (put_back number lines left) refl (phases_back number lines left) i given there
phases_back number (Ok (command.Sync s) ∷ lines) told i given there =
    let left = told_after (Some s) told in
    of_other number (Ok (command.Sync s), answer_in number (Some s) told) (put_back number lines left) refl (phases_back number lines left) i given there

-- ---- what a session committed

-- the requests of a session that were answered `ok`, phase by phase
abbrev pub done : List (List (List Command)) → List (List (List Answer)) → ℕ → List Request
done [] told session = []
done (first ∷ later) told session = requests_done (zip (session_at first session) (in_phase told 0 session)) ++ done later (drop 1 told) session

none_done : (commands : List Command) (answers : List Answer) (later : List Request) → commands ≡ [] → requests_done (zip commands answers) ++ later ≡ later
none_done commands answers later none = ap (λ (cs : List Command). requests_done (zip cs answers) ++ later) none

cons_append : (o : Option Request) (xs ys : List Request) → cons_option o (xs ++ ys) ≡ cons_option o xs ++ ys
cons_append None xs ys = refl
cons_append (Some x) xs ys = refl

later_same : (change : List (List Answer) → List (List Answer)) (told : List (List (List Answer))) → drop 1 (change_first change told) ≡ drop 1 told
later_same change [] = refl
later_same change (first ∷ later) = refl

cond_same : (b : Bool) (o : Option Request) → o ≡ cond b o o
cond_same true o = refl
cond_same false o = refl

commit_ok : (session other : ℕ) (request : Request) (told : Answer)
    → request_ok other (Ok (command.Commit session request), told) ≡ cond (session == other) (request_done (command.Commit session request, told)) None
commit_ok session other request (answer.Committed revision identity) = refl
commit_ok session other request told = cond_same (session == other) None

module _ (c : Command) (session n : ℕ) (seated : (1 ≤ session) × (session ≤ n)) (told : List (List (List Answer))) (lines : List Line) (other : ℕ)
    (its : request_ok other (Ok c, first_answer (session_at (first_phase told) session)) ≡ cond (session == other) (request_done (c, first_answer (session_at (first_phase told) session))) None) where
  more_done : (phases : List (List (List Command))) (all : length (first_phase phases) ≡ n)
      (long : AreOneEach (change_first (change_session session (λ (cs : List Command). c ∷ cs)) phases) told)
      → requests_ok other lines ≡ done phases (told_after (Some session) told) other
      → requests_ok other ((Ok c, first_answer (session_at (first_phase told) session)) ∷ lines) ≡ done (change_first (change_session session (λ (cs : List Command). c ∷ cs)) phases) told other
  more_done [] all long same = absurd (omega (arith, seated.0, seated.1, all))
  more_done (first ∷ later) all long same =
      let phases : List (List (List Command)) = first ∷ later in
      let given = first_answer (session_at (first_phase told) session) in
      let left = told_after (Some session) told in
      let behind = done later (drop 1 told) other in
      let front = λ (o : Option Request). cons_option o (requests_ok other lines) in
      let same_left : requests_ok other lines ≡ requests_done (turn phases left 0 other) ++ behind =
      same ∙ ap (λ (ts : List (List (List Answer))). requests_done (turn phases left 0 other) ++ done later ts other) (later_same (change_session session (λ (xs : List Answer). drop 1 xs)) told) in
      elim (cases_eq session other) [
        | inl itself ↦
            let turns : turn (change_first (change_session session (λ (cs : List Command). c ∷ cs)) phases) told 0 other ≡ (c, given) ∷ turn phases left 0 other =
            subst (λ (s : ℕ). turn (change_first (change_session session (λ (cs : List Command). c ∷ cs)) phases) told 0 s ≡ (c, given) ∷ turn phases left 0 s) itself
            (turn_itself c session n seated phases all told long) in
            ap front (its ∙ ap (λ (b : Bool). cond b (request_done (c, given)) None) (eq-eqb session other itself))
            ∙ ap (λ (xs : List Request). cons_option (request_done (c, given)) xs) same_left
            ∙ cons_append (request_done (c, given)) (requests_done (turn phases left 0 other)) behind
            ∙ ap (λ (xs : List (Command × Answer)). requests_done xs ++ behind) (sym turns)
        | inr apart ↦
            ap front (its ∙ ap (λ (b : Bool). cond b (request_done (c, given)) None) (ne_eqb session other apart))
            ∙ same_left
            ∙ ap (λ (xs : List (Command × Answer)). requests_done xs ++ behind) (sym (turn_other c session n seated phases all told long other apart))
      ]

pub own_back : (n : ℕ) (lines : List Reading) (number : ℕ) (told : List (List (List Answer))) → AreSeated n lines → AreOneEach (script_of n lines) told
    → (session : ℕ) → requests_ok session (put_back number lines told) ≡ done (script_of n lines) told session
own_back n [] number told seated long session = sym (none_done (session_at (replicate n []) session) (in_phase told 0 session) [] (none_of n session))
own_back n (Err fault ∷ lines) number told seated long session = own_back n lines number told seated.1 long session
own_back n (Ok command.Phase ∷ lines) number told seated long session =
    own_back n lines (number + 1) (drop 1 told) seated.1 (phase_each n (script_of n lines) told long) session
    ∙ sym (none_done (session_at (replicate n []) session) (in_phase told 0 session) (done (script_of n lines) (drop 1 told) session) (none_of n session))
own_back n (Ok (command.Commit s request) ∷ lines) number told seated long session =
    let rest = script_of n lines in let left = told_after (Some s) told in
    more_done (command.Commit s request) s n seated.0 told (put_back number lines left) session (commit_ok s session request (answer_in number (Some s) told)) rest (script_length n lines) long
    (own_back n lines number left seated.1 (left_each (command.Commit s request) s n seated.0 rest (script_length n lines) told long) session)
own_back n (Ok (command.Look s query) ∷ lines) number told seated long session =
    let rest = script_of n lines in let left = told_after (Some s) told in
    more_done (command.Look s query) s n seated.0 told (put_back number lines left) session (cond_same (s == session) None) rest (script_length n lines) long
    (own_back n lines number left seated.1 (left_each (command.Look s query) s n seated.0 rest (script_length n lines) told long) session)
own_back n (Ok (command.Trace s query) ∷ lines) number told seated long session =
    let rest = script_of n lines in let left = told_after (Some s) told in
    more_done (command.Trace s query) s n seated.0 told (put_back number lines left) session (cond_same (s == session) None) rest (script_length n lines) long
    (own_back n lines number left seated.1 (left_each (command.Trace s query) s n seated.0 rest (script_length n lines) told long) session)
own_back n (Ok (command.Sync s) ∷ lines) number told seated long session =
    let rest = script_of n lines in let left = told_after (Some s) told in
    more_done (command.Sync s) s n seated.0 told (put_back number lines left) session (cond_same (s == session) None) rest (script_length n lines) long
    (own_back n lines number left seated.1 (left_each (command.Sync s) s n seated.0 rest (script_length n lines) told long) session)
