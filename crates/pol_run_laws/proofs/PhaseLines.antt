-- Where a line stands in its phase: the phase, and how many lines of its session stand before it there.
use Rattle.std.proofs.Common.{zero, suc, ◌≡◌, ℕ, ◌+◌, ◌==◌, ◌<◌, ◌≤◌, Bool, true, false, cond, if◌then◌else◌, List, [], ◌∷◌, ◌++◌, length, take, Option, None, Some, Ok, Err, refl, ap, ◌∙◌, arith, length-append}
use Rattle.std.specs.List.{cons_option, slice_get}
use Rattle.std.proofs.lemmas.Bool.{eq-eqb}
use Rattle.std.proofs.lemmas.List.{take-take}
use Rattle.std.proofs.lemmas.Option.{slice_get_within}
use Rattle.pol_answer.specs.declared.answer.Answer.{Answer}
use Rattle.pol_script.specs.declared.command.Command.{Command}
use Rattle.pol_script.specs.declared.command.Command.TheVariants as command
use Rattle.pol_run.specs.ByIndex.{IsOf, is_phase}
use Rattle.pol_run.specs.Spots.{Line, Reading, session_of}
use Rattle.pol_history.proofs.Lists.{get_behind, get_take, no_element}
use Rattle.pol_run_laws.specs.Phases.{command_of, played_in}

-- the phase of line i, from 0
abbrev pub phase_at : ℕ → List Line → ℕ
phase_at zero lines = 0
phase_at (suc i) [] = 0
phase_at (suc i) (line ∷ lines) = if is_phase line then phase_at i lines + 1 else phase_at i lines

-- how many lines of the session stand before line i in its phase
abbrev pub nth : ℕ → ℕ → List Line → ℕ
nth session i lines = length (played_in (phase_at i lines) session (take i lines))

-- ---- phases

phase_if : (b : Bool) (n m : ℕ) → n ≤ m → cond b (n + 1) n ≤ cond b (m + 1) m
phase_if true n m fewer = omega arith
phase_if false n m fewer = fewer

pub phase_grows : (lines : List Line) (i j : ℕ) → i ≤ j → phase_at i lines ≤ phase_at j lines
phase_grows lines zero j fewer = omega arith
phase_grows [] (suc i) zero fewer = absurd (omega arith)
phase_grows [] (suc i) (suc j) fewer = omega arith
phase_grows (line ∷ lines) (suc i) zero fewer = absurd (omega arith)
phase_grows (line ∷ lines) (suc i) (suc j) fewer =
    phase_if (is_phase line) (phase_at i lines) (phase_at j lines) (phase_grows lines i j (omega (arith, fewer)))

step_if : (b : Bool) (n m : ℕ) → n ≡ m + 1 → cond b (n + 1) n ≡ cond b (m + 1) m + 1
step_if true n m same = omega arith
step_if false n m same = same

-- a `phase` line ends its phase
pub phase_step : (lines : List Line) (i : ℕ) (line : Line) → slice_get lines i ≡ Some line → is_phase line ≡ true → phase_at (suc i) lines ≡ phase_at i lines + 1
phase_step [] i line there is = absurd (no_element line there)
phase_step (first ∷ lines) zero line there is =
    let same : first ≡ line = (cc) in
    let ends : is_phase first ≡ true = ap is_phase same ∙ is in
    rw ends refl
phase_step (first ∷ lines) (suc i) line there is =
    step_if (is_phase first) (phase_at (suc i) lines) (phase_at i lines) (phase_step lines i line there is)

same_if : (b : Bool) (n m : ℕ) → n ≡ m → cond b (n + 1) n ≡ cond b (m + 1) m
same_if b n m same = ap (λ (k : ℕ). cond b (k + 1) k) same

pub phase_take : (lines : List Line) (i j : ℕ) → i ≤ j → phase_at i (take j lines) ≡ phase_at i lines
phase_take lines zero j fewer = refl
phase_take lines (suc i) zero fewer = absurd (omega arith)
phase_take [] (suc i) (suc j) fewer = refl
phase_take (line ∷ lines) (suc i) (suc j) fewer =
    same_if (is_phase line) (phase_at i (take j lines)) (phase_at i lines) (phase_take lines i j (omega (arith, fewer)))

-- ---- lines of the phase

-- what a line adds in front of the lines of a phase
abbrev pub lead : ℕ → Option (Command × Answer) → List (Command × Answer)
lead zero None = []
lead zero (Some x) = x ∷ []
lead (suc phase) found = []

lead_cons : (found : Option (Command × Answer)) (xs : List (Command × Answer)) → cons_option found xs ≡ lead 0 found ++ xs
lead_cons None xs = refl
lead_cons (Some x) xs = refl

module _ (session : ℕ) where
  pub played_past : (line : Line) (lines : List Line) (phase : ℕ) → is_phase line ≡ true → played_in (suc phase) session (line ∷ lines) ≡ played_in phase session lines
  played_past line lines phase is = rw is refl

  pub played_more : (line : Line) (lines : List Line) (phase : ℕ) → is_phase line ≡ false
      → played_in phase session (line ∷ lines) ≡ lead phase (command_of session line) ++ played_in phase session lines
  played_more line lines zero is = rw is (lead_cons (command_of session line) (played_in 0 session lines))
  played_more line lines (suc phase) is = rw is refl

  -- one line more in front
  in_front : (b : Bool) (line : Line) (lines : List Line) (i : ℕ) (x : Command × Answer) → is_phase line ≡ b
      → slice_get (played_in (phase_at i lines) session lines) (nth session i lines) ≡ Some x
      → slice_get (played_in (cond b (phase_at i lines + 1) (phase_at i lines)) session (line ∷ lines))
      (length (played_in (cond b (phase_at i lines + 1) (phase_at i lines)) session (line ∷ take i lines))) ≡ Some x
  in_front true line lines i x is there =
      let phase = phase_at i lines in
      let next : phase + 1 ≡ suc phase = omega arith in
      let all : played_in (phase + 1) session (line ∷ lines) ≡ played_in phase session lines =
      ap (λ (p : ℕ). played_in p session (line ∷ lines)) next ∙ played_past line lines phase is in
      let front : played_in (phase + 1) session (line ∷ take i lines) ≡ played_in phase session (take i lines) =
      ap (λ (p : ℕ). played_in p session (line ∷ take i lines)) next ∙ played_past line (take i lines) phase is in
      ap (λ (n : ℕ). slice_get (played_in (phase + 1) session (line ∷ lines)) n) (ap length front)
      ∙ ap (λ (xs : List (Command × Answer)). slice_get xs (length (played_in phase session (take i lines)))) all
      ∙ there
  in_front false line lines i x is there =
      let phase = phase_at i lines in
      let first = lead phase (command_of session line) in
      let all : played_in phase session (line ∷ lines) ≡ first ++ played_in phase session lines = played_more line lines phase is in
      let front : length (played_in phase session (line ∷ take i lines)) ≡ length first + length (played_in phase session (take i lines)) =
      ap length (played_more line (take i lines) phase is) ∙ length-append first (played_in phase session (take i lines)) in
      ap (λ (n : ℕ). slice_get (played_in phase session (line ∷ lines)) n) front
      ∙ ap (λ (xs : List (Command × Answer)). slice_get xs (length first + length (played_in phase session (take i lines)))) all
      ∙ get_behind first (played_in phase session lines) (nth session i lines)
      ∙ there

  -- a line of the session is the one of its number in its phase
  pub line_played : (lines : List Line) (i : ℕ) (line : Line) (x : Command × Answer) → slice_get lines i ≡ Some line → is_phase line ≡ false
      → command_of session line ≡ Some x → slice_get (played_in (phase_at i lines) session lines) (nth session i lines) ≡ Some x
  line_played [] i line x there is of = absurd (no_element line there)
  line_played (first ∷ lines) zero line x there is of =
      let same : first ≡ line = (cc) in
      let no_phase : is_phase first ≡ false = ap is_phase same ∙ is in
      let its : command_of session first ≡ Some x = ap (command_of session) same ∙ of in
      ap (λ (xs : List (Command × Answer)). slice_get xs 0) (played_more first lines 0 no_phase ∙ ap (λ (o : Option (Command × Answer)). lead 0 o ++ played_in 0 session lines) its)
  line_played (first ∷ lines) (suc i) line x there is of =
      in_front (is_phase first) first lines i x refl (line_played lines i line x there is of)

  -- a later line of the phase has a greater number
  pub nth_grows : (lines : List Line) (i j : ℕ) (line : Line) (x : Command × Answer) → i < j → slice_get lines i ≡ Some line → is_phase line ≡ false
      → command_of session line ≡ Some x → phase_at i lines ≡ phase_at j lines → nth session i lines < nth session j lines
  nth_grows lines i j line x less there is of same =
      let fewer : i ≤ j = omega arith in
      let first : slice_get (take j lines) i ≡ Some line = get_take j lines i less ∙ there in
      let at = line_played (take j lines) i line x first is of in
      let phase : phase_at i (take j lines) ≡ phase_at j lines = phase_take lines i j fewer ∙ same in
      let number : nth session i (take j lines) ≡ nth session i lines =
      ap (λ (p : ℕ). length (played_in p session (take i (take j lines)))) (phase_take lines i j fewer)
      ∙ ap (λ (front : List Line). length (played_in (phase_at i lines) session front)) (take-take i j lines fewer) in
      let within = slice_get_within (played_in (phase_at i (take j lines)) session (take j lines)) (nth session i (take j lines)) x at in
      let long : length (played_in (phase_at i (take j lines)) session (take j lines)) ≡ nth session j lines =
      ap (λ (p : ℕ). length (played_in p session (take j lines))) phase in
      omega (arith, within, long, number)

-- ---- lines of a session

-- a line of a session has a command, and is no `phase` line
pub record IsCommand (session : ℕ) (reading : Reading) (told : Answer) : Type 0 where
  pub command : Command
  pub reads : reading ≡ Ok command
  pub its : command_of session (reading, told) ≡ Some (command, told)
  pub no_phase : is_phase (reading, told) ≡ false
  pub session_is : session_of reading ≡ Some session

its_own : (its session : ℕ) (x : Command × Answer) → its ≡ session → cond (its == session) (Some x) None ≡ Some x
its_own its session x same = rw (eq-eqb its session same) refl

pub of_session : (session : ℕ) (reading : Reading) (told : Answer) → IsOf session reading → IsCommand session reading told
of_session session (Ok (command.Commit its request)) told of =
    record { command = command.Commit its request; reads = refl; its = its_own its session (command.Commit its request, told) of; no_phase = refl; session_is = ap Some of }
of_session session (Ok (command.Look its query)) told of =
    record { command = command.Look its query; reads = refl; its = its_own its session (command.Look its query, told) of; no_phase = refl; session_is = ap Some of }
of_session session (Ok (command.Trace its query)) told of =
    record { command = command.Trace its query; reads = refl; its = its_own its session (command.Trace its query, told) of; no_phase = refl; session_is = ap Some of }
of_session session (Ok (command.Sync its)) told of =
    record { command = command.Sync its; reads = refl; its = its_own its session (command.Sync its, told) of; no_phase = refl; session_is = ap Some of }
of_session session (Ok command.Phase) told of = absurd of
of_session session (Err fault) told of = absurd of
