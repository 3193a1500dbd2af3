-- Lines that were played phase by phase are placed.
use Rattle.std.proofs.Common.{zero, suc, ◌≡◌, ℕ, ◌+◌, ◌-◌, ◌<◌, ◌≤◌, inl, inr, List, [], ◌∷◌, ◌++◌, length, take, Option, None, Some, Ok, refl, sym, ap, ◌∙◌, subst, arith, append-nil, append_assoc, length-append}
use Rattle.std.specs.List.{slice_get}
use Rattle.std.proofs.Math.Seq.{take-length}
use Rattle.std.proofs.lemmas.Bool.{cases_lt}
use Rattle.std.proofs.lemmas.List.{take-append-le}
use mathlib.Core.List.{IsPrefix}
use Rattle.pol_model.specs.declared.options.Options.{Options}
use Rattle.pol_answer.specs.declared.answer.Answer.{Answer}
use Rattle.pol_script.specs.declared.command.Command.{Command}
use Rattle.pol_script.specs.declared.command.Command.TheVariants as command
use Rattle.pol_run.specs.ByIndex.{AreOfOneSession, ComesBefore}
use Rattle.pol_run.specs.Spots.{Line, Reading, session_of}
use Rattle.pol_history.specs.declared.event.HistoryEvent.{HistoryEvent}
use Rattle.pol_history.proofs.Lists.{no_element}
use Rattle.pol_run_laws.specs.Phases.{ArePlayedInPhases, played_in}
use Rattle.pol_run_laws.specs.Placed.{Allows, IsLineOf, IsPlaced}
use Rattle.pol_run_laws.specs.Session.{PlaysOn}
use Rattle.pol_run_laws.proofs.PhaseLines.{IsCommand, line_played, nth, nth_grows, of_session, phase_at, phase_grows, phase_step}
use Rattle.pol_run_laws.proofs.PlayingOn.{plays_grow}

-- ---- beginnings

prefix_length : {X : Type 0} (front whole : List X) → IsPrefix front whole → length front ≤ length whole
prefix_length front whole begins = omega (arith, ap length begins.1, length-append front begins.0)

-- the first elements of a beginning are those of the whole
prefix_take : {X : Type 0} (front whole : List X) (n : ℕ) → IsPrefix front whole → n ≤ length front → take n whole ≡ take n front
prefix_take front whole n begins within = ap (take n) (sym begins.1) ∙ take-append-le n front begins.0 within

prefix_itself : {X : Type 0} (front whole : List X) → IsPrefix front whole → take (length front) whole ≡ front
prefix_itself front whole begins = prefix_take front whole (length front) begins (omega arith) ∙ take-length front

pub prefix_join : (a b c : List HistoryEvent) → IsPrefix a b → IsPrefix b c → IsPrefix a c
prefix_join a b c one two =
    (one.0 ++ two.0, sym (append_assoc a one.0 two.0) ∙ ap (λ (h : List HistoryEvent). h ++ two.0) one.1 ∙ two.1)

-- ---- cuts of what a session plays

-- how many events the pass had seen before the k-th command, and after the last one
abbrev cut : (options : Options) (pass : ℕ) (old new : List HistoryEvent) (played : List (Command × Answer)) → PlaysOn options pass old new played → ℕ → ℕ
cut options pass old new [] plays k = length old
cut options pass old new (first ∷ later) plays zero = length old
cut options pass old new (first ∷ later) plays (suc k) = cut options pass plays.0 new later plays.3 k

module _ (options : Options) (pass : ℕ) where
  cut_zero : (old new : List HistoryEvent) (played : List (Command × Answer)) (plays : PlaysOn options pass old new played)
      → cut options pass old new played plays 0 ≡ length old
  cut_zero old new [] plays = refl
  cut_zero old new (first ∷ later) plays = refl

  cut_past : (old new : List HistoryEvent) (played : List (Command × Answer)) (plays : PlaysOn options pass old new played) (k : ℕ)
      → length old ≤ cut options pass old new played plays k
  cut_past old new [] plays k = omega arith
  cut_past old new (first ∷ later) plays zero = omega arith
  cut_past old new (first ∷ later) plays (suc k) =
      omega (arith, prefix_length old plays.0 plays.1, cut_past plays.0 new later plays.3 k)

  cut_within : (old new : List HistoryEvent) (played : List (Command × Answer)) (plays : PlaysOn options pass old new played) (k : ℕ)
      → cut options pass old new played plays k ≤ length new
  cut_within old new [] plays k = omega (arith, ap length plays)
  cut_within old new (first ∷ later) plays zero = prefix_length old new (plays_grow options pass old new (first ∷ later) plays)
  cut_within old new (first ∷ later) plays (suc k) = cut_within plays.0 new later plays.3 k

  cut_grows : (old new : List HistoryEvent) (played : List (Command × Answer)) (plays : PlaysOn options pass old new played) (k m : ℕ) → k ≤ m
      → cut options pass old new played plays k ≤ cut options pass old new played plays m
  cut_grows old new [] plays k m fewer = omega arith
  cut_grows old new (first ∷ later) plays zero m fewer = cut_past old new (first ∷ later) plays m
  cut_grows old new (first ∷ later) plays (suc k) zero fewer = absurd (omega arith)
  cut_grows old new (first ∷ later) plays (suc k) (suc m) fewer = cut_grows plays.0 new later plays.3 k m (omega (arith, fewer))

  cut_allows : (old new : List HistoryEvent) (played : List (Command × Answer)) (plays : PlaysOn options pass old new played) (k : ℕ) (x : Command × Answer)
      → slice_get played k ≡ Some x
      → Allows options pass (take (cut options pass old new played plays k) new) (take (cut options pass old new played plays (suc k)) new) (Ok x.0) x.1
  cut_allows old new [] plays k x there = absurd (no_element x there)
  cut_allows old new (first ∷ later) plays zero x there =
      let same : first ≡ x = (cc) in
      let first_cut : take (length old) new ≡ old = prefix_itself old new (plays_grow options pass old new (first ∷ later) plays) in
      let next_cut : take (cut options pass plays.0 new later plays.3 0) new ≡ plays.0 =
      ap (λ (n : ℕ). take n new) (cut_zero plays.0 new later plays.3) ∙ prefix_itself plays.0 new (plays_grow options pass plays.0 new later plays.3) in
      subst (λ (c : Command × Answer). Allows options pass (take (length old) new) (take (cut options pass plays.0 new later plays.3 0) new) (Ok c.0) c.1) same
      (subst (λ (h : List HistoryEvent). Allows options pass h (take (cut options pass plays.0 new later plays.3 0) new) (Ok first.0) first.1) (sym first_cut)
      (subst (λ (h : List HistoryEvent). Allows options pass old h (Ok first.0) first.1) (sym next_cut) plays.2))
  cut_allows old new (first ∷ later) plays (suc k) x there = cut_allows plays.0 new later plays.3 k x there

-- ---- the whole

some_same : {X : Type 0} (x y : X) → Some x ≡ Some y → x ≡ y
some_same x y same = cc

abbrev or_zero : Option ℕ → ℕ
or_zero None = 0
or_zero (Some n) = n

abbrev session_of_line : Option Line → ℕ
session_of_line None = 0
session_of_line (Some line) = or_zero (session_of line.0)

module _ (options : Options) (history : List HistoryEvent) (lines : List Line) (played : ArePlayedInPhases options history lines) where
  -- the k-th cut of the session in the phase of line i
  abbrev cut_at : ℕ → ℕ → ℕ → ℕ
  cut_at session i k =
      cut options (played.pass_of session) (played.starts (phase_at i lines)) (played.ends (phase_at i lines) session)
      (played_in (phase_at i lines) session lines) (played.plays (phase_at i lines) session) k

  abbrev before : ℕ → ℕ
  before i = cut_at (session_of_line (slice_get lines i)) i (nth (session_of_line (slice_get lines i)) i lines)

  abbrev after : ℕ → ℕ
  after i = cut_at (session_of_line (slice_get lines i)) i (suc (nth (session_of_line (slice_get lines i)) i lines))

  later_start : (phase more : ℕ) → IsPrefix (played.starts phase) (played.starts (phase + more))
  later_start phase zero = let same : phase ≡ phase + 0 = omega arith in subst (λ (p : ℕ). IsPrefix (played.starts phase) (played.starts p)) same ([], append-nil (played.starts phase))
  later_start phase (suc more) =
      let here = prefix_join (played.starts (phase + more)) (played.ends (phase + more) 0) (played.starts (phase + more + 1))
      (plays_grow options (played.pass_of 0) (played.starts (phase + more)) (played.ends (phase + more) 0) (played_in (phase + more) 0 lines) (played.plays (phase + more) 0))
      (played.meets (phase + more) 0) in
      let same : phase + more + 1 ≡ phase + suc more = omega arith in
      subst (λ (p : ℕ). IsPrefix (played.starts phase) (played.starts p)) same
      (prefix_join (played.starts phase) (played.starts (phase + more)) (played.starts (phase + more + 1)) (later_start phase more) here)

  -- what has ended is seen at the start of a later phase
  ended : (phase later session : ℕ) → phase < later → length (played.ends phase session) ≤ length (played.starts later)
  ended phase later session less =
      let same : phase + 1 + (later - (phase + 1)) ≡ later = omega (arith, less) in
      let start = subst (λ (p : ℕ). IsPrefix (played.starts (phase + 1)) (played.starts p)) same (later_start (phase + 1) (later - (phase + 1))) in
      omega (
        arith,
        prefix_length (played.ends phase session) (played.starts (phase + 1)) (played.meets phase session),
        prefix_length (played.starts (phase + 1)) (played.starts later) start,
      )

  ends_in : (phase session : ℕ) → IsPrefix (played.ends phase session) history
  ends_in phase session = prefix_join (played.ends phase session) (played.starts (phase + 1)) history (played.meets phase session) (played.seen (phase + 1))

  module _ (session i : ℕ) (reading : Reading) (told : Answer) (line : IsLineOf lines session i reading told) where
    its_command : IsCommand session reading told
    its_command = of_session session reading told line.of

    session_is : session_of_line (slice_get lines i) ≡ session
    session_is = ap session_of_line line.line.there ∙ ap or_zero its_command.session_is

    before_is : before i ≡ cut_at session i (nth session i lines)
    before_is = ap (λ (s : ℕ). cut_at s i (nth s i lines)) session_is

    after_is : after i ≡ cut_at session i (suc (nth session i lines))
    after_is = ap (λ (s : ℕ). cut_at s i (suc (nth s i lines))) session_is

    phase_ends : cut_at session i (suc (nth session i lines)) ≤ length (played.ends (phase_at i lines) session)
    phase_ends =
        cut_within options (played.pass_of session) (played.starts (phase_at i lines)) (played.ends (phase_at i lines) session)
        (played_in (phase_at i lines) session lines) (played.plays (phase_at i lines) session) (suc (nth session i lines))

    phase_starts : length (played.starts (phase_at i lines)) ≤ cut_at session i (nth session i lines)
    phase_starts =
        cut_past options (played.pass_of session) (played.starts (phase_at i lines)) (played.ends (phase_at i lines) session)
        (played_in (phase_at i lines) session lines) (played.plays (phase_at i lines) session) (nth session i lines)

    line_grows : before i ≤ after i
    line_grows =
        omega (
          arith,
          before_is,
          after_is,
          cut_grows options (played.pass_of session) (played.starts (phase_at i lines)) (played.ends (phase_at i lines) session)
              (played_in (phase_at i lines) session lines) (played.plays (phase_at i lines) session) (nth session i lines) (suc (nth session i lines)) (omega arith),
        )

    line_within : after i ≤ length history
    line_within =
        omega (arith, after_is, phase_ends, prefix_length (played.ends (phase_at i lines) session) history (ends_in (phase_at i lines) session))

    line_allowed : Allows options (played.pass_of session) (take (before i) history) (take (after i) history) reading told
    line_allowed =
        let phase = phase_at i lines in
        let pass = played.pass_of session in
        let ends = played.ends phase session in
        let k = nth session i lines in
        let at = line_played session lines i (reading, told) (its_command.command, told) line.line.there its_command.no_phase its_command.its in
        let allows = cut_allows options pass (played.starts phase) ends (played_in phase session lines) (played.plays phase session) k (its_command.command, told) at in
        let within : cut_at session i k ≤ length ends =
        cut_within options pass (played.starts phase) ends (played_in phase session lines) (played.plays phase session) k in
        let first : take (cut_at session i k) ends ≡ take (before i) history =
        sym (ap (λ (n : ℕ). take n history) before_is ∙ prefix_take ends history (cut_at session i k) (ends_in phase session) within) in
        let second : take (cut_at session i (suc k)) ends ≡ take (after i) history =
        sym (ap (λ (n : ℕ). take n history) after_is ∙ prefix_take ends history (cut_at session i (suc k)) (ends_in phase session) phase_ends) in
        subst (λ (r : Reading). Allows options pass (take (before i) history) (take (after i) history) r told) (sym its_command.reads)
        (subst (λ (h : List HistoryEvent). Allows options pass h (take (after i) history) (Ok its_command.command) told) first
        (subst (λ (h : List HistoryEvent). Allows options pass (take (cut_at session i k) ends) h (Ok its_command.command) told) second allows))

  module _ (session i : ℕ) (first : Reading) (told : Answer) (one : IsLineOf lines session i first told)
      (other j : ℕ) (second : Reading) (later : Answer) (two : IsLineOf lines other j second later) where
    -- lines of two phases
    over_phases : phase_at i lines < phase_at j lines → after i ≤ before j
    over_phases less =
        omega (
          arith,
          after_is session i first told one,
          before_is other j second later two,
          phase_ends session i first told one,
          phase_starts other j second later two,
          ended (phase_at i lines) (phase_at j lines) session less,
        )

    in_one_phase : session ≡ other → i < j → phase_at i lines ≡ phase_at j lines → after i ≤ before j
    in_one_phase same less phase =
        let command = its_command session i first told one in
        let number = nth_grows session lines i j (first, told) (command.command, told) less one.line.there command.no_phase command.its phase in
        let at_j : cut_at session i (nth session j lines) ≡ cut_at other j (nth other j lines) =
        ap (λ (p : ℕ). cut options (played.pass_of session) (played.starts p) (played.ends p session) (played_in p session lines) (played.plays p session) (nth session j lines)) phase
        ∙ ap (λ (s : ℕ). cut_at s j (nth s j lines)) same in
        omega (
          arith,
          after_is session i first told one,
          before_is other j second later two,
          at_j,
          cut_grows options (played.pass_of session) (played.starts (phase_at i lines)) (played.ends (phase_at i lines) session)
              (played_in (phase_at i lines) session lines) (played.plays (phase_at i lines) session) (suc (nth session i lines)) (nth session j lines) number,
        )

    same_session : AreOfOneSession first second → session ≡ other
    same_session of =
        let a = of_session of.session first told of.first_is in
        let b = of_session of.session second later of.second_is in
        some_same session of.session (sym (its_command session i first told one).session_is ∙ a.session_is)
        ∙ some_same of.session other (sym b.session_is ∙ (its_command other j second later two).session_is)

    ordered : ComesBefore lines i first j second → after i ≤ before j
    ordered (inl earlier) =
        elim (cases_lt (phase_at i lines) (phase_at j lines)) [
          | inl less ↦ over_phases less
          | inr no_less ↦
              in_one_phase (same_session earlier.1) earlier.0
              (let grows = phase_grows lines i j (omega (arith, earlier.0)) in omega arith)
        ]
    ordered (inr between) =
        over_phases
        (omega (
          arith,
          phase_step lines between.last (Ok command.Phase, between.told) between.ends.there refl,
          phase_grows lines i between.last between.from,
          phase_grows lines (suc between.last) j between.before,
        ))

  pub are_placed : IsPlaced options history lines
  are_placed = record {
    pass_of = played.pass_of;
    before = λ i. before i;
    after = λ i. after i;
    grows = line_grows;
    within = line_within;
    in_order = λ session i first told other j second later one two comes. ordered session i first told one other j second later two comes;
    allowed = line_allowed;
    faulty = played.faulty;
    phases = played.phases;
    apart = played.apart;
    own = played.own;
    no_others = played.no_others;
  }
