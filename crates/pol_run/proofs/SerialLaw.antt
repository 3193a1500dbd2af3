-- Lines that are answered in input order are a run of the policy machine.
use Rattle.std.proofs.Common.{◌≡◌, ℕ, zero, suc, ◌+◌, ◌≤◌, ◌<◌, inl, inr, IsTrue, List, [], ◌∷◌, ◌++◌, length, Contains, get_or, refl, ap, sym, ◌∙◌, subst, arith, append_assoc}
use Rattle.std.specs.List.{AllByRecursion}
use Rattle.pol_model.specs.State.{State}
use Rattle.pol_model.specs.After.{start}
use Rattle.pol_model.specs.declared.options.Options.{Options}
use Rattle.pol_answer.specs.declared.answer.Answer.{Answer}
use Rattle.pol_run.specs.Spots.{Reading, Spot, phase_after, spots_from, spots_of, stands_before}
use Rattle.pol_run.specs.History.{Commit, commits_of, state_at}
use Rattle.pol_run.specs.Moments.{IsMoment}
use Rattle.pol_run.specs.RightAnswer.{RightAnswer}
use Rattle.pol_run.specs.Run.{IsNumbered, IsRun}
use Rattle.pol_run.specs.Serial.{state_then}
use Rattle.pol_run.specs.SerialLines.{Seen, nothing_seen, seen_after, IsSerialFrom, IsSerial}
use Rattle.pol_run.proofs.Lists.{every_weaker, every_append, every_contained}
use Rattle.pol_run.proofs.Numbering.{IsCountedFrom, requests_in, counted_within, counted_differ}
use Rattle.pol_run.proofs.States.{IsAddedBy, added_by_now}
use Rattle.pol_run.proofs.Indices.{spot_at, IsFrom, IsAfter, IsInOrder, serial_counted, serial_behind, serial_in_order, from_index}
use Rattle.pol_run.proofs.Moments.{IsEarlier, IsBetween, before_cases, not_before, moment_between}
use Rattle.pol_run.proofs.Walk.{IsPast, IsWalked, walked_count, walked_state, walk_on}
use Rattle.pol_run.proofs.RightLines.{IsHere, right_answer}

-- ---- the numbers ascend

before_itself : (a b : Commit) → a ≡ b → IsTrue (stands_before a.spot b.spot) → ⊥
before_itself a b same before =
    elim (before_cases a.spot b.spot before) [
      | inl h ↦ omega (arith, h, ap (λ (c : Commit). c.spot.index) same)
      | inr h ↦ omega (arith, h, ap (λ (c : Commit). c.spot.phase) same)
    ]

after_not_before : (a b : Commit) → IsAfter b a → IsTrue (stands_before a.spot b.spot) → ⊥
after_not_before a b later before = not_before a.spot b.spot (record { index = omega (arith, later.index); phase = later.phase }) before

ascending_at : (cs : List Commit) (i j : ℕ) (a b : Commit) → IsInOrder cs → i < length cs → j < length cs → get_or cs i a ≡ a → get_or cs j b ≡ b
    → IsTrue (stands_before a.spot b.spot) → a.number < b.number
ascending_at [] i j a b ordered left right is_a is_b before = absurd (omega arith)
ascending_at (c ∷ cs) zero zero a b ordered left right is_a is_b before = absurd (before_itself a b (sym is_a ∙ is_b) before)
ascending_at (c ∷ cs) zero (suc j) a b ordered left right is_a is_b before =
    let later : IsAfter c b = every_contained (IsAfter c) cs b ordered.0 (j, (omega arith), is_b) in
    omega (arith, later.number, ap (λ (x : Commit). x.number) is_a)
ascending_at (c ∷ cs) (suc i) zero a b ordered left right is_a is_b before =
    let later : IsAfter c a = every_contained (IsAfter c) cs a ordered.0 (i, (omega arith), is_a) in
    absurd (after_not_before a b (subst (λ (x : Commit). IsAfter x a) is_b later) before)
ascending_at (c ∷ cs) (suc i) (suc j) a b ordered left right is_a is_b before =
    ascending_at cs i j a b ordered.1 (omega arith) (omega arith) is_a is_b before

numbered_from_order : (cs : List Commit) → IsCountedFrom 0 cs → IsInOrder cs → IsNumbered cs
numbered_from_order cs counted ordered = record {
  from_one = every_weaker (λ c. (0 + 1 ≤ c.number) × (c.number ≤ 0 + length cs)) (λ c. (1 ≤ c.number) × (c.number ≤ length cs))
      (λ c within. omega (arith, within.0, within.1)) cs (counted_within 0 cs counted);
  each_once = counted_differ 0 cs counted;
  ascending = λ a b found_a found_b before.
      ascending_at cs found_a.0 found_b.0 a b ordered found_a.1 found_b.1 found_a.2 found_b.2 before;
}

-- ---- a line between those before it and those behind it

module _ (options : Options) (spots : List Spot) (s : State) (phase : ℕ) (seen : Seen) (index : ℕ) (front : List Spot)
    (line : Reading × Answer) (lines : List (Reading × Answer)) (walked : IsWalked options spots s index phase seen front) where
  between_here : IsSerialFrom options s phase seen (line ∷ lines)
      → IsBetween s.revision (spot_at index phase line.0 line.1) front (spots_from index phase (line ∷ lines))
  between_here serial = record {
    counted = walked_count options spots s index phase seen front walked;
    earlier = every_weaker (IsPast options spots s index phase seen) (IsEarlier s.revision (spot_at index phase line.0 line.1))
        (λ other past. record { index = past.index; phase = past.phase; printed = past.printed }) front walked.past;
    from = from_index index phase (line ∷ lines);
    behind = serial_behind options s index phase seen (line ∷ lines) serial;
  }

  past_if_before : spots ≡ front ++ spots_from index phase (line ∷ lines) → (other : Spot) → Contains spots other
      → IsTrue (stands_before other (spot_at index phase line.0 line.1)) → IsPast options spots s index phase seen other
  past_if_before split other listed =
      let spot = spot_at index phase line.0 line.1 in
      let back = spots_from index phase (line ∷ lines) in
      let past = λ (x : Spot). IsTrue (stands_before x spot) → IsPast options spots s index phase seen x in
      every_contained past spots other
      (subst (λ (xs : List Spot). AllByRecursion past xs) (sym split)
      (every_append past front back
      (every_weaker (IsPast options spots s index phase seen) past (λ x h before. h) front walked.past)
      (every_weaker (IsFrom index phase) past (λ x h before. absurd (not_before x spot h before)) back
      (from_index index phase (line ∷ lines)))))
      listed

  here_walked : spots ≡ front ++ spots_from index phase (line ∷ lines) → state_at options spots s.revision ≡ s
      → state_at options spots (state_then s line.0).revision ≡ state_then s line.0
      → IsSerialFrom options s phase seen (line ∷ lines) → IsHere options spots s seen (spot_at index phase line.0 line.1)
  here_walked split now then serial =
      let spot = spot_at index phase line.0 line.1 in
      record {
        moment = subst (λ (xs : List Spot). IsMoment xs spot s.revision) (sym split)
            (moment_between s.revision spot front (spots_from index phase (line ∷ lines)) (between_here serial));
        now = now;
        then = then;
        young = subst (λ (t : State). AllByRecursion (IsAddedBy t.revision) t.endpoints) (sym walked.reached)
            (added_by_now options (requests_in (commits_of front)));
        synced = walked.synced;
        past = past_if_before split;
      }

-- each line from here on is answered right
right_from : (options : Options) (spots : List Spot) (s : State) (phase : ℕ) (seen : Seen) (index : ℕ) (front : List Spot)
    (lines : List (Reading × Answer)) → spots ≡ front ++ spots_from index phase lines → IsCountedFrom 0 (commits_of spots)
    → IsWalked options spots s index phase seen front → IsSerialFrom options s phase seen lines
    → AllByRecursion (λ spot. RightAnswer options spots spot spot.reading spot.answer) (spots_from index phase lines)
right_from options spots s phase seen index front [] split counted walked serial = tt
right_from options spots s phase seen index front (line ∷ lines) split counted walked serial =
    let spot = spot_at index phase line.0 line.1 in
    let later = phase_after phase line.0 in
    let next = state_then s line.0 in
    let more = seen_after s seen line.0 line.1 in
    let others = spots_from (index + 1) later lines in
    let now = walked_state options spots s index phase seen front (spot ∷ others) split counted walked in
    let walked_on = walk_on options spots s seen spot serial.0 front now walked in
    let split_on : spots ≡ (front ++ spot ∷ []) ++ others = split ∙ sym (append_assoc front (spot ∷ []) others) in
    let then = walked_state options spots next (index + 1) later more (front ++ spot ∷ []) others split_on counted walked_on in (
      right_answer options spots s seen spot
          (here_walked options spots s phase seen index front line lines walked split now then serial) serial.0,
      right_from options spots next later more (index + 1) (front ++ spot ∷ []) lines split_on counted walked_on serial.1,
    )

none_walked : (options : Options) (spots : List Spot) → IsWalked options spots (start options) 0 1 nothing_seen []
none_walked options spots = record { reached = refl; synced = omega arith; past = tt }

-- Lines that are answered in input order are a run.
pub serial_run : (options : Options) (lines : List (Reading × Answer)) → IsSerial options lines → IsRun options (spots_of lines)
serial_run options lines serial =
    let first = start options in
    let spots = spots_of lines in
    let counted = serial_counted options first 0 1 nothing_seen lines serial in
    record {
      numbered = numbered_from_order (commits_of spots) counted (serial_in_order options first 0 1 nothing_seen lines serial);
      right = right_from options spots first 1 nothing_seen 0 [] lines refl counted (none_walked options spots) serial;
    }
