-- Lines by their indices, and the same lines with their phases: each stands for the other.
use Rattle.std.proofs.Common.{◌≡◌, ℕ, zero, suc, ◌+◌, ◌<◌, ◌≤◌, ◌⊎◌, inl, inr, true, cond, nat_lt, IsTrue, List, [], ◌∷◌, take, slice_get, Contains, Option, None, Some, Ok, Err, refl, ap, sym, ◌∙◌, subst, arith}
use Rattle.std.specs.Prelude.{count_by}
use Rattle.std.specs.List.{AllByRecursion}
use Rattle.std.proofs.lemmas.Bool.{lt-ltb, ltb-true, eq-eqb, eqb-true, and_from, and_parts, or_left, or_right, or_cases, false≢true}
use Rattle.std.proofs.lemmas.List.Sums.{sum_by-cons}
use Rattle.pol_data.proofs.Members.{Contains-later}
use Rattle.pol_answer.specs.declared.answer.Answer.{Answer}
use Rattle.pol_script.specs.declared.command.Command.TheVariants as command
use Rattle.pol_run.specs.Spots.{Line, Reading, Spot, phase_after, spots_from, spots_of, session_of, shares, earlier_in_session, stands_before}
use Rattle.pol_run.specs.ByIndex.{IsLine, is_phase, IsOf, AreOfOneSession, IsPhaseBetween, ComesBefore}
use Rattle.pol_run.proofs.Indices.{spot_at, phase_later}

-- ---- the phase of a line

-- the phase of line i, where the first line is of this one
abbrev pub phase_at : ℕ → List Line → ℕ → ℕ
phase_at phase lines zero = phase
phase_at phase [] (suc i) = phase
phase_at phase (line ∷ lines) (suc i) = phase_at (phase_after phase line.0) lines i

pub phase_grows : (phase : ℕ) (lines : List Line) (i : ℕ) → phase ≤ phase_at phase lines i
phase_grows phase lines zero = omega arith
phase_grows phase [] (suc i) = omega arith
phase_grows phase (line ∷ lines) (suc i) =
    omega (arith, phase_later phase line.0, phase_grows (phase_after phase line.0) lines i)

phase_monotone : (phase : ℕ) (lines : List Line) (i j : ℕ) → i ≤ j → phase_at phase lines i ≤ phase_at phase lines j
phase_monotone phase lines zero j less = phase_grows phase lines j
phase_monotone phase [] (suc i) zero less = omega arith
phase_monotone phase [] (suc i) (suc j) less = omega arith
phase_monotone phase (line ∷ lines) (suc i) zero less = absurd (omega arith)
phase_monotone phase (line ∷ lines) (suc i) (suc j) less = phase_monotone (phase_after phase line.0) lines i j (omega arith)

pub some_line : (a b : Line) → Some a ≡ Some b → a ≡ b
some_line a b same = cc

pub no_line : (a : Line) → None ≡ Some a → ⊥
no_line a same = cc

-- a `phase` line ends its phase
phase_step : (phase : ℕ) (lines : List Line) (i : ℕ) (told : Answer) → slice_get lines i ≡ Some (Ok command.Phase, told)
    → phase_at phase lines (suc i) ≡ phase_at phase lines i + 1
phase_step phase [] i told there = absurd (no_line (Ok command.Phase, told) there)
phase_step phase (line ∷ lines) zero told there =
    ap (λ (l : Line). phase_after phase l.0) (some_line line (Ok command.Phase, told) there)
phase_step phase (line ∷ lines) (suc i) told there = phase_step (phase_after phase line.0) lines i told there

pub phase_or_not : (phase : ℕ) (reading : Reading) → (reading ≡ Ok command.Phase) ⊎ (phase_after phase reading ≡ phase)
phase_or_not phase (Err fault) = inr refl
phase_or_not phase (Ok (command.Commit session request)) = inr refl
phase_or_not phase (Ok (command.Look session query)) = inr refl
phase_or_not phase (Ok (command.Trace session query)) = inr refl
phase_or_not phase (Ok (command.Sync session)) = inr refl
phase_or_not phase (Ok command.Phase) = inl refl

between_later : (line : Line) (lines : List Line) (i j : ℕ) → IsPhaseBetween lines i j → IsPhaseBetween (line ∷ lines) (suc i) (suc j)
between_later line lines i j between = record {
  last = suc between.last;
  from = omega (arith, between.from);
  before = omega (arith, between.before);
  told = between.told;
  ends = record { there = between.ends.there };
}

between_zero : (lines : List Line) (i j : ℕ) → IsPhaseBetween lines i j → IsPhaseBetween lines 0 j
between_zero lines i j between = record {
  last = between.last;
  from = omega arith;
  before = between.before;
  told = between.told;
  ends = between.ends;
}

-- of two lines of different phases, the first one's ends before the second
between_phases : (phase : ℕ) (lines : List Line) (i j : ℕ) → phase_at phase lines i < phase_at phase lines j → IsPhaseBetween lines i j
between_phases phase lines zero zero later = absurd (omega (arith, later))
between_phases phase [] zero (suc j) later = absurd (omega (arith, later))
between_phases phase [] (suc i) zero later = absurd (omega (arith, later))
between_phases phase [] (suc i) (suc j) later = absurd (omega (arith, later))
between_phases phase (line ∷ lines) zero (suc j) later =
    elim (phase_or_not phase line.0) [
      | inl is ↦ record {
        last = 0;
        from = omega arith;
        before = omega arith;
        told = line.1;
        ends = record { there = ap (λ (r : Reading). Some (r, line.1)) is };
      }
      | inr same ↦
          between_zero (line ∷ lines) 1 (suc j)
          (between_later line lines 0 j
          (between_phases (phase_after phase line.0) lines 0 j
          (subst (λ (p : ℕ). p < phase_at (phase_after phase line.0) lines j) (sym same) later)))
    ]
between_phases phase (line ∷ lines) (suc i) zero later =
    absurd (omega (arith, later, phase_later phase line.0, phase_grows (phase_after phase line.0) lines i))
between_phases phase (line ∷ lines) (suc i) (suc j) later =
    between_later line lines i j (between_phases (phase_after phase line.0) lines i j later)

pub phases_between : (lines : List Line) (i j : ℕ) → IsPhaseBetween lines i j → phase_at 1 lines i < phase_at 1 lines j
phases_between lines i j between =
    omega (
      arith,
      phase_monotone 1 lines i between.last between.from,
      phase_step 1 lines between.last between.told between.ends.there,
      phase_monotone 1 lines (suc between.last) j (omega (arith, between.before)),
    )

phase_more : (phase : ℕ) (line : Line) → phase_after phase line.0 ≡ phase + cond (is_phase line) 1 0
phase_more phase (Err fault, told) = omega arith
phase_more phase (Ok (command.Commit session request), told) = omega arith
phase_more phase (Ok (command.Look session query), told) = omega arith
phase_more phase (Ok (command.Trace session query), told) = omega arith
phase_more phase (Ok (command.Sync session), told) = omega arith
phase_more phase (Ok command.Phase, told) = omega arith

-- phases are counted from that of the first line
pub phase_counted : (phase : ℕ) (lines : List Line) (i : ℕ) → phase_at phase lines i ≡ phase + count_by is_phase (take i lines)
phase_counted phase lines zero = omega arith
phase_counted phase [] (suc i) = omega arith
phase_counted phase (line ∷ lines) (suc i) =
    omega (
      arith,
      phase_counted (phase_after phase line.0) lines i,
      phase_more phase line,
      sum_by-cons (λ (l : Line). cond (is_phase l) 1 0) line (take i lines),
    )

-- ---- sessions

session_is : (session : ℕ) (reading : Reading) → IsOf session reading → session_of reading ≡ Some session
session_is session (Err fault) its = absurd its
session_is session (Ok (command.Commit mine request)) its = ap (λ (s : ℕ). Some s) its
session_is session (Ok (command.Look mine query)) its = ap (λ (s : ℕ). Some s) its
session_is session (Ok (command.Trace mine query)) its = ap (λ (s : ℕ). Some s) its
session_is session (Ok (command.Sync mine)) its = ap (λ (s : ℕ). Some s) its
session_is session (Ok command.Phase) its = absurd its

some_number : (m n : ℕ) → Some m ≡ Some n → m ≡ n
some_number m n same = cc

no_number : (n : ℕ) → None ≡ Some n → ⊥
no_number n same = cc

is_session : (session : ℕ) (reading : Reading) → session_of reading ≡ Some session → IsOf session reading
is_session session (Err fault) is = no_number session is
is_session session (Ok (command.Commit mine request)) is = some_number mine session is
is_session session (Ok (command.Look mine query)) is = some_number mine session is
is_session session (Ok (command.Trace mine query)) is = some_number mine session is
is_session session (Ok (command.Sync mine)) is = some_number mine session is
is_session session (Ok command.Phase) is = no_number session is

shares_one : (a b : Option ℕ) (session : ℕ) → a ≡ Some session → b ≡ Some session → shares a b ≡ true
shares_one a b session first second =
    subst (λ (x : Option ℕ). shares x b ≡ true) (sym first)
    (subst (λ (x : Option ℕ). shares (Some session) x ≡ true) (sym second) (eq-eqb session session refl))

one_shared : (a b : Option ℕ) → shares a b ≡ true → (session : ℕ) × (a ≡ Some session) × (b ≡ Some session)
one_shared None b both = absurd (false≢true both)
one_shared (Some session) None both = absurd (false≢true both)
one_shared (Some session) (Some other) both = (session, refl, ap (λ (s : ℕ). Some s) (sym (eqb-true session other both)))

pub session_shares : (first second : Reading) → AreOfOneSession first second → shares (session_of first) (session_of second) ≡ true
session_shares first second one =
    shares_one (session_of first) (session_of second) one.session
    (session_is one.session first one.first_is) (session_is one.session second one.second_is)

pub shared_session : (first second : Reading) → shares (session_of first) (session_of second) ≡ true → AreOfOneSession first second
shared_session first second both =
    let one = one_shared (session_of first) (session_of second) both in
    record { session = one.0; first_is = is_session one.0 first one.1; second_is = is_session one.0 second one.2 }

-- ---- lines and spots

-- line i, where it stands
abbrev pub spot_of : List Line → ℕ → Reading → Answer → Spot
spot_of lines i reading answer = spot_at i (phase_at 1 lines i) reading answer

listed_from : (index phase : ℕ) (lines : List Line) (i : ℕ) (line : Line) → slice_get lines i ≡ Some line
    → Contains (spots_from index phase lines)
    (spot_at (index + i) (phase_at phase lines i) line.0 line.1)
listed_from index phase [] i line there = absurd (no_line line there)
listed_from index phase (first ∷ lines) zero line there =
    let at : index ≡ index + 0 = omega arith in (
      0,
      (omega arith),
      ap (λ (l : Line). spot_at index phase l.0 l.1) (some_line first line there) ∙ ap (λ (n : ℕ). spot_at n phase line.0 line.1) at,
    )
listed_from index phase (first ∷ lines) (suc i) line there =
    let later = phase_after phase first.0 in
    let at : index + 1 + i ≡ index + suc i = omega arith in
    subst (λ (n : ℕ). Contains (spots_from index phase (first ∷ lines)) (spot_at n (phase_at later lines i) line.0 line.1)) at
    (Contains-later (spot_at index phase first.0 first.1) (spots_from (index + 1) later lines)
    (spot_at (index + 1 + i) (phase_at later lines i) line.0 line.1)
    (listed_from (index + 1) later lines i line there))

-- line i is one of the spots
pub spot_listed : (lines : List Line) (i : ℕ) (reading : Reading) (answer : Answer) → IsLine lines i reading answer
    → Contains (spots_of lines) (spot_of lines i reading answer)
spot_listed lines i reading answer line =
    let at : 0 + i ≡ i = omega arith in
    subst (λ (n : ℕ). Contains (spots_of lines) (spot_at n (phase_at 1 lines i) reading answer)) at
    (listed_from 0 1 lines i (reading, answer) line.there)

-- a spot is the line of its index
pub record IsSpotOf (lines : List Line) (spot : Spot) : Type 0 where
  pub line : IsLine lines spot.index spot.reading spot.answer
  pub phase : spot.phase ≡ phase_at 1 lines spot.index

spots_are_lines : (all : List Line) (index phase : ℕ) (lines : List Line) → ((i : ℕ) → slice_get lines i ≡ slice_get all (index + i))
    → ((i : ℕ) → phase_at phase lines i ≡ phase_at 1 all (index + i)) → AllByRecursion (IsSpotOf all) (spots_from index phase lines)
spots_are_lines all index phase [] same turn = tt
spots_are_lines all index phase (line ∷ lines) same turn =
    let here : index + 0 ≡ index = omega arith in
    let moved = λ (i : ℕ). let next : index + suc i ≡ index + 1 + i = omega arith in next in (
      record {
        line = record { there = ap (λ (n : ℕ). slice_get all n) (sym here) ∙ sym (same 0) };
        phase = turn 0 ∙ ap (λ (n : ℕ). phase_at 1 all n) here;
      },
      spots_are_lines all (index + 1) (phase_after phase line.0) lines
          (λ i. same (suc i) ∙ ap (λ (n : ℕ). slice_get all n) (moved i))
          (λ i. turn (suc i) ∙ ap (λ (n : ℕ). phase_at 1 all n) (moved i)),
    )

pub every_spot_of : (lines : List Line) → AllByRecursion (IsSpotOf lines) (spots_of lines)
every_spot_of lines =
    let at = λ (i : ℕ). let is : i ≡ 0 + i = omega arith in is in
    spots_are_lines lines 0 1 lines (λ i. ap (λ (n : ℕ). slice_get lines n) (at i)) (λ i. ap (λ (n : ℕ). phase_at 1 lines n) (at i))

-- ---- what comes before

pub stands_before_known : (lines : List Line) (i j : ℕ) (first second : Reading) (told answer : Answer) → ComesBefore lines i first j second
    → IsTrue (stands_before (spot_of lines i first told) (spot_of lines j second answer))
stands_before_known lines i j first second told answer before =
    elim before [
      | inl one ↦
          or_left (earlier_in_session (spot_of lines i first told) (spot_of lines j second answer)) (nat_lt (phase_at 1 lines i) (phase_at 1 lines j))
          (and_from (nat_lt i j) (shares (session_of first) (session_of second)) (lt-ltb i j one.0) (session_shares first second one.1))
      | inr between ↦
          or_right (earlier_in_session (spot_of lines i first told) (spot_of lines j second answer)) (nat_lt (phase_at 1 lines i) (phase_at 1 lines j))
          (lt-ltb (phase_at 1 lines i) (phase_at 1 lines j) (phases_between lines i j between))
    ]

pub known_before : (lines : List Line) (a b : Spot) → IsSpotOf lines a → IsSpotOf lines b → IsTrue (stands_before a b)
    → ComesBefore lines a.index a.reading b.index b.reading
known_before lines a b is_a is_b before =
    elim (or_cases (earlier_in_session a b) (nat_lt a.phase b.phase) before) [
      | inl earlier ↦
          let both = and_parts (nat_lt a.index b.index) (shares (session_of a.reading) (session_of b.reading)) earlier in
          inl (ltb-true a.index b.index both.0, shared_session a.reading b.reading both.1)
      | inr later ↦
          let less : a.phase < b.phase = ltb-true a.phase b.phase later in
          inr (between_phases 1 lines a.index b.index (omega (arith, less, is_a.phase, is_b.phase)))
    ]
