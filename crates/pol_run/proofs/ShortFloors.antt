-- A revision that is no older than what a line's session has seen is at least the line's floor.
use Rattle.std.proofs.Common.{◌≡◌, ℕ, zero, suc, ◌+◌, ◌<◌, ◌≤◌, ◌⊎◌, inl, inr, cond, nat_lt, IsTrue, List, [], ◌∷◌, length, filter, take, slice_get, Contains, Some, Ok, refl, ap, sym, ◌∙◌, subst, arith}
use Rattle.std.specs.Prelude.{count_by}
use Rattle.std.specs.List.{AllByRecursion, cons_option}
use Rattle.std.proofs.lemmas.Bool.{and_parts, ltb-true}
use Rattle.std.proofs.lemmas.List.Elements.{recursion_from_All, All-weaker, All-contains_itself}
use Rattle.std.proofs.lemmas.List.Sums.{sum_by-cons}
use Rattle.pol_model.specs.declared.answer.FullSlot.{FullSlot}
use Rattle.pol_answer.specs.declared.answer.Answer.{Answer}
use Rattle.pol_answer.specs.declared.answer.Answer.TheVariants as answer
use Rattle.pol_script.specs.declared.command.Command.TheVariants as command
use Rattle.pol_run.specs.Spots.{Line, Reading, Spot, phase_after, spots_from, spots_of, session_of, shares, earlier_in_session}
use Rattle.pol_run.specs.History.{Commit, commit_at, commits_of}
use Rattle.pol_run.specs.Moments.{floor, revisions_in, commits_before, revisions_before}
use Rattle.pol_run.specs.ByIndex.{is_ok, Prints, IsSinceSeen}
use Rattle.pol_run.proofs.Lists.{every_weaker, every_filtered, every_flat, every_mapped, filter_none, length_chosen, greatest_bound}
use Rattle.pol_run.proofs.Indices.{spot_at, IsFrom, from_index}
use Rattle.pol_run.proofs.Moments.{every_commit}
use Rattle.pol_run.proofs.ByIndex.{phase_at, phase_or_not, some_line, no_line, spot_of, IsSpotOf, every_spot_of, shared_session}

-- ---- commits of earlier phases

-- those of a phase before the limit
abbrev early : ℕ → Commit → Type 0
early limit c = IsTrue (nat_lt c.spot.phase limit)

none_early : (limit index phase : ℕ) (lines : List Line) → limit ≤ phase
    → length (filter (λ (c : Commit). nat_lt c.spot.phase limit) (commits_of (spots_from index phase lines))) ≤ 0
none_early limit index phase lines late =
    filter_none (λ (c : Commit). nat_lt c.spot.phase limit) (commits_of (spots_from index phase lines))
    (every_weaker (λ (c : Commit). IsFrom index phase c.spot) (λ (c : Commit). early limit c → ⊥)
    (λ c from before. let less : c.spot.phase < limit = ltb-true c.spot.phase limit before in omega (arith, from.phase))
    (commits_of (spots_from index phase lines)) (every_commit (IsFrom index phase) (spots_from index phase lines) (from_index index phase lines)))

one_early : (limit index phase : ℕ) (line : Line) (cs : List Commit) (n : ℕ)
    → length (filter (λ (c : Commit). nat_lt c.spot.phase limit) cs) ≤ n
    → length (filter (λ (c : Commit). nat_lt c.spot.phase limit) (cons_option (commit_at (spot_at index phase line.0 line.1)) cs))
    ≤ cond (is_ok line) 1 0 + n
one_early limit index phase (Ok (command.Commit session request), answer.Committed k identity) cs n fewer =
    omega (
      arith,
      length_chosen (nat_lt phase limit)
          (record { number = k; request = request; spot = spot_at index phase (Ok (command.Commit session request)) (answer.Committed k identity) })
          (filter (λ (c : Commit). nat_lt c.spot.phase limit) cs) n fewer,
    )
one_early limit index phase (reading, told) cs n fewer = omega (arith, fewer)

-- a `phase` line commits nothing
phase_commits : (index phase : ℕ) (line : Line) (told : Answer) (cs : List Commit) → line ≡ (Ok command.Phase, told)
    → cons_option (commit_at (spot_at index phase line.0 line.1)) cs ≡ cs
phase_commits index phase line told cs is = ap (λ (l : Line). cons_option (commit_at (spot_at index phase l.0 l.1)) cs) is

early_before : (limit index phase : ℕ) (lines : List Line) (last : ℕ) (told : Answer) → slice_get lines last ≡ Some (Ok command.Phase, told)
    → limit ≤ phase_at phase lines (suc last)
    → length (filter (λ (c : Commit). nat_lt c.spot.phase limit) (commits_of (spots_from index phase lines))) ≤ count_by is_ok (take last lines)
early_before limit index phase [] last told there late = absurd (no_line (Ok command.Phase, told) there)
early_before limit index phase (line ∷ lines) zero told there late =
    let rest = commits_of (spots_from (index + 1) (phase_after phase line.0) lines) in
    subst (λ (cs : List Commit). length (filter (λ (c : Commit). nat_lt c.spot.phase limit) cs) ≤ 0)
    (sym (phase_commits index phase line told rest (some_line line (Ok command.Phase, told) there)))
    (none_early limit (index + 1) (phase_after phase line.0) lines late)
early_before limit index phase (line ∷ lines) (suc last) told there late =
    let later = phase_after phase line.0 in
    omega (
      arith,
      sum_by-cons (λ (l : Line). cond (is_ok l) 1 0) line (take last lines),
      one_early limit index phase line (commits_of (spots_from (index + 1) later lines)) (count_by is_ok (take last lines))
          (early_before limit (index + 1) later lines last told there late),
    )

-- the last `phase` line before line i, if there is one
pub record IsLastPhase (phase : ℕ) (lines : List Line) (i : ℕ) : Type 0 where
  pub last : ℕ
  pub before : last < i
  pub told : Answer
  pub there : slice_get lines last ≡ Some (Ok command.Phase, told)
  pub same : phase_at phase lines (suc last) ≡ phase_at phase lines i

last_phase : (phase : ℕ) (lines : List Line) (i : ℕ) → (phase_at phase lines i ≡ phase) ⊎ IsLastPhase phase lines i
last_phase phase lines zero = inl refl
last_phase phase [] (suc i) = inl refl
last_phase phase (line ∷ lines) (suc i) =
    elim (last_phase (phase_after phase line.0) lines i) [
      | inl first ↦ elim (phase_or_not phase line.0) [
        | inl is ↦ inr (record {
          last = 0;
          before = omega arith;
          told = line.1;
          there = ap (λ (r : Reading). Some (r, line.1)) is;
          same = sym first;
        })
        | inr stays ↦ inl (first ∙ stays)
      ]
      | inr found ↦ inr (record {
        last = suc found.last;
        before = omega (arith, found.before);
        told = found.told;
        there = found.there;
        same = found.same;
      })
    ]

-- ---- revisions that were printed

pub every_listed : {X : Type 0} (P : X → Type 0) (xs : List X) → ((x : X) → Contains xs x → P x) → AllByRecursion P xs
every_listed P xs each = recursion_from_All P xs (All-weaker (Contains xs) P each xs (All-contains_itself xs))

printed_all : (told : Answer) (limit : ℕ) → ((k : ℕ) → Prints told k → k ≤ limit) → AllByRecursion (λ (k : ℕ). k ≤ limit) (revisions_in told)
printed_all (answer.Committed k identity) limit each = (each k refl, tt)
printed_all (answer.Refused refused) limit each = (each refused.revision refl, tt)
printed_all (answer.Verdict k word) limit each = (each k refl, tt)
printed_all (answer.NotYet k) limit each = (each k refl, tt)
printed_all (answer.NoEndpoint k) limit each = (each k refl, tt)
printed_all (answer.Traced k trace) limit each = (each k refl, tt)
printed_all (answer.Synced k full) limit each = (
  each k (inl refl),
  every_mapped (λ (n : ℕ). n ≤ limit) (λ (row : FullSlot). row.revision) full
      (every_listed (λ (row : FullSlot). row.revision ≤ limit) full (λ row listed. each row.revision (inr (row, listed, refl)))),
)
printed_all (answer.Phase number) limit each = tt
printed_all (answer.BadLine fault) limit each = tt

-- ---- the floor

module _ (lines : List Line) (j : ℕ) (reading : Reading) (told : Answer) (k : ℕ) (since : IsSinceSeen lines j reading k) where
  phases_below : commits_before (spots_of lines) (spot_of lines j reading told) ≤ k
  phases_below =
      elim (last_phase 1 lines j) [
        | inl first ↦
            omega (arith, none_early (phase_at 1 lines j) 0 1 lines (omega (arith, first)))
        | inr found ↦
            omega (
              arith,
              early_before (phase_at 1 lines j) 0 1 lines found.last found.told found.there (omega (arith, found.same)),
              since.phases found.last found.told (record { there = found.there }) found.before,
            )
      ]

  printed_below : AllByRecursion (λ (n : ℕ). n ≤ k) (revisions_before (spots_of lines) (spot_of lines j reading told))
  printed_below =
      let spots = spots_of lines in
      let spot = spot_of lines j reading told in
      let small = λ (other : Spot). AllByRecursion (λ (n : ℕ). n ≤ k) (revisions_in other.answer) in
      every_flat (λ (n : ℕ). n ≤ k) (λ (other : Spot). revisions_in other.answer) (filter (λ (other : Spot). earlier_in_session other spot) spots)
      (every_filtered small (λ (other : Spot). earlier_in_session other spot) spots
      (every_weaker (IsSpotOf lines) (λ (other : Spot). IsTrue (earlier_in_session other spot) → small other)
      (λ other is earlier.
      let both = and_parts (nat_lt other.index j) (shares (session_of other.reading) (session_of reading)) earlier in
      printed_all other.answer k
      (λ n prints.
      since.printed other.index other.reading other.answer n is.line (ltb-true other.index j both.0)
      (shared_session other.reading reading both.1) prints))
      spots (every_spot_of lines)))

  pub floor_from_seen : floor (spots_of lines) (spot_of lines j reading told) ≤ k
  floor_from_seen =
      greatest_bound k (commits_before (spots_of lines) (spot_of lines j reading told) ∷ revisions_before (spots_of lines) (spot_of lines j reading told))
      (phases_below, printed_below)
