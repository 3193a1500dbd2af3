-- What a line's session has seen is at most its floor.
use Rattle.std.proofs.Common.{◌≡◌, ℕ, zero, suc, ◌+◌, ◌<◌, ◌≤◌, inl, inr, Bool, true, false, cond, nat_lt, IsTrue, List, [], ◌∷◌, ◌++◌, length, map, filter, flat_map, take, Ok, arith}
use Rattle.std.specs.Prelude.{count_by}
use Rattle.std.specs.List.{AllByRecursion, cons_option}
use Rattle.std.proofs.lemmas.Bool.{and_from, lt-ltb, false≢true}
use Rattle.std.proofs.lemmas.List.Sums.{sum_by-cons}
use Rattle.pol_model.specs.declared.answer.FullSlot.{FullSlot}
use Rattle.pol_answer.specs.declared.answer.Answer.{Answer}
use Rattle.pol_answer.specs.declared.answer.Answer.TheVariants as answer
use Rattle.pol_script.specs.declared.command.Command.TheVariants as command
use Rattle.pol_run.specs.Spots.{Line, Reading, Spot, phase_after, spots_from, spots_of, session_of, shares, earlier_in_session}
use Rattle.pol_run.specs.History.{Commit, commit_at, commits_of}
use Rattle.pol_run.specs.Moments.{greatest, floor, revisions_in, commits_before, revisions_before}
use Rattle.pol_run.specs.ByIndex.{is_ok, Prints, IsSinceSeen}
use Rattle.pol_run.proofs.Lists.{every_contained}
use Rattle.pol_run.proofs.Indices.{spot_at}
use Rattle.pol_run.proofs.ByIndex.{phase_at, phase_grows, phases_between, spot_of, spot_listed, session_shares}

greatest_each : (n : ℕ) (ns : List ℕ) → greatest ns ≤ n → AllByRecursion (λ k. k ≤ n) ns
greatest_each n [] within = tt
greatest_each n (k ∷ ks) within =
    let here : k ≤ n = omega (arith, within) in
    let others : greatest ks ≤ n = omega (arith, within) in
    (here, greatest_each n ks others)

-- ---- revisions that were printed

front_back : {Y : Type 0} (P : Y → Type 0) (xs ys : List Y) → AllByRecursion P (xs ++ ys) → AllByRecursion P xs × AllByRecursion P ys
front_back P [] ys every = (tt, every)
front_back P (x ∷ xs) ys every = let others = front_back P xs ys every.1 in ((every.0, others.0), others.1)

module _ {X Y : Type 0} (P : Y → Type 0) where
  part_of : (passes : Bool) (x : X) (xs : List X) (f : X → List Y) → AllByRecursion P (flat_map f (cond passes (x ∷ xs) xs))
      → (IsTrue passes → AllByRecursion P (f x)) × AllByRecursion P (flat_map f xs)
  part_of true x xs f every = let parts = front_back P (f x) (flat_map f xs) every in ((λ passes. parts.0), parts.1)
  part_of false x xs f every = ((λ passes. absurd (false≢true passes)), every)

  -- what holds of all parts holds of each that was chosen
  parts_chosen : (p : X → Bool) (f : X → List Y) (xs : List X) → AllByRecursion P (flat_map f (filter p xs))
      → AllByRecursion (λ x. IsTrue (p x) → AllByRecursion P (f x)) xs
  parts_chosen p f [] every = tt
  parts_chosen p f (x ∷ xs) every =
      let parts = part_of (p x) x (filter p xs) f every in (parts.0, parts_chosen p f xs parts.1)

every_mapped_back : (limit : ℕ) (rows : List FullSlot) → AllByRecursion (λ k. k ≤ limit) (map (λ (row : FullSlot). row.revision) rows)
    → AllByRecursion (λ (row : FullSlot). row.revision ≤ limit) rows
every_mapped_back limit [] every = tt
every_mapped_back limit (row ∷ rows) every = (every.0, every_mapped_back limit rows every.1)

-- an answer prints none but those
pub printed_within : (told : Answer) (k limit : ℕ) → Prints told k → AllByRecursion (λ n. n ≤ limit) (revisions_in told) → k ≤ limit
printed_within (answer.Committed n identity) k limit prints within = omega (arith, prints, within.0)
printed_within (answer.Refused refused) k limit prints within = omega (arith, prints, within.0)
printed_within (answer.Verdict n word) k limit prints within = omega (arith, prints, within.0)
printed_within (answer.NotYet n) k limit prints within = omega (arith, prints, within.0)
printed_within (answer.NoEndpoint n) k limit prints within = omega (arith, prints, within.0)
printed_within (answer.Traced n trace) k limit prints within = omega (arith, prints, within.0)
printed_within (answer.Synced n full) k limit prints within =
    elim prints [
      | inl own ↦ omega (arith, own, within.0)
      | inr row ↦
          let rows = every_mapped_back limit full within.1 in
          omega (arith, row.2, every_contained (λ (r : FullSlot). r.revision ≤ limit) full row.0 rows row.1)
    ]
printed_within (answer.Phase number) k limit prints within = absurd prints
printed_within (answer.BadLine fault) k limit prints within = absurd prints

-- ---- commits of earlier phases

early_one : (limit index phase : ℕ) (line : Line) (cs : List Commit) (n : ℕ) → phase < limit
    → n ≤ length (filter (λ (c : Commit). nat_lt c.spot.phase limit) cs)
    → cond (is_ok line) 1 0 + n
    ≤ length (filter (λ (c : Commit). nat_lt c.spot.phase limit) (cons_option (commit_at (spot_at index phase line.0 line.1)) cs))
early_one limit index phase (Ok (command.Commit session request), answer.Committed k identity) cs n early fewer =
    let is : nat_lt phase limit ≡ true = lt-ltb phase limit early in
    simp is (omega (arith, fewer))
early_one limit index phase (reading, told) cs n early fewer = omega (arith, fewer)

early_count : (limit index phase : ℕ) (lines : List Line) (i : ℕ) → phase_at phase lines i < limit
    → count_by is_ok (take i lines) ≤ length (filter (λ (c : Commit). nat_lt c.spot.phase limit) (commits_of (spots_from index phase lines)))
early_count limit index phase lines zero early = omega arith
early_count limit index phase [] (suc i) early = omega arith
early_count limit index phase (line ∷ lines) (suc i) early =
    let later = phase_after phase line.0 in
    let first : phase < limit = omega (arith, early, phase_grows phase (line ∷ lines) (suc i)) in
    omega (
      arith,
      sum_by-cons (λ (l : Line). cond (is_ok l) 1 0) line (take i lines),
      early_one limit index phase line (commits_of (spots_from (index + 1) later lines)) (count_by is_ok (take i lines)) first
          (early_count limit (index + 1) later lines i early),
    )

-- ---- the floor

module _ (lines : List Line) (j : ℕ) (reading : Reading) (told : Answer) (k : ℕ)
    (within : floor (spots_of lines) (spot_of lines j reading told) ≤ k) where
  pub since_floor : IsSinceSeen lines j reading k
  since_floor =
      let spots = spots_of lines in
      let spot = spot_of lines j reading told in
      let each = greatest_each k (commits_before spots spot ∷ revisions_before spots spot) within in
      let shown = parts_chosen (λ (n : ℕ). n ≤ k) (λ (other : Spot). earlier_in_session other spot) (λ (other : Spot). revisions_in other.answer) spots each.1 in
      record {
        printed = λ i first answer n line less one prints.
            printed_within answer n k prints
            (every_contained (λ (other : Spot). IsTrue (earlier_in_session other spot) → AllByRecursion (λ (m : ℕ). m ≤ k) (revisions_in other.answer))
            spots (spot_of lines i first answer) shown (spot_listed lines i first answer line)
            (and_from (nat_lt i j) (shares (session_of first) (session_of reading)) (lt-ltb i j less) (session_shares first reading one)));
        phases = λ last answer line less.
            let early = phases_between lines last j (record { last = last; from = omega arith; before = less; told = answer; ends = line }) in
            omega (arith, each.0, early_count (phase_at 1 lines j) 0 1 lines last early);
      }
