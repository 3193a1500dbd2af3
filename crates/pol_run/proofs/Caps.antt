-- The cap of a line is the greatest revision that has none of the commits that the line stands before.
use Rattle.std.proofs.Common.{ℕ, ◌-◌, ◌<◌, ◌≤◌, List, [], ◌∷◌, length, map, IsTrue, arith}
use Rattle.std.specs.List.{AllByRecursion}
use Rattle.pol_run.specs.Spots.{Spot, stands_before}
use Rattle.pol_run.specs.History.{Commit, commits_of}
use Rattle.pol_run.specs.Moments.{least, cap, IsCutBeforeLater, later_commits}
use Rattle.pol_run.specs.Run.{IsNumbered}
use Rattle.pol_run.proofs.Lists.{every_weaker, every_filtered, least_within}

-- the commits are numbered from 1
abbrev AreFromOne : List Commit → Type 0
AreFromOne cs = AllByRecursion (λ c. 1 ≤ c.number) cs

below_each : (k limit : ℕ) (cs : List Commit) → AreFromOne cs → k ≤ least limit (map (λ c. c.number - 1) cs) → AllByRecursion (λ c. k < c.number) cs
below_each k limit [] ones within = tt
below_each k limit (c ∷ cs) ones within =
    let here : k < c.number = omega (arith, within, ones.0) in
    let others : k ≤ least limit (map (λ d. d.number - 1) cs) = omega (arith, within) in
    (here, below_each k limit cs ones.1 others)

least_of_each : (k limit : ℕ) (cs : List Commit) → k ≤ limit → AllByRecursion (λ c. k < c.number) cs → k ≤ least limit (map (λ c. c.number - 1) cs)
least_of_each k limit [] within every = within
least_of_each k limit (c ∷ cs) within every =
    let others : k ≤ least limit (map (λ d. d.number - 1) cs) = least_of_each k limit cs within every.1 in
    omega (arith, others, every.0)

later_from_one : (spots : List Spot) (spot : Spot) → IsNumbered (commits_of spots) → AreFromOne (later_commits spot (commits_of spots))
later_from_one spots spot numbered =
    every_filtered (λ c. 1 ≤ c.number) (λ c. stands_before spot c.spot) (commits_of spots)
    (every_weaker (λ c. (1 ≤ c.number) × (c.number ≤ length (commits_of spots))) (λ c. IsTrue (stands_before spot c.spot) → 1 ≤ c.number)
    (λ c within later. within.0) (commits_of spots) numbered.from_one)

pub cap_is_cut : (spots : List Spot) (spot : Spot) (k : ℕ) → IsNumbered (commits_of spots) → k ≤ cap spots spot → IsCutBeforeLater spots spot k
cap_is_cut spots spot k numbered within =
    let later = later_commits spot (commits_of spots) in
    record {
      committed = omega (arith, within, least_within (length (commits_of spots)) (map (λ c. c.number - 1) later));
      none_later = below_each k (length (commits_of spots)) later (later_from_one spots spot numbered) within;
    }

pub cut_is_within : (spots : List Spot) (spot : Spot) (k : ℕ) → IsCutBeforeLater spots spot k → k ≤ cap spots spot
cut_is_within spots spot k cut = least_of_each k (length (commits_of spots)) (later_commits spot (commits_of spots)) cut.committed cut.none_later
