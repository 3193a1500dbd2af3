-- Between which revisions a line may be answered.
use Rattle.std.specs.Prelude.{ℕ, ◌-◌, ◌<◌, ◌≤◌, nat_lt, min, max, List, [], ◌∷◌, length, map, filter}
use Rattle.std.specs.List.{AllByRecursion, flat_map}
use Rattle.pol_answer.specs.declared.answer.Answer.{Answer}
use Rattle.pol_answer.specs.declared.answer.Answer.TheVariants as answer
use Rattle.pol_run.specs.Spots.{Spot, earlier_in_session, stands_before}
use Rattle.pol_run.specs.History.{Commit, commits_of}

-- the least of n and the numbers
abbrev pub least : ℕ → List ℕ → ℕ
least n [] = n
least n (m ∷ ms) = min m (least n ms)

-- the greatest of the numbers, 0 where there is none
abbrev pub greatest : List ℕ → ℕ
greatest [] = 0
greatest (m ∷ ms) = max m (greatest ms)

-- the commits that the line stands before: later ones of its session, and those of later phases
abbrev pub later_commits : Spot → List Commit → List Commit
later_commits spot commits = filter (λ c. stands_before spot c.spot) commits

-- The cap of a line: the greatest revision that has none of the commits that the line stands before.
abbrev pub cap : List Spot → Spot → ℕ
cap spots spot = least (length (commits_of spots)) (map (λ c. c.number - 1) (later_commits spot (commits_of spots)))

-- the first so many commits were made, and the line stands before none of them
pub record IsCutBeforeLater (spots : List Spot) (spot : Spot) (revision : ℕ) : Type 0 where
  pub committed : revision ≤ length (commits_of spots)
  pub none_later : AllByRecursion (λ c. revision < c.number) (later_commits spot (commits_of spots))

-- the revisions that an answer prints
abbrev pub revisions_in : Answer → List ℕ
revisions_in (answer.Committed revision identity) = revision ∷ []
revisions_in (answer.Synced revision full) = revision ∷ map (λ row. row.revision) full
revisions_in (answer.Phase number) = []
revisions_in (answer.Verdict revision word) = revision ∷ []
revisions_in (answer.NoEndpoint revision) = revision ∷ []
revisions_in (answer.NotYet revision) = revision ∷ []
revisions_in (answer.Traced revision trace) = revision ∷ []
revisions_in (answer.BadLine fault) = []
revisions_in (answer.Refused refused) = refused.revision ∷ []

-- the revisions that were printed earlier in the line's session
abbrev pub revisions_before : List Spot → Spot → List ℕ
revisions_before spots spot =
    flat_map (λ other. revisions_in other.answer) (filter (λ other. earlier_in_session other spot) spots)

-- how many commits earlier phases made
abbrev pub commits_before : List Spot → Spot → ℕ
commits_before spots spot = length (filter (λ c. nat_lt c.spot.phase spot.phase) (commits_of spots))

-- The floor of a line: at least each revision printed earlier in its session, and all commits of earlier phases.
abbrev pub floor : List Spot → Spot → ℕ
floor spots spot = greatest (commits_before spots spot ∷ revisions_before spots spot)

-- a moment of a line: a revision at which it may be answered
pub record IsMoment (spots : List Spot) (spot : Spot) (revision : ℕ) : Type 0 where
  pub reached : floor spots spot ≤ revision
  pub allowed : revision ≤ cap spots spot
