-- The revision of the lines before a line is a moment of it, where the lines stand in order.
use Rattle.std.proofs.Common.{◌≡◌, ℕ, ◌-◌, ◌≤◌, ◌<◌, ◌⊎◌, inl, inr, nat_lt, IsTrue, List, [], ◌∷◌, ◌++◌, length, map, filter, Ok, ap, sym, subst, arith, length-append}
use Rattle.std.specs.List.{AllByRecursion, cons_option}
use Rattle.std.proofs.lemmas.Bool.{ltb-true, and_parts, or_cases}
use Rattle.std.proofs.lemmas.List.Elements.{filter_map-append}
use Rattle.pol_answer.specs.declared.answer.Answer.{Answer}
use Rattle.pol_answer.specs.declared.answer.Answer.TheVariants as answer
use Rattle.pol_script.specs.declared.command.Command.TheVariants as command
use Rattle.pol_model.specs.declared.request.Request.{Request}
use Rattle.pol_run.specs.Spots.{Reading, Spot, earlier_in_session, stands_before, shares, session_of}
use Rattle.pol_run.specs.History.{Commit, commit_at, commit_read, commit_as, commits_of}
use Rattle.pol_run.specs.Moments.{IsMoment, floor, cap, later_commits, revisions_in, commits_before, revisions_before}
use Rattle.pol_run.proofs.Lists.{every_weaker, every_append, every_filtered, every_mapped, every_flat, filter_front, greatest_bound, least_bound}
use Rattle.pol_run.proofs.Indices.{IsFrom, IsBehind}

-- ---- what standing before means

earlier_index : (a b : Spot) → IsTrue (earlier_in_session a b) → a.index < b.index
earlier_index a b earlier =
    ltb-true a.index b.index (and_parts (nat_lt a.index b.index) (shares (session_of a.reading) (session_of b.reading)) earlier).0

-- a line that stands before another has an earlier index or an earlier phase
pub before_cases : (a b : Spot) → IsTrue (stands_before a b) → (a.index < b.index) ⊎ (a.phase < b.phase)
before_cases a b before =
    elim (or_cases (earlier_in_session a b) (nat_lt a.phase b.phase) before)
    [ inl h ↦ inl (earlier_index a b h) | inr h ↦ inr (ltb-true a.phase b.phase h) ]

-- no line from this one on stands before it
pub not_before : (a b : Spot) → IsFrom b.index b.phase a → IsTrue (stands_before a b) → ⊥
not_before a b from before = elim (before_cases a b before) [ inl h ↦ omega (arith, from.index) | inr h ↦ omega (arith, from.phase) ]

-- ---- the commits of lines

commit_chosen : (P : Spot → Type 0) (spot : Spot) (reading : Reading) (answer : Answer) (cs : List Commit) (request : Request)
    → P spot → AllByRecursion (λ c. P c.spot) cs → AllByRecursion (λ c. P c.spot) (cons_option (commit_as spot request answer) cs)
commit_chosen P spot reading (answer.Committed revision identity) cs request here others = (here, others)
commit_chosen P spot reading other cs request here others = others

commit_kept : (P : Spot → Type 0) (spot : Spot) (reading : Reading) (cs : List Commit)
    → P spot → AllByRecursion (λ c. P c.spot) cs → AllByRecursion (λ c. P c.spot) (cons_option (commit_read spot reading) cs)
commit_kept P spot (Ok (command.Commit session request)) cs here others = commit_chosen P spot spot.reading spot.answer cs request here others
commit_kept P spot other cs here others = others

-- what holds of every line holds of the lines that commit
pub every_commit : (P : Spot → Type 0) (spots : List Spot) → AllByRecursion P spots → AllByRecursion (λ c. P c.spot) (commits_of spots)
every_commit P [] every = tt
every_commit P (spot ∷ spots) every = commit_kept P spot spot.reading (commits_of spots) every.0 (every_commit P spots every.1)

pub commits_append : (front back : List Spot) → commits_of (front ++ back) ≡ commits_of front ++ commits_of back
commits_append front back = filter_map-append commit_at front back

-- ---- a line between those before it and those from it on

-- the line stands before this one, and printed no later revision
pub record IsEarlier (revision : ℕ) (spot other : Spot) : Type 0 where
  pub index : other.index < spot.index
  pub phase : other.phase ≤ spot.phase
  pub printed : AllByRecursion (λ k. k ≤ revision) (revisions_in other.answer)

-- The lines in front of a line are earlier ones with as many commits as the revision; it and those
-- behind it stand from it on, and commit later numbers.
pub record IsBetween (revision : ℕ) (spot : Spot) (front back : List Spot) : Type 0 where
  pub counted : length (commits_of front) ≡ revision
  pub earlier : AllByRecursion (IsEarlier revision spot) front
  pub from : AllByRecursion (IsFrom spot.index spot.phase) back
  pub behind : AllByRecursion (IsBehind revision spot.index spot.phase) (commits_of back)

module _ (revision : ℕ) (spot : Spot) (front back : List Spot) (between : IsBetween revision spot front back) where
  phases_bound : commits_before (front ++ back) spot ≤ revision
  phases_bound =
      let never : AllByRecursion (λ c. IsTrue (nat_lt c.spot.phase spot.phase) → ⊥) (commits_of back) =
      every_weaker (IsBehind revision spot.index spot.phase) (λ c. IsTrue (nat_lt c.spot.phase spot.phase) → ⊥)
      (λ c behind earlier.
      let h : c.spot.phase < spot.phase = ltb-true c.spot.phase spot.phase earlier in omega (arith, behind.spot.phase))
      (commits_of back) between.behind in
      let few = filter_front (λ (c : Commit). nat_lt c.spot.phase spot.phase) (commits_of front) (commits_of back) never in
      subst (λ (cs : List Commit). length (filter (λ c. nat_lt c.spot.phase spot.phase) cs) ≤ revision)
      (sym (commits_append front back)) (omega (arith, few, between.counted))

  printed_bound : AllByRecursion (λ k. k ≤ revision) (revisions_before (front ++ back) spot)
  printed_bound =
      let small = λ (other : Spot). AllByRecursion (λ (k : ℕ). k ≤ revision) (revisions_in other.answer) in
      let here = λ (other : Spot). IsTrue (earlier_in_session other spot) → small other in
      let each : AllByRecursion here (front ++ back) =
      every_append here front back
      (every_weaker (IsEarlier revision spot) here (λ other h passes. h.printed) front between.earlier)
      (every_weaker (IsFrom spot.index spot.phase) here
      (λ other h passes.
      let early : other.index < spot.index = earlier_index other spot passes in absurd (omega (arith, h.index)))
      back between.from) in
      every_flat (λ k. k ≤ revision) (λ (other : Spot). revisions_in other.answer) (filter (λ other. earlier_in_session other spot) (front ++ back))
      (every_filtered small (λ other. earlier_in_session other spot) (front ++ back) each)

  -- the floor of the line is at most the revision
  floor_bound : floor (front ++ back) spot ≤ revision
  floor_bound =
      greatest_bound revision (commits_before (front ++ back) spot ∷ revisions_before (front ++ back) spot) (phases_bound, printed_bound)

  earlier_no_cap : (c : Commit) → IsEarlier revision spot c.spot → IsTrue (stands_before spot c.spot) → ⊥
  earlier_no_cap c earlier before =
      elim (before_cases spot c.spot before) [ inl h ↦ omega (arith, earlier.index) | inr h ↦ omega (arith, earlier.phase) ]

  capped : AllByRecursion (λ c. IsTrue (stands_before spot c.spot) → revision ≤ c.number - 1) (commits_of (front ++ back))
  capped =
      let late = λ (c : Commit). IsTrue (stands_before spot c.spot) → revision ≤ c.number - 1 in
      subst (λ (cs : List Commit). AllByRecursion late cs) (sym (commits_append front back))
      (every_append late (commits_of front) (commits_of back)
      (every_weaker (λ c. IsEarlier revision spot c.spot) late (λ c h before. absurd (earlier_no_cap c h before))
      (commits_of front) (every_commit (IsEarlier revision spot) front between.earlier))
      (every_weaker (IsBehind revision spot.index spot.phase) late (λ c h before. omega (arith, h.number))
      (commits_of back) between.behind))

  -- the cap of the line is at least the revision
  cap_bound : revision ≤ cap (front ++ back) spot
  cap_bound =
      let commits = commits_of (front ++ back) in
      let long : revision ≤ length commits =
      omega (
        arith,
        ap (λ (cs : List Commit). length cs) (commits_append front back),
        length-append (commits_of front) (commits_of back),
        between.counted,
      ) in
      least_bound revision (length commits) (map (λ (c : Commit). c.number - 1) (later_commits spot commits)) long
      (every_mapped (λ k. revision ≤ k) (λ (c : Commit). c.number - 1) (later_commits spot commits)
      (every_filtered (λ c. revision ≤ c.number - 1) (λ c. stands_before spot c.spot) commits capped))

  -- so it is a moment of the line
  pub moment_between : IsMoment (front ++ back) spot revision
  moment_between = record { reached = floor_bound; allowed = cap_bound }
