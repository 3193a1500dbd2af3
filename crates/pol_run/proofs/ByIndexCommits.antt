-- The `ok` lines by their indices, and the commits of a run; which revisions a line may reach.
use Rattle.std.proofs.Common.{◌≡◌, ℕ, ◌+◌, ◌<◌, ◌≤◌, ◌==◌, inl, inr, cond, IsTrue, List, [], ◌∷◌, length, Contains, Option, None, Some, Ok, refl, ap, sym, ◌∙◌, subst, arith}
use Rattle.std.specs.Prelude.{count_by}
use Rattle.std.specs.List.{AllByRecursion, cons_option}
use Rattle.std.proofs.lemmas.List.Sums.{sum_by-cons}
use Rattle.pol_model.specs.declared.request.Request.{Request}
use Rattle.pol_data.proofs.Members.{Contains-here, Contains-later, Contains-cases, Contains-filter}
use Rattle.pol_answer.specs.declared.answer.Answer.{Answer}
use Rattle.pol_answer.specs.declared.answer.Answer.TheVariants as answer
use Rattle.pol_script.specs.declared.command.Command.TheVariants as command
use Rattle.pol_run.specs.Spots.{Line, Reading, Spot, phase_after, spots_from, spots_of, stands_before}
use Rattle.pol_run.specs.History.{Commit, commit_at, commit_as, commit_read, commits_of, history_of}
use Rattle.pol_run.specs.Moments.{cap, later_commits}
use Rattle.pol_run.specs.Run.{IsNumbered}
use Rattle.pol_run.specs.ByIndex.{IsLine, is_ok, is_ok_at, ComesBefore, IsReached}
use Rattle.pol_run.proofs.Lists.{every_contained, every_filtered, every_weaker}
use Rattle.pol_run.proofs.Counting.{requests_all}
use Rattle.pol_run.proofs.Indices.{spot_at}
use Rattle.pol_run.proofs.Caps.{cap_is_cut, cut_is_within}
use Rattle.pol_run.proofs.ByIndex.{spot_of, spot_listed, IsSpotOf, every_spot_of, stands_before_known, known_before}

-- ---- from a line to its commit

listed_behind : (o : Option Commit) (cs : List Commit) (c : Commit) → Contains cs c → Contains (cons_option o cs) c
listed_behind None cs c listed = listed
listed_behind (Some first) cs c listed = Contains-later first cs c listed

commit_listed : (spots : List Spot) (spot : Spot) (c : Commit) → Contains spots spot → commit_at spot ≡ Some c → Contains (commits_of spots) c
commit_listed [] spot c (k, below, at) is = absurd (omega arith)
commit_listed (x ∷ spots) spot c listed is =
    elim (Contains-cases x spots spot listed) [
      | inl here ↦
          subst (λ (o : Option Commit). Contains (cons_option o (commits_of spots)) c) (sym (ap commit_at here ∙ is)) (Contains-here c (commits_of spots))
      | inr later ↦ listed_behind (commit_at x) (commits_of spots) c (commit_listed spots spot c later is)
    ]

-- the commit of line i
abbrev pub commit_of : List Line → ℕ → ℕ → Request → ℕ → Option ℕ → Commit
commit_of lines i session request k identity = record {
  number = k;
  request = request;
  spot = spot_of lines i (Ok (command.Commit session request)) (answer.Committed k identity);
}

pub ok_listed : (lines : List Line) (i session : ℕ) (request : Request) (k : ℕ) (identity : Option ℕ)
    → IsLine lines i (Ok (command.Commit session request)) (answer.Committed k identity)
    → Contains (commits_of (spots_of lines)) (commit_of lines i session request k identity)
ok_listed lines i session request k identity line =
    let reading : Reading = Ok (command.Commit session request) in
    let told = answer.Committed k identity in
    commit_listed (spots_of lines) (spot_of lines i reading told) (commit_of lines i session request k identity)
    (spot_listed lines i reading told line) refl

-- ---- from a commit to its line

-- the commit is that of the line of its spot
pub record IsOkLine (lines : List Line) (c : Commit) : Type 0 where
  pub session : ℕ
  pub identity : Option ℕ
  pub line : IsLine lines c.spot.index (Ok (command.Commit session c.request)) (answer.Committed c.number identity)
  pub reads : c.spot.reading ≡ Ok (command.Commit session c.request)
  pub spot : IsSpotOf lines c.spot

module _ (lines : List Line) (spot : Spot) (is : IsSpotOf lines spot) (cs : List Commit) (others : AllByRecursion (IsOkLine lines) cs) where
  ok_as : (session : ℕ) (request : Request) (told : Answer) → spot.reading ≡ Ok (command.Commit session request) → spot.answer ≡ told
      → AllByRecursion (IsOkLine lines) (cons_option (commit_as spot request told) cs)
  ok_as session request (answer.Committed k identity) reads tells = (
    record {
      session = session;
      identity = identity;
      line = record {
        there = is.line.there ∙ ap (λ (r : Reading). Some (r, spot.answer)) reads
            ∙ ap (λ (a : Answer). Some (Ok (command.Commit session request), a)) tells;
      };
      reads = reads;
      spot = is;
    },
    others,
  )
  ok_as session request told reads tells = others

  ok_read : (reading : Reading) → spot.reading ≡ reading → AllByRecursion (IsOkLine lines) (cons_option (commit_read spot reading) cs)
  ok_read (Ok (command.Commit session request)) reads = ok_as session request spot.answer reads refl
  ok_read other reads = others

ok_lines : (lines : List Line) (spots : List Spot) → AllByRecursion (IsSpotOf lines) spots → AllByRecursion (IsOkLine lines) (commits_of spots)
ok_lines lines [] every = tt
ok_lines lines (spot ∷ spots) every =
    ok_read lines spot every.0 (commits_of spots) (ok_lines lines spots every.1) spot.reading refl

pub every_ok_line : (lines : List Line) → AllByRecursion (IsOkLine lines) (commits_of (spots_of lines))
every_ok_line lines = ok_lines lines (spots_of lines) (every_spot_of lines)

-- ---- counts

ok_one : (index phase : ℕ) (line : Line) (cs : List Commit)
    → length (cons_option (commit_at (spot_at index phase line.0 line.1)) cs) ≡ cond (is_ok line) 1 0 + length cs
ok_one index phase (Ok (command.Commit session request), answer.Committed k identity) cs = omega arith
ok_one index phase (reading, told) cs = omega arith

ok_count : (index phase : ℕ) (lines : List Line) → length (commits_of (spots_from index phase lines)) ≡ count_by is_ok lines
ok_count index phase [] = refl
ok_count index phase (line ∷ lines) =
    omega (
      arith,
      ok_one index phase line (commits_of (spots_from (index + 1) (phase_after phase line.0) lines)),
      ok_count (index + 1) (phase_after phase line.0) lines,
      sum_by-cons (λ (l : Line). cond (is_ok l) 1 0) line lines,
    )

-- as many commits as `ok` lines
pub commits_counted : (lines : List Line) → length (commits_of (spots_of lines)) ≡ count_by is_ok lines
commits_counted lines = ok_count 0 1 lines

carry_one : (n index phase : ℕ) (line : Line) (cs : List Commit)
    → count_by (λ (c : Commit). c.number == n) (cons_option (commit_at (spot_at index phase line.0 line.1)) cs)
    ≡ cond (is_ok_at n line) 1 0 + count_by (λ (c : Commit). c.number == n) cs
carry_one n index phase (Ok (command.Commit session request), answer.Committed k identity) cs =
    sum_by-cons (λ (c : Commit). cond (c.number == n) 1 0)
    (record { number = k; request = request; spot = spot_at index phase (Ok (command.Commit session request)) (answer.Committed k identity) }) cs
carry_one n index phase (reading, told) cs = omega arith

carry_count : (n index phase : ℕ) (lines : List Line)
    → count_by (λ (c : Commit). c.number == n) (commits_of (spots_from index phase lines)) ≡ count_by (is_ok_at n) lines
carry_count n index phase [] = refl
carry_count n index phase (line ∷ lines) =
    omega (
      arith,
      carry_one n index phase line (commits_of (spots_from (index + 1) (phase_after phase line.0) lines)),
      carry_count n (index + 1) (phase_after phase line.0) lines,
      sum_by-cons (λ (l : Line). cond (is_ok_at n l) 1 0) line lines,
    )

-- as many that carry a number
pub numbers_counted : (n : ℕ) (lines : List Line)
    → count_by (λ (c : Commit). c.number == n) (commits_of (spots_of lines)) ≡ count_by (is_ok_at n) lines
numbers_counted n lines = carry_count n 0 1 lines

-- ---- which revisions a line may reach: up to its cap

module _ (lines : List Line) (numbered : IsNumbered (commits_of (spots_of lines))) (i : ℕ) (reading : Reading) (told : Answer) (k : ℕ) where
  pub reached_to_cap : k ≤ cap (spots_of lines) (spot_of lines i reading told) → IsReached lines (history_of (spots_of lines)) i reading k
  reached_to_cap within =
      let spots = spots_of lines in
      let spot = spot_of lines i reading told in
      let cut = cap_is_cut spots spot k numbered within in
      record {
        made = omega (arith, cut.committed, requests_all (commits_of spots) numbered.from_one numbered.each_once);
        none_after = λ j session request n identity line before.
            every_contained (λ (c : Commit). k < c.number) (later_commits spot (commits_of spots)) (commit_of lines j session request n identity)
            cut.none_later
            (Contains-filter (λ (c : Commit). stands_before spot c.spot) (commits_of spots) (commit_of lines j session request n identity)
            (stands_before_known lines i j reading (Ok (command.Commit session request)) told (answer.Committed n identity) before)
            (ok_listed lines j session request n identity line));
      }

  pub cap_to_reached : IsLine lines i reading told → IsReached lines (history_of (spots_of lines)) i reading k
      → k ≤ cap (spots_of lines) (spot_of lines i reading told)
  cap_to_reached line reached =
      let spots = spots_of lines in
      let spot = spot_of lines i reading told in
      cut_is_within spots spot k (record {
        committed = omega (arith, reached.made, requests_all (commits_of spots) numbered.from_one numbered.each_once);
        none_later = every_filtered (λ (c : Commit). k < c.number) (λ (c : Commit). stands_before spot c.spot) (commits_of spots)
            (every_weaker (IsOkLine lines) (λ (c : Commit). IsTrue (stands_before spot c.spot) → k < c.number)
            (λ c ok before.
            reached.none_after c.spot.index ok.session c.request c.number ok.identity ok.line
            (subst (λ (r : Reading). ComesBefore lines i reading c.spot.index r) ok.reads
            (known_before lines spot c.spot (record { line = line; phase = refl }) ok.spot before)))
            (commits_of spots) (every_ok_line lines));
      })
