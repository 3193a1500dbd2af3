-- Numbers of `ok` lines: where no two lines carry one, as many lines commit before a line as their numbers allow.
use Rattle.std.proofs.Common.{◌≡◌, ◌≢◌, ℕ, ◌+◌, ◌<◌, ◌≤◌, ◌==◌, inl, inr, IsTrue, List, [], ◌∷◌, length, take, Option, Ok, sym, ◌∙◌, subst, arith}
use Rattle.std.specs.Prelude.{⊤, count_by}
use Rattle.std.specs.List.{AllByRecursion, cons_option}
use Rattle.std.proofs.lemmas.Bool.{cases_lt, eqb-true}
use Rattle.pol_model.specs.declared.request.Request.{Request}
use Rattle.pol_answer.specs.declared.answer.Answer.{Answer}
use Rattle.pol_answer.specs.declared.answer.Answer.TheVariants as answer
use Rattle.pol_script.specs.declared.command.Command.TheVariants as command
use Rattle.pol_run.specs.Spots.{Line, Reading, Spot, phase_after, spots_from, spots_of}
use Rattle.pol_run.specs.History.{Commit, commit_as, commit_read, commits_of}
use Rattle.pol_run.specs.Run.{NumbersDiffer}
use Rattle.pol_run.specs.ByIndex.{IsLine, is_ok, is_ok_at}
use Rattle.pol_run_laws.proofs.Places.{at_first}
use Rattle.pol_run.proofs.Lists.{every_weaker, filter_none}
use Rattle.pol_run.proofs.Counting.{carried_once}
use Rattle.pol_run.proofs.Indices.{IsFrom, from_index, spot_at}
use Rattle.pol_run.proofs.Moments.{every_commit}
use Rattle.pol_run.proofs.ByIndexCommits.{IsOkLine, every_ok_line, commits_counted, numbers_counted}
use Rattle.std.proofs.lemmas.List.Sums.{length-filter}

-- line i was answered `ok` with this number
pub record IsOkAt (lines : List Line) (i number : ℕ) : Type 0 where
  pub session : ℕ
  pub request : Request
  pub identity : Option ℕ
  pub line : IsLine lines i (Ok (command.Commit session request)) (answer.Committed number identity)

-- no two lines carry one number
abbrev pub EachOnce : List Line → Type 0
EachOnce lines = (i j number : ℕ) → IsOkAt lines i number → IsOkAt lines j number → i ≡ j

-- ---- the commits of the lines stand at different indices

abbrev AreInOrder : List Commit → Type 0
AreInOrder [] = ⊤
AreInOrder (c ∷ cs) = AllByRecursion (λ d. c.spot.index < d.spot.index) cs × AreInOrder cs

order_as : (spot : Spot) (request : Request) (told : Answer) (cs : List Commit) → AllByRecursion (λ d. spot.index < d.spot.index) cs
    → AreInOrder cs → AreInOrder (cons_option (commit_as spot request told) cs)
order_as spot request (answer.Committed number identity) cs later others = (later, others)
order_as spot request told cs later others = others

order_read : (spot : Spot) (reading : Reading) (cs : List Commit) → AllByRecursion (λ d. spot.index < d.spot.index) cs
    → AreInOrder cs → AreInOrder (cons_option (commit_read spot reading) cs)
order_read spot (Ok (command.Commit session request)) cs later others = order_as spot request spot.answer cs later others
order_read spot reading cs later others = others

commits_in_order : (index phase : ℕ) (lines : List Line) → AreInOrder (commits_of (spots_from index phase lines))
commits_in_order index phase [] = tt
commits_in_order index phase (line ∷ lines) =
    let next = phase_after phase line.0 in
    let rest = spots_from (index + 1) next lines in
    order_read (spot_at index phase line.0 line.1) line.0 (commits_of rest)
    (every_weaker (λ (c : Commit). IsFrom (index + 1) next c.spot) (λ (c : Commit). index < c.spot.index) (λ c from. omega (arith, from.index))
    (commits_of rest) (every_commit (IsFrom (index + 1) next) rest (from_index (index + 1) next lines)))
    (commits_in_order (index + 1) next lines)

-- ---- so they carry different numbers

ok_at : (lines : List Line) (c : Commit) → IsOkLine lines c → IsOkAt lines c.spot.index c.number
ok_at lines c ok = record { session = ok.session; request = c.request; identity = ok.identity; line = ok.line }

module _ (lines : List Line) (once : EachOnce lines) where
  differs : (c : Commit) (cs : List Commit) → IsOkLine lines c → AllByRecursion (IsOkLine lines) cs
      → AllByRecursion (λ d. c.spot.index < d.spot.index) cs → AllByRecursion (λ d. c.number ≢ d.number) cs
  differs c [] ok others later = tt
  differs c (d ∷ cs) ok others later = (
    λ same.
        let one = once c.spot.index d.spot.index d.number (subst (λ (n : ℕ). IsOkAt lines c.spot.index n) same (ok_at lines c ok)) (ok_at lines d others.0) in
        omega (arith, one, later.0),
    differs c cs ok others.1 later.1,
  )

  all_differ : (cs : List Commit) → AllByRecursion (IsOkLine lines) cs → AreInOrder cs → NumbersDiffer cs
  all_differ [] ok ordered = tt
  all_differ (c ∷ cs) ok ordered = (differs c cs ok.0 ok.1 ordered.0, all_differ cs ok.1 ordered.1)

  pub numbers_differ : NumbersDiffer (commits_of (spots_of lines))
  numbers_differ = all_differ (commits_of (spots_of lines)) (every_ok_line lines) (commits_in_order 0 1 lines)

-- ---- counts

-- numbers from 1 to m that differ are m at most
few_differ : (m : ℕ) (cs : List Commit) → AllByRecursion (λ c. (1 ≤ c.number) × (c.number ≤ m)) cs → NumbersDiffer cs → length cs ≤ m
few_differ m cs within differ =
    elim (cases_lt m (length cs)) [
      | inr few ↦ few
      | inl many ↦
          let one = carried_once cs (length cs)
          (every_weaker (λ (c : Commit). (1 ≤ c.number) × (c.number ≤ m)) (λ (c : Commit). (1 ≤ c.number) × (c.number ≤ length cs))
          (λ c is. (is.0, omega (arith, is.1, many))) cs within)
          differ (omega (arith, many)) (omega arith) in
          let none = filter_none (λ (c : Commit). c.number == length cs) cs
          (every_weaker (λ (c : Commit). (1 ≤ c.number) × (c.number ≤ m)) (λ (c : Commit). IsTrue (c.number == length cs) → ⊥)
          (λ c is same. omega (arith, is.1, many, eqb-true c.number (length cs) same)) cs within) in
          absurd (omega (arith, one, none))
    ]

-- where the numbers are from 1 to m, m lines at most are answered `ok`
pub few_ok : (lines : List Line) (m : ℕ) → EachOnce lines → ((i number : ℕ) → IsOkAt lines i number → (1 ≤ number) × (number ≤ m))
    → count_by is_ok lines ≤ m
few_ok lines m once within =
    let cs = commits_of (spots_of lines) in
    omega (
      arith,
      commits_counted lines,
      few_differ m cs
          (every_weaker (IsOkLine lines) (λ (c : Commit). (1 ≤ c.number) × (c.number ≤ m))
          (λ c ok. within c.spot.index c.number (ok_at lines c ok)) cs (every_ok_line lines))
          (numbers_differ lines once),
    )

-- where they are from 1 to the count of such lines, each is carried once
pub ok_once : (lines : List Line) → EachOnce lines → ((i number : ℕ) → IsOkAt lines i number → (1 ≤ number) × (number ≤ count_by is_ok lines))
    → (k : ℕ) → 1 ≤ k → k ≤ count_by is_ok lines → count_by (is_ok_at k) lines ≡ 1
ok_once lines once within k positive most =
    let cs = commits_of (spots_of lines) in
    sym (numbers_counted k lines) ∙ sym (length-filter (λ (c : Commit). c.number == k) cs)
    ∙ carried_once cs k
    (every_weaker (IsOkLine lines) (λ (c : Commit). (1 ≤ c.number) × (c.number ≤ length cs))
    (λ c ok. let is = within c.spot.index c.number (ok_at lines c ok) in (is.0, omega (arith, is.1, commits_counted lines))) cs (every_ok_line lines))
    (numbers_differ lines once) positive (omega (arith, most, commits_counted lines))

-- ---- the first lines

pub ok_of_first : (n : ℕ) (lines : List Line) (i number : ℕ) → IsOkAt (take n lines) i number → (i < n) × IsOkAt lines i number
ok_of_first n lines i number ok =
    let found = at_first n i lines (Ok (command.Commit ok.session ok.request), answer.Committed number ok.identity) ok.line.there in
    (found.0, record { session = ok.session; request = ok.request; identity = ok.identity; line = record { there = found.1 } })
