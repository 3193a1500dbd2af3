-- Lines that were answered between two revisions each: what a run says of numbers follows from the order of these.
use Rattle.std.proofs.Common.{◌≡◌, ℕ, ◌<◌, ◌≤◌, inl, inr, List, length, take, Ok, refl, arith}
use Rattle.std.specs.Prelude.{count_by}
use Rattle.pol_model.specs.declared.request.Request.{Request}
use Rattle.pol_answer.specs.declared.answer.Answer.{Answer}
use Rattle.pol_answer.specs.declared.answer.Answer.TheVariants as answer
use Rattle.pol_script.specs.declared.command.Command.TheVariants as command
use Rattle.pol_run.specs.Spots.{Line, Reading}
use Rattle.pol_run.specs.ByIndex.{is_ok, is_ok_at, Prints, ComesBefore, IsReached, IsSinceSeen}
use Rattle.pol_run_laws.specs.Placed.{IsLineOf}
use Rattle.pol_run_laws.proofs.Numbers.{IsOkAt, EachOnce, few_ok, ok_once, ok_of_first}

-- line i was answered between the revisions `low i` and `high i`
pub record AreBounded (lines : List Line) (history : List Request) (low high : ℕ → ℕ) : Type 0 where
  pub grows : (session i : ℕ) (reading : Reading) (told : Answer) → IsLineOf lines session i reading told → low i ≤ high i
  pub made : (session i : ℕ) (reading : Reading) (told : Answer) → IsLineOf lines session i reading told → high i ≤ length history
  pub in_order : (session i : ℕ) (first : Reading) (told : Answer) (other j : ℕ) (second : Reading) (later : Answer)
      → IsLineOf lines session i first told → IsLineOf lines other j second later → ComesBefore lines i first j second → high i ≤ low j
  pub printed : (session i : ℕ) (reading : Reading) (told : Answer) (k : ℕ) → IsLineOf lines session i reading told → Prints told k → k ≤ high i
  -- the `ok` lines carry numbers past the first, no two the same, and are as many as the requests
  pub ahead : (i number : ℕ) → IsOkAt lines i number → low i < number
  pub once : EachOnce lines
  pub counted : count_by is_ok lines ≡ length history

module _ (lines : List Line) (history : List Request) (low high : ℕ → ℕ) (bounded : AreBounded lines history low high) where
  ok_line : (i number : ℕ) (ok : IsOkAt lines i number)
      → IsLineOf lines ok.session i (Ok (command.Commit ok.session ok.request)) (answer.Committed number ok.identity)
  ok_line i number ok = record { line = ok.line; of = refl }

  ok_most : (i number : ℕ) → IsOkAt lines i number → number ≤ high i
  ok_most i number ok = bounded.printed ok.session i _ _ number (ok_line i number ok) refl

  ok_range : (i number : ℕ) → IsOkAt lines i number → (1 ≤ number) × (number ≤ count_by is_ok lines)
  ok_range i number ok = (
    omega (arith, bounded.ahead i number ok),
    omega (arith, ok_most i number ok, bounded.made ok.session i _ _ (ok_line i number ok), bounded.counted),
  )

  -- each number is carried once
  pub carried : (k : ℕ) → 1 ≤ k → k ≤ length history → count_by (is_ok_at k) lines ≡ 1
  carried k positive most = ok_once lines bounded.once ok_range k positive (omega (arith, most, bounded.counted))

  pub ok_ascend : (i j k n : ℕ) (first : IsOkAt lines i k) (second : IsOkAt lines j n)
      → ComesBefore lines i (Ok (command.Commit first.session first.request)) j (Ok (command.Commit second.session second.request)) → k < n
  ok_ascend i j k n first second before =
      omega (
        arith,
        ok_most i k first,
        bounded.in_order first.session i _ _ second.session j _ _ (ok_line i k first) (ok_line j n second) before,
        bounded.ahead j n second,
      )

  module _ (session i : ℕ) (reading : Reading) (told : Answer) (line : IsLineOf lines session i reading told) (k : ℕ) where
    -- the line may reach the revisions up to its second
    pub reached : k ≤ high i → IsReached lines history i reading k
    reached within = record {
      made = omega (arith, within, bounded.made session i reading told line);
      none_after = λ j other request number identity later before.
          let ok : IsOkAt lines j number = record { session = other; request = request; identity = identity; line = later } in
          omega (
            arith,
            within,
            bounded.in_order session i reading told other j _ _ line (ok_line j number ok) before,
            bounded.ahead j number ok,
          );
    }

    -- those from its first on are since what its session has seen
    pub since_seen : low i ≤ k → IsSinceSeen lines i reading k
    since_seen past = record {
      printed = λ j first answer n earlier less one prints.
          let one_of : IsLineOf lines one.session j first answer = record { line = earlier; of = one.first_is } in
          let here : IsLineOf lines one.session i reading told = record { line = line.line; of = one.second_is } in
          omega (
            arith,
            past,
            bounded.printed one.session j first answer n one_of prints,
            bounded.in_order one.session j first answer one.session i reading told one_of here (inl (less, one)),
          );
      phases = λ last answer ends less.
          let few = few_ok (take last lines) (low i)
          (λ a b n first second. bounded.once a b n (ok_of_first last lines a n first).1 (ok_of_first last lines b n second).1)
          (λ j number first.
          let ok = ok_of_first last lines j number first in
          let order = bounded.in_order ok.1.session j _ _ session i reading told (ok_line j number ok.1) line
          (inr (record { last = last; from = omega (arith, ok.0); before = less; told = answer; ends = ends })) in
          ((ok_range j number ok.1).0, omega (arith, ok_most j number ok.1, order))) in
          omega (arith, few, past);
    }
