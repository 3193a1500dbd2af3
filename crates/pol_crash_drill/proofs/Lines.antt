-- Which lines stand before that of a request.
use Rattle.std.proofs.Common.{◌≡◌, ℕ, zero, suc, ◌+◌, ◌≤◌, List, [], ◌∷◌, ◌++◌, length, Option, None, Some, Ok, Err, refl, ap, ◌∙◌, arith, length-append}
use Rattle.pol_history.specs.Commits.{state_now}
use Rattle.pol_history.specs.Machine.{Machine}
use Rattle.pol_model.specs.Fault.{fault_of}
use Rattle.pol_model.specs.declared.answer.Fault.{Fault}
use Rattle.pol_model.specs.declared.options.Options.{Options}
use Rattle.pol_model.specs.declared.request.Request.{Request}
use Rattle.pol_run.specs.Spots.{Reading}
use Rattle.pol_script.specs.declared.command.Command.TheVariants as command
use Rattle.pol_serial_run.specs.Accepted.{accepted_by, accepted_from, unless_fault}
use Rattle.pol_serial_run.specs.SerialRun.{machine_after_lines, machine_then}
use Rattle.pol_crash_drill.specs.Drill.{before_accepted, up_to}

-- ---- a line

unless_few : (request : Request) (fault : Option Fault) → length (unless_fault request fault) ≤ 1
unless_few request None = omega arith
unless_few request (Some fault) = omega arith

-- it accepts at most one request
few_accepted : (options : Options) (m : Machine) (reading : Reading) → length (accepted_by options m reading) ≤ 1
few_accepted options m (Err fault) = omega arith
few_accepted options m (Ok (command.Commit session request)) = unless_few request (fault_of (state_now options m.history) request)
few_accepted options m (Ok (command.Look session query)) = omega arith
few_accepted options m (Ok (command.Trace session query)) = omega arith
few_accepted options m (Ok (command.Sync session)) = omega arith
few_accepted options m (Ok command.Phase) = omega arith

all_up_to : (by : List Request) (count : ℕ) (reading : Reading) (rest : List Request) (readings : List Reading) (later : ℕ → List Reading)
    → length (by ++ rest) ≤ count → ((left : ℕ) → length rest ≤ left → later left ≡ readings) → up_to by count reading later ≡ reading ∷ readings
all_up_to [] count reading rest readings later few then = ap (λ (rs : List Reading). reading ∷ rs) (then count few)
all_up_to (request ∷ more) zero reading rest readings later few then = absurd (omega arith)
all_up_to (request ∷ more) (suc count) reading rest readings later few then =
    ap (λ (rs : List Reading). reading ∷ rs) (then count (omega (arith, length-append more rest)))

split_up_to : (by : List Request) (reading : Reading) (rest : List Request) (readings : List Reading) (later : ℕ → List Reading)
    → length by ≤ 1 → later (length rest) ≡ readings → up_to by (length (by ++ rest)) reading later ≡ reading ∷ readings
split_up_to [] reading rest readings later few is = ap (λ (rs : List Reading). reading ∷ rs) is
split_up_to (request ∷ []) reading rest readings later few is = ap (λ (rs : List Reading). reading ∷ rs) is
split_up_to (request ∷ other ∷ more) reading rest readings later few is = absurd (omega arith)

-- ---- all lines

module _ (options : Options) where
  -- no more requests are accepted than that
  pub all_before : (m : Machine) (count : ℕ) (readings : List Reading) → length (accepted_from options m readings) ≤ count → before_accepted options m count readings ≡ readings
  all_before m count [] few = refl
  all_before m count (r ∷ rs) few =
      all_up_to (accepted_by options m r) count r (accepted_from options (machine_then options m r) rs) rs (λ left. before_accepted options (machine_then options m r) left rs)
      few (λ left less. all_before (machine_then options m r) left rs less)

  -- the request of this line is the next one
  pub split_before : (m : Machine) (before : List Reading) (reading : Reading) (later : List Reading) (request : Request)
      → accepted_by options (machine_after_lines options m before) reading ≡ request ∷ []
      → before_accepted options m (length (accepted_from options m before)) (before ++ reading ∷ later) ≡ before
  split_before m [] reading later request one =
      ap (λ (by : List Request). up_to by 0 reading (λ left. before_accepted options (machine_then options m reading) left later)) one
  split_before m (r ∷ rs) reading later request one =
      split_up_to (accepted_by options m r) r (accepted_from options (machine_then options m r) rs) rs
      (λ left. before_accepted options (machine_then options m r) left (rs ++ reading ∷ later)) (few_accepted options m r)
      (split_before (machine_then options m r) rs reading later request one)
