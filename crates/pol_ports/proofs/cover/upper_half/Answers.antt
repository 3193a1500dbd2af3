-- The upper half begins half a block later, which is still below 65536.
use Rattle.std.proofs.Common.{◌≡◌, ℕ, ◌-◌, ◌*◌, ◌%◌, ◌^◌, ◌<◌, ◌≤◌, ◌∙◌, arith}
use Rattle.std.proofs.Math.Nat.{one-mul}
use Rattle.std.proofs.Math.Pow.{shl_exact}
use Rattle.pol_ports.proofs.Steps.{upper_clear, upper_fits}
use Rattle.pol_ports.proofs.cover.upper_half.Goals as goal

whole : (k : ℕ) → k ≤ 15 → 1 * 2 ^ k % 65536 ≡ 2 ^ k
whole k le = shl_exact {a = 1} 1 k 16 (omega arith) (omega arith) ∙ one-mul (2 ^ k)

pub overflow_add-result : goal.overflow_add-result
overflow_add-result c =
    let small : c.args.block.bits < 2 ^ 16 = omega arith in
    omega (arith, whole (15 - c.args.block.len) (omega arith), upper_fits c.args.block small c.requires)

pub invariant_of-result : goal.invariant_of-result
invariant_of-result c =
    record { short = omega arith; clear = rw (whole (15 - c.args.block.len) (omega arith)) (upper_clear c.args.block) }
