use Rattle.std.proofs.Common.{◌≡◌, ◌≤◌, ℕ}
use Rattle.pol_addr.specs.Cidr.{cleared}
use Rattle.pol_addr.proofs.network.shared_len.Given as goal

abbrev pub invariant-loop-a : goal.invariant-loop-a
invariant-loop-a l = record {
  within : l.len ≤ l.most;
  longest : (len : ℕ) → len ≤ l.most → cleared len l.a ≡ cleared len l.b → len ≤ l.len;
}

abbrev pub decreases-loop-a : goal.decreases-loop-a
decreases-loop-a l = l.len
