use Rattle.std.proofs.Common.{◌≡◌, ◌*◌, ◌/◌, ◌%◌, subst}
use Rattle.pol_distill.proofs.Lookups.{floor_clear}
use Rattle.pol_entry_tally.proofs.keys.prefix_at.Goals as goal

pub invariant_of-result : goal.invariant_of-result
invariant_of-result c = record {
  short = c.requires;
  clear = subst (λ m. c.from.result / c.port_count-size.result * c.port_count-size.result % m ≡ 0) c.port_count-size.ensures.value
      (floor_clear c.from.result c.port_count-size.result);
}
