use Rattle.std.proofs.Common.{sym, subst, ◌∙◌}
use Rattle.pol_addr.specs.declared.family.Family.TheVariants.{Ipv4, Ipv6}
use Rattle.pol_prefix_table.specs.Table.{IsOf, joined}
use Rattle.pol_prefix_table.proofs.Joined.{IsOf-empty, joined-empty}
use Rattle.pol_prefix_table.proofs.table.PrefixTable.new.Goals as goal

pub invariant_of-result : goal.invariant_of-result
invariant_of-result c = (subst (IsOf Ipv4) (sym c.new.ensures) (IsOf-empty Ipv4), subst (IsOf Ipv6) (sym c.new-2.ensures) (IsOf-empty Ipv6))

pub returns : goal.returns
returns c = (λ i. joined (c.new.ensures i) (c.new-2.ensures i)) ∙ joined-empty
