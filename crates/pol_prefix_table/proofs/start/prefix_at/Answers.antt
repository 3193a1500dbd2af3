use Rattle.std.proofs.Common.{ap, ◌∙◌, arith}
use Rattle.pol_addr.specs.Address.{family_of}
use Rattle.pol_addr.specs.Prefix.{prefix_of}
use Rattle.pol_addr.proofs.ByFamily.{width_least}
use Rattle.pol_prefix_table.proofs.StartLists.{family_of-beginning}
use Rattle.pol_prefix_table.proofs.start.prefix_at.Goals as goal

pub new-requires : goal.new-requires
new-requires g c = omega (arith, c.requires.few, width_least c.beginning.result)

pub returns-clause-value : goal.returns-clause-value
returns-clause-value g c = c.new.ensures.value ∙ ap (λ a. prefix_of a c.args.bits) c.beginning.ensures

pub returns-clause-family : goal.returns-clause-family
returns-clause-family g c = ap (λ p. family_of p.addr) (c.new.ensures.value ∙ ap (λ a. prefix_of a c.args.bits) c.beginning.ensures) ∙ family_of-beginning g.B.Bits.family c.args.bits c.args.place
