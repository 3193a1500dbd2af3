use Rattle.std.proofs.Common.{sym, ap, subst, ◌∙◌}
use Rattle.std.specs.FinMap as map
use Rattle.pol_addr.specs.Address.{family_of}
use Rattle.pol_addr.specs.declared.family.Family.TheVariants.{Ipv4, Ipv6}
use Rattle.pol_prefix_table.specs.Table.{IsOf, joined}
use Rattle.pol_prefix_table.proofs.Joined.{IsOf-remove, get4, get6, remove4, remove6}
use Rattle.pol_prefix_table.proofs.table.PrefixTable.remove.Goals as goal

pub invariant_of-self : goal.invariant_of-self
invariant_of-self c =
    (subst (IsOf Ipv4) (sym c.remove.ensures.rest) (IsOf-remove Ipv4 c.self.inside.v4 c.args.prefix c.self.invariant.0), c.self.invariant.1)

pub invariant_of-self-in-Ipv6 : goal.invariant_of-self-in-Ipv6
invariant_of-self-in-Ipv6 c =
    (c.self.invariant.0, subst (IsOf Ipv6) (sym c.remove-in-Ipv6.ensures.rest) (IsOf-remove Ipv6 c.self.inside.v6 c.args.prefix c.self.invariant.1))

pub returns-in-Ipv4-clause-value : goal.returns-in-Ipv4-clause-value
returns-in-Ipv4-clause-value c =
    let own = ap family_of (sym c.network.ensures.value) ∙ sym c.family.ensures.value ∙ c.in-Ipv4.is in
    c.remove.ensures.value ∙ sym (get4 c.self.inside.v4 c.self.inside.v6 c.self.invariant.0 c.self.invariant.1 c.args.prefix own) ∙ ap (λ m. map.get m c.args.prefix) c.self.view_is

pub returns-in-Ipv4-clause-rest : goal.returns-in-Ipv4-clause-rest
returns-in-Ipv4-clause-rest c =
    let own = ap family_of (sym c.network.ensures.value) ∙ sym c.family.ensures.value ∙ c.in-Ipv4.is in
    ap (λ m. joined m c.self.inside.v6) c.remove.ensures.rest ∙ remove4 c.self.inside.v4 c.self.inside.v6 c.self.invariant.0 c.self.invariant.1 c.args.prefix own
    ∙ ap (λ m. map.remove m c.args.prefix) c.self.view_is

pub returns-in-Ipv6-clause-value : goal.returns-in-Ipv6-clause-value
returns-in-Ipv6-clause-value c =
    let own = ap family_of (sym c.network.ensures.value) ∙ sym c.family.ensures.value ∙ c.in-Ipv6.is in
    c.remove-in-Ipv6.ensures.value ∙ sym (get6 c.self.inside.v4 c.self.inside.v6 c.self.invariant.0 c.self.invariant.1 c.args.prefix own) ∙ ap (λ m. map.get m c.args.prefix) c.self.view_is

pub returns-in-Ipv6-clause-rest : goal.returns-in-Ipv6-clause-rest
returns-in-Ipv6-clause-rest c =
    let own = ap family_of (sym c.network.ensures.value) ∙ sym c.family.ensures.value ∙ c.in-Ipv6.is in
    ap (joined c.self.inside.v4) c.remove-in-Ipv6.ensures.rest ∙ remove6 c.self.inside.v4 c.self.inside.v6 c.self.invariant.0 c.self.invariant.1 c.args.prefix own
    ∙ ap (λ m. map.remove m c.args.prefix) c.self.view_is
