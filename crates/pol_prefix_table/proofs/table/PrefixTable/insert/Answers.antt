use Rattle.std.proofs.Common.{◌≡◌, sym, ap, ◌∙◌}
use Rattle.std.specs.FinMap as map
use Rattle.pol_addr.specs.Address.{family_of}
use Rattle.pol_addr.specs.declared.family.Family.TheVariants.{Ipv4, Ipv6}
use Rattle.pol_prefix_table.specs.Table.{joined}
use Rattle.pol_prefix_table.proofs.Joined.{IsOf-inserted, insert4, insert6, on_ok}
use Rattle.pol_prefix_table.proofs.table.PrefixTable.insert.Goals as goal

pub invariant_of-self : goal.invariant_of-self
invariant_of-self c =
    let own = ap family_of (sym c.network.ensures.value) ∙ sym c.family.ensures.value ∙ c.in-Ipv4.is in
    (IsOf-inserted Ipv4 c.self.inside.v4 c.insert.new.self c.args.prefix c.args.number c.insert.result c.insert.ensures.ok c.insert.ensures.err c.self.invariant.0 own, c.self.invariant.1)

pub invariant_of-self-in-Ipv6 : goal.invariant_of-self-in-Ipv6
invariant_of-self-in-Ipv6 c =
    let own = ap family_of (sym c.network.ensures.value) ∙ sym c.family.ensures.value ∙ c.in-Ipv6.is in
    (c.self.invariant.0, IsOf-inserted Ipv6 c.self.inside.v6 c.insert-in-Ipv6.new.self c.args.prefix c.args.number c.insert-in-Ipv6.result c.insert-in-Ipv6.ensures.ok c.insert-in-Ipv6.ensures.err c.self.invariant.1 own)

pub returns-in-Ipv4-clause-ok : goal.returns-in-Ipv4-clause-ok
returns-in-Ipv4-clause-ok c =
    let v4 = c.self.inside.v4 in
    let v6 = c.self.inside.v6 in
    on_ok c.insert.result (c.insert.new.self ≡ map.insert v4 c.args.prefix c.args.number) (joined c.insert.new.self v6 ≡ map.insert c.args.self.now c.args.prefix c.args.number)
    (λ is. ap (λ m. joined m v6) is ∙ insert4 v4 v6 c.self.invariant.0 c.self.invariant.1 c.args.prefix c.args.number ∙ ap (λ m. map.insert m c.args.prefix c.args.number) c.self.view_is)
    c.insert.ensures.ok

pub returns-in-Ipv6-clause-ok : goal.returns-in-Ipv6-clause-ok
returns-in-Ipv6-clause-ok c =
    let v4 = c.self.inside.v4 in
    let v6 = c.self.inside.v6 in
    let own = ap family_of (sym c.network.ensures.value) ∙ sym c.family.ensures.value ∙ c.in-Ipv6.is in
    on_ok c.insert-in-Ipv6.result (c.insert-in-Ipv6.new.self ≡ map.insert v6 c.args.prefix c.args.number) (joined v4 c.insert-in-Ipv6.new.self ≡ map.insert c.args.self.now c.args.prefix c.args.number)
    (λ is. ap (joined v4) is ∙ insert6 v4 v6 c.self.invariant.0 c.self.invariant.1 c.args.prefix c.args.number own ∙ ap (λ m. map.insert m c.args.prefix c.args.number) c.self.view_is)
    c.insert-in-Ipv6.ensures.ok
