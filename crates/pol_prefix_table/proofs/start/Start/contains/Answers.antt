use Rattle.std.proofs.Common.{◌≡◌, ◌-◌, ◌/◌, ◌^◌, ap, sym, ◌∙◌, arith}
use Rattle.std.proofs.lemmas.Bool.{eqb-true}
use Rattle.pol_addr.specs.Address.{bits_of}
use Rattle.pol_addr.specs.Families.{width}
use Rattle.pol_prefix_table.proofs.StartPlaces.{begins_there}
use Rattle.pol_prefix_table.proofs.start.Start.contains.Goals as goal

pub returns : goal.returns
returns g c is =
    let start = c.self.inside in
    let addr = g.B.Bits.seen c.args.bits in
    let first : bits_of addr / 2 ^ (width g.B.Bits.family - 32) / 2 ^ (32 - start.len) ≡ start.place = ap (λ n. n / 2 ^ (32 - start.len)) (sym c.high.ensures.value) ∙ eqb-true _ _ is in
    rw (← c.self.view_is) (begins_there g.B.Bits.family start.len start.place addr c.high.ensures.family (omega (arith, c.self.invariant.1)) first)
