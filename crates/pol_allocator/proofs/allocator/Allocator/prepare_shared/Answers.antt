use Rattle.std.proofs.Common.{IfSome, sym, subst}
use Rattle.std.specs.Arc.{arc_value}
use Rattle.pol_prefixes.specs.Tables.{IsTableOf}
use Rattle.pol_allocator.proofs.allocator.Allocator.prepare_shared.Goals as goal

pub invariant_of-self : goal.invariant_of-self
invariant_of-self c =
    let rows = c.self.inside.identities in (
      c.self.invariant.0,
      c.self.invariant.1,
      c.once_planned.ensures.table rows c.self.invariant.1
          (subst (λ shared. IfSome shared (λ table. IsTableOf rows (arc_value table))) (sym c.take-shared.ensures.value) c.self.invariant.2),
    )
