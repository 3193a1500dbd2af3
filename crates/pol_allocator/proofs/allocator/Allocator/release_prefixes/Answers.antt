use Rattle.std.proofs.Common.{IfSome, sym, subst}
use Rattle.std.specs.Arc.{arc_value}
use Rattle.pol_model_laws.specs.Keeps.{KeepsRows}
use Rattle.pol_model_laws.proofs.RowLaws.{keep_prefixes_released}
use Rattle.pol_allocator.specs.Sharing.{IsTableBut, is_gone}
use Rattle.pol_allocator.proofs.Sharing.{each_some, released_but}
use Rattle.pol_allocator.proofs.allocator.Allocator.release_prefixes.Goals as goal

pub once_released-requires : goal.once_released-requires
once_released-requires c =
    let rows = c.self.inside.identities in
    let left = c.release_prefixes.new.identities in
    let prefixes = c.args.prefixes.now in
    record {
      others = subst (λ shared. IfSome shared (λ table. IsTableBut (is_gone prefixes left) left (arc_value table))) (sym c.take-shared.ensures.value)
          (each_some c.self.inside.shared (λ table. released_but prefixes rows left c.release_prefixes.ensures.rows (arc_value table) c.self.invariant.0) c.self.invariant.2);
    }

pub invariant_of-self : goal.invariant_of-self
invariant_of-self c = (
  subst KeepsRows (sym c.release_prefixes.ensures.rows) (keep_prefixes_released c.args.prefixes.now c.self.inside.identities c.self.invariant.0),
  c.release_prefixes.ensures.table,
  c.once_released.ensures.table,
)
