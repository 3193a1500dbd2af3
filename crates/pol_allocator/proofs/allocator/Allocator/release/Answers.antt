use Rattle.std.proofs.Common.{sym, subst, ◌∙◌}
use Rattle.std.specs.Arc.{arc_value}
use Rattle.pol_prefix_table.specs.Table.{PrefixMap}
use Rattle.pol_prefixes.specs.Tables.{IsTableOf}
use Rattle.pol_prefixes.proofs.Numbers.{number_of_left}
use Rattle.pol_allocator.proofs.Sharing.{each_some}
use Rattle.pol_allocator.proofs.allocator.Allocator.release.Goals as goal

pub invariant_of-self : goal.invariant_of-self
invariant_of-self c =
    let rows = c.self.inside.identities in
    let left : (table : PrefixMap) → IsTableOf rows table → IsTableOf c.release.new.self table =
    λ table is. subst (λ rows. IsTableOf rows table) (sym c.release.ensures.rows) (λ own. is own ∙ sym (number_of_left rows c.self.invariant.0 c.args.number c.requires.not_local own)) in (
      c.release.ensures.sound,
      left c.self.inside.prefixes c.self.invariant.1,
      each_some c.self.inside.shared (λ table. left (arc_value table)) c.self.invariant.2,
    )
