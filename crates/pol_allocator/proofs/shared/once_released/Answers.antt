use Rattle.std.proofs.Common.{refl, sym, ◌∙◌}
use Rattle.std.specs.Arc.{arc_value}
use Rattle.pol_allocator.proofs.Sharing.{each_some, none_gone}
use Rattle.pol_allocator.proofs.shared.once_released.Goals as goal

pub returns-then-not-is_any_gone : goal.returns-then-not-is_any_gone
returns-then-not-is_any_gone c =
    let some = sym c.is_any_gone.ensures ∙ c.if-not-is_any_gone.true in
    record {
      table = each_some c.args.shared (λ table. none_gone c.args.prefixes.now c.args.identities.now (arc_value table) some) c.requires.others;
      kept = λ _. refl;
    }
