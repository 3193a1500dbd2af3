use Rattle.std.proofs.Common.{◌-◌, ◌+◌, length, slice_get, sym, ap, ◌∙◌}
use Rattle.pol_sets.proofs.Parted.{bound_is}
use Rattle.pol_sets.proofs.blocks.bound_of.Goals as goal

pub returns-in-Some : goal.returns-in-Some
returns-in-Some c =
    ap (λ n. n + 1) c.from.ensures
    ∙ bound_is c.args.block.now _ (ap (λ xs. slice_get xs (length xs - 1)) (sym c.as_slice.ensures.numbers) ∙ sym c.in-Some.ensures.value)
