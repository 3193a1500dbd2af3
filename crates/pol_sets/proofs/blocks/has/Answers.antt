use Rattle.std.proofs.Common.{◌==◌, ◌∙◌, sym, ap, subst}
use Rattle.std.specs.List.{list_any}
use Rattle.std.specs.List.Sorted.{IsStrictlySortedBy}
use Rattle.std.specs.Ordering.{nat_cmp}
use Rattle.pol_sets.proofs.Search.{found_is}
use Rattle.pol_sets.proofs.blocks.has.Goals as goal

pub returns : goal.returns
returns c =
    c.is_ok.ensures.value
    ∙ found_is _ _ _ c.binary_search.ensures.position (subst (IsStrictlySortedBy nat_cmp) (sym c.as_slice.ensures.numbers) c.requires.ascends)
    ∙ ap (list_any (λ own. own == c.args.id)) c.as_slice.ensures.numbers
