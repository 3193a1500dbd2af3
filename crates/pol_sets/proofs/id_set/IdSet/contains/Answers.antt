use Rattle.std.proofs.Common.{◌==◌, ◌||◌, ◌∙◌, sym, ap, subst}
use Rattle.std.specs.List.{list_any}
use Rattle.std.proofs.lemmas.List.Folds.{list_any-append}
use Rattle.pol_sets.specs.Blocks.{numbers_in}
use Rattle.pol_sets.proofs.IdLemmas.{Ascends}
use Rattle.pol_sets.proofs.Parted.{back_ascends, front_ascends}
use Rattle.pol_sets.proofs.Search.{found_is}
use Rattle.pol_sets.proofs.id_set.IdSet.contains.Goals as goal

pub has_in-requires : goal.has_in-requires
has_in-requires c = record {
  ascend = back_ascends c.parts.result.0.now (numbers_in c.parts.result.1.now) (subst Ascends c.parts.ensures.same c.parts.ensures.set.ascends);
}

pub returns-then-is_ok : goal.returns-then-is_ok
returns-then-is_ok c =
    let part = c.parts.result.0.now in
    let later = numbers_in c.parts.result.1.now in
    let ascend = front_ascends part later (subst Ascends c.parts.ensures.same c.parts.ensures.set.ascends) in
    c.if-is_ok.true
    ∙ sym (ap (list_any (λ own. own == c.args.id)) c.parts.ensures.same
    ∙ list_any-append (λ own. own == c.args.id) part later
    ∙ ap (λ b. b || list_any (λ own. own == c.args.id) later) (sym (c.is_ok.ensures.value ∙ found_is _ _ _ c.binary_search.ensures.position ascend) ∙ c.if-is_ok.true))

pub returns-else-is_ok : goal.returns-else-is_ok
returns-else-is_ok c =
    let part = c.parts.result.0.now in
    let later = numbers_in c.parts.result.1.now in
    let ascend = front_ascends part later (subst Ascends c.parts.ensures.same c.parts.ensures.set.ascends) in
    c.has_in.ensures
    ∙ sym (ap (list_any (λ own. own == c.args.id)) c.parts.ensures.same
    ∙ list_any-append (λ own. own == c.args.id) part later
    ∙ ap (λ b. b || list_any (λ own. own == c.args.id) later) (sym (c.is_ok.ensures.value ∙ found_is _ _ _ c.binary_search.ensures.position ascend) ∙ c.if-is_ok.false))
