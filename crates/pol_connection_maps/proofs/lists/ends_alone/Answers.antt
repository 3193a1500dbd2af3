use Rattle.std.proofs.Common.{◌∙◌, ap}
use Rattle.std.proofs.lemmas.Result.{IfOk-weaker}
use Rattle.pol_connection_maps.specs.EndRows.{end_rows}
use Rattle.pol_connection_maps.proofs.Whole.{alone_is}
use Rattle.pol_connection_maps.proofs.lists.ends_alone.Goals as goal

pub returns : goal.returns
returns c =
    IfOk-weaker c.names_alone.result _ _ (λ names made.
    alone_is c.args.one.now c.args.other.now c.in_ok-regions.regions.items c.deref-3.result.now c.deref-4.result.now names.items c.in_ok-regions.ensures
    (c.deref-3.ensures.value ∙ c.in_ok-ends_one.ensures ∙ ap (end_rows c.args.one.now) c.deref.ensures.value)
    (c.deref-4.ensures.value ∙ c.in_ok-ends_other.ensures ∙ ap (end_rows c.args.other.now) c.deref-2.ensures.value) made)
    c.names_alone.ensures
