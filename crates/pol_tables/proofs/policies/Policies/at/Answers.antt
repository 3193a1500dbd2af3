use Rattle.std.proofs.Common.{◌<◌, List, length, slice_get, ap, sym, ◌∙◌, subst}
use Rattle.pol_model.specs.declared.row.Stamped.{Stamped}
use Rattle.pol_tables.proofs.Queues.{read_at}
use Rattle.pol_tables.proofs.policies.Policies.at.Goals as goal

pub returns : goal.returns
returns c = record {
  at = ap (λ (rows : List Stamped). slice_get rows c.args.place) (sym c.as_slice.ensures.list)
      ∙ read_at c.as_slice.result.now c.args.place c.index-as_slice-place.result (subst (λ (rows : List Stamped). c.args.place < length rows) (sym c.as_slice.ensures.list) c.requires.within) c.index-as_slice-place.is;
}
