use Rattle.std.proofs.Common.{refl, ap, ◌∙◌}
use Rattle.std.proofs.lemmas.Option.{get_or_from_slice_get}
use Rattle.pol_selectors.specs.declared.spots.Spot.{Spot}
use Rattle.pol_selectors.proofs.spots.put_none.Goals as goal

pub returns : goal.returns
returns c = record {
  spot = c.requires.place.spot;
  put = _;
  at = c.requires.place.at;
  is = refl;
  number = ap (λ (spot : Spot). spot.number) (c.index_mut.ensures.value ∙ get_or_from_slice_get c.args.spots.now.items c.args.place c.requires.place.spot c.index_mut.result.now c.requires.place.at);
  live = refl;
}
