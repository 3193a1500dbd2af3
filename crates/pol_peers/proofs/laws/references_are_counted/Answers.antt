use Rattle.std.proofs.Common.{◌∙◌}
use Rattle.pol_peers.proofs.Counts.{refs_dropped, refs_held, refs_may_drop}
use Rattle.pol_peers.proofs.laws.references_are_counted.Goals as goal

pub returns : goal.returns
returns c = record {
  held = refs_held;
  may_drop = refs_may_drop;
  dropped = refs_dropped;
  any_order = λ held others live same refs p. refs p ∙ same p;
}
