use Rattle.std.proofs.Common.{sym, ◌∙◌, ap, map, subst}
use Rattle.pol_taken.specs.PeerRows.{AreRowsFor, AreSetsFor}
use Rattle.pol_taken.proofs.Adding.{are_sets}
use Rattle.pol_taken.proofs.sets.sets_of.Goals as goal

pub returns : goal.returns
returns c =
    let live = c.args.cache.now.live in
    let filters = c.args.filters.now in
    let peers = ap (map (λ p. p.now)) c.deref.ensures.value ∙ c.in_ok-peers.ensures in
    record {
      sets = subst (AreSetsFor live filters) (sym c.in_ok-sets.ensures.rows)
          (are_sets live c.fits_together.ensures.sound.live filters c.in_ok-rows.rows
          (subst (λ ps. AreRowsFor live ps c.in_ok-rows.rows) peers c.in_ok-rows.ensures.rows));
    }
