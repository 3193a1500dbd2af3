use Rattle.std.proofs.Common.{◌≡◌, Some, map, sym, ap, ◌∙◌, subst}
use Rattle.std.specs.List.{AllByRecursion}
use Rattle.pol_sets.specs.declared.sets.SetRow.{SetRow}
use Rattle.pol_selcache.specs.Live.{number_of}
use Rattle.pol_taken.specs.Known.{KnownRows, key_of}
use Rattle.pol_taken.specs.PeerRows.{AreSetsFor}
use Rattle.pol_taken.proofs.AsRead.{sets_as_read}
use Rattle.pol_taken.proofs.Relisting.{numbers_now, sets_made}
use Rattle.pol_taken.proofs.known_peers.KnownPeers.sets_of.Goals as goal

pub returns-then-is_unchanged-clause-sets : goal.returns-then-is_unchanged-clause-sets
returns-then-is_unchanged-clause-sets c =
    let cache = c.args.cache.now in
    let kept = c.args.self.now in
    let sound = c.fits_together.ensures.sound in
    let known = c.requires.known.rows in
    let live = c.have_selectors.ensures.0 c.if-not-have_selectors.false in
    λ filters listing.
    subst (AreSetsFor cache.live filters) (sym (c.in_ok-shared.ensures.same ∙ ap (λ (k : KnownRows). k.rows) c.self.view_is))
    (sets_as_read cache sound filters kept.read kept.rows listing (c.is_unchanged.ensures.0 c.if-is_unchanged.true) (numbers_now cache sound kept.read kept.rows known live) known)

pub rows_now-requires : goal.rows_now-requires
rows_now-requires c =
    let cache = c.args.cache.now in
    let kept = c.args.self.now in
    let rows = c.as_slice.ensures.rows ∙ ap (λ (k : KnownRows). k.rows) c.self.view_is in
    let live = c.have_selectors.ensures.0 c.if-not-have_selectors.false in
    record {
      numbers = subst (AllByRecursion (λ (row : SetRow). number_of row.peer cache.live ≡ Some row.selector)) (sym rows)
          (numbers_now cache c.fits_together.ensures.sound kept.read kept.rows c.requires.known.rows live);
    }

pub returns-clause-sets : goal.returns-clause-sets
returns-clause-sets c =
    let rows = c.as_slice.ensures.rows ∙ ap (λ (k : KnownRows). k.rows) c.self.view_is in
    λ filters listing.
    sets_made c.args.cache.now c.fits_together.ensures.sound filters c.args.self.now.rows c.in_ok-sets.sets listing (c.in_ok-sets.ensures.keys ∙ ap (map key_of) rows) c.in_ok-sets.ensures.live
