use Rattle.std.proofs.Common.{subst, sym, arith}
use Rattle.pol_taken.specs.Known.{AreUnchanged}
use Rattle.pol_taken.specs.PeerRows.{AreSetsFor}
use Rattle.pol_taken.proofs.AsRead.{known_as_read, selectors_live, unchanged_now}
use Rattle.pol_taken.proofs.known_peers.KnownPeers.of.Goals as goal

pub returns-clause-known : goal.returns-clause-known
returns-clause-known c = λ filters are.
    let cache = c.args.cache.now in
    let rows = c.in_ok-share.field-0 in
    let own = subst (AreSetsFor cache.live filters) (sym c.in_ok-share.ensures.same) are in
    let known = known_as_read cache c.newest.ensures.sound filters (record { rows = rows; read = c.newest.result }) own (omega (arith, c.newest.ensures.newest)) in (
      known.0,
      known.1,
      record {
        live = selectors_live cache rows own.selectors;
        unchanged = subst (λ n. AreUnchanged cache n rows) (sym c.newest.ensures.newest) (unchanged_now cache c.newest.ensures.sound rows);
      },
    )
