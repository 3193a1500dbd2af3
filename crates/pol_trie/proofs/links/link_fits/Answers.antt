use Rattle.pol_trie.proofs.Calls.{used_here, well_here}
use Rattle.pol_trie.proofs.links.link_fits.Goals as goal

pub fits-requires : goal.fits-requires
fits-requires c =
    record { in_use = used_here c.args.nodes.now c.in-Some.at (well_here c.args.nodes.now c.args.link c.in-Some.at c.in-Some.is c.requires) }
