use Rattle.pol_peers.proofs.Refs.{refs_lost_further}
use Rattle.pol_peers.proofs.drop.drop_rule.Goals as goal

pub returns-clause-loses : goal.returns-clause-loses
returns-clause-loses c =
    let first = c.args.cache.now in
    let second = c.drop_section-2.new.cache in
    let last = c.drop_section-4.new.cache in
    refs_lost_further first second last
    (refs_lost_further first c.drop_section.new.cache second c.drop_section.ensures.loses c.drop_section-2.ensures.loses)
    (refs_lost_further second c.drop_section-3.new.cache last c.drop_section-3.ensures.loses c.drop_section-4.ensures.loses)
