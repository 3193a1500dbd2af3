use Rattle.std.proofs.Common.{sym, subst}
use Rattle.pol_rule.specs.Listed.{listed_peers}
use Rattle.pol_peers.specs.Numbering.{LosesRefs}
use Rattle.pol_peers.specs.References.{HasRefs}
use Rattle.pol_allocator.specs.Held.{Held}
use Rattle.pol_allocator.proofs.allocator.Allocator.unrefer.Goals as goal

pub drop_peers-requires : goal.drop_peers-requires
drop_peers-requires c = record {
  held = subst (λ (held : Held). HasRefs (listed_peers c.args.policy.now) held.cache.live) (sym c.self.view_is) c.requires.referred;
}

pub returns-clause-loses : goal.returns-clause-loses
returns-clause-loses c = subst (λ (held : Held). LosesRefs held.cache c.drop_peers.new.cache) c.self.view_is c.drop_peers.ensures.loses
