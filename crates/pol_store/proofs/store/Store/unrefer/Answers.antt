use Rattle.std.proofs.Common.{sym, subst}
use Rattle.pol_rule.specs.Listed.{listed_peers}
use Rattle.pol_peers.specs.Numbering.{LosesRefs}
use Rattle.pol_peers.specs.References.{HasRefs}
use Rattle.pol_store.specs.Store.{Stored}
use Rattle.pol_store.proofs.Kept.{listed_less, told_still}
use Rattle.pol_store.proofs.store.Store.unrefer.Goals as goal

pub unrefer-requires : goal.unrefer-requires
unrefer-requires c = record {
  referred = subst (λ (t : Stored). HasRefs (listed_peers c.args.policy.now) t.cache.live) (sym c.self.view_is) c.requires.referred;
}

pub returns-clause-loses : goal.returns-clause-loses
returns-clause-loses c = subst (λ (t : Stored). LosesRefs t.cache c.unrefer.new.self.cache) c.self.view_is c.unrefer.ensures.loses

pub invariant_of-self : goal.invariant_of-self
invariant_of-self c = (
  c.self.invariant.0,
  c.self.invariant.1,
  c.self.invariant.2,
  told_still c.self.inside.endpoints.list c.self.inside.numbers.rows c.unrefer.new.self.rows c.self.inside.addresses c.unrefer.ensures.rows c.self.invariant.3,
  listed_less c.self.inside.numbers.cache c.unrefer.new.self.cache c.self.inside.kept c.unrefer.ensures.loses c.self.invariant.4,
)
