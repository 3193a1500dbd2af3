use Rattle.std.proofs.Common.{refl, ap, sym, subst, ◌∙◌}
use Rattle.pol_model.specs.Prefixes.{prefixes_released}
use Rattle.pol_rule.specs.Listed.{listed_peers}
use Rattle.pol_peers.specs.References.{HasRefs}
use Rattle.pol_store.specs.PolicyParts.{with_rows}
use Rattle.pol_store.specs.Store.{Stored}
use Rattle.pol_requests.proofs.PolicyMoves.{policy_back}
use Rattle.pol_requests.proofs.Selectors.{loses_as}
use Rattle.pol_requests.proofs.policies.withdraw_policy.Goals as goal

pub unrefer-requires : goal.unrefer-requires
unrefer-requires c = record {
  referred = subst (λ (t : Stored). HasRefs (listed_peers c.args.policy.now) t.cache.live) (sym c.release_prefixes.ensures.rows) c.requires.referred;
}

pub returns-clause-back : goal.returns-clause-back
returns-clause-back c =
    let old = c.args.store.now in
    policy_back c.args.policy.now c.args.taken.now old c.release_prefixes.new.self c.unrefer.new.self
    (c.release_prefixes.ensures.rows ∙ ap (λ ps. with_rows (prefixes_released ps old.state.identities) old) c.as_slice.ensures)
    c.unrefer.ensures.same c.unrefer.ensures.peers c.unrefer.ensures.loses

pub returns-clause-selectors : goal.returns-clause-selectors
returns-clause-selectors c =
    loses_as c.args.store.now.cache c.release_prefixes.new.self.cache c.unrefer.new.self.cache c.unrefer.new.self.cache (ap (λ (t : Stored). t.cache) c.release_prefixes.ensures.rows)
    c.unrefer.ensures.loses.selectors refl
