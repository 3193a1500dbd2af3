use Rattle.std.proofs.Common.{ap, ◌∙◌}
use Rattle.pol_model.specs.Policies.{applied, policy_at}
use Rattle.pol_model.specs.Prefixes.{prefixes_released}
use Rattle.pol_store.specs.PolicyParts.{with_rows}
use Rattle.pol_store.specs.Store.{Stored}
use Rattle.pol_requests.proofs.PolicyMoves.{may_drop, may_put, moved, policy_put}
use Rattle.pol_requests.proofs.Selectors.{loses_as}
use Rattle.pol_requests.proofs.policies.accept_policy.Goals as goal

pub unrefer_old-requires : goal.unrefer_old-requires
unrefer_old-requires c =
    let may = may_put c.args.new c.args.key c.args.taken c.args.given_up c.args.store.now c.requires.may in
    let old = c.args.store.now in
    record {
      referred = may_drop (applied c.args.new old.state.policies) c.put-old.result (policy_at c.args.new.policy.key old.state.policies) old c.put-old.new.self
          c.put-old.ensures.same c.put-old.ensures.replaced may.referred;
    }

pub returns-clause-done : goal.returns-clause-done
returns-clause-done c =
    let old = c.args.store.now in
    let dropped = c.unrefer_old.new.self in
    policy_put c.args.new c.args.key c.args.taken c.args.given_up c.put-old.result old c.release_prefixes.new.self c.put-old.ensures.replaced
    (moved (applied c.args.new old.state.policies) c.put-old.result c.args.given_up old c.put-old.new.self dropped c.release_prefixes.new.self
    c.put-old.ensures.same c.unrefer_old.ensures.same c.unrefer_old.ensures.peers c.unrefer_old.ensures.loses
    (c.release_prefixes.ensures.rows ∙ ap (λ ps. with_rows (prefixes_released ps dropped.state.identities) dropped) c.as_slice.ensures))

pub returns-clause-selectors : goal.returns-clause-selectors
returns-clause-selectors c =
    loses_as c.args.store.now.cache c.put-old.new.self.cache c.unrefer_old.new.self.cache c.release_prefixes.new.self.cache (ap (λ (t : Stored). t.cache) c.put-old.ensures.same)
    c.unrefer_old.ensures.loses.selectors (ap (λ (t : Stored). t.cache) c.release_prefixes.ensures.rows)
