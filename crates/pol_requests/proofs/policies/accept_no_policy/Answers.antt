use Rattle.std.proofs.Common.{ap, ◌∙◌}
use Rattle.pol_model.specs.Policies.{policy_at, removed}
use Rattle.pol_model.specs.Prefixes.{prefixes_released}
use Rattle.pol_store.specs.PolicyParts.{with_rows}
use Rattle.pol_store.specs.Store.{Stored}
use Rattle.pol_requests.proofs.PolicyMoves.{may_drop, may_take_out, moved, policy_taken_out}
use Rattle.pol_requests.proofs.Selectors.{loses_as}
use Rattle.pol_requests.proofs.policies.accept_no_policy.Goals as goal

pub unrefer_old-requires : goal.unrefer_old-requires
unrefer_old-requires c =
    let old = c.args.store.now in
    record {
      referred = may_drop (removed c.args.key old.state.policies) c.take_out-old.result (policy_at c.args.key old.state.policies) old c.take_out-old.new.self
          c.take_out-old.ensures.same c.take_out-old.ensures.removed (may_take_out c.args.key c.args.given_up old c.requires.may);
    }

pub returns-clause-done : goal.returns-clause-done
returns-clause-done c =
    let old = c.args.store.now in
    let dropped = c.unrefer_old.new.self in
    policy_taken_out c.args.key c.args.given_up c.take_out-old.result old c.release_prefixes.new.self c.take_out-old.ensures.removed
    (moved (removed c.args.key old.state.policies) c.take_out-old.result c.args.given_up old c.take_out-old.new.self dropped c.release_prefixes.new.self
    c.take_out-old.ensures.same c.unrefer_old.ensures.same c.unrefer_old.ensures.peers c.unrefer_old.ensures.loses
    (c.release_prefixes.ensures.rows ∙ ap (λ ps. with_rows (prefixes_released ps dropped.state.identities) dropped) c.as_slice.ensures))

pub returns-clause-selectors : goal.returns-clause-selectors
returns-clause-selectors c =
    loses_as c.args.store.now.cache c.take_out-old.new.self.cache c.unrefer_old.new.self.cache c.release_prefixes.new.self.cache (ap (λ (t : Stored). t.cache) c.take_out-old.ensures.same)
    c.unrefer_old.ensures.loses.selectors (ap (λ (t : Stored). t.cache) c.release_prefixes.ensures.rows)
