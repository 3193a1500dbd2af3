use Rattle.std.proofs.Common.{ap}
use Rattle.pol_peers.proofs.Numbering.{loses_none}
use Rattle.pol_store.specs.Store.{Stored}
use Rattle.pol_requests.proofs.TakenBack.{endpoint_back, endpoint_may_give_back, name_back, name_may_give_back, policy_back, policy_may_give_back}
use Rattle.pol_requests.proofs.change.withdraw.Goals as goal

pub release-requires : goal.release-requires
release-requires c =
    let may = endpoint_may_give_back c.in-Endpoint.endpoint c.in-Endpoint.field-1 c.args.store.now c.args.prepared c.in-Endpoint.is c.requires.ready in
    record { held = may.held; not_local = may.not_local }

pub returns-in-Endpoint-clause-back : goal.returns-in-Endpoint-clause-back
returns-in-Endpoint-clause-back c =
    endpoint_back c.in-Endpoint.endpoint c.in-Endpoint.field-1 c.args.store.now c.release.new.self c.args.prepared c.in-Endpoint.is c.release.ensures.released

pub returns-in-Endpoint-clause-selectors : goal.returns-in-Endpoint-clause-selectors
returns-in-Endpoint-clause-selectors c = loses_none c.args.store.now.cache c.release.new.self.cache (ap (λ (t : Stored). t.cache) c.release.ensures.released)

pub release-requires-in-Named : goal.release-requires-in-Named
release-requires-in-Named c =
    let may = name_may_give_back c.in-Named.field-0 c.in-Named.number c.args.store.now c.args.prepared c.in-Named.is c.requires.ready in
    record { held = may.held; not_local = may.not_local }

pub returns-in-Named-clause-back : goal.returns-in-Named-clause-back
returns-in-Named-clause-back c =
    name_back c.in-Named.field-0 c.in-Named.number c.args.store.now c.release-in-Named.new.self c.args.prepared c.in-Named.is c.release-in-Named.ensures.released

pub returns-in-Named-clause-selectors : goal.returns-in-Named-clause-selectors
returns-in-Named-clause-selectors c = loses_none c.args.store.now.cache c.release-in-Named.new.self.cache (ap (λ (t : Stored). t.cache) c.release-in-Named.ensures.released)

pub withdraw_policy-requires : goal.withdraw_policy-requires
withdraw_policy-requires c = record {
  referred = policy_may_give_back c.in-Policy.stamped c.in-Policy.key c.in-Policy.taken c.in-Policy.given_up c.args.store.now c.args.prepared c.in-Policy.is c.requires.ready;
}

pub returns-in-Policy-clause-back : goal.returns-in-Policy-clause-back
returns-in-Policy-clause-back c =
    policy_back c.in-Policy.stamped c.in-Policy.key c.in-Policy.taken c.in-Policy.given_up c.args.store.now c.withdraw_policy.new.store c.args.prepared c.in-Policy.is c.withdraw_policy.ensures.back
