use Rattle.std.proofs.Common.{Err, ap, sym, subst, ◌∙◌}
use Rattle.std.specs.List.{IsDistinct}
use Rattle.pol_addr.specs.Prefix.{same_prefix}
use Rattle.pol_model.specs.declared.request.Request.TheVariants.{Apply}
use Rattle.pol_model.specs.Policies.{policy_at}
use Rattle.pol_allocator.specs.Held.{Held}
use Rattle.pol_requests.specs.declared.error.PrepareError.{PrepareError}
use Rattle.pol_rule.specs.Listed.{listed_peers}
use Rattle.pol_requests.specs.Prepared.{PreparesOrNot}
use Rattle.pol_store.specs.Store.{Stored}
use Rattle.pol_requests.proofs.PolicySteps.{given_back, holds_here, may_give_up, once_each, parts_here, policy_prepared, policy_refused, policy_too_much, refers_here}
use Rattle.pol_requests.proofs.Preparing.{all_prepared}
use Rattle.pol_requests.proofs.Selectors.{gains_given_back, gains_held}
use Rattle.pol_requests.proofs.policies.prepare_policy.Goals as goal

pub hold_prefixes-requires-clause-once : goal.hold_prefixes-requires-clause-once
hold_prefixes-requires-clause-once g c =
    subst (IsDistinct same_prefix) (sym (c.as_slice-3.ensures ∙ c.in_ok-new.ensures.given_up)) (once_each (policy_at c.args.policy.now.key c.reserve_policy.new.self.state.policies))

pub hold_prefixes-requires-clause-apart : goal.hold_prefixes-requires-clause-apart
hold_prefixes-requires-clause-apart g c =
    may_give_up c.as_slice-2.result.now c.as_slice-3.result.now c.args.policy.now.key c.args.store.now c.reserve_policy.new.self c.refer.new.self c.requires.stands
    c.reserve_policy.ensures.same c.refer.ensures.same (c.as_slice-3.ensures ∙ c.in_ok-new.ensures.given_up)

pub returns-in-Ok-clause-prepared : goal.returns-in-Ok-clause-prepared
returns-in-Ok-clause-prepared g c =
    let old = c.args.store.now in
    let policy = c.args.policy.now in
    let reserved = c.reserve_policy.new.self in
    let referred = c.refer.new.self in
    let held = c.hold_prefixes.new.self in
    let new = c.in_ok-new.new in
    let refers = refers_here policy old reserved referred c.reserve_policy.ensures.same c.in_ok-reserve_policy.ensures.room c.refer.ensures.same c.in_ok-refer.ensures.ok c.refer.ensures.gains in
    let parts = parts_here policy old reserved new.stamped new.key new.taken new.given_up c.reserve_policy.ensures.same (record {
      stamped_is = c.in_ok-new.ensures.stamped;
      key_is = c.in_ok-new.ensures.key;
      taken_is = c.in_ok-new.ensures.taken;
      given_up_is = c.in_ok-new.ensures.given_up;
    }) in
    let holds = holds_here new.taken new.given_up c.as_slice-2.result.now c.as_slice-3.result.now referred held c.in-Ok.plan c.as_slice-2.ensures c.as_slice-3.ensures (record {
      within = c.in-Ok.ensures.within;
      enough = λ more. (let wrong = c.in-Ok.ensures.exhausted.1 more in absurd cc);
      rows = c.in-Ok.ensures.rows;
      sets = c.hold_prefixes.ensures.sets;
      plan_is = c.in-Ok.ensures.plan;
    }) in
    all_prepared (Apply policy) old held _ (policy_prepared policy old referred held new.stamped new.key new.taken new.given_up c.in-Ok.plan c.requires.short refers parts holds)

pub returns-in-Ok-clause-selectors : goal.returns-in-Ok-clause-selectors
returns-in-Ok-clause-selectors g c =
    gains_held c.args.store.now.cache c.reserve_policy.new.self.cache c.refer.new.self.cache c.hold_prefixes.new.self.cache (ap (λ (t : Stored). t.cache) c.reserve_policy.ensures.same)
    c.refer.ensures.gains.selectors c.hold_prefixes.ensures.sets

pub returns-in-Err-clause-prepared : goal.returns-in-Err-clause-prepared
returns-in-Err-clause-prepared g c =
    let old = c.args.store.now in
    let policy = c.args.policy.now in
    let referred = c.refer.new.self in
    let refers = refers_here policy old c.reserve_policy.new.self referred c.reserve_policy.ensures.same c.in_ok-reserve_policy.ensures.room c.refer.ensures.same c.in_ok-refer.ensures.ok c.refer.ensures.gains in
    let still = given_back policy old referred c.hold_prefixes.new.self c.unrefer.new.self refers c.in-Err.ensures.err c.unrefer.ensures.same c.unrefer.ensures.peers c.unrefer.ensures.loses in
    subst (λ (error : PrepareError). PreparesOrNot (Apply policy) old c.unrefer.new.self (Err error)) (sym c.policy_error.ensures)
    (policy_refused policy old referred c.unrefer.new.self c.as_slice-2.result.now c.in-Err.error refers (c.as_slice-2.ensures ∙ c.in_ok-new.ensures.taken) c.in-Err.ensures.exhausted.0 still)

pub returns-in-Err-clause-selectors : goal.returns-in-Err-clause-selectors
returns-in-Err-clause-selectors g c =
    gains_given_back (listed_peers c.args.policy.now) c.args.store.now.cache c.reserve_policy.new.self.cache c.refer.new.self.cache c.hold_prefixes.new.self.cache c.unrefer.new.self.cache
    c.fits_together.ensures.sound.live (ap (λ (t : Stored). t.cache) c.reserve_policy.ensures.same) c.refer.ensures.gains.selectors c.in_ok-refer.ensures.ok
    (ap (λ (t : Stored). t.cache) c.in-Err.ensures.err) c.unrefer.ensures.loses.selectors c.unrefer.ensures.peers

pub returns-then-are_too_many-clause-prepared : goal.returns-then-are_too_many-clause-prepared
returns-then-are_too_many-clause-prepared g c =
    policy_too_much c.args.policy.now c.args.store.now c.reserve_policy.new.self c.as_slice.result.now c.reserve_policy.ensures.same
    (c.as_slice.ensures ∙ c.in_ok-new.ensures.taken)
    (rw (c.identities.ensures.rows ∙ ap (λ (held : Held). held.rows) c.numbers.ensures.numbers) at (sym c.are_too_many.ensures.many ∙ c.if-are_too_many.true))
