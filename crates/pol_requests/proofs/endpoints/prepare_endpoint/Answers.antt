use Rattle.std.proofs.Common.{◌≡◌, ℕ, List, None, Err, refl, sym, ap, ◌∙◌}
use Rattle.std.proofs.lemmas.Bool.{false_from_ne_true}
use Rattle.pol_model.specs.Fault.{is_exhausted}
use Rattle.pol_model.specs.declared.answer.Fault.TheVariants as fault
use Rattle.pol_model.specs.declared.request.Request.TheVariants.{AddEndpoint}
use Rattle.pol_requests.specs.declared.prepared.TableChange.TheVariants as change
use Rattle.pol_requests.specs.Causes.{endpoint_fault}
use Rattle.pol_store.specs.Store.{Rooms, Stored}
use Rattle.pol_requests.proofs.Faults.{endpoint_exhausted, endpoint_first}
use Rattle.pol_requests.proofs.HeldLabels.{endpoint_prepared, with_identity}
use Rattle.pol_requests.proofs.Preparing.{all_prepared, as_before, before_both, refused, same_before}
use Rattle.pol_requests.proofs.endpoints.prepare_endpoint.Goals as goal

pub returns-in-Some-clause-prepared : goal.returns-in-Some-clause-prepared
returns-in-Some-clause-prepared g c =
    let old = c.args.store.now in
    let told = ap (λ (name : List ℕ). endpoint_fault old.state name c.args.labels.now c.args.address) (sym c.as_str.ensures) ∙ sym c.in-Some.ensures.fault in
    refused (AddEndpoint c.args.name.now c.args.labels.now c.args.address) old old c.in-Some.fault (same_before old old refl)
    (endpoint_first old.state c.args.name.now c.args.labels.now c.args.address c.in-Some.fault told)

pub returns-in-Ok-clause-prepared : goal.returns-in-Ok-clause-prepared
returns-in-Ok-clause-prepared g c =
    let old = c.args.store.now in
    let mid = c.reserve_endpoint.new.self in
    let new = c.hold_labels.new.self in
    let rooms : Rooms = record old.rooms { endpoints = mid.rooms.endpoints } in
    let labels = c.args.labels.now in
    let none : endpoint_fault old.state c.args.name.now labels c.args.address ≡ None =
    ap (λ (name : List ℕ). endpoint_fault old.state name labels c.args.address) (sym c.as_str.ensures) ∙ sym c.endpoint_fault.ensures.fault ∙ c.in_default.is in
    let free = false_from_ne_true (is_exhausted labels mid.state.identities) (λ full. let wrong = c.in-Ok.ensures.exhausted.1 full in absurd cc) in
    let room = ap (λ (stored : Stored). is_exhausted labels stored.state.identities) (sym c.reserve_endpoint.ensures.same) ∙ free in
    let number = c.in-Ok.field-0.number in
    all_prepared (AddEndpoint c.args.name.now labels c.args.address) old new _
    (endpoint_prepared labels rooms old mid new c.reserve_endpoint.ensures.same number c.in-Ok.field-0.plan c.in-Ok.ensures.held c.hold_labels.ensures.same
    c.args.name.now c.args.address _ c.hold_labels.ensures.ordered c.endpoint_without_number.ensures.within none room c.in_ok-reserve_endpoint.ensures.room
    (λ i. change.Endpoint (with_identity number (c.in_ok-endpoint.ensures.endpoint i)) (c.in_ok-own.ensures.equal i)))

pub returns-in-Err-Exhausted-clause-prepared : goal.returns-in-Err-Exhausted-clause-prepared
returns-in-Err-Exhausted-clause-prepared g c =
    let old = c.args.store.now in
    let mid = c.reserve_endpoint.new.self in
    let new = c.hold_labels.new.self in
    let rooms : Rooms = record old.rooms { endpoints = mid.rooms.endpoints } in
    let labels = c.args.labels.now in
    let none : endpoint_fault old.state c.args.name.now labels c.args.address ≡ None =
    ap (λ (name : List ℕ). endpoint_fault old.state name labels c.args.address) (sym c.as_str.ensures) ∙ sym c.endpoint_fault.ensures.fault ∙ c.in_default.is in
    let full = ap (λ (stored : Stored). is_exhausted labels stored.state.identities) (sym c.reserve_endpoint.ensures.same) ∙ c.in-Err-Exhausted.ensures.exhausted.0 (ap Err c.in-Err-Exhausted.field-0-is) in
    refused (AddEndpoint c.args.name.now labels c.args.address) old new fault.IdentitiesExhausted
    (before_both old mid new (as_before rooms old mid c.reserve_endpoint.ensures.same) (same_before mid new c.in-Err-Exhausted.ensures.err))
    (endpoint_exhausted old.state c.args.name.now labels c.args.address none full)
