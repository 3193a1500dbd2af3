use Rattle.std.proofs.Common.{◌≡◌, ℕ, List, None, Err, is_some, false, true, refl, sym, ap, ◌∙◌}
use Rattle.std.proofs.lemmas.Bool.{false_from_ne_true}
use Rattle.pol_model.specs.Endpoints.{named_of}
use Rattle.pol_model.specs.Fault.{has_reserved, is_exhausted}
use Rattle.pol_model.specs.declared.answer.Fault.TheVariants as fault
use Rattle.pol_model.specs.declared.request.Request.TheVariants.{AddIdentity}
use Rattle.pol_tables.specs.Tables.{number_named}
use Rattle.pol_requests.specs.declared.prepared.TableChange.TheVariants as change
use Rattle.pol_store.specs.Store.{Rooms, Stored}
use Rattle.pol_requests.proofs.Faults.{name_exhausted, name_taken, not_some, some_number}
use Rattle.pol_requests.proofs.HeldLabels.{identity_prepared}
use Rattle.pol_requests.proofs.Preparing.{all_prepared, as_before, before_both, refused, same_before}
use Rattle.pol_requests.proofs.identities.prepare_identity.Goals as goal

pub returns-in-Ok-clause-prepared : goal.returns-in-Ok-clause-prepared
returns-in-Ok-clause-prepared g c =
    let old = c.args.store.now in
    let mid = c.reserve_name.new.self in
    let new = c.hold_labels.new.self in
    let rooms : Rooms = record old.rooms { named = mid.rooms.named } in
    let labels = c.args.labels.now in
    let allowed : has_reserved labels ≡ false = sym c.has_reserved.ensures ∙ c.if-has_reserved.false in
    let fresh : number_named c.args.name.now old.state.named ≡ None = not_some (number_named c.args.name.now old.state.named)
    (ap (λ (name : List ℕ). is_some (number_named name old.state.named)) (sym c.as_str.ensures) ∙ ap is_some (sym (c.find.ensures.found ∙ ap (number_named c.as_str.result.now) c.named.ensures.list)) ∙ sym c.is_some.ensures ∙ c.if-is_some.false) in
    let free = false_from_ne_true (is_exhausted labels mid.state.identities) (λ full. let wrong = c.in-Ok.ensures.exhausted.1 full in absurd cc) in
    let room = ap (λ (stored : Stored). is_exhausted labels stored.state.identities) (sym c.reserve_name.ensures.same) ∙ free in
    all_prepared (AddIdentity c.args.name.now labels) old new _
    (identity_prepared labels rooms old mid new c.reserve_name.ensures.same c.in-Ok.field-0.number c.in-Ok.field-0.plan c.in-Ok.ensures.held c.hold_labels.ensures.same
    c.args.name.now _ c.hold_labels.ensures.ordered allowed fresh room c.in_ok-reserve_name.ensures.room
    (ap (λ (name : List ℕ). change.Named name c.in-Ok.field-0.number) c.in_ok-own.ensures.equal))

pub returns-then-is_some-clause-prepared : goal.returns-then-is_some-clause-prepared
returns-then-is_some-clause-prepared g c =
    let old = c.args.store.now in
    let labels = c.args.labels.now in
    let allowed : has_reserved labels ≡ false = sym c.has_reserved.ensures ∙ c.if-has_reserved.false in
    let taken : is_some (named_of c.args.name.now old.state.named) ≡ true = sym (some_number (named_of c.args.name.now old.state.named))
    ∙ ap (λ (name : List ℕ). is_some (number_named name old.state.named)) (sym c.as_str.ensures) ∙ ap is_some (sym (c.find.ensures.found ∙ ap (number_named c.as_str.result.now) c.named.ensures.list)) ∙ sym c.is_some.ensures ∙ c.if-is_some.true in
    refused (AddIdentity c.args.name.now labels) old old fault.DuplicateIdentityName (same_before old old refl) (name_taken old.state c.args.name.now labels allowed taken)

pub returns-in-Err-Exhausted-clause-prepared : goal.returns-in-Err-Exhausted-clause-prepared
returns-in-Err-Exhausted-clause-prepared g c =
    let old = c.args.store.now in
    let mid = c.reserve_name.new.self in
    let new = c.hold_labels.new.self in
    let rooms : Rooms = record old.rooms { named = mid.rooms.named } in
    let labels = c.args.labels.now in
    let allowed : has_reserved labels ≡ false = sym c.has_reserved.ensures ∙ c.if-has_reserved.false in
    let fresh : is_some (named_of c.args.name.now old.state.named) ≡ false = sym (some_number (named_of c.args.name.now old.state.named))
    ∙ ap (λ (name : List ℕ). is_some (number_named name old.state.named)) (sym c.as_str.ensures) ∙ ap is_some (sym (c.find.ensures.found ∙ ap (number_named c.as_str.result.now) c.named.ensures.list)) ∙ sym c.is_some.ensures ∙ c.if-is_some.false in
    let full = ap (λ (stored : Stored). is_exhausted labels stored.state.identities) (sym c.reserve_name.ensures.same) ∙ c.in-Err-Exhausted.ensures.exhausted.0 (ap Err c.in-Err-Exhausted.field-0-is) in
    refused (AddIdentity c.args.name.now labels) old new fault.IdentitiesExhausted
    (before_both old mid new (as_before rooms old mid c.reserve_name.ensures.same) (same_before mid new c.in-Err-Exhausted.ensures.err))
    (name_exhausted old.state c.args.name.now labels allowed fresh full)
