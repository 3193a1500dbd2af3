-- A named identity comes or goes, or the mode changes, as a request under way asks.
use Rattle.std.proofs.Common.{◌≡◌, ℕ, ◌<◌, true, false, List, [], ◌∷◌, ◌++◌, Option, None, option_map, refl, ap, ◌∙◌}
use Rattle.pol_model.specs.declared.options.Mode.{Mode}
use Rattle.pol_model.specs.declared.request.Request.{Request}
use Rattle.pol_model.specs.declared.request.Request.TheVariants.{AddEndpoint, RemoveEndpoint, AddIdentity, RemoveIdentity, Apply, Remove, SetMode}
use Rattle.pol_model.specs.declared.row.NamedIdentity.{NamedIdentity}
use Rattle.pol_model.specs.State.{State}
use Rattle.pol_model.specs.Endpoints.{named_of, without_named}
use Rattle.pol_model.specs.Identities.{is_local, number_for, released}
use Rattle.pol_model_laws.specs.Holding.{has_row}
use Rattle.pol_model_laws.specs.Keeps.{Keeps}
use Rattle.pol_tables.specs.Tables.{SameNumbers, number_named}
use Rattle.pol_tables.proofs.NamedNumbers.{same-push, same-without}
use Rattle.pol_requests.specs.declared.prepared.TableChange.TheVariants as change
use Rattle.pol_store.specs.Parts.{numbers_of, with_numbers}
use Rattle.pol_store.specs.Store.{Stored}
use Rattle.pol_requests.specs.Prepared.{Changes, IsUnderWay, MayChange, change_for, or_none}
use Rattle.pol_requests.proofs.ChangeParts.{differ, mode_of_change, name_of_change, number_of_change}
use Rattle.pol_requests.proofs.Faults.{may_be_named, name_there}
use Rattle.pol_requests.proofs.LiveNumbers.{held_name}
use Rattle.pol_requests.proofs.Doing.{done, number_goes, number_gone, number_there}

-- ---- a named identity comes
name_stands : (name : List ℕ) (number : ℕ) (old : Stored) (s : State) (request : Request) → Keeps s → IsUnderWay s request old → change.Named name number ≡ change_for s request
    → (0 < old.rooms.named) × (number_named name old.state.named ≡ None)
name_stands name number old s (AddIdentity n labels) keeps under asked =
    let own : name ≡ n = ap (name_of_change name) asked in
    let may = may_be_named s n labels under.may.no_fault in
    (under.room, under.like.named name ∙ ap (λ m. number_named m s.named) own ∙ ap (λ (o : Option NamedIdentity). option_map (λ identity. identity.number) o) may.new_name)
name_stands name number old s (AddEndpoint n labels address) keeps under asked = absurd (differ _ _ asked refl)
name_stands name number old s (RemoveEndpoint n) keeps under asked = absurd (differ _ _ asked refl)
name_stands name number old s (RemoveIdentity n) keeps under asked = absurd (differ _ _ asked refl)
name_stands name number old s (Apply policy) keeps under asked = absurd (differ _ _ asked refl)
name_stands name number old s (Remove key) keeps under asked = absurd (differ _ _ asked refl)
name_stands name number old s (SetMode mode) keeps under asked = absurd (differ _ _ asked refl)

pub name_may_stand : (name : List ℕ) (number : ℕ) (old : Stored) → MayChange old (change.Named name number) → (0 < old.rooms.named) × (number_named name old.state.named ≡ None)
name_may_stand name number old may = name_stands name number old may.state may.request may.keeps may.under_way may.asked

pub name_placed : (name : List ℕ) (number : ℕ) (old new : Stored)
    → new ≡ record old { state = record old.state { named = old.state.named ++ record { name = name; number = number } ∷ [] }; rooms = new.rooms }
    → Changes old (change.Named name number) new
name_placed name number old new is s (AddIdentity n labels) keeps under asked =
    let own : name ≡ n = ap (name_of_change name) asked in
    let its : number ≡ number_for labels s.identities = ap (number_of_change number) asked in
    let like = under.like in
    let row : List ℕ → ℕ → NamedIdentity = λ m k. record { name = m; number = k } in
    done s (AddIdentity n labels) old new under (ap (λ (stored : Stored). stored.cache) is) refl
    (record {
      revision = ap (λ (stored : Stored). stored.state.revision) is ∙ like.revision;
      mode = ap (λ (stored : Stored). stored.state.mode) is ∙ like.mode;
      identities = ap (λ (stored : Stored). stored.state.identities) is ∙ like.identities;
      named = λ other. ap (λ (stored : Stored). number_named other stored.state.named) is
          ∙ (λ i. number_named other (old.state.named ++ row (own i) (its i) ∷ []))
          ∙ same-push (row n (number_for labels s.identities)) old.state.named s.named like.named other;
      policies = ap (λ (stored : Stored). stored.state.policies) is ∙ like.policies;
      endpoints = ap (λ (stored : Stored). stored.state.endpoints) is ∙ like.endpoints;
    })
name_placed name number old new is s (AddEndpoint n labels address) keeps under asked = absurd (differ _ _ asked refl)
name_placed name number old new is s (RemoveEndpoint n) keeps under asked = absurd (differ _ _ asked refl)
name_placed name number old new is s (RemoveIdentity n) keeps under asked = absurd (differ _ _ asked refl)
name_placed name number old new is s (Apply policy) keeps under asked = absurd (differ _ _ asked refl)
name_placed name number old new is s (Remove key) keeps under asked = absurd (differ _ _ asked refl)
name_placed name number old new is s (SetMode mode) keeps under asked = absurd (differ _ _ asked refl)

-- ---- a named identity goes
name_number_goes : (name : List ℕ) (number : ℕ) (old : Stored) (s : State) (request : Request) → Keeps s → IsUnderWay s request old → change.NotNamed name number ≡ change_for s request
    → (has_row number old.state.identities ≡ true) × (is_local number ≡ false)
name_number_goes name number old s (RemoveIdentity n) keeps under asked =
    let there = name_there s n under.may.no_fault in
    let told : number ≡ or_none (option_map (λ (i : NamedIdentity). i.number) (named_of n s.named)) = ap (number_of_change number) asked in
    number_goes number s old.state.identities there.0.number (held_name s keeps n there.0 there.1)
    (told ∙ number_there (λ (i : NamedIdentity). i.number) (named_of n s.named) there.0 there.1) under.like.identities
name_number_goes name number old s (AddEndpoint n labels address) keeps under asked = absurd (differ _ _ asked refl)
name_number_goes name number old s (RemoveEndpoint n) keeps under asked = absurd (differ _ _ asked refl)
name_number_goes name number old s (AddIdentity n labels) keeps under asked = absurd (differ _ _ asked refl)
name_number_goes name number old s (Apply policy) keeps under asked = absurd (differ _ _ asked refl)
name_number_goes name number old s (Remove key) keeps under asked = absurd (differ _ _ asked refl)
name_number_goes name number old s (SetMode mode) keeps under asked = absurd (differ _ _ asked refl)

pub name_may_go : (name : List ℕ) (number : ℕ) (old : Stored) → MayChange old (change.NotNamed name number) → (has_row number old.state.identities ≡ true) × (is_local number ≡ false)
name_may_go name number old may = name_number_goes name number old may.state may.request may.keeps may.under_way may.asked

pub name_gone : (name : List ℕ) (number : ℕ) (old mid new : Stored)
    → mid ≡ record old { state = record old.state { named = mid.state.named }; rooms = mid.rooms }
    → SameNumbers mid.state.named (without_named name old.state.named)
    → new ≡ with_numbers (record (numbers_of mid) { rows = released number mid.state.identities }) mid
    → Changes old (change.NotNamed name number) new
name_gone name number old mid new mid_is same is s (RemoveIdentity n) keeps under asked =
    let there = name_there s n under.may.no_fault in
    let told : number ≡ or_none (option_map (λ (i : NamedIdentity). i.number) (named_of n s.named)) = ap (number_of_change number) asked in
    let own : name ≡ n = ap (name_of_change name) asked in
    let like = under.like in
    let middle : State → State = λ t. record t { identities = released number t.identities } in
    let state : new.state ≡ record old.state { named = mid.state.named; identities = released number old.state.identities } =
    ap (λ (stored : Stored). stored.state) is ∙ ap (λ (stored : Stored). middle stored.state) mid_is in
    done s (RemoveIdentity n) old new under (ap (λ (stored : Stored). stored.cache) is ∙ ap (λ (stored : Stored). stored.cache) mid_is) refl
    (record {
      revision = ap (λ (t : State). t.revision) state ∙ like.revision;
      mode = ap (λ (t : State). t.mode) state ∙ like.mode;
      identities = ap (λ (t : State). t.identities) state ∙ ap (released number) like.identities
          ∙ number_gone (λ (i : NamedIdentity). i.number) (named_of n s.named) there.0 number s.identities there.1 told;
      named = λ other. ap (λ (t : State). number_named other t.named) state ∙ same other
          ∙ ap (λ m. number_named other (without_named m old.state.named)) own
          ∙ same-without n old.state.named s.named like.named other;
      policies = ap (λ (t : State). t.policies) state ∙ like.policies;
      endpoints = ap (λ (t : State). t.endpoints) state ∙ like.endpoints;
    })
name_gone name number old mid new mid_is same is s (AddEndpoint n labels address) keeps under asked = absurd (differ _ _ asked refl)
name_gone name number old mid new mid_is same is s (RemoveEndpoint n) keeps under asked = absurd (differ _ _ asked refl)
name_gone name number old mid new mid_is same is s (AddIdentity n labels) keeps under asked = absurd (differ _ _ asked refl)
name_gone name number old mid new mid_is same is s (Apply policy) keeps under asked = absurd (differ _ _ asked refl)
name_gone name number old mid new mid_is same is s (Remove key) keeps under asked = absurd (differ _ _ asked refl)
name_gone name number old mid new mid_is same is s (SetMode mode) keeps under asked = absurd (differ _ _ asked refl)

-- ---- the mode changes
pub mode_changed : (mode : Mode) (old new : Stored) → new ≡ record old { state = record old.state { mode = mode } } → Changes old (change.Mode mode) new
mode_changed mode old new is s (SetMode m) keeps under asked =
    let own : mode ≡ m = ap (mode_of_change mode) asked in
    let like = under.like in
    done s (SetMode m) old new under (ap (λ (stored : Stored). stored.cache) is) refl
    (record {
      revision = ap (λ (stored : Stored). stored.state.revision) is ∙ like.revision;
      mode = ap (λ (stored : Stored). stored.state.mode) is ∙ own;
      identities = ap (λ (stored : Stored). stored.state.identities) is ∙ like.identities;
      named = λ other. ap (λ (stored : Stored). number_named other stored.state.named) is ∙ like.named other;
      policies = ap (λ (stored : Stored). stored.state.policies) is ∙ like.policies;
      endpoints = ap (λ (stored : Stored). stored.state.endpoints) is ∙ like.endpoints;
    })
mode_changed mode old new is s (AddEndpoint n labels address) keeps under asked = absurd (differ _ _ asked refl)
mode_changed mode old new is s (RemoveEndpoint n) keeps under asked = absurd (differ _ _ asked refl)
mode_changed mode old new is s (AddIdentity n labels) keeps under asked = absurd (differ _ _ asked refl)
mode_changed mode old new is s (RemoveIdentity n) keeps under asked = absurd (differ _ _ asked refl)
mode_changed mode old new is s (Apply policy) keeps under asked = absurd (differ _ _ asked refl)
mode_changed mode old new is s (Remove key) keeps under asked = absurd (differ _ _ asked refl)
