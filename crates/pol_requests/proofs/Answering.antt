-- The answer to a request, told before it is done.
use Rattle.std.proofs.Common.{zero, suc, ◌≡◌, ℕ, ◌+◌, ◌<◌, max, not, Bool, true, false, nat_lt, cond, List, [], ◌∷◌, map, length, drop, get_or, count_by, Option, option_map, refl, sym, ap, subst, ◌∙◌, arith}
use Rattle.std.specs.List.{insert}
use Rattle.std.specs.Str.{bytes_eq}
use native.Mathlib.Numerals.{unary_clauses}
use Rattle.pol_data.proofs.Members.{In-get_or, every-in}
use Rattle.pol_model.specs.declared.request.Request.{Request}
use Rattle.pol_model.specs.declared.request.Request.TheVariants.{AddEndpoint, RemoveEndpoint, AddIdentity, RemoveIdentity, Apply, Remove, SetMode}
use Rattle.pol_model.specs.declared.row.Endpoint.{Endpoint}
use Rattle.pol_model.specs.declared.row.NamedIdentity.{NamedIdentity}
use Rattle.pol_model.specs.State.{State}
use Rattle.pol_model.specs.After.{after, new_endpoint}
use Rattle.pol_model.specs.Ascending.{Ascends}
use Rattle.pol_model.specs.Committed.{committed_of, identity_given, slots_of}
use Rattle.pol_model.specs.Endpoints.{free_slot, without_endpoint}
use Rattle.pol_model.specs.declared.answer.Committed.{Committed}
use Rattle.pol_model_laws.specs.Keeps.{IsLiveIn, Keeps}
use Rattle.pol_model_laws.specs.WithoutFaults.{MayCommit}
use Rattle.pol_model_laws.proofs.Done.{endpoint-added, identity-added}
use Rattle.pol_model_laws.proofs.Keyed.{above-In, placed-here}
use Rattle.pol_model_laws.proofs.StateLaws.{keeps-after}
use Rattle.pol_requests.specs.declared.prepared.TableChange.{TableChange}
use Rattle.pol_requests.specs.declared.prepared.Prepared.{Prepared}
use Rattle.pol_requests.specs.Answer.{FitsSlots, identity_in, slots_with}
use Rattle.pol_store.specs.Store.{Stored}
use Rattle.pol_requests.specs.Prepared.{IsPrepared, change_for}

-- ---- slots
-- wherever an endpoint is put in
pub slots-inserted : (i : ℕ) (endpoint : Endpoint) (endpoints : List Endpoint) → max (slots_of endpoints) (endpoint.slot + 1) ≡ slots_of (insert endpoints i endpoint)
slots-inserted zero endpoint endpoints = omega arith
slots-inserted (suc i) endpoint [] = omega arith
slots-inserted (suc i) endpoint (other ∷ others) = let rest = slots-inserted i endpoint others in omega (arith, rest)

module _ (name : List ℕ) where
  kept_slots : (b : Bool) (endpoint : Endpoint) (slot : ℕ) (others : List Endpoint) → endpoint.slot < slot → slots_of others ≡ slot + 1 → slots_of (cond b (endpoint ∷ others) others) ≡ slot + 1
  kept_slots true endpoint slot others less rest = omega (arith, less, rest)
  kept_slots false endpoint slot others less rest = rest

  -- the last endpoint of another name has the greatest slot
  pub last_kept : (endpoints : List Endpoint) (i : ℕ) (d : Endpoint) → Ascends (map (λ (endpoint : Endpoint). endpoint.slot) endpoints) → i < length endpoints
      → bytes_eq (get_or endpoints i d).name name ≡ false → without_endpoint name (drop (i + 1) endpoints) ≡ [] → slots_of (without_endpoint name endpoints) ≡ (get_or endpoints i d).slot + 1
  last_kept [] i d ascends within other none = absurd (omega arith)
  last_kept (endpoint ∷ others) zero d ascends within other none = rw other (ap (λ (rest : List Endpoint). slots_of (endpoint ∷ rest)) none ∙ omega arith)
  last_kept (endpoint ∷ others) (suc i) d ascends within other none =
      let there = In-get_or others i d (omega arith) in
      let next : i + 1 ≡ suc i = omega arith in
      let less = above-In (λ (e : Endpoint). e.slot) endpoint.slot (get_or others i d) others ascends.0 there in
      kept_slots (not (bytes_eq endpoint.name name)) endpoint (get_or others i d).slot (without_endpoint name others) less (last_kept others i d ascends.1 (omega arith) other (ap (λ n. without_endpoint name (drop n others)) next ∙ (simp unary_clauses at none)))

-- ---- the answer
slots_after : (s : State) (request : Request) → slots_with (change_for s request) s.endpoints ≡ slots_of (after s request).endpoints
slots_after s (AddEndpoint name labels address) =
    slots-inserted (count_by (λ (e : Endpoint). nat_lt e.slot (free_slot s.endpoints)) s.endpoints) (new_endpoint s name labels address) s.endpoints
slots_after s (RemoveEndpoint name) = refl
slots_after s (AddIdentity name labels) = refl
slots_after s (RemoveIdentity name) = refl
slots_after s (Apply policy) = refl
slots_after s (Remove key) = refl
slots_after s (SetMode mode) = refl

identity_after : (s : State) (request : Request) → Keeps s → MayCommit s request → identity_in (change_for s request) ≡ identity_given (after s request) request
identity_after s (AddEndpoint name labels address) keeps may = sym (ap (λ (o : Option Endpoint). option_map (λ (e : Endpoint). e.identity) o) (endpoint-added s name labels address keeps may))
identity_after s (RemoveEndpoint name) keeps may = refl
identity_after s (AddIdentity name labels) keeps may = sym (ap (λ (o : Option NamedIdentity). option_map (λ (i : NamedIdentity). i.number) o) (identity-added s name labels keeps may))
identity_after s (RemoveIdentity name) keeps may = refl
identity_after s (Apply policy) keeps may = refl
identity_after s (Remove key) keeps may = refl
identity_after s (SetMode mode) keeps may = refl

slots_fit : (s : State) (request : Request) → Keeps s → MayCommit s request → FitsSlots (change_for s request)
slots_fit s (AddEndpoint name labels address) keeps may =
    let new = new_endpoint s name labels address in
    (every-in (IsLiveIn (after s (AddEndpoint name labels address))) _ (keeps-after s (AddEndpoint name labels address) keeps may).endpoints new
    (placed-here (λ (e : Endpoint). e.slot) new s.endpoints)).slot
slots_fit s (RemoveEndpoint name) keeps may = tt
slots_fit s (AddIdentity name labels) keeps may = tt
slots_fit s (RemoveIdentity name) keeps may = tt
slots_fit s (Apply policy) keeps may = tt
slots_fit s (Remove key) keeps may = tt
slots_fit s (SetMode mode) keeps may = tt

-- what is told before the request is done is so once it is done
pub answered : (s : State) (request : Request) (old : Stored) (prepared : Prepared) (revision : ℕ) (identity : Option ℕ) (slots : ℕ) → Keeps s → IsPrepared s request old prepared
    → revision ≡ old.state.revision + 1 → identity ≡ identity_in prepared.change
    → ((t : State) → Keeps t → old.state.endpoints ≡ t.endpoints → FitsSlots prepared.change → slots ≡ slots_with prepared.change t.endpoints)
    → record { revision = revision; identity = identity; slots = slots } ≡ committed_of (after s request) request
answered s request old prepared revision identity slots keeps ready at given count =
    let fits : FitsSlots prepared.change = subst FitsSlots (sym ready.change) (slots_fit s request keeps ready.may) in
    let first : revision ≡ s.revision + 1 = at ∙ ap (λ n. n + 1) ready.like.revision in
    let second : identity ≡ identity_given (after s request) request = given ∙ ap identity_in ready.change ∙ identity_after s request keeps ready.may in
    let third : slots ≡ slots_of (after s request).endpoints = count s keeps ready.like.endpoints fits ∙ ap (λ (c : TableChange). slots_with c s.endpoints) ready.change ∙ slots_after s request in
    answer_of first second third
  where
    answer_of : {a b : ℕ} {c d : Option ℕ} {e f : ℕ} → a ≡ b → c ≡ d → e ≡ f → ◌≡◌ {A = Committed} (record { revision = a; identity = c; slots = e }) (record { revision = b; identity = d; slots = f })
    answer_of first second third = λ i. record { revision = first i; identity = second i; slots = third i }
