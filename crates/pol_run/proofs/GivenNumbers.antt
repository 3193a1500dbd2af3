-- The number that a commit gives is one that label sets take: it is far below 64 bits.
use Rattle.std.proofs.Common.{◌≡◌, ℕ, zero, suc, ◌^◌, ◌<◌, ◌≤◌, Bool, true, false, not, ◌&&◌, nat_lt, List, [], ◌∷◌, ◌++◌, take, find, insert, count_by, slice_get, Option, None, Some, option_map, is_none, bytes_eq, inl, inr, refl, sym, ap, ◌∙◌, subst, arith, leb-false, ltb-false, lt-ltb, true≢false}
use Rattle.pol_answer.specs.Shown.{is_read_identity, is_u64}
use Rattle.pol_data.proofs.Members.{In}
use Rattle.pol_model_laws.proofs.Lives.{after_append}
use Rattle.pol_model_laws.proofs.Membership.{In-append, In-insert, find-In, none-In}
use Rattle.pol_model_laws.proofs.NoFault.{add_endpoint, add_identity}
use Rattle.pol_labels.specs.Same.{same_labels}
use Rattle.pol_labels.specs.declared.label.Label.{Label}
use Rattle.pol_model.specs.After.{after, new_endpoint, start, state_of}
use Rattle.pol_model.specs.Committed.{identity_given}
use Rattle.pol_model.specs.Endpoints.{endpoint_of, named_of}
use Rattle.pol_model.specs.Fault.{fault_of, is_exhausted}
use Rattle.pol_model.specs.Identities.{free_number, is_local, number_for, number_of_labels, or_free}
use Rattle.pol_model.specs.State.{State}
use Rattle.pol_model.specs.declared.limits.TheConstants.{CLUSTER_FIRST, CLUSTER_LAST, LOCAL_FIRST}
use Rattle.pol_model.specs.declared.options.Options.{Options}
use Rattle.pol_model.specs.declared.request.Request.{Request}
use Rattle.pol_model.specs.declared.request.Request.TheVariants.{AddEndpoint, RemoveEndpoint, AddIdentity, RemoveIdentity, Apply, Remove, SetMode}
use Rattle.pol_model.specs.declared.row.Endpoint.{Endpoint}
use Rattle.pol_model.specs.declared.row.IdentityRow.{IdentityRow}
use Rattle.pol_model.specs.declared.row.NamedIdentity.{NamedIdentity}
use Rattle.pol_script.proofs.ScriptLaws.{both_parts}

-- ---- the number of a label set

not_true : (b : Bool) → not b ≡ true → b ≡ false
not_true true e = absurd cc
not_true false e = refl

-- a number that is found is no prefix's
found_small : (labels : List Label) (rows : List IdentityRow) (o : Option IdentityRow) (number : ℕ)
    → find (λ (row : IdentityRow). not (is_local row.number) && same_labels row.labels labels) rows ≡ o
    → option_map (λ (row : IdentityRow). row.number) o ≡ Some number → number < LOCAL_FIRST
found_small labels rows None number found is = absurd cc
found_small labels rows (Some row) number found is =
    let passes = (find-In (λ (row : IdentityRow). not (is_local row.number) && same_labels row.labels labels) row rows found).1 in
    let low : row.number < LOCAL_FIRST = leb-false LOCAL_FIRST row.number (not_true (is_local row.number) (both_parts (not (is_local row.number)) (same_labels row.labels labels) passes).0) in
    let same : row.number ≡ number = cc in
    subst (λ n. n < LOCAL_FIRST) same low

taken_small : (labels : List Label) (rows : List IdentityRow) (o : Option ℕ) → number_of_labels labels rows ≡ o
    → (is_none o && nat_lt CLUSTER_LAST (free_number CLUSTER_FIRST rows)) ≡ false → or_free o (free_number CLUSTER_FIRST rows) < LOCAL_FIRST
taken_small labels rows None is room =
    let low : free_number CLUSTER_FIRST rows ≤ CLUSTER_LAST = ltb-false CLUSTER_LAST (free_number CLUSTER_FIRST rows) room in
    omega (arith, low)
taken_small labels rows (Some number) is room =
    found_small labels rows (find (λ (row : IdentityRow). not (is_local row.number) && same_labels row.labels labels) rows) number refl is

number_small : (labels : List Label) (rows : List IdentityRow) → is_exhausted labels rows ≡ false → is_u64 (number_for labels rows) ≡ true
number_small labels rows room =
    let low : number_for labels rows < LOCAL_FIRST = taken_small labels rows (number_of_labels labels rows) refl room in
    lt-ltb (number_for labels rows) (2 ^ 64) (omega (arith, low))

-- ---- what a request gives

option_small : {X : Type 0} (number : X → ℕ) (o : Option X) → ((x : X) → o ≡ Some x → is_u64 (number x) ≡ true) → is_read_identity (option_map number o) ≡ true
option_small number None small = refl
option_small number (Some x) small = small x refl

last_small : (i new : NamedIdentity) → is_u64 new.number ≡ true → In i (new ∷ []) → is_u64 i.number ≡ true
last_small i new small (inl same) = subst (λ (x : NamedIdentity). is_u64 x.number ≡ true) same small
last_small i new small (inr none) = absurd none

-- the one that is found of a name that came just now is the new one
given_small : (s : State) (request : Request) → fault_of s request ≡ None → is_read_identity (identity_given (after s request) request) ≡ true
given_small s (AddEndpoint name labels address) none =
    let can = add_endpoint s name labels address none in
    let new = new_endpoint s name labels address in
    let place = count_by (λ (y : Endpoint). nat_lt y.slot new.slot) s.endpoints in
    let is_name = λ (e : Endpoint). bytes_eq e.name name in
    option_small (λ (e : Endpoint). e.identity) (endpoint_of name (insert s.endpoints place new))
    (λ e found.
    let of = find-In is_name e (insert s.endpoints place new) found in
    elim (In-insert new e place s.endpoints of.0) [
      | inl same ↦ subst (λ (x : Endpoint). is_u64 x.identity ≡ true) same (number_small labels s.identities can.number_left)
      | inr old ↦ let other : is_name e ≡ false = none-In is_name e s.endpoints can.name_free old in absurd (true≢false (sym of.1 ∙ other))
    ])
given_small s (RemoveEndpoint name) none = refl
given_small s (AddIdentity name labels) none =
    let can = add_identity s name labels none in
    let new : NamedIdentity = record { name = name; number = number_for labels s.identities } in
    let is_name = λ (i : NamedIdentity). bytes_eq i.name name in
    option_small (λ (i : NamedIdentity). i.number) (named_of name (s.named ++ new ∷ []))
    (λ i found.
    let of = find-In is_name i (s.named ++ new ∷ []) found in
    elim (In-append i s.named (new ∷ []) of.0) [
      | inl old ↦ let other : is_name i ≡ false = none-In is_name i s.named can.name_free old in absurd (true≢false (sym of.1 ∙ other))
      | inr last ↦ last_small i new (number_small labels s.identities can.number_left) last
    ])
given_small s (RemoveIdentity name) none = refl
given_small s (Apply policy) none = refl
given_small s (Remove key) none = refl
given_small s (SetMode mode) none = refl

-- ---- along a history

take_one_more : (k : ℕ) (requests : List Request) (request : Request) → slice_get requests k ≡ Some request
    → take (suc k) requests ≡ take k requests ++ request ∷ []
take_one_more k [] request is = absurd cc
take_one_more zero (first ∷ requests) request is = let same : first ≡ request = cc in ap (λ (x : Request). x ∷ []) same
take_one_more (suc k) (first ∷ requests) request is = ap (λ (rest : List Request). first ∷ rest) (take_one_more k requests request is)

-- the k-th request, which had no fault, gives a number of 64 bits
pub kth_gives : (options : Options) (history : List Request) (k : ℕ) (request : Request) → slice_get history k ≡ Some request
    → fault_of (state_of options (take k history)) request ≡ None → is_read_identity (identity_given (state_of options (take (suc k) history)) request) ≡ true
kth_gives options history k request is none =
    let next : state_of options (take (suc k) history) ≡ after (state_of options (take k history)) request =
    ap (λ (requests : List Request). state_of options requests) (take_one_more k history request is) ∙ after_append (start options) (take k history) (request ∷ []) in
    subst (λ (s : State). is_read_identity (identity_given s request) ≡ true) (sym next) (given_small (state_of options (take k history)) request none)
