-- An endpoint that is live after so many requests was live after fewer, where it was added by then.
use Rattle.std.proofs.Common.{◌≡◌, ◌≢◌, ℕ, zero, suc, ◌≤◌, ◌<◌, ◌-◌, Bool, true, false, cond, not, List, [], ◌∷◌, length, take, drop, find, filter, insert, count_by, nat_lt, bytes_eq, ◌++◌, Option, None, Some, refl, ap, sym, ◌∙◌, subst, arith, length-take}
use Rattle.std.proofs.lemmas.List.{take-append-drop, take-take}
use Rattle.std.proofs.lemmas.Option.{slice_get_within}
use Rattle.std.proofs.lemmas.Slice.Eq.{bytes_eq-Decides}
use Rattle.pol_data.proofs.Members.{Contains-from_In}
use Rattle.pol_model.specs.State.{State}
use Rattle.pol_model.specs.After.{after, after_all, start, state_of, new_endpoint}
use Rattle.pol_model.specs.Endpoints.{endpoint_of}
use Rattle.pol_model.specs.declared.options.Options.{Options}
use Rattle.pol_model.specs.declared.request.Request.{Request}
use Rattle.pol_model.specs.declared.request.Request.TheVariants.{AddEndpoint, RemoveEndpoint, AddIdentity, RemoveIdentity, Apply, Remove, SetMode}
use Rattle.pol_model.specs.declared.row.Endpoint.{Endpoint}
use Rattle.pol_model.proofs.Histories.{state_of-revision}
use Rattle.pol_model_laws.proofs.Membership.{find-In}
use Rattle.pol_model_laws.proofs.Remembered.{added-by}

-- ---- look-ups in a list with one element more, and with fewer

found_behind : {X : Type 0} (passes : Bool) (new e : X) (rest : Option X) → new ≢ e → cond passes (Some new) rest ≡ Some e → rest ≡ Some e
found_behind true new e rest other found = absurd (other (cc))
found_behind false new e rest other found = found

found_past : {X : Type 0} (passes : Bool) (y e : X) (longer shorter : Option X) → (longer ≡ Some e → shorter ≡ Some e)
    → cond passes (Some y) longer ≡ Some e → cond passes (Some y) shorter ≡ Some e
found_past true y e longer shorter others found = found
found_past false y e longer shorter others found = others found

-- what is found beside a new element was found without it
found_without : {X : Type 0} (p : X → Bool) (xs : List X) (k : ℕ) (new e : X) → new ≢ e → find p (insert xs k new) ≡ Some e → find p xs ≡ Some e
found_without p [] zero new e other found = found_behind (p new) new e None other found
found_without p [] (suc k) new e other found = found_behind (p new) new e None other found
found_without p (y ∷ ys) zero new e other found = found_behind (p new) new e (find p (y ∷ ys)) other found
found_without p (y ∷ ys) (suc k) new e other found =
    found_past (p y) y e (find p (insert ys k new)) (find p ys) (found_without p ys k new e other) found

kept_step : {X : Type 0} (p : X → Bool) (passes keeps : Bool) (y : X) (left all : List X) → (passes ≡ true → keeps ≡ true) → p y ≡ passes
    → find p left ≡ find p all → find p (cond keeps (y ∷ left) left) ≡ cond passes (Some y) (find p all)
kept_step p true true y left all kept is others = simp is
kept_step p true false y left all kept is others = absurd (let no : false ≡ true = kept refl in cc)
kept_step p false true y left all kept is others = simp is others
kept_step p false false y left all kept is others = others

-- a filter that keeps all that passes
pub found_kept : {X : Type 0} (p q : X → Bool) (xs : List X) → ((x : X) → p x ≡ true → q x ≡ true) → find p (filter q xs) ≡ find p xs
found_kept p q [] kept = refl
found_kept p q (y ∷ ys) kept = kept_step p (p y) (q y) y (filter q ys) ys (kept y) refl (found_kept p q ys kept)

lost_step : {X : Type 0} (p : X → Bool) (passes keeps : Bool) (y : X) (left : List X) → (passes ≡ true → keeps ≡ false) → p y ≡ passes
    → find p left ≡ None → find p (cond keeps (y ∷ left) left) ≡ None
lost_step p true true y left lost is others = absurd (let no : true ≡ false = lost refl in cc)
lost_step p true false y left lost is others = others
lost_step p false true y left lost is others = simp is others
lost_step p false false y left lost is others = others

-- a filter that keeps nothing that passes
pub found_lost : {X : Type 0} (p q : X → Bool) (xs : List X) → ((x : X) → p x ≡ true → q x ≡ false) → find p (filter q xs) ≡ None
found_lost p q [] lost = refl
found_lost p q (y ∷ ys) lost = lost_step p (p y) (q y) y (filter q ys) (lost y) refl (found_lost p q ys lost)

found_filtered : {X : Type 0} (p q : X → Bool) (xs : List X) (e : X) (kept : Bool) → ((x : X) → p x ≡ true → q x ≡ kept)
    → find p (filter q xs) ≡ Some e → find p xs ≡ Some e
found_filtered p q xs e true alike found = sym (found_kept p q xs alike) ∙ found
found_filtered p q xs e false alike found = absurd (let none = found_lost p q xs alike in cc)

-- ---- endpoints

pub named_alike : (name removed : List ℕ) (endpoint : Endpoint) → bytes_eq endpoint.name name ≡ true
    → not (bytes_eq endpoint.name removed) ≡ not (bytes_eq name removed)
named_alike name removed endpoint is =
    ap (λ (n : List ℕ). not (bytes_eq n removed)) ((bytes_eq-Decides endpoint.name name).0 is)

-- one request back
live_before : (s : State) (request : Request) (name : List ℕ) (e : Endpoint) → e.added ≤ s.revision
    → endpoint_of name (after s request).endpoints ≡ Some e → endpoint_of name s.endpoints ≡ Some e
live_before s (AddEndpoint added labels address) name e old found =
    found_without (λ (endpoint : Endpoint). bytes_eq endpoint.name name) s.endpoints
    (count_by (λ (y : Endpoint). nat_lt y.slot (new_endpoint s added labels address).slot) s.endpoints)
    (new_endpoint s added labels address) e
    (λ same. omega (arith, ap (λ (x : Endpoint). x.added) same)) found
live_before s (RemoveEndpoint removed) name e old found =
    found_filtered (λ (x : Endpoint). bytes_eq x.name name) (λ (x : Endpoint). not (bytes_eq x.name removed)) s.endpoints e
    (not (bytes_eq name removed)) (λ x is. named_alike name removed x is) found
live_before s (AddIdentity added labels) name e old found = found
live_before s (RemoveIdentity removed) name e old found = found
live_before s (Apply policy) name e old found = found
live_before s (Remove key) name e old found = found
live_before s (SetMode mode) name e old found = found

live_before_all : (s : State) (requests : List Request) (name : List ℕ) (e : Endpoint) → e.added ≤ s.revision
    → endpoint_of name (after_all s requests).endpoints ≡ Some e → endpoint_of name s.endpoints ≡ Some e
live_before_all s [] name e old found = found
live_before_all s (request ∷ requests) name e old found =
    live_before s request name e old (live_before_all (after s request) requests name e (omega arith) found)

-- a live endpoint was added by one of the requests
pub added-within : (options : Options) (requests : List Request) (name : List ℕ) (e : Endpoint)
    → endpoint_of name (state_of options requests).endpoints ≡ Some e → (0 < e.added) × (e.added ≤ length requests)
added-within options requests name e found =
    let inside = find-In (λ (x : Endpoint). bytes_eq x.name name) e (state_of options requests).endpoints found in
    let there = Contains-from_In (state_of options requests).endpoints e inside.0 in
    let by = added-by options requests e there in
    let below = slice_get_within requests (e.added - 1) _ by.1 in
    (by.0, omega (arith, by.0, below))

-- the state after a front and a back
pub after_append : (s : State) (front back : List Request) → after_all s (front ++ back) ≡ after_all (after_all s front) back
after_append s [] back = refl
after_append s (request ∷ front) back = after_append (after s request) front back

-- the state after k requests is that after fewer, and then the rest
state_split : (options : Options) (requests : List Request) (r k : ℕ) → r ≤ k
    → state_of options (take k requests) ≡ after_all (state_of options (take r requests)) (drop r (take k requests))
state_split options requests r k fewer =
    ap (λ (xs : List Request). state_of options xs) (sym (take-append-drop r (take k requests)))
    ∙ after_append (start options) (take r (take k requests)) (drop r (take k requests))
    ∙ ap (λ (xs : List Request). after_all (state_of options xs) (drop r (take k requests))) (take-take r k requests fewer)

-- what is live after k requests was live after r of them, where it was added by then
pub found_back : (options : Options) (requests : List Request) (r k : ℕ) (name : List ℕ) (e : Endpoint) → r ≤ k → e.added ≤ r
    → endpoint_of name (state_of options (take k requests)).endpoints ≡ Some e → endpoint_of name (state_of options (take r requests)).endpoints ≡ Some e
found_back options requests r k name e fewer old found =
    let within = added-within options (take k requests) name e found in
    let reached : e.added ≤ (state_of options (take r requests)).revision =
    omega (arith, within.1, state_of-revision options (take r requests), length-take r requests, length-take k requests) in
    live_before_all (state_of options (take r requests)) (drop r (take k requests)) name e reached
    (subst (λ (t : State). endpoint_of name t.endpoints ≡ Some e) (state_split options requests r k fewer) found)
