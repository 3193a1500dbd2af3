-- How old the endpoints of a state are.
use Rattle.std.proofs.Common.{◌≡◌, ℕ, zero, suc, ◌+◌, ◌≤◌, Bool, true, false, cond, not, List, [], ◌∷◌, find, insert, count_by, nat_lt, bytes_eq, Some, subst, arith}
use Rattle.std.specs.List.{AllByRecursion}
use Rattle.pol_model.specs.State.{State}
use Rattle.pol_model.specs.After.{after, after_all, start, state_of, new_endpoint}
use Rattle.pol_model.specs.declared.options.Options.{Options}
use Rattle.pol_model.specs.declared.request.Request.{Request}
use Rattle.pol_model.specs.declared.request.Request.TheVariants.{AddEndpoint, RemoveEndpoint, AddIdentity, RemoveIdentity, Apply, Remove, SetMode}
use Rattle.pol_model.specs.declared.row.Endpoint.{Endpoint}
use Rattle.pol_run.proofs.Lists.{every_weaker, every_filtered}

pub every_inserted : {X : Type 0} (P : X → Type 0) (xs : List X) (k : ℕ) (x : X) → P x → AllByRecursion P xs → AllByRecursion P (insert xs k x)
every_inserted P [] zero x here others = (here, tt)
every_inserted P [] (suc k) x here others = (here, tt)
every_inserted P (y ∷ ys) zero x here others = (here, others)
every_inserted P (y ∷ ys) (suc k) x here others = (others.0, every_inserted P ys k x here others.1)

-- the endpoint was added by this revision
abbrev pub IsAddedBy : ℕ → Endpoint → Type 0
IsAddedBy revision endpoint = endpoint.added ≤ revision

still_added : (s : State) → AllByRecursion (IsAddedBy s.revision) s.endpoints → AllByRecursion (IsAddedBy (s.revision + 1)) s.endpoints
still_added s young =
    every_weaker (IsAddedBy s.revision) (IsAddedBy (s.revision + 1)) (λ endpoint (h : endpoint.added ≤ s.revision). omega arith)
    s.endpoints young

added_after : (s : State) (request : Request) → AllByRecursion (IsAddedBy s.revision) s.endpoints
    → AllByRecursion (IsAddedBy (s.revision + 1)) (after s request).endpoints
added_after s (AddEndpoint name labels address) young =
    let new = new_endpoint s name labels address in
    every_inserted (IsAddedBy (s.revision + 1)) s.endpoints (count_by (λ (y : Endpoint). nat_lt y.slot new.slot) s.endpoints)
    new (omega arith) (still_added s young)
added_after s (RemoveEndpoint name) young =
    every_filtered (IsAddedBy (s.revision + 1)) (λ (endpoint : Endpoint). not (bytes_eq endpoint.name name)) s.endpoints
    (every_weaker (IsAddedBy s.revision) (λ endpoint. not (bytes_eq endpoint.name name) ≡ true → IsAddedBy (s.revision + 1) endpoint)
    (λ endpoint (h : endpoint.added ≤ s.revision) kept. omega arith) s.endpoints young)
added_after s (AddIdentity name labels) young = still_added s young
added_after s (RemoveIdentity name) young = still_added s young
added_after s (Apply policy) young = still_added s young
added_after s (Remove key) young = still_added s young
added_after s (SetMode mode) young = still_added s young

added_after_all : (s : State) (requests : List Request) → AllByRecursion (IsAddedBy s.revision) s.endpoints
    → AllByRecursion (IsAddedBy (after_all s requests).revision) (after_all s requests).endpoints
added_after_all s [] young = young
added_after_all s (request ∷ requests) young = added_after_all (after s request) requests (added_after s request young)

-- no live endpoint was added later than the state's revision
pub added_by_now : (options : Options) (requests : List Request)
    → AllByRecursion (IsAddedBy (state_of options requests).revision) (state_of options requests).endpoints
added_by_now options requests = added_after_all (start options) requests tt

every_found_by : {X : Type 0} (P : X → Type 0) (p : X → Bool) (passes : Bool) (x y : X) (xs : List X)
    → (find p xs ≡ Some y → P y) → P x → cond passes (Some x) (find p xs) ≡ Some y → P y
every_found_by P p true x y xs others here found = subst P (cc) here
every_found_by P p false x y xs others here found = others found

-- what holds of every element holds of the one that is found
pub every_found : {X : Type 0} (P : X → Type 0) (p : X → Bool) (xs : List X) (y : X) → AllByRecursion P xs → find p xs ≡ Some y → P y
every_found P p [] y every found = absurd (cc)
every_found P p (x ∷ xs) y every found = every_found_by P p (p x) x y xs (every_found P p xs y every.1) every.0 found
