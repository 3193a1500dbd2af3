-- How many commits a history has, and those of one pass.
use Rattle.std.proofs.Common.{zero, suc, ◌≡◌, ◌≢◌, ℕ, ◌+◌, ◌≤◌, ◌==◌, Bool, true, false, cond, List, [], ◌∷◌, ◌++◌, length, take, None, Some, sym, ap, ◌∙◌, subst, arith, append-nil}
use Rattle.std.specs.List.{cons_option, slice_get}
use Rattle.std.proofs.lemmas.Bool.Decides.{nat_tests}
use mathlib.Core.List.{IsPrefix}
use Rattle.pol_mapkey.specs.Entries.{Entry as MapEntry}
use Rattle.pol_model.specs.PolicyMap.{map_size, policy_map}
use Rattle.pol_model.specs.State.{State}
use Rattle.pol_model.specs.declared.options.Options.{Options}
use Rattle.pol_model.specs.declared.request.Request.{Request}
use Rattle.std.proofs.Common.{option_map}
use Rattle.pol_history.specs.declared.event.EndpointId.{EndpointId}
use Rattle.pol_history.specs.declared.event.HistoryEvent.{HistoryEvent}
use Rattle.pol_history.specs.declared.event.HistoryEvent.TheVariants as event
use Rattle.pol_history.specs.Commits.{commits_by, commits_in, live_endpoint, revision_of, state_after}
use Rattle.pol_history.specs.Legal.{IsLegal}
use Rattle.pol_history.specs.Reports.{map_at, size_at}
use Rattle.pol_history.proofs.Beginnings.{prefix_whole}
use Rattle.pol_history.proofs.Cuts.{commits-append, commits_by-append, revision-append, state-cut}
use Rattle.pol_history.proofs.LegalEvents.{legal_front}

-- ---- no more commits than events

revision_step : (new : HistoryEvent) (history : List HistoryEvent) → revision_of (new ∷ history) ≤ revision_of history + 1
revision_step (event.Commit pass number request) history = omega arith
revision_step (event.Publish endpoint revision table) history = omega arith
revision_step (event.Blocked endpoint revision count) history = omega arith

pub revision-few : (history : List HistoryEvent) → revision_of history ≤ length history
revision-few [] = omega arith
revision-few (new ∷ history) = let few = revision-few history in let step = revision_step new history in omega (arith, few, step)

own_if : (test : Bool) (request : Request) (requests : List Request) → length (cons_option (cond test (Some request) None) requests) ≤ length requests + 1
own_if true request requests = omega arith
own_if false request requests = omega arith

own_step : (pass : ℕ) (new : HistoryEvent) (history : List HistoryEvent) → length (commits_by pass (new ∷ history)) ≤ length (commits_by pass history) + 1
own_step pass (event.Commit other number request) history = own_if (other == pass) request (commits_by pass history)
own_step pass (event.Publish endpoint revision table) history = omega arith
own_step pass (event.Blocked endpoint revision count) history = omega arith

pub commits_by-few : (pass : ℕ) (history : List HistoryEvent) → length (commits_by pass history) ≤ length history
commits_by-few pass [] = omega arith
commits_by-few pass (new ∷ history) = let few = commits_by-few pass history in let step = own_step pass new history in omega (arith, few, step)

-- the revision of a commit is committed
pub commit-counts : (history : List HistoryEvent) (place pass number : ℕ) (request : Request) → slice_get history place ≡ Some (event.Commit pass number request)
    → revision_of (take place history) + 1 ≤ revision_of history
commit-counts [] place pass number request there = absurd (cc)
commit-counts (first ∷ later) zero pass number request there =
    subst (λ (e : HistoryEvent). 1 ≤ revision_of (e ∷ later)) (sym (let same : first ≡ event.Commit pass number request = (cc) in same)) (omega arith)
commit-counts (event.Commit other n r ∷ later) (suc place) pass number request there =
    let so_far = commit-counts later place pass number request there in omega (arith, so_far)
commit-counts (event.Publish endpoint revision table ∷ later) (suc place) pass number request there = commit-counts later place pass number request there
commit-counts (event.Blocked endpoint revision count ∷ later) (suc place) pass number request there = commit-counts later place pass number request there

-- ---- beginnings

pub revision-prefix : (old new : List HistoryEvent) → IsPrefix old new → revision_of old ≤ revision_of new
revision-prefix old new begins = omega (arith, sym (ap revision_of begins.1) ∙ revision-append old begins.0)

pub commits_by-prefix : (pass : ℕ) (old new : List HistoryEvent) → IsPrefix old new → IsPrefix (commits_by pass old) (commits_by pass new)
commits_by-prefix pass old new begins = (commits_by pass begins.0, sym (commits_by-append pass old begins.0) ∙ ap (commits_by pass) begins.1)

pub commits_in-prefix : (old new : List HistoryEvent) → IsPrefix old new → IsPrefix (commits_in old) (commits_in new)
commits_in-prefix old new begins = (commits_in begins.0, sym (commits-append old begins.0) ∙ ap commits_in begins.1)

-- where a longer history has no more commits of the pass, they are the same
pub same-own : (pass : ℕ) (old new : List HistoryEvent) → IsPrefix old new → length (commits_by pass new) ≡ length (commits_by pass old)
    → commits_by pass old ≡ commits_by pass new
same-own pass old new begins same = prefix_whole (commits_by pass old) (commits_by pass new) (commits_by-prefix pass old new begins) (omega (arith, same))

pub state-prefix : (options : Options) (old new : List HistoryEvent) (revision : ℕ) → IsPrefix old new → revision ≤ revision_of old
    → state_after options new revision ≡ state_after options old revision
state-prefix options old new revision begins within =
    ap (λ (h : List HistoryEvent). state_after options h revision) (sym begins.1) ∙ state-cut options old begins.0 revision within

pub map-prefix : (options : Options) (old new : List HistoryEvent) (endpoint : EndpointId) (revision : ℕ) → IsPrefix old new → revision ≤ revision_of old
    → map_at options new endpoint revision ≡ map_at options old endpoint revision
map-prefix options old new endpoint revision begins within =
    ap (λ (s : State). option_map (policy_map options s) (live_endpoint endpoint s)) (state-prefix options old new revision begins within)

pub size-prefix : (options : Options) (old new : List HistoryEvent) (endpoint : EndpointId) (revision : ℕ) → IsPrefix old new → revision ≤ revision_of old
    → size_at options new endpoint revision ≡ size_at options old endpoint revision
size-prefix options old new endpoint revision begins within =
    ap (λ (s : State). option_map (map_size options s) (live_endpoint endpoint s)) (state-prefix options old new revision begins within)

pub legal_prefix : (options : Options) (old new : List HistoryEvent) → IsPrefix old new → IsLegal options new → IsLegal options old
legal_prefix options old new begins legal =
    legal_front options old begins.0 (subst (λ (h : List HistoryEvent). IsLegal options h) (sym begins.1) legal)

-- ---- one event more

same_number : (n : ℕ) → (n == n) ≡ true
same_number n = grind (arith, nat_tests)

other_number : (m n : ℕ) → m ≢ n → (n == m) ≡ false
other_number m n apart = grind (arith, nat_tests, apart)

own_here : (pass number : ℕ) (request : Request) → commits_by pass (event.Commit pass number request ∷ []) ≡ request ∷ []
own_here pass number request = ap (λ (b : Bool). cons_option (cond b (Some request) None) []) (same_number pass)

own_other : (pass other number : ℕ) (request : Request) → pass ≢ other → commits_by pass (event.Commit other number request ∷ []) ≡ []
own_other pass other number request apart = ap (λ (b : Bool). cons_option (cond b (Some request) None) []) (other_number pass other apart)

-- a commit of the pass
pub own-commit : (pass number : ℕ) (request : Request) (history : List HistoryEvent)
    → commits_by pass (history ++ event.Commit pass number request ∷ []) ≡ commits_by pass history ++ request ∷ []
own-commit pass number request history =
    commits_by-append pass history (event.Commit pass number request ∷ []) ∙ ap (λ (own : List Request). commits_by pass history ++ own) (own_here pass number request)

-- one of another pass
pub own-of-another : (pass other number : ℕ) (request : Request) (history : List HistoryEvent) → pass ≢ other
    → commits_by pass (history ++ event.Commit other number request ∷ []) ≡ commits_by pass history
own-of-another pass other number request history apart =
    commits_by-append pass history (event.Commit other number request ∷ [])
    ∙ ap (λ (own : List Request). commits_by pass history ++ own) (own_other pass other number request apart)
    ∙ append-nil (commits_by pass history)

-- a report
pub own-publish : (pass : ℕ) (endpoint : EndpointId) (revision : ℕ) (table : List MapEntry) (history : List HistoryEvent)
    → commits_by pass (history ++ event.Publish endpoint revision table ∷ []) ≡ commits_by pass history
own-publish pass endpoint revision table history =
    commits_by-append pass history (event.Publish endpoint revision table ∷ []) ∙ append-nil (commits_by pass history)

pub own-blocked : (pass : ℕ) (endpoint : EndpointId) (revision count : ℕ) (history : List HistoryEvent)
    → commits_by pass (history ++ event.Blocked endpoint revision count ∷ []) ≡ commits_by pass history
own-blocked pass endpoint revision count history =
    commits_by-append pass history (event.Blocked endpoint revision count ∷ []) ∙ append-nil (commits_by pass history)
