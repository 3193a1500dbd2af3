-- The peers that are listed are those of live selectors.
use Rattle.std.proofs.Common.{◌≡◌, ℕ, ◌+◌, ◌<◌, ◌≤◌, true, false, if◌then◌else◌, List, [], ◌∷◌, ◌++◌, find, Option, Some, None, option_map, refl, sym, ap, ◌∙◌, inl, inr, arith}
use Rattle.std.specs.List.{list_any}
use Rattle.std.proofs.lemmas.Bool.{cases_Bool, false_from_ne_true, true_from_ne_false}
use Rattle.pol_data.proofs.Counts.{count_by-none, count_by-some}
use Rattle.pol_data.proofs.Members.{In, every-in}
use Rattle.pol_model_laws.proofs.Membership.{In-append, In-left, In-right, In-list_any, find-In, find-none, list_any-In}
use Rattle.pol_rule.specs.contracts.policy.PeerPartialEq.TheImpl as peers
use Rattle.pol_rule.specs.declared.policy.Peer.{Peer}
use Rattle.pol_rule.proofs.Equality.{peer_eq-Decides}
use Rattle.pol_model.specs.declared.request.Request.{Request}
use Rattle.pol_model.specs.declared.request.Request.TheVariants.{AddEndpoint, RemoveEndpoint, AddIdentity, RemoveIdentity, Apply, Remove, SetMode}
use Rattle.pol_model.specs.declared.row.IdentityRow.{IdentityRow}
use Rattle.pol_model.specs.declared.row.Stamped.{Stamped}
use Rattle.pol_model.specs.After.{after}
use Rattle.pol_model.specs.Policies.{applied, is_of_key}
use Rattle.pol_model.specs.Selects.{set_at}
use Rattle.pol_model.specs.State.{State}
use Rattle.pol_rule.specs.Listed.{listed_peers}
use Rattle.pol_peers.specs.References.{RefsOf, references_of}
use Rattle.pol_peers.proofs.Found.{found_of, is_of, refs}
use Rattle.pol_selcache.specs.Live.{AreExact, AreLive, Live, number_of}
use Rattle.pol_selcache.specs.Plan.{Planned, after_changes, changed}
use Rattle.pol_store.specs.Store.{peers_of, peers_with}

-- ---- references and selectors
pub live_listed : (listed : List Peer) (live : List Live) → RefsOf listed live → AreLive live → (p : Peer) (number : ℕ) → number_of p live ≡ Some number → list_any (peers.ghosts.eq p) listed ≡ true
live_listed listed live referred are p number is =
    let one = found_of p live number is in
    let some : 0 < one.0.references = every-in (λ s. 0 < s.references) live are.referenced one.0 (find-In (is_of p) one.0 live one.1).0 in
    let here : references_of p live ≡ one.0.references = ap refs one.1 in
    true_from_ne_false (list_any (peers.ghosts.eq p) listed) (λ none. omega (arith, some, here, referred p, count_by-none (peers.ghosts.eq p) listed none))

pub listed_live : (listed : List Peer) (live : List Live) → RefsOf listed live → (p : Peer) → list_any (peers.ghosts.eq p) listed ≡ true → (number : ℕ) × (number_of p live ≡ Some number)
listed_live listed live referred p there = by (find (is_of p) live) refl
  where
    some : 1 ≤ references_of p live
    some = omega (arith, count_by-some (peers.ghosts.eq p) listed there, referred p)

    by : (o : Option Live) → find (is_of p) live ≡ o → (number : ℕ) × (number_of p live ≡ Some number)
    by None none = absurd (omega (arith, some, ap refs none))
    by (Some s) found = (s.number, ap (option_map (λ (x : Live). x.number)) found)

-- a peer has a live selector just where a test says so
pub live_where : (p : Peer) (live : List Live) (listed : List Peer) → ((number : ℕ) → number_of p live ≡ Some number → list_any (peers.ghosts.eq p) listed ≡ true)
    → (list_any (peers.ghosts.eq p) listed ≡ true → (number : ℕ) × (number_of p live ≡ Some number)) → list_any (is_of p) live ≡ list_any (peers.ghosts.eq p) listed
live_where p live listed lists lives = by (find (is_of p) live) refl
  where
    none_is_some : (number : ℕ) → number_of p live ≡ Some number → find (is_of p) live ≡ None → ⊥
    none_is_some number some none = (let wrong : None ≡ Some number = sym (ap (option_map (λ (x : Live). x.number)) none) ∙ some in cc)

    by : (o : Option Live) → find (is_of p) live ≡ o → list_any (is_of p) live ≡ list_any (peers.ghosts.eq p) listed
    by None none =
        find-none (is_of p) live none
        ∙ sym (false_from_ne_true (list_any (peers.ghosts.eq p) listed) (λ there. let one = lives there in none_is_some one.0 one.1 none))
    by (Some s) found =
        let at = find-In (is_of p) s live found in
        list_any-In (is_of p) s live at.0 at.1 ∙ sym (lists s.number (ap (option_map (λ (x : Live). x.number)) found))

-- a peer's selector, and its set
pub selector_of_peer : (rows : List IdentityRow) (live : List Live) → AreExact rows live → (p : Peer) (number : ℕ) → number_of p live ≡ Some number
    → (s : Live) × In s live × (s.peer ≡ p) × (s.number ≡ number) × (s.set ≡ set_at rows p)
selector_of_peer rows live exact p number is =
    let one = found_of p live number is in
    let there = find-In (is_of p) one.0 live one.1 in
    let same : p ≡ one.0.peer = (peer_eq-Decides p one.0.peer).0 there.1 in
    (one.0, there.0, sym same, one.2, every-in (λ s. s.set ≡ set_at rows s.peer) live exact one.0 there.0 ∙ ap (set_at rows) (sym same))

-- changes of sets leave the numbers
pub numbers_stay : (changes : List Planned) (p : Peer) (live : List Live) → number_of p (changed changes live) ≡ number_of p live
numbers_stay changes p [] = refl
numbers_stay changes p (s ∷ live) =
    elim (peers.ghosts.eq p s.peer) as (λ b. option_map (λ (x : Live). x.number) (if b then Some (after_changes changes s) else find (λ (x : Live). peers.ghosts.eq p x.peer) (changed changes live))
    ≡ option_map (λ (x : Live). x.number) (if b then Some s else find (λ (x : Live). peers.ghosts.eq p x.peer) live)) [
      | true ↦ refl
      | false ↦ numbers_stay changes p live
    ]

-- ---- who has references while a request is prepared is listed before or after it
applied_lists : (new : Stamped) (policies : List Stamped) (x : Peer) → In x (listed_peers new.policy) → In x (peers_of (applied new policies))
applied_lists new [] x there = In-left x (listed_peers new.policy) [] there
applied_lists new (old ∷ others) x there =
    elim (cases_Bool (is_of_key new.policy.key old)) [
      | inl same ↦ rw same (In-left x (listed_peers new.policy) (peers_of others) there)
      | inr other ↦ rw other (In-right x (listed_peers old.policy) (peers_of (applied new others)) (applied_lists new others x there))
    ]

with_both : (s : State) (request : Request) (x : Peer) → In x (peers_with s request) → In x (peers_of s.policies ++ peers_of (after s request).policies)
with_both s (Apply policy) x there =
    elim (In-append x (listed_peers policy) (peers_of s.policies) there) [
      | inl new ↦ In-right x (peers_of s.policies) (peers_of (after s (Apply policy)).policies) (applied_lists (record { policy = policy; stamp = s.revision + 1 }) s.policies x new)
      | inr old ↦ In-left x (peers_of s.policies) (peers_of (after s (Apply policy)).policies) old
    ]
with_both s (AddEndpoint name labels address) x there = In-left x (peers_of s.policies) (peers_of s.policies) there
with_both s (RemoveEndpoint name) x there = In-left x (peers_of s.policies) (peers_of s.policies) there
with_both s (AddIdentity name labels) x there = In-left x (peers_of s.policies) (peers_of s.policies) there
with_both s (RemoveIdentity name) x there = In-left x (peers_of s.policies) (peers_of s.policies) there
with_both s (Remove key) x there = In-left x (peers_of s.policies) (peers_of (after s (Remove key)).policies) there
with_both s (SetMode mode) x there = In-left x (peers_of s.policies) (peers_of s.policies) there

pub listed_in_both : (s : State) (request : Request) (p : Peer) → list_any (peers.ghosts.eq p) (peers_with s request) ≡ true
    → list_any (peers.ghosts.eq p) (peers_of s.policies ++ peers_of (after s request).policies) ≡ true
listed_in_both s request p there =
    let one = In-list_any (peers.ghosts.eq p) (peers_with s request) there in
    list_any-In (peers.ghosts.eq p) one.0 (peers_of s.policies ++ peers_of (after s request).policies) (with_both s request one.0 one.1) one.2
