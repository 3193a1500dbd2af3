-- Peers of filters that stay.
use Rattle.std.proofs.Common.{◌≡◌, ℕ, ◌+◌, ◌<◌, ◌≤◌, true, false, cond, List, [], ◌∷◌, ◌++◌, length, get_or, take, Result, Ok, OnOk, sym, ◌∙◌, ap, subst, append-nil}
use Rattle.std.specs.List.{flat_map}
use Rattle.std.specs.List.Sorted.{IsStrictlySortedBy}
use Rattle.std.specs.Ordering.{nat_cmp}
use Rattle.std.proofs.lemmas.Grind.{flat_map-append}
use Rattle.std.proofs.lemmas.List.{take_all, take_more}
use Rattle.pol_ports.specs.declared.Direction.{Direction}
use Rattle.pol_mapkey.specs.Entries.{Entry}
use Rattle.pol_rule.specs.declared.policy.Peer.{Peer}
use Rattle.pol_rule.specs.declared.policy.Peers.TheVariants.{Every, Listed}
use Rattle.pol_model.specs.PolicyMap.{entry_entries, peer_numbers}
use Rattle.pol_model.specs.Selects.{is_all}
use Rattle.pol_sets.specs.declared.sets.Move.{Move}
use Rattle.pol_set_changes.specs.Sets.{IsMove}
use Rattle.pol_filters.specs.declared.filter.Filter.{Filter}
use Rattle.pol_distill.proofs.RawLists.{filter_entries}
use Rattle.pol_entry_changes.specs.Balance.{GoesOn}
use Rattle.pol_entry_changes.specs.Given.{given_by, kind_of, of_numbers}
use Rattle.pol_entry_changes.specs.PeerRow.{IsStill}
use Rattle.pol_entry_changes.specs.declared.staying.Moved.{Moved}
use Rattle.pol_entry_changes.proofs.Balanced.{goes_on, moved_on, stays_on}

abbrev pub OnOf : (ℕ → List Entry) → List ℕ → List ℕ → Moved → Moved → Type 0
OnOf E was is old new = GoesOn (flat_map E was) (flat_map E is) old new

module _ (E : ℕ → List Entry) (was is : Peer → List ℕ) (p : Peer) where
  -- a peer that selects every number
  pub all_stays : is_all p ≡ true → (out : Moved) → OnOf E (peer_numbers was p) (peer_numbers is p) out out
  all_stays all out =
      let both : peer_numbers was p ≡ peer_numbers is p = ap (λ b. cond b (0 ∷ []) (was p)) all ∙ sym (ap (λ b. cond b (0 ∷ []) (is p)) all) in
      subst (λ ids. OnOf E (peer_numbers was p) ids out out) both (stays_on (flat_map E (peer_numbers was p)) out)

  -- another peer
  pub own_stays : is_all p ≡ false → IsStrictlySortedBy nat_cmp (was p) → IsStrictlySortedBy nat_cmp (is p) → (m : Move) → IsMove (was p) (is p) m → (old new : Moved)
      → {X Y : Type 0} (r : Result X Y) → OnOk r (new.come.items ≡ old.come.items ++ flat_map E m.gained) → OnOk r (new.gone.items ≡ old.gone.items ++ flat_map E m.lost)
      → OnOk r (OnOf E (peer_numbers was p) (peer_numbers is p) old new)
  own_stays own ascend_was ascend_is m exact old new r come gone =
      let were : was p ≡ peer_numbers was p = sym (ap (λ b. cond b (0 ∷ []) (was p)) own) in
      let are : is p ≡ peer_numbers is p = sym (ap (λ b. cond b (0 ∷ []) (is p)) own) in
      subst (λ ids. OnOk r (OnOf E ids (peer_numbers is p) old new)) were
      (subst (λ ids. OnOk r (OnOf E (was p) ids old new)) are (moved_on E (was p) (is p) m ascend_was ascend_is exact old new r come gone))

  -- another peer, where no move moves anything
  pub still_stays : is_all p ≡ false → IsStrictlySortedBy nat_cmp (was p) → IsStrictlySortedBy nat_cmp (is p) → (m : Move) → IsMove (was p) (is p) m → IsStill m
      → (out : Moved) → OnOf E (peer_numbers was p) (peer_numbers is p) out out
  still_stays own ascend_was ascend_is m exact still out =
      let nothing : (ids : List ℕ) → ids ≡ [] → (es : List Entry) → es ≡ es ++ flat_map E ids = λ ids none es.
      sym (ap (λ l. es ++ flat_map E l) none ∙ append-nil es) in
      let done : Result ℕ ℕ = Ok 0 in
      own_stays own ascend_was ascend_is m exact out out done (nothing m.gained still.0 out.come.items) (nothing m.lost still.1 out.gone.items)

-- one peer more
pub peer_more : (E : ℕ → List Entry) (f g : Peer → List ℕ) (peers : List Peer) (i : ℕ) (p : Peer) (old mid new : Moved) → i < length peers → get_or peers i p ≡ p
    → OnOf E (flat_map f (take i peers)) (flat_map g (take i peers)) old mid → OnOf E (f p) (g p) mid new
    → OnOf E (flat_map f (take (i + 1) peers)) (flat_map g (take (i + 1) peers)) old new
peer_more E f g peers i p old mid new within at first second =
    let one : take (i + 1) peers ≡ take i peers ++ p ∷ [] = take_more peers i p within ∙ ap (λ x. take i peers ++ x ∷ []) at in
    let split : (h : Peer → List ℕ) → flat_map E (flat_map h (take i peers)) ++ flat_map E (h p) ≡ flat_map E (flat_map h (take (i + 1) peers)) = λ h.
    sym (flat_map-append E (flat_map h (take i peers)) (h p))
    ∙ ap (flat_map E) (sym (ap (flat_map h) one ∙ flat_map-append h (take i peers) (p ∷ []) ∙ ap (λ l. flat_map h (take i peers) ++ l) (append-nil (h p)))) in
    subst (λ xs. GoesOn xs (flat_map E (flat_map g (take (i + 1) peers))) old new) (split f)
    (subst (λ ys. GoesOn (flat_map E (flat_map f (take i peers)) ++ flat_map E (f p)) ys old new) (split g)
    (goes_on (flat_map E (flat_map f (take i peers))) (flat_map E (flat_map g (take i peers))) (flat_map E (f p)) (flat_map E (g p)) old mid new first second))

pub peers_gone : (E : ℕ → List Entry) (f g : Peer → List ℕ) (peers : List Peer) (i : ℕ) (old new : Moved) → length peers ≤ i
    → OnOf E (flat_map f (take i peers)) (flat_map g (take i peers)) old new → OnOf E (flat_map f peers) (flat_map g peers) old new
peers_gone E f g peers i old new past on = subst (λ ps. OnOf E (flat_map f ps) (flat_map g ps) old new) (take_all i peers past) on

-- ---- filters
-- one without a peer member gives the same whatever peers select
pub every_stays : (was is : Peer → List ℕ) (dir : Direction) (one : Filter) → one.peers ≡ Every → (out : Moved) → GoesOn (given_by was dir one) (given_by is dir one) out out
every_stays was is dir one every out =
    let given : (set : Peer → List ℕ) → given_by set dir one ≡ entry_entries set dir (kind_of one) (record { peers = Every; ports = one.ports }) = λ set i.
    entry_entries set dir (kind_of one) (record { peers = every i; ports = one.ports }) in
    let both : given_by was dir one ≡ given_by is dir one = given was ∙ sym (given is) in
    subst (λ es. GoesOn (given_by was dir one) es out out) both (stays_on (given_by was dir one) out)

listed_given : (set : Peer → List ℕ) (dir : Direction) (one : Filter) (peers : List Peer) → one.peers ≡ Listed peers
    → of_numbers dir one (flat_map (peer_numbers set) peers) ≡ given_by set dir one
listed_given set dir one peers listed =
    filter_entries dir (kind_of one) one.ports (flat_map (peer_numbers set) peers)
    ∙ sym (λ i. entry_entries set dir (kind_of one) (record { peers = listed i; ports = one.ports }))

pub listed_stays : (was is : Peer → List ℕ) (dir : Direction) (one : Filter) (peers : List Peer) → one.peers ≡ Listed peers → (old new : Moved) → {X Y : Type 0} (r : Result X Y)
    → OnOk r (GoesOn (of_numbers dir one (flat_map (peer_numbers was) peers)) (of_numbers dir one (flat_map (peer_numbers is) peers)) old new)
    → OnOk r (GoesOn (given_by was dir one) (given_by is dir one) old new)
listed_stays was is dir one peers listed old new r on =
    subst (λ xs. OnOk r (GoesOn xs (given_by is dir one) old new)) (listed_given was dir one peers listed)
    (subst (λ ys. OnOk r (GoesOn (of_numbers dir one (flat_map (peer_numbers was) peers)) ys old new)) (listed_given is dir one peers listed) on)
