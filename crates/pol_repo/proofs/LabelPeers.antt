-- There are as many selectors of labels as distinct peers of labels.
use Rattle.std.proofs.Common.{◌≡◌, ◌<◌, ◌&&◌, Bool, true, List, map, filter, find, Option, None, Some, refl, sym, ap, ◌∙◌, inl, inr, arith}
use Rattle.std.specs.List.{IsDistinct, list_any}
use Rattle.std.proofs.lemmas.Bool.{cases_Bool, false_from_ne_true}
use Rattle.std.proofs.lemmas.List.{length-map}
use Rattle.std.proofs.lemmas.List.Sums.{length-filter}
use Rattle.std.proofs.lemmas.Map.Made.{length-from_keys}
use Rattle.std.proofs.lemmas.Map.Views.{any-filter_same}
use Rattle.pol_data.proofs.Counts.{count_by-none, count_by-some}
use Rattle.pol_data.proofs.Members.{every-in}
use Rattle.pol_model_laws.proofs.Distinct.{differ_filtered}
use Rattle.pol_model_laws.proofs.Membership.{find-In, find-none, list_any-In, list_any-map}
use Rattle.pol_rule.proofs.Equality.{peer_eq-Decides}
use Rattle.pol_rule.specs.contracts.policy.PeerPartialEq.TheImpl as peers
use Rattle.pol_rule.specs.declared.policy.Peer.{Peer}
use Rattle.pol_model.specs.declared.row.Stamped.{Stamped}
use Rattle.pol_peers.specs.References.{RefsOf, references_of}
use Rattle.pol_peers.proofs.Equality.{equal_peers}
use Rattle.pol_peers.proofs.Found.{is_of, refs}
use Rattle.pol_selcache.specs.Live.{AreLive, Live, is_label_peer, label_selectors}
use Rattle.pol_store.specs.Store.{peers_of}
use Rattle.pol_repo.specs.Cost.{label_peers}

-- ---- peers that are equal
peer_is : (p q : Peer) → peers.ghosts.eq p q ≡ true → p ≡ q
peer_is p q same = (peer_eq-Decides p q).0 same

-- ---- a peer has a live selector where it is listed, and nowhere else
module _ (listed : List Peer) (live : List Live) (referred : RefsOf listed live) (are : AreLive live) where
  has_selector : (q : Peer) → list_any (is_of q) live ≡ list_any (peers.ghosts.eq q) listed
  has_selector q = by (find (is_of q) live) refl
    where
      by : (o : Option Live) → find (is_of q) live ≡ o → list_any (is_of q) live ≡ list_any (peers.ghosts.eq q) listed
      by None is =
          let none : references_of q live ≡ 0 = ap refs is in
          find-none (is_of q) live is
          ∙ sym (false_from_ne_true (list_any (peers.ghosts.eq q) listed) (λ there. omega (arith, none, referred q, count_by-some (peers.ghosts.eq q) listed there)))
      by (Some s) is =
          let found = find-In (is_of q) s live is in
          let some : 0 < s.references = every-in (λ s. 0 < s.references) live are.referenced s found.0 in
          let own : references_of q live ≡ s.references = ap refs is in
          list_any-In (is_of q) s live found.0 found.1
          ∙ elim (cases_Bool (list_any (peers.ghosts.eq q) listed)) [
            | inl there ↦ sym there
            | inr none ↦ absurd (omega (arith, some, own, referred q, count_by-none (peers.ghosts.eq q) listed none))
          ]

abbrev is_label_selector : Live → Bool
is_label_selector s = is_label_peer s.peer

-- the peers of the selectors of labels
abbrev selected : List Live → List Peer
selected live = map (λ s. s.peer) (filter is_label_selector live)

-- each selector has a reference, and so its peer is listed
pub selectors_are_peers : (policies : List Stamped) (live : List Live) → RefsOf (peers_of policies) live → AreLive live → label_selectors live ≡ label_peers policies
selectors_are_peers policies live referred are =
    let alike : (p q : Peer) → peers.ghosts.eq q p ≡ true → is_label_peer p ≡ is_label_peer q = λ p q same. ap is_label_peer (sym (peer_is q p same)) in
    let apart : IsDistinct peers.ghosts.eq (selected live) = differ_filtered (λ s. s.peer) peer_eq-Decides is_label_selector live are.apart in
    let same : (q : Peer) → list_any (peers.ghosts.eq q) (selected live) ≡ list_any (peers.ghosts.eq q) (filter is_label_peer (peers_of policies)) = λ q.
    list_any-map (λ s. s.peer) (peers.ghosts.eq q) (filter is_label_selector live)
    ∙ any-filter_same (is_of q) is_label_selector (is_label_peer q) (λ s is. alike s.peer q is) live
    ∙ ap (λ b. is_label_peer q && b) (has_selector (peers_of policies) live referred are q)
    ∙ sym (any-filter_same (peers.ghosts.eq q) is_label_peer (is_label_peer q) (λ p is. alike p q is) (peers_of policies)) in
    sym (length-filter is_label_selector live)
    ∙ sym (length-map (filter is_label_selector live) (λ s. s.peer))
    ∙ length-from_keys equal_peers (selected live) (filter is_label_peer (peers_of policies)) apart same
