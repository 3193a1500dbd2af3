-- Rows that are kept, and those that are read anew of the same peers.
use Rattle.std.proofs.Common.{◌≡◌, ℕ, ◌<◌, ◌==◌, ◌||◌, Bool, true, false, nat_eq, List, [], ◌∷◌, map, find, IsTrue, Some, option_map, inl, inr, refl, sym, ap, ◌∙◌, subst}
use Rattle.std.specs.List.{AllByRecursion, Contains, IsDistinct, list_any}
use Rattle.std.proofs.lemmas.Bool.{both_ways, cond-false, cond-true, eqb-true, false_from_ne_true}
use Rattle.pol_data.proofs.Every.{every-append, every-map, every-weaker}
use Rattle.pol_data.proofs.Members.{In, every-in}
use Rattle.pol_rule.specs.contracts.policy.PeerPartialEq.TheImpl as peers
use Rattle.pol_rule.specs.declared.policy.Peer.{Peer}
use Rattle.pol_rule.specs.declared.policy.Peers.{Peers}
use Rattle.pol_rule.specs.declared.policy.Peers.TheVariants.{Every, Listed}
use Rattle.pol_model_laws.proofs.Keyed.{one_of_number}
use Rattle.pol_model_laws.proofs.Membership.{find-In, found-some}
use Rattle.pol_rule.proofs.Equality.{peer_eq-Decides}
use Rattle.pol_sets.specs.declared.sets.SetRow.{SetRow}
use Rattle.pol_sets.specs.Sets.{has_set}
use Rattle.pol_filters.specs.declared.filter.Filter.{Filter}
use Rattle.pol_filters.specs.declared.filter.Filters.{Filters}
use Rattle.pol_distill.specs.Sorted.{ListHasSets, PeersHaveSets}
use Rattle.pol_selcache.specs.Cache.{Cache, IsSound}
use Rattle.pol_selcache.specs.Live.{AreLive, Live, is_live, number_of}
use Rattle.pol_rule.specs.Listed.{peers_in}
use Rattle.pol_peers.proofs.Found.{found_of, is_of}
use Rattle.pol_taken.specs.Known.{HaveSelectors, IsKnownRow, IsListingOf, key_of}
use Rattle.pol_taken.specs.PeerRows.{AreSetsFor, IsLiveRow, filter_peers, list_peers}
use Rattle.pol_taken.proofs.Adding.{are_sets}

-- ---- rows of sets are listed
module _ (rows : List SetRow) where
  abbrev Has : Peer → Type 0
  Has p = IsTrue (has_set rows p)

  in_peers : (ps : Peers) → PeersHaveSets rows ps → AllByRecursion Has (peers_in ps)
  in_peers Every have = tt
  in_peers (Listed ps) have = have

  in_filters : (filters : List Filter) → ListHasSets rows filters → AllByRecursion Has (list_peers filters)
  in_filters [] have = tt
  in_filters (one ∷ filters) have = every-append Has (peers_in one.peers) (list_peers filters) (in_peers one.peers have.0) (in_filters filters have.1)

  pub listing_of : (live : List Live) (filters : Filters) → AreSetsFor live filters rows → IsListingOf (filter_peers filters) rows
  listing_of live filters is = record {
    listed = is.listed;
    every = every-append Has (list_peers filters.ingress) (list_peers filters.egress) (in_filters filters.ingress is.every.ingress) (in_filters filters.egress is.every.egress);
    once = is.once;
  }

-- ---- rows of the same peers and selectors
any-map : {X Y : Type 0} (q : Y → Bool) (f : X → Y) (xs : List X) → list_any q (map f xs) ≡ list_any (λ x. q (f x)) xs
any-map q f [] = refl
any-map q f (x ∷ xs) = ap (λ b. q (f x) || b) (any-map q f xs)

map-keys : {X : Type 0} (f : Peer × ℕ → X) (rows : List SetRow) → map f (map key_of rows) ≡ map (λ row. f (key_of row)) rows
map-keys f [] = refl
map-keys f (row ∷ rows) = ap (λ xs. f (key_of row) ∷ xs) (map-keys f rows)

every-unmap : {X Y : Type 0} (P : Y → Type 0) (f : X → Y) (xs : List X) → AllByRecursion P (map f xs) → AllByRecursion (λ x. P (f x)) xs
every-unmap P f [] all = tt
every-unmap P f (x ∷ xs) all = (all.0, every-unmap P f xs all.1)

module _ (wanted : List Peer) (rows others : List SetRow) (keys : map key_of others ≡ map key_of rows) where
  abbrev is_of_peer : Peer → Peer × ℕ → Bool
  is_of_peer p key = peers.ghosts.eq key.0 p

  same_sets : (p : Peer) → has_set others p ≡ has_set rows p
  same_sets p = sym (any-map (is_of_peer p) key_of others) ∙ ap (list_any (is_of_peer p)) keys ∙ any-map (is_of_peer p) key_of rows

  listing_alike : IsListingOf wanted rows → IsListingOf wanted others
  listing_alike is = record {
    listed = every-unmap (λ (key : Peer × ℕ). Contains wanted key.0) key_of others
        (subst (AllByRecursion (λ (key : Peer × ℕ). Contains wanted key.0)) (sym keys) (every-map (λ (key : Peer × ℕ). Contains wanted key.0) key_of rows is.listed));
    every = every-weaker (λ p. IsTrue (has_set rows p)) (λ p. IsTrue (has_set others p)) (λ p has. same_sets p ∙ has) wanted is.every;
    once = subst (IsDistinct nat_eq) (sym (map-keys (λ key. key.1) rows) ∙ ap (map (λ key. key.1)) (sym keys) ∙ map-keys (λ key. key.1) others) is.once;
  }

-- ---- selectors by their numbers
own_number : (live : List Live) → IsDistinct peers.ghosts.eq (map (λ s. s.peer) live) → (s : Live) → In s live → number_of s.peer live ≡ Some s.number
unfolding IsDistinct
own_number [] apart s there = elim there [ ]
own_number (t ∷ live) apart s (inl same) =
    ap (option_map (λ (x : Live). x.number)) (cond-true (is_of s.peer t) (Some t) (find (is_of s.peer) live) ((peer_eq-Decides s.peer t.peer).1 (ap (λ (x : Live). x.peer) (sym same))))
    ∙ ap (λ (x : Live). Some x.number) same
own_number (t ∷ live) apart s (inr later) =
    ap (option_map (λ (x : Live). x.number)) (cond-false (is_of s.peer t) (Some t) (find (is_of s.peer) live) other) ∙ own_number live apart.1 s later
  where
    beside : (others : List Live) → AllByRecursion (λ p. peers.ghosts.eq t.peer p ≡ false) (map (λ x. x.peer) others) → In s others → peers.ghosts.eq t.peer s.peer ≡ false
    beside [] unlike there = elim there [ ]
    beside (x ∷ others) unlike (inl same) = subst (λ (y : Live). peers.ghosts.eq t.peer y.peer ≡ false) same unlike.0
    beside (x ∷ others) unlike (inr there) = beside others unlike.1 there

    other : is_of s.peer t ≡ false
    other =
        false_from_ne_true (is_of s.peer t) (λ same.
        both_ways (peers.ghosts.eq t.peer s.peer) (beside live apart.0 later) ((peer_eq-Decides t.peer s.peer).1 (sym ((peer_eq-Decides s.peer t.peer).0 same))))

pub one_peer : (live : List Live) → AreLive live → (p q : Peer) (number : ℕ) → number_of p live ≡ Some number → number_of q live ≡ Some number → p ≡ q
one_peer live are p q number first second =
    let s = found_of p live number first in
    let t = found_of q live number second in
    let here = find-In (is_of p) s.0 live s.1 in
    let there = find-In (is_of q) t.0 live t.1 in
    let both = one_of_number (λ (x : Live). x.number) s.0 t.0 live are.numbers here.0 there.0 (s.2 ∙ sym t.2) in
    (peer_eq-Decides p s.0.peer).0 here.1 ∙ ap (λ (x : Live). x.peer) both ∙ sym ((peer_eq-Decides q t.0.peer).0 there.1)

-- ---- rows are made of those that are listed
module _ (cache : Cache) (sound : IsSound cache) where
  pub below_next : (p : Peer) (number : ℕ) → number_of p cache.live ≡ Some number → number < cache.next
  below_next p number is =
      let s = found_of p cache.live number is in
      let here = find-In (is_of p) s.0 cache.live s.1 in
      subst (λ n. n < cache.next) s.2 (every-in (λ (y : Live). y.number < cache.next) cache.live sound.below s.0 here.0)

  -- a row's peer has the row's selector where that is live
  number_now : (read : ℕ) (row : SetRow) → IsKnownRow cache read row → is_live row.selector cache.live ≡ true → number_of row.peer cache.live ≡ Some row.selector
  number_now read row known lives =
      let s = found-some (λ (t : Live). t.number == row.selector) cache.live lives in
      let here = find-In (λ (t : Live). t.number == row.selector) s.0 cache.live s.1 in
      let its : number_of s.0.peer cache.live ≡ Some row.selector = own_number cache.live sound.live.apart s.0 here.0 ∙ ap Some (eqb-true s.0.number row.selector here.1) in
      ap (λ p. number_of p cache.live) (sym (known.own s.0.peer its)) ∙ its

  pub numbers_now : (read : ℕ) (rows : List SetRow) → AllByRecursion (IsKnownRow cache read) rows → HaveSelectors cache rows → AllByRecursion (λ row. number_of row.peer cache.live ≡ Some row.selector) rows
  numbers_now read [] known live = tt
  numbers_now read (row ∷ rows) known live = (number_now read row known.0 live.0, numbers_now read rows known.1 live.1)

  pub sets_made : (filters : Filters) (rows others : List SetRow) → IsListingOf (filter_peers filters) rows → map key_of others ≡ map key_of rows
      → AllByRecursion (IsLiveRow cache.live) others → AreSetsFor cache.live filters others
  sets_made filters rows others is keys live =
      let its = listing_alike (filter_peers filters) rows others keys is in
      are_sets cache.live sound.live filters others (record { live = live; listed = its.listed; every = its.every; once = its.once })
