-- Rows for one peer more, and what rows for all peers of filters tell.
use Rattle.std.proofs.Common.{◌≡◌, ℕ, ◌==◌, ◌||◌, Bool, true, false, cond, nat_eq, List, [], ◌∷◌, ◌++◌, map, find, IsTrue, Some, option_map, Result, Ok, Err, OnOk, inl, refl, sym, ap, ◌∙◌, subst}
use Rattle.std.specs.Arc.{arc_value}
use Rattle.std.specs.Bool.{Decides}
use Rattle.std.specs.List.{AllByRecursion, Contains, IsDistinct, list_any}
use Rattle.std.proofs.lemmas.Bool.{both_ways, eq-eqb, eqb-true, false_from_ne_true}
use Rattle.std.proofs.lemmas.Option.{same_Some}
use Rattle.pol_data.proofs.Every.{every-append, every-weaker}
use Rattle.pol_data.proofs.Members.{Contains-from_In, In-from_Contains, every-in}
use Rattle.pol_rule.specs.contracts.policy.PeerPartialEq.TheImpl as peers
use Rattle.pol_rule.specs.declared.policy.Peer.{Peer}
use Rattle.pol_rule.specs.declared.policy.Peers.{Peers}
use Rattle.pol_rule.specs.declared.policy.Peers.TheVariants.{Every, Listed}
use Rattle.pol_rule.proofs.Equality.{peer_eq-Decides}
use Rattle.pol_model.specs.declared.row.IdentityRow.{IdentityRow}
use Rattle.pol_model.specs.Selects.{set_at}
use Rattle.pol_model_laws.proofs.Distinct.{differ_pushed}
use Rattle.pol_model_laws.proofs.Keyed.{found_by_number, one_of_number}
use Rattle.pol_model_laws.proofs.Membership.{In-left, In-list_any, In-right, find-In, list_any-In}
use Rattle.pol_sets.specs.declared.sets.SetRow.{SetRow}
use Rattle.pol_sets.specs.Sets.{has_set, is_row_of}
use Rattle.pol_filters.specs.declared.filter.Filter.{Filter}
use Rattle.pol_filters.specs.declared.filter.Filters.{Filters}
use Rattle.pol_distill.specs.Sorted.{ListHasSets, PeersHaveSets}
use Rattle.pol_selcache.specs.Live.{AreExact, AreLive, Live, number_of, selector_of}
use Rattle.pol_rule.specs.Listed.{peers_in}
use Rattle.pol_peers.proofs.Found.{found_of, is_of}
use Rattle.pol_taken.specs.PeerRows.{AreRowsFor, AreSetsFor, IsLiveRow, filter_peers, has_selector, list_peers}

-- what holds of all of two lists holds of all of each
pub every-parts : {X : Type 0} (P : X → Type 0) (xs ys : List X) → AllByRecursion P (xs ++ ys) → AllByRecursion P xs × AllByRecursion P ys
every-parts P [] ys all = (tt, all)
every-parts P (x ∷ xs) ys all = let rest = every-parts P xs ys all.1 in ((all.0, rest.0), rest.1)

module _ {X : Type 0} (p : X → Bool) where
  any-left : (xs ys : List X) → list_any p xs ≡ true → list_any p (xs ++ ys) ≡ true
  any-left xs ys some = let one = In-list_any p xs some in list_any-In p one.0 (xs ++ ys) (In-left one.0 xs ys one.1) one.2

  any-last : (xs : List X) (x : X) → p x ≡ true → list_any p (xs ++ x ∷ []) ≡ true
  any-last xs x here = list_any-In p x (xs ++ x ∷ []) (In-right x xs (x ∷ []) (inl refl)) here

-- one number more, in a set of numbers and among rows
pub selector_more : (rows : List SetRow) (row : SetRow) (number : ℕ) (has : Bool) → has ≡ has_selector number rows
    → cond (row.selector == number) true has ≡ has_selector number (rows ++ row ∷ [])
selector_more [] row number has is = by (row.selector == number) has is
  where
    by : (here has : Bool) → has ≡ false → cond here true has ≡ (here || false)
    by true has is = refl
    by false has is = is
selector_more (other ∷ rows) row number has is =
    by (row.selector == number) (other.selector == number) has (has_selector number rows) (has_selector number (rows ++ row ∷ [])) is
    (selector_more rows row number (has_selector number rows) refl)
  where
    by : (here there has rest more : Bool) → has ≡ (there || rest) → cond here true rest ≡ more → cond here true has ≡ (there || more)
    by here true has rest more is later = elim here as (λ b. cond b true has ≡ true) [ true ↦ refl | false ↦ is ]
    by here false has rest more is later = ap (λ b. cond here true b) is ∙ later

-- no peer and no row
pub no_rows : (live : List Live) (rows : List SetRow) → rows ≡ [] → AreRowsFor live [] rows
unfolding IsDistinct
no_rows live rows none = subst (AreRowsFor live []) (sym none) (record { live = tt; listed = tt; every = tt; once = tt })

pub on_ok : {T E : Type 0} {X Y : Type 0} (r : Result T E) → (X → Y) → OnOk r X → OnOk r Y
on_ok (Ok x) to is = to is
on_ok (Err e) to is = is

nat_decides : (a b : ℕ) → Decides (nat_eq a b) (a ≡ b)
nat_decides a b = (eqb-true a b, eq-eqb a b)

still_listed : (listed : List Peer) (p : Peer) (rows : List SetRow) → AllByRecursion (λ row. Contains listed row.peer) rows → AllByRecursion (λ row. Contains (listed ++ p ∷ []) row.peer) rows
still_listed listed p rows all =
    every-weaker (λ row. Contains listed row.peer) (λ row. Contains (listed ++ p ∷ []) row.peer)
    (λ row there. Contains-from_In (listed ++ p ∷ []) row.peer (In-left row.peer listed (p ∷ []) (In-from_Contains listed row.peer there))) rows all

module _ (live : List Live) (are : AreLive live) where
  -- peers of one selector are one
  one_peer : (p q : Peer) (number : ℕ) → number_of p live ≡ Some number → number_of q live ≡ Some number → p ≡ q
  one_peer p q number is also =
      let s = found_of p live number is in
      let t = found_of q live number also in
      let here = find-In (is_of p) s.0 live s.1 in
      let there = find-In (is_of q) t.0 live t.1 in
      let both = one_of_number (λ (x : Live). x.number) s.0 t.0 live are.numbers here.0 there.0 (s.2 ∙ sym t.2) in
      (peer_eq-Decides p s.0.peer).0 here.1 ∙ ap (λ (x : Live). x.peer) both ∙ sym ((peer_eq-Decides q t.0.peer).0 there.1)

  has_row : (p : Peer) (number : ℕ) (rows : List SetRow) → AllByRecursion (IsLiveRow live) rows → number_of p live ≡ Some number → has_selector number rows ≡ true → IsTrue (has_set rows p)
  has_row p number rows all is there =
      let one = In-list_any (λ (row : SetRow). row.selector == number) rows there in
      let its = every-in (IsLiveRow live) rows all one.0 one.1 in
      let same = one_peer one.0.peer p number (its.selector ∙ ap Some (eqb-true one.0.selector number one.2)) is in
      list_any-In (is_row_of p) one.0 rows one.1 ((peer_eq-Decides one.0.peer p).1 same)

  -- a peer whose selector has a row
  pub row_stays : (listed : List Peer) (p : Peer) (number : ℕ) (rows : List SetRow) → number_of p live ≡ Some number → has_selector number rows ≡ true
      → AreRowsFor live listed rows → AreRowsFor live (listed ++ p ∷ []) rows
  row_stays listed p number rows is there was = record {
    live = was.live;
    listed = still_listed listed p rows was.listed;
    every = every-append (λ q. IsTrue (has_set rows q)) listed (p ∷ []) was.every (has_row p number rows was.live is there, tt);
    once = was.once;
  }

  -- the peer's new row
  pub row_comes : (listed : List Peer) (p : Peer) (row : SetRow) (rows : List SetRow) → row.peer ≡ p → IsLiveRow live row → has_selector row.selector rows ≡ false
      → AreRowsFor live listed rows → AreRowsFor live (listed ++ p ∷ []) (rows ++ row ∷ [])
  row_comes listed p row rows own is new was = record {
    live = every-append (IsLiveRow live) rows (row ∷ []) was.live (is, tt);
    listed = every-append (λ r. Contains (listed ++ p ∷ []) r.peer) rows (row ∷ []) (still_listed listed p rows was.listed)
        (Contains-from_In (listed ++ p ∷ []) row.peer (In-right row.peer listed (p ∷ []) (inl (sym own))), tt);
    every = every-append (λ q. IsTrue (has_set (rows ++ row ∷ []) q)) listed (p ∷ [])
        (every-weaker (λ q. IsTrue (has_set rows q)) (λ q. IsTrue (has_set (rows ++ row ∷ []) q)) (λ q there. any-left (is_row_of q) rows (row ∷ []) there) listed was.every)
        (any-last (is_row_of p) rows row ((peer_eq-Decides row.peer p).1 own), tt);
    once = differ_pushed (λ (r : SetRow). r.selector) nat_decides row rows new was.once;
  }

  -- ---- all rows
  exact_set : (identities : List IdentityRow) → AreExact identities live → (row : SetRow) → IsLiveRow live row → arc_value row.set ≡ set_at identities row.peer
  exact_set identities exact row is =
      let s = found_of row.peer live row.selector is.selector in
      let here = find-In (is_of row.peer) s.0 live s.1 in
      let found : selector_of row.selector live ≡ Some s.0 = subst (λ n. find (λ (y : Live). y.number == n) live ≡ Some s.0) s.2 (found_by_number (λ (y : Live). y.number) s.0 live are.numbers here.0) in
      let set = same_Some s.0.set (arc_value row.set) (sym (ap (option_map (λ (y : Live). y.set)) found) ∙ is.set) in
      sym set ∙ every-in (λ (y : Live). y.set ≡ set_at identities y.peer) live exact s.0 here.0
      ∙ ap (set_at identities) (sym ((peer_eq-Decides row.peer s.0.peer).0 here.1))

  -- the row has the number of its peer's selector
  abbrev HasOwn : SetRow → Type 0
  HasOwn row = number_of row.peer live ≡ Some row.selector

  others_differ : (row : SetRow) (rows : List SetRow) → HasOwn row → AllByRecursion HasOwn rows
      → AllByRecursion (λ m. nat_eq row.selector m ≡ false) (map (λ r. r.selector) rows) → AllByRecursion (λ q. peers.ghosts.eq row.peer q ≡ false) (map (λ r. r.peer) rows)
  others_differ row [] is all apart = tt
  others_differ row (r ∷ rows) is all apart = (
    false_from_ne_true (peers.ghosts.eq row.peer r.peer) (λ same.
        let one : Some row.selector ≡ Some r.selector = sym is ∙ ap (λ p. number_of p live) ((peer_eq-Decides row.peer r.peer).0 same) ∙ all.0 in
        both_ways (nat_eq row.selector r.selector) apart.0 (eq-eqb row.selector r.selector (same_Some row.selector r.selector one))),
    others_differ row rows is all.1 apart.1,
  )

  peers_differ : (rows : List SetRow) → AllByRecursion HasOwn rows → IsDistinct nat_eq (map (λ r. r.selector) rows) → IsDistinct peers.ghosts.eq (map (λ r. r.peer) rows)
  unfolding IsDistinct
  peers_differ [] all apart = tt
  peers_differ (row ∷ rows) all apart = (others_differ row rows all.0 all.1 apart.0, peers_differ rows all.1 apart.1)

  peers_have : (rows : List SetRow) (ps : Peers) → AllByRecursion (λ p. IsTrue (has_set rows p)) (peers_in ps) → PeersHaveSets rows ps
  peers_have rows Every all = tt
  peers_have rows (Listed ps) all = all

  lists_have : (rows : List SetRow) (filters : List Filter) → AllByRecursion (λ p. IsTrue (has_set rows p)) (list_peers filters) → ListHasSets rows filters
  lists_have rows [] all = tt
  lists_have rows (one ∷ filters) all =
      let parts = every-parts (λ p. IsTrue (has_set rows p)) (peers_in one.peers) (list_peers filters) all in
      (peers_have rows one.peers parts.0, lists_have rows filters parts.1)

  -- rows of the filters' peers, each with the number of its peer's selector and an exact set
  pub sets_by : (filters : Filters) (rows : List SetRow) → AllByRecursion (λ row. Contains (filter_peers filters) row.peer) rows → AllByRecursion (λ p. IsTrue (has_set rows p)) (filter_peers filters)
      → IsDistinct nat_eq (map (λ row. row.selector) rows) → AllByRecursion HasOwn rows
      → ((identities : List IdentityRow) → AreExact identities live → AllByRecursion (λ row. arc_value row.set ≡ set_at identities row.peer) rows) → AreSetsFor live filters rows
  sets_by filters rows listed every once own exact =
      let parts = every-parts (λ p. IsTrue (has_set rows p)) (list_peers filters.ingress) (list_peers filters.egress) every in
      record {
        every = record { ingress = lists_have rows filters.ingress parts.0; egress = lists_have rows filters.egress parts.1 };
        listed = listed;
        selectors = own;
        once = once;
        apart = peers_differ rows own once;
        exact = exact;
      }

  pub are_sets : (filters : Filters) (rows : List SetRow) → AreRowsFor live (filter_peers filters) rows → AreSetsFor live filters rows
  are_sets filters rows is =
      sets_by filters rows is.listed is.every is.once
      (every-weaker (IsLiveRow live) HasOwn (λ row its. its.selector) rows is.live)
      (λ identities exact. every-weaker (IsLiveRow live) (λ row. arc_value row.set ≡ set_at identities row.peer) (exact_set identities exact) rows is.live)
