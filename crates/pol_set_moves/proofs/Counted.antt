-- A plan has as many changes as sets of listed peers change with its revision.
use Rattle.std.proofs.Common.{suc, ◌≡◌, ℕ, ◌+◌, ◌&&◌, not, nat_eq, Bool, true, false, cond, List, [], ◌∷◌, count_by, filter, length, map, Some, None, refl, sym, ap, ◌∙◌, inl, inr, subst, arith}
use Rattle.std.specs.Cmp.Lexicographic.{bytes_decides, pointwise}
use Rattle.std.specs.List.{cons_option, list_any}
use Rattle.std.specs.List.Sorted.{IsStrictlySortedBy}
use Rattle.std.specs.Ordering.{nat_cmp}
use Rattle.std.specs.Set.{distinct_count}
use Rattle.std.proofs.lemmas.Bool.{cases_Bool}
use Rattle.std.proofs.lemmas.List.{length-map}
use Rattle.std.proofs.lemmas.List.Sums.{length-filter}
use Rattle.std.proofs.lemmas.Map.Made.{length-from_keys}
use Rattle.std.proofs.lemmas.Map.Views.{any-filter_same}
use Rattle.pol_data.proofs.Counts.{count_by-cons}
use Rattle.pol_data.proofs.Filters.{filter-none}
use Rattle.pol_data.proofs.Members.{In, every-in}
use Rattle.pol_model_laws.proofs.Distinct.{differ_filtered}
use Rattle.pol_model_laws.proofs.Membership.{list_any-map, map-In}
use Rattle.pol_rule.specs.contracts.policy.PeerPartialEq.TheImpl as peers
use Rattle.pol_rule.specs.declared.policy.Peer.{Peer}
use Rattle.pol_rule.proofs.Equality.{peer_eq-Decides}
use Rattle.pol_model.specs.declared.row.IdentityRow.{IdentityRow}
use Rattle.pol_model.specs.Selects.{set_at}
use Rattle.pol_model.proofs.AscendingStates.{RowsAscend}
use Rattle.pol_set_changes.specs.Ids.{has, without}
use Rattle.pol_peers.proofs.Equality.{equal_peers}
use Rattle.pol_peers.proofs.Found.{is_of}
use Rattle.pol_selcache.specs.Cache.{Cache, IsPlanFor}
use Rattle.pol_selcache.specs.Live.{AreExact, AreLive, Live}
use Rattle.pol_selcache.specs.Plan.{Plan, Planned, after_changes, change_to, changed, changes_for, is_empty}
use Rattle.pol_selcache.proofs.Exact.{plan_makes_exact, unmoved}
use Rattle.pol_selcache.proofs.Numbers.{has-In}
use Rattle.pol_selcache.proofs.RowSets.{set_sorted}

-- ---- the same list neither has more nor less
none_beside : (all xs : List ℕ) → ((n : ℕ) → In n xs → has n all ≡ true) → list_any (λ n. not (has n all)) xs ≡ false
none_beside all [] there = refl
none_beside all (x ∷ xs) there = rw (there x (inl refl)) (none_beside all xs (λ n later. there n (inr later)))

nothing_without : (xs : List ℕ) → is_empty (without xs xs) ≡ true
nothing_without xs = ap is_empty (filter-none (λ n. not (has n xs)) xs (none_beside xs xs (λ n there. has-In n xs there)))

same_lists : (xs ys : List ℕ) → pointwise nat_eq xs ys ≡ true → (is_empty (without ys xs) && is_empty (without xs ys)) ≡ true
same_lists xs ys same =
    subst (λ zs. (is_empty (without zs xs) && is_empty (without xs zs)) ≡ true) ((bytes_decides xs ys).0 same) (λ i. nothing_without xs i && nothing_without xs i)

-- how much a change counts
abbrev weight : Bool → ℕ
weight b = cond b 1 0

abbrev moves : List ℕ → List ℕ → Bool
moves old new = not (pointwise nat_eq old new)

-- ---- one selector's change
none_more : (n : ℕ) → n ≡ 0 + n
none_more n = omega arith

one_more : (n : ℕ) → suc n ≡ 1 + n
one_more n = omega arith

module _ (set : List ℕ) (s : Live) (sorted : IsStrictlySortedBy nat_cmp s.set) (set_sorts : IsStrictlySortedBy nat_cmp set) where
  one_change : (rest : List Planned) → length (cons_option (change_to set s) rest) ≡ weight (moves s.set set) + length rest
  one_change rest = by (is_empty (without set s.set) && is_empty (without s.set set)) refl
    where
      it : Planned
      it = record { selector = s.number; gained = without set s.set; lost = without s.set set; set = set }

      by : (b : Bool) → (is_empty (without set s.set) && is_empty (without s.set set)) ≡ b → length (cons_option (cond b None (Some it)) rest) ≡ weight (moves s.set set) + length rest
      by true still = none_more (length rest) ∙ ap (λ b. weight (not b) + length rest) (sym ((bytes_decides s.set set).1 (unmoved s.set set sorted set_sorts still)))
      by false moved = elim (cases_Bool (pointwise nat_eq s.set set)) [
        | inl same ↦ absurd (let wrong : true ≡ false = sym (same_lists s.set set same) ∙ moved in cc)
        | inr other ↦ one_more (length rest) ∙ ap (λ b. weight (not b) + length rest) (sym other)
      ]

changes_counted : (rows before : List IdentityRow) → RowsAscend rows → RowsAscend before → (live : List Live) → AreExact before live
    → length (changes_for rows live) ≡ count_by (λ (s : Live). moves (set_at before s.peer) (set_at rows s.peer)) live
changes_counted rows before ascend before_ascend [] exact = refl
changes_counted rows before ascend before_ascend (s ∷ live) exact =
    one_change (set_at rows s.peer) s (subst (IsStrictlySortedBy nat_cmp) (sym exact.0) (set_sorted s.peer before before_ascend)) (set_sorted s.peer rows ascend) (changes_for rows live)
    ∙ (λ i. weight (moves (exact.0 i) (set_at rows s.peer)) + changes_counted rows before ascend before_ascend live exact.1 i)
    ∙ sym (count_by-cons (λ (x : Live). moves (set_at before x.peer) (set_at rows x.peer)) s live)

-- ---- counts of the same
count_alike : {X : Type 0} (p q : X → Bool) (xs : List X) → ((x : X) → In x xs → p x ≡ q x) → count_by p xs ≡ count_by q xs
count_alike p q [] alike = refl
count_alike p q (x ∷ xs) alike =
    count_by-cons p x xs ∙ (λ i. weight (alike x (inl refl) i) + count_alike p q xs (λ y later. alike y (inr later)) i) ∙ sym (count_by-cons q x xs)

-- ---- the plan's changes
module _ (before after : List IdentityRow) (before_ascend : RowsAscend before) (cache : Cache) (are : AreLive cache.live) (plan : Plan) (fits : IsPlanFor plan cache)
    (exact : AreExact before cache.live) (exact_after : AreExact after (changed plan.changes cache.live)) where
  -- the rows that the plan was made for have the sets of those afterwards
  sets_after : (s : Live) → In s cache.live → set_at fits.rows s.peer ≡ set_at after s.peer
  sets_after s there =
      let made = plan_makes_exact fits.rows before fits.ascend before_ascend cache.live are.numbers exact in
      let made_by : AreExact fits.rows (changed plan.changes cache.live) = subst (λ changes. AreExact fits.rows (changed changes cache.live)) (sym fits.changes) made in
      let own = map-In (after_changes plan.changes) s cache.live there in
      sym (every-in (λ x. x.set ≡ set_at fits.rows x.peer) (changed plan.changes cache.live) made_by (after_changes plan.changes s) own)
      ∙ every-in (λ x. x.set ≡ set_at after x.peer) (changed plan.changes cache.live) exact_after (after_changes plan.changes s) own

  -- a listed peer is that of a selector, and each selector's is listed
  module _ (listed : List Peer) (lives : (p : Peer) → list_any (is_of p) cache.live ≡ list_any (peers.ghosts.eq p) listed) where
    abbrev test : Peer → Bool
    test p = moves (set_at before p) (set_at after p)

    abbrev moved : Live → Bool
    moved s = test s.peer

    same_test : (p q : Peer) → peers.ghosts.eq p q ≡ true → test q ≡ test p
    same_test p q same = ap test (sym ((peer_eq-Decides p q).0 same))

    same_peers : (p : Peer) → list_any (peers.ghosts.eq p) (map (λ (s : Live). s.peer) (filter moved cache.live)) ≡ list_any (peers.ghosts.eq p) (filter test listed)
    same_peers p =
        list_any-map (λ (s : Live). s.peer) (peers.ghosts.eq p) (filter moved cache.live)
        ∙ any-filter_same (is_of p) moved (test p) (λ s is. same_test p s.peer is) cache.live
        ∙ ap (λ b. test p && b) (lives p)
        ∙ sym (any-filter_same (peers.ghosts.eq p) test (test p) (λ q is. same_test p q is) listed)

    pub plan_counted : length plan.changes ≡ distinct_count peers.ghosts.eq (filter test listed)
    plan_counted =
        ap length fits.changes
        ∙ changes_counted fits.rows before fits.ascend before_ascend cache.live exact
        ∙ count_alike (λ (s : Live). moves (set_at before s.peer) (set_at fits.rows s.peer)) moved cache.live (λ s there. ap (moves (set_at before s.peer)) (sets_after s there))
        ∙ sym (length-filter moved cache.live)
        ∙ sym (length-map (filter moved cache.live) (λ (s : Live). s.peer))
        ∙ length-from_keys equal_peers (map (λ (s : Live). s.peer) (filter moved cache.live)) (filter test listed) (differ_filtered (λ (s : Live). s.peer) peer_eq-Decides moved cache.live are.apart) same_peers
