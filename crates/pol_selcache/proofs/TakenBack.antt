-- A reference that is taken back leaves the selectors as they were.
use Rattle.std.proofs.Common.{◌≡◌, ℕ, ◌+◌, ◌-◌, ◌==◌, true, false, nat_lt, List, [], ◌∷◌, ◌++◌, map, filter, Option, Some, None, refl, ap, ◌∙◌, inl, inr, arith}
use Rattle.std.proofs.lemmas.Bool.{cases_eq, cond-true, cond-false, eq-eqb, lt-ltb, or_left, or_right}
use Rattle.pol_model.specs.declared.row.IdentityRow.{IdentityRow}
use Rattle.pol_rule.specs.contracts.policy.PeerPartialEq.TheImpl as peers
use Rattle.pol_rule.specs.declared.policy.Peer.{Peer}
use Rattle.pol_selcache.specs.Cache.{Cache, IsSound, added, added_by, number_added, or_next}
use Rattle.pol_selcache.specs.Live.{Live, is_live, number_of, one_less, one_more, where_number, with_reference, without_reference}
use Rattle.pol_selectors.proofs.LiveLists.{AllReferenced, all_stay, elsewhere, live_kept, there}
use Rattle.pol_selcache.proofs.Sound.{AllBelow, found_lives}

-- one more and then one less
back_one : (n : ℕ) (s : Live) → where_number n one_less (where_number n one_more s) ≡ s
back_one n s =
    elim (cases_eq s.number n) [
      | inl same ↦
          let give : ℕ → Live = λ count. record s { references = count } in
          let counts : s.references + 1 - 1 ≡ s.references = omega arith in
          ap (where_number n one_less) (there n one_more s same) ∙ there n one_less (one_more s) same ∙ ap give counts
      | inr other ↦ ap (where_number n one_less) (elsewhere n one_more s other) ∙ elsewhere n one_less s other
    ]

all_back : (n : ℕ) (live : List Live) → map (where_number n one_less) (with_reference n live) ≡ live
all_back n [] = refl
all_back n (s ∷ live) = λ i. back_one n s i ∷ all_back n live i

-- a new selector goes with its one reference
new_back : (next : ℕ) (live : List Live) (new : Live) → AllBelow next live → AllReferenced live → new.number ≡ next → new.references ≡ 1 → without_reference next (live ++ new ∷ []) ≡ live
new_back next [] new below referenced is one =
    let none : nat_lt 0 (where_number next one_less new).references ≡ false =
    ap (λ (s : Live). nat_lt 0 s.references) (there next one_less new is) ∙ ap (λ r. nat_lt 0 (r - 1)) one in
    cond-false _ (where_number next one_less new ∷ []) [] none
new_back next (s ∷ live) new below referenced is one =
    let here : where_number next one_less s ≡ s = elsewhere next one_less s (λ same. let less = below.0 in omega arith) in
    let kept : nat_lt 0 (where_number next one_less s).references ≡ true =
    ap (λ (t : Live). nat_lt 0 t.references) here ∙ lt-ltb 0 s.references referenced.0 in
    let rest = new_back next live new below.1 referenced.1 is one in
    cond-true _ (where_number next one_less s ∷ without_reference next (live ++ new ∷ [])) _ kept
    ∙ (λ k. here k ∷ rest k)

module _ (p : Peer) (rows : List IdentityRow) (cache : Cache) where
  pub taken_back : IsSound cache → without_reference (number_added p cache) (added p rows cache).live ≡ cache.live
  taken_back sound = by (number_of p cache.live)
    where
      by : (o : Option ℕ) → without_reference (or_next o cache.next) (added_by o p rows cache).live ≡ cache.live
      by (Some n) = ap (filter (λ s. nat_lt 0 s.references)) (all_back n cache.live) ∙ all_stay cache.live sound.live.referenced
      by None = new_back cache.next cache.live _ sound.below sound.live.referenced refl refl

  pub given_lives : is_live (number_added p cache) (added p rows cache).live ≡ true
  given_lives = by (number_of p cache.live) refl
    where
      at_end : (live : List Live) (new : Live) → is_live new.number (live ++ new ∷ []) ≡ true
      at_end [] new = or_left (new.number == new.number) false (eq-eqb new.number new.number refl)
      at_end (s ∷ live) new = or_right (s.number == new.number) (is_live new.number (live ++ new ∷ [])) (at_end live new)

      by : (o : Option ℕ) → number_of p cache.live ≡ o → is_live (or_next o cache.next) (added_by o p rows cache).live ≡ true
      by (Some n) is = live_kept n one_more (λ s. refl) (λ s. refl) cache.live n ∙ found_lives (λ s. peers.ghosts.eq p s.peer) n cache.live is
      by None is = at_end cache.live _
