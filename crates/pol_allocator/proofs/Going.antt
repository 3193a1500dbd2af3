-- One holder of a number goes: whether the number goes with it, and what a plan asks then.
use Rattle.std.proofs.Common.{zero, suc, ◌≡◌, ℕ, ◌<◌, ◌≤◌, ◌==◌, ◌&&◌, ◌||◌, Bool, true, false, not, if◌then◌else◌, List, [], ◌∷◌, Option, None, Some, option_map, nat_le, nat_lt, refl, sym, ap, subst, ◌∙◌, inl, inr, arith}
use Rattle.std.proofs.lemmas.Bool.{and_from, and_parts, both_ways, eq-eqb, eqb-true, le-leb, leb-true, lt-leb, ltb-false, ltb-true, ne_eqb}
use Rattle.std.specs.List.{Contains}
use Rattle.pol_data.proofs.Members.{Contains-from_In, In, In-from_Contains}
use Rattle.pol_model.specs.declared.limits.TheConstants.{RESERVED_LAST}
use Rattle.pol_model.specs.declared.row.IdentityRow.{IdentityRow}
use Rattle.pol_model.specs.Identities.{is_reserved, released}
use Rattle.pol_model_laws.specs.Holding.{has_row, row_of}
use Rattle.pol_model_laws.specs.Keeps.{KeepsRows}
use Rattle.pol_model_laws.proofs.FoundRows.{alone-released, holders-some, none-zero, reserved-there, row-kinds}
use Rattle.pol_model_laws.proofs.Membership.{find-In, found-some, list_any-In}
use Rattle.pol_model_laws.proofs.Parts.{part-released}
use Rattle.pol_model_laws.proofs.RowCounts.{number-count, number-goes}
use Rattle.pol_model_laws.proofs.RowLaws.{keep_released}
use Rattle.pol_set_changes.specs.Ids.{has}
use Rattle.pol_set_changes.specs.Log.{newest}
use Rattle.pol_selcache.specs.Cache.{Cache, MayPlan}
use Rattle.pol_selcache.specs.Live.{Live, AreExact, rows_without}
use Rattle.pol_selcache.proofs.Staying.{exact_as_gone}
use Rattle.pol_selcache.proofs.Coming.{rows_without_none}

module _ (number : ℕ) (rows : List IdentityRow) (keeps : KeepsRows rows) where
  has_it : (row : IdentityRow) (others : List IdentityRow) → In row others → row.number ≡ number → has_row number others ≡ true
  has_it row others there is = list_any-In (λ r. r.number == number) row others there (eq-eqb row.number number is)

  -- a reserved number stays, and any other one goes with its last holder
  pub last_goes : (row : IdentityRow) → row_of number rows ≡ Some row → (not (is_reserved number) && (row.holders == 1)) ≡ not (has_row number (released number rows))
  last_goes row found = by (is_reserved row.number) refl (row.holders == 1) refl
    where
      at : In row rows × ((row.number == number) ≡ true)
      at = find-In (λ r. r.number == number) row rows found

      its : row.number ≡ number
      its = eqb-true row.number number at.1

      there : Contains rows row
      there = Contains-from_In rows row at.0

      one : ◌≡◌ {A = ℕ} (if row.number == number then 1 else 0) 1
      one = ap (λ b. if b then 1 else 0) at.1

      reserved_stays : is_reserved row.number ≡ true → has_row number (released number rows) ≡ true
      reserved_stays reserved =
          elim (row-kinds rows keeps row there) [
            | inl first ↦
                has_it row (released number rows) (In-from_Contains (released number rows) row (reserved-there (released number rows) (keep_released (Some number) rows keeps) row first)) its
            | inr (inl cluster) ↦ let range = cluster.number in absurd (omega (arith, range.0, leb-true row.number RESERVED_LAST (and_parts _ _ reserved).1))
            | inr (inr local) ↦ let from = local.from in absurd (omega (arith, from, leb-true row.number RESERVED_LAST (and_parts _ _ reserved).1))
          ]

      by : (reserved : Bool) → is_reserved row.number ≡ reserved → (last : Bool) → (row.holders == 1) ≡ last
          → (not (is_reserved number) && (row.holders == 1)) ≡ not (has_row number (released number rows))
      by true reserved last count =
          ap (λ n. not (is_reserved n) && (row.holders == 1)) (sym its) ∙ ap (λ b. not b && (row.holders == 1)) reserved ∙ sym (ap not (reserved_stays reserved))
      by false free true count =
          let few : row.holders ≤ (if row.number == number then 1 else 0) = omega (arith, one, eqb-true row.holders 1 count) in
          let goes : has_row number (released number rows) ≡ false =
          ap (λ n. has_row n (released number rows)) (sym its) ∙ number-goes number rows row keeps.numbers there free few in
          (λ i. not (is_reserved (sym its i)) && count i) ∙ ap (λ b. not b && true) free ∙ sym (ap not goes)
      by false free false count =
          let more : (if row.number == number then 1 else 0) < row.holders = by_count row.holders (holders-some rows keeps row there) count in
          let stays : has_row number (released number rows) ≡ true =
          has_it _ (released number rows) (In-from_Contains (released number rows) _ (number-count number rows row there free more)) its in
          (λ i. not (is_reserved (sym its i)) && count i) ∙ ap (λ b. not b && false) free ∙ sym (ap not stays)
        where
          by_count : (count : ℕ) → 0 < count → (count == 1) ≡ false → (if row.number == number then 1 else 0) < count
          by_count zero positive other = absurd (omega (arith, positive))
          by_count (suc zero) positive other = absurd cc
          by_count (suc (suc count)) positive other = omega (arith, one)

  -- and so it is told by the count of holders
  pub last_is : (holders : ℕ) → has_row number rows ≡ true → Some holders ≡ option_map (λ row. row.holders) (row_of number rows)
      → (nat_lt RESERVED_LAST number && (holders == 1)) ≡ not (has_row number (released number rows))
  last_is holders there count = by (row_of number rows) refl count
    where
      some : 0 < number
      some = by_number number refl
        where
          by_number : (n : ℕ) → n ≡ number → 0 < number
          by_number zero is = absurd (both_ways (has_row number rows) (ap (λ m. has_row m rows) (sym is) ∙ none-zero rows keeps) there)
          by_number (suc n) is = omega (arith, is)

      above : (b : Bool) → nat_lt RESERVED_LAST number ≡ b → nat_lt RESERVED_LAST number ≡ not (is_reserved number)
      above true past = past ∙ sym (ap not (ap (λ b. nat_le 1 number && b) (lt-leb number RESERVED_LAST (ltb-true RESERVED_LAST number past)) ∙ and_false (nat_le 1 number)))
        where
          and_false : (b : Bool) → (b && false) ≡ false
          and_false true = refl
          and_false false = refl
      above false within =
          within ∙ sym (ap not (and_from (nat_le 1 number) (nat_le number RESERVED_LAST) (le-leb 1 number some) (le-leb number RESERVED_LAST (ltb-false RESERVED_LAST number within))))

      by : (o : Option IdentityRow) → row_of number rows ≡ o → Some holders ≡ option_map (λ row. row.holders) o
          → (nat_lt RESERVED_LAST number && (holders == 1)) ≡ not (has_row number (released number rows))
      by None found is = absurd cc
      by (Some row) found is =
          (λ i. above (nat_lt RESERVED_LAST number) refl i && (own i == 1)) ∙ last_goes row found
        where
          own : holders ≡ row.holders
          own = cc

  -- a number with a row has holders
  pub none_last : has_row number rows ≡ true → None ≡ option_map (λ (row : IdentityRow). row.holders) (row_of number rows) → ⊥
  none_last there is =
      let found = found-some (λ (row : IdentityRow). row.number == number) rows there in
      let told : None ≡ Some found.0.holders = is ∙ ap (option_map (λ (row : IdentityRow). row.holders)) found.1 in
      cc

  -- what a plan asks where some of the held numbers go
  pub numbers_may_go : (revision : ℕ) (cache : Cache) (last : Bool) → has_row number rows ≡ true → newest cache.log < revision → AreExact rows cache.live
      → MayPlan revision [] (if last then number ∷ [] else []) rows cache
  numbers_may_go revision cache last there newer exact = by last
    where
      by : (b : Bool) → MayPlan revision [] (if b then number ∷ [] else []) rows cache
      by true = record { newer = newer; come_held = tt; gone_held = (there, tt); apart = tt; exact = subst (λ r. AreExact r cache.live) (sym (rows_without_none rows)) exact }
      by false = record { newer = newer; come_held = tt; gone_held = tt; apart = tt; exact = subst (λ r. AreExact r cache.live) (sym (rows_without_none rows)) exact }

  -- the numbers that go are those without a row afterwards
  going : (last : Bool) → last ≡ not (has_row number (released number rows)) → (n : ℕ) → has_row n rows ≡ true
      → has n (if last then number ∷ [] else []) ≡ not (has_row n (released number rows))
  going last is n there = by last is (n == number) refl
    where
      by : (b : Bool) → b ≡ not (has_row number (released number rows)) → (same : Bool) → (n == number) ≡ same
          → has n (if b then number ∷ [] else []) ≡ not (has_row n (released number rows))
      by true is true same =
          let its = eqb-true n number same in
          ap (λ b. b || false) (eq-eqb number n (sym its)) ∙ is ∙ ap (λ m. not (has_row m (released number rows))) (sym its)
      by false is true same =
          let its = eqb-true n number same in
          is ∙ ap (λ m. not (has_row m (released number rows))) (sym its)
      by b is false same = rest b ∙ sym (ap not (stays (has_row n (released number rows)) refl))
        where
          rest : (b : Bool) → has n (if b then number ∷ [] else []) ≡ false
          rest true = ap (λ b. b || false) (ne_eqb number n (λ e. both_ways (n == number) same (eq-eqb n number (sym e))))
          rest false = refl

          stays : (b : Bool) → has_row n (released number rows) ≡ b → has_row n (released number rows) ≡ true
          stays true is = is
          stays false is = absurd (both_ways (n == number) same (eq-eqb n number (alone-released number n rows (holders-some rows keeps) there is)))

  pub exact_as_released : (last : Bool) → last ≡ not (has_row number (released number rows)) → (live : List Live)
      → AreExact (rows_without (if last then number ∷ [] else []) rows) live → AreExact (released number rows) live
  exact_as_released last is live =
      exact_as_gone rows (released number rows) (if last then number ∷ [] else []) live keeps.numbers (part-released number rows keeps.numbers) (going last is)
