-- Prefixes are held and released: what a plan asks then.
use Rattle.std.proofs.Common.{◌≡◌, ℕ, ◌+◌, ◌<◌, ◌≤◌, ◌==◌, ◌&&◌, ◌||◌, Bool, true, false, not, List, [], ◌∷◌, nat_lt, refl, sym, ap, subst, ◌∙◌, inl, inr}
use Rattle.std.proofs.lemmas.Bool.{and_parts, both_ways, eq-eqb, ltb-false, ltb-true, not-true}
use Rattle.std.specs.List.{AllByRecursion}
use Rattle.pol_addr.specs.Cidr.{IsPrefix}
use Rattle.pol_addr.specs.declared.network.Prefix.{Prefix}
use Rattle.pol_data.proofs.Every.{every-weaker}
use Rattle.pol_model.specs.declared.row.IdentityRow.{IdentityRow}
use Rattle.pol_model.specs.declared.limits.TheConstants.{LOCAL_IDENTITIES}
use Rattle.pol_model.specs.Fault.{locals_held, locals_wanted}
use Rattle.pol_model.specs.Prefixes.{prefixes_held, prefixes_released}
use Rattle.pol_model.proofs.AscendingStates.{RowsAscend, prefixes_held_ascend}
use Rattle.pol_model_laws.specs.Holding.{has_row}
use Rattle.pol_model_laws.specs.Keeps.{KeepsRows}
use Rattle.pol_model_laws.proofs.RowLaws.{prefixes_undone}
use Rattle.pol_model_laws.proofs.Parts.{part-prefixes_held, part-prefixes_released}
use Rattle.pol_set_changes.specs.Ids.{has}
use Rattle.pol_set_changes.specs.Log.{newest}
use Rattle.pol_selcache.specs.Cache.{Cache, MayPlan}
use Rattle.pol_selcache.specs.Live.{Live, AreExact, rows_without}
use Rattle.pol_selcache.proofs.Staying.{exact_as_come, exact_as_gone}
use Rattle.pol_prefixes.specs.Beyond.{AreBeyond}
use Rattle.pol_allocator.specs.Held.{AreApart, Held, IsSettled}

-- what holds of each number that a list has
all_has : (P : ℕ → Type 0) (ns : List ℕ) → ((n : ℕ) → has n ns ≡ true → P n) → AllByRecursion P ns
all_has P [] each = tt
all_has P (n ∷ ns) each =
    (each n (ap (λ b. b || has n ns) (eq-eqb n n refl)), all_has P ns (λ m there. each m (ap (λ b. (n == m) || b) there ∙ or_true (n == m))))
  where
    or_true : (b : Bool) → (b || true) ≡ true
    or_true true = refl
    or_true false = refl

module _ (given_up : List Prefix) (rows : List IdentityRow) (gone : List ℕ) (beyond : AreBeyond (prefixes_released given_up rows) rows gone) where
  abbrev left : List IdentityRow
  left = prefixes_released given_up rows

  gone_held : AllByRecursion (λ n. has_row n rows ≡ true) gone
  gone_held = all_has (λ n. has_row n rows ≡ true) gone (λ n there. (and_parts (has_row n rows) (not (has_row n left)) (sym (beyond n) ∙ there)).0)

  stays_here : (n : ℕ) → has_row n left ≡ true → has n gone ≡ false
  stays_here n there = beyond n ∙ ap (λ b. has_row n rows && not b) there ∙ and_false (has_row n rows)
    where
      and_false : (b : Bool) → (b && false) ≡ false
      and_false true = refl
      and_false false = refl

  -- what a plan asks
  pub moves_may : (revision : ℕ) (come : List ℕ) (cache : Cache) → newest cache.log < revision → AllByRecursion (λ n. has_row n rows ≡ true) come
      → AllByRecursion (λ n. has_row n left ≡ true) come → AreExact (rows_without come rows) cache.live → MayPlan revision come gone rows cache
  moves_may revision come cache newer held stay exact = record {
    newer = newer;
    come_held = held;
    gone_held = gone_held;
    apart = every-weaker (λ n. has_row n left ≡ true) (λ n. has n gone ≡ false) stays_here come stay;
    exact = exact;
  }

  -- and what it makes exact
  pub moves_exact : RowsAscend rows → (live : List Live) → AreExact (rows_without gone rows) live → AreExact left live
  moves_exact ascend live =
      exact_as_gone rows left gone live ascend (part-prefixes_released given_up rows ascend) (λ n there. beyond n ∙ ap (λ b. b && not (has_row n left)) there)

-- the numbers that came with prefixes
module _ (taken : List Prefix) (rows : List IdentityRow) (come : List ℕ) (beyond : AreBeyond rows (prefixes_held taken rows) come) where
  abbrev more : List IdentityRow
  more = prefixes_held taken rows

  came : (n : ℕ) → has n come ≡ true → (has_row n more ≡ true) × (has_row n rows ≡ false)
  came n there =
      let parts = and_parts (has_row n more) (not (has_row n rows)) (sym (beyond n) ∙ there) in
      (parts.0, not-true (has_row n rows) parts.1)

  pub came_held : AllByRecursion (λ n. has_row n more ≡ true) come
  came_held = all_has (λ n. has_row n more ≡ true) come (λ n there. (came n there).0)

  pub came_stay : (given_up : List Prefix) → AreApart taken given_up rows → AllByRecursion (λ n. has_row n (prefixes_released given_up more) ≡ true) come
  came_stay given_up apart = all_has (λ n. has_row n (prefixes_released given_up more) ≡ true) come (λ n there.
      elim (apart n (came n there).0) [
        | inl before ↦ absurd (both_ways (has_row n rows) (came n there).1 before)
        | inr after ↦ after
      ])

  pub came_exact : RowsAscend rows → (live : List Live) → AreExact rows live → AreExact (rows_without come more) live
  came_exact ascend live =
      exact_as_come rows more come live (prefixes_held_ascend taken rows ascend) (part-prefixes_held taken rows ascend)
      (λ n there. beyond n ∙ ap (λ b. b && not (has_row n rows)) there)

-- What was asked of numbers that came with prefixes, where others are released then.
pub record MayMove (revision : ℕ) (come : List ℕ) (given_up : List Prefix) (numbers : Held) : Type 0 where
  pub newer : newest numbers.cache.log < revision
  pub held : AllByRecursion (λ n. has_row n numbers.rows ≡ true) come
  pub stay : AllByRecursion (λ n. has_row n (prefixes_released given_up numbers.rows) ≡ true) come
  pub exact : AreExact (rows_without come numbers.rows) numbers.cache.live

pub taken_may : (taken given_up : List Prefix) (come : List ℕ) (revision : ℕ) (old new : Held) → KeepsRows old.rows → new ≡ record old { rows = prefixes_held taken old.rows }
    → AreBeyond old.rows new.rows come → AreApart taken given_up old.rows → IsSettled revision old → MayMove revision come given_up new
taken_may taken given_up come revision old new keeps is beyond apart settled =
    let ours : AreBeyond old.rows (prefixes_held taken old.rows) come = subst (λ (h : Held). AreBeyond old.rows h.rows come) is beyond in
    let moves : MayMove revision come given_up (record old { rows = prefixes_held taken old.rows }) = record {
      newer = settled.newer;
      held = came_held taken old.rows come ours;
      stay = came_stay taken old.rows come ours given_up apart;
      exact = came_exact taken old.rows come ours keeps.numbers old.cache.live settled.exact;
    } in
    subst (MayMove revision come given_up) (sym is) moves

-- what was taken and is given up leaves all as it was
pub taken_undone : (taken : List Prefix) (old new : Held) → KeepsRows old.rows → AllByRecursion IsPrefix taken → locals_held old.rows + locals_wanted old.rows taken ≤ LOCAL_IDENTITIES
    → new ≡ record old { rows = prefixes_held taken old.rows } → record new { rows = prefixes_released taken new.rows } ≡ old
taken_undone taken old new keeps within room is =
    let give : List IdentityRow → Held = λ rows. record old { rows = rows } in
    ap (λ (h : Held). gives h (prefixes_released taken h.rows)) is ∙ ap give (prefixes_undone taken old.rows keeps within room)
  where
    gives : Held → List IdentityRow → Held
    gives h rows = record h { rows = rows }

-- what isn't more is as much at most
pub not_more : (most n : ℕ) → (most < n → ⊥) → n ≤ most
not_more most n never = by (nat_lt most n) refl
  where
    by : (b : Bool) → nat_lt most n ≡ b → n ≤ most
    by true more = absurd (never (ltb-true most n more))
    by false within = ltb-false most n within
