-- What a set gains and loses as numbers come and go.
use Rattle.std.proofs.Common.{◌≡◌, ℕ, ◌&&◌, ◌||◌, Bool, true, false, not, List, filter, refl, sym, ap, ◌∙◌, subst}
use Rattle.std.specs.List.Sorted.{IsStrictlySortedBy}
use Rattle.std.specs.Ordering.{nat_cmp}
use Rattle.std.proofs.lemmas.List.Kept.{IsStrictlySortedBy-filter}
use Rattle.pol_model.specs.declared.row.IdentityRow.{IdentityRow}
use Rattle.pol_model.specs.Selects.{set_at}
use Rattle.pol_rule.specs.declared.policy.Peer.{Peer}
use Rattle.pol_ident.specs.Look.{selects_held}
use Rattle.pol_set_changes.specs.Ids.{has, without}
use Rattle.pol_selcache.specs.Live.{rows_without}
use Rattle.pol_selcache.specs.Moving.{Moving}
use Rattle.pol_selcache.proofs.Numbers.{has-filter, has-without, same_numbers}
use Rattle.pol_selcache.proofs.RowSets.{has-held, has-set_without, rows_without_ascend, set_sorted}

-- what is true of a number: whether it comes, whether it goes, and whether the peer selects its row
gains : (comes goes selected : Bool) → (comes ≡ true → goes ≡ false) → (selected && comes) ≡ (not (not comes && selected) && (not goes && selected))
gains true true selected apart = absurd (let wrong : ⊥ = let h : true ≡ false = apart refl in cc in wrong)
gains true false true apart = refl
gains true false false apart = refl
gains false true true apart = refl
gains false true false apart = refl
gains false false true apart = refl
gains false false false apart = refl

loses : (comes goes selected : Bool) → (comes ≡ true → goes ≡ false) → ((not comes && selected) && goes) ≡ (not (not goes && selected) && (not comes && selected))
loses true true selected apart = absurd (let wrong : ⊥ = let h : true ≡ false = apart refl in cc in wrong)
loses true false true apart = refl
loses true false false apart = refl
loses false true true apart = refl
loses false true false apart = refl
loses false false true apart = refl
loses false false false apart = refl

ends : (comes goes selected : Bool) → (comes ≡ true → goes ≡ false) → (((not comes && selected) && not ((not comes && selected) && goes)) || (selected && comes)) ≡ (not goes && selected)
ends true true selected apart = absurd (let wrong : ⊥ = let h : true ≡ false = apart refl in cc in wrong)
ends true false true apart = refl
ends true false false apart = refl
ends false true true apart = refl
ends false true false apart = refl
ends false false true apart = refl
ends false false false apart = refl

module _ (rows : List IdentityRow) (p : Peer) (come gone set : List ℕ) (moving : Moving rows come gone p set) where
  has-set : (n : ℕ) → has n set ≡ (not (has n come) && has n (set_at rows p))
  has-set n = ap (has n) moving.exact ∙ has-set_without p n come rows

  has-after : (n : ℕ) → has n (set_at (rows_without gone rows) p) ≡ (not (has n gone) && has n (set_at rows p))
  has-after n = has-set_without p n gone rows

  set_sorted_now : IsStrictlySortedBy nat_cmp set
  set_sorted_now = subst (IsStrictlySortedBy nat_cmp) (sym moving.exact) (set_sorted p (rows_without come rows) (rows_without_ascend come rows moving.rows_ascend))

  after_sorted : IsStrictlySortedBy nat_cmp (set_at (rows_without gone rows) p)
  after_sorted = set_sorted p (rows_without gone rows) (rows_without_ascend gone rows moving.rows_ascend)

  has-gained : (n : ℕ) → has n (filter (selects_held rows p) come) ≡ (has n (set_at rows p) && has n come)
  has-gained n =
      has-filter (selects_held rows p) n come
      ∙ ap (λ b. b && has n come) (has-held p n rows moving.rows_ascend)

  has-lost : (n : ℕ) → has n (filter (λ m. has m set) gone) ≡ ((not (has n come) && has n (set_at rows p)) && has n gone)
  has-lost n =
      has-filter (λ m. has m set) n gone
      ∙ ap (λ b. b && has n gone) (has-set n)

  pub gained_is : filter (selects_held rows p) come ≡ without (set_at (rows_without gone rows) p) set
  gained_is =
      same_numbers _ _
      (IsStrictlySortedBy-filter nat_cmp (selects_held rows p) come moving.come_ascend)
      (IsStrictlySortedBy-filter nat_cmp (λ m. not (has m set)) _ after_sorted)
      (λ n. has-gained n ∙ gains (has n come) (has n gone) (has n (set_at rows p)) (moving.apart n)
      ∙ sym (has-without n (set_at (rows_without gone rows) p) set ∙ ap (λ b. not b && has n (set_at (rows_without gone rows) p)) (has-set n) ∙ ap (λ b. not (not (has n come) && has n (set_at rows p)) && b) (has-after n)))

  pub lost_is : filter (λ m. has m set) gone ≡ without set (set_at (rows_without gone rows) p)
  lost_is =
      same_numbers _ _
      (IsStrictlySortedBy-filter nat_cmp (λ m. has m set) gone moving.gone_ascend)
      (IsStrictlySortedBy-filter nat_cmp (λ m. not (has m (set_at (rows_without gone rows) p))) set set_sorted_now)
      (λ n. has-lost n ∙ loses (has n come) (has n gone) (has n (set_at rows p)) (moving.apart n)
      ∙ sym (has-without n set (set_at (rows_without gone rows) p) ∙ ap (λ b. not b && has n set) (has-after n) ∙ ap (λ b. not (not (has n gone) && has n (set_at rows p)) && b) (has-set n)))

  -- what has the numbers of the set but those that go, and those that come, is the set afterwards
  pub moved_is : (next : List ℕ) → IsStrictlySortedBy nat_cmp next
      → ((n : ℕ) → has n next ≡ ((has n set && not (has n (filter (λ m. has m set) gone))) || has n (filter (selects_held rows p) come)))
      → next ≡ set_at (rows_without gone rows) p
  moved_is next sorted members =
      same_numbers next _ sorted after_sorted
      (λ n. members n
      ∙ (λ i. (has-set n i && not (has-lost n i)) || has-gained n i)
      ∙ ends (has n come) (has n gone) (has n (set_at rows p)) (moving.apart n)
      ∙ sym (has-after n))
