-- Elements by their places.
use Rattle.std.proofs.Common.{◌≡◌, ◌≢◌, ℕ, zero, suc, ◌+◌, ◌<◌, List, [], ◌∷◌, ◌++◌, length, sym, ◌∙◌, ap, subst, inl, inr, arith, append-nil}
use Rattle.std.specs.List.{AllByRecursion, AllPairs, Contains, slice_index_or}
use Rattle.std.specs.List.Sorted.{IsStrictlySortedBy}
use Rattle.std.specs.Ordering.{nat_cmp}
use Rattle.std.specs.declared.cmp.Ordering.TheVariants.{Less}
use Rattle.std.proofs.lemmas.Bool.{cases_lt, cond-true, lt-ltb}
use Rattle.std.proofs.lemmas.Grind.{length_at_push}
use Rattle.std.proofs.lemmas.List.{get_or_append_left, get_or_default, get_or_push}
use Rattle.pol_filters.specs.declared.filter.Filter.{Filter}
use Rattle.pol_filters.specs.declared.filter.Filters.{Filters}
use Rattle.pol_kept_map.specs.Applies.{NamesFilters, PlacesDiffer, all_filters}
use Rattle.engine_bench.specs.Turns.{AllAt, AreNumbered, Extends, FilterAt, eleven, ten}

pub no_elements : {X : Type 0} (P : ℕ → X → Type 0) → AllAt P []
no_elements P i d within = absurd (omega (arith, within))

pub pushed_at : {X : Type 0} (P : ℕ → X → Type 0) (xs : List X) (x : X) → AllAt P xs → P (length xs) x → AllAt P (xs ++ x ∷ [])
pushed_at P xs x all last i d within =
    elim (cases_lt i (length xs)) [
      | inl before ↦ subst (P i) (sym (get_or_append_left xs (x ∷ []) d i before)) (all i d before)
      | inr past ↦ (let same : length xs ≡ i = omega (arith, within, past, (length_at_push xs x).1) in
          subst (P i) (sym (get_or_push xs x d i same)) (subst (λ n. P n x) same last))
    ]

module _ (filters : Filters) (numbered : AreNumbered filters) where
  all_of : all_filters filters ≡ filters.ingress
  all_of = ap (λ fs. filters.ingress ++ fs) numbered.egress ∙ append-nil filters.ingress

  pub places : PlacesDiffer filters
  places = subst (AllPairs (λ (a b : Filter). a.place ≢ b.place)) (sym all_of) (λ i j d less within same.
      let one : (slice_index_or filters.ingress i d).place.entry ≡ i = numbered.ingress i d (omega (arith, less, within)) in
      let other : (slice_index_or filters.ingress j d).place.entry ≡ j = numbered.ingress j d within in
      let equal : i ≡ j = sym one ∙ ap (λ p. p.entry) same ∙ other in
      absurd (omega (arith, equal, less)))

  numbered_one : (one other : Filter) → Contains filters.ingress one → Contains filters.ingress other → one.place ≡ other.place → one ≡ other
  numbered_one one other there here place =
      let first : one.place.entry ≡ there.0 = sym (ap (λ (f : Filter). f.place.entry) there.2) ∙ numbered.ingress there.0 one there.1 in
      let second : other.place.entry ≡ here.0 = sym (ap (λ (f : Filter). f.place.entry) here.2) ∙ numbered.ingress here.0 other here.1 in
      let equal : there.0 ≡ here.0 = sym first ∙ ap (λ p. p.entry) place ∙ second in
      sym there.2 ∙ ap (λ i. slice_index_or filters.ingress i one) equal ∙ get_or_default filters.ingress here.0 one other here.1 ∙ here.2

  pub names : NamesFilters filters filters
  names one other there here place stamp = numbered_one one other (subst (λ fs. Contains fs one) all_of there) (subst (λ fs. Contains fs other) all_of here) place

-- filters, and the same with more behind them
module _ (few many : Filters) (own : AreNumbered few) (others : AreNumbered many) (extends : Extends few many) where
  same_one : (one other : Filter) → Contains few.ingress one → Contains many.ingress other → one.place ≡ other.place → one ≡ other
  same_one one other there here place =
      let first : one.place.entry ≡ there.0 = sym (ap (λ (f : Filter). f.place.entry) there.2) ∙ own.ingress there.0 one there.1 in
      let second : other.place.entry ≡ here.0 = sym (ap (λ (f : Filter). f.place.entry) here.2) ∙ others.ingress here.0 other here.1 in
      let equal : there.0 ≡ here.0 = sym first ∙ ap (λ p. p.entry) place ∙ second in
      sym there.2 ∙ sym (get_or_append_left few.ingress extends.0 one there.0 there.1) ∙ ap (λ (fs : List Filter). slice_index_or fs there.0 one) (sym extends.1)
      ∙ ap (λ i. slice_index_or many.ingress i one) equal ∙ get_or_default many.ingress here.0 one other here.1 ∙ here.2

  pub names_more : NamesFilters few many
  names_more one other there here place stamp =
      same_one one other (subst (λ fs. Contains fs one) (all_of few own) there) (subst (λ fs. Contains fs other) (all_of many others) here) place

  pub names_fewer : NamesFilters many few
  names_fewer one other there here place stamp =
      sym (same_one other one (subst (λ fs. Contains fs other) (all_of few own) here) (subst (λ fs. Contains fs one) (all_of many others) there) (sym place))

-- one more filter, whose number is how many there were
module _ (few : Filters) (count : ℕ) (one : Filter) (many : Filters) (pushed : many.ingress ≡ few.ingress ++ one ∷ []) where
  pub more_numbered : AreNumbered few → length few.ingress ≡ count → FilterAt count one → many.egress ≡ [] → AreNumbered many
  more_numbered own len last none = record {
    ingress = subst (AllAt FilterAt) (sym pushed) (pushed_at FilterAt few.ingress one own.ingress (subst (λ n. FilterAt n one) (sym len) last));
    egress = none;
  }

  pub more_extends : Extends few many
  more_extends = (one ∷ [], pushed)

-- ---- numbers that count up
abbrev count_up : ℕ → ℕ → List ℕ
count_up start zero = []
count_up start (suc n) = start ∷ count_up (start + 1) n

nat_cmp-less : (x y : ℕ) → x < y → nat_cmp x y ≡ Less
nat_cmp-less x y below = cond-true _ Less _ (lt-ltb x y below)

above : (low start n : ℕ) → low < start → AllByRecursion (λ other. nat_cmp low other ≡ Less) (count_up start n)
above low start zero below = tt
above low start (suc n) below = (nat_cmp-less low start below, above low (start + 1) n (omega (arith, below)))

up : (start n : ℕ) → IsStrictlySortedBy nat_cmp (count_up start n)
unfolding IsStrictlySortedBy
up start zero = tt
up start (suc n) = (above start (start + 1) n (omega arith), up (start + 1) n)

pub ten_ascend : IsStrictlySortedBy nat_cmp ten
ten_ascend = up 256 10

pub eleven_ascend : IsStrictlySortedBy nat_cmp eleven
eleven_ascend = up 256 11
