-- Filters of different stamps, and of one.
use Rattle.std.proofs.Common.{◌≡◌, ◌≢◌, ℕ, zero, suc, ◌<◌, [], ◌∷◌, ◌++◌, sym, ◌∙◌, ap, subst, arith}
use Rattle.std.specs.List.{AllByRecursion, AllPairs}
use Rattle.pol_data.proofs.Every.{every-contained}
use Rattle.pol_filters.specs.declared.filter.Filter.{Filter}
use Rattle.pol_filters.specs.declared.filter.Filters.{Filters}
use Rattle.pol_kept_map.specs.Applies.{NamesFilters, all_filters}
use Rattle.engine_tests.specs.Works.{AreStamped, StandsThere}

-- filters of different stamps have no stamp in common
pub apart : (was is : ℕ) (before after : Filters) → was < is → AreStamped was before → AreStamped is after → NamesFilters before after
apart was is before after less old new one other there here place stamp =
    let first : one.stamp ≡ was = every-contained (λ (f : Filter). f.stamp ≡ was) (all_filters before) one old.stamped there in
    let second : other.stamp ≡ is = every-contained (λ (f : Filter). f.stamp ≡ is) (all_filters after) other new.stamped here in
    absurd (omega (arith, less, first, second, stamp))

-- one filter
alone : (one : Filter) → AllPairs (λ (a b : Filter). a.place ≢ b.place) (one ∷ [])
alone one i j d less within = absurd (omega (arith, less, within))

-- two
pair_differs : (one other : Filter) → one.place.entry ≡ 0 → other.place.entry ≡ 1 → AllPairs (λ (a b : Filter). a.place ≢ b.place) (one ∷ other ∷ [])
pair_differs one other first second zero zero d less within = absurd (omega (arith, less))
pair_differs one other first second zero (suc zero) d less within = λ same. (let wrong : 0 ≡ 1 = sym first ∙ ap (λ p. p.entry) same ∙ second in absurd (omega (arith, wrong)))
pair_differs one other first second zero (suc (suc j)) d less within = absurd (omega (arith, within))
pair_differs one other first second (suc i) j d less within = absurd (omega (arith, less, within))

module _ (stamp : ℕ) (filters : Filters) (none : filters.egress ≡ []) where
  pub one_stamped : (one : Filter) → filters.ingress ≡ one ∷ [] → StandsThere stamp 0 one → AreStamped stamp filters
  one_stamped one ingress stands =
      let all : all_filters filters ≡ one ∷ [] = λ i. ingress i ++ none i in
      record {
        stamped = subst (AllByRecursion (λ (f : Filter). f.stamp ≡ stamp)) (sym all) (stands.own_stamp, tt);
        places = subst (AllPairs (λ (a b : Filter). a.place ≢ b.place)) (sym all) (alone one);
      }

  pub two_stamped : (one other : Filter) → filters.ingress ≡ one ∷ other ∷ [] → StandsThere stamp 0 one → StandsThere stamp 1 other → AreStamped stamp filters
  two_stamped one other ingress stands beside =
      let all : all_filters filters ≡ one ∷ other ∷ [] = λ i. ingress i ++ none i in
      record {
        stamped = subst (AllByRecursion (λ (f : Filter). f.stamp ≡ stamp)) (sym all) (stands.own_stamp, (beside.own_stamp, tt));
        places = subst (AllPairs (λ (a b : Filter). a.place ≢ b.place)) (sym all) (pair_differs one other stands.own_entry beside.own_entry);
      }
