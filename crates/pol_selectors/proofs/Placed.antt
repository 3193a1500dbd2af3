-- Spots that ascend by number: what their selectors are, where one is found, and what a change of one makes of them.
use Rattle.std.proofs.Common.{zero, suc, ◌≡◌, ℕ, ◌==◌, ◌<◌, ◌≤◌, ◌||◌, true, false, cond, nat_lt, ◌-◌, List, [], ◌∷◌, ◌++◌, map, filter, length, take, drop, set, slice_get, get_or, Option, Some, None, option_map, is_some, refl, sym, ap, ◌∙◌, subst, inl, inr, arith}
use Rattle.std.specs.List.{AllByRecursion, AllWithin, cons_option}
use Rattle.std.specs.List.Sorted.{IsNonDecreasingBy}
use Rattle.std.proofs.lemmas.Bool.{cond-true, cond-false, eq-eqb, ne_eqb, ltb-true, ltb-false, cases_lt}
use Rattle.std.proofs.lemmas.Option.{same_Some}
use Rattle.pol_data.proofs.Every.{every-weaker}
use Rattle.pol_model_laws.proofs.Membership.{found-some}
use Rattle.pol_model.specs.Ascending.{Ascends}
use Rattle.pol_selectors.specs.declared.spots.Row.{Row}
use Rattle.pol_selectors.specs.declared.spots.Spot.{Spot}
use Rattle.pol_selectors.specs.Inside.{IsFrom, IsLiveAt, IsPutAt, IsSpotOf, live_at, live_in, live_of, spot_numbers}
use Rattle.pol_selectors.specs.Live.{Live, is_live, selector_of, one_less, where_number, without_reference}
use Rattle.pol_selectors.proofs.LiveLists.{AllAbove, AllReferenced, all_stay, numbers}
use Rattle.pol_selectors.proofs.Middle.{all_but, changed_there, gone_there, mid_all}

-- ---- the selector of a spot
pub its_number : (spot : Spot) (l : Live) → live_at spot ≡ Some l → l.number ≡ spot.number
its_number spot l at = by spot.row at
  where
    by : (row : Option Row) → option_map (live_of spot.number) row ≡ Some l → l.number ≡ spot.number
    by None is = absurd (let wrong : ⊥ = cc in wrong)
    by (Some row) is = ap (λ (s : Live). s.number) (sym (same_Some (live_of spot.number row) l is))

some_row : (spot : Spot) (l : Live) → live_at spot ≡ Some l → (row : Row) × (spot.row ≡ Some row)
some_row spot l at = by spot.row at
  where
    by : (o : Option Row) → option_map (live_of spot.number) o ≡ Some l → (row : Row) × (o ≡ Some row)
    by None is = absurd (let wrong : ⊥ = cc in wrong)
    by (Some row) is = (row, refl)

-- what all spots' numbers have, their selectors' have
pub live_all : (P : ℕ → Type 0) (spots : List Spot) → AllByRecursion P (spot_numbers spots) → AllByRecursion P (numbers (live_in spots))
live_all P [] all = tt
live_all P (spot ∷ spots) all = by (live_at spot) (its_number spot) (live_all P spots all.1)
  where
    by : (o : Option Live) → ((l : Live) → o ≡ Some l → l.number ≡ spot.number) → AllByRecursion P (numbers (live_in spots)) → AllByRecursion P (numbers (cons_option o (live_in spots)))
    by None its rest = rest
    by (Some l) its rest = (subst P (sym (its l refl)) all.0, rest)

pub live_ascend : (spots : List Spot) → Ascends (spot_numbers spots) → Ascends (numbers (live_in spots))
live_ascend [] ascend = tt
live_ascend (spot ∷ spots) ascend = by (live_at spot) (its_number spot) (live_ascend spots ascend.1)
  where
    by : (o : Option Live) → ((l : Live) → o ≡ Some l → l.number ≡ spot.number) → Ascends (numbers (live_in spots)) → Ascends (numbers (cons_option o (live_in spots)))
    by None its rest = rest
    by (Some l) its rest = (subst (λ n. AllAbove n (live_in spots)) (sym (its l refl)) (live_all (λ m. spot.number < m) spots ascend.0), rest)

-- ---- by a number
none_selected : (n : ℕ) (live : List Live) → AllAbove n live → selector_of n live ≡ None
none_selected n [] above = refl
none_selected n (s ∷ live) above =
    cond-false (s.number == n) (Some s) (selector_of n live) (ne_eqb s.number n (λ same. let more = above.0 in omega arith)) ∙ none_selected n live above.1

none_lives : (n : ℕ) (live : List Live) → AllAbove n live → is_live n live ≡ false
none_lives n [] above = refl
none_lives n (s ∷ live) above =
    ap (λ b. b || is_live n live) (ne_eqb s.number n (λ same. let more = above.0 in omega arith)) ∙ none_lives n live above.1

all_at : (P : ℕ → Type 0) (spots : List Spot) (i : ℕ) (spot : Spot) → AllByRecursion P (spot_numbers spots) → slice_get spots i ≡ Some spot → P spot.number
all_at P [] i spot all at = absurd (let wrong : ⊥ = cc in wrong)
all_at P (f ∷ spots) zero spot all at = subst (λ (g : Spot). P g.number) (let same : f ≡ spot = cc in same) all.0
all_at P (f ∷ spots) (suc i) spot all at = all_at P spots i spot all.1 at

pub found : (spots : List Spot) (i : ℕ) (spot : Spot) → Ascends (spot_numbers spots) → slice_get spots i ≡ Some spot → selector_of spot.number (live_in spots) ≡ live_at spot
found [] i spot ascend at = absurd (let wrong : ⊥ = cc in wrong)
found (f ∷ spots) zero spot ascend at =
    subst (λ (g : Spot). selector_of g.number (live_in (f ∷ spots)) ≡ live_at g) (let same : f ≡ spot = cc in same) (by (live_at f) (its_number f))
  where
    by : (o : Option Live) → ((l : Live) → o ≡ Some l → l.number ≡ f.number) → selector_of f.number (cons_option o (live_in spots)) ≡ o
    by None its = none_selected f.number (live_in spots) (live_all (λ m. f.number < m) spots ascend.0)
    by (Some l) its = cond-true (l.number == f.number) (Some l) (selector_of f.number (live_in spots)) (eq-eqb l.number f.number (its l refl))
found (f ∷ spots) (suc i) spot ascend at = by (live_at f) (its_number f) (found spots i spot ascend.1 at)
  where
    by : (o : Option Live) → ((l : Live) → o ≡ Some l → l.number ≡ f.number) → selector_of spot.number (live_in spots) ≡ live_at spot → selector_of spot.number (cons_option o (live_in spots)) ≡ live_at spot
    by None its rest = rest
    by (Some l) its rest =
        cond-false (l.number == spot.number) (Some l) (selector_of spot.number (live_in spots))
        (ne_eqb l.number spot.number (λ same. let own = its l refl in let less = all_at (λ m. f.number < m) spots i spot ascend.0 at in omega arith))
        ∙ rest

-- a live selector's spot has a row
pub live_there : (n : ℕ) (spots : List Spot) (i : ℕ) → Ascends (spot_numbers spots) → is_live n (live_in spots) ≡ true → IsSpotOf n spots i → IsLiveAt n spots i
live_there n spots i ascend live own =
    let one = found-some (λ (s : Live). s.number == n) (live_in spots) live in
    let is : live_at own.spot ≡ Some one.0 = sym (found spots i own.spot ascend own.at) ∙ ap (λ m. selector_of m (live_in spots)) own.its ∙ one.1 in
    let row = some_row own.spot one.0 is in
    record { spot = own.spot; row = row.0; at = own.at; its = own.its; live = row.1 }

-- and it is the first whose number isn't below
pub placed : (n : ℕ) (spots : List Spot) (i : ℕ) → Ascends (spot_numbers spots) → is_live n (live_in spots) ≡ true → IsFrom n spots i → IsSpotOf n spots i
placed n spots i ascend live from = by spots i ascend live from.below from.rest
  where
    by : (own : List Spot) (j : ℕ) → Ascends (spot_numbers own) → is_live n (live_in own) ≡ true → AllByRecursion (λ m. m < n) (spot_numbers (take j own)) → AllByRecursion (λ m. n ≤ m) (spot_numbers (drop j own)) → IsSpotOf n own j
    by [] j ascends lives below rest = absurd (let wrong : ⊥ = cc in wrong)
    by (f ∷ own) zero ascends lives below rest = record {
      spot = f;
      at = refl;
      its = elim (cases_lt n f.number) [
        | inl more ↦ absurd (let none = none_lives n (live_in (f ∷ own)) (live_all (λ m. n < m) (f ∷ own) (more, every-weaker (λ m. f.number < m) (λ m. n < m) (λ m less. omega (arith, less, more)) (spot_numbers own) ascends.0)) in let wrong : ⊥ = cc in wrong)
        | inr least ↦ (let more = rest.0 in omega (arith, least, more))
      ];
    }
    by (f ∷ own) (suc j) ascends lives below rest =
        let at = by own j ascends.1 (later (live_at f) (its_number f) below.0 lives) below.1 rest in
        record { spot = at.spot; at = at.at; its = at.its }
      where
        later : (o : Option Live) → ((l : Live) → o ≡ Some l → l.number ≡ f.number) → f.number < n → is_live n (cons_option o (live_in own)) ≡ true → is_live n (live_in own) ≡ true
        later None its less some = some
        later (Some l) its less some =
            sym (ap (λ b. b || is_live n (live_in own)) (ne_eqb l.number n (λ same. let own_is = its l refl in omega arith))) ∙ some

-- a spot of the number is the first whose number isn't below
pub first_there : (n : ℕ) (spots : List Spot) (i : ℕ) → Ascends (spot_numbers spots) → IsSpotOf n spots i → IsFrom n spots i
first_there n [] i ascend own = absurd (let at = own.at in let wrong : ⊥ = cc in wrong)
first_there n (f ∷ spots) zero ascend own =
    let at = own.at in
    let same : f ≡ own.spot = cc in
    let is : f.number ≡ n = ap (λ (g : Spot). g.number) same ∙ own.its in
    record { below = tt; rest = (omega (arith, is), every-weaker (λ m. f.number < m) (λ m. n ≤ m) (λ m less. omega (arith, less, is)) (spot_numbers spots) ascend.0) }
first_there n (f ∷ spots) (suc i) ascend own =
    let more = all_at (λ m. f.number < m) spots i own.spot ascend.0 own.at in
    let its = own.its in
    let rest = first_there n spots i ascend.1 (record { spot = own.spot; at = own.at; its = own.its }) in
    record { below = (omega (arith, more, its), rest.below); rest = rest.rest }

-- ---- a search by number
above_get : (n : ℕ) (spots : List Spot) (j : ℕ) (d : Spot) → AllByRecursion (λ m. n < m) (spot_numbers spots) → j < length spots → n < (get_or spots j d).number
above_get n [] j d above within = absurd (omega arith)
above_get n (f ∷ spots) zero d above within = above.0
above_get n (f ∷ spots) (suc j) d above within = above_get n spots j d above.1 (omega arith)

pub numbers_rise : (spots : List Spot) → Ascends (spot_numbers spots) → IsNonDecreasingBy (λ (s : Spot). s.number) spots
numbers_rise [] ascend i j d less within = absurd (omega arith)
numbers_rise (f ∷ spots) ascend zero zero d less within = omega arith
numbers_rise (f ∷ spots) ascend zero (suc j) d less within = let above = above_get f.number spots j d ascend.0 (omega arith) in omega arith
numbers_rise (f ∷ spots) ascend (suc i) zero d less within = absurd (omega arith)
numbers_rise (f ∷ spots) ascend (suc i) (suc j) d less within = numbers_rise spots ascend.1 i j d (omega arith) (omega arith)

below_within : (n : ℕ) (spots : List Spot) (i : ℕ) → AllWithin (λ s. nat_lt s.number n ≡ true) spots 0 i → i ≤ length spots → AllByRecursion (λ m. m < n) (spot_numbers (take i spots))
below_within n [] zero before within = tt
below_within n [] (suc i) before within = tt
below_within n (f ∷ spots) zero before within = tt
below_within n (f ∷ spots) (suc i) before within =
    (ltb-true f.number n (before 0 f (omega arith) (omega arith)), below_within n spots i (λ k d low high. before (suc k) d (omega arith) (omega arith)) (omega arith))

rest_within : (n : ℕ) (spots : List Spot) (i : ℕ) → AllWithin (λ s. nat_lt s.number n ≡ false) spots i (length spots) → AllByRecursion (λ m. n ≤ m) (spot_numbers (drop i spots))
rest_within n [] zero after = tt
rest_within n [] (suc i) after = tt
rest_within n (f ∷ spots) zero after =
    (ltb-false f.number n (after 0 f (omega arith) (omega arith)), rest_within n spots zero (λ k d low high. after (suc k) d (omega arith) (omega arith)))
rest_within n (f ∷ spots) (suc i) after = rest_within n spots i (λ k d low high. after (suc k) d (omega arith) (omega arith))

pub from_within : (n : ℕ) (spots : List Spot) (i : ℕ) → AllWithin (λ s. nat_lt s.number n ≡ true) spots 0 i → AllWithin (λ s. nat_lt s.number n ≡ false) spots i (length spots) → i ≤ length spots → IsFrom n spots i
from_within n spots i before after within = record { below = below_within n spots i before within; rest = rest_within n spots i after }

-- ---- spots that go
pub swept : (spots : List Spot) → live_in (filter (λ spot. is_some spot.row) spots) ≡ live_in spots
swept [] = refl
swept (f ∷ spots) = by f.row refl (swept spots)
  where
    by : (o : Option Row) → f.row ≡ o → live_in (filter (λ spot. is_some spot.row) spots) ≡ live_in spots
        → live_in (cond (is_some o) (f ∷ filter (λ spot. is_some spot.row) spots) (filter (λ spot. is_some spot.row) spots)) ≡ live_in (f ∷ spots)
    by None is rest = rest ∙ ap (λ r. cons_option (option_map (live_of f.number) r) (live_in spots)) (sym is)
    by (Some row) is rest = ap (cons_option (live_at f)) rest

none_left : (n : ℕ) (spots : List Spot) → AllByRecursion (λ s. s.number < n) (live_in spots) → AllByRecursion (λ m. n ≤ m) (spot_numbers spots) → live_in spots ≡ []
none_left n [] less rest = refl
none_left n (f ∷ spots) less rest = by (live_at f) (its_number f) less (λ all. none_left n spots all rest.1)
  where
    by : (o : Option Live) → ((l : Live) → o ≡ Some l → l.number ≡ f.number) → AllByRecursion (λ s. s.number < n) (cons_option o (live_in spots)) → (AllByRecursion (λ s. s.number < n) (live_in spots) → live_in spots ≡ []) → cons_option o (live_in spots) ≡ []
    by None its all others = others all
    by (Some l) its all others = absurd (let own = its l refl in let below = all.0 in let least = rest.0 in omega arith)

later : (P : Live → Type 0) (o : Option Live) (live : List Live) → AllByRecursion P (cons_option o live) → AllByRecursion P live
later P None live all = all
later P (Some l) live all = all.1

pub cut_live : (n : ℕ) (spots : List Spot) (i : ℕ) → AllByRecursion (λ s. s.number < n) (live_in spots) → AllByRecursion (λ m. n ≤ m) (spot_numbers (drop i spots)) → live_in (take i spots) ≡ live_in spots
cut_live n [] zero less rest = refl
cut_live n [] (suc i) less rest = refl
cut_live n (f ∷ spots) zero less rest = sym (none_left n (f ∷ spots) less rest)
cut_live n (f ∷ spots) (suc i) less rest = ap (cons_option (live_at f)) (cut_live n spots i (later (λ s. s.number < n) (live_at f) (live_in spots) less) rest)

all_take : (P : ℕ → Type 0) (spots : List Spot) (i : ℕ) → AllByRecursion P (spot_numbers spots) → AllByRecursion P (spot_numbers (take i spots))
all_take P [] zero all = tt
all_take P [] (suc i) all = tt
all_take P (f ∷ spots) zero all = tt
all_take P (f ∷ spots) (suc i) all = (all.0, all_take P spots i all.1)

pub cut_ascends : (spots : List Spot) (i : ℕ) → Ascends (spot_numbers spots) → Ascends (spot_numbers (take i spots))
cut_ascends [] zero ascend = tt
cut_ascends [] (suc i) ascend = tt
cut_ascends (f ∷ spots) zero ascend = tt
cut_ascends (f ∷ spots) (suc i) ascend = (all_take (λ m. f.number < m) spots i ascend.0, cut_ascends spots i ascend.1)

-- one spot more
pub behind_live : (spots : List Spot) (spot : Spot) (l : Live) → live_at spot ≡ Some l → live_in (spots ++ spot ∷ []) ≡ live_in spots ++ l ∷ []
behind_live [] spot l at = ap (λ o. cons_option o []) at
behind_live (f ∷ spots) spot l at = ap (cons_option (live_at f)) (behind_live spots spot l at) ∙ by (live_at f)
  where
    by : (o : Option Live) → cons_option o (live_in spots ++ l ∷ []) ≡ cons_option o (live_in spots) ++ l ∷ []
    by None = refl
    by (Some s) = refl

pub behind_ascends : (spots : List Spot) (spot : Spot) → Ascends (spot_numbers spots) → AllByRecursion (λ n. n < spot.number) (spot_numbers spots) → Ascends (spot_numbers (spots ++ spot ∷ []))
behind_ascends [] spot ascend below = (tt, tt)
behind_ascends (f ∷ spots) spot ascend below = (more spots ascend.0, behind_ascends spots spot ascend.1 below.1)
  where
    more : (others : List Spot) → AllByRecursion (λ m. f.number < m) (spot_numbers others) → AllByRecursion (λ m. f.number < m) (spot_numbers (others ++ spot ∷ []))
    more [] above = (below.0, tt)
    more (g ∷ others) above = (above.0, more others above.1)

-- ---- the selector of a spot among the others
pub live_row : (n : ℕ) (spots : List Spot) (i : ℕ) (at : IsLiveAt n spots i) → live_at at.spot ≡ Some (live_of n at.row)
live_row n spots i at = λ k. option_map (live_of (at.its k)) (at.live k)

pub record Parted (spots : List Spot) (i : ℕ) (l : Live) : Type 0 where
  pub front : List Live
  pub back : List Live
  pub is : live_in spots ≡ front ++ l ∷ back
  pub put : (w : Spot) → live_in (set spots i w) ≡ front ++ cons_option (live_at w) back

joined : (o : Option Live) (front xs : List Live) → cons_option o front ++ xs ≡ cons_option o (front ++ xs)
joined None front xs = refl
joined (Some l) front xs = refl

pub parted : (spots : List Spot) (i : ℕ) (spot : Spot) (l : Live) → slice_get spots i ≡ Some spot → live_at spot ≡ Some l → Parted spots i l
parted [] i spot l at here = absurd (let wrong : ⊥ = cc in wrong)
parted (f ∷ spots) zero spot l at here = record {
  front = [];
  back = live_in spots;
  is = ap (λ o. cons_option o (live_in spots)) (ap live_at (let same : f ≡ spot = cc in same) ∙ here);
  put = λ w. refl;
}
parted (f ∷ spots) (suc i) spot l at here =
    let rest = parted spots i spot l at here in
    record {
      front = cons_option (live_at f) rest.front;
      back = rest.back;
      is = ap (cons_option (live_at f)) rest.is ∙ sym (joined (live_at f) rest.front (l ∷ rest.back));
      put = λ w. ap (cons_option (live_at f)) (rest.put w) ∙ sym (joined (live_at f) rest.front (cons_option (live_at w) rest.back));
    }

set_numbers : (spots : List Spot) (i : ℕ) (spot w : Spot) → slice_get spots i ≡ Some spot → w.number ≡ spot.number → spot_numbers (set spots i w) ≡ spot_numbers spots
set_numbers [] i spot w at same = absurd (let wrong : ⊥ = cc in wrong)
set_numbers (f ∷ spots) zero spot w at same = ap (λ n. n ∷ spot_numbers spots) (same ∙ ap (λ (g : Spot). g.number) (let is : spot ≡ f = cc in is))
set_numbers (f ∷ spots) (suc i) spot w at same = ap (λ rest. f.number ∷ rest) (set_numbers spots i spot w at same)

pub put_numbers : (i : ℕ) (o : Option Live) (old new : List Spot) → IsPutAt i o old new → spot_numbers new ≡ spot_numbers old
put_numbers i o old new put = ap spot_numbers put.is ∙ set_numbers old i put.spot put.put put.at put.number

pub put_there : (i : ℕ) (o : Option Live) (l : Live) (old new : List Spot) (part : Parted old i l) → IsPutAt i o old new → live_in new ≡ part.front ++ cons_option o part.back
put_there i o l old new part put = ap live_in put.is ∙ part.put put.put ∙ ap (λ p. part.front ++ cons_option p part.back) put.live

-- another selector of the number, and none
pub put_live : (n i : ℕ) (old new : List Spot) (at : IsLiveAt n old i) (change : Live → Live) → Ascends (numbers (live_in old)) → IsPutAt i (Some (change (live_of n at.row))) old new → live_in new ≡ map (where_number n change) (live_in old)
put_live n i old new at change ascend put =
    let part = parted old i at.spot (live_of n at.row) at.at (live_row n old i at) in
    put_there i (Some (change (live_of n at.row))) (live_of n at.row) old new part put
    ∙ sym (changed_there part.front (live_of n at.row) part.back change (subst (λ (live : List Live). Ascends (numbers live)) part.is ascend))
    ∙ ap (map (where_number n change)) (sym part.is)

pub put_gone : (n i : ℕ) (old new : List Spot) (at : IsLiveAt n old i) → Ascends (numbers (live_in old)) → AllReferenced (live_in old) → at.row.references ≡ 1 → IsPutAt i None old new → live_in new ≡ without_reference n (live_in old)
put_gone n i old new at ascend referenced last put =
    let part = parted old i at.spot (live_of n at.row) at.at (live_row n old i at) in
    put_there i None (live_of n at.row) old new part put
    ∙ sym (gone_there part.front (live_of n at.row) part.back (subst (λ (live : List Live). Ascends (numbers live)) part.is ascend) (subst AllReferenced part.is referenced) last)
    ∙ ap (without_reference n) (sym part.is)

-- one reference less, where that isn't the last
pub put_lower : (n i : ℕ) (old new : List Spot) (at : IsLiveAt n old i) → Ascends (numbers (live_in old)) → AllReferenced (live_in old) → 0 < at.row.references - 1 → IsPutAt i (Some (one_less (live_of n at.row))) old new → live_in new ≡ without_reference n (live_in old)
put_lower n i old new at ascend referenced some put =
    let l = live_of n at.row in
    let part = parted old i at.spot l at.at (live_row n old i at) in
    let still : AllReferenced (live_in new) =
    subst AllReferenced (sym (put_there i (Some (one_less l)) l old new part put)) (all_but (λ s. 0 < s.references) part.front l (one_less l) part.back (subst AllReferenced part.is referenced) some) in
    sym (ap (filter (λ s. nat_lt 0 s.references)) (sym (put_live n i old new at one_less ascend put)) ∙ all_stay (live_in new) still)

pub referenced_at : (n i : ℕ) (spots : List Spot) (at : IsLiveAt n spots i) → AllReferenced (live_in spots) → 0 < at.row.references
referenced_at n i spots at referenced =
    let part = parted spots i at.spot (live_of n at.row) at.at (live_row n spots i at) in
    mid_all (λ s. 0 < s.references) part.front (live_of n at.row) part.back (subst AllReferenced part.is referenced)

-- a change of the selector that is there
pub put_own : (n i : ℕ) (old new : List Spot) (at : IsLiveAt n old i) (change : Live → Live) → ((spot : Spot) → slice_get old i ≡ Some spot → IsPutAt i (option_map change (live_at spot)) old new) → IsPutAt i (Some (change (live_of n at.row))) old new
put_own n i old new at change told = subst (λ o. IsPutAt i o old new) (ap (option_map change) (live_row n old i at)) (told at.spot at.at)

-- the row that is read there
pub own_row : (n i : ℕ) (spots : List Spot) (at : IsLiveAt n spots i) (row : Row) → ((spot : Spot) → slice_get spots i ≡ Some spot → spot.row ≡ Some row) → at.row ≡ row
own_row n i spots at row told = same_Some at.row row (sym at.live ∙ told at.spot at.at)

pub selected : (n i : ℕ) (spots : List Spot) (at : IsLiveAt n spots i) (row : Row) → Ascends (spot_numbers spots) → ((spot : Spot) → slice_get spots i ≡ Some spot → spot.row ≡ Some row) → selector_of n (live_in spots) ≡ Some (live_of n row)
selected n i spots at row ascend told =
    ap (λ m. selector_of m (live_in spots)) (sym at.its) ∙ found spots i at.spot ascend at.at ∙ (λ k. option_map (live_of (at.its k)) (told at.spot at.at k))

-- where both were read of one list
pub there_row : (n i : ℕ) (first second spots : List Spot) (row : Row) → IsLiveAt n first i → first ≡ spots → ((spot : Spot) → slice_get second i ≡ Some spot → spot.row ≡ Some row) → second ≡ spots → (at : IsLiveAt n spots i) × (at.row ≡ row)
there_row n i first second spots row at first_is told second_is =
    let there : IsLiveAt n spots i = subst (λ (own : List Spot). IsLiveAt n own i) first_is at in
    (there, own_row n i spots there row (subst (λ (own : List Spot). (spot : Spot) → slice_get own i ≡ Some spot → spot.row ≡ Some row) second_is told))
