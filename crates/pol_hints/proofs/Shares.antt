-- The shares of passes: what a pass has can be taken out of the sum, and a pass that has all of it is the only one.
use Rattle.std.proofs.Common.{◌≡◌, ℕ, zero, suc, ◌≤◌, ◌<◌, ◌+◌, ◌*◌, List, [], ◌∷◌, ◌++◌, set, refl, sym, ap, subst, arith}
use Rattle.std.proofs.Math.Nat.{eq_of_mul-eq-mul_right, le-mul_of_pos_right, le_of_mul-le-mul_right, mul-le-mul_right}
use mathlib.Core.Option.{some, some-injective, some-ne-none}
use lib.ListN.{get_elem?}
use Rattle.pol_hints.specs.declared.standing.Share.{Share}
use Rattle.pol_hints.specs.declared.standing.Standing.{Standing}
use Rattle.pol_hints.specs.Shares.{ComeTo, IsAll, IsPart, IsSame, Measures, half, no_share, together}

-- ---- one share

product_some : (a b : ℕ) → 1 ≤ a → 1 ≤ b → 1 ≤ a * b
product_some a b one other = let more = le-mul_of_pos_right a (let least : 0 < b = omega (arith, other) in least) in omega (arith, more, one)

pub all_units : (whole units : ℕ) (s : Share) → Measures whole units s → IsAll s → units ≡ whole
all_units whole units s it all =
    eq_of_mul-eq-mul_right s.of (let least = it.of in omega (arith, least)) units whole
    (let is = it.is in let same = ap (λ (k : ℕ). k * whole) all in omega (arith, is, same))

pub some_units : (whole units : ℕ) (s : Share) → Measures whole units s → 1 ≤ whole → IsPart s → 1 ≤ units
some_units whole zero s it least part =
    let is = it.is in
    let more = product_some s.part whole part.part least in
    absurd (omega (arith, is, more))
some_units whole (suc units) s it least part = omega arith

-- a share is so many units, and no other number of them
pub one_measure : (whole a b : ℕ) (s : Share) → Measures whole a s → Measures whole b s → a ≡ b
one_measure whole a b s one other =
    eq_of_mul-eq-mul_right s.of (let least = one.of in omega (arith, least)) a b (let mine = one.is in let theirs = other.is in omega (arith, mine, theirs))

-- in units of half the size it is twice as many
pub doubled : (whole a b : ℕ) (s : Share) → Measures (2 * whole) a s → Measures whole b s → a ≡ 2 * b
doubled whole a b s one other =
    one_measure (2 * whole) a (2 * b) s one (record { of = other.of; is = (let is = other.is in omega (arith, is)) })

pub half_units : (whole units : ℕ) (s : Share) → Measures whole units s → Measures (2 * whole) units (half s)
half_units whole units s it = record { of = (let least = it.of in omega (arith, least)); is = (let is = it.is in omega (arith, is)) }

pub both_units : (whole a b : ℕ) (s t : Share) → Measures whole a s → Measures whole b t → Measures whole (a + b) (together s t)
both_units whole a b s t one other = record {
  of = product_some s.of t.of one.of other.of;
  is =
      (let mine = ap (λ (k : ℕ). k * t.of) one.is in
      let theirs = ap (λ (k : ℕ). k * s.of) other.is in
      omega (arith, mine, theirs));
}

pub none_units : (whole : ℕ) → Measures whole 0 no_share
none_units whole = record { of = omega arith; is = omega arith }

pub half_part : (s : Share) → IsPart s → IsPart (half s)
half_part s it = record { part = it.part; of = (let least = it.of in omega (arith, least)) }

pub both_part : (s t : Share) → IsPart s → IsPart t → IsPart (together s t)
both_part s t one other = record {
  part = (let more = product_some s.part t.of one.part other.of in omega (arith, more));
  of = product_some s.of t.of one.of other.of;
}

pub no_more : (whole units : ℕ) (s : Share) → Measures whole units s → 1 ≤ whole → units ≤ whole → s.part ≤ s.of
no_more whole units s it least few =
    let more = mul-le-mul_right s.of few in
    let is = it.is in
    let same : s.part * whole ≤ s.of * whole = omega (arith, more, is) in
    let positive : 0 < whole = omega (arith, least) in le_of_mul-le-mul_right same positive

-- of two that come to no more than the whole neither is all of it
pub not_all : (s t : Share) → IsPart s → IsPart t → (together s t).part ≤ (together s t).of → IsAll s → ⊥
not_all s t one other few all =
    let more = product_some t.part s.of other.part one.of in
    let same = ap (λ (k : ℕ). k * t.of) all in omega (arith, few, more, same)

pub not_all_either : (s t : Share) → IsPart s → IsPart t → (together s t).part ≤ (together s t).of → IsAll t → ⊥
not_all_either s t one other few all =
    let more = product_some s.part t.of one.part other.of in
    let same = ap (λ (k : ℕ). k * s.of) all in omega (arith, few, more, same)

-- ---- shares that come together again

pub halves_again : (s : Share) → IsSame (together (half s) (half s)) s
halves_again s = omega arith

pub same_together : (s t u w : Share) → IsSame s t → IsSame u w → IsSame (together s u) (together t w)
same_together s t u w one other =
    let mine = ap (λ (k : ℕ). k * (u.of * w.of)) one in
    let theirs = ap (λ (k : ℕ). k * (s.of * t.of)) other in
    omega (arith, mine, theirs)

pub order_is_free : (s t : Share) → IsSame (together s t) (together t s)
order_is_free s t = omega arith

pub three_together : (s t u : Share) → IsSame (together (together s t) u) (together s (together t u))
three_together s t u = omega arith

pub all_again : (s t : Share) → IsPart t → IsSame s t → IsAll t → IsAll s
all_again s t part same all =
    eq_of_mul-eq-mul_right t.of (let more = part.of in omega (arith, more)) s.part s.of
    (let whole = ap (λ (k : ℕ). k * s.of) all in omega (arith, same, whole))

pub less_than_all : (s : Share) → IsPart s → IsAll s → IsAll (half s) → ⊥
less_than_all s part all still = let more = part.of in omega (arith, more, all, still)

-- ---- the shares of all passes

-- what the pass at the place has, beside what the others have; another share can stand there
pub record IsOneOf (whole units port : ℕ) (views : List Standing) (v : Standing) : Type 0 where
  pub mine : ℕ
  pub rest : ℕ
  pub is : Measures whole mine v.share
  pub sum : units ≡ mine + rest
  pub put : (w : Standing) (now : ℕ) → Measures whole now w.share → ComeTo whole (now + rest) (set views port w)

pub one_of : (whole units port : ℕ) (views : List Standing) (v : Standing) → get_elem? views port ≡ some v → ComeTo whole units views → IsOneOf whole units port views v
one_of whole units port [] v at it = absurd (some-ne-none v (sym at))
one_of whole units zero (x ∷ views) v at it = record {
  mine = it.0;
  rest = it.1;
  is = subst (λ (y : Standing). Measures whole it.0 y.share) (some-injective x v at) it.2;
  sum = it.3;
  put = λ w now is. (now, it.1, is, refl, it.4);
}
one_of whole units (suc port) (x ∷ views) v at it =
    let first = it.0 in
    let total = it.3 in
    let other = one_of whole it.1 port views v at it.4 in
    let mine = other.mine in
    let rest = other.rest in
    let below = other.sum in
    record {
      mine = mine;
      rest = first + rest;
      is = other.is;
      sum = omega (arith, total, below);
      put = λ w now is. (first, now + rest, it.2, omega arith, other.put w now is);
    }

pub one_more : (whole units now : ℕ) (views : List Standing) (w : Standing) → ComeTo whole units views → Measures whole now w.share → ComeTo whole (units + now) (views ++ w ∷ [])
one_more whole units now [] w it is = (now, 0, is, (let none = it in omega (arith, none)), refl)
one_more whole units now (x ∷ views) w it is =
    let total = it.3 in (it.0, it.1 + now, it.2, omega (arith, total), one_more whole it.1 now views w it.4 is)

-- the same shares, in units of half the size
pub finer : (whole units : ℕ) (views : List Standing) → ComeTo whole units views → ComeTo (2 * whole) (2 * units) views
finer whole units [] it = let none = it in omega (arith, none)
finer whole units (x ∷ views) it =
    let total = it.3 in
    let of = it.2.of in
    let is = it.2.is in (2 * it.0, 2 * it.1, record { of = of; is = omega (arith, is) }, omega (arith, total), finer whole it.1 views it.4)
