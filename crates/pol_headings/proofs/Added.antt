-- The headings of an identity, one kind after another, are those under which it is filed.
use Rattle.std.proofs.Common.{◌≡◌, ◌==◌, ◌&&◌, ◌||◌, ◌+◌, ◌*◌, ◌/◌, ◌%◌, ◌<◌, ◌≤◌, nat_lt, Bool, true, false, List, ℕ, Option, Some, None, refl, sym, ap, ◌∙◌, inl, inr, arith}
use Rattle.std.specs.Option.{option_map_or}
use Rattle.std.proofs.lemmas.Bool.{and_from, and_parts, and_right, cases_lt, eq-eqb, eqb-true, lt-ltb, ltb-true, or_cases, or_left, or_right}
use Rattle.pol_addr.specs.Cidr.{cleared}
use Rattle.pol_addr.specs.Prefix.{covers, network_of, prefix_of}
use Rattle.pol_addr.specs.declared.network.Prefix.{Prefix}
use Rattle.pol_addr.proofs.Containment.{covers-parts, covers_from}
use Rattle.pol_addr.proofs.Halves.{covers_len}
use Rattle.pol_headings.specs.Heading.{same_heading}
use Rattle.pol_headings.specs.Inside.{is_octets, stands_in_octets}
use Rattle.pol_headings.specs.Tried.{is_filed_as}
use Rattle.pol_headings.specs.declared.heading.Heading.{Heading}
use Rattle.pol_headings.specs.declared.heading.Heading.TheVariants as is
use Rattle.pol_headings.proofs.Equality.{same_heading-Decides, same_heading-is}
use Rattle.pol_headings.proofs.Selected.{has_heading, no_label}
use Rattle.pol_labels.specs.declared.label.Label.{Label}

-- a prefix around another one has no more whole octets
octets_covers : (p q : Prefix) → is_octets q (q.len / 8 + 1) (is.Prefix p) ≡ ((p.len % 8 == 0) && covers p q)
octets_covers p q = by (p.len % 8 == 0) (covers p q) refl
  where
    by : (whole over : Bool) → covers p q ≡ over → (whole && nat_lt (p.len / 8) (q.len / 8 + 1) && over) ≡ (whole && over)
    by false over is = refl
    by true false is = and_right (nat_lt (p.len / 8) (q.len / 8 + 1)) false refl
    by true true is = ap (λ b. b && true) (lt-ltb (p.len / 8) (q.len / 8 + 1) (omega (arith, covers_len p q is)))

-- ---- one prefix of whole octets after another
same_truth : (a b : Bool) → (a ≡ true → b ≡ true) → (b ≡ true → a ≡ true) → a ≡ b
same_truth true b to from = sym (to refl)
same_truth false true to from = from refl
same_truth false false to from = refl

-- of whole octets around this one, it is the one of so many
octets_there : (q : Prefix) (k : ℕ) (p : Prefix) → is_octets q (k + 1) (is.Prefix p) ≡ true → (is_octets q k (is.Prefix p) || same_heading (is.Prefix (prefix_of (network_of q) (k * 8))) (is.Prefix p)) ≡ true
octets_there q k p there =
    let (front, over) = and_parts _ (covers p q) there in
    let (whole, fewer) = and_parts (p.len % 8 == 0) _ front in
    let octets : p.len % 8 ≡ 0 = eqb-true (p.len % 8) 0 whole in
    let below : p.len / 8 < k + 1 = ltb-true _ _ fewer in
    elim (cases_lt (p.len / 8) k) [
      | inl less ↦ or_left (is_octets q k (is.Prefix p)) _ (and_from _ (covers p q) (and_from (p.len % 8 == 0) _ whole (lt-ltb _ _ less)) over)
      | inr most ↦
          let len : k * 8 ≡ p.len = omega (arith, octets, below, most) in
          let addr : cleared (k * 8) q.addr ≡ p.addr = ap (λ l. cleared l q.addr) len ∙ (covers-parts p q over).1 in
          let same : prefix_of (network_of q) (k * 8) ≡ p = λ i. record { addr = addr i; len = len i } in
          or_right (is_octets q k (is.Prefix p)) _ ((same_heading-Decides (is.Prefix (prefix_of (network_of q) (k * 8))) (is.Prefix p)).1 (ap is.Prefix same))
    ]

octets_here : (q : Prefix) (k : ℕ) (p : Prefix) → k * 8 ≤ q.len → (is_octets q k (is.Prefix p) || same_heading (is.Prefix (prefix_of (network_of q) (k * 8))) (is.Prefix p)) ≡ true → is_octets q (k + 1) (is.Prefix p) ≡ true
octets_here q k p short there =
    elim (or_cases (is_octets q k (is.Prefix p)) _ there) [
      | inl here ↦
          let (front, over) = and_parts _ (covers p q) here in
          let (whole, fewer) = and_parts (p.len % 8 == 0) _ front in
          let below : p.len / 8 < k = ltb-true _ _ fewer in
          and_from _ (covers p q) (and_from (p.len % 8 == 0) _ whole (lt-ltb _ _ (omega (arith, below)))) over
      | inr here ↦
          let same : is.Prefix (prefix_of (network_of q) (k * 8)) ≡ is.Prefix p = same_heading-is _ _ here in
          ap (is_octets q (k + 1)) (sym same)
          ∙ and_from _ (covers (prefix_of (network_of q) (k * 8)) q)
          (and_from _ _ (eq-eqb (k * 8 % 8) 0 (omega arith)) (lt-ltb (k * 8 / 8) (k + 1) (omega arith)))
          (covers_from (prefix_of (network_of q) (k * 8)) q short refl)
    ]

pub octets-next : (q : Prefix) (k : ℕ) (other : Heading) → k * 8 ≤ q.len → is_octets q (k + 1) other ≡ (is_octets q k other || same_heading (is.Prefix (prefix_of (network_of q) (k * 8))) other)
octets-next q k (is.Label key value) short = refl
octets-next q k (is.Prefix p) short = same_truth _ _ (octets_there q k p) (octets_here q k p short)
octets-next q k is.Any short = refl

-- what is among the headings after one more of them
pub added_octets : (now before start these this more : Bool) → now ≡ (before || this) → before ≡ (start || these) → more ≡ (these || this) → now ≡ (start || more)
added_octets now before start these this more one all of_both =
    one ∙ ap (λ b. b || this) all ∙ or_assoc start these this ∙ ap (λ b. start || b) (sym of_both)
  where
    or_assoc : (a b c : Bool) → ((a || b) || c) ≡ (a || (b || c))
    or_assoc true b c = refl
    or_assoc false b c = refl

octets_label : (prefix : Option Prefix) (key value : List ℕ) → stands_in_octets prefix (is.Label key value) ≡ false
octets_label None key value = refl
octets_label (Some own) key value = refl

octets_prefix : (prefix : Option Prefix) (p : Prefix) → stands_in_octets prefix (is.Prefix p) ≡ ((p.len % 8 == 0) && option_map_or (covers p) prefix false)
octets_prefix None p = none (p.len % 8 == 0)
  where
    none : (b : Bool) → false ≡ (b && false)
    none true = refl
    none false = refl
octets_prefix (Some own) p = octets_covers p own

joined_label : (old l o : Bool) → o ≡ false → (((old || false) || l) || o) ≡ (old || (true && l))
joined_label true l o none = refl
joined_label false true o none = refl
joined_label false false o none = none

joined_prefix : (old l o : Bool) → l ≡ false → (((old || false) || l) || o) ≡ (old || o)
joined_prefix true l o none = refl
joined_prefix false l o none = ap (λ b. b || o) none

joined_any : (old l o : Bool) → (((old || true) || l) || o) ≡ (old || (true && true))
joined_any true l o = refl
joined_any false l o = refl

pub joined : (old : Bool) (labels : List Label) (prefix : Option Prefix) (other : Heading)
    → (((old || same_heading is.Any other) || has_heading labels other) || stands_in_octets prefix other) ≡ (old || is_filed_as labels prefix other)
joined old labels prefix (is.Label key value) = joined_label old (has_heading labels (is.Label key value)) _ (octets_label prefix key value)
joined old labels prefix (is.Prefix p) =
    joined_prefix old (has_heading labels (is.Prefix p)) _ (no_label labels p) ∙ ap (λ b. old || b) (octets_prefix prefix p)
joined old labels prefix is.Any = joined_any old (has_heading labels is.Any) (stands_in_octets prefix is.Any)
