-- Prefixes as intervals of ports, and the halves of one.
use Rattle.std.proofs.Common.{◌≡◌, ℕ, suc, ◌+◌, ◌-◌, ◌*◌, ◌%◌, ◌^◌, ◌<◌, ◌≤◌, Bool, true, false, nat_le, not, refl, sym, ap, ◌∙◌, inl, inr, ◌⊎◌, arith}
use Rattle.std.proofs.lemmas.Bool.{cases_lt, cases_Bool, both_ways, and_parts, and_from, leb-true, le-leb}
use Rattle.std.proofs.lemmas.Nat.{pow_pos}
use Rattle.std.proofs.Math.Nat.{pow-suc}
use Rattle.pol_ports.specs.declared.PortPrefix.{PortPrefix}
use Rattle.pol_ports.specs.PortPrefix.{end_of, same_prefix, prefix_contains}
use Rattle.pol_ports.proofs.Blocks.{multiples_apart, smaller_multiple, sum_multiple, shorter_contains}
use Rattle.pol_ports.proofs.Containing.{contains_is, contains_from, contains_both, contains_three, contains_itself}
use Rattle.pol_ports.proofs.Same.{same_prefix-self, same_prefix-is}
use Rattle.pol_trie.specs.Tree.{middle, is_upper, both_low, both_high, Inside, Parts, Takes}

-- a prefix has a port
pub not_empty : (p : PortPrefix) → p.bits < end_of p
not_empty p = let pos = pow_pos (16 - p.len) in omega arith

-- the middle lies in the prefix
pub middle_within : (p : PortPrefix) → (p.bits ≤ middle p) × (middle p < end_of p)
middle_within p = let some = not_empty p in (omega arith, omega arith)

-- a prefix of less than 16 bits has two halves of one size
pub middle_is : (p : PortPrefix) → p.len < 16 → middle p ≡ p.bits + 2 ^ (15 - p.len)
middle_is p short =
    let e : 16 - p.len ≡ suc (15 - p.len) = omega arith in
    let twice : 2 ^ (16 - p.len) ≡ 2 ^ (15 - p.len) * 2 = ap (λ k. 2 ^ k) e ∙ pow-suc 2 (15 - p.len) in
    omega arith

-- a prefix ends by 2 ^ 16 where it begins below
pub ends_by : (p : PortPrefix) → p.bits < 2 ^ 16 → end_of p ≤ 2 ^ 16
ends_by p below =
    multiples_apart (2 ^ (16 - p.len)) p.bits (2 ^ 16) p.clear (smaller_multiple (2 ^ 16) 16 (16 - p.len) (omega arith) refl) below

-- a longer prefix in another lies in one of its halves
pub side : (f p : PortPrefix) → Inside p f.bits (end_of f) (f.len + 1) → (end_of p ≤ middle f) ⊎ (middle f ≤ p.bits)
side f p inside =
    let longer = inside.2 in
    let short : f.len < 16 = omega (arith, p.short) in
    let is = middle_is f short in
    let low = smaller_multiple f.bits (16 - f.len) (16 - p.len) (omega arith) f.clear in
    let half = sum_multiple f.bits (15 - f.len) (16 - p.len) (omega arith) low in
    elim (cases_lt p.bits (f.bits + 2 ^ (15 - f.len))) [
      | inl l ↦ inl (omega (arith, multiples_apart (2 ^ (16 - p.len)) p.bits (f.bits + 2 ^ (15 - f.len)) p.clear half l))
      | inr g ↦ inr (omega arith)
    ]

-- a prefix in another that it doesn't contain is longer
pub longer : (f p : PortPrefix) → f.bits ≤ p.bits → end_of p ≤ end_of f → (prefix_contains p f ≡ true → ⊥) → f.len + 1 ≤ p.len
longer f p low high never =
    elim (cases_lt f.len p.len) [
      | inl l ↦ omega arith
      | inr g ↦
          let some = not_empty p in
          let some' = not_empty f in
          let all = shorter_contains p f g (omega arith) (omega arith) in
          absurd (never (contains_from p f all.0 all.1))
    ]

pub inside_longer : (f p : PortPrefix) → prefix_contains f p ≡ true → (prefix_contains p f ≡ true → ⊥) → Inside p f.bits (end_of f) (f.len + 1)
inside_longer f p over never =
    let is = contains_is f p over in
    (is.0, is.1, longer f p is.0 is.1 never)

-- prefixes that differ don't contain each other
pub not_back : (p q : PortPrefix) → same_prefix p q ≡ false → prefix_contains p q ≡ true → prefix_contains q p ≡ true → ⊥
not_back p q differs over back =
    both_ways (same_prefix p q) differs (same_is p q (contains_both p q over back))
  where
    same_is : (p q : PortPrefix) → p ≡ q → same_prefix p q ≡ true
    same_is p q e = ap (same_prefix p) (sym e) ∙ same_prefix-self p

-- sameness is the same both ways
pub same_from : (p q : PortPrefix) → p ≡ q → same_prefix p q ≡ true
same_from p q e = ap (same_prefix p) (sym e) ∙ same_prefix-self p

pub differs_from : (p q : PortPrefix) → (p ≡ q → ⊥) → same_prefix p q ≡ false
differs_from p q never = elim (cases_Bool (same_prefix p q)) [ inl t ↦ absurd (never (same_prefix-is p q t)) | inr f ↦ f ]

-- prefixes of which one does not contain the other differ
pub contains_same : (p q : PortPrefix) → p ≡ q → prefix_contains p q ≡ true
contains_same p q e = ap (prefix_contains p) (sym e) ∙ contains_itself p

-- ---- the halves of a prefix, by side
abbrev pub half_lo : PortPrefix → Bool → ℕ
half_lo p true = middle p
half_lo p false = p.bits

abbrev pub half_hi : PortPrefix → Bool → ℕ
half_hi p true = end_of p
half_hi p false = middle p

-- the half on a side lies in the prefix
pub half_within : (p : PortPrefix) (high : Bool) → (p.bits ≤ half_lo p high) × (half_hi p high ≤ end_of p)
half_within p true = let m = middle_within p in (omega arith, omega arith)
half_within p false = let m = middle_within p in (omega arith, omega arith)

-- a longer prefix lies in the half on its side
pub in_half : (f p : PortPrefix) → Inside p f.bits (end_of f) (f.len + 1) → Inside p (half_lo f (is_upper f p.bits)) (half_hi f (is_upper f p.bits)) (f.len + 1)
in_half f p inside = go (is_upper f p.bits) refl
  where
    go : (high : Bool) → is_upper f p.bits ≡ high → Inside p (half_lo f high) (half_hi f high) (f.len + 1)
    go true e = let above = leb-true (middle f) p.bits e in (above, inside.1, inside.2)
    go false e =
        elim (side f p inside) [
          | inl low ↦ (inside.0, low, inside.2)
          | inr high ↦ absurd (both_ways _ e (le-leb (middle f) p.bits high))
        ]

-- what lies in one half does not lie in the other
pub halves_apart : (f p : PortPrefix) (high : Bool) (len len' : ℕ) → Inside p (half_lo f high) (half_hi f high) len → Inside p (half_lo f (not high)) (half_hi f (not high)) len' → ⊥
halves_apart f p true len len' a b = let some = not_empty p in omega (arith, a.0, b.1)
halves_apart f p false len len' a b = let some = not_empty p in omega (arith, a.1, b.0)

-- ---- where two prefixes lie, what they part below lies too
pub common_in : (r f a b : PortPrefix) → Parts f a b → Inside a r.bits (end_of r) r.len → Inside b r.bits (end_of r) r.len → Inside f r.bits (end_of r) r.len
common_in r f a b parts in_a in_b =
    let (low_a, high_a, len_a) = in_a in
    let (low_b, high_b, len_b) = in_b in
    let (low, high, len) = parts.has_a in
    let some_a = not_empty a in
    let some_b = not_empty b in
    elim (cases_lt f.len r.len) [
      | inl wider ↦
          let all = shorter_contains f r (omega arith) (omega arith) (omega arith) in
          absurd (elim (side f r (all.0, all.1, omega arith)) [
            | inl below ↦ elim parts.apart [ inl x ↦ omega (arith, x.1) | inr x ↦ omega (arith, x.1) ]
            | inr above ↦ elim parts.apart [ inl x ↦ omega (arith, x.0) | inr x ↦ omega (arith, x.0) ]
          ])
      | inr narrower ↦
          let all = shorter_contains r f narrower (omega arith) (omega arith) in
          (all.0, all.1, narrower)
    ]

-- a half of a prefix begins as a prefix of its length does
pub half_clear : (p : PortPrefix) (high : Bool) → p.len < 16 → half_lo p high % 2 ^ (16 - (p.len + 1)) ≡ 0
half_clear p false short = smaller_multiple p.bits (16 - p.len) (16 - (p.len + 1)) (omega arith) p.clear
half_clear p true short =
    ap (λ k. k % 2 ^ (16 - (p.len + 1))) (middle_is p short)
    ∙ sum_multiple p.bits (15 - p.len) (16 - (p.len + 1)) (omega arith) (smaller_multiple p.bits (16 - p.len) (16 - (p.len + 1)) (omega arith) p.clear)

pub half_size : (p : PortPrefix) (high : Bool) → p.len < 16 → half_lo p high + 2 ^ (16 - (p.len + 1)) ≡ half_hi p high
half_size p high short = go high
  where
    exponent : 16 - (p.len + 1) ≡ 15 - p.len
    exponent = omega arith

    size : 2 ^ (16 - (p.len + 1)) ≡ 2 ^ (15 - p.len)
    size = ap (λ k. 2 ^ k) exponent

    whole : 2 ^ (16 - p.len) ≡ 2 ^ (15 - p.len) * 2
    whole = (let e : 16 - p.len ≡ suc (15 - p.len) = omega arith in ap (λ k. 2 ^ k) e ∙ pow-suc 2 (15 - p.len))

    go : (high : Bool) → half_lo p high + 2 ^ (16 - (p.len + 1)) ≡ half_hi p high
    go true = omega (arith, middle_is p short, size, whole)
    go false = omega (arith, middle_is p short, size)

abbrev half : (p : PortPrefix) (high : Bool) → p.len < 16 → PortPrefix
half p high short = record { bits = half_lo p high; len = p.len + 1; short = omega arith; clear = half_clear p high short }

-- the half of a prefix that a longer one in it lies in takes it
pub takes_in_half : (p port : PortPrefix) → Inside port p.bits (end_of p) (p.len + 1)
    → Takes (half_lo p (is_upper p port.bits)) (half_hi p (is_upper p port.bits)) (p.len + 1) port
takes_in_half p port inside =
    let high = is_upper p port.bits in
    let l = inside.2 in
    let s = port.short in
    let short : p.len < 16 = omega arith in
    let size = half_size p high short in
    record {
      inside = in_half p port inside;
      common = λ f a b parts in_a in_b.
          let c = common_in (half p high short) f a b parts (in_a.0, omega (arith, in_a.1, size), in_a.2) (in_b.0, omega (arith, in_b.1, size), in_b.2) in
          (c.0, omega (arith, c.1, size), c.2);
    }

-- all ports take each prefix
pub takes_all : (port : PortPrefix) → port.bits < 2 ^ 16 → Takes 0 (2 ^ 16) 0 port
takes_all port below = record {
  inside = (omega arith, ends_by port below, omega arith);
  common = λ f a b parts in_a in_b. common_in (record { bits = 0; len = 0; short = omega arith; clear = refl }) f a b parts in_a in_b;
}

-- ---- two prefixes of which neither contains the other part below a prefix
-- what contains both has less than 16 bits
pub short_around : (p a b : PortPrefix) → prefix_contains p a ≡ true → prefix_contains p b ≡ true → (prefix_contains a b ≡ true → ⊥) → p.len < 16
short_around p a b around_a around_b apart =
    elim (cases_lt p.len 16) [
      | inl l ↦ l
      | inr g ↦
          let height : 16 - p.len ≡ 0 = omega arith in
          let size : 2 ^ (16 - p.len) ≡ 1 = ap (λ k. 2 ^ k) height in
          let in_a = contains_is p a around_a in
          let in_b = contains_is p b around_b in
          let some_a = not_empty a in
          let some_b = not_empty b in
          absurd (apart (contains_from a b (omega arith) (omega arith)))
    ]

pub low_around : (p a b : PortPrefix) (short : p.len < 16) → prefix_contains p a ≡ true → both_low p a b ≡ true → (q : PortPrefix) → q.bits ≡ p.bits → q.len ≡ p.len + 1
    → (prefix_contains p b ≡ true) → (prefix_contains q a ≡ true) × (prefix_contains q b ≡ true)
low_around p a b short around_a low q bits len around_b =
    let both = and_parts (nat_le (end_of a) (middle p)) (nat_le (end_of b) (middle p)) low in
    let low_a = leb-true (end_of a) (middle p) both.0 in
    let low_b = leb-true (end_of b) (middle p) both.1 in
    let in_a = contains_is p a around_a in
    let in_b = contains_is p b around_b in
    let size = half_size p false short in
    let power : 2 ^ (16 - q.len) ≡ 2 ^ (16 - (p.len + 1)) = ap (λ k. 2 ^ (16 - k)) len in
    (contains_from q a (omega arith) (omega arith), contains_from q b (omega arith) (omega arith))

pub high_around : (p a b : PortPrefix) (short : p.len < 16) → prefix_contains p a ≡ true → both_high p a b ≡ true → (q : PortPrefix) → q.bits ≡ middle p → q.len ≡ p.len + 1
    → (prefix_contains p b ≡ true) → (prefix_contains q a ≡ true) × (prefix_contains q b ≡ true)
high_around p a b short around_a high q bits len around_b =
    let both = and_parts (nat_le (middle p) a.bits) (nat_le (middle p) b.bits) high in
    let high_a = leb-true (middle p) a.bits both.0 in
    let high_b = leb-true (middle p) b.bits both.1 in
    let in_a = contains_is p a around_a in
    let in_b = contains_is p b around_b in
    let size = half_size p true short in
    let power : 2 ^ (16 - q.len) ≡ 2 ^ (16 - (p.len + 1)) = ap (λ k. 2 ^ (16 - k)) len in
    (contains_from q a (omega arith) (omega arith), contains_from q b (omega arith) (omega arith))

-- and where they lie in different halves, it is that prefix
pub parts_here : (p a b : PortPrefix) → prefix_contains p a ≡ true → prefix_contains p b ≡ true → (prefix_contains a b ≡ true → ⊥) → (prefix_contains b a ≡ true → ⊥)
    → both_low p a b ≡ false → both_high p a b ≡ false → Parts p a b
parts_here p a b around_a around_b not_a not_b low high =
    let in_a = inside_longer p a around_a (λ back. not_a (contains_three a p b back around_b)) in
    let in_b = inside_longer p b around_b (λ back. not_b (contains_three b p a back around_a)) in
    record {
      has_a = in_a;
      has_b = in_b;
      apart = elim (side p a in_a) [
        | inl low_a ↦ elim (side p b in_b) [
          | inl low_b ↦ absurd (both_ways _ low (and_from _ _ (le-leb (end_of a) (middle p) low_a) (le-leb (end_of b) (middle p) low_b)))
          | inr high_b ↦ inl (low_a, high_b)
        ]
        | inr high_a ↦ elim (side p b in_b) [
          | inl low_b ↦ inr (low_b, high_a)
          | inr high_b ↦ absurd (both_ways _ high (and_from _ _ (le-leb (middle p) a.bits high_a) (le-leb (middle p) b.bits high_b)))
        ]
      ];
    }
