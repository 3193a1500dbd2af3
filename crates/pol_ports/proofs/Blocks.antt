-- Blocks of 2 ^ height ports: multiples, and the prefixes that have them.
use Rattle.std.proofs.Common.{◌≡◌, ℕ, suc, ◌+◌, ◌-◌, ◌*◌, ◌/◌, ◌%◌, ◌^◌, ◌<◌, ◌≤◌, min, refl, sym, ◌∙◌, ap, subst, ◌⊎◌, ⊎_elim, arith}
use Rattle.std.proofs.Math.Nat.{mod-eq-sub-div-mul, div-mul-le_self, mul-mod_left, mul-le-mul_right, lt-div-mul-add, add-mul-mod_self_right}
use Rattle.std.proofs.lemmas.Nat.{mod-pow-add, pow-add, pow_pos}
use Rattle.std.proofs.lemmas.Bool.{cases_lt, cases_order}
use Rattle.std.specs.Coded.{le_prop}
use native.Mathlib.Nat.{ℕ_set}
use Rattle.pol_ports.specs.declared.PortPrefix.{PortPrefix}
use Rattle.pol_ports.specs.PortPrefix.{port_count, end_of, prefix_at, parent_of}

-- a multiple of m is m times its quotient
pub multiple_is : (n m : ℕ) → n % m ≡ 0 → n / m * m ≡ n
multiple_is n m h = omega (arith, mod-eq-sub-div-mul n m, div-mul-le_self n m)

-- two multiples of m differ by m at least
pub multiples_apart : (m a b : ℕ) → a % m ≡ 0 → b % m ≡ 0 → a < b → a + m ≤ b
multiples_apart m a b ha hb lt =
    let ea = multiple_is a m ha in
    let eb = multiple_is b m hb in
    ⊎_elim (λ (l : a / m < b / m). omega (arith, mul-le-mul_right m l, ea, eb))
    (λ (g : b / m ≤ a / m). absurd (omega (arith, mul-le-mul_right m g, ea, eb)))
    (cases_lt (a / m) (b / m))

-- a multiple of a power of two is one of each smaller power
pub smaller_multiple : (n a b : ℕ) → b ≤ a → n % 2 ^ a ≡ 0 → n % 2 ^ b ≡ 0
smaller_multiple n a b le h =
    let e : a - b + b ≡ a = omega arith in
    let h' : n % 2 ^ (a - b + b) ≡ 0 = rw e h in
    omega (arith, mod-pow-add n (a - b) b)

-- a multiple of a power of two, with a greater power added
pub sum_multiple : (n a b : ℕ) → b ≤ a → n % 2 ^ b ≡ 0 → (n + 2 ^ a) % 2 ^ b ≡ 0
sum_multiple n a b le h =
    let e : a - b + b ≡ a = omega arith in
    let p : 2 ^ a ≡ 2 ^ (a - b) * 2 ^ b = sym (ap (λ k. 2 ^ k) e) ∙ pow-add 2 (a - b) b in
    rw p (add-mul-mod_self_right n (2 ^ (a - b)) (2 ^ b) ∙ h)

-- a number with its last bits cleared is the start of the block that has it
pub floor_is : (n m first : ℕ) → 0 < m → first % m ≡ 0 → first ≤ n → n < first + m → n / m * m ≡ first
floor_is n m first pos h low high =
    let q = mul-mod_left (n / m) m in
    let below = div-mul-le_self n m in
    let above : n < n / m * m + m = lt-div-mul-add pos in
    ⊎_elim (λ (e : n / m * m ≡ first). e)
    (λ (o : (n / m * m < first) ⊎ (first < n / m * m)).
    ⊎_elim (λ (l : n / m * m < first). absurd (omega (arith, multiples_apart m (n / m * m) first q h l)))
    (λ (g : first < n / m * m). absurd (omega (arith, multiples_apart m first (n / m * m) h q g))) o)
    (cases_order (n / m * m) first)

-- prefixes are told apart by their fields
pub prefix_same : (p q : PortPrefix) → p.bits ≡ q.bits → p.len ≡ q.len → p ≡ q
prefix_same p q same_bits same_len =
    let P : ℕ → Type 0 = λ b. (l : ℕ) → p.len ≡ l → (s : l ≤ 16) (c : b % 2 ^ (16 - l) ≡ 0) → p ≡ (record { bits = b; len = l; short = s; clear = c }) in
    let Q : ℕ → Type 0 = λ l. (s : l ≤ 16) (c : p.bits % 2 ^ (16 - l) ≡ 0) → p ≡ (record { bits = p.bits; len = l; short = s; clear = c }) in
    let Short : p.len ≤ 16 → Type 0 = λ s. p ≡ (record { bits = p.bits; len = p.len; short = s; clear = p.clear }) in
    let here : Q p.len = λ s c.
    let Clear : p.bits % 2 ^ (16 - p.len) ≡ 0 → Type 0 = λ c. p ≡ (record { bits = p.bits; len = p.len; short = s; clear = c }) in
    subst Clear (ℕ_set _ _ p.clear c) (subst Short (le_prop p.short s) refl)
    in
    let there : P p.bits = λ l e. subst Q e here in
    subst P same_bits there q.len same_len q.short q.clear

-- the prefix of the block of 2 ^ height ports at `first`
abbrev pub block_at : ℕ → ℕ → PortPrefix
block_at height first = prefix_at first (16 - height)

block_at-exponent : (height : ℕ) → height ≤ 16 → 16 - min (16 - height) 16 ≡ height
block_at-exponent height le = omega arith

pub block_at-count : (height first : ℕ) → height ≤ 16 → port_count (block_at height first) ≡ 2 ^ height
block_at-count height first le = ap (λ k. 2 ^ k) (block_at-exponent height le)

pub block_at-bits : (height first : ℕ) → height ≤ 16 → first % 2 ^ height ≡ 0 → (block_at height first).bits ≡ first
block_at-bits height first le h = rw (block_at-exponent height le) (multiple_is first (2 ^ height) h)

-- the two halves of a block of twice 2 ^ height ports
pub lower_half : (height first : ℕ) → first % 2 ^ suc height ≡ 0 → first % 2 ^ height ≡ 0
lower_half height first h = smaller_multiple first (suc height) height (omega arith) h

pub upper_half : (height first : ℕ) → first % 2 ^ suc height ≡ 0 → (first + 2 ^ height) % 2 ^ height ≡ 0
upper_half height first h = sum_multiple first height height (omega arith) (lower_half height first h)

parent_of-exponent : (height : ℕ) → suc height ≤ 16 → 16 - min (min (16 - height) 16 - 1) 16 ≡ suc height
parent_of-exponent height le = omega arith

pub parent_of-count : (height first : ℕ) → suc height ≤ 16 → port_count (parent_of (block_at height first)) ≡ 2 ^ suc height
parent_of-count height first le = ap (λ k. 2 ^ k) (parent_of-exponent height le)

-- the parent of a block's prefix is the prefix of the block around it
pub parent_of-bits : (height first around : ℕ) → suc height ≤ 16 → first % 2 ^ height ≡ 0 → around % 2 ^ suc height ≡ 0
    → around ≤ first → first < around + 2 ^ suc height → (parent_of (block_at height first)).bits ≡ around
parent_of-bits height first around le h h' low high =
    let e = block_at-bits height first (omega arith) h in
    rw (parent_of-exponent height le)
    (floor_is (block_at height first).bits (2 ^ suc height) around (pow_pos (suc height)) h' (omega arith) (omega arith))

-- two prefixes with a port in common, of which the first is no longer: it has all ports of the second
pub shorter_contains : (p q : PortPrefix) → p.len ≤ q.len → p.bits < end_of q → q.bits < end_of p
    → (p.bits ≤ q.bits) × (end_of q ≤ end_of p)
shorter_contains p q shorter low high =
    let m = 2 ^ (16 - q.len) in
    let p_bits = smaller_multiple p.bits (16 - p.len) (16 - q.len) (omega arith) p.clear in
    let p_end = sum_multiple p.bits (16 - p.len) (16 - q.len) (omega arith) p_bits in (
      ⊎_elim (λ (l : q.bits < p.bits). absurd (omega (arith, multiples_apart m q.bits p.bits q.clear p_bits l)))
          (λ (g : p.bits ≤ q.bits). g) (cases_lt q.bits p.bits),
      ⊎_elim (λ (l : end_of p < end_of q). absurd (omega (arith, multiples_apart m q.bits (end_of p) q.clear p_end high)))
          (λ (g : end_of q ≤ end_of p). g) (cases_lt (end_of p) (end_of q)),
    )
