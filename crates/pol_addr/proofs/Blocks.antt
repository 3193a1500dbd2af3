-- Host bits of numbers of so many bits, cleared once, and again at another length.
use Rattle.std.proofs.Common.{◌≡◌, ℕ, ◌+◌, ◌-◌, ◌*◌, ◌/◌, ◌^◌, ◌<◌, ◌≤◌, sym, ap, ◌∙◌, inl, inr, arith, ◌%◌, ◌==◌, if◌then◌else◌, eq-eqb, ne_eqb}
use Rattle.std.proofs.lemmas.Bool.{cases_eq}
use Rattle.std.specs.Prelude.{bit_and}
use Rattle.std.proofs.lemmas.Nat.{pow_pos, shl-shr, shr-shr, shr_split, pow-add, pow_below, div-mul-add, shr_below, row_fits}
use Rattle.std.proofs.lemmas.Nat.Bits.{and_high_mask}
use Rattle.std.proofs.Math.Nat.{mul-le-mul_right}
use Rattle.std.proofs.Math.Pow.{shr_mono}
use Rattle.pol_addr.specs.Cidr.{network}

-- to keep the bits of a mask is to clear the host bits
pub and-mask : (w len n : ℕ) → n < 2 ^ w → bit_and n (2 ^ w - 2 ^ (w - len)) ≡ network w len n
unfolding network
and-mask w len n small = and_high_mask w (w - len) (omega arith) n small

-- a shift that clears the low j bits first
floor-floor : (j k n : ℕ) → (n / 2 ^ j * 2 ^ j) / 2 ^ (j + k) ≡ n / 2 ^ (j + k)
floor-floor j k n =
    sym (shr-shr (n / 2 ^ j * 2 ^ j) j k) ∙ ap (λ x. x / 2 ^ k) (shl-shr (n / 2 ^ j) j) ∙ shr-shr n j k

-- to clear more host bits later is to clear them at once
pub network-network : (w l m n : ℕ) → l ≤ m → network w l (network w m n) ≡ network w l n
unfolding network
network-network w l m n shorter =
    let k = m - l - (m - w) in
    let split : w - l ≡ (w - m) + k = omega arith in
    rw split (ap (λ x. x * 2 ^ ((w - m) + k)) (floor-floor (w - m) k n))

pub network_le : (w len n : ℕ) → network w len n ≤ n
unfolding network
network_le w len n = omega (arith, shr_split n (w - len))

times_one : (n k : ℕ) → k ≡ 0 → n / 2 ^ k * 2 ^ k ≡ n
times_one n k none = rw none (omega arith)

-- a prefix of the greatest length is one address
pub network-whole : (w n : ℕ) → network w w n ≡ n
unfolding network
network-whole w n = times_one n (w - w) (omega arith)

-- a prefix of length 0 keeps no bit
pub network-none : (w n : ℕ) → n < 2 ^ w → network w 0 n ≡ 0
unfolding network
network-none w n small =
    let same : w - 0 ≡ w = omega arith in
    let front : 0 + w ≡ w = omega arith in
    let none : n / 2 ^ w < 2 ^ 0 = shr_below n 0 w (rw front small) in
    let zero : n / 2 ^ w ≡ 0 = omega (arith, none) in
    rw same (ap (λ x. x * 2 ^ w) zero ∙ omega arith)

-- the number after a multiple of 2 ^ (k + m) that is a multiple of 2 ^ k
next_multiple : (t k m : ℕ) → (t * 2 ^ (k + m) + 2 ^ k) / 2 ^ k * 2 ^ k ≡ t * 2 ^ (k + m) + 2 ^ k
next_multiple t k m =
    let joined : t * 2 ^ (k + m) + 2 ^ k ≡ (t * 2 ^ m + 1) * 2 ^ k = rw pow-add (omega arith) in
    rw joined (ap (λ x. x * 2 ^ k) (shl-shr (t * 2 ^ m + 1) k))

-- a block of 2 ^ j numbers that starts at n ends below 2 ^ w
block_fits : (w n j : ℕ) → j ≤ w → n < 2 ^ w → n / 2 ^ j * 2 ^ j ≡ n → n + 2 ^ j ≤ 2 ^ w
block_fits w n j within small clear =
    let exact : (w - j) + j ≡ w = omega arith in
    let whole : 2 ^ (w - j) * 2 ^ j ≡ 2 ^ w = sym (pow-add 2 (w - j) j) ∙ ap (λ x. 2 ^ x) exact in
    let below : n / 2 ^ j < 2 ^ (w - j) = shr_below n (w - j) j (rw (pow-add 2 (w - j) j, whole) small) in
    let fits = row_fits (n / 2 ^ j) (2 ^ j) (2 ^ (w - j)) (2 ^ j) below (omega arith) in
    omega (arith, fits, clear, whole)

-- in a block of length l, the second block of a greater length m starts at a number of its own
pub next_block : (w l m n : ℕ) → l < m → m ≤ w → n < 2 ^ w → network w l n ≡ n → (n + 2 ^ (w - m) < 2 ^ w) × (network w l (n + 2 ^ (w - m)) ≡ n) × (network w m (n + 2 ^ (w - m)) ≡ n + 2 ^ (w - m))
unfolding network
next_block w l m n longer within small clear =
    let k = w - m in
    let d = m - l in
    let split : w - l ≡ k + d = omega arith in
    let clear' : n / 2 ^ (k + d) * 2 ^ (k + d) ≡ n = rw (← split) clear in
    let t = n / 2 ^ (k + d) in
    let smaller : 2 ^ k < 2 ^ (k + d) = pow_below k (k + d) (omega arith) in
    let fits : n + 2 ^ k < 2 ^ w = omega (arith, block_fits w n (k + d) (omega arith) small clear', smaller) in
    let low : (t * 2 ^ (k + d) + 2 ^ k) / 2 ^ (k + d) ≡ t = div-mul-add t (2 ^ (k + d)) (2 ^ k) smaller in
    let same : n + 2 ^ k ≡ t * 2 ^ (k + d) + 2 ^ k = ap (λ x. x + 2 ^ k) (sym clear') in
    let outer : (n + 2 ^ k) / 2 ^ (k + d) * 2 ^ (k + d) ≡ n = ap (λ x. x / 2 ^ (k + d) * 2 ^ (k + d)) same ∙ ap (λ x. x * 2 ^ (k + d)) low ∙ clear' in
    let inner : (n + 2 ^ k) / 2 ^ k * 2 ^ k ≡ n + 2 ^ k = ap (λ x. x / 2 ^ k * 2 ^ k) same ∙ next_multiple t k d ∙ sym same in
    (fits, rw split outer, inner)

-- a number whose first l bits are n's has no more first bits than n and a block
pub no_next_block : (w l m n : ℕ) → l < m → m ≤ w → n < 2 ^ w → network w l n ≡ n → network w m (n + 2 ^ (w - m)) ≡ network w m n → ⊥
no_next_block w l m n longer within small clear same =
    let next = next_block w l m n longer within small clear in
    omega (arith, network_le w m n, pow_pos (w - m), next.2, same)

-- a number in the block that starts at n
pub network-within : (w l n c : ℕ) → c < 2 ^ (w - l) → network w l n ≡ n → network w l (n + c) ≡ n
unfolding network
network-within w l n c inside clear =
    let size = 2 ^ (w - l) in
    ap (λ x. (x + c) / size * size) (sym clear) ∙ ap (λ x. x * size) (div-mul-add (n / size) size c inside) ∙ clear

split_parity : (u h : ℕ) → u * h ≡ u / 2 * (2 * h) + (if u % 2 == 1 then h else 0)
split_parity u h =
    elim (cases_eq (u % 2) 1) [
      | inl one ↦
          let odd : u ≡ u / 2 * 2 + 1 = omega arith in
          rw (eq-eqb (u % 2) 1 one) (ap (λ x. x * h) odd ∙ omega arith)
      | inr other ↦
          let even : u ≡ u / 2 * 2 = omega arith in
          rw (ne_eqb (u % 2) 1 other) (ap (λ x. x * h) even ∙ omega arith)
    ]

-- one more bit of the network
pub network-next : (w l n : ℕ) → l < w → network w (l + 1) n ≡ network w l n + (if n / 2 ^ (w - 1 - l) % 2 == 1 then 2 ^ (w - 1 - l) else 0)
unfolding network
network-next w l n short =
    let k = w - 1 - l in
    let longer : w - (l + 1) ≡ k = omega arith in
    let shorter : w - l ≡ k + 1 = omega arith in
    let halved : n / 2 ^ (k + 1) ≡ n / 2 ^ k / 2 = sym (shr-shr n k 1) in
    let doubled : 2 ^ (k + 1) ≡ 2 * 2 ^ k = rw pow-add (omega arith) in
    rw (longer, shorter, halved, doubled) (split_parity (n / 2 ^ k) (2 ^ k))

-- networks of numbers are in the order of the numbers
pub network_mono : (w len m n : ℕ) → m ≤ n → network w len m ≤ network w len n
unfolding network
network_mono w len m n le = mul-le-mul_right (2 ^ (w - len)) (shr_mono (w - len) le)

-- what a shorter network leaves has no bits for a longer one to clear
pub network-shorter : (w l m n : ℕ) → l ≤ m → network w m (network w l n) ≡ network w l n
unfolding network
network-shorter w l m n shorter =
    let k = m - l - (m - w) in
    let split : w - l ≡ k + (w - m) = omega arith in
    let t = n / 2 ^ (w - l) in
    let joined : t * 2 ^ (w - l) ≡ t * 2 ^ k * 2 ^ (w - m) = ap (λ j. t * 2 ^ j) split ∙ ap (λ x. t * x) (pow-add 2 k (w - m)) ∙ omega arith in
    ap (λ x. x / 2 ^ (w - m) * 2 ^ (w - m)) joined ∙ ap (λ x. x * 2 ^ (w - m)) (shl-shr (t * 2 ^ k) (w - m)) ∙ sym joined
