-- How many nodes a tree of port prefixes has.
use Rattle.std.proofs.Common.{◌≡◌, ℕ, suc, ◌+◌, ◌-◌, ◌^◌, ◌<◌, ◌≤◌, ap, ◌∙◌, inl, inr, arith}
use Rattle.std.proofs.Math.Nat.{pow-suc}
use Rattle.std.proofs.lemmas.Nat.{pow_pos, pow_below}
use Rattle.std.proofs.lemmas.Bool.{cases_lt}
use Rattle.pol_ports.specs.PortPrefix.{end_of}
use Rattle.pol_trie.specs.Tree.{Tree, Leaf, Fork, middle, Fits, node_count}

pow_le : (a b : ℕ) → a ≤ b → 2 ^ a ≤ 2 ^ b
pow_le a b le =
    elim (cases_lt a b) [
      | inl l ↦ omega (arith, pow_below a b l)
      | inr g ↦ (let same : a ≡ b = omega arith in let e = ap (λ k. 2 ^ k) same in omega arith)
    ]

-- fewer than the prefixes that fit there
pub node_count-below : (t : Tree) (lo hi len : ℕ) → Fits t lo hi len → len ≤ 17 → node_count t < 2 ^ (17 - len)
node_count-below Leaf lo hi len fits short = pow_pos (17 - len)
node_count-below (Fork p kind low high) lo hi len fits short =
    let s = p.short in
    let l = fits.0.2 in
    let a = node_count-below low p.bits (middle p) (p.len + 1) fits.1 (omega arith) in
    let b = node_count-below high (middle p) (end_of p) (p.len + 1) fits.2 (omega arith) in
    let e : 17 - p.len ≡ suc (17 - (p.len + 1)) = omega arith in
    let twice = ap (λ k. 2 ^ k) e ∙ pow-suc 2 (17 - (p.len + 1)) in
    let more = pow_le (17 - p.len) (17 - len) (omega arith) in
    omega arith
