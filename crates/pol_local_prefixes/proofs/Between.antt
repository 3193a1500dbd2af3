-- What lies in a prefix stands together in the order of prefixes, beginning with the prefix itself.
use Rattle.std.proofs.Common.{ℕ, ◌≡◌, ◌<◌, ◌≤◌, true, refl, sym, ap, ◌∙◌, ◌⊎◌, inl, inr, arith, [], ◌∷◌}
use Rattle.std.specs.Ordering.{is_le, nat_cmp}
use Rattle.std.specs.Cmp.Lexicographic.{slice_cmp}
use Rattle.std.proofs.lemmas.Bool.{cases_lt}
use Rattle.pol_addr.specs.declared.family.Family.{Family}
use Rattle.pol_addr.specs.declared.family.Family.TheVariants.{Ipv4, Ipv6}
use Rattle.pol_addr.specs.declared.address.Addr.{Addr}
use Rattle.pol_addr.specs.Address.{bits_of, family_of}
use Rattle.pol_addr.specs.declared.network.Prefix.{Prefix}
use Rattle.pol_addr.specs.Cidr.{cleared}
use Rattle.pol_addr.specs.Order.{prefix_cmp, rank}
use Rattle.pol_addr.specs.Prefix.{contains, covers}
use Rattle.pol_addr.specs.contracts.network.PrefixOrd.TheImpl as prefix_ord
use Rattle.pol_addr.proofs.ByFamily.{cleared-cleared, cleared-shorter, cleared_le, cleared_mono, family_of-cleared, same_from_bits}
use Rattle.pol_addr.proofs.Containment.{contains-addr, contains_from, covers-family, covers-parts}
use Rattle.pol_addr.proofs.Order.{cmp-prefix_cmp}

-- the derived order is that of the definitions
pub same_order : prefix_ord.ghosts.cmp ≡ prefix_cmp
same_order i p q = cmp-prefix_cmp p q i

-- ---- the order by its parts
abbrev pub PairStands : ℕ → ℕ → ℕ → ℕ → Type 0
PairStands a c b d = (a < b) ⊎ ((a ≡ b) × (c ≤ d))

pair_le : (a c b d : ℕ) → is_le (slice_cmp nat_cmp (a ∷ c ∷ []) (b ∷ d ∷ [])) ≡ true → PairStands a c b d
pair_le a c b d le =
    elim (cases_lt a b) [
      | inl less ↦ inl less
      | inr more ↦ elim (cases_lt b a) [
        | inl other ↦ absurd (by_first other le)
        | inr same ↦ inr (omega (arith, more, same), by_second (omega (arith, more, same)) le)
      ]
    ]
  where
    by_first : b < a → is_le (slice_cmp nat_cmp (a ∷ c ∷ []) (b ∷ d ∷ [])) ≡ true → ⊥
    by_first other le = grind arith

    by_second : a ≡ b → is_le (slice_cmp nat_cmp (a ∷ c ∷ []) (b ∷ d ∷ [])) ≡ true → c ≤ d
    by_second same le = grind arith

abbrev pub StandsBy : ℕ → ℕ → ℕ → ℕ → ℕ → ℕ → Type 0
StandsBy f a c g b d = (f < g) ⊎ ((f ≡ g) × PairStands a c b d)

triple_le : (f a c g b d : ℕ) → is_le (slice_cmp nat_cmp (f ∷ a ∷ c ∷ []) (g ∷ b ∷ d ∷ [])) ≡ true → StandsBy f a c g b d
triple_le f a c g b d le =
    elim (cases_lt f g) [
      | inl less ↦ inl less
      | inr more ↦ elim (cases_lt g f) [
        | inl other ↦ absurd (by_first other le)
        | inr same ↦ inr (omega (arith, more, same), pair_le a c b d (by_rest (omega (arith, more, same)) le))
      ]
    ]
  where
    by_first : g < f → is_le (slice_cmp nat_cmp (f ∷ a ∷ c ∷ []) (g ∷ b ∷ d ∷ [])) ≡ true → ⊥
    by_first other le = grind arith

    by_rest : f ≡ g → is_le (slice_cmp nat_cmp (f ∷ a ∷ c ∷ []) (g ∷ b ∷ d ∷ [])) ≡ true → is_le (slice_cmp nat_cmp (a ∷ c ∷ []) (b ∷ d ∷ [])) ≡ true
    by_rest same le = grind arith

le_triple : (f a c g b d : ℕ) → f ≡ g → PairStands a c b d → is_le (slice_cmp nat_cmp (f ∷ a ∷ c ∷ []) (g ∷ b ∷ d ∷ [])) ≡ true
le_triple f a c g b d same (inl less) = grind arith
le_triple f a c g b d same (inr equal) = let first : a ≡ b = equal.0 in let second : c ≤ d = equal.1 in grind arith

pub le-parts : (p q : Prefix) → is_le (prefix_cmp p q) ≡ true → StandsBy (rank (family_of p.addr)) (bits_of p.addr) p.len (rank (family_of q.addr)) (bits_of q.addr) q.len
le-parts p q le = triple_le (rank (family_of p.addr)) (bits_of p.addr) p.len (rank (family_of q.addr)) (bits_of q.addr) q.len le

-- what stands behind a prefix of its family has its bits or more
bits_le : (p q : Prefix) → family_of p.addr ≡ family_of q.addr → is_le (prefix_cmp p q) ≡ true → bits_of p.addr ≤ bits_of q.addr
bits_le p q same le =
    elim (le-parts p q le) [
      | inl less ↦ absurd (omega (arith, less, ap rank same))
      | inr equal ↦ elim equal.1 [ inl less ↦ omega (arith, less) | inr one ↦ omega (arith, one.0) ]
    ]

-- and is as long or longer where it has the same bits
len_le : (p q : Prefix) → p.addr ≡ q.addr → is_le (prefix_cmp p q) ≡ true → p.len ≤ q.len
len_le p q same le =
    elim (le-parts p q le) [
      | inl less ↦ absurd (omega (arith, less, ap (λ a. rank (family_of a)) same))
      | inr equal ↦ elim equal.1 [ inl less ↦ absurd (omega (arith, less, ap bits_of same)) | inr one ↦ one.1 ]
    ]

rank_le : (p q : Prefix) → is_le (prefix_cmp p q) ≡ true → rank (family_of p.addr) ≤ rank (family_of q.addr)
rank_le p q le = elim (le-parts p q le) [ inl less ↦ omega (arith, less) | inr equal ↦ omega (arith, equal.0) ]

rank_tells : (f g : Family) → rank f ≡ rank g → f ≡ g
rank_tells Ipv4 Ipv4 same = refl
rank_tells Ipv4 Ipv6 same = absurd (omega (arith, same))
rank_tells Ipv6 Ipv4 same = absurd (omega (arith, same))
rank_tells Ipv6 Ipv6 same = refl

-- ---- what lies in a prefix
-- a prefix stands before what lies in it
pub le_from_covers : (w p : Prefix) → covers w p ≡ true → is_le (prefix_cmp w p) ≡ true
le_from_covers w p over =
    let (short, addr) = covers-parts w p over in
    let family = ap rank (sym (covers-family w p over)) in
    let below : bits_of w.addr ≤ bits_of p.addr = omega (arith, ap bits_of addr, cleared_le w.len p.addr) in
    le_triple (rank (family_of w.addr)) (bits_of w.addr) w.len (rank (family_of p.addr)) (bits_of p.addr) p.len family
    (elim (cases_lt (bits_of w.addr) (bits_of p.addr)) as (λ _. PairStands (bits_of w.addr) w.len (bits_of p.addr) p.len) [ inl less ↦ inl less | inr more ↦ inr (omega (arith, below, more), short) ])

-- what stands between a prefix and one that lies in it is of the same family
family_between : (w q p : Prefix) → is_le (prefix_cmp w q) ≡ true → is_le (prefix_cmp q p) ≡ true → covers w p ≡ true → family_of q.addr ≡ family_of w.addr
family_between w q p after before over =
    rank_tells (family_of q.addr) (family_of w.addr) (omega (arith, rank_le w q after, rank_le q p before, ap rank (covers-family w p over)))

-- whatever stands between a prefix and one that lies in it lies in it too
pub contains_between : (w q p : Prefix) → is_le (prefix_cmp w q) ≡ true → is_le (prefix_cmp q p) ≡ true → covers w p ≡ true → (addr : Addr) → contains q addr ≡ true → contains w addr ≡ true
contains_between w q p after before over addr within =
    let (short, inner) = covers-parts w p over in
    let own_family = family_between w q p after before over in
    let last_family = covers-family w p over in
    let clear : cleared w.len w.addr ≡ w.addr = ap (cleared w.len) (sym inner) ∙ cleared-cleared w.len w.len p.addr (omega arith) ∙ inner in
    let low = cleared_mono w.len w.addr q.addr (sym own_family) (bits_le w q (sym own_family) after) in
    let high = cleared_mono w.len q.addr p.addr (own_family ∙ sym last_family) (bits_le q p (own_family ∙ sym last_family) before) in
    let inside : cleared w.len q.addr ≡ w.addr = same_from_bits _ _ (family_of-cleared w.len q.addr ∙ own_family) (omega (arith, low, high, ap bits_of clear, ap bits_of inner)) in
    let first = contains-addr q addr within in
    elim (cases_lt q.len w.len) [
      | inl longer ↦
          let own : cleared w.len q.addr ≡ q.addr = ap (cleared w.len) (sym first) ∙ cleared-shorter q.len w.len addr (omega (arith, longer)) ∙ first in
          absurd (omega (arith, longer, len_le w q (sym inside ∙ own) after))
      | inr shorter ↦ contains_from w addr (sym (cleared-cleared w.len q.len addr shorter) ∙ ap (cleared w.len) first ∙ inside)
    ]
