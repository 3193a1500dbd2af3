-- Which half of a prefix another lies in.
use Rattle.pol_addr.proofs.ByFamily.{family_of-later}
use Rattle.std.proofs.Common.{◌∙◌, ◌≡◌, ◌<◌, ◌≤◌, Bool, true, false, not, refl, ◌⊎◌, inl, inr, arith}
use Rattle.pol_addr.specs.declared.network.Prefix.{Prefix}
use Rattle.pol_addr.specs.Address.{family_of}
use Rattle.pol_addr.specs.Cidr.{IsPrefix}
use Rattle.pol_addr.specs.Prefix.{bit_of, half, covers}
use Rattle.pol_addr.proofs.Containment.{covers-family, covers-parts, covers_half, covers_from_half, halves_apart}

-- two bits are the same, or one is the other turned
pub cases_side : (d high : Bool) → (d ≡ high) ⊎ (d ≡ not high)
cases_side true true = inl refl
cases_side true false = inr refl
cases_side false true = inr refl
cases_side false false = inl refl

pub same_half : (p q : Prefix) (d e : Bool) → covers (half p d) q ≡ true → covers (half p e) q ≡ true → d ≡ e
same_half p q true true over over' = refl
same_half p q true false over over' = absurd (halves_apart p q over over')
same_half p q false true over over' = absurd (halves_apart p q over' over)
same_half p q false false over over' = refl

pub not_both : (p q : Prefix) (high : Bool) → covers (half p high) q ≡ true → covers (half p (not high)) q ≡ true → ⊥
not_both p q true over over' = halves_apart p q over over'
not_both p q false over over' = halves_apart p q over' over

-- what lies in a half of a prefix is of its family
pub half-family : (p q : Prefix) (high : Bool) → covers (half p high) q ≡ true → family_of q.addr ≡ family_of p.addr
half-family p q high over = covers-family (half p high) q over ∙ family_of-later _ p.addr

-- a half of a prefix does not cover the prefix
pub half_no_cover : (p : Prefix) (d : Bool) → IsPrefix p → covers (half p d) p ≡ true → ⊥
half_no_cover p d valid over = let (_, shorter) = covers_from_half p p d valid valid over in omega arith

pub covers_len : (p q : Prefix) → covers p q ≡ true → p.len ≤ q.len
covers_len p q over = (covers-parts p q over).0

-- the half that a longer prefix lies in
pub half_over : (p q : Prefix) → IsPrefix q → covers p q ≡ true → p.len < q.len → (d : Bool) × (covers (half p d) q ≡ true)
half_over p q valid over longer = (bit_of q p.len, covers_half p q valid over longer)

-- the same, of equal prefixes
pub half_moved : (p p' q q' : Prefix) (d d' : Bool) → p' ≡ p → d' ≡ d → q' ≡ q → covers (half p d) q ≡ true → covers (half p' d') q' ≡ true
half_moved p p' q q' d d' same_p same_d same_q over = rw (same_p, same_d, same_q) over

pub covers_moved : (p p' q q' : Prefix) → p' ≡ p → q' ≡ q → covers p q ≡ true → covers p' q' ≡ true
covers_moved p p' q q' same_p same_q over = rw (same_p, same_q) over

pub not_itself : (b : Bool) → not b ≡ b → ⊥
not_itself true e = cc
not_itself false e = cc
