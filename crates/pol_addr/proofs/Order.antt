-- The order of prefixes: it is total, only a prefix ties with itself, and the derived order is it.
use Rattle.std.proofs.Common.{◌≡◌, ◌≢◌, ℕ, List, Bool, true, false, refl, sym, ap, ◌∙◌, ◌⊎◌, inl, inr, get_or, rules}
use Rattle.std.specs.declared.cmp.Ordering.{Ordering}
use Rattle.std.specs.declared.cmp.Ordering.TheVariants.{Less, Equal, Greater}
use Rattle.std.specs.Ordering.{is_eq, eq_by_cmp}
use Rattle.std.specs.Cmp.{IsTotalOrder, tied_itself}
use Rattle.std.specs.Cmp.Lexicographic.{on_texts}
use Rattle.std.specs.FinMap.{IsAntisymmetric, slice_cmp-IsAntisymmetric, nat_cmp-IsAntisymmetric}
use Rattle.pol_addr.specs.Address.{Addr, V4, V6}
use Rattle.pol_addr.specs.declared.network.Prefix.{Prefix}
use Rattle.pol_addr.specs.Order.{parts_of, prefix_cmp, ranked, ranked-parts}
use Rattle.pol_addr.specs.contracts.network.PrefixOrd.TheImpl as prefix_ord

pub prefix_cmp_total : IsTotalOrder prefix_cmp
prefix_cmp_total = on_texts parts_of

-- the prefix of these parts
abbrev of_parts : List ℕ → Prefix
of_parts parts = record { addr = ranked (get_or parts 0 0) (get_or parts 1 0); len = get_or parts 2 0 }

of_parts-parts : (p : Prefix) → of_parts (parts_of p) ≡ p
of_parts-parts p i = record { addr = ranked-parts p.addr i; len = p.len }

pub prefix_cmp-IsAntisymmetric : IsAntisymmetric prefix_cmp
prefix_cmp-IsAntisymmetric p q tied =
    let same = slice_cmp-IsAntisymmetric nat_cmp-IsAntisymmetric (parts_of p) (parts_of q) tied in
    sym (of_parts-parts p) ∙ ap of_parts same ∙ of_parts-parts q

Equal_from_test : (r : Ordering) → is_eq r ≡ true → r ≡ Equal
Equal_from_test Less e = cc
Equal_from_test Equal e = refl
Equal_from_test Greater e = cc

pub tied_same : (p q : Prefix) → p ≡ q → eq_by_cmp prefix_cmp p q ≡ true
tied_same p q same = ap (eq_by_cmp prefix_cmp p) (sym same) ∙ ap is_eq (tied_itself prefix_cmp_total p)

pub same_tied : (p q : Prefix) → eq_by_cmp prefix_cmp p q ≡ true → p ≡ q
same_tied p q tied = prefix_cmp-IsAntisymmetric p q (Equal_from_test (prefix_cmp p q) tied)

pub not_tied : (p q : Prefix) → p ≢ q → eq_by_cmp prefix_cmp p q ≡ false
not_tied p q differs = go (eq_by_cmp prefix_cmp p q) refl
  where
    go : (b : Bool) → eq_by_cmp prefix_cmp p q ≡ b → b ≡ false
    go true is = absurd (differs (same_tied p q is))
    go false is = refl

-- two prefixes are one or differ
pub cases_same : (p q : Prefix) → (p ≡ q) ⊎ (p ≢ q)
cases_same p q = go (eq_by_cmp prefix_cmp p q) refl
  where
    go : (b : Bool) → eq_by_cmp prefix_cmp p q ≡ b → (p ≡ q) ⊎ (p ≢ q)
    go true is = inl (same_tied p q is)
    go false is = inr (λ same. absurd (cc (tied_same p q same)))

cmp_by_family : (a b : Addr) (l m : ℕ) → prefix_ord.ghosts.cmp (record { addr = a; len = l }) (record { addr = b; len = m }) ≡ prefix_cmp (record { addr = a; len = l }) (record { addr = b; len = m })
cmp_by_family (V4 a) (V4 b) l m = search rules
cmp_by_family (V4 a) (V6 b) l m = search rules
cmp_by_family (V6 a) (V4 b) l m = search rules
cmp_by_family (V6 a) (V6 b) l m = search rules

pub cmp-prefix_cmp : (p q : Prefix) → prefix_ord.ghosts.cmp p q ≡ prefix_cmp p q
cmp-prefix_cmp p q = cmp_by_family p.addr q.addr p.len q.len
