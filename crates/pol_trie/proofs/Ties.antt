-- What is tied by an order is the same.
use Rattle.std.proofs.Common.{◌≡◌, true, false, refl, sym, ap, ◌∙◌, inl, inr}
use Rattle.std.proofs.lemmas.Bool.{cases_Bool, both_ways}
use Rattle.std.proofs.lemmas.Cmp.{tied_itself}
use Rattle.std.specs.Cmp.{IsTotalOrder}
use Rattle.std.specs.FinMap.{IsAntisymmetric}
use Rattle.std.specs.Ordering.{is_eq, eq_by_cmp}
use Rattle.std.specs.declared.cmp.Ordering.{Ordering}
use Rattle.std.specs.declared.cmp.Ordering.TheVariants.{Less, Equal, Greater}
use Rattle.pol_ports.specs.PortPrefix.{same_prefix, prefix_cmp}
use Rattle.pol_ports.specs.declared.PortPrefix.{PortPrefix}
use Rattle.pol_ports.proofs.Same.{same_prefix-is}
use Rattle.pol_mapkey.proofs.KeyOrder.{prefix_cmp_total, prefix_cmp-same}
use Rattle.pol_trie.proofs.Prefixes.{same_from}

equal_from : (r : Ordering) → is_eq r ≡ true → r ≡ Equal
equal_from Less e = cc
equal_from Equal e = refl
equal_from Greater e = cc

-- two ties are told from each other by equality
module _ {K : Type 0} (R : K → K → Ordering) (total : IsTotalOrder R) (same : IsAntisymmetric R) where
  pub tied_from : (a b : K) → a ≡ b → eq_by_cmp R a b ≡ true
  tied_from a b e = ap (eq_by_cmp R a) (sym e) ∙ ap is_eq (tied_itself total a)

  pub tied_is : (a b : K) → eq_by_cmp R a b ≡ true → a ≡ b
  tied_is a b e = same a b (equal_from (R a b) e)

  pub untied_from : (a b : K) → (a ≡ b → ⊥) → eq_by_cmp R a b ≡ false
  untied_from a b differs = elim (cases_Bool (eq_by_cmp R a b)) [ inl t ↦ absurd (differs (tied_is a b t)) | inr f ↦ f ]

-- a tie of prefixes is the test of sameness
pub tied_prefixes : (p q : PortPrefix) → eq_by_cmp prefix_cmp q p ≡ same_prefix p q
tied_prefixes p q =
    elim (cases_Bool (same_prefix p q)) [
      | inl t ↦ tied_from prefix_cmp prefix_cmp_total prefix_cmp-same q p (sym (same_prefix-is p q t)) ∙ sym t
      | inr f ↦ untied_from prefix_cmp prefix_cmp_total prefix_cmp-same q p (λ e. both_ways (same_prefix p q) f (same_from p q (sym e))) ∙ sym f
    ]
