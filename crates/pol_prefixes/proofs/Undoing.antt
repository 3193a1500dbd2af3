-- Prefixes that were held are released again: the rows are as before.
use Rattle.std.proofs.Common.{zero, suc, ◌≡◌, ℕ, ◌<◌, ◌≤◌, Bool, true, false, cond, List, [], ◌∷◌, ◌++◌, take, is_none, is_some, Option, None, Some, inl, inr, refl, sym, ap, ◌∙◌, arith}
use Rattle.std.specs.List.{AllByRecursion}
use Rattle.std.proofs.lemmas.Bool.{cases_lt, cond-true}
use Rattle.std.proofs.lemmas.List.Sums.{sum_by-cons}
use Rattle.pol_addr.specs.Cidr.{IsPrefix}
use Rattle.pol_addr.specs.declared.network.Prefix.{Prefix}
use Rattle.pol_addr.specs.Prefix.{same_prefix}
use Rattle.pol_model.specs.declared.limits.TheConstants.{LOCAL_FIRST, LOCAL_IDENTITIES}
use Rattle.pol_model.specs.declared.row.IdentityRow.{IdentityRow}
use Rattle.pol_model.specs.Fault.{locals_held, locals_wanted}
use Rattle.pol_model.specs.Identities.{free_number, number_released, released}
use Rattle.pol_model.specs.Prefixes.{has_prefix, number_of_prefix, prefix_held, prefix_row, prefixes_held, prefixes_released}
use Rattle.pol_model_laws.specs.Holding.{has_row}
use Rattle.pol_model_laws.specs.Keeps.{KeepsRows}
use Rattle.pol_model_laws.proofs.FoundRows.{locals-few}
use Rattle.pol_model_laws.proofs.HoldingLaws.{held_has}
use Rattle.pol_model_laws.proofs.PrefixHolders.{HasRoom, same_prefix-itself}
use Rattle.pol_model_laws.proofs.RowLaws.{prefixes_undone}
use Rattle.pol_ident.specs.Look.{number_for_prefix}
use Rattle.pol_prefixes.proofs.Numbers.{number_of_held}

-- ---- the first of the prefixes
pub held-push : (prefixes : List Prefix) (last : Prefix) (rows : List IdentityRow) → prefixes_held (prefixes ++ last ∷ []) rows ≡ prefix_held last (prefixes_held prefixes rows)
held-push [] last rows = refl
held-push (prefix ∷ others) last rows = held-push others last (prefix_held prefix rows)

fewer_wanted : (i : ℕ) (prefixes : List Prefix) (rows : List IdentityRow) → locals_wanted rows (take i prefixes) ≤ locals_wanted rows prefixes
fewer_wanted zero prefixes rows = omega arith
fewer_wanted (suc i) [] rows = omega arith
fewer_wanted (suc i) (prefix ∷ others) rows =
    omega (
      arith,
      fewer_wanted i others rows,
      sum_by-cons (λ p. cond (is_none (number_of_prefix p rows)) 1 0) prefix (take i others),
      sum_by-cons (λ p. cond (is_none (number_of_prefix p rows)) 1 0) prefix others,
    )

pub first_undone : (i : ℕ) (prefixes : List Prefix) (rows : List IdentityRow) → KeepsRows rows → AllByRecursion IsPrefix (take i prefixes) → HasRoom rows prefixes
    → prefixes_released (take i prefixes) (prefixes_held (take i prefixes) rows) ≡ rows
first_undone i prefixes rows keeps within room = prefixes_undone (take i prefixes) rows keeps within (omega (arith, room, fewer_wanted i prefixes rows))

-- ---- one prefix
pub none_is : (o : Option ℕ) → is_some o ≡ false → o ≡ None
none_is None none = refl
none_is (Some number) none = absurd cc

pub number_held : (prefix : Prefix) (rows : List IdentityRow) (number : ℕ) → number ≡ number_for_prefix prefix rows → has_row number (prefix_held prefix rows) ≡ true
number_held prefix rows number is =
    ap (λ n. has_row n (prefix_held prefix rows)) is ∙ held_has (λ row. has_prefix prefix row.prefix) (prefix_row prefix (free_number LOCAL_FIRST rows)) rows

one_at_most : (b : Bool) → cond b 1 0 ≤ 1
one_at_most true = omega arith
one_at_most false = omega arith

pub one_undone : (prefix : Prefix) (rows : List IdentityRow) (number : ℕ) → KeepsRows rows → IsPrefix prefix → number ≡ number_for_prefix prefix rows
    → (locals_held rows ≡ LOCAL_IDENTITIES → ⊥) → released number (prefix_held prefix rows) ≡ rows
one_undone prefix rows number keeps within is room =
    ap (λ o. number_released o (prefix_held prefix rows)) (sym found)
    ∙ prefixes_undone (prefix ∷ []) rows keeps (within, tt) (omega (arith, below, wanted, one_at_most (is_none (number_of_prefix prefix rows))))
  where
    found : number_of_prefix prefix (prefix_held prefix rows) ≡ Some number
    found =
        number_of_held prefix prefix rows
        ∙ cond-true (same_prefix prefix prefix) _ _ (same_prefix-itself prefix)
        ∙ ap Some (sym is)

    below : locals_held rows < LOCAL_IDENTITIES
    below = elim (cases_lt (locals_held rows) LOCAL_IDENTITIES) [
      | inl less ↦ less
      | inr all ↦ absurd (room (omega (arith, all, locals-few rows keeps)))
    ]

    wanted : locals_wanted rows (prefix ∷ []) ≡ cond (is_none (number_of_prefix prefix rows)) 1 0
    wanted = sum_by-cons (λ p. cond (is_none (number_of_prefix p rows)) 1 0) prefix [] ∙ omega arith
