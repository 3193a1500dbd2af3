-- The table that is shared, as prefixes are held and released.
use Rattle.std.proofs.Common.{◌≡◌, ℕ, ◌+◌, ◌<◌, ◌≤◌, ◌&&◌, ◌||◌, ◌==◌, Bool, true, false, not, cond, is_none, drop, get_or, length, List, [], ◌∷◌, Option, None, Some, IfSome, refl, sym, ap, subst, ◌∙◌, inl, inr, arith}
use Rattle.std.specs.FinMap as map
use Rattle.std.specs.List.{list_any}
use Rattle.std.proofs.lemmas.Bool.{cases_Bool, cond-false, cond-true, both_ways, eqb-true, false≢true, or_parts}
use Rattle.std.proofs.lemmas.List.{drop_all, drop_more}
use Rattle.pol_addr.specs.declared.network.Prefix.{Prefix}
use Rattle.pol_addr.specs.Prefix.{same_prefix}
use Rattle.pol_model.specs.declared.row.IdentityRow.{IdentityRow}
use Rattle.pol_model.specs.Identities.{number_released}
use Rattle.pol_model.specs.Prefixes.{number_of_prefix, prefix_held, prefix_released, prefixes_held, prefixes_released}
use Rattle.pol_model_laws.specs.Holding.{has_row, IsPartOf}
use Rattle.pol_model_laws.specs.Keeps.{KeepsRows}
use Rattle.pol_model_laws.proofs.Ledger.{same_prefix-is}
use Rattle.pol_model_laws.proofs.Membership.{In-list_any, list_any-In}
use Rattle.pol_model_laws.proofs.Parts.{part-prefixes_held, part-prefixes_released}
use Rattle.pol_model_laws.proofs.RowLaws.{keep_prefixes_released, keep_released}
use Rattle.pol_prefix_table.specs.Table.{PrefixMap}
use Rattle.pol_prefixes.specs.Beyond.{AreBeyond}
use Rattle.pol_prefixes.specs.Tables.{IsTableOf}
use Rattle.pol_prefixes.proofs.Numbers.{if_there, number_has, number_in_part, number_of_held, number_of_released, some_is_none}
use Rattle.pol_prefixes.proofs.Tables.{get_with, get_without}
use Rattle.pol_allocator.specs.Sharing.{IsRenewedAt, IsTableBut, IsWithoutGone, is_gone, is_of}

-- what a table is, where one is there
pub each_some : {T : Type 0} {P Q : T → Type 0} (o : Option T) → ((x : T) → P x → Q x) → IfSome o P → IfSome o Q
each_some None to is = is
each_some (Some x) to is = to x is

-- ---- a walk over prefixes: the table may differ where those that are left say
module _ (but : List Prefix → Prefix → Bool) (rows : List IdentityRow) (prefixes : List Prefix) (i : ℕ) (table : PrefixMap) where
  -- the next prefix is the first of them
  pub at_next : (prefix : Prefix) → i < length prefixes → get_or prefixes i prefix ≡ prefix → IsTableBut (but (drop i prefixes)) rows table → IsTableBut (but (prefix ∷ drop (i + 1) prefixes)) rows table
  at_next prefix within is = subst (λ ps. IsTableBut (but ps) rows table) (drop_more prefixes i prefix within ∙ ap (λ p. p ∷ drop (i + 1) prefixes) is)

  -- where none is left, the table is that of the rows
  pub at_end : ((own : Prefix) → but [] own ≡ false) → length prefixes ≤ i → IsTableBut (but (drop i prefixes)) rows table → IsTableOf rows table
  at_end never past all own = subst (λ ps. IsTableBut (but ps) rows table) (drop_all i prefixes past) all own (never own)

-- ---- one prefix
module _ (prefix : Prefix) (rows : List IdentityRow) where
  -- equal prefixes have one number
  same_number : (own : Prefix) → same_prefix own prefix ≡ true → number_of_prefix prefix rows ≡ number_of_prefix own rows
  same_number own same = ap (λ p. number_of_prefix p rows) (sym (same_prefix-is own prefix same))

  pub renewed_with : (table : PrefixMap) (number : ℕ) → Some number ≡ number_of_prefix prefix rows → IsRenewedAt prefix rows table (map.insert table prefix number)
  renewed_with table number is own = get_with table prefix own number ∙ ap (λ o. cond (same_prefix own prefix) o (map.get table own)) is

  pub renewed_without : (table : PrefixMap) → None ≡ number_of_prefix prefix rows → IsRenewedAt prefix rows table (map.remove table prefix)
  renewed_without table is own = get_without table prefix own ∙ ap (λ o. cond (same_prefix own prefix) o (map.get table own)) is

  pub gone_without : (table : PrefixMap) → is_none (number_of_prefix prefix rows) ≡ true → IsWithoutGone prefix rows table (map.remove table prefix)
  gone_without table none own = get_without table prefix own ∙ by (same_prefix own prefix) refl
    where
      by : (b : Bool) → same_prefix own prefix ≡ b → cond b None (map.get table own) ≡ cond (b && is_none (number_of_prefix own rows)) None (map.get table own)
      by true same = sym (cond-true (is_none (number_of_prefix own rows)) None (map.get table own) (ap is_none (sym (same_number own same)) ∙ none))
      by false other = refl

  pub kept_with : (table : PrefixMap) → is_none (number_of_prefix prefix rows) ≡ false → IsWithoutGone prefix rows table table
  kept_with table some own = by (same_prefix own prefix) refl
    where
      by : (b : Bool) → same_prefix own prefix ≡ b → map.get table own ≡ cond (b && is_none (number_of_prefix own rows)) None (map.get table own)
      by true same = sym (cond-false (is_none (number_of_prefix own rows)) None (map.get table own) (ap is_none (sym (same_number own same)) ∙ some))
      by false other = refl

  -- one prefix fewer at which the table may differ
  module _ (prefixes : List Prefix) (old new : PrefixMap) where
    pub renewed_less : IsTableBut (is_of (prefix ∷ prefixes)) rows old → IsRenewedAt prefix rows old new → IsTableBut (is_of prefixes) rows new
    renewed_less but renewed own out = by (same_prefix own prefix) refl (renewed own) (but own)
      where
        by : (b : Bool) → same_prefix own prefix ≡ b → map.get new own ≡ cond b (number_of_prefix prefix rows) (map.get old own)
            → ((b || is_of prefixes own) ≡ false → map.get old own ≡ number_of_prefix own rows) → map.get new own ≡ number_of_prefix own rows
        by true same is before = is ∙ same_number own same
        by false other is before = is ∙ before out

    pub gone_less : IsTableBut (is_gone (prefix ∷ prefixes) rows) rows old → IsWithoutGone prefix rows old new → IsTableBut (is_gone prefixes rows) rows new
    gone_less but without own out = by (same_prefix own prefix) (number_of_prefix own rows) (without own) (but own) out
      where
        by : (b : Bool) (o : Option ℕ) → map.get new own ≡ cond (b && is_none o) None (map.get old own)
            → (((b || is_of prefixes own) && is_none o) ≡ false → map.get old own ≡ o) → (is_of prefixes own && is_none o) ≡ false → map.get new own ≡ o
        by true None is before out = is
        by true (Some number) is before out = is ∙ before refl
        by false o is before out = is ∙ before out

-- where each of these has a number, the table is that of the rows
pub none_gone : (prefixes : List Prefix) (rows : List IdentityRow) (table : PrefixMap) → list_any (λ prefix. is_none (number_of_prefix prefix rows)) prefixes ≡ false
    → IsTableBut (is_gone prefixes rows) rows table → IsTableOf rows table
none_gone prefixes rows table some but own = but own (by (is_of prefixes own) refl (is_none (number_of_prefix own rows)) refl)
  where
    by : (b : Bool) → is_of prefixes own ≡ b → (c : Bool) → is_none (number_of_prefix own rows) ≡ c → (b && c) ≡ false
    by false out c is = refl
    by true among false is = refl
    by true among true is =
        let one = In-list_any (same_prefix own) prefixes among in
        let none = ap (λ p. is_none (number_of_prefix p rows)) (sym (same_prefix-is own one.0 one.2)) ∙ is in
        absurd (both_ways (list_any (λ prefix. is_none (number_of_prefix prefix rows)) prefixes) some (list_any-In (λ prefix. is_none (number_of_prefix prefix rows)) one.0 prefixes one.1 none))

-- ---- prefixes that are held
others_held : (own : Prefix) (prefixes : List Prefix) (rows : List IdentityRow) → is_of prefixes own ≡ false → number_of_prefix own (prefixes_held prefixes rows) ≡ number_of_prefix own rows
others_held own [] rows out = refl
others_held own (prefix ∷ others) rows out =
    let parts = or_parts (same_prefix own prefix) (is_of others own) out in
    others_held own others (prefix_held prefix rows) parts.1
    ∙ number_of_held prefix own rows
    ∙ cond-false (same_prefix own prefix) _ _ parts.0

module _ (prefixes : List Prefix) (rows more : List IdentityRow) (is : more ≡ prefixes_held prefixes rows) (table : PrefixMap) where
  pub held_but : IsTableOf rows table → IsTableBut (is_of prefixes) more table
  held_but all own out = all own ∙ sym (ap (number_of_prefix own) is ∙ others_held own prefixes rows out)

  -- where no number came, the table is that of the rows still
  pub none_came : (come : List ℕ) → KeepsRows rows → KeepsRows more → AreBeyond rows more come → (length come == 0) ≡ true → IsTableOf rows table → IsTableOf more table
  none_came (number ∷ come) keeps keeps_more beyond none all own = absurd (omega (arith, eqb-true (length (number ∷ come)) 0 none))
  none_came [] keeps keeps_more beyond none all own =
      all own ∙ number_in_part rows more (subst (IsPartOf rows) (sym is) (part-prefixes_held prefixes rows keeps.numbers)) keeps keeps_more own ∙ there (number_of_prefix own more) refl
    where
      before : (number : ℕ) → has_row number more ≡ true → has_row number rows ≡ true
      before number has =
          elim (cases_Bool (has_row number rows)) [
            | inl was ↦ was
            | inr new ↦ absurd (false≢true (beyond number ∙ (λ i. has i && not (new i))))
          ]

      there : (o : Option ℕ) → number_of_prefix own more ≡ o → if_there rows o ≡ o
      there None at = refl
      there (Some number) at = cond-true (has_row number rows) _ _ (before number (number_has own more number at))

-- ---- prefixes that are released
others_released : (own : Prefix) (prefixes : List Prefix) (rows : List IdentityRow) → KeepsRows rows → is_of prefixes own ≡ false → number_of_prefix own (prefixes_released prefixes rows) ≡ number_of_prefix own rows
others_released own [] rows keeps out = refl
others_released own (prefix ∷ others) rows keeps out =
    let parts = or_parts (same_prefix own prefix) (is_of others own) out in
    others_released own others (prefix_released prefix rows) (keep_released (number_of_prefix prefix rows) rows keeps) parts.1
    ∙ one (number_of_prefix prefix rows) refl parts.0
  where
    one : (o : Option ℕ) → number_of_prefix prefix rows ≡ o → same_prefix own prefix ≡ false → number_of_prefix own (number_released o rows) ≡ number_of_prefix own rows
    one None at other = refl
    one (Some number) at other = number_of_released rows keeps number prefix at own ∙ cond-false (same_prefix own prefix) _ _ other

pub released_but : (prefixes : List Prefix) (rows left : List IdentityRow) → left ≡ prefixes_released prefixes rows → (table : PrefixMap) → KeepsRows rows → IsTableOf rows table
    → IsTableBut (is_gone prefixes left) left table
released_but prefixes rows left is table keeps all own out = all own ∙ by (number_of_prefix own left) refl (is_of prefixes own) refl out
  where
    part : IsPartOf left rows
    part = subst (λ l. IsPartOf l rows) (sym is) (part-prefixes_released prefixes rows keeps.numbers)

    keeps_left : KeepsRows left
    keeps_left = subst KeepsRows (sym is) (keep_prefixes_released prefixes rows keeps)

    -- a number that is left was there
    was : (number : ℕ) (o : Option ℕ) → Some number ≡ if_there left o → o ≡ Some number
    was number None has = absurd (some_is_none has)
    was number (Some other) has =
        elim (cases_Bool (has_row other left)) [
          | inl stays ↦ sym (has ∙ cond-true (has_row other left) _ _ stays)
          | inr goes ↦ absurd (some_is_none (has ∙ cond-false (has_row other left) _ _ goes))
        ]

    by : (o : Option ℕ) → number_of_prefix own left ≡ o → (b : Bool) → is_of prefixes own ≡ b → (b && is_none (number_of_prefix own left)) ≡ false → number_of_prefix own rows ≡ number_of_prefix own left
    by (Some number) at b among out = was number (number_of_prefix own rows) (sym at ∙ number_in_part left rows part keeps_left keeps own) ∙ sym at
    by None at true among out = absurd (both_ways (is_none (number_of_prefix own left)) out (ap is_none at))
    by None at false among out = sym (ap (number_of_prefix own) is ∙ others_released own prefixes rows keeps among)
