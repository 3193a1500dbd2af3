-- The numbers that names hold, as one name comes or goes.
use Rattle.std.proofs.Common.{◌≡◌, ℕ, true, false, cond, List, [], ◌∷◌, ◌++◌, Option, None, Some, option_map, inl, inr, refl, sym, ap, ◌∙◌}
use Rattle.std.specs.Map.{lookup}
use Rattle.std.specs.Option.{option_or}
use Rattle.std.specs.Str.{bytes_eq}
use Rattle.std.specs.String.{string_bytes}
use Rattle.std.specs.declared.string.String.{String}
use Rattle.std.specs.Cmp.Lexicographic.{bytes_decides}
use Rattle.std.proofs.lemmas.Bool.{cases_Bool}
use Rattle.std.proofs.lemmas.List.Folds.{find-append}
use Rattle.pol_model.specs.declared.row.NamedIdentity.{NamedIdentity}
use Rattle.pol_model.specs.Endpoints.{named_of, without_named}
use Rattle.pol_tables.specs.Tables.{SameNumbers, number_named}
use Rattle.pol_tables.specs.Tied.{named_in}
use Rattle.pol_tables.proofs.Deciding.{turned}
use Rattle.pol_tables.proofs.Entries.{find-kept, find-left}

module _ {A : Type 0} where
  pub number_found : (name : List ℕ) (es : List (String A × ℕ)) → number_named name (named_in es) ≡ lookup (λ key. bytes_eq name (string_bytes key)) es
  number_found name [] = refl
  number_found name (e ∷ es) = rw (turned bytes_decides bytes_decides (string_bytes e.0) name) (
      elim (bytes_eq name (string_bytes e.0)) as (λ b. option_map (λ (i : NamedIdentity). i.number) (cond b (Some (record { name = string_bytes e.0; number = e.1 })) (named_of name (named_in es))) ≡ cond b (Some e.1) (lookup (λ key. bytes_eq name (string_bytes key)) es)) [
        | true ↦ refl
        | false ↦ number_found name es
      ])

  pub named_push : (es : List (String A × ℕ)) (e : String A × ℕ) → named_in (es ++ e ∷ []) ≡ named_in es ++ record { name = string_bytes e.0; number = e.1 } ∷ []
  named_push [] e = refl
  named_push (f ∷ es) e = ap (λ rest. record { name = string_bytes f.0; number = f.1 } ∷ rest) (named_push es e)

-- a name that was taken out holds nothing, and each other what it held
pub number_without : (name other : List ℕ) (named : List NamedIdentity) → number_named other (without_named name named) ≡ cond (bytes_eq name other) None (number_named other named)
number_without name other named =
    elim (cases_Bool (bytes_eq name other)) [
      | inl same ↦
          let is = (bytes_decides name other).0 same in
          let left : number_named name (without_named name named) ≡ None = ap (option_map (λ i. i.number)) (find-left (λ (i : NamedIdentity). bytes_eq i.name name) named) in
          ap (λ n. number_named n (without_named name named)) (sym is) ∙ left ∙ sym (ap (λ b. cond b None (number_named other named)) same)
      | inr differ ↦
          ap (option_map (λ i. i.number)) (find-kept (λ (i : NamedIdentity). bytes_eq i.name name) (λ i. bytes_eq i.name other) named (λ i there passes.
          let its = (bytes_decides i.name name).0 passes in
          ap (λ n. bytes_eq n other) its ∙ differ))
          ∙ sym (ap (λ b. cond b None (number_named other named)) differ)
    ]

-- ---- two lists in which each name holds the same
pub same-without : (name : List ℕ) (one other : List NamedIdentity) → SameNumbers one other → SameNumbers (without_named name one) (without_named name other)
same-without name one other same n =
    number_without name n one ∙ ap (λ o. cond (bytes_eq name n) None o) (same n) ∙ sym (number_without name n other)

mapped_or : (a b : Option NamedIdentity) → option_map (λ i. i.number) (option_or a b) ≡ option_or (option_map (λ i. i.number) a) (option_map (λ i. i.number) b)
mapped_or None b = refl
mapped_or (Some i) b = refl

number_push : (name : List ℕ) (named : List NamedIdentity) (identity : NamedIdentity) → number_named name (named ++ identity ∷ []) ≡ option_or (number_named name named) (number_named name (identity ∷ []))
number_push name named identity =
    ap (option_map (λ i. i.number)) (find-append (λ (i : NamedIdentity). bytes_eq i.name name) named (identity ∷ []))
    ∙ mapped_or (named_of name named) (named_of name (identity ∷ []))

pub same-push : (identity : NamedIdentity) (one other : List NamedIdentity) → SameNumbers one other → SameNumbers (one ++ identity ∷ []) (other ++ identity ∷ [])
same-push identity one other same n =
    number_push n one identity ∙ ap (λ o. option_or o (number_named n (identity ∷ []))) (same n) ∙ sym (number_push n other identity)
