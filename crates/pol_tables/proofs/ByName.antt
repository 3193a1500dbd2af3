-- Entries under names.
use Rattle.std.proofs.Common.{◌≡◌, ℕ, not, List, map, filter, find, None, ap, ◌∙◌}
use Rattle.std.specs.List.{IsDistinct}
use Rattle.std.specs.Map.{IsKeyTest, lookup, remove_entry, values_of}
use Rattle.std.specs.Str.{bytes_eq}
use Rattle.std.specs.String.{string_bytes, string_eq}
use Rattle.std.specs.declared.string.String.{String}
use Rattle.std.specs.Cmp.Lexicographic.{bytes_decides, nat_list_eq_equiv}
use Rattle.pol_model.specs.declared.row.Endpoint.{Endpoint}
use Rattle.pol_model.specs.Endpoints.{endpoint_of}
use Rattle.pol_tables.specs.Tied.{IsKeyed}
use Rattle.pol_tables.proofs.Deciding.{turned}
use Rattle.pol_tables.specs.Numbered.{PassOnce}
use Rattle.pol_tables.proofs.Entries.{Agree, agree-keyed, found_by, pass_once, removed_by}

pub name_test : {A : Type 0} (name : List ℕ) → IsKeyTest (string_eq {Z = A}) (λ key. bytes_eq name (string_bytes key))
name_test name x y = nat_list_eq_equiv.congr name (string_bytes x) (string_bytes y)

module _ {A V : Type 0} (name_of : V → List ℕ) (name : List ℕ) (es : List (String A × V)) (keyed : IsKeyed string_bytes name_of es) where
  names_agree : Agree (λ key. bytes_eq name (string_bytes key)) (λ v. bytes_eq (name_of v) name) es
  names_agree =
      agree-keyed _ (λ v. bytes_eq (name_of v) name) string_bytes name_of (λ key v same. ap (bytes_eq name) same ∙ turned bytes_decides bytes_decides name (name_of v)) es keyed

  pub found_by_name : lookup (λ key. bytes_eq name (string_bytes key)) es ≡ find (λ v. bytes_eq (name_of v) name) (values_of es)
  found_by_name = found_by _ (λ v. bytes_eq (name_of v) name) es names_agree

  pub names_once : IsDistinct string_eq (map (λ e. e.0) es) → PassOnce (λ v. bytes_eq (name_of v) name) (values_of es)
  names_once apart = pass_once _ (λ v. bytes_eq (name_of v) name) (name_test name) es names_agree apart

  pub removed_by_name : IsDistinct string_eq (map (λ e. e.0) es) → values_of (remove_entry (λ key. bytes_eq name (string_bytes key)) es) ≡ filter (λ v. not (bytes_eq (name_of v) name)) (values_of es)
  removed_by_name apart = removed_by _ (λ v. bytes_eq (name_of v) name) es names_agree (names_once apart)

pub new_name : {A : Type 0} (es : List (String A × Endpoint)) → IsKeyed string_bytes (λ endpoint. endpoint.name) es → (key : String A) {name : List ℕ} → string_bytes key ≡ name
    → endpoint_of name (values_of es) ≡ None → lookup (string_eq key) es ≡ None
new_name es keyed key is none =
    found_by_name (λ (endpoint : Endpoint). endpoint.name) (string_bytes key) es keyed ∙ ap (λ n. endpoint_of n (values_of es)) is ∙ none
