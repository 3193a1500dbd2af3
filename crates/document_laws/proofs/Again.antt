-- Members that are read again from the fields that write them.
use Rattle.std.proofs.Common.{◌≡◌, ℕ, false, if◌then◌else◌, List, [], ◌∷◌, map, Option, None, Some, option_map, option_and_then, unwrap_or, refl, ap, ◌∙◌}
use Rattle.std.specs.Option.{option_or}
use Rattle.serde_json.specs.Data.{Data, string}
use Rattle.serde_json.specs.Find.{as_array, as_number, as_str, as_u64}
use Rattle.serde_json.specs.View.{items_of}
use Rattle.document_laws.proofs.Named.{shown}
use Rattle.document_laws.specs.Fields.{array_of, unless_empty}
use Rattle.document_laws.specs.Written.{whole_document}
use Rattle.pol_json.proofs.Views.{items_list_view}
use Rattle.pol_json.specs.Build.{items_if_there, member_items, member_of, member_text}
use Rattle.pol_json.specs.Members.{is_null, items_list, present}

-- what a member lists, and its text
abbrev listed : Option Data → Option (List Data)
listed found = option_and_then (λ ds. Some (items_list ds)) (option_and_then as_array found)

abbrev said : Option Data → List ℕ
said found = unwrap_or (option_and_then as_str found) []

abbrev counted : Option Data → Option ℕ
counted found = option_and_then as_u64 (option_and_then as_number found)

module _ {A : Type 0} (read : Data → A) (write : A → Data) (again : (x : A) → read (write x) ≡ x) where
  each_again : (xs : List A) → map read (map write xs) ≡ xs
  each_again [] = refl
  each_again (x ∷ xs) = λ i. again x i ∷ each_again xs i

  items_again : (xs : List A) → map read (items_list (items_of (map write xs))) ≡ xs
  items_again xs = ap (map read) (items_list_view (map write xs)) ∙ each_again xs

  if_listed : (list : Option (List A)) → option_map (map read) (listed (shown (option_or (option_map (array_of write) list) None))) ≡ list
  if_listed None = refl
  if_listed (Some xs) = ap Some (items_again xs)

  -- a list that may be absent
  pub list_again : (name : List ℕ) (d : Data) (list : Option (List A)) → present name d ≡ shown (option_or (option_map (array_of write) list) None)
      → items_if_there read name d ≡ list
  list_again name d list is = ap (λ found. option_map (map read) (listed found)) is ∙ if_listed list

  unless_left_out : (xs : List A) → map read (unwrap_or (listed (shown (option_or (unless_empty (array_of write) xs) None))) []) ≡ xs
  unless_left_out [] = refl
  unless_left_out (x ∷ xs) = items_again (x ∷ xs)

  -- a list that is left out where it is empty
  pub items_come_again : (name : List ℕ) (d : Data) (xs : List A) → present name d ≡ shown (option_or (unless_empty (array_of write) xs) None)
      → member_items read name d ≡ xs
  items_come_again name d xs is = ap (λ found. map read (unwrap_or (listed found) [])) is ∙ unless_left_out xs

module _ {A : Type 0} (read : Data → A) (write : A → Data) (again : (x : A) → read (write x) ≡ x) (there : (x : A) → is_null (write x) ≡ false) where
  if_there : (found : Option A) → option_map read (shown (option_or (option_map write found) None)) ≡ found
  if_there None = refl
  if_there (Some x) = ap (λ null. option_map read (if null then None else Some (write x))) (there x) ∙ ap Some (again x)

  -- a value that may be absent
  pub member_again : (name : List ℕ) (d : Data) (found : Option A) → present name d ≡ shown (option_or (option_map write found) None)
      → member_of read name d ≡ found
  member_again name d found is = ap (option_map read) is ∙ if_there found

pub text_again : (name : List ℕ) (d : Data) (text : List ℕ) → present name d ≡ Some (string text) → member_text name d ≡ text
text_again name d text is = ap said is

text_unless_left_out : (text : List ℕ) → said (shown (option_or (unless_empty string text) None)) ≡ text
text_unless_left_out [] = refl
text_unless_left_out (byte ∷ rest) = refl

-- a text that is left out where it is empty
pub text_comes_again : (name : List ℕ) (d : Data) (text : List ℕ) → present name d ≡ shown (option_or (unless_empty string text) None)
    → member_text name d ≡ text
text_comes_again name d text is = ap said is ∙ text_unless_left_out text

whole_if_there : (n : Option ℕ) → counted (shown (option_or (option_map whole_document n) None)) ≡ n
whole_if_there None = refl
whole_if_there (Some n) = refl

pub whole_again : (name : List ℕ) (d : Data) (n : Option ℕ) → present name d ≡ shown (option_or (option_map whole_document n) None)
    → option_and_then as_u64 (option_and_then as_number (present name d)) ≡ n
whole_again name d n is = ap counted is ∙ whole_if_there n
