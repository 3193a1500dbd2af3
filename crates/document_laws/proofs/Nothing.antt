-- Objects and lists in which nothing is found that is wrong.
use Rattle.std.proofs.Common.{◌≡◌, ℕ, suc, if◌then◌else◌, Bool, true, false, List, [], ◌∷◌, ◌++◌, map, Option, None, Some, option_map, IfSome, refl, ap, ◌∙◌}
use Rattle.std.specs.List.{AllByRecursion}
use Rattle.std.specs.Option.{option_or}
use Rattle.serde_json.specs.Data.{Data, object, Items, Members, member}
use Rattle.serde_json.specs.View.{items_of}
use Rattle.document_laws.proofs.Shapes.{IsObject, item_shape, member_shape}
use Rattle.document_laws.specs.Fields.{Fields, with_field, members_of, object_of, array_of, unless_empty}
use Rattle.pol_json.proofs.Steps.{first_of_both, first_under, further}
use Rattle.pol_json.specs.Members.{is_null}
use Rattle.pol_json.specs.Places.{Place, Cause, Found, Step, named, numbered, below, below_items, cause_of, first_found, here, places, under, unless, unless_absent}
use Rattle.pol_json.specs.Table.{Shape, unknown, unsupported, one, list_of}

-- nothing is wrong at a value where this should stand, nor below it
abbrev pub IsSound : Shape → Data → Type 0
IsSound shape d = first_found (places shape d) ≡ None

-- ---- lists of places

-- what is found at a place by its cause
abbrev pub found_with : Place → Option Cause → Option Found
found_with p cause = option_map (λ c. record { path = p.path; cause = c }) cause

first_none : (p : Place) (cause : Option Cause) (rest : Option Found) → cause ≡ None → rest ≡ None → option_or (found_with p cause) rest ≡ None
first_none p None rest none more = more
first_none p (Some c) rest none more = absurd cc

none_behind : (p : Place) (ps : List Place) → cause_of p.shape p.value ≡ None → first_found ps ≡ None → first_found (p ∷ ps) ≡ None
none_behind p ps none more = first_none p (cause_of p.shape p.value) (first_found ps) none more

neither : (a b : Option Found) → a ≡ None → b ≡ None → option_or a b ≡ None
neither None b none more = more
neither (Some f) b none more = absurd cc

in_both : (ps qs : List Place) → first_found ps ≡ None → first_found qs ≡ None → first_found (ps ++ qs) ≡ None
in_both ps qs none more = first_of_both ps qs ∙ neither (first_found ps) (first_found qs) none more

none_under : (step : Step) (ps : List Place) → first_found ps ≡ None → first_found (map (under step) ps) ≡ None
none_under step ps none = first_under step ps ∙ ap (option_map (further step)) none

unless_passed : (null : Bool) (ps : List Place) → first_found ps ≡ None → first_found (if null then [] else ps) ≡ None
unless_passed true ps none = refl
unless_passed false ps none = none

-- nothing is wrong at the value, nor below it
pub sound_at : (shape : Shape) (d : Data) → cause_of shape d ≡ None → first_found (below shape d) ≡ None → IsSound shape d
sound_at shape d none more = none_behind (here shape d) (below shape d) none more

-- ---- objects

-- each field that isn't left out is sound
abbrev pub AreSound : Shape → Fields → Type 0
AreSound shape [] = Unit {0}
AreSound shape (field ∷ others) = IfSome field.1 (IsSound (member_shape shape field.0)) × AreSound shape others

module _ (shape : Shape) (is : IsObject shape) where
  -- a member, and those behind it
  pub sound_member : (name : List ℕ) (d : Data) (others : Members) → IsSound (member_shape shape name) d
      → first_found (below shape (object others)) ≡ None → first_found (below shape (object (member name d others))) ≡ None
  sound_member name d others sound more =
      let own = map (under (named name)) (places (member_shape shape name) d) in
      ap first_found (is.more name d others)
      ∙ in_both (unless_absent d own) (below shape (object others))
      (unless_passed (is_null d) own (none_under (named name) (places (member_shape shape name) d) sound)) more

  sound_with : (name : List ℕ) (value : Option Data) (others : Members) → IfSome value (IsSound (member_shape shape name))
      → first_found (below shape (object others)) ≡ None → first_found (below shape (object (with_field name value others))) ≡ None
  sound_with name None others sound more = more
  sound_with name (Some d) others sound more = sound_member name d others sound more

  sound_members : (fields : Fields) → AreSound shape fields → first_found (below shape (object (members_of fields))) ≡ None
  sound_members [] sound = ap first_found is.nothing
  sound_members (field ∷ others) sound = sound_with field.0 field.1 (members_of others) sound.0 (sound_members others sound.1)

  pub sound_object : (fields : Fields) → cause_of shape (object_of fields) ≡ None → AreSound shape fields → IsSound shape (object_of fields)
  sound_object fields none sound = sound_at shape (object_of fields) none (sound_members fields sound)

-- ---- lists

-- the shape is one of a list
abbrev pub IsListing : Shape → Type 0
IsListing (list_of content) = Unit {0}
IsListing _ = ⊥

-- the places of items, from a number on
abbrev pub items_below : Shape → ℕ → Items → List Place
items_below (list_of content) i ds = below_items content i ds
items_below _ i ds = []

module _ {A : Type 0} (write : A → Data) where
  sound_items : (shape : Shape) (i : ℕ) (xs : List A) → IsListing shape → AllByRecursion (λ x. IsSound (item_shape shape) (write x)) xs
      → first_found (items_below shape i (items_of (map write xs))) ≡ None
  sound_items (list_of content) i [] is sound = refl
  sound_items (list_of content) i (x ∷ xs) is sound =
      let own = places (one content) (write x) in
      in_both (map (under (numbered i)) own) (below_items content (suc i) (items_of (map write xs)))
      (none_under (numbered i) own sound.0) (sound_items (list_of content) (suc i) xs is sound.1)
  sound_items unknown i xs is sound = absurd is
  sound_items (unsupported name) i xs is sound = absurd is
  sound_items (one content) i xs is sound = absurd is

  pub sound_list : (shape : Shape) (xs : List A) → IsListing shape → AllByRecursion (λ x. IsSound (item_shape shape) (write x)) xs
      → IsSound shape (array_of write xs)
  sound_list (list_of content) xs is sound = sound_at (list_of content) (array_of write xs) refl (sound_items (list_of content) 0 xs is sound)
  sound_list unknown xs is sound = absurd is
  sound_list (unsupported name) xs is sound = absurd is
  sound_list (one content) xs is sound = absurd is

  -- a list that is left out where it is empty
  pub sound_unless_empty : (shape : Shape) (xs : List A) → IsListing shape → AllByRecursion (λ x. IsSound (item_shape shape) (write x)) xs
      → IfSome (unless_empty (array_of write) xs) (IsSound shape)
  sound_unless_empty shape [] is sound = tt
  sound_unless_empty shape (x ∷ xs) is sound = sound_list shape (x ∷ xs) is sound

  -- a list that may be absent
  pub sound_if_there : (shape : Shape) (list : Option (List A)) → IsListing shape → IfSome list (AllByRecursion (λ x. IsSound (item_shape shape) (write x)))
      → IfSome (option_map (array_of write) list) (IsSound shape)
  sound_if_there shape None is sound = tt
  sound_if_there shape (Some xs) is sound = sound_list shape xs is sound

-- each item is sound
pub each_sound : {A : Type 0} (P Q : A → Type 0) → ((x : A) → P x → Q x) → (xs : List A) → AllByRecursion P xs → AllByRecursion Q xs
each_sound P Q lifts [] all = tt
each_sound P Q lifts (x ∷ xs) all = (lifts x all.0, each_sound P Q lifts xs all.1)

pub all_sound : {A : Type 0} (Q : A → Type 0) → ((x : A) → Q x) → (xs : List A) → AllByRecursion Q xs
all_sound Q holds [] = tt
all_sound Q holds (x ∷ xs) = (holds x, all_sound Q holds xs)

pub any_if_there : {A : Type 0} (Q : A → Type 0) → ((x : A) → Q x) → (list : Option (List A)) → IfSome list (AllByRecursion Q)
any_if_there Q holds None = tt
any_if_there Q holds (Some xs) = all_sound Q holds xs

-- ---- texts

pub passes : (b : Bool) (cause : Cause) → b ≡ true → unless b cause ≡ None
passes true cause is = refl
passes false cause is = absurd cc
