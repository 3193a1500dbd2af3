-- Where nothing is found in an object or a list, nothing is found in what it holds.
use Rattle.std.proofs.Common.{◌≡◌, ℕ, suc, if◌then◌else◌, Bool, true, false, List, [], ◌∷◌, ◌++◌, map, Option, None, Some, option_and_then, option_map, unwrap_or, IfSome, Ordering, Less, Equal, Greater, nat_cmp, refl, sym, ap, subst, ◌∙◌}
use Rattle.std.proofs.lemmas.Map.Lookups.{exact_bytes}
use Rattle.std.specs.Cmp.Lexicographic.{slice_cmp}
use Rattle.std.specs.List.{AllByRecursion}
use Rattle.std.specs.Option.{option_or}
use Rattle.std.specs.Ordering.{match_ordering}
use Rattle.serde_json.specs.Data.{Data, null, boolean, number, string, array, object, Items, no_items, item, Members, no_members, member}
use Rattle.serde_json.specs.Find.{as_array, as_str, get_member}
use Rattle.document_laws.proofs.Nothing.{IsListing, IsSound, found_with, items_below}
use Rattle.document_laws.proofs.Shapes.{IsObject, item_shape, member_shape}
use Rattle.pol_json.proofs.Steps.{first_of_both, first_under, further}
use Rattle.pol_json.specs.Build.{items_if_there, member_items, member_text, text_of}
use Rattle.pol_json.specs.Members.{is_null, items_list, list_at, present, unless_null}
use Rattle.pol_json.specs.Places.{Cause, Found, Place, Step, below, below_items, cause_of, first_found, here, named, numbered, or_wrong, places, under, unless, unless_absent}
use Rattle.pol_json.specs.Table.{Shape, unknown, unsupported, one, list_of}

-- ---- lists of places

none_of_place : (p : Place) (cause : Option Cause) (rest : Option Found) → option_or (found_with p cause) rest ≡ None → (cause ≡ None) × (rest ≡ None)
none_of_place p None rest is = (refl, is)
none_of_place p (Some c) rest is = absurd cc

none_of_either : (a b : Option Found) → option_or a b ≡ None → (a ≡ None) × (b ≡ None)
none_of_either None b is = (refl, is)
none_of_either (Some f) b is = absurd cc

none_of_further : (step : Step) (found : Option Found) → option_map (further step) found ≡ None → found ≡ None
none_of_further step None is = refl
none_of_further step (Some f) is = absurd cc

none_in_both : (ps qs : List Place) → first_found (ps ++ qs) ≡ None → (first_found ps ≡ None) × (first_found qs ≡ None)
none_in_both ps qs is = none_of_either (first_found ps) (first_found qs) (sym (first_of_both ps qs) ∙ is)

none_above : (step : Step) (ps : List Place) → first_found (map (under step) ps) ≡ None → first_found ps ≡ None
none_above step ps is = none_of_further step (first_found ps) (sym (first_under step ps) ∙ is)

-- at a value where this should stand nothing is wrong
pub no_cause : (shape : Shape) (d : Data) → IsSound shape d → cause_of shape d ≡ None
no_cause shape d sound = (none_of_place (here shape d) (cause_of shape d) (first_found (below shape d)) sound).0

-- nor below it
none_below : (shape : Shape) (d : Data) → IsSound shape d → first_found (below shape d) ≡ None
none_below shape d sound = (none_of_place (here shape d) (cause_of shape d) (first_found (below shape d)) sound).1

-- ---- objects

there : (null : Bool) (ps : List Place) → null ≡ false → first_found (if null then [] else ps) ≡ None → first_found ps ≡ None
there true ps is none = absurd cc
there false ps is none = none

kept : (null : Bool) (f e : Data) → is_null f ≡ null → (if null then None else Some f) ≡ Some e → (Some f ≡ Some e) × (is_null e ≡ false)
kept true f e is found = absurd cc
kept false f e is found = let same : f ≡ e = cc in (found, subst (λ x. is_null x ≡ false) same is)

found_there : (o : Option Data) (e : Data) → option_and_then unless_null o ≡ Some e → (o ≡ Some e) × (is_null e ≡ false)
found_there None e found = absurd cc
found_there (Some f) e found = kept (is_null f) f e refl found

module _ (shape : Shape) (of : IsObject shape) where
  parted : (name : List ℕ) (d : Data) (others : Members) → first_found (below shape (object (member name d others))) ≡ None
      → (first_found (unless_absent d (map (under (named name)) (places (member_shape shape name) d))) ≡ None) × (first_found (below shape (object others)) ≡ None)
  parted name d others none =
      none_in_both (unless_absent d (map (under (named name)) (places (member_shape shape name) d))) (below shape (object others))
      (sym (ap first_found (of.more name d others)) ∙ none)

  first_member : (name : List ℕ) (d : Data) (others : Members) → is_null d ≡ false
      → first_found (below shape (object (member name d others))) ≡ None → IsSound (member_shape shape name) d
  first_member name d others not_null none =
      none_above (named name) (places (member_shape shape name) d)
      (there (is_null d) (map (under (named name)) (places (member_shape shape name) d)) not_null (parted name d others none).0)

  -- the member of this name is the first one, or one of the others
  by_order : (o : Ordering) (name key : List ℕ) (d e : Data) (others : Members) → slice_cmp nat_cmp name key ≡ o
      → match_ordering o (get_member name others) (Some d) (get_member name others) ≡ Some e → is_null e ≡ false
      → first_found (below shape (object (member key d others))) ≡ None
      → (get_member name others ≡ Some e → IsSound (member_shape shape name) e) → IsSound (member_shape shape name) e
  by_order Less name key d e others is found not_null none more = more found
  by_order Greater name key d e others is found not_null none more = more found
  by_order Equal name key d e others is found not_null none more =
      let same : d ≡ e = cc in
      let named_so : key ≡ name = sym (exact_bytes name key is) in
      subst (λ n. IsSound (member_shape shape n) e) named_so
      (subst (λ x. IsSound (member_shape shape key) x) same (first_member key d others (subst (λ x. is_null x ≡ false) (sym same) not_null) none))

  member_sound : (name : List ℕ) (e : Data) (ms : Members) → get_member name ms ≡ Some e → is_null e ≡ false
      → first_found (below shape (object ms)) ≡ None → IsSound (member_shape shape name) e
  member_sound name e no_members found not_null none = absurd cc
  member_sound name e (member key d others) found not_null none =
      by_order (slice_cmp nat_cmp name key) name key d e others refl found not_null none
      (λ later. member_sound name e others later not_null (parted key d others none).1)

  -- what is wrong nowhere in an object isn't in its member
  pub sound_within : (name : List ℕ) (d e : Data) → IsSound shape d → present name d ≡ Some e → IsSound (member_shape shape name) e
  sound_within name null e sound found = absurd cc
  sound_within name (boolean b) e sound found = absurd cc
  sound_within name (number n) e sound found = absurd cc
  sound_within name (string s) e sound found = absurd cc
  sound_within name (array ds) e sound found = absurd cc
  sound_within name (object ms) e sound found =
      let is = found_there (get_member name ms) e found in
      member_sound name e ms is.0 is.1 (none_below shape (object ms) sound)

-- ---- lists

items_sound : (shape : Shape) (i : ℕ) (ds : Items) → IsListing shape → first_found (items_below shape i ds) ≡ None
    → AllByRecursion (IsSound (item_shape shape)) (items_list ds)
items_sound (list_of content) i no_items is none = tt
items_sound (list_of content) i (item d ds) is none =
    let both = none_in_both (map (under (numbered i)) (places (one content) d)) (below_items content (suc i) ds) none in
    (none_above (numbered i) (places (one content) d) both.0, items_sound (list_of content) (suc i) ds is both.1)
items_sound unknown i ds is none = absurd is
items_sound (unsupported name) i ds is none = absurd is
items_sound (one content) i ds is none = absurd is

-- a list, in whose items nothing is wrong
abbrev pub Lists : Shape → Data → Type 0
Lists shape d = (ds : Items) × (as_array d ≡ Some ds) × AllByRecursion (IsSound (item_shape shape)) (items_list ds)

in_list : (shape : Shape) (d : Data) → IsListing shape → or_wrong (λ _. None) (as_array d) ≡ None → ((ds : Items) → d ≡ array ds → first_found (items_below shape 0 ds) ≡ None)
    → Lists shape d
in_list shape null is cause none = absurd cc
in_list shape (boolean b) is cause none = absurd cc
in_list shape (number n) is cause none = absurd cc
in_list shape (string s) is cause none = absurd cc
in_list shape (array ds) is cause none = (ds, refl, items_sound shape 0 ds is (none ds refl))
in_list shape (object ms) is cause none = absurd cc

-- where a list should stand there is one, and nothing is wrong in its items
pub sound_items_within : (shape : Shape) (d : Data) → IsListing shape → IsSound shape d → Lists shape d
sound_items_within (list_of content) d is sound =
    in_list (list_of content) d is (no_cause (list_of content) d sound)
    (λ ds same. subst (λ x. first_found (below (list_of content) x) ≡ None) same (none_below (list_of content) d sound))
sound_items_within unknown d is sound = absurd is
sound_items_within (unsupported name) d is sound = absurd is
sound_items_within (one content) d is sound = absurd is

-- ---- what parts are read as

-- the items of a member that was found
abbrev items_found : Option Data → Option (List Data)
items_found found = option_and_then (λ ds. Some (items_list ds)) (option_and_then as_array found)

module _ {A : Type 0} (P : A → Type 0) (read : Data → A) (shape : Shape) (of : IsObject shape) (name : List ℕ) where
  each_well : ((e : Data) → IsSound (item_shape (member_shape shape name)) e → P (read e)) → (es : List Data)
      → AllByRecursion (IsSound (item_shape (member_shape shape name))) es → AllByRecursion P (map read es)
  each_well well [] sound = tt
  each_well well (e ∷ es) sound = (well e sound.0, each_well well es sound.1)

  by_member : (d : Data) (found : Option Data) → present name d ≡ found → IsListing (member_shape shape name) → IsSound shape d
      → ((e : Data) → IsSound (item_shape (member_shape shape name)) e → P (read e)) → IfSome (option_map (map read) (items_found found)) (AllByRecursion P)
  by_member d None is listing sound well = tt
  by_member d (Some e) is listing sound well =
      let within = sound_items_within (member_shape shape name) e listing (sound_within shape of name d e sound is) in
      subst (λ f. IfSome (option_map (map read) (option_and_then (λ ds. Some (items_list ds)) f)) (AllByRecursion P)) (sym within.1)
      (each_well well (items_list within.0) within.2)

  list_well : (d : Data) → IsListing (member_shape shape name) → IsSound shape d
      → ((e : Data) → IsSound (item_shape (member_shape shape name)) e → P (read e)) → IfSome (items_if_there read name d) (AllByRecursion P)
  list_well d listing sound well = by_member d (present name d) refl listing sound well

  or_empty : (list : Option (List Data)) → IfSome (option_map (map read) list) (AllByRecursion P) → AllByRecursion P (map read (unwrap_or list []))
  or_empty None well = tt
  or_empty (Some es) well = well

  pub items_well : (d : Data) → IsListing (member_shape shape name) → IsSound shape d
      → ((e : Data) → IsSound (item_shape (member_shape shape name)) e → P (read e)) → AllByRecursion P (member_items read name d)
  items_well d listing sound well = or_empty (list_at name d) (list_well d listing sound well)

-- ---- texts

-- a text should stand there, of which this may be wrong
abbrev pub IsTextual : Shape → (List ℕ → Option Cause) → Type 0
IsTextual shape cause = (d : Data) → cause_of shape d ≡ or_wrong cause (as_str d)

module _ (P : List ℕ → Type 0) (cause : List ℕ → Option Cause) (empty : P []) (well : (text : List ℕ) → cause text ≡ None → P text) where
  by_text : (text : Option (List ℕ)) → or_wrong cause text ≡ None → P (unwrap_or text [])
  by_text None none = empty
  by_text (Some text) none = well text none

  text_well : (shape : Shape) (d : Data) → IsTextual shape cause → IsSound shape d → P (text_of d)
  text_well shape d textual sound = by_text (as_str d) (sym (textual d) ∙ no_cause shape d sound)

  text_found : (shape : Shape) (of : IsObject shape) (name : List ℕ) (d : Data) (found : Option Data) → present name d ≡ found
      → IsTextual (member_shape shape name) cause → IsSound shape d → P (unwrap_or (option_and_then as_str found) [])
  text_found shape of name d None is textual sound = empty
  text_found shape of name d (Some e) is textual sound = text_well (member_shape shape name) e textual (sound_within shape of name d e sound is)

  pub member_text_well : (shape : Shape) (of : IsObject shape) (name : List ℕ) (d : Data) → IsTextual (member_shape shape name) cause
      → IsSound shape d → P (member_text name d)
  member_text_well shape of name d textual sound = text_found shape of name d (present name d) refl textual sound

pub passed : (b : Bool) (cause : Cause) → unless b cause ≡ None → b ≡ true
passed true cause none = refl
passed false cause none = absurd cc
