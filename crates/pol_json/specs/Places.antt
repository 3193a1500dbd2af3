-- The places that the reading of a policy document visits, in the order of its visits, and what is wrong at one ('profile').
use Rattle.std.specs.Prelude.{ℕ, suc, ◌||◌, not, Bool, false, if◌then◌else◌, List, [], ◌∷◌, ◌++◌, codes, map, Option, None, Some, is_none, is_some, option_map, option_and_then}
use Rattle.std.specs.Option.{option_or}
use Rattle.std.specs.List.{find, list_any}
use Rattle.std.specs.Str.{str_eq_ignore_ascii_case}
use Rattle.serde_json.specs.Data.{Data, Items, no_items, item, Members, no_members, member, array, object}
use Rattle.serde_json.specs.Find.{as_bool, as_str, as_array, as_object, as_number, as_u64}
use Rattle.pol_json.specs.declared.table.ObjectKind.{ObjectKind}
use Rattle.pol_json.specs.declared.table.TextForm.{TextForm}
use Rattle.pol_json.specs.declared.table.TextForm.TheVariants as form
use Rattle.pol_json.specs.declared.table.Content.{Content}
use Rattle.pol_json.specs.declared.table.Content.TheVariants.{Ignored, Text, Boolean, Number, PortNumber, Object}
use Rattle.pol_json.specs.Members.{is_null, present}
use Rattle.pol_json.specs.Table.{Shape, unknown, unsupported, one, list_of, shape_of, found_first, needed}
use Rattle.pol_json.specs.Texts.{is_dns_name, is_letter}

-- a step of a path: to the member of a name, or to the item of a number, from 0
pub data Step : Type 0 where
  named : List ℕ → Step
  numbered : ℕ → Step

-- a value that is visited: the path that leads to it, what should stand there, and what does
pub record Place : Type 0 where
  pub path : List Step
  pub shape : Shape
  pub value : Data

-- what may be wrong at a place
pub data Cause : Type 0 where
  unknown_name : Cause
  left_out : List ℕ → Cause
  wrong_shape : Cause
  lacks : List ℕ → Cause

-- ---- the cause at a place

abbrev pub unless : Bool → Cause → Option Cause
unless holds cause = if holds then None else Some cause

abbrev pub is_icmp : List ℕ → Bool
is_icmp text =
    str_eq_ignore_ascii_case text (codes "ICMP") || str_eq_ignore_ascii_case text (codes "ICMPv6")

abbrev pub text_cause : TextForm → List ℕ → Option Cause
text_cause form.Any text = None
text_cause form.Name text = unless (is_dns_name text) wrong_shape
text_cause form.Port text = unless (not (list_any is_letter text)) (left_out (codes "named-port"))
text_cause form.Protocol text = unless (not (is_icmp text)) (left_out (codes "icmp"))

-- names that are found before the lack of a member; then the first member that is lacking
abbrev pub object_cause : ObjectKind → Data → Option Cause
object_cause kind d =
    option_or (option_map left_out (find (λ name. is_some (present name d)) (found_first kind)))
    (option_map lacks (find (λ name. not (is_some (present name d))) (needed kind)))

abbrev pub or_wrong : {A : Type 0} → (A → Option Cause) → Option A → Option Cause
or_wrong cause None = Some wrong_shape
or_wrong cause (Some x) = cause x

abbrev pub number_cause : Data → Option Cause
number_cause d = or_wrong (λ _. None) (option_and_then as_u64 (as_number d))

-- a port that is a text is a named one
abbrev pub unless_named : Option (List ℕ) → Option Cause → Option Cause
unless_named None otherwise = otherwise
unless_named (Some name) otherwise = Some (left_out (codes "named-port"))

abbrev pub content_cause : Content → Data → Option Cause
content_cause Ignored d = None
content_cause (Text form) d = or_wrong (text_cause form) (as_str d)
content_cause Boolean d = or_wrong (λ _. None) (as_bool d)
content_cause Number d = number_cause d
content_cause PortNumber d = unless_named (as_str d) (number_cause d)
content_cause (Object kind) d = or_wrong (λ _. object_cause kind d) (as_object d)

-- a value that holds nothing, and with which nothing is wrong
abbrev pub is_sound_leaf : Content → Data → Bool
is_sound_leaf (Object kind) d = false
is_sound_leaf content d = is_none (content_cause content d)

abbrev pub cause_of : Shape → Data → Option Cause
cause_of unknown d = Some unknown_name
cause_of (unsupported name) d = Some (left_out name)
cause_of (one content) d = content_cause content d
cause_of (list_of content) d = or_wrong (λ _. None) (as_array d)

-- ---- the order of visits

-- a place, one step further from the top
abbrev pub under : Step → Place → Place
under step place = record { path = step ∷ place.path; shape = place.shape; value = place.value }

abbrev pub here : Shape → Data → Place
here shape d = record { path = []; shape = shape; value = d }

-- a null member is passed over
abbrev pub unless_absent : Data → List Place → List Place
unless_absent d ps = if is_null d then [] else ps

-- the places below a value: members in the order of their names, items in order, each before what it
-- holds
abbrev mutual
  pub below : Shape → Data → List Place
  below (one (Object kind)) (object ms) = below_members kind ms
  below (list_of content) (array ds) = below_items content 0 ds
  below _ _ = []

  pub below_members : ObjectKind → Members → List Place
  below_members kind no_members = []
  below_members kind (member name d ms) =
      unless_absent d (map (under (named name)) (here (shape_of kind name) d ∷ below (shape_of kind name) d)) ++ below_members kind ms

  pub below_items : Content → ℕ → Items → List Place
  below_items content i no_items = []
  below_items content i (item d ds) =
      map (under (numbered i)) (here (one content) d ∷ below (one content) d) ++ below_items content (suc i) ds

abbrev pub places : Shape → Data → List Place
places shape d = here shape d ∷ below shape d

-- ---- the first cause

-- a cause, with the path to its place
pub record Found : Type 0 where
  pub path : List Step
  pub cause : Cause

abbrev pub found_at : Place → Option Found
found_at place = option_map (λ cause. record { path = place.path; cause = cause }) (cause_of place.shape place.value)

abbrev pub first_found : List Place → Option Found
first_found [] = None
first_found (place ∷ others) = option_or (found_at place) (first_found others)
