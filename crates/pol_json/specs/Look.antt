-- What a path leads to, step by step, and what is said of a document's first fault.
use Rattle.std.specs.Prelude.{◌≡◌, ℕ, ◌<◌, false, ◌⊎◌, List, [], ◌∷◌, ◌++◌, None, Some}
use Rattle.std.specs.Cmp.Lexicographic.{slice_cmp}
use Rattle.std.specs.Ordering.{nat_cmp}
use Rattle.std.specs.declared.cmp.Ordering.TheVariants.{Less}
use Rattle.serde_json.specs.Data.{Data, Items, no_items, item, Members, no_members, member, array, object}
use Rattle.serde_json.specs.Find.{get_item}
use Rattle.pol_json.specs.declared.fault.DocFault.{DocFault}
use Rattle.pol_json.specs.declared.table.Content.TheVariants.{Object}
use Rattle.pol_json.specs.declared.table.ObjectKind.{ObjectKind}
use Rattle.pol_json.specs.Document.{places_in}
use Rattle.pol_json.specs.Members.{is_null}
use Rattle.pol_json.specs.Path.{fault_by, path_text}
use Rattle.pol_json.specs.Places.{Step, named, numbered, Place, Cause, cause_of}
use Rattle.pol_json.specs.Table.{Shape, unknown, unsupported, one, list_of, shape_of}

-- the object has the member
abbrev pub HasMember : List ℕ → Data → Members → Type 0
HasMember name d no_members = ⊥
HasMember name d (member k e ms) = ((k ≡ name) × (e ≡ d)) ⊎ HasMember name d ms

-- from a value of the first shape, the step leads to one where the second should stand: to a member
-- that isn't null, or to an item
abbrev pub StepsTo : Step → Shape → Data → Shape → Data → Type 0
StepsTo (named name) (one (Object kind)) (object ms) s e = HasMember name e ms × (is_null e ≡ false) × (s ≡ shape_of kind name)
StepsTo (numbered i) (list_of content) (array ds) s e = (get_item i ds ≡ Some e) × (s ≡ one content)
StepsTo _ _ _ _ _ = ⊥

-- the path leads from a value to another
abbrev pub LeadsTo : List Step → Shape → Data → Shape → Data → Type 0
LeadsTo [] shape d s e = (shape ≡ s) × (d ≡ e)
LeadsTo (step ∷ path) shape d s e = (t : Shape) × (f : Data) × StepsTo step shape d t f × LeadsTo path t f s e

-- the same, from the whole document of a kind
abbrev pub IsAt : ObjectKind → List Step → Data → Shape → Data → Type 0
IsAt kind path d s e = LeadsTo path (one (Object kind)) d s e

-- the place is one of these
abbrev pub IsOneOf : Place → List Place → Type 0
IsOneOf place [] = ⊥
IsOneOf place (p ∷ ps) = (p ≡ place) ⊎ IsOneOf place ps

-- nothing is wrong at any of these
abbrev pub AllSound : List Place → Type 0
AllSound [] = Unit {0}
AllSound (p ∷ ps) = (cause_of p.shape p.value ≡ None) × AllSound ps

-- the table has a shape for the name
abbrev pub IsRead : Shape → Type 0
IsRead unknown = ⊥
IsRead (unsupported name) = ⊥
IsRead (one content) = Unit {0}
IsRead (list_of content) = Unit {0}

-- a place of the document of this kind whose cause is this fault, with nothing wrong at the places before it
pub record IsFirstFault (kind : ObjectKind) (d : Data) (fault : DocFault) : Type 0 where
  pub before : List Place
  pub place : Place
  pub after : List Place
  pub cause : Cause
  pub in_order : places_in kind d ≡ before ++ place ∷ after
  pub sound_before : AllSound before
  pub leads : IsAt kind place.path d place.shape place.value
  pub holds : cause_of place.shape place.value ≡ Some cause
  pub told : fault ≡ fault_by path_text place.path cause

-- ---- the order of visits

-- a member comes before another by the bytes of its name, an item by its number
abbrev pub StepBefore : Step → Step → Type 0
StepBefore (named a) (named b) = slice_cmp nat_cmp a b ≡ Less
StepBefore (numbered i) (numbered j) = i < j
StepBefore _ _ = ⊥

-- a path comes before those that it begins, and else by the first steps that differ
abbrev pub PathBefore : List Step → List Step → Type 0
PathBefore path [] = ⊥
PathBefore [] (t ∷ other) = Unit {0}
PathBefore (s ∷ path) (t ∷ other) = StepBefore s t ⊎ ((s ≡ t) × PathBefore path other)

abbrev pub AllAfter : List Step → List Place → Type 0
AllAfter path [] = Unit {0}
AllAfter path (p ∷ ps) = PathBefore path p.path × AllAfter path ps

-- each path comes before those of the places behind it
abbrev pub PathsAscend : List Place → Type 0
PathsAscend [] = Unit {0}
PathsAscend (p ∷ ps) = AllAfter p.path ps × PathsAscend ps

-- the name comes before those of the members
abbrev pub IsBelow : List ℕ → Members → Type 0
IsBelow name no_members = Unit {0}
IsBelow name (member k d ms) = (slice_cmp nat_cmp name k ≡ Less) × IsBelow name ms

-- the names of each object ascend, as the JSON crate keeps them
abbrev mutual
  pub NamesAscend : Data → Type 0
  NamesAscend (array ds) = ItemsAscend ds
  NamesAscend (object ms) = MembersAscend ms
  NamesAscend _ = Unit {0}

  pub ItemsAscend : Items → Type 0
  ItemsAscend no_items = Unit {0}
  ItemsAscend (item d ds) = NamesAscend d × ItemsAscend ds

  pub MembersAscend : Members → Type 0
  MembersAscend no_members = Unit {0}
  MembersAscend (member name d ms) = NamesAscend d × IsBelow name ms × MembersAscend ms
