-- One turn of a loop over what an object or a list holds.
use Rattle.std.proofs.Common.{◌≡◌, ℕ, ◌+◌, ◌<◌, List, ◌∷◌, ◌++◌, length, drop, get_or, map, Option, None, Some, Result, Err, string_bytes, refl, sym, subst, ◌∙◌, add-one, drop-cons}
use Rattle.std.specs.Option.{option_or}
use Rattle.serde_json.specs.View.{view, items_view, members_view}
use Rattle.serde_json.proofs.Views.{Entry}
use Rattle.serde_json.specs.declared.value.Value.{Value}
use Rattle.pol_json.specs.declared.fault.DocFault.{DocFault}
use Rattle.pol_json.specs.declared.fault.DocError.{DocError}
use Rattle.pol_json.specs.declared.fault.DocError.TheVariants as error
use Rattle.pol_json.specs.declared.table.ObjectKind.{ObjectKind}
use Rattle.pol_json.specs.declared.table.Content.{Content}
use Rattle.pol_json.specs.Gives.{Finds}
use Rattle.pol_json.specs.Path.{fault_below}
use Rattle.pol_json.specs.Places.{named, numbered, Place, Found, first_found, under, unless_absent, places, below_members, below_items}
use Rattle.pol_json.specs.Table.{one, shape_of}
use Rattle.pol_json.proofs.Steps.{first_of_both}

none_before : (front rest : Option Found) → fault_below front ≡ None → option_or front rest ≡ rest
none_before None rest none = refl
none_before (Some f) rest none = cc

-- where nothing is found in front, the rest decides
pub passed : (front rest : List Place) (total : Option Found) → total ≡ first_found (front ++ rest) → fault_below (first_found front) ≡ None → total ≡ first_found rest
passed front rest total is none = is ∙ first_of_both front rest ∙ none_before (first_found front) (first_found rest) none

some_before : (front rest : Option Found) (fault : DocFault) → fault_below front ≡ Some fault → fault_below (option_or front rest) ≡ Some fault
some_before None rest fault is = cc
some_before (Some f) rest fault is = is

-- what is found in front is the first of all
pub stopped : {Y : Type 0} (front rest : List Place) (total : Option Found) (e : DocError) (result : Result Y DocError)
    → total ≡ first_found (front ++ rest) → Finds {Y = Y} (fault_below (first_found front)) (Err e) → result ≡ Err e → Finds (fault_below total) result
stopped front rest total error.Memory result is finds same = rw same tt
stopped front rest total (error.Fault fault) result is finds same =
    rw (same, is, first_of_both front rest) (some_before (first_found front) (first_found rest) fault finds)

-- the places of an item that is there come before those of the next ones
pub item_turn : (content : Content) (vs : List Value) (i : ℕ) (v : Value) → i < length vs → v ≡ get_or vs i v
    → below_items content i (items_view (drop i vs)) ≡ map (under (numbered i)) (places (one content) (view v)) ++ below_items content (i + 1) (items_view (drop (i + 1) vs))
item_turn content vs i v within is =
    let here : drop i vs ≡ v ∷ drop (i + 1) vs = rw (drop-cons vs i v within, ← is, add-one) refl in
    rw (here, add-one) refl

-- the places of a member, and those of the next ones
abbrev pub ThenNext : ObjectKind → List Entry → List Entry → Value → List ℕ → Type 0
ThenNext kind entries left v name =
    below_members kind (members_view entries)
    ≡ unless_absent (view v) (map (under (named name)) (places (shape_of kind name) (view v))) ++ below_members kind (members_view left)

-- the places of a member come before those of the next ones
pub member_turn : (kind : ObjectKind) (entries left : List Entry) (e : Entry) (name : List ℕ) → entries ≡ e ∷ left → name ≡ string_bytes e.0
    → ThenNext kind entries left e.1 name
member_turn kind entries left e name is same =
    let own : ThenNext kind entries left e.1 (string_bytes e.0) = rw is refl in
    subst (ThenNext kind entries left e.1) (sym same) own
