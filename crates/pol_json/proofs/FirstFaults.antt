-- The first fault of a document, and a document without one.
use Rattle.std.proofs.Common.{◌≡◌, inl, inr, List, [], ◌∷◌, ◌++◌, Option, None, Some, option_map, Ok, Err, refl, sym, ap, subst, ◌∙◌}
use Rattle.std.specs.Option.{option_or}
use Rattle.serde_json.specs.Data.{Data}
use Rattle.pol_json.specs.declared.fault.DocFault.{DocFault}
use Rattle.pol_json.specs.declared.table.Content.TheVariants.{Object}
use Rattle.pol_json.specs.declared.table.ObjectKind.{ObjectKind}
use Rattle.pol_json.specs.declared.table.ObjectKind.TheVariants.{Policy, NetworkPolicy}
use Rattle.pol_json.specs.Build.{policy_of}
use Rattle.pol_json.specs.Document.{head_fault, places_in, places_of, first_fault, unless_fault, read_document}
use Rattle.pol_json.specs.Look.{IsAt, IsOneOf, AllSound, IsRead, IsFirstFault}
use Rattle.pol_json.specs.Network.{network_fault, network_head_fault}
use Rattle.pol_json.specs.Path.{fault_of, fault_by, path_text}
use Rattle.pol_json.specs.Places.{Step, Place, Cause, Found, cause_of, first_found}
use Rattle.pol_json.specs.Table.{Shape, unknown, unsupported, one, list_of}
use Rattle.pol_json.proofs.Looking.{places_are_led_to, led_to_is_a_place}
use Rattle.pol_rule.specs.declared.raw.RawPolicy.{RawPolicy}

-- ---- lists of places

-- the first cause of a list of places
record FirstOf (ps : List Place) (found : Found) : Type 0 where
  before : List Place
  place : Place
  after : List Place
  in_order : ps ≡ before ++ place ∷ after
  sound_before : AllSound before
  holds : cause_of place.shape place.value ≡ Some found.cause
  way : found.path ≡ place.path

abbrev found_with : Place → Option Cause → Option Found
found_with place cause = option_map (λ c. record { path = place.path; cause = c }) cause

first_here : (p : Place) (ps : List Place) (c : Option Cause) (found : Found) → cause_of p.shape p.value ≡ c
    → option_or (found_with p c) (first_found ps) ≡ Some found → (first_found ps ≡ Some found → FirstOf ps found) → FirstOf (p ∷ ps) found
first_here p ps None found sound is more =
    let rest = more is in
    record {
      before = p ∷ rest.before;
      place = rest.place;
      after = rest.after;
      in_order = ap (λ qs. p ∷ qs) rest.in_order;
      sound_before = (sound, rest.sound_before);
      holds = rest.holds;
      way = rest.way;
    }
first_here p ps (Some cause) found holds is more =
    let own : Found = record { path = p.path; cause = cause } in
    let same : own ≡ found = cc in
    record {
      before = [];
      place = p;
      after = ps;
      in_order = refl;
      sound_before = tt;
      holds = holds ∙ ap (λ (f : Found). Some f.cause) same;
      way = ap (λ (f : Found). f.path) (sym same);
    }

first_of : (ps : List Place) (found : Found) → first_found ps ≡ Some found → FirstOf ps found
first_of [] found is = cc
first_of (p ∷ ps) found is = first_here p ps (cause_of p.shape p.value) found refl is (first_of ps found)

none_here : (p : Place) (ps : List Place) (c : Option Cause) → cause_of p.shape p.value ≡ c → option_or (found_with p c) (first_found ps) ≡ None
    → (cause_of p.shape p.value ≡ None) × (first_found ps ≡ None)
none_here p ps None sound is = (sound, is)
none_here p ps (Some cause) sound is = cc

-- where nothing is found, nothing is wrong at any place
none_of : (ps : List Place) (place : Place) → first_found ps ≡ None → IsOneOf place ps → cause_of place.shape place.value ≡ None
none_of [] place is h = absurd h
none_of (p ∷ ps) place is (inl same) = ap (λ (q : Place). cause_of q.shape q.value) (sym same) ∙ (none_here p ps (cause_of p.shape p.value) refl is).0
none_of (p ∷ ps) place is (inr h) = none_of ps place (none_here p ps (cause_of p.shape p.value) refl is).1 h

among_middle : (before after : List Place) (place : Place) → IsOneOf place (before ++ place ∷ after)
among_middle [] after place = inl refl
among_middle (p ∷ before) after place = inr (among_middle before after place)

-- ---- documents

ok_has_no_fault : (fault : Option DocFault) (policy raw : RawPolicy) → unless_fault fault raw ≡ Ok policy → fault ≡ None
ok_has_no_fault None policy raw is = refl
ok_has_no_fault (Some f) policy raw is = cc

err_has_the_fault : (fault : Option DocFault) (f : DocFault) (raw : RawPolicy) → unless_fault fault raw ≡ Err f → fault ≡ Some f
err_has_the_fault None f raw is = cc
err_has_the_fault (Some g) f raw is = cc

neither : (head : Option DocFault) (found : Option Found) → option_or head (option_map fault_of found) ≡ None → found ≡ None
neither None None is = refl
neither None (Some f) is = cc
neither (Some g) found is = cc

found_is : (found : Option Found) (fault : DocFault) → option_map fault_of found ≡ Some fault → (f : Found) × (found ≡ Some f) × (fault ≡ fault_of f)
found_is None fault is = cc
found_is (Some f) fault is = (f, refl, cc)

-- where nothing is found, nothing is wrong at what a path leads to
pub sound_at : (kind : ObjectKind) (d : Data) → first_found (places_in kind d) ≡ None → (path : List Step) (shape : Shape) (value : Data)
    → IsAt kind path d shape value → cause_of shape value ≡ None
sound_at kind d none path shape value led =
    none_of (places_in kind d) (record { path = path; shape = shape; value = value }) none (led_to_is_a_place path (one (Object kind)) d shape value led)

-- in a document that is read nothing is found
pub nothing_found : (d : Data) (policy : RawPolicy) → read_document d ≡ Ok policy → first_found (places_of d) ≡ None
nothing_found d policy is = neither (head_fault d) (first_found (places_of d)) (ok_has_no_fault (first_fault d) policy (policy_of d) is)

-- a document that is read has nothing wrong at what a path leads to
pub read_is_sound : (d : Data) (policy : RawPolicy) → read_document d ≡ Ok policy → (path : List Step) (shape : Shape) (value : Data)
    → IsAt Policy path d shape value → cause_of shape value ≡ None
read_is_sound d policy is = sound_at Policy d (nothing_found d policy is)

-- the same, of a NetworkPolicy
pub nothing_found_in_network : (d : Data) → network_fault d ≡ None → first_found (places_in NetworkPolicy d) ≡ None
nothing_found_in_network d none = neither (network_head_fault d) (first_found (places_in NetworkPolicy d)) none

pub network_is_sound : (d : Data) → network_fault d ≡ None → (path : List Step) (shape : Shape) (value : Data)
    → IsAt NetworkPolicy path d shape value → cause_of shape value ≡ None
network_is_sound d none = sound_at NetworkPolicy d (nothing_found_in_network d none)

sound_is_read : (shape : Shape) (value : Data) → cause_of shape value ≡ None → IsRead shape
sound_is_read unknown value is = cc
sound_is_read (unsupported name) value is = cc
sound_is_read (one content) value is = tt
sound_is_read (list_of content) value is = tt

-- a document that is read has only members that the table has a shape for
pub read_is_of_the_table : (d : Data) (policy : RawPolicy) → read_document d ≡ Ok policy → (path : List Step) (shape : Shape) (value : Data)
    → IsAt Policy path d shape value → IsRead shape
read_is_of_the_table d policy is path shape value led = sound_is_read shape value (read_is_sound d policy is path shape value led)

-- what is found first, told as the fault of a document of this kind
told_first : (kind : ObjectKind) (d : Data) (fault : DocFault) → option_map fault_of (first_found (places_in kind d)) ≡ Some fault → IsFirstFault kind d fault
told_first kind d fault is =
    let found = found_is (first_found (places_in kind d)) fault is in
    let first = first_of (places_in kind d) found.0 found.1 in
    let among : IsOneOf first.place (places_in kind d) = subst (IsOneOf first.place) (sym first.in_order) (among_middle first.before first.after first.place) in
    record {
      before = first.before;
      place = first.place;
      after = first.after;
      cause = found.0.cause;
      in_order = first.in_order;
      sound_before = first.sound_before;
      leads = places_are_led_to (one (Object kind)) d first.place among;
      holds = first.holds;
      told = found.2 ∙ ap (λ path. fault_by path_text path found.0.cause) first.way;
    }

-- the fault of a document that is refused behind its head
pub refused_at_the_first : (d : Data) (fault : DocFault) → head_fault d ≡ None → read_document d ≡ Err fault → IsFirstFault Policy d fault
refused_at_the_first d fault head is =
    let both = err_has_the_fault (first_fault d) fault (policy_of d) is in
    told_first Policy d fault (rw head at both)

pub network_refused_at_the_first : (d : Data) (fault : DocFault) → network_head_fault d ≡ None → network_fault d ≡ Some fault → IsFirstFault NetworkPolicy d fault
network_refused_at_the_first d fault head is = told_first NetworkPolicy d fault (rw head at is)
