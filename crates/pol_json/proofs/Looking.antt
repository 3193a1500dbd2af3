-- The places of a value are exactly what the paths from it lead to.
use Rattle.std.proofs.Common.{◌≡◌, ℕ, zero, suc, ◌+◌, Bool, true, false, ◌⊎◌, inl, inr, List, [], ◌∷◌, ◌++◌, map, Some, refl, sym, ap, subst, ◌∙◌, arith}
use Rattle.serde_json.specs.Data.{Data, array, object, Items, no_items, item, Members, no_members, member}
use Rattle.serde_json.specs.Find.{get_item}
use Rattle.pol_json.specs.declared.table.ObjectKind.{ObjectKind}
use Rattle.pol_json.specs.declared.table.Content.{Content}
use Rattle.pol_json.specs.declared.table.Content.TheVariants.{Object}
use Rattle.pol_json.specs.Look.{HasMember, StepsTo, LeadsTo, IsOneOf}
use Rattle.pol_json.specs.Members.{is_null}
use Rattle.pol_json.specs.Places.{Step, named, numbered, Place, here, under, unless_absent, below, below_members, below_items, places}
use Rattle.pol_json.specs.Table.{Shape, one, list_of, shape_of}

-- ---- lists of places

among_left : (p : Place) (ps qs : List Place) → IsOneOf p ps → IsOneOf p (ps ++ qs)
among_left p [] qs h = absurd h
among_left p (x ∷ ps) qs (inl e) = inl e
among_left p (x ∷ ps) qs (inr h) = inr (among_left p ps qs h)

among_right : (p : Place) (ps qs : List Place) → IsOneOf p qs → IsOneOf p (ps ++ qs)
among_right p [] qs h = h
among_right p (x ∷ ps) qs h = inr (among_right p ps qs h)

among_cases : (p : Place) (ps qs : List Place) → IsOneOf p (ps ++ qs) → IsOneOf p ps ⊎ IsOneOf p qs
among_cases p [] qs h = inr h
among_cases p (x ∷ ps) qs (inl e) = inl (inl e)
among_cases p (x ∷ ps) qs (inr h) = elim (among_cases p ps qs h) [ inl a ↦ inl (inr a) | inr b ↦ inr b ]

among_under : (step : Step) (p : Place) (ps : List Place) → IsOneOf p ps → IsOneOf (under step p) (map (under step) ps)
among_under step p [] h = absurd h
among_under step p (x ∷ ps) (inl e) = inl (ap (under step) e)
among_under step p (x ∷ ps) (inr h) = inr (among_under step p ps h)

from_under : (step : Step) (p : Place) (ps : List Place) → IsOneOf p (map (under step) ps) → (q : Place) × IsOneOf q ps × (under step q ≡ p)
from_under step p [] h = absurd h
from_under step p (x ∷ ps) (inl e) = (x, inl refl, e)
from_under step p (x ∷ ps) (inr h) = let rest = from_under step p ps h in (rest.0, inr rest.1, rest.2)

-- ---- each place is what its path leads to

abbrev pub IsLedTo : Shape → Data → Place → Type 0
IsLedTo shape d p = LeadsTo p.path shape d p.shape p.value

led_here : (shape : Shape) (d : Data) (p : Place) → here shape d ≡ p → IsLedTo shape d p
led_here shape d p is = subst (IsLedTo shape d) is (refl, refl)

led_step : (step : Step) (shape : Shape) (d : Data) (t : Shape) (f : Data) (p q : Place)
    → StepsTo step shape d t f → under step q ≡ p → IsLedTo t f q → IsLedTo shape d p
led_step step shape d t f p q steps is led = subst (IsLedTo shape d) is (t, f, steps, led)

led_among : (shape : Shape) (d : Data) (p : Place) → IsOneOf p (places shape d) → ((q : Place) → IsOneOf q (below shape d) → IsLedTo shape d q) → IsLedTo shape d p
led_among shape d p (inl is) deeper = led_here shape d p is
led_among shape d p (inr h) deeper = deeper p h

there_cases : (p : Place) (d : Data) (r : Bool) (ps : List Place) → is_null d ≡ r → IsOneOf p (unless_absent d ps) → (r ≡ false) × IsOneOf p ps
there_cases p d true ps is h = absurd (rw is at h)
there_cases p d false ps is h = (refl, rw is at h)

-- a place that a member leads to
record IntoMember (kind : ObjectKind) (ms : Members) (p : Place) : Type 0 where
  name : List ℕ
  rest : List Step
  inside : Data
  way : p.path ≡ named name ∷ rest
  has : HasMember name inside ms
  there : is_null inside ≡ false
  leads : LeadsTo rest (shape_of kind name) inside p.shape p.value

into_object : (kind : ObjectKind) (ms : Members) (p : Place) → IntoMember kind ms p → IsLedTo (one (Object kind)) (object ms) p
into_object kind ms p into =
    subst (λ path. LeadsTo path (one (Object kind)) (object ms) p.shape p.value) (sym into.way)
    (shape_of kind into.name, into.inside, (into.has, into.there, refl), into.leads)

into_this : (kind : ObjectKind) (name : List ℕ) (d : Data) (ms : Members) (p : Place) → IsOneOf p (unless_absent d (map (under (named name)) (places (shape_of kind name) d)))
    → ((q : Place) → IsOneOf q (below (shape_of kind name) d) → IsLedTo (shape_of kind name) d q) → IntoMember kind (member name d ms) p
into_this kind name d ms p h deeper =
    let found = there_cases p d (is_null d) (map (under (named name)) (places (shape_of kind name) d)) refl h in
    let from = from_under (named name) p (places (shape_of kind name) d) found.1 in
    let led : IsLedTo (shape_of kind name) d from.0 = led_among (shape_of kind name) d from.0 from.1 deeper in
    subst (IntoMember kind (member name d ms)) from.2
    (record { name = name; rest = from.0.path; inside = d; way = refl; has = inl (refl, refl); there = found.0; leads = led })

into_more : (kind : ObjectKind) (name : List ℕ) (d : Data) (ms : Members) (p : Place) → IntoMember kind ms p → IntoMember kind (member name d ms) p
into_more kind name d ms p into =
    record { name = into.name; rest = into.rest; inside = into.inside; way = into.way; has = inr into.has; there = into.there; leads = into.leads }

-- a place that an item leads to; the items are numbered from k
record IntoItem (content : Content) (k : ℕ) (ds : Items) (p : Place) : Type 0 where
  index : ℕ
  rest : List Step
  inside : Data
  way : p.path ≡ numbered (k + index) ∷ rest
  has : get_item index ds ≡ Some inside
  leads : LeadsTo rest (one content) inside p.shape p.value

into_list : (content : Content) (ds : Items) (p : Place) → IntoItem content 0 ds p → IsLedTo (list_of content) (array ds) p
into_list content ds p into =
    let way : p.path ≡ numbered into.index ∷ into.rest = into.way ∙ ap (λ n. numbered n ∷ into.rest) (omega arith) in
    subst (λ path. LeadsTo path (list_of content) (array ds) p.shape p.value) (sym way)
    (one content, into.inside, (into.has, refl), into.leads)

into_first : (content : Content) (k : ℕ) (d : Data) (ds : Items) (p : Place) → IsOneOf p (map (under (numbered k)) (places (one content) d))
    → ((q : Place) → IsOneOf q (below (one content) d) → IsLedTo (one content) d q) → IntoItem content k (item d ds) p
into_first content k d ds p h deeper =
    let from = from_under (numbered k) p (places (one content) d) h in
    let led : IsLedTo (one content) d from.0 = led_among (one content) d from.0 from.1 deeper in
    subst (IntoItem content k (item d ds)) from.2
    (record { index = zero; rest = from.0.path; inside = d; way = ap (λ n. numbered n ∷ from.0.path) (omega arith); has = refl; leads = led })

into_next : (content : Content) (k : ℕ) (d : Data) (ds : Items) (p : Place) → IntoItem content (suc k) ds p → IntoItem content k (item d ds) p
into_next content k d ds p into =
    record {
      index = suc into.index;
      rest = into.rest;
      inside = into.inside;
      way = into.way ∙ ap (λ n. numbered n ∷ into.rest) (omega arith);
      has = into.has;
      leads = into.leads;
    }

this_or_more : (kind : ObjectKind) (name : List ℕ) (d : Data) (ms : Members) (p : Place) → IsOneOf p (below_members kind (member name d ms))
    → ((q : Place) → IsOneOf q (below (shape_of kind name) d) → IsLedTo (shape_of kind name) d q) → (IsOneOf p (below_members kind ms) → IntoMember kind ms p)
    → IntoMember kind (member name d ms) p
this_or_more kind name d ms p h deeper more =
    elim (among_cases p (unless_absent d (map (under (named name)) (places (shape_of kind name) d))) (below_members kind ms) h) [
      | inl a ↦ into_this kind name d ms p a deeper
      | inr b ↦ into_more kind name d ms p (more b)
    ]

first_or_next : (content : Content) (k : ℕ) (d : Data) (ds : Items) (p : Place) → IsOneOf p (below_items content k (item d ds))
    → ((q : Place) → IsOneOf q (below (one content) d) → IsLedTo (one content) d q) → (IsOneOf p (below_items content (suc k) ds) → IntoItem content (suc k) ds p)
    → IntoItem content k (item d ds) p
first_or_next content k d ds p h deeper next =
    elim (among_cases p (map (under (numbered k)) (places (one content) d)) (below_items content (suc k) ds) h) [
      | inl a ↦ into_first content k d ds p a deeper
      | inr b ↦ into_next content k d ds p (next b)
    ]

mutual
  led_below : (shape : Shape) (d : Data) (p : Place) → IsOneOf p (below shape d) → IsLedTo shape d p
  led_below (one (Object kind)) (object ms) p h = into_object kind ms p (led_members kind ms p h)
  led_below (list_of content) (array ds) p h = into_list content ds p (led_items content 0 ds p h)
  led_below _ _ p h = absurd h

  led_members : (kind : ObjectKind) (ms : Members) (p : Place) → IsOneOf p (below_members kind ms) → IntoMember kind ms p
  led_members kind no_members p h = absurd h
  led_members kind (member name d ms) p h =
      this_or_more kind name d ms p h (λ q. led_below (shape_of kind name) d q) (led_members kind ms p)

  led_items : (content : Content) (k : ℕ) (ds : Items) (p : Place) → IsOneOf p (below_items content k ds) → IntoItem content k ds p
  led_items content k no_items p h = absurd h
  led_items content k (item d ds) p h =
      first_or_next content k d ds p h (λ q. led_below (one content) d q) (led_items content (suc k) ds p)

-- each place is what its path leads to
pub places_are_led_to : (shape : Shape) (d : Data) (p : Place) → IsOneOf p (places shape d) → IsLedTo shape d p
places_are_led_to shape d p h = led_among shape d p h (led_below shape d)

-- ---- what a path leads to is a place

abbrev pub place_at : List Step → Shape → Data → Place
place_at path s e = record { path = path; shape = s; value = e }

member_here : (kind : ObjectKind) (k : List ℕ) (e : Data) (q : Place) → is_null e ≡ false → IsOneOf q (places (shape_of kind k) e)
    → IsOneOf (under (named k) q) (unless_absent e (map (under (named k)) (places (shape_of kind k) e)))
member_here kind k e q there h = rw there (among_under (named k) q (places (shape_of kind k) e) h)

this_member : (kind : ObjectKind) (k name : List ℕ) (e f : Data) (q : Place) → k ≡ name → e ≡ f → is_null f ≡ false → IsOneOf q (places (shape_of kind name) f)
    → IsOneOf (under (named name) q) (unless_absent e (map (under (named k)) (places (shape_of kind k) e)))
this_member kind k name e f q same_name same_value there h =
    let by_name : IsOneOf q (places (shape_of kind k) f) = subst (λ n. IsOneOf q (places (shape_of kind n) f)) (sym same_name) h in
    let by_value : IsOneOf q (places (shape_of kind k) e) = subst (λ x. IsOneOf q (places (shape_of kind k) x)) (sym same_value) by_name in
    let there_too : is_null e ≡ false = ap is_null same_value ∙ there in
    subst (λ n. IsOneOf (under (named n) q) (unless_absent e (map (under (named k)) (places (shape_of kind k) e)))) same_name
    (member_here kind k e q there_too by_value)

among_members : (kind : ObjectKind) (ms : Members) (name : List ℕ) (f : Data) (q : Place) → HasMember name f ms → is_null f ≡ false
    → IsOneOf q (places (shape_of kind name) f) → IsOneOf (under (named name) q) (below_members kind ms)
among_members kind no_members name f q has there h = absurd has
among_members kind (member k e ms) name f q (inl is) there h =
    among_left (under (named name) q) (unless_absent e (map (under (named k)) (places (shape_of kind k) e))) (below_members kind ms)
    (this_member kind k name e f q is.0 is.1 there h)
among_members kind (member k e ms) name f q (inr has) there h =
    among_right (under (named name) q) (unless_absent e (map (under (named k)) (places (shape_of kind k) e))) (below_members kind ms)
    (among_members kind ms name f q has there h)

among_items : (content : Content) (k : ℕ) (ds : Items) (i : ℕ) (f : Data) (q : Place) → get_item i ds ≡ Some f
    → IsOneOf q (places (one content) f) → IsOneOf (under (numbered (k + i)) q) (below_items content k ds)
among_items content k no_items i f q has h = cc
among_items content k (item d ds) zero f q has h =
    let same : d ≡ f = cc in
    let own : IsOneOf q (places (one content) d) = subst (λ x. IsOneOf q (places (one content) x)) (sym same) h in
    let number : k ≡ k + zero = omega arith in
    subst (λ n. IsOneOf (under (numbered n) q) (below_items content k (item d ds))) number
    (among_left (under (numbered k) q) (map (under (numbered k)) (places (one content) d)) (below_items content (suc k) ds)
    (among_under (numbered k) q (places (one content) d) own))
among_items content k (item d ds) (suc i) f q has h =
    let number : suc k + i ≡ k + suc i = omega arith in
    subst (λ n. IsOneOf (under (numbered n) q) (below_items content k (item d ds))) number
    (among_right (under (numbered (suc k + i)) q) (map (under (numbered k)) (places (one content) d)) (below_items content (suc k) ds)
    (among_items content (suc k) ds i f q has h))

among_below : (step : Step) (shape : Shape) (d : Data) (t : Shape) (f : Data) (q : Place) → StepsTo step shape d t f → IsOneOf q (places t f)
    → IsOneOf (under step q) (below shape d)
among_below (named name) (one (Object kind)) (object ms) t f q steps h =
    among_members kind ms name f q steps.0 steps.1 (subst (λ u. IsOneOf q (places u f)) steps.2 h)
among_below (numbered i) (list_of content) (array ds) t f q steps h =
    let own : IsOneOf q (places (one content) f) = subst (λ u. IsOneOf q (places u f)) steps.1 h in
    let number : 0 + i ≡ i = omega arith in
    subst (λ n. IsOneOf (under (numbered n) q) (below_items content 0 ds)) number (among_items content 0 ds i f q steps.0 own)
among_below _ _ _ t f q steps h = absurd steps

-- what a path leads to is a place
pub led_to_is_a_place : (path : List Step) (shape : Shape) (d : Data) (s : Shape) (e : Data) → LeadsTo path shape d s e
    → IsOneOf (place_at path s e) (places shape d)
led_to_is_a_place [] shape d s e led =
    let same : here shape d ≡ place_at [] s e = subst (λ x. here shape d ≡ here s x) led.1 (ap (λ t. here t d) led.0) in
    inl same
led_to_is_a_place (step ∷ path) shape d s e (t, f, steps, rest) =
    inr (among_below step shape d t f (place_at path s e) steps (led_to_is_a_place path t f s e rest))
