-- The places of a value are visited in the order of their paths.
use Rattle.std.proofs.Common.{ℕ, suc, ◌<◌, if◌then◌else◌, Bool, true, false, inl, inr, List, [], ◌∷◌, ◌++◌, map, refl, arith}
use Rattle.serde_json.specs.Data.{Data, array, object, Items, no_items, item, Members, no_members, member}
use Rattle.pol_json.specs.declared.table.ObjectKind.{ObjectKind}
use Rattle.pol_json.specs.declared.table.Content.{Content}
use Rattle.pol_json.specs.declared.table.Content.TheVariants.{Object}
use Rattle.pol_json.specs.Look.{StepBefore, PathBefore, AllAfter, PathsAscend, IsBelow, NamesAscend, ItemsAscend, MembersAscend}
use Rattle.pol_json.specs.Members.{is_null}
use Rattle.pol_json.specs.Places.{Step, named, numbered, Place, under, unless_absent, below, below_members, below_items, places}
use Rattle.pol_json.specs.Table.{Shape, one, list_of, shape_of}

-- ---- lists of places

-- each of the first comes before each of the second
abbrev AllBefore : List Place → List Place → Type 0
AllBefore [] qs = Unit {0}
AllBefore (p ∷ ps) qs = AllAfter p.path qs × AllBefore ps qs

after_both : (path : List Step) (ps qs : List Place) → AllAfter path ps → AllAfter path qs → AllAfter path (ps ++ qs)
after_both path [] qs a b = b
after_both path (p ∷ ps) qs a b = (a.0, after_both path ps qs a.1 b)

ascend_both : (ps qs : List Place) → PathsAscend ps → PathsAscend qs → AllBefore ps qs → PathsAscend (ps ++ qs)
ascend_both [] qs a b before = b
ascend_both (p ∷ ps) qs a b before = (after_both p.path ps qs a.0 before.0, ascend_both ps qs a.1 b before.1)

after_under : (step : Step) (path : List Step) (ps : List Place) → AllAfter path ps → AllAfter (step ∷ path) (map (under step) ps)
after_under step path [] a = tt
after_under step path (p ∷ ps) a = (inr (refl, a.0), after_under step path ps a.1)

ascend_under : (step : Step) (ps : List Place) → PathsAscend ps → PathsAscend (map (under step) ps)
ascend_under step [] a = tt
ascend_under step (p ∷ ps) a = (after_under step p.path ps a.0, ascend_under step ps a.1)

absent_or : (P : List Place → Type 0) (d : Data) (ps : List Place) → P [] → P ps → P (unless_absent d ps)
absent_or P d ps none some = by_null P (is_null d) ps none some where
  by_null : (P : List Place → Type 0) (r : Bool) (ps : List Place) → P [] → P ps → P (if r then [] else ps)
  by_null P true ps none some = none
  by_null P false ps none some = some

-- ---- what is below a value comes after it

top_under : (step : Step) (ps : List Place) → AllAfter [] (map (under step) ps)
top_under step [] = tt
top_under step (p ∷ ps) = (tt, top_under step ps)

top_members : (kind : ObjectKind) (ms : Members) → AllAfter [] (below_members kind ms)
top_members kind no_members = tt
top_members kind (member name d ms) =
    let own = map (under (named name)) (places (shape_of kind name) d) in
    after_both [] (unless_absent d own) (below_members kind ms)
    (absent_or (AllAfter []) d own tt (top_under (named name) (places (shape_of kind name) d))) (top_members kind ms)

top_items : (content : Content) (k : ℕ) (ds : Items) → AllAfter [] (below_items content k ds)
top_items content k no_items = tt
top_items content k (item d ds) =
    after_both [] (map (under (numbered k)) (places (one content) d)) (below_items content (suc k) ds) (top_under (numbered k) (places (one content) d))
    (top_items content (suc k) ds)

top_first : (shape : Shape) (d : Data) → AllAfter [] (below shape d)
top_first (one (Object kind)) (object ms) = top_members kind ms
top_first (list_of content) (array ds) = top_items content 0 ds
top_first _ _ = tt

-- ---- what is below one step comes before what is below a later one

abbrev StepAfter : Step → List Step → Type 0
StepAfter s [] = ⊥
StepAfter s (t ∷ path) = StepBefore s t

abbrev AllStepsAfter : Step → List Place → Type 0
AllStepsAfter s [] = Unit {0}
AllStepsAfter s (p ∷ ps) = StepAfter s p.path × AllStepsAfter s ps

steps_both : (s : Step) (ps qs : List Place) → AllStepsAfter s ps → AllStepsAfter s qs → AllStepsAfter s (ps ++ qs)
steps_both s [] qs a b = b
steps_both s (p ∷ ps) qs a b = (a.0, steps_both s ps qs a.1 b)

steps_under : (s t : Step) (ps : List Place) → StepBefore s t → AllStepsAfter s (map (under t) ps)
steps_under s t [] before = tt
steps_under s t (p ∷ ps) before = (before, steps_under s t ps before)

steps_members : (kind : ObjectKind) (name : List ℕ) (ms : Members) → IsBelow name ms → AllStepsAfter (named name) (below_members kind ms)
steps_members kind name no_members is = tt
steps_members kind name (member k d ms) is =
    let own = map (under (named k)) (places (shape_of kind k) d) in
    steps_both (named name) (unless_absent d own) (below_members kind ms)
    (absent_or (AllStepsAfter (named name)) d own tt (steps_under (named name) (named k) (places (shape_of kind k) d) is.0))
    (steps_members kind name ms is.1)

steps_items : (content : Content) (i k : ℕ) (ds : Items) → i < k → AllStepsAfter (numbered i) (below_items content k ds)
steps_items content i k no_items less = tt
steps_items content i k (item d ds) less =
    steps_both (numbered i) (map (under (numbered k)) (places (one content) d)) (below_items content (suc k) ds)
    (steps_under (numbered i) (numbered k) (places (one content) d) less) (steps_items content i (suc k) ds (omega arith))

path_before : (s : Step) (path other : List Step) → StepAfter s other → PathBefore (s ∷ path) other
path_before s path [] after = absurd after
path_before s path (t ∷ other) after = inl after

after_step : (s : Step) (path : List Step) (qs : List Place) → AllStepsAfter s qs → AllAfter (s ∷ path) qs
after_step s path [] after = tt
after_step s path (q ∷ qs) after = (path_before s path q.path after.0, after_step s path qs after.1)

before_steps : (s : Step) (ps qs : List Place) → AllStepsAfter s qs → AllBefore (map (under s) ps) qs
before_steps s [] qs after = tt
before_steps s (p ∷ ps) qs after = (after_step s p.path qs after, before_steps s ps qs after)

-- ---- the order of visits

ascend_places : (shape : Shape) (d : Data) → PathsAscend (below shape d) → PathsAscend (places shape d)
ascend_places shape d below = (top_first shape d, below)

ascend_member : (kind : ObjectKind) (name : List ℕ) (d : Data) (ms : Members) → PathsAscend (below (shape_of kind name) d) → IsBelow name ms
    → PathsAscend (below_members kind ms) → PathsAscend (below_members kind (member name d ms))
ascend_member kind name d ms deeper is more =
    let ps = places (shape_of kind name) d in
    let own = map (under (named name)) ps in
    let next = below_members kind ms in
    ascend_both (unless_absent d own) next
    (absent_or PathsAscend d own tt (ascend_under (named name) ps (ascend_places (shape_of kind name) d deeper))) more
    (absent_or (λ qs. AllBefore qs next) d own tt (before_steps (named name) ps next (steps_members kind name ms is)))

ascend_item : (content : Content) (k : ℕ) (d : Data) (ds : Items) → PathsAscend (below (one content) d) → PathsAscend (below_items content (suc k) ds)
    → PathsAscend (below_items content k (item d ds))
ascend_item content k d ds deeper more =
    let ps = places (one content) d in
    let next = below_items content (suc k) ds in
    ascend_both (map (under (numbered k)) ps) next (ascend_under (numbered k) ps (ascend_places (one content) d deeper)) more
    (before_steps (numbered k) ps next (steps_items content k (suc k) ds (omega arith)))

mutual
  ascend_below : (shape : Shape) (d : Data) → NamesAscend d → PathsAscend (below shape d)
  ascend_below (one (Object kind)) (object ms) ascend = ascend_members kind ms ascend
  ascend_below (list_of content) (array ds) ascend = ascend_items content 0 ds ascend
  ascend_below _ _ ascend = tt

  ascend_members : (kind : ObjectKind) (ms : Members) → MembersAscend ms → PathsAscend (below_members kind ms)
  ascend_members kind no_members ascend = tt
  ascend_members kind (member name d ms) ascend =
      ascend_member kind name d ms (ascend_below (shape_of kind name) d ascend.0) ascend.1 (ascend_members kind ms ascend.2)

  ascend_items : (content : Content) (k : ℕ) (ds : Items) → ItemsAscend ds → PathsAscend (below_items content k ds)
  ascend_items content k no_items ascend = tt
  ascend_items content k (item d ds) ascend =
      ascend_item content k d ds (ascend_below (one content) d ascend.0) (ascend_items content (suc k) ds ascend.1)

-- where the names of objects ascend, places are visited in the order of their paths
pub places_ascend : (shape : Shape) (d : Data) → NamesAscend d → PathsAscend (places shape d)
places_ascend shape d ascend = ascend_places shape d (ascend_below shape d ascend)
