-- Rows after a change.
use Rattle.std.proofs.Common.{◌≡◌, ℕ, ◌==◌, inl, inr, Bool, true, false, cond, List, [], ◌∷◌, length, Option, None, Some, refl, sym, ap, ◌∙◌, subst, arith, bytes_eq}
use Rattle.std.specs.FinMap as finite
use Rattle.std.specs.Cmp.Lexicographic.{bytes_decides}
use Rattle.indexmap.specs.IndexMap.{IndexMap, get}
use Rattle.std.proofs.lemmas.Bool.Decides.{nat_tests}
use Rattle.pol_prefixes.specs.AddressTable.{AddressTable, number_in}
use Rattle.pol_data.specs.contracts.text.TextPartialEq.TheImpl as text
use Rattle.pol_map_changes.specs.declared.change.Change.{Change}
use Rattle.pol_map_changes.specs.Changes.{changed}
use Rattle.pol_mapkey.specs.MapKey.{key_cmp}
use Rattle.pol_mapkey.specs.declared.Kind.{Kind}
use Rattle.pol_history.specs.Content.{BoardRow, PublishedMap, if_of, with_change, with_row}
use Rattle.pol_board_view.specs.declared.row.FaceRow.{FaceRow}
use Rattle.pol_board_view.specs.declared.row.FaceMap.{FaceMap}
use Rattle.pol_board_view.specs.Rows.{ChangesMap, Holds, HoldsMap, HoldsRow, IsHeld, IsMap, IsShownFirst, IsShownLess, IsShownMore, row_with}

no_length : {X : Type 0} (xs : List X) → length xs ≡ 0 → xs ≡ []
no_length [] none = refl
no_length (x ∷ xs) none = absurd (omega (arith, none))

pub no_entries : finite.entries (finite.empty {X = Kind} {R = key_cmp}) ≡ []
no_entries =
    no_length (finite.entries (finite.empty {X = Kind} {R = key_cmp}))
    (sym (finite.len-entries (finite.empty {X = Kind} {R = key_cmp})) ∙ finite.len-empty key_cmp Kind)

pub first-map : (shown : FaceMap) (held : Option PublishedMap) (new : PublishedMap) (changes : List Change) (addresses : AddressTable) (revision : ℕ) → HoldsMap None held
    → ChangesMap changes addresses revision held new → IsShownFirst shown changes addresses revision → IsMap shown new
first-map shown None new changes addresses revision holds makes is = record {
  revision = is.revision_is ∙ makes.revision_is;
  table = ap finite.entries is.trie ∙ makes.leads finite.empty no_entries;
  numbers = λ address. ap (number_in address) is.addresses_are ∙ makes.numbers address;
}
first-map shown (Some map) new changes addresses revision holds makes is = absurd holds

pub more-map : (old shown : FaceMap) (held : Option PublishedMap) (new : PublishedMap) (changes : List Change) (addresses : AddressTable) (revision : ℕ) → HoldsMap (Some old) held
    → ChangesMap changes addresses revision held new → IsShownMore old shown changes addresses revision → IsMap shown new
more-map old shown None new changes addresses revision holds makes is = absurd holds
more-map old shown (Some map) new changes addresses revision holds makes is = record {
  revision = is.revision_is ∙ makes.revision_is;
  table = ap finite.entries is.trie ∙ makes.leads old.trie ((holds is.was_whole).table);
  numbers = λ address. ap (number_in address) is.addresses_are ∙ makes.numbers address;
}

pub less-map : (old shown : FaceMap) (held : Option PublishedMap) → HoldsMap (Some old) held → IsShownLess old shown → HoldsMap (Some shown) held
less-map old shown None holds is = holds
less-map old shown (Some map) holds (inl same) = subst (λ (s : FaceMap). HoldsMap (Some s) (Some map)) (sym same) holds
less-map old shown (Some map) holds (inr broken) = λ whole. absurd (cc (broken, whole))

-- ---- rows by name

row_step : (test : Bool) (now was : Option FaceRow) (held live : Option BoardRow) → HoldsRow now held → HoldsRow was live → HoldsRow (cond test now was) (cond test held live)
row_step true now was held live here there = here
row_step false now was held live here there = there

module _ {S : Type 0} (old new : IndexMap (List ℕ) FaceRow S) (live : List ℕ → Option BoardRow) (holds : Holds old live) (name : List ℕ) where
  -- one name has another row, or none
  pub holds-with : (now : Option FaceRow) (held : Option BoardRow) → ((q : List ℕ) → get text.ghosts.eq new q ≡ cond (bytes_eq name q) now (get text.ghosts.eq old q))
      → HoldsRow now held → Holds new (with_row name held live)
  holds-with now held updates here = record {
    each = λ q. subst (λ (o : Option FaceRow). HoldsRow o (with_row name held live q)) (sym (updates q))
        (row_step (bytes_eq name q) now (get text.ghosts.eq old q) held (live q) here (holds.each q));
  }

  changed_step : (q : List ℕ) (test : Bool) (row : FaceRow) (added : ℕ) (change : BoardRow → BoardRow) → bytes_eq name q ≡ test
      → HoldsRow (Some row) (if_of added change (live name))
      → HoldsRow (cond test (Some row) (get text.ghosts.eq old q)) (cond test (if_of added change (live q)) (live q))
  changed_step q true row added change is here =
      let same : name ≡ q = (bytes_decides name q).0 is in
      subst (λ (n : List ℕ). HoldsRow (Some row) (if_of added change (live n))) same here
  changed_step q false row added change is here = holds.each q

  -- one name's row has changed
  pub holds-changed : (row : FaceRow) (added : ℕ) (change : BoardRow → BoardRow)
      → ((q : List ℕ) → get text.ghosts.eq new q ≡ cond (bytes_eq name q) (Some row) (get text.ghosts.eq old q))
      → HoldsRow (Some row) (if_of added change (live name)) → Holds new (with_change (record { name = name; added = added }) change live)
  holds-changed row added change updates here = record {
    each = λ q. subst (λ (o : Option FaceRow). HoldsRow o (with_change (record { name = name; added = added }) change live q)) (sym (updates q))
        (changed_step q (bytes_eq name q) row added change refl here);
  }

  same_step : (q : List ℕ) (test : Bool) (row : FaceRow) → bytes_eq name q ≡ test → HoldsRow (Some row) (live name)
      → HoldsRow (cond test (Some row) (get text.ghosts.eq old q)) (live q)
  same_step q true row is here =
      let same : name ≡ q = (bytes_decides name q).0 is in subst (λ (n : List ℕ). HoldsRow (Some row) (live n)) same here
  same_step q false row is here = holds.each q

  -- one name's row has changed, and holds the same
  pub holds-same : (row : FaceRow) → ((q : List ℕ) → get text.ghosts.eq new q ≡ cond (bytes_eq name q) (Some row) (get text.ghosts.eq old q))
      → HoldsRow (Some row) (live name) → Holds new live
  holds-same row updates here = record {
    each = λ q. subst (λ (o : Option FaceRow). HoldsRow o (live q)) (sym (updates q)) (same_step q (bytes_eq name q) row refl here);
  }

-- a name without a row has no live endpoint, so a change of it changes nothing
none_step : (q name : List ℕ) (test : Bool) (row : Option FaceRow) (live : List ℕ → Option BoardRow) (added : ℕ) (change : BoardRow → BoardRow) → bytes_eq name q ≡ test
    → live name ≡ None → HoldsRow row (live q) → HoldsRow row (cond test (if_of added change (live q)) (live q))
none_step q name true row live added change is none holds =
    let same : name ≡ q = (bytes_decides name q).0 is in
    let here : live q ≡ None = ap live (sym same) ∙ none in
    subst (λ (o : Option BoardRow). HoldsRow row (if_of added change o)) (sym here) (subst (λ (o : Option BoardRow). HoldsRow row o) here holds)
none_step q name false row live added change is none holds = holds

none_held : (row : Option FaceRow) (held : Option BoardRow) → row ≡ None → HoldsRow row held → held ≡ None
none_held None None is holds = refl
none_held None (Some held) is holds = absurd holds
none_held (Some row) held is holds = absurd (cc is)

pub holds-none : {S : Type 0} (rows : IndexMap (List ℕ) FaceRow S) (live : List ℕ → Option BoardRow) → Holds rows live → (name : List ℕ) → get text.ghosts.eq rows name ≡ None
    → (added : ℕ) (change : BoardRow → BoardRow) → Holds rows (with_change (record { name = name; added = added }) change live)
holds-none rows live holds name none added change = record {
  each = λ q. none_step q name (bytes_eq name q) (get text.ghosts.eq rows q) live added change refl
      (none_held (get text.ghosts.eq rows name) (live name) none (holds.each name)) (holds.each q);
}

-- ---- one row

pub row-published : (row : FaceRow) (held : BoardRow) (new : PublishedMap) (map : Option FaceMap) (added commits revision : ℕ) → row.added ≡ added → IsHeld row held
    → HoldsMap map (Some new)
    → HoldsRow (Some (record { added = row.added; report = Some (record { revision = revision; commits = commits; published = Some revision }); map = map }))
    (if_of added (row_with commits revision new) (Some held))
row-published row held new map added commits revision here is holds =
    let now : FaceRow = record { added = row.added; report = Some (record { revision = revision; commits = commits; published = Some revision }); map = map } in
    let one : held.added ≡ added = sym is.added ∙ here in
    let same : (held.added == added) ≡ true = grind (arith, nat_tests, one) in
    subst (λ (b : Bool). HoldsRow (Some now) (cond b (Some (row_with commits revision new held)) (Some held))) (sym same)
    (record { added = is.added; report = refl; map = holds })
