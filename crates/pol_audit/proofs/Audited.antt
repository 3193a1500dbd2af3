-- The least packet on which two tables differ is the first of the first range.
use Rattle.std.proofs.Common.{◌≡◌, ◌≢◌, ℕ, ◌<◌, ◌≤◌, true, false, IsTrue, List, [], ◌∷◌, None, Some, refl, sym, ap, subst, ◌∙◌, inl, inr, ◌⊎◌, ◌↔◌, length, arith}
use Rattle.std.specs.List.{Contains, slice_get}
use Rattle.std.proofs.lemmas.Bool.{cases_Bool, eq-eqb, eqb-true}
use Rattle.std.proofs.lemmas.Option.{get_or_from_slice_get}
use Rattle.pol_data.proofs.Members.{Contains-cases, Contains-here, In-from_Contains, every-in}
use Rattle.pol_ports.specs.declared.Direction.{Direction}
use Rattle.pol_ports.specs.declared.Proto.{Proto}
use Rattle.pol_mapkey.specs.declared.Word.{Word}
use Rattle.pol_mapkey.specs.Entries.{Entry, read_map}
use Rattle.pol_audit.specs.declared.difference.Difference.{Difference}
use Rattle.pol_audit.specs.declared.difference.Numbers.{Numbers}
use Rattle.pol_audit.specs.declared.difference.Numbers.TheVariants.{EveryOther, One}
use Rattle.pol_audit.specs.Audit.{Alike, IsLeastDiffering, least_packet}
use Rattle.pol_audit.specs.Difference.{Ascend, IsBefore, IsDifference, LiesIn, has_number, least_number}
use Rattle.pol_audit.specs.Packets.{ComesBefore, direction_place, packet_place, words}
use Rattle.pol_audit.specs.Ranges.{same_word}
use Rattle.pol_audit.proofs.Pieces.{same_word-is, same_word-self}

-- ---- one place of the order at a time
-- what comes before something can't be at or behind it
one_level : {X : Type 0} (place : X → ℕ) (x y : X) (P : Type 0) → (place x < place y) ⊎ ((x ≡ y) × P) → place y ≤ place x → (P → ⊥) → ⊥
one_level place x y P (inl less) le rest = omega arith
one_level place x y P (inr (same, p)) le rest = rest p

-- nor at or behind what that comes before
two_levels : {X : Type 0} (place : X → ℕ) (x y z : X) (P Q : Type 0) → (place x < place y) ⊎ ((x ≡ y) × P) → (place y < place z) ⊎ ((y ≡ z) × Q) → place z ≤ place x → (P → Q → ⊥) → ⊥
two_levels place x y z P Q (inl less) (inl less') le rest = omega arith
two_levels place x y z P Q (inl less) (inr (same', q)) le rest = let is = ap place same' in omega arith
two_levels place x y z P Q (inr (same, p)) (inl less') le rest = let is = ap place same in omega arith
two_levels place x y z P Q (inr (same, p)) (inr (same', q)) le rest = rest p q

abbrev number_itself : ℕ → ℕ
number_itself n = n

module _ (left right : List Entry) where
  differing : Direction → ℕ → Proto → ℕ → Type 0
  differing dir id proto port = (words left right dir id proto port).0 ≢ (words left right dir id proto port).1

  -- the words are one, or they differ
  decided : (a b : Word) → (a ≡ b) ⊎ (a ≢ b)
  decided a b = elim (cases_Bool (same_word a b)) [
    | inl same ↦ inl (same_word-is a b same)
    | inr other ↦ inr (λ same. let wrong : true ≡ false = sym (subst (λ w. same_word a w ≡ true) same (same_word-self a)) ∙ other in cc)
  ]

  -- ---- a range and its numbers
  has_least : (dir : Direction) (numbers : Numbers) → IsTrue (has_number left right dir numbers (least_number numbers))
  has_least dir EveryOther = refl
  has_least dir (One n) = eq-eqb n n refl

  at_least : (dir : Direction) (numbers : Numbers) (id : ℕ) → IsTrue (has_number left right dir numbers id) → least_number numbers ≤ id
  at_least dir EveryOther id has = omega arith
  at_least dir (One n) id has = let is = eqb-true id n has in omega arith

  module _ (d : Difference) (dir : Direction) (id : ℕ) (proto : Proto) (port : ℕ) where
    abbrev Precedes : Type 0
    Precedes = ComesBefore dir id proto d.dir (least_number d.numbers) d.proto (port < d.first)

    -- no packet of a range comes before its least
    not_in : Precedes → LiesIn left right d dir id proto port → ⊥
    not_in before lies =
        one_level direction_place dir d.dir _ before (let is = ap direction_place lies.direction in omega arith) (λ ids.
        one_level number_itself id (least_number d.numbers) _ ids (at_least dir d.numbers id lies.number) (λ protos.
        one_level packet_place proto d.proto _ protos (let is = ap packet_place lies.protocol in omega arith) (λ less.
        let from = lies.from in omega arith)))

    -- nor does one of a later range
    not_later : (e : Difference) → d.first ≤ d.last → Precedes → IsBefore d e → LiesIn left right e dir id proto port → ⊥
    not_later e ordered before after lies =
        two_levels direction_place dir d.dir e.dir _ _ before after (let is = ap direction_place lies.direction in omega arith) (λ ids ids'.
        two_levels number_itself id (least_number d.numbers) (least_number e.numbers) _ _ ids ids' (at_least dir e.numbers id lies.number) (λ protos protos'.
        two_levels packet_place proto d.proto e.proto _ _ protos protos' (let is = ap packet_place lies.protocol in omega arith) (λ less below.
        let from = lies.from in let apart = below.0 in omega arith)))

  ascends : (d : Difference) (list : List Difference) → Ascend (d ∷ list) → (e : Difference) → Contains list e → IsBefore d e
  unfolding Ascend
  ascends d list up e there = every-in (IsBefore d) list up.0 e (In-from_Contains list e there)

  pub first_is_least : (d : Difference) (list : List Difference) → IsDifference left right (d ∷ list) → IsLeastDiffering left right (least_packet d)
  first_is_least d list is =
      let told = is.told d (Contains-here d list) in
      let ordered = told.ordered in
      let lies : LiesIn left right d d.dir (least_number d.numbers) d.proto d.first = record { direction = refl; number = has_least d.dir d.numbers; protocol = refl; from = omega arith; to = ordered } in
      let said = told.said d.dir (least_number d.numbers) d.proto d.first lies in
      record {
        left_word = ap (λ (w : Word × Word). w.0) said;
        right_word = ap (λ (w : Word × Word). w.1) said;
        differ = told.differ;
        least = λ dir id proto port small before. elim (decided (read_map left dir id proto port) (read_map right dir id proto port)) [
          | inl same ↦ same
          | inr other ↦ absurd (
              let found = is.whole dir id proto port small other in
              elim (Contains-cases d list found.0 found.1) [
                | inl here ↦ not_in d dir id proto port before (subst (λ e. LiesIn left right e dir id proto port) (sym here) found.2)
                | inr later ↦ not_later d dir id proto port found.0 ordered before (ascends d list is.ascend found.0 later) found.2
              ])
        ];
      }

  -- of a list that is asked for its first range
  pub from_first : (list : List Difference) (d : Difference) → slice_get list 0 ≡ Some d → IsDifference left right list → IsLeastDiffering left right (least_packet d)
  from_first [] d is whole = absurd (let wrong : None ≡ Some d = is in let e : ⊥ = cc in e)
  from_first (x ∷ list) d is whole = subst (λ e. IsLeastDiffering left right (least_packet e)) (let e : x ≡ d = get_or_from_slice_get (x ∷ list) 0 d d is in e) (first_is_least x list whole)

module _ (left right : List Entry) where
  -- tables that say the same have no difference, and those that have none say the same
  no_range : (list : List Difference) → IsDifference left right list → Alike left right → list ≡ []
  no_range [] is alike = refl
  no_range (d ∷ list) is alike = absurd (
      let least = first_is_least left right d list is in
      let told = is.told d (Contains-here d list) in
      let ordered = told.ordered in let ports = told.ports in
      least.differ (sym least.left_word ∙ alike d.dir (least_number d.numbers) d.proto d.first (omega arith) ∙ least.right_word))

  none_in : (list : List Difference) → list ≡ [] → (d : Difference) → Contains list d → ⊥
  none_in list none d there = let empty = ap length none in let below = there.1 in omega arith

  pub alike_has_none : (list : List Difference) → IsDifference left right list → Alike left right ↔ (list ≡ [])
  alike_has_none list is = (
    no_range list is,
    λ none dir id proto port small. elim (decided left right (read_map left dir id proto port) (read_map right dir id proto port)) [
      | inl same ↦ same
      | inr other ↦ absurd (let found = is.whole dir id proto port small other in none_in list none found.0 found.1)
    ],
  )
