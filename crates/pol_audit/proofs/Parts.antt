-- The entries of one direction in a table: their numbers don't descend, and are those that stand in it.
use Rattle.std.proofs.Common.{◌≡◌, ℕ, ◌<◌, ◌≤◌, ◌==◌, Bool, true, false, cond, List, [], ◌∷◌, ◌++◌, filter, get_or, length, map, sym, ap, subst, ◌∙◌, inl, inr, ◌↔◌, arith}
use Rattle.std.specs.List.{Contains, list_any}
use Rattle.std.specs.List.Sorted.{IsNonDecreasingBy}
use Rattle.std.specs.Cmp.{nat_cmp_is}
use Rattle.std.specs.Ordering.{nat_cmp, ordering_then}
use Rattle.std.specs.declared.cmp.Ordering.{Ordering}
use Rattle.std.specs.declared.cmp.Ordering.TheVariants.{Less, Greater}
use Rattle.std.proofs.lemmas.Bool.{and_from, and_parts, cases_Bool, cases_lt, cases_order, eq-eqb, eqb-true, ne_eqb, or_cases, or_left, or_right}
use Rattle.std.proofs.lemmas.List.Elements.{Contains-append_cases, Contains-append_left, Contains-append_right, Contains-get_or}
use Rattle.std.proofs.lemmas.List.Kept.{IsStrictlySortedBy-filter}
use Rattle.std.proofs.lemmas.Map.Keys.{Less-from_sorted}
use Rattle.pol_data.proofs.Members.{Contains-cases, Contains-filter, Contains-from_filter, Contains-here, Contains-later, In, In-from_Contains, list_any-found, list_any-none_in, passes-from_filter}
use Rattle.pol_ports.proofs.Same.{same_direction-is}
use Rattle.pol_ports.specs.declared.Direction.{Direction}
use Rattle.pol_ports.specs.declared.Direction.TheVariants.{Ingress, Egress}
use Rattle.pol_ports.specs.Direction.{direction_cmp, same_direction}
use Rattle.pol_mapkey.specs.Entries.{Entry}
use Rattle.pol_mapkey.specs.KeyProto.{key_proto_cmp}
use Rattle.pol_ports.specs.PortPrefix.{prefix_cmp}
use Rattle.pol_audit.specs.Exact.{AreNumbers}
use Rattle.pol_audit.specs.Kinds.{PortsAscend, numbered, own_of}
use Rattle.pol_audit.specs.Tables.{IsTable, entry_order, is_at, stands}

-- ---- the order of the numbers
not_greater : (x y : ℕ) (o : Ordering) → ordering_then (nat_cmp x y) o ≡ Less → x ≤ y
not_greater x y o less = elim (cases_lt y x) [
  | inl below ↦ absurd (let more : Greater ≡ nat_cmp x y = nat_cmp_is x y Greater below in let wrong : Greater ≡ Less = ap (λ c. ordering_then c o) more ∙ less in let e : ⊥ = cc in e)
  | inr le ↦ le
]

in_direction : (dir : Direction) (x y : ℕ) (o : Ordering) → ordering_then (direction_cmp dir dir) (ordering_then (nat_cmp x y) o) ≡ Less → x ≤ y
in_direction Ingress x y o less = not_greater x y o less
in_direction Egress x y o less = not_greater x y o less

ids_rise : (a b : Entry) → a.0.dir ≡ b.0.dir → entry_order a b ≡ Less → a.0.id ≤ b.0.id
ids_rise a b same less =
    in_direction b.0.dir a.0.id b.0.id (ordering_then (key_proto_cmp a.0.proto b.0.proto) (prefix_cmp a.0.port b.0.port))
    (subst (λ d. ordering_then (direction_cmp d b.0.dir) (ordering_then (nat_cmp a.0.id b.0.id) (ordering_then (key_proto_cmp a.0.proto b.0.proto) (prefix_cmp a.0.port b.0.port))) ≡ Less) same less)

-- ---- a list and its image
module _ {X : Type 0} (f : X → ℕ) where
  from_image : (xs : List X) (n : ℕ) → Contains (map f xs) n → (x : X) × Contains xs x × (f x ≡ n)
  from_image [] n there = absurd (let below = there.1 in omega arith)
  from_image (x ∷ xs) n there = elim (Contains-cases (f x) (map f xs) n there) [
    | inl is ↦ (x, Contains-here x xs, is)
    | inr later ↦ (let found = from_image xs n later in (found.0, Contains-later x xs found.0 found.1, found.2))
  ]

  image_of : (xs : List X) (x : X) → In x xs → Contains (map f xs) (f x)
  image_of [] x there = elim there [ ]
  image_of (y ∷ xs) x (inl same) = subst (λ n. Contains (map f (y ∷ xs)) n) (ap f same) (Contains-here (f y) (map f xs))
  image_of (y ∷ xs) x (inr later) = Contains-later (f y) (map f xs) (f x) (image_of xs x later)

found_by : {X : Type 0} (p : X → Bool) (xs : List X) (x : X) → Contains xs x → p x ≡ true → list_any p xs ≡ true
found_by p xs x there passes = elim (cases_Bool (list_any p xs)) [
  | inl found ↦ found
  | inr none ↦ absurd (let off = list_any-none_in p xs none x (In-from_Contains xs x there) in let wrong : true ≡ false = sym passes ∙ off in let e : ⊥ = cc in e)
]

-- ---- the entries of a direction
module _ (dir : Direction) where
  abbrev of_dir : Entry → Bool
  of_dir e = same_direction e.0.dir dir

  ascends : (entries : List Entry) → IsTable entries → IsNonDecreasingBy (λ (e : Entry). e.0.id) (filter of_dir entries)
  ascends entries up i j d le below = elim (cases_order i j) [
    | inl same ↦ subst (λ k. (get_or part i d).0.id ≤ (get_or part k d).0.id) same (omega arith)
    | inr order ↦ elim order [
      | inl less ↦ ids_rise (get_or part i d) (get_or part j d) (at i (omega arith) ∙ sym (at j below)) (Less-from_sorted entry_order part i j d (IsStrictlySortedBy-filter entry_order of_dir entries up) less below)
      | inr more ↦ absurd (omega arith)
    ]
  ]
    where
      part : List Entry
      part = filter of_dir entries

      at : (k : ℕ) → k < length part → (get_or part k d).0.dir ≡ dir
      at k small = same_direction-is (get_or part k d).0.dir dir (passes-from_filter of_dir entries (get_or part k d) (Contains-get_or part k d small))

  pub ids_ascend : (table part : List Entry) → IsTable table → part ≡ filter of_dir table → IsNonDecreasingBy (λ (e : Entry). e.0.id) part
  ids_ascend table part up is = subst (IsNonDecreasingBy (λ (e : Entry). e.0.id)) (sym is) (ascends table up)

  stands_here : (entries part : List Entry) → part ≡ filter of_dir entries → (n : ℕ) → Contains (map (λ (e : Entry). e.0.id) part) n → stands dir n entries ≡ true
  stands_here entries part is n there =
      let found = from_image (λ (e : Entry). e.0.id) part n there in
      let kept = subst (λ es. Contains es found.0) is found.1 in
      found_by (is_at dir n) entries found.0 (Contains-from_filter of_dir entries found.0 kept)
      (and_from (same_direction found.0.0.dir dir) (found.0.0.id == n) (passes-from_filter of_dir entries found.0 kept) (eq-eqb found.0.0.id n found.2))

  listed_here : (entries part : List Entry) → part ≡ filter of_dir entries → (n : ℕ) → stands dir n entries ≡ true → Contains (map (λ (e : Entry). e.0.id) part) n
  listed_here entries part is n there =
      let found = list_any-found (is_at dir n) entries there in
      let both = and_parts (same_direction found.0.0.dir dir) (found.0.0.id == n) found.2 in
      let kept = subst (λ es. Contains es found.0) (sym is) (Contains-filter of_dir entries found.0 both.0 found.1) in
      subst (λ m. Contains (map (λ (e : Entry). e.0.id) part) m) (eqb-true found.0.0.id n both.1) (image_of (λ (e : Entry). e.0.id) part found.0 (In-from_Contains part found.0 kept))

  pub numbers_are : (left right left_part right_part : List Entry) (numbers : List ℕ) → left_part ≡ filter of_dir left → right_part ≡ filter of_dir right
      → ((n : ℕ) → Contains numbers n ↔ Contains (((0 ∷ []) ++ map (λ (e : Entry). e.0.id) left_part) ++ map (λ (e : Entry). e.0.id) right_part) n)
      → AreNumbers left right dir numbers
  numbers_are left right left_part right_part numbers left_is right_is members n = (
    λ there. elim (Contains-append_cases ((0 ∷ []) ++ lefts) rights n ((members n).0 there)) [
      | inl front ↦ elim (Contains-cases 0 lefts n front) [
        | inl zero' ↦ inl (sym zero')
        | inr in_left ↦ inr (or_left (stands dir n left) (stands dir n right) (stands_here left left_part left_is n in_left))
      ]
      | inr in_right ↦ inr (or_right (stands dir n left) (stands dir n right) (stands_here right right_part right_is n in_right))
    ],
    λ either. (members n).1 (elim either [
      | inl zero' ↦ subst (λ m. Contains all m) (sym zero') (Contains-here 0 (lefts ++ rights))
      | inr there ↦ elim (or_cases (stands dir n left) (stands dir n right) there) [
        | inl in_left ↦ Contains-append_left ((0 ∷ []) ++ lefts) rights n (Contains-later 0 lefts n (listed_here left left_part left_is n in_left))
        | inr in_right ↦ Contains-append_right ((0 ∷ []) ++ lefts) rights n (listed_here right right_part right_is n in_right)
      ]
    ]),
  )
    where
      lefts : List ℕ
      lefts = map (λ (e : Entry). e.0.id) left_part

      rights : List ℕ
      rights = map (λ (e : Entry). e.0.id) right_part

      all : List ℕ
      all = ((0 ∷ []) ++ lefts) ++ rights

-- ---- the entries of a number that isn't 0
pub own_none : (id : ℕ) (part : List Entry) → id ≡ 0 → [] ≡ own_of id part
own_none id part zero' = ap (λ b. cond b [] (numbered id part)) (sym (eq-eqb id 0 zero'))

pub own_some : (id : ℕ) (part : List Entry) → (id ≡ 0 → ⊥) → numbered id part ≡ own_of id part
own_some id part other = ap (λ b. cond b [] (numbered id part)) (sym (ne_eqb id 0 other))

-- their ports begin in order, where those of each number's do
pub own_ascends : (part : List Entry) → ((n : ℕ) → PortsAscend (numbered n part)) → (id : ℕ) → PortsAscend (own_of id part)
own_ascends part all id = by (id == 0)
  where
    by : (b : Bool) → PortsAscend (cond b [] (numbered id part))
    by true proto i j d le below = absurd (omega arith)
    by false proto i j d le below = all id proto i j d le below
