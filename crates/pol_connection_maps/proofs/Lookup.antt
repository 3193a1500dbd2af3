-- What a list has at a place, where it is made of another list element by element.
use Rattle.std.proofs.Common.{◌≡◌, ℕ, ◌+◌, ◌<◌, List, [], ◌∷◌, ◌++◌, map, get_or, length, take, Some, option_map, refl, sym, ap, subst, ◌∙◌, arith}
use Rattle.std.specs.List.{AllByRecursion, flat_map, slice_get}
use Rattle.std.proofs.lemmas.List.{flat_map_more, get_or_append_left, length-append, length-map, map-append, take_more}
use Rattle.std.proofs.lemmas.List.Elements.{Contains-get_or}
use Rattle.std.proofs.lemmas.Option.{get_or_from_slice_get, same_Some, slice_get-map, slice_get_read, slice_get_within}
use Rattle.std.proofs.Math.Seq.{get_or-append_seam}
use Rattle.pol_data.proofs.Every.{every-contained}

-- ---- at a place
pub kept_at : {X : Type 0} (xs ys : List X) (i : ℕ) (x : X) → slice_get xs i ≡ Some x → slice_get (xs ++ ys) i ≡ Some x
kept_at xs ys i x at =
    let within = slice_get_within xs i x at in
    let is : x ≡ get_or (xs ++ ys) i x = sym (get_or_append_left xs ys x i within ∙ get_or_from_slice_get xs i x x at) in
    slice_get_read (xs ++ ys) (length xs + length ys) i x (sym (length-append xs ys)) (omega (arith, within)) is

pub last_at : {X : Type 0} (xs : List X) (x : X) → slice_get (xs ++ x ∷ []) (length xs) ≡ Some x
last_at xs x =
    slice_get_read (xs ++ x ∷ []) (length xs + 1) (length xs) x (sym (length-append xs (x ∷ []))) (omega arith) (sym (get_or-append_seam xs x [] x))

pub mapped_at : {R E : Type 0} (seen : R → E) (rs : List R) (i : ℕ) (r : R) → i < length rs → r ≡ get_or rs i r → slice_get (map seen rs) i ≡ Some (seen r)
mapped_at seen rs i r within is = slice_get-map seen rs i ∙ ap (option_map seen) (slice_get_read rs (length rs) i r refl within is)

pub every_at : {X : Type 0} (P : X → Type 0) (xs : List X) (i : ℕ) (x : X) → AllByRecursion P xs → i < length xs → x ≡ get_or xs i x → P x
every_at P xs i x all within is = subst P (sym is) (every-contained P xs (get_or xs i x) all (Contains-get_or xs i x within))

-- ---- two lists, element by element
module _ {A E X : Type 0} (items : A → X) (f : E → X) (cells : List A) (firsts : List E) (same : map items cells ≡ map f firsts) (i : ℕ) (first : E) (at : slice_get firsts i ≡ Some first) where
  found : slice_get (map items cells) i ≡ Some (f first)
  found = ap (λ xs. slice_get xs i) same ∙ slice_get-map f firsts i ∙ ap (option_map f) at

  pub cell_within : i < length cells
  cell_within = subst (λ n. i < n) (length-map cells items) (slice_get_within (map items cells) i (f first) found)

  pub cell_is : (cell : A) → cell ≡ get_or cells i cell → items cell ≡ f first
  cell_is cell is = same_Some (items cell) (f first) (sym (mapped_at items cells i cell cell_within is) ∙ found)

-- ---- a turn of a loop
pub map_turn : {A R X : Type 0} (items : A → X) (f : R → X) (cells : List A) (rs : List R) (i : ℕ) (cell : A) (r : R) → map items cells ≡ map f (take i rs) → items cell ≡ f r
    → i < length rs → r ≡ get_or rs i r → map items (cells ++ cell ∷ []) ≡ map f (take (i + 1) rs)
map_turn items f cells rs i cell r so_far here within is =
    map-append items cells (cell ∷ [])
    ∙ (λ j. so_far j ++ here j ∷ [])
    ∙ sym (map-append f (take i rs) (r ∷ []))
    ∙ sym (ap (map f) (take_more rs i r within ∙ ap (λ q. take i rs ++ q ∷ []) (sym is)))

pub flat_turn : {R X : Type 0} (f : R → List X) (rs : List R) (i : ℕ) (r : R) → i < length rs → r ≡ get_or rs i r → flat_map f (take i rs) ++ f r ≡ flat_map f (take (i + 1) rs)
flat_turn f rs i r within is =
    flat_map_more f [] (take i rs) r ∙ sym (ap (flat_map f) (take_more rs i r within ∙ ap (λ q. take i rs ++ q ∷ []) (sym is)))

-- what is made of an element's name and of its cell
pub cell_turn : {R N C X : Type 0} (f : N → C → X) (n : R → N) (c : R → List C) (rs : List R) (i : ℕ) (r : R) (name : N) (cell : List C) (old new : List X)
    → old ≡ flat_map (λ r. map (f (n r)) (c r)) (take i rs) → name ≡ n r → cell ≡ c r → new ≡ old ++ map (f name) cell → i < length rs → r ≡ get_or rs i r
    → new ≡ flat_map (λ r. map (f (n r)) (c r)) (take (i + 1) rs)
cell_turn f n c rs i r name cell old new so_far named celled made within is =
    made ∙ (λ j. so_far j ++ map (f (named j)) (celled j)) ∙ flat_turn (λ r. map (f (n r)) (c r)) rs i r within is
