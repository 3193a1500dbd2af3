-- Beginnings of a list, by what follows them and by their length.
use Rattle.std.proofs.Common.{◌≡◌, ◌↔◌, ℕ, ◌≤◌, List, [], ◌++◌, length, take, drop, Some, refl, sym, ap, ◌∙◌, subst, arith, append_assoc, append-nil, length-append}
use Rattle.std.specs.List.{slice_get}
use Rattle.std.proofs.Math.Seq.{take-length}
use Rattle.std.proofs.lemmas.List.{take-append-drop, take-append-le, take-take}
use Rattle.std.proofs.lemmas.Option.{slice_get_within}
use mathlib.Core.List.{IsPrefix}
use Rattle.pol_history.proofs.Lists.{get_front}

module _ {X : Type 0} where
  pub prefix_self : (xs : List X) → IsPrefix xs xs
  prefix_self xs = ([], append-nil xs)

  pub prefix_none : (xs : List X) → IsPrefix [] xs
  prefix_none xs = (xs, refl)

  pub prefix_more : (xs ys : List X) → IsPrefix xs (xs ++ ys)
  prefix_more xs ys = (ys, refl)

  pub prefix_trans : (xs ys zs : List X) → IsPrefix xs ys → IsPrefix ys zs → IsPrefix xs zs
  prefix_trans xs ys zs first second =
      (first.0 ++ second.0, sym (append_assoc xs first.0 second.0) ∙ ap (λ (ws : List X). ws ++ second.0) first.1 ∙ second.1)

  pub prefix_length : (xs ys : List X) → IsPrefix xs ys → length xs ≤ length ys
  prefix_length xs ys begins = omega (arith, sym (ap length begins.1) ∙ length-append xs begins.0)

  -- what stands in a beginning stands in the whole, at the same place
  pub prefix_get : (xs ys : List X) (i : ℕ) (x : X) → IsPrefix xs ys → slice_get xs i ≡ Some x → slice_get ys i ≡ Some x
  prefix_get xs ys i x begins there =
      ap (λ (ws : List X). slice_get ws i) (sym begins.1) ∙ get_front xs begins.0 i (slice_get_within xs i x there) ∙ there

  -- the first elements of a beginning are those of the whole
  pub prefix_take : (n : ℕ) (xs ys : List X) → IsPrefix xs ys → n ≤ length xs → take n ys ≡ take n xs
  prefix_take n xs ys begins within = ap (take n) (sym begins.1) ∙ take-append-le n xs begins.0 within

  -- a beginning is as many first elements as it has
  pub prefix_cut : (xs ys : List X) → IsPrefix xs ys → take (length xs) ys ≡ xs
  prefix_cut xs ys begins = prefix_take (length xs) xs ys begins (omega arith) ∙ take-length xs

  pub cut_prefix : (n : ℕ) (xs : List X) → IsPrefix (take n xs) xs
  cut_prefix n xs = (drop n xs, take-append-drop n xs)

  pub cut_within : (m n : ℕ) (xs : List X) → m ≤ n → IsPrefix (take m xs) (take n xs)
  cut_within m n xs fewer = subst (λ (ws : List X). IsPrefix ws (take n xs)) (take-take m n xs fewer) (cut_prefix m (take n xs))

  -- a list begins another exactly where it is as many of its first elements as it has
  pub prefix_iff : (xs ys : List X) → IsPrefix xs ys ↔ (take (length xs) ys ≡ xs)
  prefix_iff xs ys = (prefix_cut xs ys, λ cut. subst (λ (ws : List X). IsPrefix ws ys) cut (cut_prefix (length xs) ys))

  -- of two beginnings of one list the shorter begins the longer
  pub prefix_shorter : (xs ys zs : List X) → IsPrefix xs zs → IsPrefix ys zs → length xs ≤ length ys → IsPrefix xs ys
  prefix_shorter xs ys zs first second fewer =
      subst (λ (ws : List X). IsPrefix ws ys)
      (sym (prefix_take (length xs) ys zs second fewer) ∙ prefix_cut xs zs first) (cut_prefix (length xs) ys)

  -- a beginning as long as the whole is the whole
  pub prefix_whole : (xs ys : List X) → IsPrefix xs ys → length ys ≤ length xs → xs ≡ ys
  prefix_whole xs ys begins all =
      sym (prefix_cut xs ys begins)
      ∙ ap (λ (n : ℕ). take n ys) (let same : length xs ≡ length ys = omega (arith, all, prefix_length xs ys begins) in same)
      ∙ take-length ys
