-- Filters side by side.
use Rattle.std.proofs.Common.{◌≡◌, ℕ, ◌+◌, ◌<◌, List, [], ◌∷◌, ◌++◌, length, get_or, drop, Result, Ok, Err, OnOk, ◌∙◌, ap, arith, append-nil}
use Rattle.std.specs.List.{flat_map}
use Rattle.std.proofs.lemmas.Grind.{flat_map-append}
use Rattle.std.proofs.lemmas.List.{drop_more}
use Rattle.pol_mapkey.specs.Entries.{Entry}
use Rattle.pol_mapkey.specs.declared.Kind.{Kind}
use Rattle.pol_mapkey.specs.declared.MapKey.{MapKey}
use Rattle.pol_entry_tally.specs.Times.{times}
use Rattle.pol_entry_changes.specs.Balance.{Between, GoesOn}
use Rattle.pol_entry_changes.specs.declared.staying.Moved.{Moved}
use Rattle.pol_entry_changes.proofs.Times.{times-append}

times-same : (xs ys : List Entry) → xs ≡ ys → (q : MapKey) (k : Kind) → times xs q k ≡ times ys q k
times-same xs ys same q k = ap (λ es. times es q k) same

-- ---- an old filter beside the new ones
module _ {X : Type 0} (G : X → List Entry) (others : List X) (from : ℕ) where
  pub pair_stays : (e : List Entry) (x : X) (old new : Moved) → from < length others → get_or others from x ≡ x → GoesOn e (G x) old new
      → Between e (flat_map G (drop from others)) (flat_map G (drop (from + 1) others)) old new
  pair_stays e x old new within at on q k =
      let split : drop from others ≡ x ∷ drop (from + 1) others = drop_more others from x within ∙ ap (λ y. y ∷ drop (from + 1) others) at in
      omega (arith, on q k, times-same _ _ (ap (flat_map G) split) q k, times-append (G x) (flat_map G (drop (from + 1) others)) q k)

  pub pair_goes : (e : List Entry) (old new : Moved) → new.come.items ≡ old.come.items → new.gone.items ≡ old.gone.items ++ e
      → Between e (flat_map G (drop from others)) (flat_map G (drop from others)) old new
  pair_goes e old new come gone q k =
      omega (arith, times-same _ _ come q k, times-same _ _ gone q k, times-append old.gone.items e q k)

-- ---- all filters
pub walk_starts : (is : List Entry) (out : Moved) → Between [] is is out out
walk_starts is out q k = omega arith

pub walk_newer : (was is left left_then : List Entry) (old mid new : Moved) → Between was is left old mid
    → new.come.items ++ left_then ≡ mid.come.items ++ left → new.gone.items ≡ mid.gone.items → Between was is left_then old new
walk_newer was is left left_then old mid new between come gone q k =
    omega (arith, between q k, times-same _ _ gone q k, times-append new.come.items left_then q k, times-append mid.come.items left q k, times-same _ _ come q k)

pub walk_pairs : (was one is left left_then : List Entry) (old mid new : Moved) → Between was is left old mid → Between one left left_then mid new
    → Between (was ++ one) is left_then old new
walk_pairs was one is left left_then old mid new first second q k = omega (arith, first q k, second q k, times-append was one q k)

walk_ends : (was is left : List Entry) (old mid new : Moved) → Between was is left old mid
    → new.come.items ≡ mid.come.items ++ left → new.gone.items ≡ mid.gone.items → GoesOn was is old new
walk_ends was is left old mid new between come gone q k =
    omega (arith, between q k, times-same _ _ gone q k, times-same _ _ come q k, times-append mid.come.items left q k)

pub walk_ended : (was is left : List Entry) (old mid new : Moved) → Between was is left old mid → new.gone.items ≡ mid.gone.items
    → {V E : Type 0} (r : Result V E) → OnOk r (new.come.items ≡ mid.come.items ++ left) → OnOk r (GoesOn was is old new)
walk_ended was is left old mid new between gone (Ok x) come = walk_ends was is left old mid new between come gone
walk_ended was is left old mid new between gone (Err e) come = tt

-- one filter more
pub one_more : {X : Type 0} (G : X → List Entry) (xs : List X) (x : X) → flat_map G (xs ++ x ∷ []) ≡ flat_map G xs ++ G x
one_more G xs x = flat_map-append G xs (x ∷ []) ∙ ap (λ l. flat_map G xs ++ l) (append-nil (G x))
