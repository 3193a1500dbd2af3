-- One of two, by a test.
use Rattle.std.proofs.Common.{◌≡◌, ◌⊎◌, inl, inr, Bool, true, false, cond, Option, option_map, refl}

pub if_mapped : {X Y : Type 0} (f : X → Y) (test : Bool) (now was : Option X) → option_map f (cond test now was) ≡ cond test (option_map f now) (option_map f was)
if_mapped f true now was = refl
if_mapped f false now was = refl

pub if_either : {X : Type 0} (test : Bool) (now was x : X) → cond test now was ≡ x → ((test ≡ true) × (now ≡ x)) ⊎ ((test ≡ false) × (was ≡ x))
if_either true now was x is = inl (refl, is)
if_either false now was x is = inr (refl, is)
