-- What follows where `==` is true exactly where both are one value: so is that of options, and a table has each key once.
use Rattle.std.proofs.Common.{◌≡◌, ◌≢◌, refl, sym, ap, Bool, true, false, Option, Some, None}
use Rattle.std.specs.Bool.{Decides}
use Rattle.std.specs.Option.{option_eq, unwrap_or}
use Rattle.std.specs.HashMap.{HashMap, get, Updates}
use Rattle.std.proofs.lemmas.Bool.Decides.{Decides-like}

module _ {T : Type 0} {eq : T → T → Bool} (each : (x y : T) → Decides (eq x y) (x ≡ y)) where
  pub option_eq-Decides : (a b : Option T) → Decides (option_eq eq a b) (a ≡ b)
  option_eq-Decides None None = (λ _. refl, λ _. refl)
  option_eq-Decides None (Some y) = (λ e. cc, λ e. cc)
  option_eq-Decides (Some x) None = (λ e. cc, λ e. cc)
  option_eq-Decides (Some x) (Some y) = Decides-like _ (λ e. ap Some e) (λ e. ap (λ o. unwrap_or o x) e) (each x y)

  -- values that differ fail the test
  pub differ-eq : (x y : T) → x ≢ y → eq x y ≡ false
  differ-eq x y apart = by (eq x y) refl
    where
      by : (b : Bool) → eq x y ≡ b → b ≡ false
      by true same = absurd (apart ((each x y).0 same))
      by false _ = refl

  -- a table after a value is put at a key, or taken out: every other key has what it had
  pub get-other : {V S : Type 0} (old new : HashMap T V S) (key : T) (value : Option V) → Updates eq old new key value
      → (other : T) → other ≢ key → get eq new other ≡ get eq old other
  get-other old new key value updates other apart = updates.2 other (differ-eq key other (λ same. apart (sym same)))
