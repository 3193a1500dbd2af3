-- What every cache keeps, through each call; and that its sets stay exact.
use Rattle.std.proofs.Common.{◌≡◌, ℕ, ◌+◌, ◌==◌, ◌<◌, Bool, true, false, cond, nat_lt, List, [], ◌∷◌, ◌++◌, map, find, Some, Result, Ok, Err, OnOk, OnErr, option_map, refl, sym, ap, ◌∙◌, subst, arith}
use Rattle.std.specs.List.{AllByRecursion}
use Rattle.std.proofs.lemmas.Bool.{eq-eqb, or_left, or_right}
use Rattle.std.proofs.lemmas.Option.{same_Some}
use Rattle.pol_data.proofs.Every.{every-append, every-kept, every-weaker}
use Rattle.pol_model.specs.declared.row.IdentityRow.{IdentityRow}
use Rattle.pol_model.specs.Selects.{set_at}
use Rattle.pol_set_changes.specs.Log.{Log}
use Rattle.pol_set_changes.specs.Log.{IsSound as IsLog}
use Rattle.pol_selcache.specs.Cache.{IsSound}
use Rattle.pol_selcache.specs.Live.{Live, AreExact, AreLive, is_live, one_less, one_more, with_numbers, where_number, with_reference, with_set, without_reference}
use Rattle.pol_selectors.proofs.LiveLists.{numbers, numbers_kept, reference_keeps, set_keeps, unreference_keeps}

abbrev pub AllBelow : ℕ → List Live → Type 0
AllBelow next live = AllByRecursion (λ s. s.number < next) live

-- the numbers alone tell that
to_numbers : (next : ℕ) (live : List Live) → AllBelow next live → AllByRecursion (λ n. n < next) (numbers live)
to_numbers next [] below = tt
to_numbers next (s ∷ live) below = (below.0, to_numbers next live below.1)

from_numbers : (next : ℕ) (live : List Live) → AllByRecursion (λ n. n < next) (numbers live) → AllBelow next live
from_numbers next [] below = tt
from_numbers next (s ∷ live) below = (below.0, from_numbers next live below.1)

below_kept : (n : ℕ) (change : Live → Live) → ((s : Live) → (change s).number ≡ s.number) → ((s : Live) → (change s).peer ≡ s.peer) → (next : ℕ) (live : List Live) → AllBelow next live → AllBelow next (map (where_number n change) live)
below_kept n change keeps_number keeps_peer next live below =
    from_numbers next (map (where_number n change) live)
    (subst (AllByRecursion (λ m. m < next)) (sym (numbers_kept n change keeps_number keeps_peer live)) (to_numbers next live below))

module _ (live : List Live) (next : ℕ) (are : AreLive live) (below : AllBelow next live) where
  pub reference_sound : (n : ℕ) (log : Log) → IsLog log → IsSound (record { live = with_reference n live; next = next; log = log })
  reference_sound n log keeps = record { live = reference_keeps n live are; below = below_kept n one_more (λ s. refl) (λ s. refl) next live below; log = keeps }

  pub set_sound : (n : ℕ) (set : List ℕ) (log : Log) → IsLog log → IsSound (record { live = with_set n set live; next = next; log = log })
  set_sound n set log keeps = record { live = set_keeps n set live are; below = below_kept n (with_numbers set) (λ s. refl) (λ s. refl) next live below; log = keeps }

  pub unreference_sound : (n : ℕ) (log : Log) → IsLog log → IsSound (record { live = without_reference n live; next = next; log = log })
  unreference_sound n log keeps = record {
    live = unreference_keeps n live are;
    below = every-kept (λ s. s.number < next) (λ s. nat_lt 0 s.references) _ (below_kept n one_less (λ s. refl) (λ s. refl) next live below);
    log = keeps;
  }

-- one new selector, whose number is the next
pub push_below : (live : List Live) (next : ℕ) (new : Live) → AllBelow next live → new.number ≡ next → AllBelow (next + 1) (live ++ new ∷ [])
push_below live next new below is =
    every-append (λ s. s.number < next + 1) live (new ∷ []) (every-weaker (λ s. s.number < next) (λ s. s.number < next + 1) (λ s less. omega arith) live below) (omega arith, tt)

-- ---- by peer
pub found_lives : (test : Live → Bool) (n : ℕ) (live : List Live) → option_map (λ s. s.number) (find test live) ≡ Some n → is_live n live ≡ true
found_lives test n [] found = absurd (let wrong : ⊥ = cc in wrong)
found_lives test n (s ∷ live) found = by (test s) refl (found_lives test n live)
  where
    by : (b : Bool) → test s ≡ b → (option_map (λ t. t.number) (find test live) ≡ Some n → is_live n live ≡ true) → is_live n (s ∷ live) ≡ true
    by true is later =
        or_left (s.number == n) (is_live n live) (eq-eqb s.number n (same_Some s.number n (ap (λ b. option_map (λ (t : Live). t.number) (cond b (Some s) (find test live))) (sym is) ∙ found)))
    by false is later =
        or_right (s.number == n) (is_live n live) (later (ap (λ b. option_map (λ (t : Live). t.number) (cond b (Some s) (find test live))) (sym is) ∙ found))

-- ---- sets stay exact
pub reference_exact : (rows : List IdentityRow) (n : ℕ) (live : List Live) → AreExact rows live → AreExact rows (with_reference n live)
reference_exact rows n [] exact = tt
reference_exact rows n (s ∷ live) exact = (one (s.number == n), reference_exact rows n live exact.1)
  where
    one : (b : Bool) → (cond b (one_more s) s).set ≡ set_at rows (cond b (one_more s) s).peer
    one true = exact.0
    one false = exact.0

pub unreference_exact : (rows : List IdentityRow) (n : ℕ) (live : List Live) → AreExact rows live → AreExact rows (without_reference n live)
unreference_exact rows n live exact = every-kept (λ s. s.set ≡ set_at rows s.peer) (λ s. nat_lt 0 s.references) _ (lowered live exact)
  where
    one : (s : Live) (b : Bool) → s.set ≡ set_at rows s.peer → (cond b (one_less s) s).set ≡ set_at rows (cond b (one_less s) s).peer
    one s true is = is
    one s false is = is

    lowered : (others : List Live) → AreExact rows others → AreExact rows (map (where_number n one_less) others)
    lowered [] exact = tt
    lowered (s ∷ others) exact = (one s (s.number == n) exact.0, lowered others exact.1)

pub push_exact : (rows : List IdentityRow) (live : List Live) (new : Live) → AreExact rows live → new.set ≡ set_at rows new.peer → AreExact rows (live ++ new ∷ [])
push_exact rows live new exact is = every-append (λ s. s.set ≡ set_at rows s.peer) live (new ∷ []) exact (is, tt)

-- ---- what a reference more leaves, also where there was none left to count
pub referred_below : {T E : Type 0} (r : Result T E) (n next : ℕ) (old new : List Live) → OnOk r (new ≡ with_reference n old) → OnErr r (new ≡ old) → AllBelow next old → AllBelow next new
referred_below (Ok x) n next old new ok err below = subst (AllBelow next) (sym ok) (below_kept n one_more (λ s. refl) (λ s. refl) next old below)
referred_below (Err e) n next old new ok err below = subst (AllBelow next) (sym err) below
