-- What is filed once one heading's numbers have changed.
use Rattle.std.proofs.Common.{◌≡◌, ◌==◌, ◌&&◌, ◌||◌, not, Bool, true, false, cond, [], ◌∷◌, ℕ, Option, Some, None, option_map, Result, Ok, Err, OnErr, refl, sym, ap, ◌∙◌}
use Rattle.std.specs.Map.{lookup}
use Rattle.std.specs.Option.{option_map_or}
use Rattle.std.specs.BTreeSet.{BTreeSet}
use Rattle.pol_headings.specs.Filed.{Drawers, has, is_filed}
use Rattle.pol_headings.specs.Heading.{same_heading}
use Rattle.pol_headings.specs.Inside.{Entries, drawers_of}
use Rattle.pol_headings.specs.declared.heading.Heading.{Heading}
use Rattle.pol_headings.proofs.Equality.{same_heading-is}

-- the number is in the drawer
abbrev pub is_in : Option (BTreeSet ℕ) → ℕ → Bool
is_in drawer number = option_map_or (λ (numbers : BTreeSet ℕ). has number numbers.keys) drawer false

lookup-drawers : (test : Heading → Bool) (es : Entries) → lookup test (drawers_of es) ≡ option_map (λ (numbers : BTreeSet ℕ). numbers.keys) (lookup test es)
lookup-drawers test [] = refl
lookup-drawers test (e ∷ es) =
    elim (test e.0) as (λ b. cond b (Some e.1.keys) (lookup test (drawers_of es)) ≡ option_map (λ (numbers : BTreeSet ℕ). numbers.keys) (cond b (Some e.1) (lookup test es))) [
      | true ↦ refl
      | false ↦ lookup-drawers test es
    ]

pub filed_at : (es : Entries) (heading : Heading) (n : ℕ) → is_filed (drawers_of es) heading n ≡ is_in (lookup (same_heading heading) es) n
filed_at es heading n = ap (λ o. option_map_or (has n) o false) (lookup-drawers (same_heading heading) es) ∙ by (lookup (same_heading heading) es)
  where
    by : (o : Option (BTreeSet ℕ)) → option_map_or (has n) (option_map (λ (numbers : BTreeSet ℕ). numbers.keys) o) false ≡ is_in o n
    by None = refl
    by (Some numbers) = refl

-- one heading has other numbers then
module _ (old new : Entries) (heading : Heading) (then_there : Option (BTreeSet ℕ))
    (changes : (q : Heading) → lookup (same_heading q) new ≡ cond (same_heading heading q) then_there (lookup (same_heading q) old)) where
  pub refiled : (f : Bool → Bool → Bool) → ((b : Bool) → b ≡ f b false) → (number : ℕ)
      → ((n : ℕ) → is_in then_there n ≡ f (is_in (lookup (same_heading heading) old) n) (number == n))
      → (q : Heading) (n : ℕ) → is_filed (drawers_of new) q n ≡ f (is_filed (drawers_of old) q n) (same_heading heading q && (number == n))
  refiled f keeps number here q n =
      filed_at new q n ∙ ap (λ o. is_in o n) (changes q) ∙ by (same_heading heading q) refl
      ∙ ap (λ b. f b (same_heading heading q && (number == n))) (sym (filed_at old q n))
    where
      by : (b : Bool) → same_heading heading q ≡ b → is_in (cond b then_there (lookup (same_heading q) old)) n ≡ f (is_in (lookup (same_heading q) old) n) (same_heading heading q && (number == n))
      by true same =
          here n
          ∙ ap (λ h. f (is_in (lookup (same_heading h) old) n) (number == n)) (same_heading-is heading q same)
          ∙ ap (λ b. f (is_in (lookup (same_heading q) old) n) (b && (number == n))) (sym same)
      by false other =
          keeps (is_in (lookup (same_heading q) old) n)
          ∙ ap (λ b. f (is_in (lookup (same_heading q) old) n) (b && (number == n))) (sym other)

-- nothing was written
pub unwritten : (es : Entries) (heading : Heading) (was : Option (BTreeSet ℕ)) → lookup (same_heading heading) es ≡ was → (q : Heading) → lookup (same_heading q) es ≡ cond (same_heading heading q) was (lookup (same_heading q) es)
unwritten es heading was is q = by (same_heading heading q) refl
  where
    by : (b : Bool) → same_heading heading q ≡ b → lookup (same_heading q) es ≡ cond b was (lookup (same_heading q) es)
    by true same = ap (λ h. lookup (same_heading h) es) (sym (same_heading-is heading q same)) ∙ is
    by false other = refl

-- what holds anyway holds after an error
pub on_err : {V E P : Type 0} (r : Result V E) → P → OnErr r P
on_err (Ok x) holds = tt
on_err (Err e) holds = holds

-- ---- what becomes of a drawer
pub or_none : (b : Bool) → b ≡ (b || false)
or_none true = refl
or_none false = refl

pub and_all : (b : Bool) → b ≡ (b && not false)
and_all true = refl
and_all false = refl

-- what was written is what was there
pub rewritten : (old new : Entries) (heading : Heading) (then_there : Option (BTreeSet ℕ))
    → ((q : Heading) → lookup (same_heading q) new ≡ cond (same_heading heading q) then_there (lookup (same_heading q) old))
    → ((n : ℕ) → is_in then_there n ≡ is_in (lookup (same_heading heading) old) n)
    → (q : Heading) (n : ℕ) → is_filed (drawers_of new) q n ≡ is_filed (drawers_of old) q n
rewritten old new heading then_there changes here = refiled old new heading then_there changes (λ a b. a) (λ b. refl) 0 here

-- what a filing finds under a heading
pub viewed : (seen : Drawers) (es : Entries) → drawers_of es ≡ seen → (heading : Heading) (drawer : Option (BTreeSet ℕ)) → drawer ≡ lookup (same_heading heading) es → (n : ℕ) → is_filed seen heading n ≡ is_in drawer n
viewed seen es is heading drawer found n = ap (λ d. is_filed d heading n) (sym is) ∙ filed_at es heading n ∙ ap (λ o. is_in o n) (sym found)
