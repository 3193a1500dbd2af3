-- The headings of the first labels of a set, as a loop over them goes on.
use Rattle.std.proofs.Common.{zero, suc, ◌≡◌, ◌==◌, ◌<◌, ◌+◌, ◌||◌, ◌&&◌, Bool, true, false, ℕ, List, [], ◌∷◌, length, get_or, take, refl, sym, ap, ◌∙◌}
use Rattle.std.specs.List.{list_any}
use Rattle.std.proofs.lemmas.List.Folds.{list_any_more}
use Rattle.pol_headings.specs.declared.heading.Heading.{Heading}
use Rattle.pol_headings.specs.Heading.{label_heading, same_heading}
use Rattle.pol_labels.specs.declared.label.Label.{Label}
use Rattle.pol_label_sets.specs.Carried.{carries_heading}
use Rattle.pol_label_sets.specs.Filed.{is_of}

pub or_nothing : (b : Bool) → (b || false) ≡ b
or_nothing true = refl
or_nothing false = refl

joined : (was a b here : Bool) → ((was || (a && here)) || (b && here)) ≡ (was || ((a || b) && here))
joined true a b here = refl
joined false true b true = refl
joined false true true false = refl
joined false true false false = refl
joined false false b here = refl

front_fails : {X : Type 0} (p : X → Bool) (b : Bool) (i : ℕ) (xs : List X) → (list_any p xs && b) ≡ false → (list_any p (take i xs) && b) ≡ false
front_fails p b zero xs fails = refl
front_fails p b (suc i) [] fails = refl
front_fails p b (suc i) (x ∷ xs) fails = by (p x) (front_fails p b i xs) fails
  where
    by : (here : Bool) → ((list_any p xs && b) ≡ false → (list_any p (take i xs) && b) ≡ false) → ((here || list_any p xs) && b) ≡ false → ((here || list_any p (take i xs)) && b) ≡ false
    by true later fails = fails
    by false later fails = later fails

-- one label more
pub more-filed : (was : Bool) (labels : List Label) (i : ℕ) (label : Label) (place : ℕ) (heading : Heading) (other : ℕ) → i < length labels → label ≡ get_or labels i label
    → ((was || is_of (take i labels) place heading other) || (same_heading (label_heading label) heading && (place == other))) ≡ (was || is_of (take (i + 1) labels) place heading other)
more-filed was labels i label place heading other within is =
    joined was (carries_heading heading (take i labels)) (same_heading (label_heading label) heading) (place == other)
    ∙ ap (λ b. was || (b && (place == other)))
    (ap (λ l. carries_heading heading (take i labels) || same_heading (label_heading l) heading) is
    ∙ sym (list_any_more (λ own. same_heading (label_heading own) heading) labels i label within))

-- what none of the labels has, none of the first ones has
pub front-apart : (was : Bool) (labels : List Label) (i place : ℕ) (heading : Heading) (other : ℕ) → is_of labels place heading other ≡ false → (was || is_of (take i labels) place heading other) ≡ was
front-apart was labels i place heading other apart =
    ap (λ b. was || b) (front_fails (λ own. same_heading (label_heading own) heading) (place == other) i labels apart) ∙ or_nothing was
