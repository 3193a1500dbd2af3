-- How often lists of entries that are put together give each key.
use Rattle.std.proofs.Common.{◌≡◌, ◌+◌, cond, List, [], ◌∷◌, ◌++◌, refl, sym, ◌∙◌, ap}
use Rattle.std.specs.List.{flat_map, sum_by}
use Rattle.std.proofs.lemmas.List.Sums.{sum_by-append, sum_by-cons}
use Rattle.pol_mapkey.specs.Entries.{Entry}
use Rattle.pol_mapkey.specs.declared.Kind.{Kind}
use Rattle.pol_mapkey.specs.declared.MapKey.{MapKey}
use Rattle.pol_entry_tally.specs.Times.{is_entry, times}

pub times-append : (xs ys : List Entry) (q : MapKey) (k : Kind) → times (xs ++ ys) q k ≡ times xs q k + times ys q k
times-append xs ys q k = sum_by-append (λ e. cond (is_entry q k e) 1 0) xs ys

pub times-flat_map : {X : Type 0} (f : X → List Entry) (xs : List X) (q : MapKey) (k : Kind) → times (flat_map f xs) q k ≡ sum_by (λ x. times (f x) q k) xs
times-flat_map f [] q k = refl
times-flat_map f (x ∷ xs) q k =
    times-append (f x) (flat_map f xs) q k ∙ ap (λ n. times (f x) q k + n) (times-flat_map f xs q k) ∙ sym (sum_by-cons (λ x. times (f x) q k) x xs)
