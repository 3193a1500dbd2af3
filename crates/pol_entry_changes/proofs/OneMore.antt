-- One filter more stands where the other list has one.
use Rattle.std.proofs.Common.{◌≡◌, ℕ, ◌+◌, ◌<◌, List, [], ◌∷◌, ◌++◌, length, take, get_or, sym, ◌∙◌, subst}
use Rattle.std.specs.List.{Contains}
use Rattle.std.proofs.lemmas.List.Elements.{Contains-get_or}
use Rattle.std.proofs.lemmas.List.{take_more}
use Rattle.pol_filters.specs.declared.filter.Filter.{Filter}
use Rattle.pol_entry_changes.specs.Told.{NamesOne, StandsAt}

pub stands_more : (old new : List Filter) (i : ℕ) (one other : Filter) → i < length old → i < length new → one ≡ get_or old i one → other ≡ get_or new i other
    → StandsAt one other → (NamesOne old new → take i old ≡ take i new) → NamesOne old new → take (i + 1) old ≡ take (i + 1) new
stands_more old new i one other in_old in_new at_old at_new stands before names =
    let there = subst (Contains old) (sym at_old) (Contains-get_or old i one in_old) in
    let here = subst (Contains new) (sym at_new) (Contains-get_or new i other in_new) in
    let same : get_or old i one ≡ get_or new i other = sym at_old ∙ names one other there here stands ∙ at_new in
    take_more old i one in_old ∙ (λ j. before names j ++ same j ∷ []) ∙ sym (take_more new i other in_new)
