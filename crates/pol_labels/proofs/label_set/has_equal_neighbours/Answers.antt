use Rattle.std.proofs.Common.{◌≡◌, ◌-◌, sym, ◌∙◌, arith, get_or}
use Rattle.std.proofs.lemmas.List.{get_or_default}
use Rattle.pol_labels.specs.Order.{same_place}
use Rattle.pol_labels.proofs.Places.{has_duplicate_key-at}
use Rattle.pol_labels.proofs.label_set.has_equal_neighbours.Goals as goal

pub returns-then-shares_place-clause-found : goal.returns-then-shares_place-clause-found
returns-then-shares_place-clause-found c =
    let labels = c.args.labels.now in
    let first = c.index-labels-i.result in
    let second = c.index-labels-i-in-loop-i.result in
    let at_second : second ≡ get_or labels c.loop-i.i first =
    c.index-labels-i-in-loop-i.is ∙ get_or_default labels c.loop-i.i second first (omega arith) in
    has_duplicate_key-at labels (c.loop-i.i - 1) c.loop-i.i first (omega arith) (omega arith)
    (sym (λ i. same_place (c.index-labels-i.is i) (at_second i)) ∙ (sym c.shares_place.ensures ∙ c.if-shares_place.true))
