use Rattle.pol_label_sets.proofs.Numbered.{numbers-filed, places-fit}
use Rattle.pol_label_sets.proofs.sets.LabelSets.push_numbers_with.Goals as goal

pub push_each-requires : goal.push_each-requires
push_each-requires c =
    rw c.deref.ensures.value
    (record { fits = places-fit _ _ c.self.invariant _ c.in_ok-places.places.items c.in_ok-places.ensures.members c.args.first (rw c.self.view_is c.requires.fits) })

pub returns : goal.returns
returns c =
    rw (← c.self.view_is, ← numbers-filed _ _ c.self.invariant _ c.in_ok-places.places.items c.in_ok-places.ensures.members c.args.first c.in_ok-places.ensures.ascend)
    (rw c.deref.ensures.value at c.push_each.ensures)
