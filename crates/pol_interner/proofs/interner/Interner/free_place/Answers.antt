use Rattle.std.proofs.Common.{◌∙◌, sym}
use Rattle.std.proofs.lemmas.List.{length-map}
use Rattle.std.proofs.lemmas.Bool.{ltb-true, true≢false}
use Rattle.pol_interner.proofs.FreePlaces.{least_at_end, least_on_heap, peeked_is_empty}
use Rattle.pol_interner.proofs.interner.Interner.free_place.Goals as goal

pub returns-in-Some : goal.returns-in-Some
returns-in-Some g c =
    let e = c.in-Some.ensures in
    let is = c.self.invariant.1 in
    let empty = peeked_is_empty _ c.in-Some.least.now _ is (ltb-true _ _ (sym e.item.0)) e.lookup in
    rw (← c.self.view_is) (sym (least_on_heap _ c.in-Some.least.now _ is (e.greatest is.heap) empty))

pub returns-in-None : goal.returns-in-None
returns-in-None g c =
    let e = c.in-None.ensures in
    let least = least_at_end _ _ c.self.invariant.1 (λ some. absurd (true≢false (sym (e.item.2 some)))) in
    rw (← c.self.view_is) (c.len.ensures ∙ c.self.inside.slots.ok.0 ∙ sym (length-map _ _) ∙ sym least)
