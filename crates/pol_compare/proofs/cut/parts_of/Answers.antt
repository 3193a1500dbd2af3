use Rattle.std.proofs.Common.{◌≡◌, ◌+◌, ◌∷◌, get_or, drop, refl, sym, ap, ◌∙◌, add-one, drop-cons}
use Rattle.std.proofs.lemmas.List.{take_more}
use Rattle.pol_compare.specs.Parts.{parts_of}
use Rattle.pol_compare.proofs.Cutting.{divides, one_more}
use Rattle.pol_compare.proofs.cut.parts_of.Goals as goal

pub loop-place-preserved : goal.loop-place-preserved
loop-place-preserved c =
    let text = c.args.text.now in
    let i = c.loop-place.place in
    let within = c.loop-place-test.true in
    let next : drop i text ≡ get_or text i 0 ∷ drop (i + 1) text = rw (drop-cons text i 0 within, add-one) refl in
    one_more (parts_of text) c.loop-place.begins _ _ (drop i text) (drop (i + 1) text) (get_or text i 0) c.loop-place.invariant next
    (ap (divides c.loop-place.begins) (sym c.split_at.ensures.back) ∙ sym c.divides.ensures.divides ∙ c.if-divides.false) (take_more text i 0 within)
