use Rattle.std.proofs.Common.{◌≡◌, List, Option, IfSome, sym, ◌∙◌, subst}
use Rattle.pol_distill.specs.Distilled.{distilled}
use Rattle.pol_sets.specs.declared.sets.Move.{Move}
use Rattle.pol_kept_map.specs.Applies.{MovesTell, NamesFilters}
use Rattle.pol_kept_map.specs.Work.{IsWorkOf, WorkOf, map_of}
use Rattle.pol_kept_map.proofs.work.Work.stays_by.Goals as goal

pub returns-in-Some-clause-work : goal.returns-in-Some-clause-work
returns-in-Some-clause-work c = λ so rows ascend.
    let own : WorkOf = record { filters = c.deref.result.now; rows = c.as_slice.result.now } in
    let filters = c.args.filters.now in
    let same : own ≡ c.args.self.now = (λ i. record { filters = c.deref.ensures i; rows = c.as_slice.ensures.rows i }) ∙ c.self.view_is in
    let tells : List Move → Type 0 = λ moves. MovesTell own filters rows moves in
    subst (λ (w : WorkOf). NamesFilters w.filters filters → IfSome c.args.moves.now (λ moves. MovesTell w filters rows moves) → IsWorkOf filters rows w) same
    (λ names tell. c.are_still.ensures.work so rows ascend names
    (subst tells (sym c.as_slice-in-Some.ensures) (subst (λ (moves : Option (List Move)). IfSome moves tells) c.in-Some.is tell)))

pub returns-in-Some-clause-map : goal.returns-in-Some-clause-map
returns-in-Some-clause-map c = λ so rows ascend.
    let own : WorkOf = record { filters = c.deref.result.now; rows = c.as_slice.result.now } in
    let filters = c.args.filters.now in
    let same : own ≡ c.args.self.now = (λ i. record { filters = c.deref.ensures i; rows = c.as_slice.ensures.rows i }) ∙ c.self.view_is in
    let tells : List Move → Type 0 = λ moves. MovesTell own filters rows moves in
    subst (λ (w : WorkOf). NamesFilters w.filters filters → IfSome c.args.moves.now (λ moves. MovesTell w filters rows moves) → map_of w ≡ distilled filters rows) same
    (λ names tell. c.are_still.ensures.map so rows ascend names
    (subst tells (sym c.as_slice-in-Some.ensures) (subst (λ (moves : Option (List Move)). IfSome moves tells) c.in-Some.is tell)))
