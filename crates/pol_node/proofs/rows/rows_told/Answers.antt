-- One turn more.
use Rattle.std.proofs.Common.{◌≡◌, List, [], ◌∷◌, ◌++◌, sym, ap, ◌∙◌}
use Rattle.std.proofs.lemmas.List.{append-nil}
use Rattle.std.proofs.lemmas.List.Elements.{filter_map-append}
use Rattle.pol_model.specs.declared.answer.FullSlot.{FullSlot}
use Rattle.pol_history.specs.SlotTurns.{row_in, rows_of}
use Rattle.pol_history.specs.declared.turn.SlotTurn.{SlotTurn}
use Rattle.pol_node.proofs.rows.rows_told.Goals as goal

-- the rows that turns tell, and those of one turn more
rows_and : (turns : List SlotTurn) (turn : SlotTurn) (rows more : List FullSlot) → rows ≡ rows_of turns → rows_of (turn ∷ []) ≡ more
    → rows ++ more ≡ rows_of (turns ++ turn ∷ [])
rows_and turns turn rows more told one =
    ap (λ (all : List FullSlot). all ++ more) told ∙ ap (λ (last : List FullSlot). rows_of turns ++ last) (sym one) ∙ sym (filter_map-append row_in turns (turn ∷ []))

rows_same : (turns : List SlotTurn) (turn : SlotTurn) (rows : List FullSlot) → rows ≡ rows_of turns → rows_of (turn ∷ []) ≡ [] → rows ≡ rows_of (turns ++ turn ∷ [])
rows_same turns turn rows told none = sym (append-nil rows) ∙ rows_and turns turn rows [] told none

pub loop-turn-preserved-in-Continue-1 : goal.loop-turn-preserved-in-Continue-1
loop-turn-preserved-in-Continue-1 c =
    c.in_ok-push-in-Full.ensures.items
    ∙ rows_and c.loop-turn.yielded c.in-Some.turn c.loop-turn.rows.items (c.in-Full.row ∷ []) c.loop-turn.invariant (ap (λ (turn : SlotTurn). rows_of (turn ∷ [])) c.in-Full.is)

pub loop-turn-preserved-in-Shown : goal.loop-turn-preserved-in-Shown
loop-turn-preserved-in-Shown c =
    rows_same c.loop-turn.yielded c.in-Some.turn c.loop-turn.rows.items c.loop-turn.invariant (ap (λ (turn : SlotTurn). rows_of (turn ∷ [])) c.in-Shown.is)

pub loop-turn-preserved : goal.loop-turn-preserved
loop-turn-preserved c =
    rows_same c.loop-turn.yielded c.in-Some.turn c.loop-turn.rows.items c.loop-turn.invariant (ap (λ (turn : SlotTurn). rows_of (turn ∷ [])) c.in-Gone.is)
