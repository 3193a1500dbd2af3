-- Whether what a slot keeps is told no more after a regeneration.
use Rattle.std.specs.Prelude.{Bool, true, false, Result, Ok, Err}
use Rattle.pol_history.specs.declared.turn.SlotTurn.{SlotTurn}
use Rattle.pol_history.specs.declared.turn.SlotTurn.TheVariants as turn
use Rattle.pol_node.specs.declared.report.Regen.{Regen}
use Rattle.pol_node.specs.declared.report.Regen.TheVariants as regen
use Rattle.pol_node.specs.declared.report.RegenError.{RegenError}
use Rattle.pol_node.specs.declared.report.RegenError.TheVariants as error
use Rattle.pol_node.specs.declared.slot.Done.{Done}

abbrev pub is_gone : SlotTurn → Bool
is_gone turn.Shown = false
is_gone (turn.Full row) = false
is_gone turn.Gone = true

-- the same of an answer
abbrev pub says_gone : Regen → Bool
says_gone (regen.Published revision) = false
says_gone (regen.Already revision) = false
says_gone (regen.Full revision count) = false
says_gone regen.Gone = true

abbrev pub is_overtaken : RegenError → Bool
is_overtaken error.Memory = false
is_overtaken error.Overtaken = true

-- the endpoint is gone, or another than the slot has reported it
abbrev pub is_lost : Result Done RegenError → Bool
is_lost (Ok done) = is_gone done.turn
is_lost (Err e) = is_overtaken e
