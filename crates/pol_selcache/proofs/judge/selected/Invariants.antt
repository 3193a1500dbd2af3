use Rattle.std.proofs.Common.{◌≡◌, ◌≤◌, ◌+◌, ◌*◌, filter, take}
use Rattle.pol_ident.specs.Look.{selects_held}
use Rattle.pol_selcache.specs.Held.{steps_of}
use Rattle.pol_selcache.proofs.judge.selected.Given as goal

abbrev pub invariant-loop-number : goal.invariant-loop-number
invariant-loop-number g l =
    (l.own.items ≡ filter (selects_held l.identities l.peer) (take l.number-index l.numbers)) × (l.steps ≤ l.initial.steps + steps_of l.peer * l.number-index)
