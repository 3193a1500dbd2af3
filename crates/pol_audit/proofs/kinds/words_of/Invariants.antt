use Rattle.std.proofs.Common.{◌≡◌, map, take}
use Rattle.pol_audit.specs.Kinds.{said_by}
use Rattle.pol_audit.proofs.kinds.words_of.Given as goal

abbrev pub invariant-loop-i : goal.invariant-loop-i
invariant-loop-i g l = l.words.items ≡ map (said_by l.fn.proto l.own l.every) (take l.i l.ports)
