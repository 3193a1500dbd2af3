use Rattle.std.proofs.Common.{◌≡◌, ◌++◌, take}
use Rattle.std.specs.String.{string_bytes}
use Rattle.pol_json.specs.Texts.{printable}
use Rattle.pol_json.proofs.texts.push_printable.Given as goal

-- what was written so far is the front of the name
abbrev pub invariant-loop-byte : goal.invariant-loop-byte
invariant-loop-byte l = string_bytes l.out ≡ string_bytes l.fn.out ++ printable (take l.byte-index l.byte-items)
