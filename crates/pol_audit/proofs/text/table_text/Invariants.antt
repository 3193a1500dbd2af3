use Rattle.std.proofs.Common.{◌≡◌, take}
use Rattle.std.specs.String.{string_bytes}
use Rattle.pol_audit.specs.Text.{text_of}
use Rattle.pol_audit.proofs.text.table_text.Given as goal

-- what was written so far is the text of the entries so far
abbrev pub invariant-loop-entry : goal.invariant-loop-entry
invariant-loop-entry l = string_bytes l.out ≡ text_of (take l.entry-index l.entry-items)
