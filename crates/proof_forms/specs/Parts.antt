-- A row that came once more.
use Rattle.std.specs.Prelude.{◌+◌}
use Rattle.proof_forms.specs.declared.parts.CountRow.{CountRow}

abbrev pub raised : CountRow → CountRow
raised row = record row { count = row.count + 1 }
