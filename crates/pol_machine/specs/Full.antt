-- The rows of endpoints whose maps are too large, as what is kept tells them.
use Rattle.std.specs.Prelude.{ℕ, List, Option, None, Some}
use Rattle.pol_history.specs.declared.event.LastReport.{LastReport}
use Rattle.pol_model.specs.declared.answer.FullSlot.{FullSlot}
use Rattle.pol_model.specs.declared.row.Endpoint.{Endpoint}
use Rattle.pol_machine.specs.declared.row.MachineRow.{MachineRow}

-- the row, where the map that was reported has so many entries, which are too many
abbrev pub row_told : List ℕ → LastReport → Option ℕ → Option FullSlot
row_told name report None = None
row_told name report (Some count) = Some (record { name = name; revision = report.revision; count = count })

abbrev pub row_by : List ℕ → Option LastReport → Option ℕ → Option FullSlot
row_by name None full = None
row_by name (Some report) full = row_told name report full

-- what the endpoint's row tells
abbrev pub row_kept : Endpoint → Option MachineRow → Option FullSlot
row_kept endpoint None = None
row_kept endpoint (Some row) = row_by endpoint.name row.report row.full
