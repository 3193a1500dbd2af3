use Rattle.std.proofs.Common.{IfOk, subst}
use Rattle.pol_history.specs.Machine.{Machine}
use Rattle.pol_machine.specs.Serial.{ListsRows}
use Rattle.pol_machine.specs.Stands.{Kept, Stands, Stored, kept_of, options_in}
use Rattle.pol_machine.proofs.FullRows.{lists}
use Rattle.pol_machine.proofs.machine.Machine.full.Goals as goal

pub returns : goal.returns
returns c =
    let i = c.self.inside in
    let k : Kept = kept_of (record { limit = i.limit; repo = i.repo; rows = i.rows.entries; takes = i.takes.entries }) in
    subst (λ (s : Stored). (m : Machine) → Stands s m → IfOk c.full_rows.result (ListsRows (options_in s) m.history)) c.self.view_is
    (λ m stands. lists k m stands c.full_rows.result c.endpoints.result.now c.endpoints.ensures.list c.full_rows.ensures.those c.full_rows.ensures.sorted)
