use Rattle.std.proofs.Common.{◌≡◌, Option, Some, inr, is_some, ap, refl, subst, sym}
use Rattle.pol_machine.specs.Parts.{FinishesTaken, left_over}
use Rattle.pol_machine.specs.Rows.{by_name}
use Rattle.pol_machine.specs.declared.row.MachineRow.{MachineRow}
use Rattle.pol_machine.proofs.finish.finish_taken.Goals as goal

pub returns-else-row-taken-clause-finishes : goal.returns-else-row-taken-clause-finishes
returns-else-row-taken-clause-finishes c =
    let rows = by_name c.args.rows.now in
    let now = c.finish_row.new.row in
    let there : rows c.args.taken.endpoint.name ≡ Some c.in-Some.row.now = sym c.in-Some.ensures.value in
    let h = c.get_mut.follows.holds now in
    subst (λ (o : Option MachineRow). FinishesTaken c.args.limit c.args.commits c.args.taken o rows (by_name (c.get_mut.follows.lender now))
    (left_over c.args.taken c.finish_row.result.1) c.finish_row.result.1) (sym there)
    (inr (c.if-row-taken.false, record { now = now; finishes = c.finish_row.ensures.finishes; rows_are = λ name. (h.3 (ap is_some there)).0 name; left = refl }))
