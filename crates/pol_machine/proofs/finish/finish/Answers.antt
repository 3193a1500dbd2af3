use Rattle.std.proofs.Common.{Option, is_some, ap, refl, subst, sym}
use Rattle.pol_taken.specs.declared.taken.Taken.{Taken}
use Rattle.pol_machine.specs.Parts.{Finishes, by_slot, taken_in}
use Rattle.pol_machine.specs.Rows.{by_name}
use Rattle.pol_machine.proofs.Reporting.{written_slot}
use Rattle.pol_machine.proofs.finish.finish.Goals as goal

pub returns-in-Some : goal.returns-in-Some
returns-in-Some c =
    let now = c.finish_place.new.place in
    let h = c.get_mut.follows.holds now in
    record {
      now = now;
      finishes =
          subst (λ (place : Option Taken). Finishes c.args.limit c.args.commits place (by_name c.args.rows.now) (by_name c.finish_place.new.rows) now c.finish_place.result)
          (ap taken_in c.in-Some.ensures.value) c.finish_place.ensures;
      takes = λ other. written_slot c.args.slot other now (by_slot c.args.takes.now) _ _ ((h.3 (ap is_some (sym c.in-Some.ensures.value))).0 other) refl;
    }
