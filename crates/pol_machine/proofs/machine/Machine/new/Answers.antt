use Rattle.std.proofs.Common.{None, ap, refl}
use Rattle.std.specs.Prelude.{nat_eq}
use Rattle.std.specs.Map.{lookup}
use Rattle.pol_data.specs.contracts.text.TextPartialEq.TheImpl as text
use Rattle.pol_history.specs.Machine.{machine_start}
use Rattle.pol_machine.specs.Parts.{taken_in}
use Rattle.pol_machine.specs.Stands.{kept_of}
use Rattle.pol_machine.proofs.Begun.{start_stands}
use Rattle.pol_machine.proofs.machine.Machine.new.Goals as goal

pub returns-clause-start : goal.returns-clause-start
returns-clause-start c =
    start_stands (kept_of (record { limit = c.args.map_max; repo = c.in_ok-new.field-0; rows = c.new-2.result.entries; takes = c.new-3.result.entries }))
    (record { mode = c.args.mode; localhost = c.args.localhost; map_max = None }) c.requires.limit refl c.in_ok-new.ensures.start
    (λ name. ap (lookup (text.ghosts.eq name)) c.new-2.ensures.empty) (λ slot. ap (λ es. taken_in (lookup (nat_eq slot) es)) c.new-3.ensures.empty)

pub invariant_of-result : goal.invariant_of-result
invariant_of-result c = record {
  machine = machine_start;
  stands =
      start_stands (kept_of (record { limit = c.args.map_max; repo = c.in_ok-new.field-0; rows = c.new-2.result.entries; takes = c.new-3.result.entries }))
      (record { mode = c.args.mode; localhost = c.args.localhost; map_max = None }) c.requires.limit refl c.in_ok-new.ensures.start
      (λ name. ap (lookup (text.ghosts.eq name)) c.new-2.ensures.empty) (λ slot. ap (λ es. taken_in (lookup (nat_eq slot) es)) c.new-3.ensures.empty);
}
