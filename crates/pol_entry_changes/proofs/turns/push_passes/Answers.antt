use Rattle.std.proofs.Common.{List, OnOk, sym, ◌∙◌, subst}
use Rattle.std.specs.List.{flat_map}
use Rattle.pol_ports.specs.declared.Direction.TheVariants.{Ingress, Egress}
use Rattle.pol_sets.specs.Sets.{set_given}
use Rattle.pol_filters.specs.declared.filter.Filter.{Filter}
use Rattle.pol_entry_changes.specs.Balance.{GoesOn}
use Rattle.pol_entry_changes.specs.Given.{given_by}
use Rattle.pol_entry_changes.specs.Told.{Stays}
use Rattle.pol_entry_changes.proofs.Balanced.{two_on}
use Rattle.pol_entry_changes.proofs.turns.push_passes.Goals as goal

pub pass-requires-clause-stays : goal.pass-requires-clause-stays
pass-requires-clause-stays c =
    subst (λ (fs : List Filter). Stays c.args.was_rows.now c.args.is_rows.now.rows c.args.is_rows.now.moves fs c.as_slice-2.result.now) (sym c.as_slice.ensures)
    (subst (λ (fs : List Filter). Stays c.args.was_rows.now c.args.is_rows.now.rows c.args.is_rows.now.moves c.args.was.now.ingress fs) (sym c.as_slice-2.ensures) c.requires.ingress)

pub pass-requires-2-clause-stays : goal.pass-requires-2-clause-stays
pass-requires-2-clause-stays c =
    subst (λ (fs : List Filter). Stays c.args.was_rows.now c.args.is_rows.now.rows c.args.is_rows.now.moves fs c.as_slice-4.result.now) (sym c.as_slice-3.ensures)
    (subst (λ (fs : List Filter). Stays c.args.was_rows.now c.args.is_rows.now.rows c.args.is_rows.now.moves c.args.was.now.egress fs) (sym c.as_slice-4.ensures) c.requires.egress)

pub pass-requires-clause-stand : goal.pass-requires-clause-stand
pass-requires-clause-stand c = λ stand. c.as_slice.ensures ∙ c.requires.ingress_stands stand ∙ sym c.as_slice-2.ensures

pub pass-requires-2-clause-stand : goal.pass-requires-2-clause-stand
pass-requires-2-clause-stand c = λ stand. c.as_slice-3.ensures ∙ c.requires.egress_stands stand ∙ sym c.as_slice-4.ensures

pub returns : goal.returns
returns c =
    let was = set_given c.args.was_rows.now in
    let is = set_given c.args.is_rows.now.rows in
    let come =
    subst (λ (fs : List Filter). GoesOn (flat_map (given_by was Ingress) fs) (flat_map (given_by is Ingress) c.args.is.now.ingress) c.args.out.now c.pass.new.out) c.as_slice.ensures
    (subst (λ (fs : List Filter). GoesOn (flat_map (given_by was Ingress) c.as_slice.result.now) (flat_map (given_by is Ingress) fs) c.args.out.now c.pass.new.out) c.as_slice-2.ensures
    c.in_ok-pass.ensures) in
    let go =
    subst (λ (fs : List Filter). OnOk c.pass-2.result (GoesOn (flat_map (given_by was Egress) fs) (flat_map (given_by is Egress) c.args.is.now.egress) c.pass.new.out c.pass-2.new.out)) c.as_slice-3.ensures
    (subst (λ (fs : List Filter). OnOk c.pass-2.result (GoesOn (flat_map (given_by was Egress) c.as_slice-3.result.now) (flat_map (given_by is Egress) fs) c.pass.new.out c.pass-2.new.out)) c.as_slice-4.ensures
    c.pass-2.ensures) in
    two_on (flat_map (given_by was Ingress) c.args.was.now.ingress) (flat_map (given_by was Egress) c.args.was.now.egress)
    (flat_map (given_by is Ingress) c.args.is.now.ingress) (flat_map (given_by is Egress) c.args.is.now.egress)
    c.args.out.now c.pass.new.out c.pass-2.new.out come c.pass-2.result go
