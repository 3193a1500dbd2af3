use Rattle.std.proofs.Common.{List, ◌++◌, sym, subst}
use Rattle.pol_sets.specs.Sets.{set_given}
use Rattle.pol_sets.specs.declared.sets.Move.{Move}
use Rattle.pol_sets.specs.declared.sets.SetRow.{SetRow}
use Rattle.pol_entry_changes.specs.Balance.{Leads}
use Rattle.pol_entry_changes.specs.Given.{of_filters, of_no_filter}
use Rattle.pol_entry_changes.specs.Told.{Stays}
use Rattle.pol_entry_changes.specs.declared.staying.Moved.{Moved}
use Rattle.pol_entry_changes.proofs.Balanced.{goes_on, leads}
use Rattle.pol_entry_changes.proofs.turns.walked.Goals as goal

pub push_passes-requires-clause-ingress : goal.push_passes-requires-clause-ingress
push_passes-requires-clause-ingress c =
    subst (λ (moves : List Move). Stays c.in_ok-old.old c.in_ok-new.new.rows moves c.args.was.now.ingress c.args.is.now.ingress) (sym c.in_ok-new.ensures.moves)
    (subst (λ (rows : List SetRow). Stays rows c.in_ok-new.new.rows c.args.moves.now c.args.was.now.ingress c.args.is.now.ingress) (sym c.in_ok-old.ensures)
    (subst (λ (rows : List SetRow). Stays c.args.was_rows.now rows c.args.moves.now c.args.was.now.ingress c.args.is.now.ingress) (sym c.in_ok-new.ensures.rows) c.requires.ingress))

pub push_passes-requires-clause-egress : goal.push_passes-requires-clause-egress
push_passes-requires-clause-egress c =
    subst (λ (moves : List Move). Stays c.in_ok-old.old c.in_ok-new.new.rows moves c.args.was.now.egress c.args.is.now.egress) (sym c.in_ok-new.ensures.moves)
    (subst (λ (rows : List SetRow). Stays rows c.in_ok-new.new.rows c.args.moves.now c.args.was.now.egress c.args.is.now.egress) (sym c.in_ok-old.ensures)
    (subst (λ (rows : List SetRow). Stays c.args.was_rows.now rows c.args.moves.now c.args.was.now.egress c.args.is.now.egress) (sym c.in_ok-new.ensures.rows) c.requires.egress))

pub push_passes-requires-clause-ingress_stands : goal.push_passes-requires-clause-ingress_stands
push_passes-requires-clause-ingress_stands c = λ stand. c.all_filters_stand-stand.ensures.ingress stand (λ one other old new same. (c.requires.ingress one other old new same).0)

pub push_passes-requires-clause-egress_stands : goal.push_passes-requires-clause-egress_stands
push_passes-requires-clause-egress_stands c = λ stand. c.all_filters_stand-stand.ensures.egress stand (λ one other old new same. (c.requires.egress one other old new same).0)

pub returns : goal.returns
returns c =
    let start : Moved = record { come = c.new-3.result; gone = c.new-4.result } in
    let filled = λ (rows : List SetRow). of_filters (set_given rows) c.args.was.now ++ of_no_filter c.args.was.now in
    let filled_then = λ (rows : List SetRow). of_filters (set_given rows) c.args.is.now ++ of_no_filter c.args.is.now in
    let on = goes_on (of_filters (set_given c.in_ok-old.old) c.args.was.now) (of_filters (set_given c.in_ok-new.new.rows) c.args.is.now) (of_no_filter c.args.was.now) (of_no_filter c.args.is.now)
    start c.push_passes.new.out c.push_others.new.out c.in_ok-push_passes.ensures c.in_ok-push_others.ensures in
    subst (λ (rows : List SetRow). Leads (filled rows) (filled_then c.args.is_rows.now) c.push_others.new.out) c.in_ok-old.ensures
    (subst (λ (rows : List SetRow). Leads (filled c.in_ok-old.old) (filled_then rows) c.push_others.new.out) c.in_ok-new.ensures.rows
    (leads (filled c.in_ok-old.old) (filled_then c.in_ok-new.new.rows) start c.push_others.new.out c.new-3.ensures.items c.new-4.ensures.items on))
