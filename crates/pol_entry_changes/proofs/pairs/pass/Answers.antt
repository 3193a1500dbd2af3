use Rattle.std.proofs.Common.{List, OnOk, sym, subst}
use Rattle.std.specs.List.{flat_map}
use Rattle.pol_sets.specs.Sets.{set_given}
use Rattle.pol_filters.specs.declared.filter.Filter.{Filter}
use Rattle.pol_entry_changes.specs.Balance.{GoesOn}
use Rattle.pol_entry_changes.specs.Given.{given_by}
use Rattle.pol_entry_changes.proofs.AllStand.{all_told}
use Rattle.pol_entry_changes.proofs.pairs.pass.Goals as goal

pub all_stay-requires-clause-told : goal.all_stay-requires-clause-told
all_stay-requires-clause-told c =
    all_told c.args.was.now c.args.is.now.rows c.args.is.now.moves c.args.old.now c.args.new.now c.requires.stays (c.requires.stand c.if-stand.true)

pub returns-then-stand : goal.returns-then-stand
returns-then-stand c =
    subst (λ (fs : List Filter). OnOk c.all_stay.result (GoesOn (flat_map (given_by (set_given c.args.was.now) c.args.dir) fs)
    (flat_map (given_by (set_given c.args.is.now.rows) c.args.dir) c.args.new.now) c.args.out.now c.all_stay.new.out)) (sym (c.requires.stand c.if-stand.true)) c.all_stay.ensures
