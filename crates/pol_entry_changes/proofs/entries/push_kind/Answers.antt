use Rattle.std.proofs.Common.{rules, ◌≡◌, ◌==◌, false, length, ◌∙◌}
use Rattle.pol_sets.specs.Sets.{set_given}
use Rattle.pol_distill.proofs.RawLists.{every_pushed}
use Rattle.pol_entry_changes.proofs.entries.push_kind.Goals as goal

pub returns-in_ok-keys-in-Every : goal.returns-in_ok-keys-in-Every
returns-in_ok-keys-in-Every c =
    let some : (length c.as_slice-ports.result.now == 0) ≡ false = search rules in
    every_pushed (set_given c.args.rows.now) c.args.dir c.args.kind c.args.filter.now c.as_slice-ports.result.now c.deref.result.now c.args.out.now.items c.push_identity.new.out.items
    c.push_identity.result c.in-Every.is c.as_slice-ports.ensures some (c.deref.ensures.value ∙ c.in_ok-keys-in-Every.ensures) c.push_identity.ensures
