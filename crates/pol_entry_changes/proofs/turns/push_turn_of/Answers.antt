use Rattle.std.proofs.Common.{OnOk, subst}
use Rattle.pol_mapkey.specs.declared.Kind.TheVariants.{Allow}
use Rattle.pol_mapkey.specs.declared.MapKey.{MapKey}
use Rattle.pol_entry_changes.specs.Balance.{GoesOn}
use Rattle.pol_entry_changes.specs.Given.{entry_where}
use Rattle.pol_entry_changes.proofs.turns.push_turn_of.Goals as goal

pub returns : goal.returns
returns c =
    subst (λ (key : MapKey). OnOk c.push_turn.result (GoesOn (entry_where c.args.was (key, Allow)) (entry_where c.args.is (key, Allow)) c.args.out.now c.push_turn.new.out))
    c.every_key.ensures c.push_turn.ensures
