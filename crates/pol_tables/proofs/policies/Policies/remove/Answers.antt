use Rattle.std.proofs.Common.{sym}
use Rattle.pol_model.specs.Policies.{is_of_key}
use Rattle.pol_tables.proofs.Places.{nobody, none_filtered, none_found}
use Rattle.pol_tables.proofs.policies.Policies.remove.Goals as goal

pub returns-in-None-clause-list : goal.returns-in-None-clause-list
returns-in-None-clause-list c =
    let key = c.args.key.now in
    sym (none_filtered (is_of_key key) c.args.self.now.list (nobody (is_of_key key) c.args.self.now.list (sym c.in-None.ensures.place)))

pub returns-in-None-clause-removed : goal.returns-in-None-clause-removed
returns-in-None-clause-removed c =
    let key = c.args.key.now in
    sym (none_found (is_of_key key) c.args.self.now.list (nobody (is_of_key key) c.args.self.now.list (sym c.in-None.ensures.place)))
