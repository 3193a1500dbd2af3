use Rattle.pol_entry_changes.proofs.Raw.{given_is}
use Rattle.pol_entry_changes.proofs.entries.given_within.Goals as goal

pub returns : goal.returns
returns c = given_is c.all_given.result (λ v. v.items) c.in_ok-index.index c.args.rows.now c.args.filters.now c.in_ok-index.ensures c.all_given.ensures
