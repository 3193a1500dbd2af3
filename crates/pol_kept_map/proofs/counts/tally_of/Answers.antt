-- The entries that were made are those of the filters, each as often.
use Rattle.std.proofs.Common.{ap, ◌∙◌}
use Rattle.pol_entry_tally.specs.Times.{times}
use Rattle.pol_entry_changes.specs.Given.{raw_of}
use Rattle.pol_kept_map.proofs.Standing.{tally_made}
use Rattle.pol_kept_map.proofs.counts.tally_of.Goals as goal

pub returns : goal.returns
returns c =
    tally_made c.deref.result.now (raw_of c.args.filters.now c.args.rows.now) c.in_ok-tally.tally c.in_ok-tally.ensures
    (λ q k. ap (λ es. times es q k) c.deref.ensures.value ∙ c.in_ok-raw.ensures q k)
