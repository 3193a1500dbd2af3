use Rattle.std.proofs.Common.{ap, ◌∙◌}
use Rattle.pol_set_changes.specs.Ids.{has}
use Rattle.pol_prefixes.proofs.Goes.{gone_beyond}
use Rattle.pol_prefixes.proofs.Results.{if_ok}
use Rattle.pol_prefixes.proofs.gone.gone_numbers.Goals as goal

pub returns : goal.returns
returns c = record {
  gone = if_ok c.all_going.result (λ gone is number. ap (has number) is ∙ gone_beyond c.args.prefixes.now c.args.identities.now c.fits_together.ensures.sound c.requires.once number) c.all_going.ensures;
}
