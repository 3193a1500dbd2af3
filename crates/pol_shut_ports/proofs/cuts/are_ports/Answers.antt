use Rattle.std.proofs.Common.{◌<◌, subst, ◌∙◌}
use Rattle.std.proofs.lemmas.List.{get_or_default}
use Rattle.pol_shut_ports.proofs.cuts.are_ports.Goals as goal

pub returns : goal.returns
returns c = λ n there.
    subst (λ m. m < 65536) (get_or_default c.args.ports.now there.0 0 n there.1 ∙ there.2) (c.type_inv.ports there.0).fits
