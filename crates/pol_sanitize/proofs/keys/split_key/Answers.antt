use Rattle.std.proofs.Common.{arith, refl}
use Rattle.pol_labels.specs.LabelText.{is_colon}
use Rattle.pol_labels.proofs.Cuts.{list_any-none}
use Rattle.pol_sanitize.proofs.keys.split_key.Goals as goal

pub returns-in-None-clause-source : goal.returns-in-None-clause-source
returns-in-None-clause-source c =
    let none = list_any-none is_colon c.args.key.now (c.in-None.ensures.byte (omega arith) (λ _ _ found. found)) in
    rw none refl

pub returns-in-None-clause-rest : goal.returns-in-None-clause-rest
returns-in-None-clause-rest c =
    let none = list_any-none is_colon c.args.key.now (c.in-None.ensures.byte (omega arith) (λ _ _ found. found)) in
    rw none refl
