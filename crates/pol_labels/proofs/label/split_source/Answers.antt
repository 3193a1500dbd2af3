use Rattle.std.proofs.Common.{arith, refl}
use Rattle.pol_labels.specs.LabelText.{is_colon}
use Rattle.pol_labels.proofs.Cuts.{list_any-none}
use Rattle.pol_labels.proofs.label.split_source.Goals as goal

pub returns-in-None-clause-source : goal.returns-in-None-clause-source
returns-in-None-clause-source c =
    let none = list_any-none is_colon c.args.name.now (c.in-None.ensures.byte (omega arith) (λ _ _ found. found)) in
    rw none refl

pub returns-in-None-clause-key : goal.returns-in-None-clause-key
returns-in-None-clause-key c =
    let none = list_any-none is_colon c.args.name.now (c.in-None.ensures.byte (omega arith) (λ _ _ found. found)) in
    rw none refl
