use Rattle.std.proofs.Common.{List, ◌∙◌, ap}
use Rattle.std.specs.Prelude.{ℕ}
use Rattle.pol_disk.specs.Images.{overwritten}
use Rattle.pol_file_disk.proofs.Filled.{filled}
use Rattle.pol_file_disk.proofs.opening.fill.Goals as goal

pub returns-in-Ok : goal.returns-in-Ok
returns-in-Ok c =
    c.in-Ok.ensures.written ∙ ap (λ (b : List ℕ). overwritten b 0 c.args.bytes.now) c.requires ∙ filled c.args.bytes.now
