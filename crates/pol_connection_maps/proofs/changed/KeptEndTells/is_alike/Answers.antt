use Rattle.pol_connection_maps.proofs.Numbered.{same_kind}
use Rattle.pol_connection_maps.proofs.Shared.{alike_changed}
use Rattle.pol_connection_maps.proofs.changed.KeptEndTells.is_alike.Goals as goal

pub returns : goal.returns
returns c = λ same maps its others.
    let one = c.args.self.now in
    let other = c.args.other.now in
    alike_changed one other
    (same_kind maps.before one.before other.before its.0 others.0 (c.is_of_kind.ensures.before same))
    (same_kind maps.after one.after other.after its.1 others.1 (c.is_of_kind.ensures.after same))
    (c.is_of_kind.ensures.halves same)
