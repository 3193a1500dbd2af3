use Rattle.pol_audit.proofs.Segments.{segment_is, segment_within}
use Rattle.pol_shut_ports.specs.Shut.{place_of}
use Rattle.pol_shut_ports.proofs.shut.bounds.Goals as goal

pub returns-clause-part : goal.returns-clause-part
returns-clause-part c =
    rw (c.count_below-from.ensures.count, c.count_below-to.ensures.count) (segment_is place_of c.args.place c.args.ranges.now c.requires.up)

pub returns-clause-ordered : goal.returns-clause-ordered
returns-clause-ordered c =
    rw (c.count_below-from.ensures.count, c.count_below-to.ensures.count) (segment_within place_of c.args.place c.args.ranges.now c.requires.up)
