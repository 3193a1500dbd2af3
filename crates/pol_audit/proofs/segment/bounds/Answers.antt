use Rattle.pol_mapkey.specs.Entries.{Entry}
use Rattle.pol_audit.proofs.Segments.{segment_is, segment_within}
use Rattle.pol_audit.proofs.segment.bounds.Goals as goal

pub returns-clause-part : goal.returns-clause-part
returns-clause-part c =
    rw (c.count_below-from.ensures.count, c.count_below-to.ensures.count, c.from.ensures, c.from-2.ensures)
    (segment_is (λ (e : Entry). e.0.id) c.args.id c.args.entries.now c.requires)

pub returns-clause-ordered : goal.returns-clause-ordered
returns-clause-ordered c =
    rw (c.count_below-from.ensures.count, c.count_below-to.ensures.count, c.from.ensures, c.from-2.ensures)
    (segment_within (λ (e : Entry). e.0.id) c.args.id c.args.entries.now c.requires)
