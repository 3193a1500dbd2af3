use Rattle.pol_label_sets.proofs.Refiled.{came_ok}
use Rattle.pol_label_sets.proofs.sets.add_filed.Goals as goal

pub returns-clause-tied : goal.returns-clause-tied
returns-clause-tied c =
    came_ok _ _ c.requires.tied _ _ _ c.add.result (rw (c.as_slice.ensures.labels, c.free_place.ensures) at c.in_ok-file_each.ensures.filed) c.add.ensures.ok
