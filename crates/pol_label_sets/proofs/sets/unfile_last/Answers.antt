use Rattle.std.proofs.Common.{refl}
use Rattle.pol_label_sets.proofs.Refiled.{counted, less-carries, none-carries, went, whole}
use Rattle.pol_label_sets.proofs.sets.unfile_last.Goals as goal

pub returns-in-Some-key_at : goal.returns-in-Some-key_at
returns-in-Some-key_at c =
    record {
      tied = went _ _ c.requires.tied c.args.place c.in-Some.holders c.in-Some-key_at.labels.now _
          (whole _ _ _ c.in-Some-key_at.ensures c.in-Some.ensures) c.if-holders-le1.true
          (rw c.as_slice.ensures.labels at c.unfile_each.ensures);
    }

pub returns-else-holders-le1 : goal.returns-else-holders-le1
returns-else-holders-le1 c =
    record { tied = counted _ _ c.requires.tied c.args.place _ refl (λ heading. less-carries heading _ c.in-Some.holders c.in-Some.ensures c.if-holders-le1.false) }

pub returns-in_default : goal.returns-in_default
returns-in_default c =
    record { tied = counted _ _ c.requires.tied c.args.place _ refl (λ heading. none-carries heading _ c.in_default.ensures) }
