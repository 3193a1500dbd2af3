use Rattle.std.proofs.Common.{◌∷◌, [], codes, sym, arith}
use Rattle.pol_model.specs.Worlds.{reserved_label}
use Rattle.pol_model.proofs.LabelLists.{lengths_differ}
use Rattle.pol_model.proofs.reserved.is_init.Goals as goal

pub returns-in_default-2 : goal.returns-in_default-2
returns-in_default-2 c =
    rw (← c.as_slice.ensures.labels) (sym (lengths_differ c.as_slice.result.now (reserved_label (codes "init") ∷ []) (λ e. omega (arith, c.in_default.len_at_least))))
