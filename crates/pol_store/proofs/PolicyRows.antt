-- What holds of each policy, as one comes.
use Rattle.std.proofs.Common.{Bool, true, false, cond, List, [], ◌∷◌}
use Rattle.std.specs.List.{AllByRecursion}
use Rattle.pol_model.specs.declared.row.Stamped.{Stamped}
use Rattle.pol_model.specs.Policies.{applied, is_of_key}

pub every_applied : (P : Stamped → Type 0) (new : Stamped) (policies : List Stamped) → P new → AllByRecursion P policies → AllByRecursion P (applied new policies)
every_applied P new [] own all = (own, tt)
every_applied P new (old ∷ others) own all = by (is_of_key new.policy.key old) (every_applied P new others own all.1)
  where
    by : (b : Bool) → AllByRecursion P (applied new others) → AllByRecursion P (cond b (new ∷ others) (old ∷ applied new others))
    by true rest = (own, all.1)
    by false rest = (all.0, rest)
