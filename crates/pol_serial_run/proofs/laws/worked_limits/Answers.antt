use Rattle.std.proofs.Common.{◌<◌, [], ◌∷◌, refl, arith}
use Rattle.pol_addr.specs.Cidr.{network}
use Rattle.pol_addr.specs.Prefix.{contains}
use Rattle.pol_model.specs.Enforced.{has_rule}
use Rattle.pol_model.specs.Verdict.{rule_covers}
use Rattle.pol_serial_run.proofs.laws.worked_limits.Goals as goal

pub returns : goal.returns
unfolding has_rule rule_covers contains network
returns c =
    let first : 0 < 2 = omega arith in
    let second : 1 < 2 = omega arith in (
      refl,
      (
        refl,
        (
          refl,
          (
            refl,
            (
              refl,
              (
                refl,
                ((refl, record { those = record { moves = (0, 1) ∷ []; below = (first, second, tt); is = refl }; sorted = (refl, tt) }), (refl, tt)),
              ),
            ),
          ),
        ),
      ),
    )
