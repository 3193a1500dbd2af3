-- What small scripts are answered.
use Rattle.std.proofs.Common.{◌≡◌, List, [], ◌∷◌, refl}
use Rattle.pol_addr.specs.Cidr.{network}
use Rattle.pol_addr.specs.Prefix.{contains}
use Rattle.pol_model.specs.Enforced.{has_rule}
use Rattle.pol_model.specs.Verdict.{rule_covers}
use Rattle.pol_serial_run.specs.Accepted.{accepted}
use Rattle.pol_serial_run.specs.SerialRun.{IsSerial}
use Rattle.pol_serial_run.specs.Worked.{answers, later_answers, later_lines, lines, requests, usual}

pub first : IsSerial usual [] lines answers
unfolding has_rule rule_covers contains network
first =
    (refl, (refl, (refl, (refl, (refl, ((refl, record { those = record { moves = []; below = tt; is = refl }; sorted = tt }), (refl, (refl, tt))))))))

pub accepted_first : accepted usual [] lines ≡ requests
unfolding contains network
accepted_first = refl

pub later : IsSerial usual requests later_lines later_answers
unfolding has_rule rule_covers contains network
later =
    (refl, ((refl, record { those = record { moves = []; below = tt; is = refl }; sorted = tt }), (refl, (refl, (refl, (refl, (refl, tt)))))))

pub accepted_later : accepted usual requests later_lines ≡ []
accepted_later = refl
