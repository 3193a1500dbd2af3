use Rattle.std.proofs.Common.{◌≡◌, Option, IfSome, length, refl, subst, arith}
use Rattle.pol_kept_map.specs.Work.{map_of}
use Rattle.pol_slot_map.specs.declared.follow.Followed.{Followed}
use Rattle.pol_machine.proofs.finish.report.Goals as goal

pub returns-then-count-limit : goal.returns-then-count-limit
returns-then-count-limit c made is =
    let told = subst (λ (o : Option Followed). IfSome o (λ m. c.count_of-count.result ≡ length (map_of m.work))) is c.count_of-count.ensures in
    (refl, omega (arith, told, c.if-count-limit.true), c.in_ok-publish.ensures.ok made is)
