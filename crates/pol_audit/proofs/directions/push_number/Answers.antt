use Rattle.std.proofs.Common.{arith}
use Rattle.pol_audit.proofs.Groups.{both_sctp, grown_more, tcp_udp}
use Rattle.pol_audit.proofs.Results.{on_ok}
use Rattle.pol_audit.proofs.directions.push_number.Goals as goal

pub returns-clause-grown : goal.returns-clause-grown
returns-clause-grown g c =
    on_ok c.push_group-3.result _ _ c.push_group-3.ensures.grown (λ last left right of_left of_right.
    grown_more left right _ _ _ _ _
    (grown_more left right _ _ _ _ _ (c.in_ok-push_group.ensures.grown left right of_left of_right) (c.in_ok-push_group-2.ensures.grown left right of_left of_right) (tcp_udp c.args.dir c.args.id))
    (last left right of_left of_right) (both_sctp c.args.dir c.args.id))

pub returns-clause-few : goal.returns-clause-few
returns-clause-few g c =
    on_ok c.push_group-3.result _ _ c.push_group-3.ensures.few (λ last.
    let one = c.in_ok-push_group.ensures.few in
    let two = c.in_ok-push_group-2.ensures.few in
    omega arith)
