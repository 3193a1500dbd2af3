use Rattle.std.proofs.Common.{map, ◌∙◌}
use Rattle.std.proofs.lemmas.Result.{err_from_is_err_and}
use Rattle.serde_json.specs.View.{view, members_view}
use Rattle.pol_script.specs.Members.{known_member, known_members}
use Rattle.pol_script.proofs.Turns.{member_turn, passed, stopped}
use Rattle.pol_script.proofs.members.check_members.Goals as goal

pub loop-name-preserved : goal.loop-name-preserved
loop-name-preserved c =
    let names = map (λ n. n.now) c.args.names.now in
    let v = c.in-Some.member.now in
    let name = c.as_str.result.now in
    let turn = member_turn names c.loop-name.name-iterator c.next.new.self (c.in-Some.name.now, v) name c.in-Some.ensures.steps c.as_str.ensures.value in
    passed (known_member names name (view v)) (known_members names (members_view c.next.new.self)) (known_members names (members_view c.args.members.now.entries))
    c.in_ok-check_member.field-0 (c.loop-name.invariant ∙ turn) c.in_ok-check_member.ensures

pub returns-in_err-check_member : goal.returns-in_err-check_member
returns-in_err-check_member c =
    let names = map (λ n. n.now) c.args.names.now in
    let v = c.in-Some.member.now in
    let name = c.as_str.result.now in
    let turn = member_turn names c.loop-name.name-iterator c.next.new.self (c.in-Some.name.now, v) name c.in-Some.ensures.steps c.as_str.ensures.value in
    let p = err_from_is_err_and c.from_residual.result c.from_residual.ensures.1 in
    stopped (λ done. done) (λ done. done) (known_member names name (view v)) (λ _. known_members names (members_view c.next.new.self)) (known_members names (members_view c.args.members.now.entries))
    c.in_err-check_member.field-0.0 c.from_residual.result (c.loop-name.invariant ∙ turn) c.in_err-check_member.ensures (cc (p.1, p.2))
