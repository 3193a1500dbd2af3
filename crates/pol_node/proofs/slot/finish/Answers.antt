-- The map that was made is the endpoint's, and the changes lead to it.
use Rattle.std.proofs.Common.{◌≡◌, ℕ, Option, length, IfErr, IfOk, sym, ap, ◌∙◌, subst}
use Rattle.pol_map_changes.specs.Changes.{changed, table_of}
use Rattle.pol_model.specs.PolicyMap.{policy_map}
use Rattle.pol_history.specs.declared.event.EndpointId.{EndpointId}
use Rattle.pol_history.specs.declared.event.LastReport.{LastReport}
use Rattle.pol_history.specs.Commits.{state_now}
use Rattle.pol_history.specs.Machine.{endpoint_id}
use Rattle.pol_history.specs.Reports.{last_report}
use Rattle.pol_slot_map.specs.Followed.{table_then}
use Rattle.pol_node.specs.declared.report.Reported.{Reported}
use Rattle.pol_node.specs.Finish.{Finishes}
use Rattle.pol_node.specs.Kept.{NotReported}
use Rattle.pol_node.proofs.Following.{leads_there, made_map}
use Rattle.pol_node.proofs.Keeping.{shown_within}
use Rattle.pol_node.proofs.slot.finish.Goals as goal

pub finish-done-requires-clause-count : goal.finish-done-requires-clause-count
finish-done-requires-clause-count g c =
    let taken = c.args.taken.now in
    c.count-count.ensures.count
    ∙ ap length (made_map g.N.NodeName.options c.args.pass.now.has.history taken.endpoint.slot taken c.requires.taken c.args.kept.now.followed
    c.requires.keeps.is.follows c.requires.made)

pub finish-done-requires-clause-last : goal.finish-done-requires-clause-last
finish-done-requires-clause-last g c =
    ap (λ (e : EndpointId). last_report e c.args.pass.now.has.history) (sym c.requires.made.id) ∙ c.requires.keeps.last

pub finish-done-requires-clause-shown : goal.finish-done-requires-clause-shown
finish-done-requires-clause-shown g c = shown_within g.N.NodeName.options c.args.pass.now.has.history c.args.kept.now c.requires.keeps

pub finish-done-requires-clause-leads : goal.finish-done-requires-clause-leads
finish-done-requires-clause-leads g c =
    let options = g.N.NodeName.options in
    let history = c.args.pass.now.has.history in
    let taken = c.args.taken.now in
    let kept = c.args.kept.now in
    subst (λ (shown : Option ℕ). changed kept.followed.pending (table_then options history (endpoint_id taken.endpoint) shown)
    ≡ table_of (policy_map options (state_now options history) taken.endpoint)) c.requires.keeps.is.shown
    (leads_there options history taken.endpoint.slot taken c.requires.taken kept.followed c.requires.keeps.is.follows c.requires.made)

pub returns-clause-finished : goal.returns-clause-finished
returns-clause-finished g c =
    let taken = c.args.taken.now in
    let old = c.args.pass.now.has.history in
    let new = c.finish-done.new.pass.has.history in
    subst (λ (n : ℕ). IfOk c.finish-done.result (λ (done : Reported). Finishes g.N.NodeName.options (endpoint_id taken.endpoint) taken.revision n old new done.finished))
    (c.count-count.ensures.count
    ∙ ap length (made_map g.N.NodeName.options old taken.endpoint.slot taken c.requires.taken c.args.kept.now.followed c.requires.keeps.is.follows c.requires.made))
    c.finish-done.ensures.finished

pub returns-clause-cause : goal.returns-clause-cause
returns-clause-cause g c =
    let endpoint = endpoint_id c.args.taken.now.endpoint in
    let old = c.args.pass.now.has.history in
    let last_is = ap (λ (e : EndpointId). last_report e old) (sym c.requires.made.id) ∙ c.requires.keeps.last in
    subst (λ (last : Option LastReport). IfErr c.finish-done.result (NotReported g.N.NodeName.options c.finish-done.new.pass.has.history endpoint last))
    (sym last_is) c.finish-done.ensures.cause
