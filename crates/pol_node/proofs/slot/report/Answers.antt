-- What is told is of the map that was made, which is the endpoint's.
use Rattle.std.proofs.Common.{rules, ◌≡◌, ℕ, false, length, IfErr, sym, ap, ◌∙◌, subst}
use Rattle.std.proofs.lemmas.Result.{IfErr-weaker}
use Rattle.pol_history.specs.declared.turn.SlotTurn.{SlotTurn}
use Rattle.pol_node.specs.declared.report.Regen.{Regen}
use Rattle.pol_history.specs.Machine.{endpoint_id}
use Rattle.pol_history.specs.Reports.{last_report}
use Rattle.pol_node.specs.declared.report.RegenError.{RegenError}
use Rattle.pol_node.specs.Finish.{Regenerates}
use Rattle.pol_node.specs.Kept.{NotReported}
use Rattle.pol_node.specs.KeptAfter.{KeepsAt}
use Rattle.pol_node.specs.Lost.{is_overtaken}
use Rattle.pol_node.specs.Slot.{TellsAnyTurn, regen_of, turn_of}
use Rattle.pol_node.proofs.Following.{made_map}
use Rattle.pol_node.proofs.Keeping.{is_kept-later, left_keeps, not_gone, was}
use Rattle.pol_node.proofs.KeepingOn.{keeps_at}
use Rattle.pol_node.proofs.Turning.{regenerates, tells}
use Rattle.pol_node.proofs.slot.report.Goals as goal

pub keep_on-requires-clause-keeps : goal.keep_on-requires-clause-keeps
keep_on-requires-clause-keeps g c =
    is_kept-later g.N.NodeName.options c.args.pass.now.has.history c.finish.new.pass.has.history c.args.kept.now
    c.finish.ensures.grows.whole.grows.goes_on c.requires.keeps.is

pub returns-in_err-reported-clause-left : goal.returns-in_err-reported-clause-left
returns-in_err-reported-clause-left g c =
    let options = g.N.NodeName.options in
    let taken = c.args.taken in
    let endpoint = endpoint_id taken.endpoint in
    let grows = c.finish.ensures.grows.whole.grows in
    let old = c.args.pass.now.has.history in
    let new = c.finish.new.pass.has.history in
    let told : IfErr c.from_residual.result (NotReported options new endpoint (last_report endpoint old)) = search rules in
    IfErr-weaker c.from_residual.result (NotReported options new endpoint (last_report endpoint old))
    (λ (why : RegenError). is_overtaken why ≡ false → KeepsAt options new taken.endpoint.slot c.args.kept.now)
    (λ why not left. keeps_at options old new taken
    (was options old new grows.goes_on grows.legal taken.endpoint.slot taken c.requires.taken) c.args.kept.now c.requires.made.id
    (left_keeps options old new grows.goes_on c.args.kept.now c.requires.keeps endpoint c.requires.made.id why not left)) told

pub returns-clause-regen : goal.returns-clause-regen
returns-clause-regen g c =
    let options = g.N.NodeName.options in
    let taken = c.args.taken in
    let old = c.args.pass.now.has.history in
    let new = c.finish.new.pass.has.history in
    let grows = c.finish.ensures.grows.whole.grows in
    let finished = c.in_ok-reported.reported.finished in
    let count = c.count-count.ensures.count
    ∙ ap length (made_map options old taken.endpoint.slot taken c.requires.taken c.args.kept.now.followed c.requires.keeps.is.follows c.requires.made) in
    subst (λ (r : Regen). Regenerates options taken.endpoint.slot old new r)
    (sym (c.make_done.ensures.regen ∙ ap (λ (n : ℕ). regen_of taken.revision n finished) count))
    (regenerates options taken.endpoint.slot old new grows.goes_on grows.legal taken c.requires.taken finished c.in_ok-reported.ensures.finished)

pub returns-clause-turn : goal.returns-clause-turn
returns-clause-turn g c =
    let options = g.N.NodeName.options in
    let taken = c.args.taken in
    let old = c.args.pass.now.has.history in
    let new = c.finish.new.pass.has.history in
    let grows = c.finish.ensures.grows.whole.grows in
    let finished = c.in_ok-reported.reported.finished in
    let count = c.count-count.ensures.count
    ∙ ap length (made_map options old taken.endpoint.slot taken c.requires.taken c.args.kept.now.followed c.requires.keeps.is.follows c.requires.made) in
    subst (λ (t : SlotTurn). TellsAnyTurn options taken.endpoint.slot old new t)
    (sym (c.make_done.ensures.turn ∙ ap (λ (n : ℕ). turn_of (record { name = taken.endpoint.name; revision = taken.revision; count = n }) finished) count))
    (tells options taken.endpoint.slot old new grows.goes_on grows.legal taken c.requires.taken finished c.in_ok-reported.ensures.finished)

pub returns-clause-keeps : goal.returns-clause-keeps
returns-clause-keeps g c lives =
    let taken = c.args.taken in
    let grows = c.finish.ensures.grows.whole.grows in
    let old = c.args.pass.now.has.history in
    let new = c.finish.new.pass.has.history in
    keeps_at g.N.NodeName.options old new taken
    (was g.N.NodeName.options old new grows.goes_on grows.legal taken.endpoint.slot taken c.requires.taken) c.keep_on.new.kept c.keep_on.ensures.same
    (c.keep_on.ensures.keeps
    (not_gone (record { name = taken.endpoint.name; revision = taken.revision; count = c.count-count.result }) c.in_ok-reported.reported.finished
    c.make_done.result.turn c.make_done.ensures.turn lives))
