-- What was taken is of the slot, and what is told of it is told from before the take on.
use Rattle.std.proofs.Common.{◌≡◌, ℕ, [], false, Result, Ok, Err, IfErr, IfOk, Some, option_map, sym, ap, ◌∙◌, subst}
use Rattle.std.proofs.lemmas.Bool.{false≢true}
use Rattle.std.proofs.lemmas.Result.{IfErr-weaker}
use Rattle.pol_history.specs.declared.event.EndpointId.{EndpointId}
use Rattle.pol_history.specs.Machine.{endpoint_id}
use Rattle.pol_history.specs.Reports.{last_report}
use Rattle.pol_history.proofs.Meetings.{pass-grows, passes-grow_whole}
use Rattle.pol_taken.specs.declared.taken.Taken.{Taken}
use Rattle.pol_node.specs.declared.kept.NotTaken.{NotTaken}
use Rattle.pol_node.specs.declared.report.RegenError.{RegenError}
use Rattle.pol_node.specs.declared.slot.Done.{Done}
use Rattle.pol_node.specs.Finish.{Regenerates}
use Rattle.pol_node.specs.Kept.{NotRegenerated, NotReported, StaysAt, report_in}
use Rattle.pol_node.specs.KeptAfter.{KeepsAt, KeepsStill}
use Rattle.pol_node.specs.Lost.{is_gone, is_overtaken}
use Rattle.pol_node.specs.Slot.{IsTakenAt, TellsAnyTurn}
use Rattle.pol_node.specs.TakenFor.{IsTakenFor, TakesFor}
use Rattle.pol_node.proofs.Following.{of_own_slot, own_slot}
use Rattle.pol_node.proofs.Keeping.{not_regenerated}
use Rattle.pol_node.proofs.KeepingOn.{at_still, stays_still, with_still}
use Rattle.pol_node.proofs.Reporting.{memory_fails}
use Rattle.pol_node.proofs.Turning.{any_turn-kept, none_there, regenerates-kept}
use Rattle.pol_node.proofs.slot.regenerate.Goals as goal

if_ok : {A E : Type 0} (P Q : A → Type 0) (r : Result A E) → ((x : A) → P x → Q x) → IfOk r P → IfOk r Q
if_ok P Q (Ok x) weaker is = weaker x is
if_ok P Q (Err e) weaker is = tt

-- ---- nothing was taken

pub returns-in-Err-Gone-clause-regen : goal.returns-in-Err-Gone-clause-regen
returns-in-Err-Gone-clause-regen g c =
    let options = g.N.NodeName.options in let mid = c.take.new.pass.has.history in
    none_there options c.args.slot c.args.pass.now.has.history mid c.take.ensures.grows.whole.grows.goes_on
    (subst (TakesFor options mid c.args.slot c.args.kept.now c.take.new.kept) (c.in-Err-Gone.is ∙ ap (λ (e : NotTaken). Err e) c.in-Err-Gone.field-0-is)
    c.take.ensures.takes)

pub returns-in-Err-Gone-clause-turn : goal.returns-in-Err-Gone-clause-turn
returns-in-Err-Gone-clause-turn g c synced shown =
    let options = g.N.NodeName.options in let mid = c.take.new.pass.has.history in
    none_there options c.args.slot c.args.seen mid c.take.ensures.learned
    (subst (TakesFor options mid c.args.slot c.args.kept.now c.take.new.kept) (c.in-Err-Gone.is ∙ ap (λ (e : NotTaken). Err e) c.in-Err-Gone.field-0-is)
    c.take.ensures.takes)

pub returns-in-Err-Gone-clause-keeps : goal.returns-in-Err-Gone-clause-keeps
returns-in-Err-Gone-clause-keeps g c lives = absurd (false≢true (sym lives))

pub returns-in-Err-Memory-clause-cause : goal.returns-in-Err-Memory-clause-cause
returns-in-Err-Memory-clause-cause g c =
    let options = g.N.NodeName.options in let mid = c.take.new.pass.has.history in
    let stays : StaysAt options mid c.args.slot c.args.kept.now c.take.new.kept =
    subst (TakesFor options mid c.args.slot c.args.kept.now c.take.new.kept) (c.in-Err-Memory.is ∙ ap (λ (e : NotTaken). Err e) c.in-Err-Memory.field-0-is)
    c.take.ensures.takes in
    stays.still

pub returns-in-Err-Memory-clause-left : goal.returns-in-Err-Memory-clause-left
returns-in-Err-Memory-clause-left g c left =
    let options = g.N.NodeName.options in let mid = c.take.new.pass.has.history in
    let stays : StaysAt options mid c.args.slot c.args.kept.now c.take.new.kept =
    subst (TakesFor options mid c.args.slot c.args.kept.now c.take.new.kept) (c.in-Err-Memory.is ∙ ap (λ (e : NotTaken). Err e) c.in-Err-Memory.field-0-is)
    c.take.ensures.takes in
    stays_still options mid c.args.slot c.args.kept.now c.take.new.kept stays

pub returns-in-Err-Overtaken-clause-cause : goal.returns-in-Err-Overtaken-clause-cause
returns-in-Err-Overtaken-clause-cause g c =
    subst (TakesFor g.N.NodeName.options c.take.new.pass.has.history c.args.slot c.args.kept.now c.take.new.kept)
    (c.in-Err-Overtaken.is ∙ ap (λ (e : NotTaken). Err e) c.in-Err-Overtaken.field-0-is) c.take.ensures.takes

pub returns-in-Err-Overtaken-clause-left : goal.returns-in-Err-Overtaken-clause-left
returns-in-Err-Overtaken-clause-left g c left = absurd (false≢true (sym left))

-- ---- its map is made

pub follow-requires-clause-taken : goal.follow-requires-clause-taken
follow-requires-clause-taken g c =
    let options = g.N.NodeName.options in let mid = c.take.new.pass.has.history in
    let took : IsTakenFor options mid c.args.slot c.args.kept.now c.take.new.kept c.in-Ok.taken =
    subst (TakesFor options mid c.args.slot c.args.kept.now c.take.new.kept) c.in-Ok.is c.take.ensures.takes in
    of_own_slot options mid c.args.slot c.in-Ok.taken took.is

pub follow-requires-clause-moves : goal.follow-requires-clause-moves
follow-requires-clause-moves g c =
    let options = g.N.NodeName.options in let mid = c.take.new.pass.has.history in
    let took : IsTakenFor options mid c.args.slot c.args.kept.now c.take.new.kept c.in-Ok.taken =
    subst (TakesFor options mid c.args.slot c.args.kept.now c.take.new.kept) c.in-Ok.is c.take.ensures.takes in
    took.moves

pub follow-requires-clause-keeps : goal.follow-requires-clause-keeps
follow-requires-clause-keeps g c =
    let options = g.N.NodeName.options in let mid = c.take.new.pass.has.history in
    let took : IsTakenFor options mid c.args.slot c.args.kept.now c.take.new.kept c.in-Ok.taken =
    subst (TakesFor options mid c.args.slot c.args.kept.now c.take.new.kept) c.in-Ok.is c.take.ensures.takes in
    took.stays.keeps

pub follow-requires-clause-known : goal.follow-requires-clause-known
follow-requires-clause-known g c =
    let options = g.N.NodeName.options in let mid = c.take.new.pass.has.history in
    let took : IsTakenFor options mid c.args.slot c.args.kept.now c.take.new.kept c.in-Ok.taken =
    subst (TakesFor options mid c.args.slot c.args.kept.now c.take.new.kept) c.in-Ok.is c.take.ensures.takes in
    took.stays.known c.in-Ok.taken.endpoint took.is.is.endpoint

-- there was no memory for it

pub returns-in_err-taken-clause-cause : goal.returns-in_err-taken-clause-cause
returns-in_err-taken-clause-cause g c =
    let options = g.N.NodeName.options in let mid = c.take.new.pass.has.history in
    let took : IsTakenFor options mid c.args.slot c.args.kept.now c.take.new.kept c.in-Ok.taken =
    subst (TakesFor options mid c.args.slot c.args.kept.now c.take.new.kept) c.in-Ok.is c.take.ensures.takes in
    memory_fails (NotRegenerated options mid c.args.slot (option_map report_in c.args.kept.now)) c.from_residual.result c.from_residual.ensures.1
    took.stays.still

pub returns-in_err-taken-clause-left : goal.returns-in_err-taken-clause-left
returns-in_err-taken-clause-left g c =
    let options = g.N.NodeName.options in let mid = c.take.new.pass.has.history in
    let took : IsTakenFor options mid c.args.slot c.args.kept.now c.take.new.kept c.in-Ok.taken =
    subst (TakesFor options mid c.args.slot c.args.kept.now c.take.new.kept) c.in-Ok.is c.take.ensures.takes in
    memory_fails (λ (why : RegenError). is_overtaken why ≡ false → KeepsStill options mid c.args.slot c.follow.new.kept) c.from_residual.result
    c.from_residual.ensures.1
    (λ left. with_still options mid c.args.slot c.follow.new.kept c.in-Ok.taken.endpoint took.is.is.endpoint c.follow.ensures.keeps c.follow.ensures.known)

-- ---- it is finished

pub report-requires-clause-taken : goal.report-requires-clause-taken
report-requires-clause-taken g c =
    let options = g.N.NodeName.options in let mid = c.take.new.pass.has.history in
    let took : IsTakenFor options mid c.args.slot c.args.kept.now c.take.new.kept c.in-Ok.taken =
    subst (TakesFor options mid c.args.slot c.args.kept.now c.take.new.kept) c.in-Ok.is c.take.ensures.takes in
    subst (λ (t : Taken). IsTakenAt options mid t.endpoint.slot t) (sym c.in_ok-taken.ensures.same)
    (of_own_slot options mid c.args.slot c.in-Ok.taken took.is)

pub returns-clause-grows : goal.returns-clause-grows
returns-clause-grows g c =
    passes-grow_whole g.N.NodeName.options c.args.pass.now c.take.new.pass c.report.new.pass [] []
    (pass-grows g.N.NodeName.options c.args.pass.now c.take.new.pass [] c.take.ensures.grows) c.report.ensures.grows

pub returns-clause-regen : goal.returns-clause-regen
returns-clause-regen g c =
    let options = g.N.NodeName.options in
    let old = c.args.pass.now.has.history in
    let mid = c.take.new.pass.has.history in
    let new = c.report.new.pass.has.history in
    let took : IsTakenFor options mid c.args.slot c.args.kept.now c.take.new.kept c.in-Ok.taken =
    subst (TakesFor options mid c.args.slot c.args.kept.now c.take.new.kept) c.in-Ok.is c.take.ensures.takes in
    let slot : c.in_ok-taken.taken.endpoint.slot ≡ c.args.slot =
    ap (λ (t : Taken). t.endpoint.slot) c.in_ok-taken.ensures.same ∙ own_slot options mid c.args.slot c.in-Ok.taken took.is in
    if_ok (λ (done : Done). Regenerates options c.in_ok-taken.taken.endpoint.slot mid new done.regen) (λ (done : Done). Regenerates options c.args.slot old new done.regen)
    c.report.result
    (λ done is. regenerates-kept options c.args.slot old mid new c.take.ensures.grows.whole.grows.goes_on done.regen
    (subst (λ (n : ℕ). Regenerates options n mid new done.regen) slot is)) c.report.ensures.regen

pub returns-clause-turn : goal.returns-clause-turn
returns-clause-turn g c =
    let options = g.N.NodeName.options in
    let mid = c.take.new.pass.has.history in
    let new = c.report.new.pass.has.history in
    let took : IsTakenFor options mid c.args.slot c.args.kept.now c.take.new.kept c.in-Ok.taken =
    subst (TakesFor options mid c.args.slot c.args.kept.now c.take.new.kept) c.in-Ok.is c.take.ensures.takes in
    let slot : c.in_ok-taken.taken.endpoint.slot ≡ c.args.slot =
    ap (λ (t : Taken). t.endpoint.slot) c.in_ok-taken.ensures.same ∙ own_slot options mid c.args.slot c.in-Ok.taken took.is in
    if_ok (λ (done : Done). TellsAnyTurn options c.in_ok-taken.taken.endpoint.slot mid new done.turn)
    (λ (done : Done). TellsAnyTurn options c.args.slot c.args.seen new done.turn)
    c.report.result
    (λ done is. any_turn-kept options c.args.slot c.args.seen mid new done.turn c.take.ensures.learned
    (subst (λ (n : ℕ). TellsAnyTurn options n mid new done.turn) slot is)) c.report.ensures.turn

pub returns-clause-cause : goal.returns-clause-cause
returns-clause-cause g c =
    let options = g.N.NodeName.options in
    let mid = c.take.new.pass.has.history in
    let new = c.report.new.pass.has.history in
    let before = option_map report_in c.args.kept.now in
    let took : IsTakenFor options mid c.args.slot c.args.kept.now c.take.new.kept c.in-Ok.taken =
    subst (TakesFor options mid c.args.slot c.args.kept.now c.take.new.kept) c.in-Ok.is c.take.ensures.takes in
    let same : endpoint_id c.in_ok-taken.taken.endpoint ≡ endpoint_id c.in-Ok.taken.endpoint =
    ap (λ (t : Taken). endpoint_id t.endpoint) c.in_ok-taken.ensures.same in
    let told = subst (λ (e : EndpointId). IfErr c.report.result (NotReported options new e (last_report e mid))) same c.report.ensures.cause in
    IfErr-weaker c.report.result
    (NotReported options new (endpoint_id c.in-Ok.taken.endpoint) (last_report (endpoint_id c.in-Ok.taken.endpoint) mid))
    (NotRegenerated options new c.args.slot before)
    (not_regenerated options mid new c.report.ensures.grows.whole.grows.goes_on c.report.ensures.grows.whole.grows.legal c.args.slot c.in-Ok.taken took.is
    before took.stays.still) told

pub returns-clause-keeps : goal.returns-clause-keeps
returns-clause-keeps g c =
    let options = g.N.NodeName.options in
    let mid = c.take.new.pass.has.history in
    let new = c.report.new.pass.has.history in
    let took : IsTakenFor options mid c.args.slot c.args.kept.now c.take.new.kept c.in-Ok.taken =
    subst (TakesFor options mid c.args.slot c.args.kept.now c.take.new.kept) c.in-Ok.is c.take.ensures.takes in
    let slot : c.in_ok-taken.taken.endpoint.slot ≡ c.args.slot =
    ap (λ (t : Taken). t.endpoint.slot) c.in_ok-taken.ensures.same ∙ own_slot options mid c.args.slot c.in-Ok.taken took.is in
    subst (λ (n : ℕ). IfOk c.report.result (λ (done : Done). is_gone done.turn ≡ false → KeepsAt options new n c.report.new.kept)) slot c.report.ensures.keeps

pub returns-clause-left : goal.returns-clause-left
returns-clause-left g c =
    let options = g.N.NodeName.options in
    let mid = c.take.new.pass.has.history in
    let new = c.report.new.pass.has.history in
    let took : IsTakenFor options mid c.args.slot c.args.kept.now c.take.new.kept c.in-Ok.taken =
    subst (TakesFor options mid c.args.slot c.args.kept.now c.take.new.kept) c.in-Ok.is c.take.ensures.takes in
    let slot : c.in_ok-taken.taken.endpoint.slot ≡ c.args.slot =
    ap (λ (t : Taken). t.endpoint.slot) c.in_ok-taken.ensures.same ∙ own_slot options mid c.args.slot c.in-Ok.taken took.is in
    IfErr-weaker c.report.result (λ (why : RegenError). is_overtaken why ≡ false → KeepsAt options new c.in_ok-taken.taken.endpoint.slot c.report.new.kept)
    (λ (why : RegenError). is_overtaken why ≡ false → KeepsStill options new c.args.slot (Some c.report.new.kept))
    (λ why at left. at_still options new c.args.slot c.report.new.kept
    (subst (λ (n : ℕ). KeepsAt options new n c.report.new.kept) slot (at left))) c.report.ensures.left
