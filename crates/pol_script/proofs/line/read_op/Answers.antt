use Rattle.serde_json.specs.View.{view}
use Rattle.pol_script.specs.declared.op.Op.TheVariants as op
use Rattle.pol_script.proofs.Turns.{by_op}
use Rattle.pol_script.proofs.line.read_op.Goals as goal

pub returns-in-Endpoint : goal.returns-in-Endpoint
returns-in-Endpoint c = by_op c.args.op op.Endpoint (view c.args.value.now) c.read_endpoint.result c.in-Endpoint.is c.read_endpoint.ensures

pub returns-in-RemoveEndpoint : goal.returns-in-RemoveEndpoint
returns-in-RemoveEndpoint c = by_op c.args.op op.RemoveEndpoint (view c.args.value.now) c.read_remove_endpoint.result c.in-RemoveEndpoint.is c.read_remove_endpoint.ensures

pub returns-in-Identity : goal.returns-in-Identity
returns-in-Identity c = by_op c.args.op op.Identity (view c.args.value.now) c.read_identity.result c.in-Identity.is c.read_identity.ensures

pub returns-in-RemoveIdentity : goal.returns-in-RemoveIdentity
returns-in-RemoveIdentity c = by_op c.args.op op.RemoveIdentity (view c.args.value.now) c.read_remove_identity.result c.in-RemoveIdentity.is c.read_remove_identity.ensures

pub returns-in-Apply : goal.returns-in-Apply
returns-in-Apply c = by_op c.args.op op.Apply (view c.args.value.now) c.read_apply.result c.in-Apply.is c.read_apply.ensures

pub returns-in-Delete : goal.returns-in-Delete
returns-in-Delete c = by_op c.args.op op.Delete (view c.args.value.now) c.read_delete.result c.in-Delete.is c.read_delete.ensures

pub returns-in-Mode : goal.returns-in-Mode
returns-in-Mode c = by_op c.args.op op.Mode (view c.args.value.now) c.read_mode.result c.in-Mode.is c.read_mode.ensures

pub returns-in-Verdict : goal.returns-in-Verdict
returns-in-Verdict c = by_op c.args.op op.Verdict (view c.args.value.now) c.read_query.result c.in-Verdict.is c.read_query.ensures

pub returns-in-Trace : goal.returns-in-Trace
returns-in-Trace c = by_op c.args.op op.Trace (view c.args.value.now) c.read_query-in-Trace.result c.in-Trace.is c.read_query-in-Trace.ensures

pub returns-in-Sync : goal.returns-in-Sync
returns-in-Sync c = by_op c.args.op op.Sync (view c.args.value.now) c.read_sync.result c.in-Sync.is c.read_sync.ensures

pub returns-in-Phase : goal.returns-in-Phase
returns-in-Phase c = by_op c.args.op op.Phase (view c.args.value.now) c.read_phase.result c.in-Phase.is c.read_phase.ensures
