use Rattle.std.proofs.Common.{◌∙◌, arith}
use Rattle.pol_audit.proofs.Parts.{own_none, own_some}
use Rattle.pol_audit.proofs.Shares.{entries_for_0, entries_for_id}
use Rattle.pol_audit.proofs.directions.parts_of.Goals as goal

pub returns-then-id-eq0-clause-left : goal.returns-then-id-eq0-clause-left
returns-then-id-eq0-clause-left c = own_none c.args.id c.args.left.now c.if-id-eq0.true

pub returns-then-id-eq0-clause-right : goal.returns-then-id-eq0-clause-right
returns-then-id-eq0-clause-right c = own_none c.args.id c.args.right.now c.if-id-eq0.true

pub returns-else-id-eq0-clause-left : goal.returns-else-id-eq0-clause-left
returns-else-id-eq0-clause-left c = c.segment.ensures ∙ own_some c.args.id c.args.left.now c.if-id-eq0.false

pub returns-else-id-eq0-clause-right : goal.returns-else-id-eq0-clause-right
returns-else-id-eq0-clause-right c = c.segment-else-id-eq0.ensures ∙ own_some c.args.id c.args.right.now c.if-id-eq0.false

pub returns-then-id-eq0-clause-share : goal.returns-then-id-eq0-clause-share
returns-then-id-eq0-clause-share c =
    let left = entries_for_0 c.args.id c.args.left.now c.segment-left_every.result.now c.if-id-eq0.true c.segment-left_every.ensures in
    let right = entries_for_0 c.args.id c.args.right.now c.segment-right_every.result.now c.if-id-eq0.true c.segment-right_every.ensures in
    omega arith

pub returns-else-id-eq0-clause-share : goal.returns-else-id-eq0-clause-share
returns-else-id-eq0-clause-share c =
    let left = entries_for_id c.args.id c.args.left.now c.segment.result.now c.segment-left_every.result.now c.if-id-eq0.false c.segment.ensures c.segment-left_every.ensures in
    let right = entries_for_id c.args.id c.args.right.now c.segment-else-id-eq0.result.now c.segment-right_every.result.now c.if-id-eq0.false c.segment-else-id-eq0.ensures c.segment-right_every.ensures in
    omega arith
