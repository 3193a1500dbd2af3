-- The map that was made is the endpoint's, and the changes lead to it.
use Rattle.std.proofs.Common.{◌≡◌, ℕ, Option, length, sym, ap, ◌∙◌, subst}
use Rattle.pol_map_changes.specs.Changes.{changed, table_of}
use Rattle.pol_model.specs.PolicyMap.{policy_map}
use Rattle.pol_history.specs.Commits.{state_now}
use Rattle.pol_history.specs.Machine.{endpoint_id}
use Rattle.pol_slot_map.specs.Followed.{table_then}
use Rattle.pol_node.proofs.Following.{leads_there, made_map, of_own_slot}
use Rattle.board_tests.proofs.gone.finish.Goals as goal

pub finish-requires-clause-taken : goal.finish-requires-clause-taken
finish-requires-clause-taken g c =
    (of_own_slot g.N.NodeName.options c.args.slot.now.has.history 0 c.args.taken.now c.requires.taken).is

pub finish-requires-clause-count : goal.finish-requires-clause-count
finish-requires-clause-count g c =
    c.count-count.ensures.count
    ∙ ap length (made_map g.N.NodeName.options c.args.slot.now.has.history 0 c.args.taken.now c.requires.taken c.args.followed.now c.requires.follows c.requires.made)

pub finish-requires-clause-leads : goal.finish-requires-clause-leads
finish-requires-clause-leads g c =
    let options = g.N.NodeName.options in
    let history = c.args.slot.now.has.history in
    let taken = c.args.taken.now in
    subst (λ (shown : Option ℕ). changed c.args.followed.now.pending (table_then options history (endpoint_id taken.endpoint) shown)
    ≡ table_of (policy_map options (state_now options history) taken.endpoint)) c.requires.shown
    (leads_there options history 0 taken c.requires.taken c.args.followed.now c.requires.follows c.requires.made)
