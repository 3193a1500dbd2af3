use Rattle.std.proofs.Common.{◌≡◌, ◌<◌, ◌%◌, length, Some, ap, subst, ◌∙◌}
use Rattle.std.specs.Prelude.{IfOk, IfSome}
use Rattle.pol_sets.specs.declared.sets.Move.{Move}
use Rattle.pol_arena.specs.Twin.{older_than, IsInUse, on_chain}
use Rattle.pol_set_changes.specs.Net.{came, went, surplus, net}
use Rattle.pol_set_changes.specs.Nodes.{found_in}
use Rattle.pol_set_changes.proofs.Walk.{from_node, from_newest, walk_falls, IsAhead, IsThere, ahead_taken, ahead_passed, ahead_stopped, ahead_ended}
use Rattle.pol_set_changes.proofs.log.net_on_chain.Goals as goal
use Rattle.pol_set_changes.proofs.log.net_on_chain.Goals.{then-change-selector+in_ok-push_to+in_ok-push_to-2, else-change-selector, in-Some+then-change-revision, in_default}

pub loop-node-init : goal.loop-node-init
loop-node-init c =
    let from = from_newest (c.args.selector % 65536) c.args.nodes.now.ages c.newest-node.ensures.sound.distinct in
    record {
      sound = c.newest-node.ensures.sound;
      used = c.newest-node.ensures.in_use;
      all_came = rw (c.new-came.ensures.items, c.newest-node.ensures.node, c.chain_of.ensures) (ap (λ es. came (found_in c.args.selector c.args.revision es)) from);
      all_went = rw (c.new-went.ensures.items, c.newest-node.ensures.node, c.chain_of.ensures) (ap (λ es. went (found_in c.args.selector c.args.revision es)) from);
    }

pub loop-node-smaller : goal.loop-node-smaller
loop-node-smaller c =
    let ages = c.args.nodes.now.ages in
    let falls : length (from_node c.older-node.result ages) < length (from_node c.loop-node.node ages) =
    rw (c.older-node.ensures.node, c.in-Some.is)
    (walk_falls c.args.selector c.args.revision c.in-Some.at ages c.get-change.result.now c.get-change.ensures.sound.distinct c.get-change.ensures.value) in
    falls

pub loop-node-preserved : goal.loop-node-preserved
loop-node-preserved c =
    let nodes = c.args.nodes.now in
    let change = c.get-change.result.now in
    let so_far = c.loop-node in
    let ahead : IsAhead nodes c.args.selector c.args.revision (Some c.in-Some.at) so_far.came.items so_far.went.items = rw c.in-Some.is at c.loop-node.invariant in
    let used : IfSome (older_than c.in-Some.at nodes.ages) (IsInUse nodes) = rw c.older-node.ensures.node at c.older-node.ensures.in_use in
    rw c.older-node.ensures.node
    (elim c.if-change-selector.branch [
      | then-change-selector+in_ok-push_to+in_ok-push_to-2 w ↦
          let more_came = ap (λ v. v.items) w.came-is ∙ w.in_ok-push_to.ensures.pushed in
          let more_went = ap (λ v. v.items) w.went-is ∙ w.in_ok-push_to-2.ensures.pushed in
          rw (more_came, more_went)
          (ahead_taken nodes c.args.selector c.args.revision c.in-Some.at change so_far.came.items so_far.went.items ahead c.get-change.ensures.value c.if-change-revision.false w.if-change-selector.true used)
      | else-change-selector w ↦
          rw (w.came-is, w.went-is)
          (ahead_passed nodes c.args.selector c.args.revision c.in-Some.at change so_far.came.items so_far.went.items ahead c.get-change.ensures.value c.if-change-revision.false w.if-change-selector.false used)
    ])

pub returns : goal.returns
returns c =
    let nodes = c.args.nodes.now in
    let all_came = c.loop-node.came.items in
    let all_went = c.loop-node.went.items in
    let there : IsThere nodes c.args.selector c.args.revision all_came all_went =
    elim c.match-node.branch [
      | in-Some+then-change-revision w ↦
          ahead_stopped nodes c.args.selector c.args.revision w.in-Some.at w.get-change.result.now all_came all_went (rw w.in-Some.is at c.loop-node.invariant) w.get-change.ensures.value w.if-change-revision.true
      | in_default w ↦ ahead_ended nodes c.args.selector c.args.revision all_came all_went (rw w.in_default.is at c.loop-node.invariant)
    ] in
    let found = found_in c.args.selector c.args.revision (on_chain (c.args.selector % 65536) nodes.ages) in
    let is : ◌≡◌ {A = Move} (record { selector = c.args.selector; gained = surplus all_came all_went; lost = surplus all_went all_came }) (net c.args.selector found) =
    λ i. record { selector = c.args.selector; gained = surplus (there.all_came i) (there.all_went i); lost = surplus (there.all_went i) (there.all_came i) } in
    subst (λ (own : Move). IfOk c.net_of.result (λ m. m ≡ own)) is c.net_of.ensures
