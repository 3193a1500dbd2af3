-- What isn't lost keeps, and is the slot's endpoint.
use Rattle.pol_node.proofs.Keeping.{keeps_after, some_keeps}
use Rattle.pol_node.proofs.KeepingOn.{err_keeps, kept_after, left_after, ok_keeps}
use Rattle.pol_node.proofs.slot.regenerate_kept.Goals as goal

pub regenerate-done-requires : goal.regenerate-done-requires
regenerate-done-requires g c = record { kept = some_keeps g.N.NodeName.options c.args.pass.now.has.history c.args.kept.now c.requires.keeps }

pub returns-clause-keeps : goal.returns-clause-keeps
returns-clause-keeps g c =
    let options = g.N.NodeName.options in
    let history = c.regenerate-done.new.pass.has.history in
    let result = c.regenerate-done.result in
    let kept = c.regenerate-done.new.kept in
    keeps_after options history result kept c.let_go.new.kept c.tells_lost.result c.tells_lost.ensures c.let_go.ensures
    (ok_keeps options history c.args.slot result kept c.regenerate-done.ensures.keeps)
    (err_keeps options history c.args.slot result kept c.regenerate-done.ensures.left)

pub returns-clause-kept : goal.returns-clause-kept
returns-clause-kept g c =
    kept_after g.N.NodeName.options c.regenerate-done.new.pass.has.history c.args.slot c.regenerate-done.result c.regenerate-done.new.kept c.let_go.new.kept
    c.tells_lost.result c.tells_lost.ensures c.let_go.ensures c.regenerate-done.ensures.keeps

pub returns-clause-left : goal.returns-clause-left
returns-clause-left g c =
    left_after g.N.NodeName.options c.regenerate-done.new.pass.has.history c.args.slot c.regenerate-done.result c.regenerate-done.new.kept c.let_go.new.kept
    c.tells_lost.result c.tells_lost.ensures c.let_go.ensures c.regenerate-done.ensures.left
