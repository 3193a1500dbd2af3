-- What is kept goes on by how it was finished.
use Rattle.std.proofs.Common.{◌∙◌}
use Rattle.pol_history.specs.Machine.{endpoint_id}
use Rattle.pol_node.proofs.Keeping.{keeps_reported}
use Rattle.pol_node.proofs.KeepingOn.{same_shown}
use Rattle.pol_node.proofs.slot.keep_on.Goals as goal

pub returns-clause-keeps : goal.returns-clause-keeps
returns-clause-keeps g c = λ here.
    let taken = c.args.taken.now in
    keeps_reported g.N.NodeName.options c.args.pass.now.has.history (endpoint_id taken.endpoint) taken.revision c.args.kept.now c.requires.keeps
    c.requires.made.id c.args.reported.finished c.show_on.new.followed c.args.reported.last c.requires.made.kept c.show_on.ensures c.requires.reported here

pub returns-clause-same : goal.returns-clause-same
returns-clause-same g c =
    same_shown c.args.reported.finished c.args.kept.now.followed c.show_on.new.followed c.show_on.ensures ∙ c.requires.made.id
