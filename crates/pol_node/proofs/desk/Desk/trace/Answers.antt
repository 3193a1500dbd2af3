-- The repository is at the history that is shown.
use Rattle.std.proofs.Common.{ap, ◌∙◌, Err}
use Rattle.pol_node.proofs.Answering.{absent_at, at_shown, traced_at}
use Rattle.pol_node.proofs.desk.Desk.trace.Goals as goal

pub returns-in-Ok-clause-traced : goal.returns-in-Ok-clause-traced
returns-in-Ok-clause-traced g c =
    let options = g.N.NodeName.options in let repo = c.args.self.now.repo in let history = c.show.new.pass.has.history in
    let at = at_shown options c.args.self.now.writer.seen c.show.new.self.seen history repo c.args.self.now.at c.show.ensures.all c.show.ensures.same in
    traced_at options history repo at c.args.pass.now.has.history c.show.ensures.grows.whole.grows.goes_on c.args.query.now c.revision-revision.result c.in-Ok.trace
    c.revision-revision.ensures.revision c.in-Ok.ensures.trace

pub returns-in-Err-NoEndpoint-clause-cause : goal.returns-in-Err-NoEndpoint-clause-cause
returns-in-Err-NoEndpoint-clause-cause g c =
    let options = g.N.NodeName.options in let repo = c.args.self.now.repo in let history = c.show.new.pass.has.history in
    let at = at_shown options c.args.self.now.writer.seen c.show.new.self.seen history repo c.args.self.now.at c.show.ensures.all c.show.ensures.same in
    absent_at options history repo at c.args.pass.now.has.history c.show.ensures.grows.whole.grows.goes_on c.args.query.now c.revision-revision.result
    c.revision-revision.ensures.revision (c.explain.ensures.no_endpoint.0 (c.in-Err-NoEndpoint.is ∙ ap Err c.in-Err-NoEndpoint.field-0-is))
