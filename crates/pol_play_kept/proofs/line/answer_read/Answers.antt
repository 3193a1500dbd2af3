use Rattle.std.proofs.Common.{Ok, ap, ◌∙◌}
use Rattle.pol_play_kept.proofs.line.answer_read.Goals as goal

pub returns-in-Commit-clause-plays : goal.returns-in-Commit-clause-plays
returns-in-Commit-clause-plays g c m stands =
    c.commit_line.ensures.plays m c.in-Commit.session c.args.phase stands (c.requires.read ∙ ap Ok c.in-Commit.is)

pub returns-in-Commit-clause-calls : goal.returns-in-Commit-clause-calls
returns-in-Commit-clause-calls g c m stands =
    c.commit_line.ensures.calls m c.in-Commit.session stands (c.requires.read ∙ ap Ok c.in-Commit.is)
