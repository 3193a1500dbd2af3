use Rattle.std.proofs.lemmas.Result.{IfOk-weaker}
use Rattle.pol_map_dump.proofs.Ending.{live_at_end, text_at_end}
use Rattle.pol_map_dump.proofs.end.map_over.Goals as goal

pub returns-clause-text : goal.returns-clause-text
returns-clause-text c =
    IfOk-weaker c.map_of.result _ _
    (λ map told. text_at_end c.args.repo.now c.commit_all.new.repo c.args.name.now c.args.readings.items c.requires.first c.in_ok-commit_all.ensures.options
    c.in_ok-commit_all.ensures.state map.text.items told) c.map_of.ensures.text

pub returns-clause-live : goal.returns-clause-live
returns-clause-live c =
    IfOk-weaker c.map_of.result _ _
    (λ map told. live_at_end c.args.repo.now c.commit_all.new.repo c.args.name.now c.args.readings.items c.requires.first c.in_ok-commit_all.ensures.options
    c.in_ok-commit_all.ensures.state map.live told) c.map_of.ensures.live
