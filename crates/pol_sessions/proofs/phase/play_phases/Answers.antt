use Rattle.std.proofs.Common.{List, sym, subst}
use Rattle.pol_answer.specs.declared.answer.Answer.{Answer}
use Rattle.pol_script.specs.declared.command.Command.{Command}
use Rattle.pol_run_laws.specs.Seats.{IsPhase}
use Rattle.pol_sessions.proofs.Seats.{played-first, played-more}
use Rattle.pol_sessions.proofs.phase.play_phases.Goals as goal

pub loop-lines-init : goal.loop-lines-init
loop-lines-init g c = record {
  played = rw (c.from_vec-left.ensures.items, c.in_ok-told.ensures.items)
      (played-first g.N.NodeName.options g.N.NodeName.passes c.args.passes.items c.args.phases.items c.requires.handed_out c.requires.one_each);
  hints = c.requires.hints;
}

pub loop-lines-preserved : goal.loop-lines-preserved
loop-lines-preserved g c =
    let options = g.N.NodeName.options in let handed_out = g.N.NodeName.passes in
    let then = c.loop-lines.passes.items in let news = c.in_ok-played.played.passes.items in
    let as_cut = subst (λ (lines : List (List Command)). IsPhase options handed_out then lines c.in_ok-played.played.told.items news) c.into_vec.ensures c.in_ok-played.ensures in
    let phase = subst (λ (told : List (List Answer)). IsPhase options handed_out then c.in-Some.lines told news) (sym c.from_vec.ensures) as_cut in record {
      played = played-more options handed_out c.args.passes.items then news c.args.phases.items c.loop-lines.left.items c.pop_front.new.self.items c.loop-lines.told.items c.push.new.self.items
          c.in-Some.lines c.from_vec.result c.in-Some.ensures.items c.in_ok-push.ensures.items c.loop-lines.invariant.played phase;
      hints = c.split.ensures.pass.queue;
    }
