use Rattle.std.proofs.Common.{◌≡◌, List, [], ◌∷◌, ◌++◌, zip, refl, ap, subst, arith}
use Rattle.pol_answer.specs.declared.answer.Answer.{Answer}
use Rattle.pol_hints.specs.Passes.{Pass as HintState}
use Rattle.pol_hints.specs.declared.turn.Turn.TheVariants.{Put}
use Rattle.pol_history.proofs.LegalEvents.{each_legal}
use Rattle.pol_run.specs.ExampleLines.{unlimited}
use Rattle.pol_script.specs.declared.command.Command.{Command}
use Rattle.pol_sessions.specs.Hinting.{HaveHinted}
use Rattle.session_examples.specs.Hints.{pass}
use Rattle.session_examples.specs.Stopped.{adds, new_pass}
use Rattle.session_examples.proofs.hints.sessions_that_hint_until.Goals as goal

pub returns-clause-is : goal.returns-clause-is
returns-clause-is c = λ queue share. record {
  stopped = record {
    played = [];
    left = adds ∷ [];
    cut = refl;
    answers = [];
    then = new_pass;
    gone_on = record {
      number = refl;
      own = [];
      played = record { one_each = refl; plays = refl; committed = refl };
      grows = record { goes_on = ([], refl); legal = each_legal unlimited [] tt; mine = refl };
    };
    nothing = record { number = refl; grows = record { goes_on = ([], refl); legal = each_legal unlimited [] tt; mine = refl } };
  };
  hinted = refl;
}

pub returns-clause-not_stopped : goal.returns-clause-not_stopped
returns-clause-not_stopped c = λ queue share it. omega (arith, it.stopped.nothing.number, it.stopped.gone_on.number)

-- no line was played
nothing_put : (played left : List Command) (answers : List Answer) (before after : HintState) → played ++ left ≡ [] → HaveHinted unlimited 4 [] (zip played answers) before after → after ≡ before
nothing_put [] left [] before after cut it = it
nothing_put [] left (a ∷ answers) before after cut it = it
nothing_put (c ∷ played) left answers before after cut it = absurd cc

pub returns-clause-put_there : goal.returns-clause-put_there
returns-clause-put_there c = λ queue share it.
    let own : 1 ≡ 0 = ap (λ (s : HintState). s.own)
    (nothing_put it.stopped.played it.stopped.left it.stopped.answers (pass queue share [] 0) (pass queue share (Put 0 ∷ []) 1) it.stopped.cut it.hinted)
    in omega (arith, own)
