-- Playing on.
use Rattle.std.proofs.Common.{ℕ, List, [], ◌∷◌, ◌++◌, Ok, refl, sym, ap, ◌∙◌, subst, append_assoc, append-nil}
use mathlib.Core.List.{IsPrefix}
use Rattle.pol_model.specs.declared.options.Options.{Options}
use Rattle.pol_answer.specs.declared.answer.Answer.{Answer}
use Rattle.pol_script.specs.declared.command.Command.{Command}
use Rattle.pol_history.specs.declared.event.HistoryEvent.{HistoryEvent}
use Rattle.pol_run_laws.specs.Placed.{Allows}
use Rattle.pol_run_laws.specs.Session.{PlaysOn}

pub plays_more : (options : Options) (pass : ℕ) (old then new : List HistoryEvent) (played : List (Command × Answer)) (command : Command) (told : Answer)
    → PlaysOn options pass old then played → IsPrefix then new → Allows options pass then new (Ok command) told
    → PlaysOn options pass old new (played ++ (command, told) ∷ [])
plays_more options pass old then new [] command told plays goes_on allows =
    let begins : IsPrefix old new = subst (λ (h : List HistoryEvent). IsPrefix h new) (sym plays) goes_on in
    let allowed : Allows options pass old new (Ok command) told = subst (λ (h : List HistoryEvent). Allows options pass h new (Ok command) told) (sym plays) allows in
    (new, begins, allowed, refl)
plays_more options pass old then new (first ∷ later) command told plays goes_on allows =
    (plays.0, plays.1, plays.2, plays_more options pass plays.0 then new later command told plays.3 goes_on allows)

-- each beginning is one of the last
pub plays_grow : (options : Options) (pass : ℕ) (old new : List HistoryEvent) (played : List (Command × Answer)) → PlaysOn options pass old new played
    → IsPrefix old new
plays_grow options pass old new [] plays = ([], append-nil old ∙ plays)
plays_grow options pass old new (first ∷ later) plays =
    let further = plays_grow options pass plays.0 new later plays.3 in (
      plays.1.0 ++ further.0,
      sym (append_assoc old plays.1.0 further.0) ∙ ap (λ (h : List HistoryEvent). h ++ further.0) plays.1.1 ∙ further.1,
    )
