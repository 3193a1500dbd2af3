-- Which hints lines of a session put.
use Rattle.std.proofs.Common.{ℕ, List, [], ◌∷◌, ◌++◌, None, Some, Option, refl, sym, ap, subst, arith}
use mathlib.Core.List.{IsPrefix}
use Rattle.pol_answer.specs.declared.answer.Answer.{Answer}
use Rattle.pol_model.specs.declared.answer.Committed.{Committed}
use Rattle.pol_model.specs.declared.options.Options.{Options}
use Rattle.pol_model.specs.declared.request.Request.{Request}
use Rattle.pol_model.specs.Committed.{slots_of}
use Rattle.pol_model.specs.State.{State}
use Rattle.pol_script.specs.declared.command.Command.{Command}
use Rattle.pol_history.specs.declared.event.HistoryEvent.{HistoryEvent}
use Rattle.pol_history.specs.Calls.{IsAccepted}
use Rattle.pol_history.proofs.Cuts.{revision-append, state-cut}
use Rattle.pol_history.proofs.Own.{commit-counts}
use Rattle.pol_hints.specs.Passes.{Pass as HintState, PutsRound}
use Rattle.pol_sessions.specs.Hinting.{AreInUse, HasHinted, HaveHinted, HintsAt, HintsIf, PutsIf, committed_at}

-- behind a commit that was accepted so many slots are in use as it tells
pub slots_in_use : (options : Options) (pass : ℕ) (old new : List HistoryEvent) (request : Request) (done : Committed)
    → IsAccepted options pass old new request done → AreInUse options new (Some done.revision) (Some done.slots)
slots_in_use options pass old new request done it = (
  (let count = commit-counts new it.place pass it.number request it.there in let is = it.revision in omega (arith, count, is)),
  ap Some it.slots,
)

-- hints that are put for each slot in use are those of the line
pub hints_put : (options : Options) (room : ℕ) (history : List HistoryEvent) (at slots : Option ℕ) (before after : HintState)
    → AreInUse options history at slots → PutsIf room slots before after → HintsIf options room history at before after
hints_put options room history (Some revision) slots before after used puts = record {
  within = used.0;
  puts = subst (λ (s : Option ℕ). PutsIf room s before after) used.1 puts;
}
hints_put options room history None slots before after used puts = subst (λ (s : Option ℕ). PutsIf room s before after) used puts

-- ---- in a history that goes on, the same hints were put

-- its states at earlier revisions are the same
hints_later : (options : Options) (room : ℕ) (then new : List HistoryEvent) → IsPrefix then new → (revision : ℕ) (before after : HintState)
    → HintsAt options room then revision before after → HintsAt options room new revision before after
hints_later options room then new goes_on revision before after it =
    subst (λ (h : List HistoryEvent). HintsAt options room h revision before after) goes_on.1
    (record {
      within = (let within = it.within in let more = revision-append then goes_on.0 in omega (arith, within, more));
      puts = subst (λ (s : State). PutsRound room (slots_of s.endpoints) before after) (sym (state-cut options then goes_on.0 revision it.within)) it.puts;
    })

if_later : (options : Options) (room : ℕ) (then new : List HistoryEvent) → IsPrefix then new → (at : Option ℕ) (before after : HintState)
    → HintsIf options room then at before after → HintsIf options room new at before after
if_later options room then new goes_on (Some revision) before after it = hints_later options room then new goes_on revision before after it
if_later options room then new goes_on None before after it = it

pub hinted_later : (options : Options) (room : ℕ) (then new : List HistoryEvent) → IsPrefix then new → (played : List (Command × Answer)) (before now : HintState)
    → HaveHinted options room then played before now → HaveHinted options room new played before now
hinted_later options room then new goes_on [] before now it = it
hinted_later options room then new goes_on (first ∷ played) before now it =
    (it.0, if_later options room then new goes_on (committed_at first) before it.0 it.1, hinted_later options room then new goes_on played it.0 now it.2)

-- ---- one line more

pub hinted_more : (options : Options) (room : ℕ) (history : List HistoryEvent) (played : List (Command × Answer)) (line : Command × Answer) (before now after : HintState)
    → HaveHinted options room history played before now → HasHinted options room history line now after
    → HaveHinted options room history (played ++ line ∷ []) before after
hinted_more options room history [] line before now after it more =
    (after, subst (λ (s : HintState). HasHinted options room history line s after) it more, refl)
hinted_more options room history (first ∷ played) line before now after it more =
    (it.0, it.1, hinted_more options room history played line it.0 now after it.2 more)
