-- Which hints a session puts.
use Rattle.std.specs.Prelude.{◌≡◌, ℕ, ◌≤◌, List, [], ◌∷◌, Option, None, Some}
use Rattle.std.specs.List.{zip}
use Rattle.pol_model.specs.declared.options.Options.{Options}
use Rattle.pol_model.specs.Committed.{slots_of}
use Rattle.pol_answer.specs.declared.answer.Answer.{Answer}
use Rattle.pol_answer.specs.declared.answer.Answer.TheVariants as answer
use Rattle.pol_script.specs.declared.command.Command.{Command}
use Rattle.pol_script.specs.declared.command.Command.TheVariants as command
use Rattle.pol_history.specs.declared.event.HistoryEvent.{HistoryEvent}
use Rattle.pol_history.specs.Commits.{revision_of, state_after}
use Rattle.pol_history.specs.Grows.{PassState}
use Rattle.pol_hints.specs.Passes.{PutsRound, Pass as HintState}
use Rattle.pol_sessions.specs.Sessions.{HasStopped}

-- one hint was put for each slot that is in use at the revision, in a queue with this room, until it was full
pub record HintsAt (options : Options) (room : ℕ) (history : List HistoryEvent) (revision : ℕ) (before after : HintState) : Type 0 where
  pub within : revision ≤ revision_of history
  pub puts : PutsRound room (slots_of (state_after options history revision).endpoints) before after

-- the revision of a request that was answered `ok`
abbrev pub committed_at : Command × Answer → Option ℕ
committed_at (command.Commit session request, answer.Committed revision identity) = Some revision
committed_at other = None

-- what a line did to the pass of hints: a request that was committed put hints at its revision, and no other line did anything
abbrev pub HintsIf : Options → ℕ → List HistoryEvent → Option ℕ → HintState → HintState → Type 0
HintsIf options room history (Some revision) before after = HintsAt options room history revision before after
HintsIf options room history None before after = after ≡ before

-- how many slots are in use at the revision that a line has committed; none is told of a line that committed nothing
abbrev pub AreInUse : Options → List HistoryEvent → Option ℕ → Option ℕ → Type 0
AreInUse options history (Some revision) slots =
    (revision ≤ revision_of history) × (slots ≡ Some (slots_of (state_after options history revision).endpoints))
AreInUse options history None slots = slots ≡ None

-- one hint was put for each of so many slots, in a queue with this room, until it was full; or nothing was put
abbrev pub PutsIf : ℕ → Option ℕ → HintState → HintState → Type 0
PutsIf room (Some slots) before after = PutsRound room slots before after
PutsIf room None before after = after ≡ before

abbrev pub HasHinted : Options → ℕ → List HistoryEvent → Command × Answer → HintState → HintState → Type 0
HasHinted options room history line before after = HintsIf options room history (committed_at line) before after

-- what lines did to it, one after another
abbrev pub HaveHinted : Options → ℕ → List HistoryEvent → List (Command × Answer) → HintState → HintState → Type 0
HaveHinted options room history [] before after = after ≡ before
HaveHinted options room history (first ∷ later) before after =
    (then : HintState) × HasHinted options room history first before then × HaveHinted options room history later then after

-- Memory was wanting at some line: those before it were played, and put their hints; nothing else was committed or put since.
pub record HasHintedUntil (options : Options) (room : ℕ) (old : PassState) (lines : List Command) (new : PassState) (before after : HintState) : Type 0 where
  pub stopped : HasStopped options old lines new
  pub hinted : HaveHinted options room new.has.history (zip stopped.played stopped.answers) before after
