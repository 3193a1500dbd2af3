-- Sessions that play the phases of a script one after another: in each phase every session plays its commands on from
-- what all passes had seen, and then all passes meet.
use Rattle.std.specs.Prelude.{⊤, ◌≡◌, ℕ, ◌<◌, List, [], ◌∷◌, length, map, slice_get, Some}
use Rattle.std.specs.List.{AllByRecursion}
use mathlib.Core.List.{IsPrefix}
use Rattle.pol_model.specs.declared.options.Options.{Options}
use Rattle.pol_model.specs.declared.request.Request.{Request}
use Rattle.pol_answer.specs.declared.answer.Answer.{Answer}
use Rattle.pol_script.specs.declared.command.Command.{Command}
use Rattle.pol_history.specs.declared.event.HistoryEvent.{HistoryEvent}
use Rattle.pol_history.specs.Grows.{Grows, GrowsWhole, PassState, nothing_yet}
use Rattle.pol_history.specs.Meet.{IsOf}
use Rattle.pol_run_laws.specs.Session.{IsPlayed}

-- The session played its commands of a phase, with these answers, and then its pass met the others at a history.
pub record HasPlayed (options : Options) (history : List HistoryEvent) (old : PassState) (commands : List Command) (answers : List Answer) (new : PassState) : Type 0 where
  pub number : new.number ≡ old.number
  -- what it committed, and what it had seen after its last command
  pub own : List Request
  pub ends : List HistoryEvent
  pub played : IsPlayed options old.number old.has.history ends commands answers own
  pub meets : IsPrefix ends history
  pub grows : GrowsWhole options old.number old.has new.has own
  pub all : new.has.history ≡ history

-- each session did, and there is one list of commands and one of answers for each
abbrev pub HavePlayed : Options → List HistoryEvent → List PassState → List (List Command) → List (List Answer) → List PassState → Type 0
HavePlayed options history [] [] [] [] = ⊤
HavePlayed options history (old ∷ olds) (commands ∷ others) (answers ∷ told) (new ∷ news) =
    HasPlayed options history old commands answers new × HavePlayed options history olds others told news
HavePlayed options history olds commands told news = ⊥

-- before they meet: each session played its commands on from what its pass had seen
pub record HasGoneOn (options : Options) (old : PassState) (commands : List Command) (answers : List Answer) (then : PassState) : Type 0 where
  pub number : then.number ≡ old.number
  pub own : List Request
  pub played : IsPlayed options old.number old.has.history then.has.history commands answers own
  pub grows : Grows options old.has then.has own

abbrev pub HaveGoneOn : Options → List PassState → List (List Command) → List (List Answer) → List PassState → Type 0
HaveGoneOn options [] [] [] [] = ⊤
HaveGoneOn options (old ∷ olds) (commands ∷ others) (answers ∷ told) (then ∷ thens) =
    HasGoneOn options old commands answers then × HaveGoneOn options olds others told thens
HaveGoneOn options olds commands told thens = ⊥

-- A phase: all met at one history, whose commits are of the passes that were handed out.
pub record IsPhase (options : Options) (handed_out : List ℕ) (olds : List PassState) (commands : List (List Command)) (told : List (List Answer)) (news : List PassState) : Type 0 where
  pub history : List HistoryEvent
  pub commits : AllByRecursion (IsOf handed_out) history
  pub each : HavePlayed options history olds commands told news

-- one phase after another
abbrev pub ArePhases : Options → List ℕ → List PassState → List (List (List Command)) → List (List (List Answer)) → List PassState → Type 0
ArePhases options handed_out olds [] [] news = olds ≡ news
ArePhases options handed_out olds (commands ∷ later) (told ∷ others) news =
    (next : List PassState) × IsPhase options handed_out olds commands told next × ArePhases options handed_out next later others news
ArePhases options handed_out olds commands told news = ⊥

-- The passes that were handed out, one for each session: none has seen anything, and no two are one.
pub record AreNewSeats (handed_out : List ℕ) (seats : List PassState) : Type 0 where
  pub some : 0 < length seats
  pub new : AllByRecursion (λ seat. seat.has ≡ nothing_yet) seats
  pub those : handed_out ≡ map (λ seat. seat.number) seats
  pub apart : (i j : ℕ) (one other : PassState) → slice_get seats i ≡ Some one → slice_get seats j ≡ Some other → one.number ≡ other.number → i ≡ j
