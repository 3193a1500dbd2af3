-- The rule of the book, and what its step tells.
use Rattle.std.specs.Prelude.{ℕ, ◌≡◌, ◌==◌, true, List, [], ◌∷◌, ◌++◌, length, MatchBool}
use Rattle.logbook.specs.Pages.{Book, Cell, Named, Step, View}
use Rattle.pol_history.specs.declared.event.HistoryEvent.{HistoryEvent}

-- The first word is the number of events. A book has two words; the second one stays 0.
pub record IsCounted (cells : List Cell) (log : List HistoryEvent) : Type 0 where
  pub words : cells ≡ (length log, true) ∷ (0, true) ∷ []

abbrev pub word_of : Book → Named
word_of book = record { tracked = true; key = 0; book = book }

-- the event was added to all that had been seen, where the word was as seen; else nothing is told
abbrev pub Adds : Step HistoryEvent → View HistoryEvent ℕ → ℕ → View HistoryEvent ℕ → Type 0
Adds step before found after = MatchBool (found == step.old) (after.0 ≡ before.0 ++ step.ask ∷ []) (Unit {0})
