-- What a crash may leave while a script is played.
use Rattle.std.specs.Prelude.{◌≡◌, ◌⊎◌, ℕ, List, ◌++◌, Option, IfSome}
use mathlib.Core.List.{IsPrefix}
use Rattle.pol_journal.specs.Journal.{IsJournal}
use Rattle.pol_model.specs.declared.options.Options.{Options}
use Rattle.pol_model.specs.declared.request.Request.{Request}

-- each image that a crash may leave is a journal of these requests
abbrev pub AllAre : Options → List Request → (List ℕ → Type 0) → Type 0
AllAre options requests may_leave = (c : List ℕ) → may_leave c → IsJournal options requests c

-- a journal of these requests and of a beginning of those that are accepted behind them
pub record IsJournalWithin (options : Options) (start accepted : List Request) (c : List ℕ) : Type 0 where
  pub done : List Request
  pub begins : IsPrefix done accepted
  pub journal : IsJournal options (start ++ done) c

-- a journal of these requests, or of these with what one line accepts
abbrev pub IsJournalOrMore : Options → List Request → List Request → List ℕ → Type 0
IsJournalOrMore options requests more c = IsJournal options requests c ⊎ IsJournal options (requests ++ more) c

-- this holds of the script that was read, which is what was left in the source, where it tells that
pub record OfScript (left : Option (List ℕ)) (P : List ℕ → Type 0) : Type 0 where
  pub script : List ℕ
  pub was_left : IfSome left (λ bytes. script ≡ bytes)
  pub holds : P script
