-- Conditions of `IsHistoryOf`, each from what is so of each line.
use Rattle.std.proofs.Common.{◌≡◌, ℕ, ◌<◌, List, [], Ok, sym, ◌∙◌, arith}
use Rattle.std.specs.Prelude.{⊤}
use Rattle.std.specs.List.{AllByRecursion, Contains}
use Rattle.pol_model.specs.declared.answer.FullSlot.{FullSlot}
use Rattle.pol_model.specs.declared.options.Options.{Options}
use Rattle.pol_answer.specs.declared.answer.Answer.TheVariants as answer
use Rattle.pol_script.specs.declared.command.Command.TheVariants as command
use Rattle.pol_run.specs.Spots.{Line}
use Rattle.pol_history.specs.declared.event.EndpointId.{EndpointId}
use Rattle.pol_history.specs.declared.event.HistoryEvent.{HistoryEvent}
use Rattle.pol_history.specs.Commits.{Lives, state_after}
use Rattle.pol_run_laws.specs.HistoryOfRun.{HasBlocked, HasPublished, HasReport, IsCommitOf, IsHistoryOf}
use Rattle.pol_run_laws.proofs.Places.{element_at}
use Rattle.history_examples.specs.Conditions.{Apart, Commits, Condition, Holds, OnePass, Rows, Syncs, Verdicts}

-- ---- what is so of a line

abbrev pub IsByPass : List HistoryEvent → (ℕ → ℕ) → Line → Type 0
IsByPass history pass_of (Ok (command.Commit session request), answer.Committed k identity) = IsCommitOf history (pass_of session) k
IsByPass history pass_of other = ⊤

abbrev pub IsOfFirst : Line → Type 0
IsOfFirst (Ok (command.Commit session request), answer.Committed k identity) = session ≡ 1
IsOfFirst other = ⊤

abbrev pub HasMap : Options → List HistoryEvent → Line → Type 0
HasMap options history (Ok (command.Look session query), answer.Verdict revision word) =
    (endpoint : EndpointId) → endpoint.name ≡ query.endpoint → Lives (state_after options history revision) endpoint → HasPublished history endpoint revision
HasMap options history other = ⊤

abbrev pub HasItsRows : List HistoryEvent → Line → Type 0
HasItsRows history (Ok (command.Sync session), answer.Synced revision full) = (row : FullSlot) → Contains full row → HasBlocked history row
HasItsRows history other = ⊤

abbrev pub HasItsReports : Options → List HistoryEvent → Line → Type 0
HasItsReports options history (Ok (command.Sync session), answer.Synced revision full) =
    (endpoint : EndpointId) → Lives (state_after options history revision) endpoint → HasReport history endpoint revision
HasItsReports options history other = ⊤

-- no row is listed
pub no_row : (history : List HistoryEvent) (row : FullSlot) → Contains [] row → HasBlocked history row
no_row history row listed = let below : listed.0 < 0 = listed.1 in absurd (omega (arith, below))

-- ---- so the conditions hold

pub one_pass_by : (options : Options) (history : List HistoryEvent) (lines : List Line) (pass_of : ℕ → ℕ) → AllByRecursion (IsByPass history pass_of) lines
    → Holds OnePass options history lines pass_of
one_pass_by options history lines pass_of every = λ i session request k identity line.
    element_at (IsByPass history pass_of) lines i (Ok (command.Commit session request), answer.Committed k identity) every line.there

-- where one session alone commits
pub apart_by : (options : Options) (history : List HistoryEvent) (lines : List Line) (pass_of : ℕ → ℕ) → AllByRecursion IsOfFirst lines
    → Holds Apart options history lines pass_of
apart_by options history lines pass_of every = λ i j session other request later k n identity number one two same.
    let first : session ≡ 1 = element_at IsOfFirst lines i (Ok (command.Commit session request), answer.Committed k identity) every one.there in
    let second : other ≡ 1 = element_at IsOfFirst lines j (Ok (command.Commit other later), answer.Committed n number) every two.there in
    first ∙ sym second

pub verdicts_by : (options : Options) (history : List HistoryEvent) (lines : List Line) (pass_of : ℕ → ℕ) → AllByRecursion (HasMap options history) lines
    → Holds Verdicts options history lines pass_of
verdicts_by options history lines pass_of every = λ i session query revision word endpoint line named lives.
    element_at (HasMap options history) lines i (Ok (command.Look session query), answer.Verdict revision word) every line.there endpoint named lives

pub rows_by : (options : Options) (history : List HistoryEvent) (lines : List Line) (pass_of : ℕ → ℕ) → AllByRecursion (HasItsRows history) lines
    → Holds Rows options history lines pass_of
rows_by options history lines pass_of every = λ i session revision full row line listed.
    element_at (HasItsRows history) lines i (Ok (command.Sync session), answer.Synced revision full) every line.there row listed

pub syncs_by : (options : Options) (history : List HistoryEvent) (lines : List Line) (pass_of : ℕ → ℕ) → AllByRecursion (HasItsReports options history) lines
    → Holds Syncs options history lines pass_of
syncs_by options history lines pass_of every = λ i session revision full endpoint line then now.
    element_at (HasItsReports options history) lines i (Ok (command.Sync session), answer.Synced revision full) every line.there endpoint then

-- ---- and all of them make a history of the run

pub history_by : (options : Options) (history : List HistoryEvent) (lines : List Line) (pass_of : ℕ → ℕ)
    → ((condition : Condition) → Holds condition options history lines pass_of) → IsHistoryOf options history lines
history_by options history lines pass_of every = record {
  commits = every Commits;
  pass_of = pass_of;
  one_pass = every OnePass;
  apart = every Apart;
  verdicts = every Verdicts;
  rows = every Rows;
  syncs = every Syncs;
}
