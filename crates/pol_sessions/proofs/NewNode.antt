-- What a new node hands out, and a script that was played over it.
use Rattle.std.proofs.Common.{◌≡◌, ◌<◌, ℕ, true, List, [], ◌∷◌, length, map, slice_get, Some, refl, sym, subst, arith}
use Rattle.std.specs.List.{AllByRecursion}
use Rattle.pol_answer.specs.declared.answer.Answer.{Answer}
use Rattle.pol_model.specs.declared.options.Options.{Options}
use Rattle.pol_script.specs.declared.command.Command.{Command}
use Rattle.pol_history.specs.declared.event.HistoryEvent.{HistoryEvent}
use Rattle.pol_history.specs.Grows.{PassState, nothing_yet}
use Rattle.pol_history.specs.Meet.{has}
use Rattle.pol_run_laws.specs.Seats.{ArePhases}
use Rattle.pol_sessions.specs.Sessions.{IsScriptPlayed}
use Rattle.pol_sessions.proofs.Seats.{IsHandedOut}

has-first : (first : ℕ) (others : List ℕ) → has (first ∷ others) first ≡ true
has-first first others = grind arith

has-later : (first : ℕ) (others : List ℕ) (pass : ℕ) → has others pass ≡ true → has (first ∷ others) pass ≡ true
has-later first others pass there = grind (arith, there)

handed_out-later : (first : ℕ) (others : List ℕ) (passes : List PassState) → AllByRecursion (IsHandedOut others) passes → AllByRecursion (IsHandedOut (first ∷ others)) passes
handed_out-later first others [] all = tt
handed_out-later first others (pass ∷ passes) all = (has-later first others pass.number all.0, handed_out-later first others passes all.1)

all-handed_out : (passes : List PassState) → AllByRecursion (IsHandedOut (map (λ (pass : PassState). pass.number) passes)) passes
all-handed_out [] = tt
all-handed_out (pass ∷ passes) =
    let others = map (λ (pass : PassState). pass.number) passes in
    (has-first pass.number others, handed_out-later pass.number others passes (all-handed_out passes))

-- all passes are handed out, where these are their numbers
pub those-handed_out : (numbers : List ℕ) (passes : List PassState) → map (λ (pass : PassState). pass.number) passes ≡ numbers → AllByRecursion (IsHandedOut numbers) passes
those-handed_out numbers passes those = subst (λ (ns : List ℕ). AllByRecursion (IsHandedOut ns) passes) those (all-handed_out passes)

-- as many lists of lines in each phase as there are passes
pub one_each-so : (sessions : ℕ) (passes : List PassState) (phases : List (List (List Command))) → length passes ≡ sessions
    → AllByRecursion (λ (lines : List (List Command)). length lines ≡ sessions) phases → AllByRecursion (λ (lines : List (List Command)). length lines ≡ length passes) phases
one_each-so sessions passes phases count each = subst (λ (n : ℕ). AllByRecursion (λ (lines : List (List Command)). length lines ≡ n) phases) (sym count) each

module _ (options : Options) (sessions : ℕ) (numbers : List ℕ) (seats : List PassState) (phases : List (List (List Command))) (told : List (List (List Answer))) (last : List HistoryEvent) where
  -- the script was played by the passes of a new node
  pub script-played : (after : List PassState) → 0 < sessions → length seats ≡ sessions → map (λ (pass : PassState). pass.number) seats ≡ numbers
      → AllByRecursion (λ (pass : PassState). pass.has ≡ nothing_yet) seats
      → ((i j : ℕ) (one other : PassState) → slice_get seats i ≡ Some one → slice_get seats j ≡ Some other → one.number ≡ other.number → i ≡ j)
      → ArePhases options numbers seats phases told after → length after ≡ length seats
      → ((pass : PassState) → slice_get after 0 ≡ Some pass → last ≡ pass.has.history) → IsScriptPlayed options sessions phases told last
  script-played [] some count those nothing apart are as_many seen = absurd (omega (arith, some, count, as_many))
  script-played (seat ∷ others) some count those nothing apart are as_many seen = record {
    handed_out = numbers;
    seats = seats;
    new = record { some = subst (λ (n : ℕ). 0 < n) (sym count) some; new = nothing; those = sym those; apart = apart };
    as_many = count;
    after = seat ∷ others;
    are = are;
    k = 0;
    seat = seat;
    there = refl;
    seen = seen seat refl;
  }
