-- Serial answers, one line more at a time.
use Rattle.std.proofs.Common.{◌≡◌, ◌≤◌, ◌+◌, ℕ, List, [], ◌∷◌, ◌++◌, length, refl, ap, sym, ◌∙◌, arith, length-append, Ok, Err, Option, None, Some}
use Rattle.pol_model.specs.State.{State}
use Rattle.pol_model.specs.declared.options.Options.{Options}
use Rattle.pol_model.specs.declared.request.Request.{Request}
use Rattle.pol_model.specs.declared.answer.Fault.{Fault}
use Rattle.pol_model.specs.Fault.{fault_of}
use Rattle.pol_answer.specs.declared.answer.Answer.{Answer}
use Rattle.pol_script.specs.declared.command.Command.TheVariants as command
use Rattle.pol_run.specs.Spots.{Reading, phase_after}
use Rattle.pol_run.specs.Serial.{answer_in, state_then, answers_from, state_with}

-- the state that lines leave
abbrev pub state_through : State → List Reading → State
state_through s [] = s
state_through s (reading ∷ readings) = state_through (state_then s reading) readings

-- the phase behind lines
abbrev pub phase_through : ℕ → List Reading → ℕ
phase_through phase [] = phase
phase_through phase (reading ∷ readings) = phase_through (phase_after phase reading) readings

pub state_through-more : (s : State) (readings : List Reading) (reading : Reading)
    → state_through s (readings ++ reading ∷ []) ≡ state_then (state_through s readings) reading
state_through-more s [] reading = refl
state_through-more s (first ∷ others) reading = state_through-more (state_then s first) others reading

pub phase_through-more : (phase : ℕ) (readings : List Reading) (reading : Reading)
    → phase_through phase (readings ++ reading ∷ []) ≡ phase_after (phase_through phase readings) reading
phase_through-more phase [] reading = refl
phase_through-more phase (first ∷ others) reading = phase_through-more (phase_after phase first) others reading

-- the answers to lines and one more
pub answers_from-more : (options : Options) (s : State) (phase : ℕ) (readings : List Reading) (reading : Reading)
    → answers_from options s phase (readings ++ reading ∷ [])
    ≡ answers_from options s phase readings ++ answer_in options (state_through s readings) (phase_through phase readings) reading ∷ []
answers_from-more options s phase [] reading = refl
answers_from-more options s phase (first ∷ others) reading =
    ap (λ answers. answer_in options s phase first ∷ answers)
    (answers_from-more options (state_then s first) (phase_after phase first) others reading)

-- a phase grows by one at most
pub phase_after-bound : (phase : ℕ) (reading : Reading) → phase_after phase reading ≤ phase + 1
phase_after-bound phase (Err fault) = omega arith
phase_after-bound phase (Ok (command.Commit session request)) = omega arith
phase_after-bound phase (Ok (command.Look session query)) = omega arith
phase_after-bound phase (Ok (command.Trace session query)) = omega arith
phase_after-bound phase (Ok (command.Sync session)) = omega arith
phase_after-bound phase (Ok command.Phase) = omega arith

revision_with : (s : State) (r : Request) (fault : Option Fault) → (state_with s r fault).revision ≤ s.revision + 1
revision_with s r None = omega arith
revision_with s r (Some fault) = omega arith

-- a revision grows by one at most
pub state_then-bound : (s : State) (reading : Reading) → (state_then s reading).revision ≤ s.revision + 1
state_then-bound s (Err fault) = omega arith
state_then-bound s (Ok (command.Commit session r)) = revision_with s r (fault_of s r)
state_then-bound s (Ok (command.Look session query)) = omega arith
state_then-bound s (Ok (command.Trace session query)) = omega arith
state_then-bound s (Ok (command.Sync session)) = omega arith
state_then-bound s (Ok command.Phase) = omega arith

-- Lines that were answered one after another, from a state in phase 1: where they led, and their answers.
pub record IsPlayed (options : Options) (s : State) (readings : List Reading) (now : State) (phase : ℕ) (answers : List Answer) : Type 0 where
  pub reached : now ≡ state_through s readings
  pub in_phase : phase ≡ phase_through 1 readings
  pub answered : answers ≡ answers_from options s 1 readings
  pub revision_bound : now.revision ≤ s.revision + length readings
  pub phase_bound : phase ≤ 1 + length readings

-- one line more
pub one_more_played : (options : Options) (s now next : State) (readings : List Reading) (reading : Reading) (phase next_phase : ℕ) (answers more : List Answer) (answer : Answer)
    → IsPlayed options s readings now phase answers
    → next ≡ state_then now reading
    → next_phase ≡ phase_after phase reading
    → answer ≡ answer_in options now phase reading
    → more ≡ answers ++ answer ∷ []
    → IsPlayed options s (readings ++ reading ∷ []) next next_phase more
one_more_played options s now next readings reading phase next_phase answers more answer played moved turned told pushed =
    record {
      reached = moved ∙ ap (λ (x : State). state_then x reading) played.reached ∙ sym (state_through-more s readings reading);
      in_phase = turned ∙ ap (λ (p : ℕ). phase_after p reading) played.in_phase ∙ sym (phase_through-more 1 readings reading);
      answered = pushed ∙ ap (λ (x : Answer). answers ++ x ∷ []) told
          ∙ ap (λ (x : State). answers ++ answer_in options x phase reading ∷ []) played.reached
          ∙ ap (λ (p : ℕ). answers ++ answer_in options (state_through s readings) p reading ∷ []) played.in_phase
          ∙ ap (λ (xs : List Answer). xs ++ answer_in options (state_through s readings) (phase_through 1 readings) reading ∷ []) played.answered
          ∙ sym (answers_from-more options s 1 readings reading);
      revision_bound = simp length-append (omega (arith, ap (λ (x : State). x.revision) moved, state_then-bound now reading, played.revision_bound));
      phase_bound = simp length-append (omega (arith, turned, phase_after-bound phase reading, played.phase_bound));
    }
