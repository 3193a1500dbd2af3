-- One line more is committed.
use Rattle.std.proofs.Common.{◌≡◌, ℕ, ◌+◌, List, [], ◌∷◌, ◌++◌, length, Option, refl, ap, sym, ◌∙◌, append_assoc, append-nil, arith, length-append}
use Rattle.pol_answer.specs.declared.answer.Answer.{Answer}
use Rattle.pol_model.specs.State.{State}
use Rattle.pol_run.specs.Serial.{state_then}
use Rattle.pol_run.specs.Spots.{Reading}
use Rattle.pol_script_commits.specs.declared.refusal.Refusal.{Refusal}
use Rattle.pol_script_commits.specs.Left.{state_left}
use Rattle.pol_script_commits.specs.Refused.{at_line, refusals_from, refused_in}

state_left-more : (s : State) (readings : List Reading) (reading : Reading)
    → state_left s (readings ++ reading ∷ []) ≡ state_then (state_left s readings) reading
state_left-more s [] reading = refl
state_left-more s (first ∷ others) reading = state_left-more (state_then s first) others reading

pub one_more : (s now next : State) (readings : List Reading) (reading : Reading) → now ≡ state_left s readings → next ≡ state_then now reading
    → next ≡ state_left s (readings ++ reading ∷ [])
one_more s now next readings reading so_far more =
    more ∙ ap (λ (x : State). state_then x reading) so_far ∙ sym (state_left-more s readings reading)

-- the refused lines of lines and one more, which is the one behind so many
refusals-more : (count : ℕ) (s : State) (readings : List Reading) (reading : Reading)
    → refusals_from count s (readings ++ reading ∷ [])
    ≡ refusals_from count s readings ++ at_line (count + length readings + 1) (refused_in (state_left s readings) reading)
refusals-more count s [] reading =
    let number : count + 1 ≡ count + length {A = Reading} [] + 1 = omega arith in
    append-nil (at_line (count + 1) (refused_in s reading)) ∙ ap (λ (n : ℕ). at_line n (refused_in s reading)) number
refusals-more count s (first ∷ others) reading =
    let front = at_line (count + 1) (refused_in s first) in
    let last = refused_in (state_left (state_then s first) others) reading in
    let mid = refusals_from (count + 1) (state_then s first) others in
    let number : count + 1 + length others + 1 ≡ count + length (first ∷ others) + 1 = omega arith in
    ap (λ (xs : List Refusal). front ++ xs) (refusals-more (count + 1) (state_then s first) others reading)
    ∙ sym (append_assoc front mid (at_line (count + 1 + length others + 1) last))
    ∙ ap (λ (n : ℕ). (front ++ mid) ++ at_line n last) number

pub more_refused : (s now : State) (readings : List Reading) (reading : Reading) (line : ℕ) (old new : List Refusal) (found : Option Answer)
    → line ≡ length readings → now ≡ state_left s readings → old ≡ refusals_from 0 s readings → found ≡ refused_in now reading
    → new ≡ old ++ at_line (line + 1) found → new ≡ refusals_from 0 s (readings ++ reading ∷ [])
more_refused s now readings reading line old new found counted so_far before is more =
    let number : line + 1 ≡ 0 + length readings + 1 = omega arith in
    let last = is ∙ ap (λ (x : State). refused_in x reading) so_far in
    more ∙ ap (λ (xs : List Refusal). xs ++ at_line (line + 1) found) before
    ∙ ap (λ (n : ℕ). refusals_from 0 s readings ++ at_line n found) number
    ∙ ap (λ (o : Option Answer). refusals_from 0 s readings ++ at_line (0 + length readings + 1) o) last
    ∙ sym (refusals-more 0 s readings reading)

pub one_longer : (line : ℕ) (readings : List Reading) (reading : Reading) → line ≡ length readings → line + 1 ≡ length (readings ++ reading ∷ [])
one_longer line readings reading counted = omega (arith, counted, length-append readings (reading ∷ []))
