-- Answers that are put back by the marks of the lines are those that are put back by the lines.
use Rattle.std.proofs.Common.{zero, suc, ◌≡◌, ℕ, ◌+◌, ◌≤◌, List, [], ◌∷◌, ◌++◌, length, drop, map, None, Some, Ok, Err, refl, sym, ap, ◌∙◌, append_assoc, append-nil, length-append, arith}
use Rattle.pol_answer.specs.declared.answer.Answer.{Answer}
use Rattle.pol_answer.specs.declared.answer.Answer.TheVariants as answer
use Rattle.pol_script.specs.declared.command.Command.TheVariants as command
use Rattle.pol_run.specs.Spots.{Reading}
use Rattle.pol_run_laws.specs.Cut.{answer_in, answers_from, answers_to, change_session, first_phase, told_after}
use Rattle.pol_phases.specs.declared.mark.Mark.{Mark}
use Rattle.pol_phases.specs.declared.mark.Mark.TheVariants as mark
use Rattle.pol_phases.specs.Marks.{IsLeft, answer_by, answers_by, mark_of, number_by, told_by}

-- the answer to a command of a session, in front of others
one_more : (number session : ℕ) (told : List (List (List Answer))) (xs ys : List Answer) → xs ≡ ys → answer_in number (Some session) told ∷ xs ≡ answer_in number (Some session) told ∷ ys
one_more number session told xs ys same = ap (λ (answers : List Answer). answer_in number (Some session) told ∷ answers) same

pub by_marks : (number : ℕ) (lines : List Reading) (told : List (List (List Answer))) → answers_by number (map mark_of lines) told ≡ answers_from number lines told
by_marks number [] told = refl
by_marks number (Err fault ∷ lines) told = ap (λ (answers : List Answer). answer.BadLine fault ∷ answers) (by_marks number lines told)
by_marks number (Ok (command.Commit session request) ∷ lines) told = one_more number session told _ _ (by_marks number lines (told_after (Some session) told))
by_marks number (Ok (command.Look session query) ∷ lines) told = one_more number session told _ _ (by_marks number lines (told_after (Some session) told))
by_marks number (Ok (command.Trace session query) ∷ lines) told = one_more number session told _ _ (by_marks number lines (told_after (Some session) told))
by_marks number (Ok (command.Sync session) ∷ lines) told = one_more number session told _ _ (by_marks number lines (told_after (Some session) told))
by_marks number (Ok command.Phase ∷ lines) told = ap (λ (answers : List Answer). answer.Phase number ∷ answers) (by_marks (number + 1) lines (told_after None told))

-- ---- past the last phase nothing is told

-- what was told, with a phase in which nothing was where there is none
abbrev pub begun : List (List (List Answer)) → List (List (List Answer))
begun told = first_phase told ∷ drop 1 told

change_none : (i : ℕ) (change : List Answer → List Answer) → change_session i change [] ≡ []
change_none zero change = refl
change_none (suc i) change = refl

answer_begun : (number : ℕ) (m : Mark) (told : List (List (List Answer))) → answer_by number m (begun told) ≡ answer_by number m told
answer_begun number (mark.Faulty fault) told = refl
answer_begun number (mark.Of session) told = refl
answer_begun number mark.Phase told = refl

told_begun : (m : Mark) (told : List (List (List Answer))) → begun (told_by m (begun told)) ≡ begun (told_by m told)
told_begun (mark.Faulty fault) [] = refl
told_begun (mark.Faulty fault) (first ∷ later) = refl
told_begun (mark.Of session) [] = ap (λ (lists : List (List Answer)). lists ∷ []) (change_none session (λ answers. drop 1 answers))
told_begun (mark.Of session) (first ∷ later) = refl
told_begun mark.Phase [] = refl
told_begun mark.Phase (first ∷ later) = refl

pub as_begun : (number : ℕ) (marks : List Mark) (told : List (List (List Answer))) → answers_by number marks (begun told) ≡ answers_by number marks told
as_begun number [] told = refl
as_begun number (first ∷ marks) told =
    ap (λ (answer : Answer). answer ∷ answers_by (number_by number first) marks (told_by first (begun told))) (answer_begun number first told)
    ∙ ap (λ (answers : List Answer). answer_by number first told ∷ answers)
    (sym (as_begun (number_by number first) marks (told_by first (begun told)))
    ∙ ap (λ (t : List (List (List Answer))). answers_by (number_by number first) marks t) (told_begun first told)
    ∙ as_begun (number_by number first) marks (told_by first told))

begun_is : (told : List (List (List Answer))) (current : List (List Answer)) (later : List (List (List Answer))) → IsLeft told current later → current ∷ later ≡ begun told
begun_is told current later is = ap (λ (first : List (List Answer)). first ∷ later) is.now ∙ ap (λ (rest : List (List (List Answer))). first_phase told ∷ rest) is.behind

-- ---- one line after another

-- These answers were given so far, to the lines in front of those that wait, and what is left answers these.
pub record Leads (marks : List Mark) (told : List (List (List Answer))) (waiting : List Mark) (answers : List Answer) (number : ℕ) (left : List (List (List Answer))) : Type 0 where
  pub goes_on : answers_by 1 marks told ≡ answers ++ answers_by number waiting left
  pub few : number ≤ length answers + 1

pub leads-first : (marks : List Mark) (told : List (List (List Answer))) (current : List (List Answer)) (later : List (List (List Answer))) → IsLeft told current later
    → Leads marks told marks [] 1 (current ∷ later)
leads-first marks told current later is = record {
  goes_on = sym (as_begun 1 marks told) ∙ ap (λ (left : List (List (List Answer))). answers_by 1 marks left) (sym (begun_is told current later is));
  few = omega arith;
}

number_few : (number : ℕ) (m : Mark) → number_by number m ≤ number + 1
number_few number (mark.Faulty fault) = omega arith
number_few number (mark.Of session) = omega arith
number_few number mark.Phase = omega arith

pub leads-more : (marks : List Mark) (told : List (List (List Answer))) (waiting rest : List Mark) (answers more : List Answer) (number next : ℕ) (left : List (List (List Answer))) (m : Mark)
    (current : List (List Answer)) (later : List (List (List Answer))) → waiting ≡ m ∷ rest → more ≡ answers ++ answer_by number m left ∷ [] → next ≡ number_by number m
    → IsLeft (told_by m left) current later → Leads marks told waiting answers number left → Leads marks told rest more next (current ∷ later)
leads-more marks told waiting rest answers more number next left m current later first pushed after rest_is leads = record {
  goes_on =
      leads.goes_on
      ∙ ap (λ (ms : List Mark). answers ++ answers_by number ms left) first
      ∙ ap (λ (n : ℕ). answers ++ answer_by number m left ∷ answers_by n rest (told_by m left)) (sym after)
      ∙ ap (λ (others : List Answer). answers ++ answer_by number m left ∷ others)
      (sym (as_begun next rest (told_by m left)) ∙ ap (λ (t : List (List (List Answer))). answers_by next rest t) (sym (begun_is (told_by m left) current later rest_is)))
      ∙ sym (append_assoc answers (answer_by number m left ∷ []) (answers_by next rest (current ∷ later)))
      ∙ ap (λ (as_told : List Answer). as_told ++ answers_by next rest (current ∷ later)) (sym pushed);
  few = omega (arith, leads.few, after, number_few number m, ap length pushed, length-append answers (answer_by number m left ∷ []));
}

pub leads-all : (marks : List Mark) (told : List (List (List Answer))) (waiting : List Mark) (answers : List Answer) (number : ℕ) (left : List (List (List Answer))) → waiting ≡ []
    → Leads marks told waiting answers number left → (lines : List Reading) → marks ≡ map mark_of lines → answers ≡ answers_to lines told
leads-all marks told waiting answers number left none leads lines are =
    sym (append-nil answers) ∙ ap (λ (ms : List Mark). answers ++ answers_by number ms left) (sym none) ∙ sym leads.goes_on
    ∙ ap (λ (ms : List Mark). answers_by 1 ms told) are ∙ by_marks 1 lines told
