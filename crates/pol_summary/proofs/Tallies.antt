-- How many answers are of each kind, by tests of the answers.
use Rattle.std.proofs.Common.{◌≡◌, ℕ, ◌+◌, Bool, true, false, cond, if◌then◌else◌, List, [], ◌∷◌, refl, sym, ◌∙◌, arith}
use Rattle.std.specs.List.{count_by, list_any}
use Rattle.std.proofs.lemmas.Bool.{or_parts}
use Rattle.pol_answer.specs.declared.answer.Answer.{Answer}
use Rattle.pol_answer.specs.declared.answer.Answer.TheVariants as answer
use Rattle.pol_data.proofs.Counts.{count_by-cons}
use Rattle.pol_generated.specs.Requests.{is_committed, is_verdict}
use Rattle.pol_mapkey.specs.declared.Word.TheVariants.{Allowed, DeniedByRule, DeniedByDefault}
use Rattle.pol_summary.specs.Summary.{count_of, is_of}
use Rattle.pol_summary.specs.declared.summary.AnswerKind.TheVariants as kind
use Rattle.pol_run.specs.Run.{is_marked, status_of}

-- ---- commits

of_commit : (a : Answer) → is_of kind.Commit a ≡ is_committed a
of_commit (answer.Committed revision identity) = refl
of_commit (answer.Synced revision full) = refl
of_commit (answer.Phase number) = refl
of_commit (answer.Verdict revision word) = refl
of_commit (answer.NoEndpoint revision) = refl
of_commit (answer.NotYet revision) = refl
of_commit (answer.Traced revision trace) = refl
of_commit (answer.BadLine fault) = refl
of_commit (answer.Refused refused) = refl

pub commits_of_kind : (answers : List Answer) → count_of kind.Commit answers ≡ count_by is_committed answers
unfolding count_of
commits_of_kind [] = refl
commits_of_kind (a ∷ answers) =
    count_by-cons (is_of kind.Commit) a answers ∙ (λ i. cond (of_commit a i) 1 0 + commits_of_kind answers i) ∙ sym (count_by-cons is_committed a answers)

-- ---- refusals

of_refusal : (a : Answer) → is_marked a ≡ false → is_of kind.Refusal a ≡ false
of_refusal (answer.Committed revision identity) none = refl
of_refusal (answer.Synced revision full) none = refl
of_refusal (answer.Phase number) none = refl
of_refusal (answer.Verdict revision word) none = refl
of_refusal (answer.NoEndpoint revision) none = refl
of_refusal (answer.NotYet revision) none = refl
of_refusal (answer.Traced revision trace) none = refl
of_refusal (answer.BadLine fault) none = absurd cc
of_refusal (answer.Refused refused) none = absurd cc

refusals_unmarked : (answers : List Answer) → list_any is_marked answers ≡ false → count_of kind.Refusal answers ≡ 0
unfolding count_of
refusals_unmarked [] none = refl
refusals_unmarked (a ∷ answers) none =
    let parts = or_parts (is_marked a) (list_any is_marked answers) none in
    count_by-cons (is_of kind.Refusal) a answers ∙ (λ i. cond (of_refusal a parts.0 i) 1 0 + refusals_unmarked answers parts.1 i)

unmarked : (b : Bool) → ◌≡◌ {A = ℕ} (if b then 1 else 0) 0 → b ≡ false
unmarked true none = absurd (omega (arith, none))
unmarked false none = refl

-- at status 0 there is none
pub no_refusals : (answers : List Answer) → status_of answers ≡ 0 → count_of kind.Refusal answers ≡ 0
no_refusals answers none = refusals_unmarked answers (unmarked (list_any is_marked answers) none)

-- ---- verdicts

-- each has one of three words
of_word : (a : Answer) → cond (is_of kind.Allowed a) 1 0 + cond (is_of kind.DeniedByRule a) 1 0 + cond (is_of kind.DeniedByDefault a) 1 0
    ≡ cond (is_verdict a) 1 0
of_word (answer.Committed revision identity) = refl
of_word (answer.Synced revision full) = refl
of_word (answer.Phase number) = refl
of_word (answer.Verdict revision Allowed) = refl
of_word (answer.Verdict revision DeniedByRule) = refl
of_word (answer.Verdict revision DeniedByDefault) = refl
of_word (answer.NoEndpoint revision) = refl
of_word (answer.NotYet revision) = refl
of_word (answer.Traced revision trace) = refl
of_word (answer.BadLine fault) = refl
of_word (answer.Refused refused) = refl

pub verdicts_of_words : (answers : List Answer)
    → count_of kind.Allowed answers + count_of kind.DeniedByRule answers + count_of kind.DeniedByDefault answers ≡ count_by is_verdict answers
unfolding count_of
verdicts_of_words [] = refl
verdicts_of_words (a ∷ answers) =
    omega (
      arith,
      count_by-cons (is_of kind.Allowed) a answers,
      count_by-cons (is_of kind.DeniedByRule) a answers,
      count_by-cons (is_of kind.DeniedByDefault) a answers,
      count_by-cons is_verdict a answers,
      of_word a,
      verdicts_of_words answers,
    )
