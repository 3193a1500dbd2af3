-- Sessions and phases one more, and what they keep of their passes.
use Rattle.std.proofs.Common.{◌≡◌, true, ℕ, ◌+◌, List, [], ◌∷◌, ◌++◌, length, take, drop, refl, sym, ap, ◌∙◌, subst, append_assoc, append-nil, arith}
use Rattle.std.specs.List.{AllByRecursion}
use Rattle.pol_answer.specs.declared.answer.Answer.{Answer}
use Rattle.pol_model.specs.declared.options.Options.{Options}
use Rattle.pol_script.specs.declared.command.Command.{Command}
use Rattle.pol_history.specs.declared.event.HistoryEvent.{HistoryEvent}
use Rattle.pol_history.specs.Grows.{PassState}
use Rattle.pol_history.specs.Meet.{has}
use Rattle.pol_run_laws.specs.Seats.{ArePhases, HavePlayed, IsPhase}
use Rattle.pol_run_laws.proofs.OneMore.{phase_more}

-- the pass was handed out
abbrev pub IsHandedOut : List ℕ → PassState → Type 0
IsHandedOut handed_out pass = has handed_out pass.number ≡ true

pub all-front : {A : Type 0} (P : A → Type 0) (xs : List A) (x : A) → AllByRecursion P (xs ++ x ∷ []) → AllByRecursion P xs
all-front P [] x all = tt
all-front P (y ∷ xs) x all = (all.0, all-front P xs x all.1)

pub all-last : {A : Type 0} (P : A → Type 0) (xs : List A) (x : A) → AllByRecursion P (xs ++ x ∷ []) → P x
all-last P [] x all = all.0
all-last P (y ∷ xs) x all = all-last P xs x all.1

take-whole : {A : Type 0} (xs ys : List A) → take (length xs) (xs ++ ys) ≡ xs
take-whole [] ys = refl
take-whole (x ∷ xs) ys = ap (λ zs. x ∷ zs) (take-whole xs ys)

-- a slice of a whole `Vec` that was written through
pub written-whole : {A : Type 0} (news olds : List A) (len : ℕ) → length news ≡ length olds → len ≡ length olds → take len (news ++ drop (length news) olds) ≡ news
written-whole news olds len same is = ap (λ (k : ℕ). take k (news ++ drop (length news) olds)) (is ∙ sym same) ∙ take-whole news (drop (length news) olds)

-- ---- a phase

module _ (options : Options) (handed_out : List ℕ) (history : List HistoryEvent) where
  played-handed_out : (olds : List PassState) (lines : List (List Command)) (told : List (List Answer)) (news : List PassState)
      → HavePlayed options history olds lines told news → AllByRecursion (IsHandedOut handed_out) olds → AllByRecursion (IsHandedOut handed_out) news
  played-handed_out [] [] [] [] played all = tt
  played-handed_out (old ∷ olds) (ls ∷ lines) (answers ∷ told) (new ∷ news) played all =
      (ap (λ (n : ℕ). has handed_out n) played.0.number ∙ all.0, played-handed_out olds lines told news played.1 all.1)
  played-handed_out olds lines told news played all = absurd played

  played-length : (olds : List PassState) (lines : List (List Command)) (told : List (List Answer)) (news : List PassState)
      → HavePlayed options history olds lines told news → length news ≡ length olds
  played-length [] [] [] [] played = refl
  played-length (old ∷ olds) (ls ∷ lines) (answers ∷ told) (new ∷ news) played = omega (arith, played-length olds lines told news played.1)
  played-length olds lines told news played = absurd played

-- ---- phase after phase

-- These phases were played so far, and those are left.
pub record ArePlayed (options : Options) (handed_out : List ℕ) (olds : List PassState) (phases left : List (List (List Command))) (told : List (List (List Answer))) (news : List PassState) : Type 0 where
  pub played : List (List (List Command))
  pub cut : played ++ left ≡ phases
  pub are : ArePhases options handed_out olds played told news
  pub handed : AllByRecursion (IsHandedOut handed_out) news
  pub as_many : length news ≡ length olds
  pub one_each : AllByRecursion (λ lines. length lines ≡ length olds) left

pub played-first : (options : Options) (handed_out : List ℕ) (passes : List PassState) (phases : List (List (List Command)))
    → AllByRecursion (IsHandedOut handed_out) passes → AllByRecursion (λ lines. length lines ≡ length passes) phases
    → ArePlayed options handed_out passes phases phases [] passes
played-first options handed_out passes phases handed one_each =
    record { played = []; cut = refl; are = refl; handed = handed; as_many = refl; one_each = one_each }

pub played-more : (options : Options) (handed_out : List ℕ) (olds then news : List PassState) (phases left rest : List (List (List Command))) (told more : List (List (List Answer)))
    (lines : List (List Command)) (answers : List (List Answer)) → left ≡ lines ∷ rest → more ≡ told ++ answers ∷ []
    → ArePlayed options handed_out olds phases left told then → IsPhase options handed_out then lines answers news
    → ArePlayed options handed_out olds phases rest more news
played-more options handed_out olds then news phases left rest told more lines answers is behind so_far phase = record {
  played = so_far.played ++ lines ∷ [];
  cut = append_assoc so_far.played (lines ∷ []) rest ∙ ap (λ (ps : List (List (List Command))). so_far.played ++ ps) (sym is) ∙ so_far.cut;
  are = subst (λ (ts : List (List (List Answer))). ArePhases options handed_out olds (so_far.played ++ lines ∷ []) ts news) (sym behind)
      (phase_more options handed_out olds so_far.played told then news lines answers so_far.are phase);
  handed = played-handed_out options handed_out phase.history then lines answers news phase.each so_far.handed;
  as_many = played-length options handed_out phase.history then lines answers news phase.each ∙ so_far.as_many;
  one_each = (subst (λ (ps : List (List (List Command))). AllByRecursion (λ lines. length lines ≡ length olds) ps) is so_far.one_each).1;
}

pub played-all : (options : Options) (handed_out : List ℕ) (olds news : List PassState) (phases left : List (List (List Command))) (told : List (List (List Answer))) → left ≡ []
    → ArePlayed options handed_out olds phases left told news → ArePhases options handed_out olds phases told news
played-all options handed_out olds news phases left told none so_far =
    subst (λ (ps : List (List (List Command))). ArePhases options handed_out olds ps told news)
    (sym (append-nil so_far.played) ∙ ap (λ (ps : List (List (List Command))). so_far.played ++ ps) (sym none) ∙ so_far.cut) so_far.are
