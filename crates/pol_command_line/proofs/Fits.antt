-- From what a parse by clap says to what the words give.
use Rattle.std.proofs.Common.{◌≡◌, true, List, [], ◌∷◌, Option, None, Some, Result, Ok, Err, refl, sym, ap, ◌∙◌, inl, inr}
use Rattle.std.specs.Prelude.{IfOk, IsErrOf}
use Rattle.clap.specs.Words.{Row, Text, fault_of, is_simple, is_simple_and_free, kind_of, matches_of}
use Rattle.clap.specs.Kinds.{HasKind, Kinds}
use Rattle.clap.specs.declared.error.Error.{Error}
use Rattle.clap.specs.declared.error.kind.ErrorKind.TheVariants as kind
use Rattle.clap.proofs.OnLiterals.{clap_on_literals}
use Rattle.pol_command_line.specs.declared.Words.{Words}
use Rattle.pol_command_line.specs.declared.WordsError.{WordsError}
use Rattle.pol_command_line.specs.declared.WordsError.TheVariants.{Misfit}
use Rattle.pol_command_line.specs.Given.{words_given, words_in, words_without}
use Rattle.pol_command_line.specs.Grammar.{grammar}

pub simple : is_simple grammar ≡ true
unfolding clap_on_literals
simple = refl

pub simple_and_free : is_simple_and_free grammar ≡ true
unfolding clap_on_literals
simple_and_free = refl

without_faults : (kinds : Kinds) (words : List Text) → kinds ≡ [] → words_without kinds words ≡ words_in (matches_of grammar words)
without_faults [] words none = refl
without_faults (kind ∷ kinds) words none = absurd (cc)

-- words in which clap finds no fault
pub fitting : (words : List Text) (rows : List Row) → fault_of grammar words ≡ [] → rows ≡ matches_of grammar words
    → words_given words ≡ words_in rows
fitting words rows none found = without_faults (fault_of grammar words) words none ∙ sym (ap words_in found)

refused : (kinds : Kinds) (words : List Text) (error : Error) → HasKind kinds error → (kind_of error ≡ kind.OutOfMemory → ⊥)
    → words_without kinds words ≡ None
refused [] words error (inl memory) other = absurd (other memory)
refused [] words error (inr none) other = absurd none
refused (kind ∷ kinds) words error has other = refl

-- words that clap refuses
pub misfitting : (words : List Text) (error : Error) → HasKind (fault_of grammar words) error → (kind_of error ≡ kind.OutOfMemory → ⊥)
    → words_given words ≡ None
misfitting words error has other = refused (fault_of grammar words) words error has other

-- what is answered for equal to equal
pub told : (w v : Option Words) (r : Result Words WordsError) → w ≡ v → IfOk r (λ given. v ≡ Some given) → IfOk r (λ given. w ≡ Some given)
told w v (Ok given) same is = same ∙ is
told w v (Err error) same is = tt

pub told_none : (w v : Option Words) (r : Result Words WordsError) → w ≡ v → (IsErrOf r Misfit → v ≡ None) → IsErrOf r Misfit → w ≡ None
told_none w v r same none misfit = same ∙ none misfit
