-- From what a parse by clap says to the options that the words of `connections` give.
use Rattle.std.proofs.Common.{◌≡◌, true, List, [], ◌∷◌, Option, None, Some, Result, Ok, Err, refl, sym, ap, ◌∙◌, inl, inr}
use Rattle.std.specs.Prelude.{IfOk, IsErrOf}
use Rattle.clap.specs.Words.{Row, Text, fault_of, is_simple, is_simple_and_free, kind_of, matches_of}
use Rattle.clap.specs.Kinds.{HasKind, Kinds}
use Rattle.clap.specs.declared.error.Error.{Error}
use Rattle.clap.specs.declared.error.kind.ErrorKind.TheVariants as kind
use Rattle.clap.proofs.OnLiterals.{clap_on_literals}
use Rattle.pol_command_line.specs.declared.connections.ConnectionWords.{ConnectionWords}
use Rattle.pol_command_line.specs.declared.WordsError.{WordsError}
use Rattle.pol_command_line.specs.declared.WordsError.TheVariants.{Misfit}
use Rattle.pol_command_line.specs.Options.{options_given, options_in, options_without}
use Rattle.pol_command_line.specs.Grammar.{connections_grammar}

pub is_plain : is_simple connections_grammar ≡ true
unfolding clap_on_literals
is_plain = refl

pub is_plain_and_free : is_simple_and_free connections_grammar ≡ true
unfolding clap_on_literals
is_plain_and_free = refl

without_faults : (kinds : Kinds) (words : List Text) → kinds ≡ [] → options_without kinds words ≡ options_in (matches_of connections_grammar words)
without_faults [] words none = refl
without_faults (kind ∷ kinds) words none = absurd (cc)

-- words in which clap finds no fault
pub fitting : (words : List Text) (rows : List Row) → fault_of connections_grammar words ≡ [] → rows ≡ matches_of connections_grammar words
    → options_given words ≡ options_in rows
fitting words rows none found = without_faults (fault_of connections_grammar words) words none ∙ sym (ap options_in found)

refused : (kinds : Kinds) (words : List Text) (error : Error) → HasKind kinds error → (kind_of error ≡ kind.OutOfMemory → ⊥)
    → options_without kinds words ≡ None
refused [] words error (inl memory) other = absurd (other memory)
refused [] words error (inr none) other = absurd none
refused (kind ∷ kinds) words error has other = refl

-- words that clap refuses
pub misfitting : (words : List Text) (error : Error) → HasKind (fault_of connections_grammar words) error → (kind_of error ≡ kind.OutOfMemory → ⊥)
    → options_given words ≡ None
misfitting words error has other = refused (fault_of connections_grammar words) words error has other

-- what is answered for equal to equal
pub told : (w v : Option ConnectionWords) (r : Result ConnectionWords WordsError) → w ≡ v → IfOk r (λ given. v ≡ Some given) → IfOk r (λ given. w ≡ Some given)
told w v (Ok given) same is = same ∙ is
told w v (Err error) same is = tt

pub told_none : (w v : Option ConnectionWords) (r : Result ConnectionWords WordsError) → w ≡ v → (IsErrOf r Misfit → v ≡ None) → IsErrOf r Misfit → w ≡ None
told_none w v r same none misfit = same ∙ none misfit
