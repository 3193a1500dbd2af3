use Rattle.std.proofs.Common.{◌≡◌, ◌∙◌, ap, subst, map, []}
use Rattle.std.specs.String.{string_bytes}
use Rattle.clap.specs.Words.{App, fault_of, found_of, is_simple, is_simple_and_free, matches_of, rows_of}
use Rattle.clap.specs.Kinds.{HasKind}
use Rattle.pol_command_line.specs.Given.{words_given, words_in}
use Rattle.pol_command_line.proofs.Fits.{simple, simple_and_free, fitting, misfitting, told, told_none}
use Rattle.pol_command_line.proofs.read_words.Goals as goal

pub returns-in-Ok-try_get_matches_from-clause-given : goal.returns-in-Ok-try_get_matches_from-clause-given
returns-in-Ok-try_get_matches_from-clause-given c =
    let words = map string_bytes c.args.words.now in
    let is = c.in-Ok.ensures in
    let parse = c.in-Ok-try_get_matches_from.ensures in
    let none = subst (λ (app : App). fault_of app words ≡ []) is (parse.kinds (ap is_simple_and_free is ∙ simple_and_free)) in
    let rows = subst (λ (app : App). rows_of (found_of c.in-Ok-try_get_matches_from.matches) ≡ matches_of app words) is
    (parse.matches (ap is_simple is ∙ simple)).0 in
    let fits = fitting words (rows_of (found_of c.in-Ok-try_get_matches_from.matches)) none rows in
    told (words_given words) (words_in (rows_of (found_of c.in-Ok-try_get_matches_from.matches))) c.words_found.result fits c.words_found.ensures.given

pub returns-in-Ok-try_get_matches_from-clause-misfit : goal.returns-in-Ok-try_get_matches_from-clause-misfit
returns-in-Ok-try_get_matches_from-clause-misfit c =
    let words = map string_bytes c.args.words.now in
    let is = c.in-Ok.ensures in
    let parse = c.in-Ok-try_get_matches_from.ensures in
    let none = subst (λ (app : App). fault_of app words ≡ []) is (parse.kinds (ap is_simple_and_free is ∙ simple_and_free)) in
    let rows = subst (λ (app : App). rows_of (found_of c.in-Ok-try_get_matches_from.matches) ≡ matches_of app words) is
    (parse.matches (ap is_simple is ∙ simple)).0 in
    let fits = fitting words (rows_of (found_of c.in-Ok-try_get_matches_from.matches)) none rows in
    told_none (words_given words) (words_in (rows_of (found_of c.in-Ok-try_get_matches_from.matches))) c.words_found.result fits c.words_found.ensures.misfit

pub returns : goal.returns
returns c =
    let words = map string_bytes c.args.words.now in
    let is = c.in-Ok.ensures in
    let error = c.in-Err-try_get_matches_from.error in
    let has = subst (λ (app : App). HasKind (fault_of app words) error) is
    (c.in-Err-try_get_matches_from.ensures.kinds (ap is_simple_and_free is ∙ simple_and_free)) in
    record {
      given = tt;
      misfit = λ _. misfitting words error has (λ memory. c.in_default.not-OutOfMemory (c.kind.ensures ∙ memory));
      least = tt;
      greatest = tt;
      default = tt;
      workers = tt;
      rounds = tt;
    }
