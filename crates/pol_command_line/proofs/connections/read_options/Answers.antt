use Rattle.std.proofs.Common.{◌≡◌, ◌∙◌, ap, subst, map, []}
use Rattle.std.specs.String.{string_bytes}
use Rattle.clap.specs.Words.{App, fault_of, found_of, is_simple, is_simple_and_free, matches_of, rows_of}
use Rattle.clap.specs.Kinds.{HasKind}
use Rattle.pol_command_line.specs.Options.{options_given, options_in}
use Rattle.pol_command_line.proofs.OptionsFit.{is_plain, is_plain_and_free, fitting, misfitting, told, told_none}
use Rattle.pol_command_line.proofs.connections.read_options.Goals as goal

pub returns-in-Ok-try_get_matches_from-clause-given : goal.returns-in-Ok-try_get_matches_from-clause-given
returns-in-Ok-try_get_matches_from-clause-given c =
    let words = map string_bytes c.args.words.now in
    let is = c.in-Ok.ensures in
    let parse = c.in-Ok-try_get_matches_from.ensures in
    let none = subst (λ (app : App). fault_of app words ≡ []) is (parse.kinds (ap is_simple_and_free is ∙ is_plain_and_free)) in
    let rows = subst (λ (app : App). rows_of (found_of c.in-Ok-try_get_matches_from.matches) ≡ matches_of app words) is
    (parse.matches (ap is_simple is ∙ is_plain)).0 in
    let fits = fitting words (rows_of (found_of c.in-Ok-try_get_matches_from.matches)) none rows in
    told (options_given words) (options_in (rows_of (found_of c.in-Ok-try_get_matches_from.matches))) c.options_found.result fits c.options_found.ensures.given

pub returns-in-Ok-try_get_matches_from-clause-misfit : goal.returns-in-Ok-try_get_matches_from-clause-misfit
returns-in-Ok-try_get_matches_from-clause-misfit c =
    let words = map string_bytes c.args.words.now in
    let is = c.in-Ok.ensures in
    let parse = c.in-Ok-try_get_matches_from.ensures in
    let none = subst (λ (app : App). fault_of app words ≡ []) is (parse.kinds (ap is_simple_and_free is ∙ is_plain_and_free)) in
    let rows = subst (λ (app : App). rows_of (found_of c.in-Ok-try_get_matches_from.matches) ≡ matches_of app words) is
    (parse.matches (ap is_simple is ∙ is_plain)).0 in
    let fits = fitting words (rows_of (found_of c.in-Ok-try_get_matches_from.matches)) none rows in
    told_none (options_given words) (options_in (rows_of (found_of c.in-Ok-try_get_matches_from.matches))) c.options_found.result fits c.options_found.ensures.misfit

pub returns : goal.returns
returns c =
    let words = map string_bytes c.args.words.now in
    let is = c.in-Ok.ensures in
    let error = c.in-Err-try_get_matches_from.error in
    let has = subst (λ (app : App). HasKind (fault_of app words) error) is
    (c.in-Err-try_get_matches_from.ensures.kinds (ap is_simple_and_free is ∙ is_plain_and_free)) in
    record {
      given = tt;
      misfit = λ _. misfitting words error has (λ memory. c.in_default.not-OutOfMemory (c.kind.ensures ∙ memory));
      no_limit = tt;
    }
