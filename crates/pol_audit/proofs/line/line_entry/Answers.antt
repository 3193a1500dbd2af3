use Rattle.std.proofs.Common.{◌≡◌, sym, subst, ◌∙◌}
use Rattle.std.specs.Str.{IsUtf8}
use Rattle.std.proofs.lemmas.Str.{IsUtf8-from_ascii}
use Rattle.pol_mapkey.specs.Entries.{Entry}
use Rattle.pol_audit.specs.Text.{entry_words}
use Rattle.pol_audit.proofs.Results.{on_none, on_some}
use Rattle.pol_audit.proofs.Spelled.{words_ascii}
use Rattle.pol_audit.proofs.line.line_entry.Goals as goal

pub returns-in-Err-clause-none : goal.returns-in-Err-clause-none
returns-in-Err-clause-none c = λ e kept is. c.in-Err.ensures.cases.0 (subst IsUtf8 (sym is) (IsUtf8-from_ascii (entry_words e) (words_ascii e kept)))

pub returns-in-Ok-clause-some : goal.returns-in-Ok-clause-some
returns-in-Ok-clause-some c =
    on_some c.entry_of.result (λ (e : Entry). c.in-Ok.text.now ≡ entry_words e) (λ (e : Entry). c.args.line.now ≡ entry_words e)
    c.entry_of.ensures.some (λ e are. sym c.in-Ok.ensures.cases.0 ∙ are)

pub returns-in-Ok-clause-none : goal.returns-in-Ok-clause-none
returns-in-Ok-clause-none c = on_none c.entry_of.result _ _ c.entry_of.ensures.none (λ none e kept is. none e kept (c.in-Ok.ensures.cases.0 ∙ is))
