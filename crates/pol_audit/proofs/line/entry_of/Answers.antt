use Rattle.std.proofs.Common.{◌≡◌, ◌∷◌, ◌++◌, ◌∙◌, arith}
use Rattle.pol_mapkey.specs.Entries.{Entry}
use Rattle.pol_audit.specs.Text.{direction_word, entry_words, said_words}
use Rattle.pol_audit.proofs.Results.{on_none, on_some}
use Rattle.pol_audit.proofs.Spelled.{cut_none, cut_some, cut_words, direction_plain}
use Rattle.pol_audit.proofs.line.entry_of.Goals as goal

pub returns-in-None-clause-none : goal.returns-in-None-clause-none
returns-in-None-clause-none c = λ e kept is.
    cut_none 32 c.args.text.now (omega arith) (direction_word e.0.dir) (said_words e.0.id e.0.proto e.0.port e.1) c.in-None.ensures.cases (direction_plain e.0.dir).0 is

pub returns-in-Some-clause-some : goal.returns-in-Some-clause-some
returns-in-Some-clause-some c =
    on_some c.entry_with.result
    (λ (e : Entry). (c.in-Some.dir.now ≡ direction_word e.0.dir) × (c.in-Some.rest.now ≡ said_words e.0.id e.0.proto e.0.port e.1))
    (λ (e : Entry). c.args.text.now ≡ entry_words e)
    c.entry_with.ensures.some (λ e are.
    cut_some 32 c.args.text.now (omega arith) (c.in-Some.dir, c.in-Some.rest) c.in-Some.ensures.cases ∙ (λ i. are.0 i ++ 32 ∷ are.1 i))

pub returns-in-Some-clause-none : goal.returns-in-Some-clause-none
returns-in-Some-clause-none c = on_none c.entry_with.result _ _ c.entry_with.ensures.none (λ none e kept is.
    let parts = cut_words 32 c.args.text.now (omega arith) (c.in-Some.dir, c.in-Some.rest) (direction_word e.0.dir) (said_words e.0.id e.0.proto e.0.port e.1) c.in-Some.ensures.cases (direction_plain e.0.dir).0 is in
    none e kept parts.0 parts.1)
