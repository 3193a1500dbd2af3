use Rattle.std.proofs.Common.{◌≡◌, sym, ap, ◌∙◌}
use Rattle.pol_mapkey.specs.Entries.{Entry}
use Rattle.pol_audit.specs.Text.{IsKept, direction_word, said_words}
use Rattle.pol_audit.proofs.Results.{if_none, on_none, on_some}
use Rattle.pol_audit.proofs.Spelled.{said_tells}
use Rattle.pol_audit.proofs.line.entry_with.Goals as goal

pub returns-in_err-dir-clause-none : goal.returns-in_err-dir-clause-none
returns-in_err-dir-clause-none c =
    let none : (e : Entry) → IsKept e → c.args.dir.now ≡ direction_word e.0.dir → c.args.rest.now ≡ said_words e.0.id e.0.proto e.0.port e.1 → ⊥ =
    λ e kept dir rest. c.in_err-dir.ensures.none e.0.dir dir in
    if_none _ _ none

pub returns-in_err-said-clause-none : goal.returns-in_err-said-clause-none
returns-in_err-said-clause-none c =
    let none : (e : Entry) → IsKept e → c.args.dir.now ≡ direction_word e.0.dir → c.args.rest.now ≡ said_words e.0.id e.0.proto e.0.port e.1 → ⊥ =
    λ e kept dir rest. c.in_err-said.ensures.none e.0.id e.0.proto e.0.port e.1 kept.0 kept.1 rest in
    if_none _ _ none

pub returns-clause-some : goal.returns-clause-some
returns-clause-some c =
    on_some c.entry_from.result
    (λ (e : Entry). (e.0.dir ≡ c.in_ok-dir.dir) × (e.0.id ≡ c.in_ok-said.said.id) × (e.0.proto ≡ c.in_ok-said.said.proto) × (e.0.port ≡ c.in_ok-said.said.port) × (e.1 ≡ c.in_ok-said.said.kind))
    (λ (e : Entry). (c.args.dir.now ≡ direction_word e.0.dir) × (c.args.rest.now ≡ said_words e.0.id e.0.proto e.0.port e.1))
    c.entry_from.ensures.some (λ e are. (
      c.in_ok-dir.ensures.some ∙ ap direction_word (sym are.0),
      c.in_ok-said.ensures.some ∙ (λ i. said_words (sym are.1 i) (sym are.2 i) (sym are.3 i) (sym are.4 i)),
    ))

pub returns-clause-none : goal.returns-clause-none
returns-clause-none c = on_none c.entry_from.result _ _ c.entry_from.ensures.none (λ none e kept dir rest.
    let said = c.in_ok-said.said in
    let fits = c.are_kept.ensures in
    let same = said_tells said.id e.0.id said.proto e.0.proto said.port e.0.port said.kind e.1 fits.0 kept.0 fits.1 kept.1 (sym c.in_ok-said.ensures.some ∙ rest) in
    none e.0 (sym same.1) (sym same.2))
