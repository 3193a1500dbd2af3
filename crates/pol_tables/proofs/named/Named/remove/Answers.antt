use Rattle.std.proofs.Common.{None, cond, sym, ap, ◌∙◌}
use Rattle.std.specs.Str.{bytes_eq}
use Rattle.std.proofs.lemmas.Map.Text.{hash_map_updates_text}
use Rattle.pol_model.specs.Endpoints.{without_named}
use Rattle.pol_tables.specs.Tables.{NamedTable, number_named}
use Rattle.pol_tables.specs.Tied.{named_in}
use Rattle.pol_tables.proofs.NamedNumbers.{number_found, number_without}
use Rattle.pol_tables.proofs.named.Named.remove.Goals as goal

pub returns-clause-numbers : goal.returns-clause-numbers
returns-clause-numbers c other =
    let es = c.self.inside.numbers.entries in
    let name = c.args.name.now in
    number_found other c.swap_remove.new.self.entries
    ∙ hash_map_updates_text name c.self.inside.numbers c.swap_remove.new.self None c.swap_remove.ensures.updates other
    ∙ ap (λ o. cond (bytes_eq name other) None o) (sym (number_found other es))
    ∙ sym (number_without name other (named_in es))
    ∙ ap (λ (t : NamedTable). number_named other (without_named name t.list)) c.self.view_is

pub returns-clause-removed : goal.returns-clause-removed
returns-clause-removed c =
    c.swap_remove.ensures.value
    ∙ sym (number_found c.args.name.now c.self.inside.numbers.entries)
    ∙ ap (λ (t : NamedTable). number_named c.args.name.now t.list) c.self.view_is
