use Rattle.std.proofs.Common.{◌≡◌, ℕ, List, [], ◌∷◌, ◌++◌, None, sym, ap, ◌∙◌}
use Rattle.std.specs.Map.{lookup}
use Rattle.std.specs.String.{string_bytes, string_eq}
use Rattle.indexmap.proofs.CallerLemmas.{insert_entry-new}
use Rattle.pol_model.specs.declared.row.NamedIdentity.{NamedIdentity}
use Rattle.pol_tables.specs.Tables.{NamedTable, number_named}
use Rattle.pol_tables.specs.Tied.{named_in}
use Rattle.pol_tables.proofs.NamedNumbers.{named_push, number_found}
use Rattle.pol_tables.proofs.named.Named.place.Goals as goal

pub returns : goal.returns
returns c =
    let es = c.self.inside.numbers.entries in
    let key = c.into_string.result in
    let none : lookup (string_eq key) es ≡ None =
    sym (number_found (string_bytes key) es)
    ∙ ap (λ n. number_named n (named_in es)) c.into_string.ensures
    ∙ ap (λ (t : NamedTable). number_named c.args.name t.list) c.self.view_is
    ∙ c.requires.new in
    let give : List NamedIdentity → List ℕ → List NamedIdentity = λ list name. list ++ record { name = name; number = c.args.number } ∷ [] in
    record {
      list = ap named_in ((rw c.unwrap.ensures at c.insert.ensures.entries) ∙ insert_entry-new string_eq c.self.inside.numbers key c.args.number none)
          ∙ named_push es (key, c.args.number)
          ∙ (λ j. give (c.self.view_is j).list (c.into_string.ensures j));
    }
