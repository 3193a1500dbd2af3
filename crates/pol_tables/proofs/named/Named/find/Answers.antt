use Rattle.std.proofs.Common.{sym, ap, ◌∙◌}
use Rattle.pol_tables.specs.Tables.{NamedTable, number_named}
use Rattle.pol_tables.proofs.NamedNumbers.{number_found}
use Rattle.pol_tables.proofs.named.Named.find.Goals as goal

pub returns-in-Some : goal.returns-in-Some
returns-in-Some c = record {
  found = c.in-Some.ensures.value
      ∙ sym (number_found c.args.name.now c.self.inside.numbers.entries)
      ∙ ap (λ (t : NamedTable). number_named c.args.name.now t.list) c.self.view_is;
}

pub returns-in-None : goal.returns-in-None
returns-in-None c = record {
  found = c.in-None.ensures.value
      ∙ sym (number_found c.args.name.now c.self.inside.numbers.entries)
      ∙ ap (λ (t : NamedTable). number_named c.args.name.now t.list) c.self.view_is;
}
