use Rattle.std.proofs.Common.{List, ap, subst, ◌∙◌}
use Rattle.std.specs.Arc.{arc_value}
use Rattle.pol_model.specs.declared.row.Endpoint.{Endpoint}
use Rattle.pol_model.specs.Remote.{number_at}
use Rattle.pol_prefixes.specs.Tables.{IsTableOf}
use Rattle.pol_prefixes.specs.AddressTable.{number_in}
use Rattle.pol_store.specs.Store.{Stored}
use Rattle.pol_store.proofs.store.Store.made_addresses.Goals as goal

pub returns : goal.returns
returns c = record {
  tells = record {
    prefixes = arc_value c.in_ok-prefixes.prefixes;
    is = subst (λ (t : Stored). IsTableOf t.state.identities (arc_value c.in_ok-prefixes.prefixes)) c.self.view_is c.in_ok-prefixes.ensures.table;
    numbers = λ others table address.
        ap (number_in address) c.in_ok-new.ensures.ok
        ∙ c.in_ok-addresses.ensures.numbers others table address
        ∙ ap (λ (endpoints : List Endpoint). number_at address endpoints others) (c.as_slice.ensures.list ∙ ap (λ (t : Stored). t.state.endpoints) c.self.view_is);
  };
}
