use Rattle.std.proofs.Common.{List, ap, ◌++◌, ◌∙◌, map}
use Rattle.std.proofs.lemmas.Result.{on_ok_weaker}
use Rattle.pol_connections.specs.Ends.{by_name}
use Rattle.pol_model.specs.declared.row.Endpoint.{Endpoint}
use Rattle.pol_connection_maps.specs.declared.end_row.EndRow.{EndRow}
use Rattle.pol_connection_maps.specs.EndRows.{number_row}
use Rattle.pol_connection_maps.proofs.Turns.{number_rows}
use Rattle.pol_connection_maps.proofs.end_row.push_endpoints.Goals as goal

pub returns : goal.returns
returns c =
    let old = c.args.out.now.items in
    on_ok_weaker c.push_numbers.result (λ made.
    made ∙ (λ i. old ++ map number_row (c.in_ok-numbers.ensures i))
    ∙ ap (λ (rows : List EndRow). old ++ rows) (number_rows (by_name (λ (e : Endpoint). e.name) c.args.endpoints.now)))
    c.push_numbers.ensures
