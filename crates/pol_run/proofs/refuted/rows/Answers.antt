use Rattle.std.proofs.Common.{◌≡◌, ◌≤◌, refl, ap, arith}
use Rattle.std.proofs.lemmas.Bool.{false≢true}
use Rattle.pol_model.specs.declared.row.Endpoint.{Endpoint}
use Rattle.pol_run.specs.Spots.{spots_of}
use Rattle.pol_run.specs.Endpoints.{size_at}
use Rattle.pol_run.specs.ExampleLines.{one_entry}
use Rattle.pol_run.specs.WrongRows as wrong
use Rattle.pol_run.proofs.Examples.{web_since, none_is_some, some_same}
use Rattle.pol_run.proofs.refuted.rows.Goals as goal

pub returns-clause-doubled_row : goal.returns-clause-doubled_row
returns-clause-doubled_row c = λ run.
    run.right.1.0.distinct.0.0 (record {
      name = refl;
      added = 1;
      first = record { endpoint = web_since 1; live = record { found = refl }; same = refl };
      second = record { endpoint = web_since 1; live = record { found = refl }; same = refl };
    })

pub returns-clause-doubled_later : goal.returns-clause-doubled_later
returns-clause-doubled_later c = λ run.
    run.right.1.1.0.distinct.1.0.0 (record {
      name = refl;
      added = 1;
      first = record { endpoint = web_since 1; live = record { found = refl }; same = refl };
      second = record { endpoint = web_since 1; live = record { found = refl }; same = refl };
    })

pub returns-clause-unsorted_rows : goal.returns-clause-unsorted_rows
returns-clause-unsorted_rows c = λ run. false≢true run.right.1.1.0.ascend.0

pub returns-clause-unsorted_later : goal.returns-clause-unsorted_later
returns-clause-unsorted_later c = λ run. false≢true run.right.1.1.1.0.ascend.1.0

pub returns-clause-unsorted_revisions : goal.returns-clause-unsorted_revisions
returns-clause-unsorted_revisions c = λ run. false≢true run.right.1.1.1.0.ascend.0

pub returns-clause-other_size : goal.returns-clause-other_size
returns-clause-other_size c = λ run.
    let row = run.right.1.0.rows.0 in
    let size : 2 ≡ size_at one_entry (spots_of wrong.other_size) 1 row.endpoint =
    ap (λ (e : Endpoint). size_at one_entry (spots_of wrong.other_size) 1 e) (some_same (web_since 1) row.endpoint row.live.found) in
    let count : 3 ≡ size_at one_entry (spots_of wrong.other_size) 1 row.endpoint = row.count in
    omega arith

pub returns-clause-older_row : goal.returns-clause-older_row
returns-clause-older_row c = λ run. let since : 2 ≤ 1 = run.right.1.1.0.rows.0.since in omega arith

pub returns-clause-row_ahead : goal.returns-clause-row_ahead
returns-clause-row_ahead c = λ run. let allowed : 2 ≤ 1 = run.right.1.0.rows.0.allowed in omega arith

pub returns-clause-row_of_a_map_that_fits : goal.returns-clause-row_of_a_map_that_fits
returns-clause-row_of_a_map_that_fits c = λ run. false≢true run.right.1.1.0.rows.0.too_many

pub returns-clause-row_of_none : goal.returns-clause-row_of_none
returns-clause-row_of_none c = λ run. none_is_some run.right.0.rows.0.endpoint run.right.0.rows.0.live.found
