-- Numbers that come with some rows, or go with them.
use Rattle.std.specs.Prelude.{ℕ, ◌≡◌, ◌&&◌, not, List}
use Rattle.pol_set_changes.specs.Ids.{has}
use Rattle.pol_model.specs.declared.row.IdentityRow.{IdentityRow}
use Rattle.pol_model_laws.specs.Holding.{has_row}

-- these are the numbers that have a row among `more` and none among `rows`
abbrev pub AreBeyond : List IdentityRow → List IdentityRow → List ℕ → Type 0
AreBeyond rows more numbers = (number : ℕ) → has number numbers ≡ (has_row number more && not (has_row number rows))
