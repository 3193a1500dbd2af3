-- How large maps may be, and that rows have room for a change.
use Rattle.std.specs.Prelude.{⊤, ◌≡◌, ℕ, ◌≤◌, List, Some}
use Rattle.indexmap.specs.IndexMap.{IndexMap, get}
use Rattle.pol_data.specs.contracts.text.TextPartialEq.TheImpl as text
use Rattle.pol_model.specs.declared.options.Options.{Options}
use Rattle.pol_board_view.specs.declared.change.FaceChange.{FaceChange}
use Rattle.pol_board_view.specs.declared.change.FaceChange.TheVariants as change
use Rattle.pol_board_view.specs.declared.row.FaceRow.{FaceRow}
use Rattle.pol_board_view.specs.Rows.{RowHasRoom}

-- maps of more than so many entries aren't published
pub record IsLimited (options : Options) : Type 0 where
  pub limit : ℕ
  pub is : options.map_max ≡ Some limit
  pub low : limit ≤ 65536

-- the rows have room for the change
abbrev pub HaveRoom : {S : Type 0} → IndexMap (List ℕ) FaceRow S → FaceChange → Type 0
HaveRoom rows (change.Published name added revision edits addresses) = RowHasRoom (get text.ghosts.eq rows name) edits
HaveRoom rows other = ⊤
