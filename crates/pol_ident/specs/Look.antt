-- What rows tell of a number and of a prefix.
use Rattle.std.specs.Prelude.{ℕ, Bool, false, List, Option, option_map}
use Rattle.std.specs.Option.{option_and_then, option_map_or}
use Rattle.pol_addr.specs.declared.network.Prefix.{Prefix}
use Rattle.pol_labels.specs.declared.label.Label.{Label}
use Rattle.pol_model.specs.declared.limits.TheConstants.{LOCAL_FIRST}
use Rattle.pol_model.specs.declared.row.IdentityRow.{IdentityRow}
use Rattle.pol_model.specs.Identities.{free_number, or_free}
use Rattle.pol_model.specs.Prefixes.{number_of_prefix}
use Rattle.pol_model.specs.Selects.{selects_row}
use Rattle.pol_rule.specs.declared.policy.Peer.{Peer}
use Rattle.pol_model_laws.specs.Holding.{row_of}

-- the labels of the number, where it has a row
abbrev pub labels_at : ℕ → List IdentityRow → Option (List Label)
labels_at number rows = option_map (λ row. row.labels) (row_of number rows)

-- the prefix of the number, where it has a row and that has one
abbrev pub prefix_at : ℕ → List IdentityRow → Option Prefix
prefix_at number rows = option_and_then (λ row. row.prefix) (row_of number rows)

-- the number that a prefix takes: its own, else the least free one of the prefixes'
abbrev pub number_for_prefix : Prefix → List IdentityRow → ℕ
number_for_prefix prefix rows = or_free (number_of_prefix prefix rows) (free_number LOCAL_FIRST rows)

-- the number has a row, and the peer selects it
abbrev pub selects_held : List IdentityRow → Peer → ℕ → Bool
selects_held rows p number = option_map_or (selects_row p) (row_of number rows) false
