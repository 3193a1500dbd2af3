-- The number that goes where a prefix is released. No public clause cites this module.
use Rattle.std.specs.Prelude.{ℕ, ◌==◌, ◌&&◌, Bool, false, if◌then◌else◌, List, Option, None, Some}
use Rattle.std.specs.Option.{option_and_then, option_map_or}
use Rattle.pol_addr.specs.declared.network.Prefix.{Prefix}
use Rattle.pol_model.specs.declared.row.IdentityRow.{IdentityRow}
use Rattle.pol_model.specs.Identities.{is_local}
use Rattle.pol_model.specs.Prefixes.{number_of_prefix}
use Rattle.pol_model_laws.specs.Holding.{row_of}

-- the number isn't a reserved one, and has one holder
abbrev pub has_last : ℕ → List IdentityRow → Bool
has_last number rows = is_local number && option_map_or (λ row. row.holders == 1) (row_of number rows) false

abbrev pub going : Prefix → List IdentityRow → Option ℕ
going prefix rows = option_and_then (λ number. if has_last number rows then Some number else None) (number_of_prefix prefix rows)
