-- The numbers that come as prefixes are held, in turn. No public clause cites this module.
use Rattle.std.specs.Prelude.{ℕ, List, [], ◌∷◌, Option, None, Some}
use Rattle.std.specs.List.{cons_option}
use Rattle.pol_addr.specs.declared.network.Prefix.{Prefix}
use Rattle.pol_model.specs.declared.limits.TheConstants.{LOCAL_FIRST}
use Rattle.pol_model.specs.declared.row.IdentityRow.{IdentityRow}
use Rattle.pol_model.specs.Identities.{free_number}
use Rattle.pol_model.specs.Prefixes.{number_of_prefix, prefix_held}

abbrev pub unless_there : Option ℕ → ℕ → Option ℕ
unless_there (Some own) number = None
unless_there None number = Some number

-- the number that a prefix takes, where it has none
abbrev pub coming : Prefix → List IdentityRow → Option ℕ
coming prefix rows = unless_there (number_of_prefix prefix rows) (free_number LOCAL_FIRST rows)

-- those of one prefix after another
abbrev pub all_coming : List Prefix → List IdentityRow → List ℕ
all_coming [] rows = []
all_coming (prefix ∷ others) rows = cons_option (coming prefix rows) (all_coming others (prefix_held prefix rows))
