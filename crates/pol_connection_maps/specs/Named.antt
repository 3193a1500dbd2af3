-- The first of each name, and the number of each prefix, in tables.
use Rattle.std.specs.Prelude.{ℕ, ◌≡◌, List, find, Option, option_map}
use Rattle.std.specs.BTreeMap.{BTreeMap, get}
use Rattle.std.proofs.Common.{Bor}
use Rattle.pol_addr.specs.declared.network.Prefix.{Prefix}
use Rattle.pol_addr.specs.Order.{prefix_cmp}
use Rattle.pol_addr.specs.Prefix.{same_prefix}
use Rattle.pol_model.specs.declared.row.IdentityRow.{IdentityRow}
use Rattle.pol_model.specs.Remote.{numbered_prefixes}
use Rattle.pol_connections.specs.contracts.end.EndNameOrd.TheImpl as end_name
use Rattle.pol_connections.specs.declared.end.EndName.{EndName}
use Rattle.pol_connections.specs.Ends.{same_name}

-- the first that has the name
abbrev pub first_named : {T : Type 0} → (T → EndName) → EndName → List T → Option T
first_named name_of name all = find (λ one. same_name (name_of one) name) all

-- the table has for each name the first that has it
abbrev pub AreFirsts : {T : Type 0} → (T → EndName) → List T → BTreeMap EndName (Bor T) → Type 0
AreFirsts name_of all table = (name : EndName) → option_map (λ one. one.now) (get end_name.ghosts.cmp table name) ≡ first_named name_of name all

-- the number of the first entry of the prefix
abbrev pub number_of : Prefix → List (Prefix × ℕ) → Option ℕ
number_of prefix entries = option_map (λ e. e.1) (find (λ e. same_prefix e.0 prefix) entries)

-- the table has for each prefix the number of its first row
abbrev pub AreNumbersOf : List IdentityRow → BTreeMap Prefix ℕ → Type 0
AreNumbersOf rows table = (prefix : Prefix) → get prefix_cmp table prefix ≡ number_of prefix (numbered_prefixes rows)
