-- What a prefix table is: a finite map from prefixes to numbers, and which number an address finds.
use Rattle.std.specs.Prelude.{◌≡◌, ℕ, ◌≤◌, Option, Some, option_map, IsSome, IsTrue, ◌++◌}
use Rattle.std.specs.Coded.{Coded, coded_ℕ}
use Rattle.std.specs.FinMap.{FinMap, get, entries, code, from_entries}
use Rattle.pol_addr.specs.declared.family.Family.{Family}
use Rattle.pol_addr.specs.Address.{family_of}
use Rattle.pol_addr.specs.declared.address.Addr.{Addr}
use Rattle.pol_addr.specs.declared.network.Prefix.{Prefix}
use Rattle.pol_addr.specs.Longest.{longest_of}
use Rattle.pol_addr.specs.Order.{prefix_cmp, prefix_code}
use Rattle.pol_addr.specs.Prefix.{contains}

-- from prefixes to numbers
abbrev pub PrefixMap : Type 0
PrefixMap = FinMap prefix_cmp ℕ

-- a prefix of the map contains the address
abbrev pub Matches : PrefixMap → Addr → Prefix → Type 0
Matches m addr p = IsSome (get m p) × IsTrue (contains p addr)

-- the number of the longest prefix of the map that contains the address
pub record IsLongestMatch (m : PrefixMap) (addr : Addr) (number : ℕ) : Type 0 where
  pub prefix : Prefix
  pub found : get m prefix ≡ Some number
  pub inside : IsTrue (contains prefix addr)
  pub longest : (p : Prefix) → Matches m addr p → p.len ≤ prefix.len

-- no prefix of the map contains the address
abbrev pub NoneMatches : PrefixMap → Addr → Type 0
NoneMatches m addr = (p : Prefix) → ¬ (Matches m addr p)

-- the number that an address finds: longest-prefix match in its plain form
unfoldable pub look_up : PrefixMap → Addr → Option ℕ
look_up m addr = option_map (λ e. e.1) (longest_of addr (entries m))

-- the entries of both
abbrev pub joined : PrefixMap → PrefixMap → PrefixMap
joined m n = from_entries (entries m ++ entries n)

-- each prefix of the map is of this family
abbrev pub IsOf : Family → PrefixMap → Type 0
IsOf family m = (p : Prefix) → IsSome (get m p) → family_of p.addr ≡ family

-- a table is stored as the list of its entries
abbrev pub table_code : Coded PrefixMap
table_code = code prefix_code coded_ℕ
