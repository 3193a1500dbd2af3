-- Regions of addresses outside the endpoints, of both families ('profile').
use Rattle.std.specs.Prelude.{ℕ, List, [], ◌∷◌, ◌++◌, map, Option, None, option_map, if◌then◌else◌}
use Rattle.std.specs.BTreeSet.{insert_key}
use Rattle.std.specs.Option.{option_map_or}
use Rattle.pol_addr.specs.declared.address.Addr.{Addr}
use Rattle.pol_addr.specs.declared.network.Prefix.{Prefix}
use Rattle.pol_addr.specs.Longest.{longer, longest_of}
use Rattle.pol_addr.specs.Order.{prefix_cmp}
use Rattle.pol_addr.specs.Prefix.{covers}
use Rattle.pol_model.specs.declared.row.IdentityRow.{IdentityRow}
use Rattle.pol_model.specs.Remote.{numbered_prefixes}
use Rattle.pol_model.specs.Worlds.{world_around}

-- the prefixes that have rows; those of both worlds are always among them
abbrev pub held_prefixes : List IdentityRow → List Prefix
held_prefixes rows = map (λ held. held.0) (numbered_prefixes rows)

-- The regions of two states: each prefix that either holds, once and in order: those of IPv4 first.
unfoldable pub prefixes_in_order : List Prefix → List Prefix
prefixes_in_order [] = []
prefixes_in_order (prefix ∷ others) = insert_key prefix_cmp (prefixes_in_order others) prefix

abbrev pub regions_of : List IdentityRow → List IdentityRow → List Prefix
regions_of before after = prefixes_in_order (held_prefixes before ++ held_prefixes after)

-- the region of an address: the longest that contains it
abbrev pub region_of : Addr → List Prefix → Option Prefix
region_of address regions = option_map (λ found. found.0) (longest_of address (map (λ region. (region, 0)) regions))

-- the longest entry whose prefix covers the region
abbrev pub longest_over : Prefix → List (Prefix × ℕ) → Option (Prefix × ℕ)
longest_over region [] = None
longest_over region (e ∷ es) = if covers e.0 region then longer e (longest_over region es) else longest_over region es

-- The number that a region's addresses have in a state: that of the longest held prefix around the region.
abbrev pub region_number : Prefix → List IdentityRow → ℕ
region_number region rows = option_map_or (λ found. found.1) (longest_over region (numbered_prefixes rows)) (world_around region).identity
