-- How the parts of a filing and of headings are seen. No public clause cites this module.
use Rattle.std.specs.Prelude.{ℕ, ◌+◌, ◌/◌, ◌%◌, ◌==◌, ◌&&◌, nat_lt, Bool, false, List, map, Option}
use Rattle.std.specs.Option.{option_map_or}
use Rattle.std.specs.BTreeSet.{BTreeSet}
use Rattle.pol_addr.specs.Prefix.{covers}
use Rattle.pol_addr.specs.declared.network.Prefix.{Prefix}
use Rattle.pol_headings.specs.declared.heading.Heading.{Heading}
use Rattle.pol_headings.specs.declared.heading.Heading.TheVariants as heading
use Rattle.pol_headings.specs.Filed.{Drawers}

abbrev pub Entries : Type 0
Entries = List (Heading × BTreeSet ℕ)

abbrev pub drawers_of : Entries → Drawers
drawers_of entries = map (λ e. (e.0, e.1.keys)) entries

-- the heading is one of the prefixes of fewer whole octets than `count` around the prefix
abbrev pub is_octets : Prefix → ℕ → Heading → Bool
is_octets prefix count (heading.Label key value) = false
is_octets prefix count (heading.Prefix within) = (within.len % 8 == 0) && nat_lt (within.len / 8) count && covers within prefix
is_octets prefix count heading.Any = false

-- the same of each, where there is a prefix
abbrev pub stands_in_octets : Option Prefix → Heading → Bool
stands_in_octets prefix other = option_map_or (λ own. is_octets own (own.len / 8 + 1) other) prefix false
