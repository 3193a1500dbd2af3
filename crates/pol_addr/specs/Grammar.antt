-- The grammar of addresses and prefixes: relations between a text and its value, apart from any reader.
use Rattle.std.specs.Prelude.{◌≡◌, ℕ, ◌+◌, ◌-◌, ◌<◌, ◌≤◌, List, [], ◌∷◌, ◌++◌, codes, length, replicate}
use Rattle.std.specs.Fmt.{decimal}
use Rattle.std.specs.Net.Grammar.{IsGroup}
use Rattle.pol_addr.specs.Address.{Addr, addr_of_groups, addr_of_octets, width_of}
use Rattle.pol_addr.specs.Prefix.{Prefix, host_prefix, prefix_of}

-- four decimal numbers of 0 to 255 without leading zeros, joined by dots
pub record WritesOctets (text : List ℕ) (addr : Addr) : Type 0 where
  pub a : ℕ
  pub b : ℕ
  pub c : ℕ
  pub d : ℕ
  pub octets : (a ≤ 255) × (b ≤ 255) × (c ≤ 255) × (d ≤ 255)
  pub written : text ≡ decimal a ++ codes "." ++ decimal b ++ codes "." ++ decimal c ++ codes "." ++ decimal d
  pub value : addr ≡ addr_of_octets a b c d

-- Groups, each behind a colon. A group is one to four hexadecimal digits of either case (`IsGroup`).
abbrev pub WritesMore : List ℕ → List ℕ → Type 0
WritesMore text [] = text ≡ []
WritesMore text (group ∷ more) = (digits rest : List ℕ) × (text ≡ codes ":" ++ digits ++ rest) × IsGroup digits group × WritesMore rest more

-- groups joined by colons, or nothing
abbrev pub WritesGroups : List ℕ → List ℕ → Type 0
WritesGroups text [] = text ≡ []
WritesGroups text (group ∷ more) = (digits rest : List ℕ) × (text ≡ digits ++ rest) × IsGroup digits group × WritesMore rest more

-- all eight groups, joined by colons
pub record WritesEight (text groups : List ℕ) : Type 0 where
  pub written : WritesGroups text groups
  pub eight : length groups ≡ 8

-- fewer, and `::` for the rest, which is one group of zeros or more, before, behind or between them
pub record WritesFewer (text groups : List ℕ) : Type 0 where
  pub front_text : List ℕ
  pub back_text : List ℕ
  pub front : List ℕ
  pub back : List ℕ
  pub written : text ≡ front_text ++ codes "::" ++ back_text
  pub before : WritesGroups front_text front
  pub behind : WritesGroups back_text back
  pub fewer : length front + length back < 8
  pub value : groups ≡ front ++ replicate (8 - length front - length back) 0 ++ back

-- the groups of an IPv6 address (RFC 4291, section 2.2)
pub data WritesV6 (text groups : List ℕ) : Type 0 where
  eight : WritesEight text groups → WritesV6 text groups
  fewer : WritesFewer text groups → WritesV6 text groups

-- the IPv6 address of those groups
pub record WritesHex (text : List ℕ) (addr : Addr) : Type 0 where
  pub groups : List ℕ
  pub written : WritesV6 text groups
  pub value : addr ≡ addr_of_groups groups

-- an address of either family
pub data WritesAddr (text : List ℕ) (addr : Addr) : Type 0 where
  dotted : WritesOctets text addr → WritesAddr text addr
  hex : WritesHex text addr → WritesAddr text addr

-- an address alone, which is a prefix of the greatest length
pub record WritesBare (text : List ℕ) (p : Prefix) : Type 0 where
  pub addr : Addr
  pub address : WritesAddr text addr
  pub value : p ≡ host_prefix addr

-- an address, a slash, and a length of 0 to 32, or to 128, in decimal without leading zeros; host bits are cleared
pub record WritesPair (text : List ℕ) (p : Prefix) : Type 0 where
  pub addr_text : List ℕ
  pub addr : Addr
  pub len : ℕ
  pub address : WritesAddr addr_text addr
  pub len_in_range : len ≤ width_of addr
  pub written : text ≡ addr_text ++ codes "/" ++ decimal len
  pub value : p ≡ prefix_of addr len

pub data WritesPrefix (text : List ℕ) (p : Prefix) : Type 0 where
  bare : WritesBare text p → WritesPrefix text p
  pair : WritesPair text p → WritesPrefix text p
