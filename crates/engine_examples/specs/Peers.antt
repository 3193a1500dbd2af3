-- Small selectors and rows, for laws that say under what they stand.
use Rattle.std.specs.Prelude.{ℕ, ◌+◌, ◌*◌, ◌^◌, true, List, [], ◌∷◌, codes, map, None, Some}
use Rattle.pol_addr.specs.Address.{addr_of_groups}
use Rattle.pol_addr.specs.Prefix.{prefix_of, world}
use Rattle.pol_addr.specs.declared.address.Addr.TheVariants.{V4}
use Rattle.pol_addr.specs.declared.family.Family.TheVariants.{Ipv4, Ipv6}
use Rattle.pol_addr.specs.declared.network.Prefix.{Prefix}
use Rattle.pol_labels.specs.declared.requirement.Operator.{Operator}
use Rattle.pol_labels.specs.declared.requirement.Operator.TheVariants.{OneOf, Present}
use Rattle.pol_labels.specs.declared.requirement.Requirement.{Requirement}
use Rattle.pol_model.specs.declared.row.IdentityRow.{IdentityRow}
use Rattle.pol_model.specs.Worlds.{reserved_label}
use Rattle.pol_model_laws.specs.Examples.{app, net}

-- `app In [a]`, and the same of a key `tier`; two values; and a key that is there
abbrev pub asks : List ℕ → List (List ℕ) → Requirement
asks key values = record { any_source = true; source = []; key = key; op = OneOf; values = values }

abbrev pub app_a : Requirement
app_a = asks (codes "app") (codes "a" ∷ [])

abbrev pub tier_x : Requirement
tier_x = asks (codes "tier") (codes "x" ∷ [])

abbrev pub app_a_or_b : Requirement
app_a_or_b = asks (codes "app") (codes "a" ∷ codes "b" ∷ [])

abbrev pub has_app : Requirement
has_app = record { any_source = true; source = []; key = codes "app"; op = Present; values = [] }

-- the same values under another operator
abbrev pub with_operator : Operator → Requirement → Requirement
with_operator op requirement = record requirement { op = op }

-- 10.1.0.0/20 and 10.1.0.0/15, whose first whole octets are 10.1.0.0/16 and 10.0.0.0/8
abbrev pub cut : ℕ → Prefix
cut len = record { addr = V4 (10 * 2 ^ 24 + 1 * 2 ^ 16); len = len }

-- 2001:db8:1::, with so many of its first bits
abbrev pub cut_ipv6 : ℕ → Prefix
cut_ipv6 len = prefix_of (addr_of_groups (8193 ∷ 3512 ∷ 1 ∷ 0 ∷ 0 ∷ 0 ∷ 0 ∷ 0 ∷ [])) len

-- what lies outside, of either family and of each; two label sets; a prefix in each of two networks, and one of IPv6
abbrev pub rows : List IdentityRow
rows =
    record { number = 2; labels = reserved_label (codes "world") ∷ []; prefix = None; holders = 1 }
    ∷ record { number = 9; labels = reserved_label (codes "world-ipv4") ∷ []; prefix = Some (world Ipv4); holders = 1 }
    ∷ record { number = 10; labels = reserved_label (codes "world-ipv6") ∷ []; prefix = Some (world Ipv6); holders = 1 }
    ∷ record { number = 256; labels = app (codes "a"); prefix = None; holders = 1 }
    ∷ record { number = 257; labels = app (codes "b"); prefix = None; holders = 1 }
    ∷ record { number = 16777217; labels = reserved_label (codes "world-ipv4") ∷ []; prefix = Some (net 1); holders = 1 }
    ∷ record { number = 16777218; labels = reserved_label (codes "world-ipv4") ∷ []; prefix = Some (net 2); holders = 1 }
    ∷ record { number = 16777219; labels = reserved_label (codes "world-ipv6") ∷ []; prefix = Some (cut_ipv6 48); holders = 1 }
    ∷ []

abbrev pub numbers_of : List IdentityRow → List ℕ
numbers_of some = map (λ row. row.number) some
