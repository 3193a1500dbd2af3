-- The ends of connections in a state ('profile').
use Rattle.std.specs.Prelude.{ℕ, ◌==◌, Bool, false, List, [], ◌∷◌, ◌++◌, map, filter, find, Option, None, Some}
use Rattle.std.specs.Cmp.Lexicographic.{slice_cmp}
use Rattle.std.specs.Option.{option_map_or}
use Rattle.std.specs.Ordering.{match_ordering, nat_cmp}
use Rattle.std.specs.Str.{bytes_eq}
use Rattle.pol_addr.specs.declared.network.Prefix.{Prefix}
use Rattle.pol_addr.specs.declared.family.Family.TheVariants.{Ipv4}
use Rattle.pol_addr.specs.Prefix.{network_of, same_prefix, world}
use Rattle.pol_labels.specs.declared.label.Label.{Label}
use Rattle.pol_model.specs.declared.row.Endpoint.{Endpoint}
use Rattle.pol_model.specs.declared.row.IdentityRow.{IdentityRow}
use Rattle.pol_model.specs.declared.row.NamedIdentity.{NamedIdentity}
use Rattle.pol_model.specs.Selects.{is_core_number}
use Rattle.pol_model.specs.State.{State}
use Rattle.pol_connections.specs.declared.end.EndName.{EndName}
use Rattle.pol_connections.specs.declared.end.EndName.TheVariants as name
use Rattle.pol_connections.specs.Regions.{region_number}

-- An end of connections: who it is, the number by which other ends see it, and whom its own policy is asked of. Reserved
-- identities and regions have no policy of their own.
pub record End : Type 0 where
  pub name : EndName
  pub number : ℕ
  pub subject : Option Endpoint

-- ---- in the order of names
-- an element in front of the first whose name isn't less
abbrev pub put_by : {A : Type 0} → (A → List ℕ) → A → List A → List A
put_by name x [] = x ∷ []
put_by name x (y ∷ ys) = match_ordering (slice_cmp nat_cmp (name x) (name y)) (x ∷ y ∷ ys) (x ∷ y ∷ ys) (y ∷ put_by name x ys)

unfoldable pub by_name : {A : Type 0} → (A → List ℕ) → List A → List A
by_name name [] = []
by_name name (x ∷ xs) = put_by name x (by_name name xs)

-- ---- each kind of end
abbrev pub endpoint_end : Endpoint → End
endpoint_end endpoint = record { name = name.Endpoint endpoint.name; number = endpoint.identity; subject = Some endpoint }

-- the labels of the number's row
abbrev pub labels_of : ℕ → List IdentityRow → List Label
labels_of number rows = option_map_or (λ row. row.labels) (find (λ row. row.number == number) rows) []

-- A named identity as a subject: an endpoint with its labels. What a verdict asks of an endpoint is its labels, and whether
-- its number is that of `init`; so neither its slot nor its address counts.
abbrev pub named_subject : State → NamedIdentity → Endpoint
named_subject s identity = record {
  name = identity.name;
  slot = 0;
  added = 0;
  labels = labels_of identity.number s.identities;
  identity = identity.number;
  address = network_of (world Ipv4);
}

abbrev pub named_end : State → NamedIdentity → End
named_end s identity = record { name = name.Identity identity.name; number = identity.number; subject = Some (named_subject s identity) }

-- a reserved identity of the cluster's own: what lies outside has regions
abbrev pub stands_alone : IdentityRow → Bool
stands_alone row = is_core_number row.number

abbrev pub reserved_end : IdentityRow → End
reserved_end row = record { name = name.Reserved row.number; number = row.number; subject = None }

abbrev pub region_end : State → Prefix → End
region_end s region = record { name = name.Region region; number = region_number region s.identities; subject = None }

-- The ends of a state: its endpoints and its named identities, each by name, then the reserved identities but those of the
-- worlds, by number, and then the regions.
unfoldable pub ends_of : List Prefix → State → List End
ends_of regions s =
    map endpoint_end (by_name (λ endpoint. endpoint.name) s.endpoints)
    ++ map (named_end s) (by_name (λ identity. identity.name) s.named)
    ++ map reserved_end (filter stands_alone s.identities)
    ++ map (region_end s) regions

-- ---- the same end in another state
abbrev pub same_name : EndName → EndName → Bool
same_name (name.Endpoint a) (name.Endpoint b) = bytes_eq a b
same_name (name.Identity a) (name.Identity b) = bytes_eq a b
same_name (name.Reserved a) (name.Reserved b) = a == b
same_name (name.Region a) (name.Region b) = same_prefix a b
same_name _ _ = false

abbrev pub end_of : EndName → List End → Option End
end_of name ends = find (λ end. same_name end.name name) ends
