-- What each state keeps, whatever requests commit: identities, endpoints, named identities and policies fit together.
-- `state_laws::states_keep` says that each state does, and `row_laws::rows_keep` the same of rows of identities alone.
use Rattle.std.specs.Prelude.{ℕ, ◌≡◌, ◌+◌, ◌==◌, ◌<◌, ◌≤◌, ◌⊎◌, Bool, true, false, List, length, take, drop, map, count_by, Option, None, Some}
use Rattle.std.specs.List.{AllByRecursion, Contains, IsDistinct, list_any}
use Rattle.std.specs.Str.{bytes_eq}
use Rattle.pol_addr.specs.Address.{IsAddr, same_addr}
use Rattle.pol_addr.specs.Cidr.{IsPrefix}
use Rattle.pol_addr.specs.declared.network.Prefix.{Prefix}
use Rattle.pol_addr.specs.Prefix.{same_prefix}
use Rattle.pol_labels.specs.Order.{IsLabelSet}
use Rattle.pol_rule.specs.Keys.{same_key}
use Rattle.pol_rule.specs.Prefixes.{policy_prefixes}
use Rattle.pol_model.specs.declared.limits.TheConstants.{CLUSTER_FIRST, CLUSTER_LAST, ENDPOINTS_MAX, INIT_IDENTITY, LOCAL_FIRST, LOCAL_LAST, RESERVED_LAST}
use Rattle.pol_model.specs.declared.row.Endpoint.{Endpoint}
use Rattle.pol_model.specs.declared.row.IdentityRow.{IdentityRow}
use Rattle.pol_model.specs.declared.row.NamedIdentity.{NamedIdentity}
use Rattle.pol_model.specs.declared.row.Stamped.{Stamped}
use Rattle.pol_model.specs.Ascending.{Ascends}
use Rattle.pol_model.specs.Fault.{has_reserved}
use Rattle.pol_model_laws.specs.Holding.{row_of, is_held}
use Rattle.pol_model.specs.Identities.{is_local, reserved_identities}
use Rattle.pol_model.specs.State.{State}
use Rattle.pol_model.specs.Worlds.{world_around, world_labels}

-- a number that label sets take
abbrev pub IsClusterNumber : ℕ → Type 0
IsClusterNumber number = (CLUSTER_FIRST ≤ number) × (number ≤ CLUSTER_LAST)

-- the row of a label set
pub record IsClusterRow (row : IdentityRow) : Type 0 where
  pub number : IsClusterNumber row.number
  pub label_set : IsLabelSet row.labels
  pub not_reserved : has_reserved row.labels ≡ false
  pub no_prefix : row.prefix ≡ None

-- the row of a prefix
pub record IsLocalRow (row : IdentityRow) : Type 0 where
  pub from : LOCAL_FIRST ≤ row.number
  pub upto : row.number ≤ LOCAL_LAST
  pub own : Prefix
  pub prefix : row.prefix ≡ Some own
  pub within : IsPrefix own
  pub labels : row.labels ≡ world_labels (world_around own)

-- the policy names the prefix; without a prefix there is nothing to name
abbrev pub names_prefix : Option Prefix → Stamped → Bool
names_prefix None stamped = false
names_prefix (Some prefix) stamped = list_any (same_prefix prefix) (policy_prefixes stamped.policy)

-- how many hold the row: endpoints and named identities by its number, policies by its prefix
abbrev pub holders_of : State → IdentityRow → ℕ
holders_of s row =
    count_by (λ endpoint. endpoint.identity == row.number) s.endpoints
    + count_by (λ identity. identity.number == row.number) s.named
    + count_by (names_prefix row.prefix) s.policies

-- rows of a label set, which have no prefix of their own, have different labels
abbrev pub LabelsDiffer : List IdentityRow → Type 0
LabelsDiffer rows =
    (one other : IdentityRow) → Contains rows one → Contains rows other
    → is_local one.number ≡ false → is_local other.number ≡ false → one.labels ≡ other.labels → one ≡ other

-- rows of a prefix have different prefixes
abbrev pub PrefixesDiffer : List IdentityRow → Type 0
PrefixesDiffer rows =
    (one other : IdentityRow) (prefix : Prefix) → Contains rows one → Contains rows other
    → one.prefix ≡ Some prefix → other.prefix ≡ Some prefix → one ≡ other

-- What the rows of identities keep, whatever is held and released: the first are the reserved ones, as at the start,
-- and the others are of label sets and of prefixes.
pub record KeepsRows (rows : List IdentityRow) : Type 0 where
  pub reserved : take RESERVED_LAST rows ≡ reserved_identities
  pub kinds : AllByRecursion (λ row. IsClusterRow row ⊎ IsLocalRow row) (drop RESERVED_LAST rows)
  pub held : AllByRecursion (λ row. 0 < row.holders) rows
  pub numbers : Ascends (map (λ row. row.number) rows)
  pub labels : LabelsDiffer rows
  pub prefixes : PrefixesDiffer rows

-- a live endpoint: the row of its number has its labels and no prefix
pub record IsLiveIn (s : State) (endpoint : Endpoint) : Type 0 where
  pub added : (0 < endpoint.added) × (endpoint.added ≤ s.revision)
  pub slot : endpoint.slot < ENDPOINTS_MAX
  pub label_set : IsLabelSet endpoint.labels
  pub address : IsAddr endpoint.address
  pub number : (endpoint.identity ≡ INIT_IDENTITY) ⊎ IsClusterNumber endpoint.identity
  pub row : IdentityRow
  pub there : row_of endpoint.identity s.identities ≡ Some row
  pub labels : row.labels ≡ endpoint.labels
  pub no_prefix : row.prefix ≡ None

-- a named identity: its number has a row, which is a label set's
pub record IsNamedIn (s : State) (identity : NamedIdentity) : Type 0 where
  pub row : IdentityRow
  pub there : row_of identity.number s.identities ≡ Some row
  pub cluster : IsClusterRow row

-- a policy in force: each prefix that it names is held
pub record IsInForceIn (s : State) (stamped : Stamped) : Type 0 where
  pub stamp : (0 < stamped.stamp) × (stamped.stamp ≤ s.revision)
  pub within : AllByRecursion IsPrefix (policy_prefixes stamped.policy)
  pub held : AllByRecursion (λ prefix. is_held prefix s.identities ≡ true) (policy_prefixes stamped.policy)

-- What each state keeps. The rows behind the reserved ones count their holders; names, keys, slots and addresses are
-- each once; and there are no more of what holds numbers than there were requests.
pub record Keeps (s : State) : Type 0 where
  pub identities : KeepsRows s.identities
  pub holders : AllByRecursion (λ row. row.holders ≡ holders_of s row) (drop RESERVED_LAST s.identities)
  pub endpoints : AllByRecursion (IsLiveIn s) s.endpoints
  pub slots : Ascends (map (λ endpoint. endpoint.slot) s.endpoints)
  pub endpoint_names : IsDistinct bytes_eq (map (λ endpoint. endpoint.name) s.endpoints)
  pub addresses : IsDistinct same_addr (map (λ endpoint. endpoint.address) s.endpoints)
  pub named : AllByRecursion (IsNamedIn s) s.named
  pub identity_names : IsDistinct bytes_eq (map (λ identity. identity.name) s.named)
  pub policies : AllByRecursion (IsInForceIn s) s.policies
  pub keys : IsDistinct same_key (map (λ stamped. stamped.policy.key) s.policies)
  pub few : length s.endpoints + length s.named + length s.policies ≤ s.revision
