-- How the parts of a store fit together. No public clause cites this module.
use Rattle.std.specs.Prelude.{◌≡◌, List, [], ◌∷◌, IfSome, Option, None, map}
use Rattle.std.specs.Arc.{arc_value}
use Rattle.std.specs.declared.sync.Arc.{Arc}
use Rattle.pol_addr.specs.declared.address.Addr.{Addr}
use Rattle.pol_addr.specs.declared.network.Prefix.{Prefix}
use Rattle.pol_model.specs.declared.row.Endpoint.{Endpoint}
use Rattle.pol_model.specs.declared.row.IdentityRow.{IdentityRow}
use Rattle.pol_model.specs.Ascending.{Ascends}
use Rattle.pol_model.specs.Remote.{number_at}
use Rattle.pol_selcache.specs.Cache.{Cache}
use Rattle.pol_selcache.specs.Live.{AreExact}
use Rattle.pol_kept_filters.specs.declared.kept.Kept.{Kept}
use Rattle.pol_kept_filters.specs.Kept.{AreListedIn}
use Rattle.pol_prefix_table.specs.Table.{PrefixMap}
use Rattle.pol_prefixes.specs.Tables.{IsTableOf}
use Rattle.pol_prefixes.specs.AddressTable.{AddressTable, number_in}

-- The table tells what each address is, wherever the prefixes have the numbers that they have in these rows.
pub record TellsAddresses (endpoints : List Endpoint) (rows : List IdentityRow) (addresses : AddressTable) : Type 0 where
  pub prefixes : PrefixMap
  pub is : IsTableOf rows prefixes
  pub numbers : (others : List IdentityRow) → IsTableOf others prefixes → (address : Addr) → number_in address addresses ≡ number_at address endpoints others

-- so the table that is kept, if there is one
abbrev pub Told : {Z : Type 0} → List Endpoint → List IdentityRow → Option (Arc AddressTable Z) → Type 0
Told endpoints rows told = IfSome told (λ addresses. TellsAddresses endpoints rows (arc_value addresses))

-- What is left of what is kept where these prefixes come or go: all of it where there are none.
abbrev pub left_by : {A : Type 0} → List Prefix → Option A → Option A
left_by [] kept = kept
left_by (_ ∷ _) kept = None

-- What is kept is listed in the cache, whose sets are exact over the rows of some identities.
pub record IsKeptIn (cache : Cache) (kept : List Kept) : Type 0 where
  pub identities : List IdentityRow
  pub ascend : Ascends (map (λ row. row.number) identities)
  pub exact : AreExact identities cache.live
  pub listed : AreListedIn cache kept
