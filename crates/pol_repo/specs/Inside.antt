-- How the parts of a repository fit together. No public clause cites this module.
use Rattle.std.specs.Prelude.{ℕ, ◌-◌, ◌<◌, ◌^◌, List, [], Option, None, Some, option_map}
use Rattle.std.specs.Option.{option_map_or}
use Rattle.pol_labels.specs.declared.label.Label.{Label}
use Rattle.pol_model.specs.declared.options.Options.{Options}
use Rattle.pol_model.specs.declared.request.Request.{Request}
use Rattle.pol_model.specs.declared.request.Request.TheVariants.{AddEndpoint, RemoveEndpoint, AddIdentity, RemoveIdentity, Apply, Remove, SetMode}
use Rattle.pol_model.specs.declared.row.IdentityRow.{IdentityRow}
use Rattle.pol_model.specs.After.{state_of}
use Rattle.pol_model.specs.State.{State}
use Rattle.pol_model_laws.specs.Holding.{row_of}
use Rattle.pol_model_laws.specs.WithoutFaults.{WithoutFaults}
use Rattle.pol_requests.specs.declared.prepared.TableChange.{TableChange}
use Rattle.pol_requests.specs.declared.prepared.TableChange.TheVariants as change
use Rattle.pol_requests.specs.declared.prepared.Prepared.{Prepared}
use Rattle.pol_requests.specs.Prepared.{IsPrepared}
use Rattle.pol_store.specs.Store.{StandsFor, Stored}
use Rattle.pol_set_moves.specs.Chained.{IsChained, IsChainedBefore}
use Rattle.pol_repo.specs.Repository.{Repository}

-- the labels of the number's row, none where it has none
abbrev pub labels_of : ℕ → List IdentityRow → List Label
labels_of number rows = option_map_or (λ row. row.labels) (row_of number rows) []

-- the request that asks for the change, where these are the rows with what it holds
abbrev pub request_of : List IdentityRow → TableChange → Request
request_of rows (change.Endpoint endpoint name) = AddEndpoint endpoint.name endpoint.labels endpoint.address
request_of rows (change.NoEndpoint name number) = RemoveEndpoint name
request_of rows (change.Named name number) = AddIdentity name (labels_of number rows)
request_of rows (change.NotNamed name number) = RemoveIdentity name
request_of rows (change.Policy stamped key taken given_up) = Apply stamped.policy
request_of rows (change.NoPolicy key given_up) = Remove key
request_of rows (change.Mode mode) = SetMode mode

-- what parts like these are seen as
abbrev pub seen_as : Options → List Request → Stored → Option Prepared → Repository
seen_as options journal stored prepared = record {
  options = options;
  journal = journal;
  prepared = option_map (λ prepared. request_of stored.state.identities prepared.change) prepared;
}

-- Some request is prepared in the state, whose revision isn't the last one, and the journal, with so many requests and room
-- for so many, has room for it.
pub record HasPrepared (s : State) (len capacity : ℕ) (stored : Stored) (prepared : Prepared) : Type 0 where
  pub request : Request
  pub is_prepared : IsPrepared s request stored prepared
  pub not_last : s.revision < 2 ^ 64 - 1
  pub room : len < capacity

-- the store stands for the state, or a request is prepared there
abbrev pub IsIn : State → (len capacity : ℕ) → Stored → Option Prepared → Type 0
IsIn s len capacity stored None = StandsFor s stored
IsIn s len capacity stored (Some prepared) = HasPrepared s len capacity stored prepared

-- the requests so far commit one after another, and the store is in the state that they make
pub record IsSound (options : Options) (journal : List Request) (len capacity : ℕ) (stored : Stored) (prepared : Option Prepared) : Type 0 where
  pub without_faults : WithoutFaults options journal
  pub inside : IsIn (state_of options journal) len capacity stored prepared

-- What the selectors tell of each revision since: the list has for each the number that the next new selector would have
-- taken. While a request is prepared, it is that of the selectors before, and there is room for one more.
abbrev pub IsTold : Options → List Request → List ℕ → (many room : ℕ) → Stored → Option Prepared → Type 0
IsTold options journal nexts many room stored None = IsChained options journal nexts stored.cache
IsTold options journal nexts many room stored (Some prepared) = IsChainedBefore options journal nexts stored.cache × (many < room)
