-- What is taken of the store of a repository is what is taken of its state.
use Rattle.std.proofs.Common.{◌≡◌, ℕ, true, List, Option, Some, sym, subst}
use Rattle.std.specs.List.{AllByRecursion}
use Rattle.pol_data.proofs.Every.{every-weaker}
use Rattle.pol_sets.specs.declared.sets.Move.{Move}
use Rattle.pol_sets.specs.declared.sets.SetRow.{SetRow}
use Rattle.pol_model.specs.declared.options.Options.{Options}
use Rattle.pol_model.specs.declared.row.Stamped.{Stamped}
use Rattle.pol_model.specs.State.{State}
use Rattle.pol_selcache.specs.Live.{Live, is_live, number_of}
use Rattle.pol_peers.specs.References.{RefsOf}
use Rattle.pol_peers.proofs.Found.{number_lives}
use Rattle.pol_taken.specs.declared.taken.Taken.{Taken}
use Rattle.pol_taken.specs.OfState.{IsTakenOf}
use Rattle.pol_store.specs.Store.{StandsFor, Stored, peers_of}
use Rattle.pol_repo.specs.Repository.{Repository, state_in}

pub refs_of : (stored : Stored) (self : Repository) → StandsFor (state_in self) stored → RefsOf (peers_of stored.state.policies) stored.cache.live
refs_of stored self stands = subst (λ (policies : List Stamped). RefsOf (peers_of policies) stored.cache.live) (sym stands.like.policies) stands.refs

-- what is taken is so with any moves
pub with_moves : (options : Options) (s : State) (slot : ℕ) (taken : Taken) (moves : Option (List Move)) → IsTakenOf options s slot taken → IsTakenOf options s slot (record taken { moves = moves })
with_moves options s slot taken moves is = record {
  revision = is.revision;
  endpoint = is.endpoint;
  filters = is.filters;
  every = is.every;
  listed = is.listed;
  apart = is.apart;
  selectors = is.selectors;
  sets = is.sets;
  addresses = is.addresses;
}

-- rows of live selectors
pub rows_live : (live : List Live) (rows : List SetRow) → AllByRecursion (λ row. number_of row.peer live ≡ Some row.selector) rows → AllByRecursion (λ row. is_live row.selector live ≡ true) rows
rows_live live rows are = every-weaker (λ row. number_of row.peer live ≡ Some row.selector) (λ row. is_live row.selector live ≡ true) (λ row is. number_lives row.peer live row.selector is) rows are
