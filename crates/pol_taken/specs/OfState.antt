-- What is taken of a state for the endpoint of a slot.
use Rattle.std.specs.Prelude.{ℕ, ◌≡◌, nat_eq, map, Some}
use Rattle.std.specs.Arc.{arc_value}
use Rattle.std.specs.List.{AllByRecursion, Contains, IsDistinct}
use Rattle.pol_addr.specs.declared.address.Addr.{Addr}
use Rattle.pol_rule.specs.contracts.policy.PeerPartialEq.TheImpl as peer
use Rattle.pol_model.specs.declared.options.Options.{Options}
use Rattle.pol_model.specs.Remote.{number_at}
use Rattle.pol_model.specs.Selects.{set_at}
use Rattle.pol_model.specs.State.{State}
use Rattle.pol_tables.specs.Tables.{endpoint_in}
use Rattle.pol_distill.specs.Distilled.{filters_at}
use Rattle.pol_distill.specs.Sorted.{HaveSets}
use Rattle.pol_prefixes.specs.AddressTable.{number_in}
use Rattle.pol_taken.specs.declared.taken.Taken.{Taken}
use Rattle.pol_taken.specs.PeerRows.{filter_peers}

-- It has the state's revision, the endpoint, and the filters that the state gives it. Each peer that these list has its row,
-- each row is of one of them, no two are of one peer or have one selector, and each has the set that the state gives its
-- peer. Each address has the number that it has in the state.
pub record IsTakenOf (options : Options) (s : State) (slot : ℕ) (taken : Taken) : Type 0 where
  pub revision : taken.revision ≡ s.revision
  pub endpoint : endpoint_in slot s.endpoints ≡ Some taken.endpoint
  pub filters : arc_value taken.filters ≡ filters_at options s taken.endpoint
  pub every : HaveSets taken.sets (arc_value taken.filters)
  pub listed : AllByRecursion (λ row. Contains (filter_peers (arc_value taken.filters)) row.peer) taken.sets
  pub apart : IsDistinct peer.ghosts.eq (map (λ row. row.peer) taken.sets)
  pub selectors : IsDistinct nat_eq (map (λ row. row.selector) taken.sets)
  pub sets : AllByRecursion (λ row. arc_value row.set ≡ set_at s.identities row.peer) taken.sets
  pub addresses : (address : Addr) → number_in address (arc_value taken.addresses) ≡ number_at address s.endpoints s.identities
