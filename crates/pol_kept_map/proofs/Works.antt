-- A work of its own filters and rows.
use Rattle.std.proofs.Common.{◌≡◌, List, [], ◌∷◌, refl, sym, subst}
use Rattle.std.specs.List.{AllByRecursion}
use Rattle.pol_mapkey.specs.Entries.{Entry}
use Rattle.pol_rule.specs.declared.policy.Peer.{Peer}
use Rattle.pol_rule.specs.declared.policy.Peers.{Peers}
use Rattle.pol_rule.specs.declared.policy.Peers.TheVariants.{Every, Listed}
use Rattle.pol_model.specs.PolicyMap.{raw_entries}
use Rattle.pol_sets.specs.declared.sets.SetRow.{SetRow}
use Rattle.pol_sets.specs.Sets.{set_given}
use Rattle.pol_filters.specs.declared.filter.Filter.{Filter}
use Rattle.pol_filters.specs.declared.filter.Filters.{Filters}
use Rattle.pol_filters.specs.FilterParts.{filter_parts}
use Rattle.pol_distill.specs.Distilled.{distilled}
use Rattle.pol_distill.specs.Sorted.{IsTable}
use Rattle.pol_distill.proofs.OnePass.{canonical_is_table}
use Rattle.pol_kept_map.specs.Work.{AllListed, AllOfPeers, IsWorkOf}

every : {X : Type 0} (P : X → Type 0) → ((x : X) → P x) → (xs : List X) → AllByRecursion P xs
every P holds [] = tt
every P holds (x ∷ xs) = (holds x, every P holds xs)

module _ (P : Peer → Type 0) (holds : (p : Peer) → P p) where
  of_peers : (peers : Peers) → AllOfPeers P peers
  of_peers Every = tt
  of_peers (Listed peers) = every P holds peers

  pub of_listed : (filters : Filters) → AllListed P filters
  of_listed filters = record {
    ingress = every (λ (one : Filter). AllOfPeers P one.peers) (λ one. of_peers one.peers) filters.ingress;
    egress = every (λ (one : Filter). AllOfPeers P one.peers) (λ one. of_peers one.peers) filters.egress;
  }

-- ---- works
pub fresh : (filters : Filters) (rows : List SetRow) → IsWorkOf filters rows (record { filters = filters; rows = rows })
fresh filters rows = record { same = refl; agrees = of_listed (λ p. set_given rows p ≡ set_given rows p) (λ p. refl) filters }

-- what is kept as a work's map is a table
pub is_table : (entries : List Entry) (filters : Filters) (rows : List SetRow) → entries ≡ distilled filters rows → IsTable entries
is_table entries filters rows same = subst IsTable (sym same) (canonical_is_table (raw_entries (set_given rows) (filter_parts filters)))
