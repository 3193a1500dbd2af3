-- How many filters give a key.
use Rattle.std.specs.Prelude.{ℕ, ◌+◌, ◌&&◌, not, Bool, List, count_by, if◌then◌else◌}
use Rattle.std.specs.List.{list_any}
use Rattle.pol_ports.specs.declared.Direction.{Direction}
use Rattle.pol_ports.specs.declared.Direction.TheVariants.{Ingress, Egress}
use Rattle.pol_mapkey.specs.MapKey.{same_key}
use Rattle.pol_mapkey.specs.declared.Kind.TheVariants.{Allow}
use Rattle.pol_mapkey.specs.declared.MapKey.{MapKey}
use Rattle.pol_rule.specs.declared.policy.Peer.{Peer}
use Rattle.pol_model.specs.PolicyMap.{entry_entries}
use Rattle.pol_sets.specs.Sets.{set_given}
use Rattle.pol_filters.specs.declared.filter.Filter.{Filter}
use Rattle.pol_filters.specs.FilterParts.{entry_of, filters_of}
use Rattle.pol_kept_map.specs.Work.{WorkOf}

-- whether a filter of the direction puts the key into the map
abbrev pub gives : (Peer → List ℕ) → Direction → MapKey → Filter → Bool
gives set dir key one = list_any (λ entry. same_key entry.0 key) (entry_entries set dir Allow (entry_of one))

-- how many filters of the direction that allow, or that deny, do so; each counts once
abbrev pub givers_in : (Filter → Bool) → WorkOf → MapKey → Direction → ℕ
givers_in test work key dir = count_by (λ one. test one && gives (set_given work.rows) dir key one) (filters_of work.filters dir)

-- how many do so in both directions: none where nothing is enforced
abbrev pub givers_of : (Filter → Bool) → WorkOf → MapKey → ℕ
givers_of test work key = if work.filters.never then 0 else givers_in test work key Ingress + givers_in test work key Egress

abbrev pub allows_of : WorkOf → MapKey → ℕ
allows_of work key = givers_of (λ one. not one.deny) work key

abbrev pub denies_of : WorkOf → MapKey → ℕ
denies_of work key = givers_of (λ one. one.deny) work key
