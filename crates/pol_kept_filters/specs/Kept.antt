-- Filters that are kept, and whose they are.
use Rattle.std.specs.Prelude.{◌≡◌, Bool, not, List, filter, map, Option, None, Some}
use Rattle.std.specs.Arc.{arc_value}
use Rattle.std.specs.List.{AllByRecursion, IsDistinct, list_any}
use Rattle.pol_labels.specs.declared.label.Label.{Label}
use Rattle.pol_labels.specs.Match.{matches}
use Rattle.pol_rule.specs.Keys.{same_key}
use Rattle.pol_rule.specs.declared.policy.Policy.{Policy}
use Rattle.pol_model.specs.declared.options.Mode.{Mode}
use Rattle.pol_model.specs.declared.row.Stamped.{Stamped}
use Rattle.pol_filters.specs.Resolved.{filters_for}
use Rattle.pol_selcache.specs.Cache.{Cache}
use Rattle.pol_taken.specs.Known.{IsKnownIn, IsListingOf}
use Rattle.pol_taken.specs.PeerRows.{filter_peers}
use Rattle.pol_kept_filters.specs.declared.kept.Kept.{Kept}

-- the filters are what the policies give the labels in this mode
abbrev pub IsKeptOf : List Stamped → Mode → Kept → Type 0
IsKeptOf policies mode kept = arc_value kept.filters ≡ filters_for policies kept.labels mode kept.localhost

-- so each of them
abbrev pub AreKeptOf : List Stamped → Mode → List Kept → Type 0
AreKeptOf policies mode rows = AllByRecursion (λ kept. IsKeptOf policies mode kept) rows

-- it serves for these labels, with this leave for the local host
pub record IsFor (labels : List Label) (localhost : Bool) (kept : Kept) : Type 0 where
  pub labels_are : kept.labels ≡ labels
  pub localhost_is : kept.localhost ≡ localhost

-- its rows are of the peers that the filters list, and are known
pub record IsListedIn (cache : Cache) (kept : Kept) : Type 0 where
  pub listing : IsListingOf (filter_peers (arc_value kept.filters)) kept.known.rows
  pub known : IsKnownIn cache kept.known

-- so each of them
abbrev pub AreListedIn : Cache → List Kept → Type 0
AreListedIn cache rows = AllByRecursion (IsListedIn cache) rows

-- some rule of the policy selects the labels
abbrev pub selects : List Label → Policy → Bool
selects labels policy = list_any (λ rule. matches rule.subject labels) policy.rules

-- those that are left where what is kept for labels that the policy selects is forgotten
abbrev pub without_selected : Policy → List Kept → List Kept
without_selected policy rows = filter (λ kept. not (selects kept.labels policy)) rows

-- the same of a policy that may be there
abbrev pub without_old : Option Stamped → List Kept → List Kept
without_old None rows = rows
without_old (Some stamped) rows = without_selected stamped.policy rows

-- no two policies have one key
abbrev pub KeysDiffer : List Stamped → Type 0
KeysDiffer policies = IsDistinct same_key (map (λ stamped. stamped.policy.key) policies)
