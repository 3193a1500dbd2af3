-- What a written policy has to meet so that a text can write it: the members of each `matchLabels` stand in the byte order of
-- their names, each once, as the JSON crate keeps them, and each `endPort` has 64 bits at most.
use Rattle.std.specs.Prelude.{◌≡◌, ◌^◌, ◌<◌, List, [], ◌∷◌, IfSome}
use Rattle.std.specs.Cmp.Lexicographic.{slice_cmp}
use Rattle.std.specs.List.{AllByRecursion}
use Rattle.std.specs.Ordering.{nat_cmp}
use Rattle.std.specs.declared.cmp.Ordering.TheVariants.{Less}
use Rattle.pol_rule.specs.declared.raw.RawEntry.{RawEntry}
use Rattle.pol_rule.specs.declared.raw.RawPair.{RawPair}
use Rattle.pol_rule.specs.declared.raw.RawPolicy.{RawPolicy}
use Rattle.pol_rule.specs.declared.raw.RawPort.{RawPort}
use Rattle.pol_rule.specs.declared.raw.RawPortItem.{RawPortItem}
use Rattle.pol_rule.specs.declared.raw.RawRule.{RawRule}
use Rattle.pol_rule.specs.declared.raw.RawSelector.{RawSelector}

abbrev pub ComesBefore : RawPair → RawPair → Type 0
ComesBefore pair later = slice_cmp nat_cmp pair.key later.key ≡ Less

abbrev pub LabelsAscend : List RawPair → Type 0
LabelsAscend [] = Unit {0}
LabelsAscend (pair ∷ others) = AllByRecursion (ComesBefore pair) others × LabelsAscend others

abbrev pub IsKeptSelector : RawSelector → Type 0
IsKeptSelector selector = LabelsAscend selector.labels

abbrev pub IsKeptPort : RawPort → Type 0
IsKeptPort port = IfSome port.end_port (λ n. n < 2 ^ 64)

abbrev pub IsKeptItem : RawPortItem → Type 0
IsKeptItem item = AllByRecursion IsKeptPort item.ports

pub record IsKeptEntry (entry : RawEntry) : Type 0 where
  pub endpoints : IfSome entry.endpoints (AllByRecursion IsKeptSelector)
  pub ports : AllByRecursion IsKeptItem entry.ports

abbrev pub IsKeptSection : List RawEntry → Type 0
IsKeptSection entries = AllByRecursion IsKeptEntry entries

pub record IsKeptRule (rule : RawRule) : Type 0 where
  pub subject : IfSome rule.subject IsKeptSelector
  pub ingress : IsKeptSection rule.ingress
  pub ingress_deny : IsKeptSection rule.ingress_deny
  pub egress : IsKeptSection rule.egress
  pub egress_deny : IsKeptSection rule.egress_deny

abbrev pub IsKept : RawPolicy → Type 0
IsKept policy = AllByRecursion IsKeptRule policy.rules
