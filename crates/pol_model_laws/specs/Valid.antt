-- Requests that are well formed: addresses and prefixes within their bits, and labels that are a label set.
-- The types of the source have no others.
use Rattle.std.specs.List.{AllByRecursion}
use Rattle.pol_addr.specs.Address.{IsAddr}
use Rattle.pol_addr.specs.Cidr.{IsPrefix}
use Rattle.pol_labels.specs.Order.{IsLabelSet}
use Rattle.pol_rule.specs.Prefixes.{policy_prefixes}
use Rattle.pol_model.specs.declared.request.Request.{Request}
use Rattle.pol_model.specs.declared.request.Request.TheVariants.{AddEndpoint, RemoveEndpoint, AddIdentity, RemoveIdentity, Apply, Remove, SetMode}

abbrev pub IsValid : Request → Type 0
IsValid (AddEndpoint name labels address) = IsLabelSet labels × IsAddr address
IsValid (RemoveEndpoint name) = Unit {0}
IsValid (AddIdentity name labels) = IsLabelSet labels
IsValid (RemoveIdentity name) = Unit {0}
IsValid (Apply policy) = AllByRecursion IsPrefix (policy_prefixes policy)
IsValid (Remove key) = Unit {0}
IsValid (SetMode mode) = Unit {0}
