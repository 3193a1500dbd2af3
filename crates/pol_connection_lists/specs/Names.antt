-- The labels and the numbers of named identities.
use Rattle.std.specs.Prelude.{ℕ, ◌≡◌, ◌&&◌, not, List, Option, None, option_map, if◌then◌else◌}
use Rattle.std.specs.BTreeMap.{BTreeMap, get}
use Rattle.std.specs.Cmp.Lexicographic.{slice_cmp}
use Rattle.std.specs.List.{filter_map}
use Rattle.std.specs.Ordering.{nat_cmp}
use Rattle.std.proofs.Common.{Bor}
use Rattle.pol_labels.specs.declared.label.Label.{Label}
use Rattle.pol_model.specs.declared.row.IdentityRow.{IdentityRow}
use Rattle.pol_model.specs.declared.row.NamedIdentity.{NamedIdentity}
use Rattle.pol_model.specs.Endpoints.{named_of}
use Rattle.pol_model.specs.Fault.{has_reserved, is_init}
use Rattle.pol_model.specs.Identities.{number_of_labels}
use Rattle.pol_model.specs.State.{State}
use Rattle.pol_connections.specs.Ends.{labels_of}

-- the labels that the name holds in a state
abbrev pub labels_named : State → List ℕ → Option (List Label)
labels_named s name = option_map (λ identity. labels_of identity.number s.identities) (named_of name s.named)

-- the table has for each name the labels that it holds
abbrev pub AreLabelsIn : State → BTreeMap (List ℕ) (Bor (List Label)) → Type 0
AreLabelsIn s held = (name : List ℕ) → option_map (λ (labels : Bor (List Label)). labels.now) (get (slice_cmp nat_cmp) held name) ≡ labels_named s name

-- the number of a label set, if an identity may have it
abbrev pub number_allowed : List IdentityRow → List Label → Option ℕ
number_allowed rows labels = if has_reserved labels && not (is_init labels) then None else number_of_labels labels rows

-- a name with the number of its labels
abbrev pub identity_by : List IdentityRow → List ℕ × Bor (List Label) → Option NamedIdentity
identity_by rows entry = option_map (λ number. record { name = entry.0; number = number }) (number_allowed rows entry.1.now)

abbrev pub identities_by : List IdentityRow → List (List ℕ × Bor (List Label)) → List NamedIdentity
identities_by rows entries = filter_map (identity_by rows) entries
