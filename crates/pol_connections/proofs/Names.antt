-- Names of ends tie in their order exactly where they are the same.
use Rattle.std.proofs.Common.{◌≡◌, refl, sym, ap, ◌∙◌, inl, inr, rules}
use Rattle.std.specs.Ordering.{is_eq}
use Rattle.std.proofs.lemmas.Bool.{false_from_ne_true}
use Rattle.std.proofs.lemmas.Map.Text.{is_eq-slice_cmp}
use Rattle.pol_addr.specs.declared.network.Prefix.{Prefix}
use Rattle.pol_addr.specs.Order.{prefix_cmp}
use Rattle.pol_addr.specs.Prefix.{same_prefix}
use Rattle.pol_addr.proofs.Order.{cases_same, cmp-prefix_cmp, not_tied, tied_same}
use Rattle.pol_model_laws.proofs.Ledger.{same_prefix-is}
use Rattle.pol_model_laws.proofs.PrefixHolders.{same_prefix-itself}
use Rattle.pol_connections.specs.contracts.end.EndNameOrd.TheImpl as end_name
use Rattle.pol_connections.specs.declared.end.EndName.{EndName}
use Rattle.pol_connections.specs.declared.end.EndName.TheVariants as name
use Rattle.pol_connections.specs.Ends.{same_name}

pub prefix_tied : (p q : Prefix) → is_eq (prefix_cmp p q) ≡ same_prefix p q
prefix_tied p q = elim (cases_same p q) [
  | inl same ↦ tied_same p q same ∙ sym (ap (same_prefix p) (sym same) ∙ same_prefix-itself p)
  | inr differs ↦ not_tied p q differs ∙ sym (false_from_ne_true (same_prefix p q) (λ t. differs (same_prefix-is p q t)))
]

pub name_tied : (a b : EndName) → is_eq (end_name.ghosts.cmp a b) ≡ same_name a b
name_tied (name.Endpoint a) (name.Endpoint b) = is_eq-slice_cmp a b
name_tied (name.Endpoint a) (name.Identity b) = refl
name_tied (name.Endpoint a) (name.Reserved b) = refl
name_tied (name.Endpoint a) (name.Region b) = refl
name_tied (name.Identity a) (name.Endpoint b) = refl
name_tied (name.Identity a) (name.Identity b) = is_eq-slice_cmp a b
name_tied (name.Identity a) (name.Reserved b) = refl
name_tied (name.Identity a) (name.Region b) = refl
name_tied (name.Reserved a) (name.Endpoint b) = refl
name_tied (name.Reserved a) (name.Identity b) = refl
name_tied (name.Reserved a) (name.Reserved b) = search rules
name_tied (name.Reserved a) (name.Region b) = refl
name_tied (name.Region a) (name.Endpoint b) = refl
name_tied (name.Region a) (name.Identity b) = refl
name_tied (name.Region a) (name.Reserved b) = refl
name_tied (name.Region a) (name.Region b) = ap is_eq (cmp-prefix_cmp a b) ∙ prefix_tied a b
