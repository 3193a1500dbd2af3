-- What stands in one of several lists stands in all of them joined, and an entry of a section among those of its rule.
use Rattle.std.proofs.Common.{List, [], ◌∷◌, ◌++◌, inl, inr, sym, subst}
use Rattle.std.specs.List.{flat_map}
use Rattle.pol_data.proofs.Members.{In}
use Rattle.pol_rule.specs.Covers.{section_of}
use Rattle.pol_rule.specs.Listed.{rule_entries}
use Rattle.pol_rule.specs.declared.policy.Entry.{Entry}
use Rattle.pol_rule.specs.declared.policy.Rule.{Rule}
use Rattle.pol_rule.specs.declared.policy.Section.{Section}
use Rattle.pol_rule.specs.declared.policy.Section.TheVariants as section
use Rattle.pol_model_laws.proofs.Membership.{In-left, In-right}

pub In-flat_map : {X Y : Type 0} (f : Y → List X) (x : X) (y : Y) (ys : List Y) → In y ys → In x (f y) → In x (flat_map f ys)
In-flat_map f x y [] there here = elim there [ ]
In-flat_map f x y (z ∷ ys) (inl same) here = In-left x (f z) (flat_map f ys) (subst (λ w. In x (f w)) (sym same) here)
In-flat_map f x y (z ∷ ys) (inr later) here = In-right x (f z) (flat_map f ys) (In-flat_map f x y ys later here)

-- an entry of a section is one of its rule's
pub in_rule : (s : Section) (rule : Rule) (entry : Entry) → In entry (section_of s rule) → In entry (rule_entries rule)
in_rule section.Ingress rule entry there =
    In-left entry (rule.ingress ++ rule.ingress_deny ++ rule.egress) rule.egress_deny
    (In-left entry (rule.ingress ++ rule.ingress_deny) rule.egress (In-left entry rule.ingress rule.ingress_deny there))
in_rule section.IngressDeny rule entry there =
    In-left entry (rule.ingress ++ rule.ingress_deny ++ rule.egress) rule.egress_deny
    (In-left entry (rule.ingress ++ rule.ingress_deny) rule.egress (In-right entry rule.ingress rule.ingress_deny there))
in_rule section.Egress rule entry there =
    In-left entry (rule.ingress ++ rule.ingress_deny ++ rule.egress) rule.egress_deny
    (In-right entry (rule.ingress ++ rule.ingress_deny) rule.egress there)
in_rule section.EgressDeny rule entry there = In-right entry (rule.ingress ++ rule.ingress_deny ++ rule.egress) rule.egress_deny there
