-- Rules are read again, and nothing is wrong in a well-formed one.
use Rattle.std.proofs.Common.{◌≡◌, ℕ, Bool, List, codes, Option, None, Some, option_map, unwrap_or, IfSome, refl, sym, ap, subst, ◌∙◌}
use Rattle.std.specs.List.{AllByRecursion}
use Rattle.std.specs.Option.{option_or}
use Rattle.serde_json.specs.Data.{Data, boolean}
use Rattle.document_laws.proofs.Again.{items_come_again, member_again}
use Rattle.document_laws.proofs.Entering.{entry_again, entry_sound}
use Rattle.document_laws.proofs.Named.{has, shown}
use Rattle.document_laws.proofs.Nothing.{IsListing, IsSound, each_sound, sound_at, sound_object, sound_unless_empty}
use Rattle.document_laws.proofs.Selecting.{selector_again, selector_sound}
use Rattle.document_laws.proofs.Shapes.{boolean_shape, default_deny_is, default_deny_shape, entry_shape, item_shape, member_shape, rule_is, rule_shape, selector_shape}
use Rattle.document_laws.specs.Fields.{object_of, unless_empty}
use Rattle.document_laws.specs.WellFormed.{IsWellFormedEntry, IsWellFormedRule, IsWellFormedSection}
use Rattle.document_laws.specs.Written.{default_deny_document, default_deny_fields, entry_document, rule_document, rule_fields, section_document, selector_document}
use Rattle.pol_json.specs.Build.{default_deny_at, default_deny_of, entry_of, rule_of, selector_of}
use Rattle.pol_ports.specs.declared.Direction.{Direction}
use Rattle.pol_ports.specs.declared.Direction.TheVariants.{Ingress, Egress}
use Rattle.pol_rule.specs.DefaultDeny.{nothing_said}
use Rattle.pol_rule.specs.declared.policy.DefaultDeny.{DefaultDeny}
use Rattle.pol_rule.specs.declared.raw.RawEntry.{RawEntry}
use Rattle.pol_rule.specs.declared.raw.RawRule.{RawRule}
use Rattle.pol_rule.specs.declared.raw.RawSelector.{RawSelector}

-- ---- they are read again

-- what is said of the two directions
abbrev said_of : Option Bool → Option Bool → DefaultDeny
said_of ingress egress = record { ingress = ingress; egress = egress }

-- what a rule says by the member that was found
abbrev said_by : Option Data → DefaultDeny
said_by found = unwrap_or (option_map default_deny_of found) nothing_said

said_again : (ingress egress : Option Bool)
    → said_by (shown (option_or (default_deny_document (said_of ingress egress)) None)) ≡ said_of ingress egress
said_again None None = refl
said_again None (Some b) = refl
said_again (Some a) None = refl
said_again (Some a) (Some b) = refl

default_deny_again : (r : RawRule) → default_deny_at (rule_document r) ≡ r.default_deny
default_deny_again r = ap said_by (has (codes "enableDefaultDeny") (rule_fields r)) ∙ said_again r.default_deny.ingress r.default_deny.egress

pub rule_again : (r : RawRule) → rule_of (rule_document r) ≡ r
rule_again r =
    let d = rule_document r in
    let fields = rule_fields r in
    let subject = member_again selector_of selector_document selector_again (λ s. refl) (codes "endpointSelector") d r.subject (has (codes "endpointSelector") fields) in
    let ingress = items_come_again (entry_of Ingress) (entry_document Ingress) (entry_again Ingress) (codes "ingress") d r.ingress (has (codes "ingress") fields) in
    let ingress_deny = items_come_again (entry_of Ingress) (entry_document Ingress) (entry_again Ingress) (codes "ingressDeny") d r.ingress_deny (has (codes "ingressDeny") fields) in
    let egress = items_come_again (entry_of Egress) (entry_document Egress) (entry_again Egress) (codes "egress") d r.egress (has (codes "egress") fields) in
    let egress_deny = items_come_again (entry_of Egress) (entry_document Egress) (entry_again Egress) (codes "egressDeny") d r.egress_deny (has (codes "egressDeny") fields) in
    let default_deny = default_deny_again r in
    λ i. record { subject = subject i; ingress = ingress i; ingress_deny = ingress_deny i; egress = egress i; egress_deny = egress_deny i; default_deny = default_deny i }

-- ---- nothing is wrong

pub subject_sound : (subject : Option RawSelector) → IfSome (option_map selector_document subject) (IsSound selector_shape)
subject_sound None = tt
subject_sound (Some selector) = selector_sound selector

direction_sound : (said : Option Bool) → IfSome (option_map boolean said) (IsSound boolean_shape)
direction_sound None = tt
direction_sound (Some b) = sound_at boolean_shape (boolean b) refl refl

deny_sound : (said : DefaultDeny) → IsSound default_deny_shape (object_of (default_deny_fields said))
deny_sound said =
    sound_object default_deny_shape default_deny_is (default_deny_fields said) refl (direction_sound said.egress, (direction_sound said.ingress, tt))

default_deny_sound : (ingress egress : Option Bool) → IfSome (default_deny_document (said_of ingress egress)) (IsSound default_deny_shape)
default_deny_sound None None = tt
default_deny_sound None (Some b) = deny_sound (said_of None (Some b))
default_deny_sound (Some a) egress = deny_sound (said_of (Some a) egress)

-- a section of this name
section_sound : (dir : Direction) (name : List ℕ) (entries : List RawEntry) → item_shape (member_shape rule_shape name) ≡ entry_shape dir
    → IsListing (member_shape rule_shape name) → IsWellFormedSection entries
    → IfSome (unless_empty (section_document dir) entries) (IsSound (member_shape rule_shape name))
section_sound dir name entries same is well =
    sound_unless_empty (entry_document dir) (member_shape rule_shape name) entries is
    (subst (λ s. AllByRecursion (λ e. IsSound s (entry_document dir e)) entries) (sym same) (each_sound IsWellFormedEntry _ (entry_sound dir) entries well))

pub rule_sound : (r : RawRule) → IsWellFormedRule r → IsSound rule_shape (rule_document r)
rule_sound r well =
    sound_object rule_shape rule_is (rule_fields r) refl (
      section_sound Egress (codes "egress") r.egress refl tt well.egress,
      (
        section_sound Egress (codes "egressDeny") r.egress_deny refl tt well.egress_deny,
        (
          default_deny_sound r.default_deny.ingress r.default_deny.egress,
          (
            subject_sound r.subject,
            (
              section_sound Ingress (codes "ingress") r.ingress refl tt well.ingress,
              (section_sound Ingress (codes "ingressDeny") r.ingress_deny refl tt well.ingress_deny, tt),
            ),
          ),
        ),
      ),
    )
