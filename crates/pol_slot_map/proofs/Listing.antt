-- Each peer that a filter lists is listed by the filter's policy, which has its stamp.
use Rattle.std.proofs.Common.{◌≡◌, ℕ, ◌+◌, Bool, true, false, cond, List, [], ◌∷◌, ◌++◌, inl, inr, refl}
use Rattle.std.specs.List.{AllByRecursion, Contains}
use Rattle.pol_data.proofs.Every.{every-append, every-weaker}
use Rattle.pol_data.proofs.Members.{In, In-from_Contains, every-in}
use Rattle.pol_labels.specs.declared.label.Label.{Label}
use Rattle.pol_labels.specs.Match.{matches}
use Rattle.pol_ports.specs.declared.Direction.{Direction}
use Rattle.pol_rule.specs.Covers.{has_effect, section_of}
use Rattle.pol_rule.specs.Listed.{rule_entries}
use Rattle.pol_rule.specs.declared.policy.Entry.{Entry}
use Rattle.pol_rule.specs.declared.policy.Peer.{Peer}
use Rattle.pol_rule.specs.declared.policy.Rule.{Rule}
use Rattle.pol_rule.specs.declared.policy.Section.{Section}
use Rattle.pol_rule.specs.declared.policy.Section.TheVariants as section
use Rattle.pol_model.specs.declared.row.Stamped.{Stamped}
use Rattle.pol_model.specs.Enforced.{allow_section, deny_section}
use Rattle.pol_filters.specs.declared.filter.Filter.{Filter}
use Rattle.pol_filters.specs.Resolved.{entry_filters, filter_at, filters_in, policy_filters, rule_filters}
use Rattle.pol_rule.specs.Listed.{listed_peers, peers_in, rule_peers}
use Rattle.pol_set_moves.proofs.InRules.{In-flat_map, in_rule}

-- the policy has the filter's stamp, and lists its peers
pub record Lists (stamped : Stamped) (one : Filter) : Type 0 where
  pub stamp : one.stamp ≡ stamped.stamp
  pub peers : (p : Peer) → In p (peers_in one.peers) → In p (listed_peers stamped.policy)

module _ (stamped : Stamped) where
  chosen : (b : Bool) (one : Filter) (others : List Filter) → Lists stamped one → AllByRecursion (Lists stamped) others → AllByRecursion (Lists stamped) (cond b (one ∷ others) others)
  chosen true one others here rest = (here, rest)
  chosen false one others here rest = rest

  either : (b : Bool) (front back : List Filter) → AllByRecursion (Lists stamped) front → AllByRecursion (Lists stamped) back → AllByRecursion (Lists stamped) (cond b (front ++ back) back)
  either true front back all each = every-append (Lists stamped) front back all each
  either false front back all each = each

  of_entries : (number : ℕ) (part : Section) (n : ℕ) (entries : List Entry)
      → ((entry : Entry) → In entry entries → (p : Peer) → In p (peers_in entry.peers) → In p (listed_peers stamped.policy))
      → AllByRecursion (Lists stamped) (entry_filters (filter_at stamped number part) n entries)
  of_entries number part n [] each = tt
  of_entries number part n (entry ∷ others) each =
      chosen (has_effect entry) (filter_at stamped number part n entry) (entry_filters (filter_at stamped number part) (n + 1) others)
      (record { stamp = refl; peers = each entry (inl refl) })
      (of_entries number part (n + 1) others (λ other there. each other (inr there)))

  of_section : (number : ℕ) (rule : Rule) → In rule stamped.policy.rules → (part : Section)
      → AllByRecursion (Lists stamped) (entry_filters (filter_at stamped number part) 0 (section_of part rule))
  of_section number rule there part =
      of_entries number part 0 (section_of part rule) (λ entry at p listed.
      In-flat_map rule_peers p rule stamped.policy.rules there
      (In-flat_map (λ (e : Entry). peers_in e.peers) p entry (rule_entries rule) (in_rule part rule entry at) listed))

  of_rules : (labels : List Label) (dir : Direction) (n : ℕ) (rules : List Rule) → ((rule : Rule) → In rule rules → In rule stamped.policy.rules)
      → AllByRecursion (Lists stamped) (policy_filters stamped labels dir n rules)
  of_rules labels dir n [] each = tt
  of_rules labels dir n (rule ∷ others) each =
      let here : AllByRecursion (Lists stamped) (rule_filters stamped dir n rule) =
      every-append (Lists stamped) (entry_filters (filter_at stamped n (allow_section dir)) 0 (section_of (allow_section dir) rule))
      (entry_filters (filter_at stamped n (deny_section dir)) 0 (section_of (deny_section dir) rule))
      (of_section n rule (each rule (inl refl)) (allow_section dir)) (of_section n rule (each rule (inl refl)) (deny_section dir)) in
      either (matches rule.subject labels) (rule_filters stamped dir n rule) (policy_filters stamped labels dir (n + 1) others) here
      (of_rules labels dir (n + 1) others (λ other there. each other (inr there)))

-- some policy does
pub record IsListedBy (policies : List Stamped) (one : Filter) : Type 0 where
  pub stamped : Stamped
  pub there : In stamped policies
  pub lists : Lists stamped one

of_policies : (labels : List Label) (dir : Direction) (policies : List Stamped) → AllByRecursion (IsListedBy policies) (filters_in policies labels dir)
of_policies labels dir [] = tt
of_policies labels dir (stamped ∷ others) =
    every-append (IsListedBy (stamped ∷ others)) (policy_filters stamped labels dir 0 stamped.policy.rules) (filters_in others labels dir)
    (every-weaker (Lists stamped) (IsListedBy (stamped ∷ others)) (λ one lists. record { stamped = stamped; there = inl refl; lists = lists })
    (policy_filters stamped labels dir 0 stamped.policy.rules) (of_rules stamped labels dir 0 stamped.policy.rules (λ rule there. there)))
    (every-weaker (IsListedBy others) (IsListedBy (stamped ∷ others)) (λ one is. record { stamped = is.stamped; there = inr is.there; lists = is.lists })
    (filters_in others labels dir) (of_policies labels dir others))

pub filter_listed : (policies : List Stamped) (labels : List Label) (dir : Direction) (one : Filter) → Contains (filters_in policies labels dir) one → IsListedBy policies one
filter_listed policies labels dir one there =
    every-in (IsListedBy policies) (filters_in policies labels dir) (of_policies labels dir policies) one (In-from_Contains (filters_in policies labels dir) one there)
