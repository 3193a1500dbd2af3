-- What holds of all peers of the policies holds of those that an endpoint's filters list.
use Rattle.std.proofs.Common.{◌≡◌, ℕ, ◌+◌, ◌≤◌, Bool, true, false, cond, List, [], ◌∷◌, ◌++◌, find, IsSome, Option, None, Some, option_map, refl, subst, arith}
use Rattle.std.specs.List.{AllByRecursion, flat_map}
use Rattle.std.specs.Option.{option_map_or}
use Rattle.pol_data.proofs.Counts.{count_by-some}
use Rattle.pol_data.proofs.Every.{every-append}
use Rattle.pol_data.proofs.Members.{every-from_in}
use Rattle.pol_labels.specs.declared.label.Label.{Label}
use Rattle.pol_labels.specs.Match.{matches}
use Rattle.pol_ports.specs.declared.Direction.{Direction}
use Rattle.pol_ports.specs.declared.Direction.TheVariants.{Ingress, Egress}
use Rattle.pol_rule.specs.contracts.policy.PeerPartialEq.TheImpl as peers
use Rattle.pol_rule.specs.Covers.{has_effect, section_of}
use Rattle.pol_rule.specs.declared.policy.Entry.{Entry}
use Rattle.pol_rule.specs.declared.policy.Peer.{Peer}
use Rattle.pol_rule.specs.declared.policy.Rule.{Rule}
use Rattle.pol_rule.specs.declared.policy.Section.{Section}
use Rattle.pol_rule.specs.declared.policy.Section.TheVariants as section
use Rattle.pol_model.specs.declared.options.Mode.{Mode}
use Rattle.pol_model.specs.declared.row.Stamped.{Stamped}
use Rattle.pol_model.specs.Enforced.{allow_section, deny_section}
use Rattle.pol_model_laws.proofs.Membership.{list_any-In}
use Rattle.pol_filters.specs.declared.filter.Filter.{Filter}
use Rattle.pol_filters.specs.Resolved.{entry_filters, filter_at, filters_for, filters_in, policy_filters, rule_filters}
use Rattle.pol_selcache.specs.Live.{Live, number_of}
use Rattle.pol_rule.specs.Listed.{listed_peers, peers_in, rule_peers, section_peers}
use Rattle.pol_peers.specs.References.{RefsOf, times_in}
use Rattle.pol_peers.proofs.Found.{is_of, peer_itself}
use Rattle.pol_rule.proofs.Sections.{rule_by_section}
use Rattle.pol_taken.specs.PeerRows.{filter_peers, list_peers}
use Rattle.pol_taken.proofs.Adding.{every-parts}

module _ (Q : Peer → Type 0) where
  joined : (xs ys : List Filter) → AllByRecursion Q (list_peers xs) → AllByRecursion Q (list_peers ys) → AllByRecursion Q (list_peers (xs ++ ys))
  joined [] ys front back = back
  joined (x ∷ xs) ys front back =
      let parts = every-parts Q (peers_in x.peers) (list_peers xs) front in
      every-append Q (peers_in x.peers) (list_peers (xs ++ ys)) parts.0 (joined xs ys parts.1 back)

  of_entries : (stamped : Stamped) (rule : ℕ) (part : Section) (n : ℕ) (entries : List Entry) → AllByRecursion Q (section_peers entries)
      → AllByRecursion Q (list_peers (entry_filters (filter_at stamped rule part) n entries))
  of_entries stamped rule part n [] all = tt
  of_entries stamped rule part n (entry ∷ entries) all =
      let parts = every-parts Q (peers_in entry.peers) (section_peers entries) all in
      by (has_effect entry) parts.0 (of_entries stamped rule part (n + 1) entries parts.1)
    where
      by : (b : Bool) → AllByRecursion Q (peers_in entry.peers) → AllByRecursion Q (list_peers (entry_filters (filter_at stamped rule part) (n + 1) entries))
          → AllByRecursion Q (list_peers (cond b (filter_at stamped rule part n entry ∷ entry_filters (filter_at stamped rule part) (n + 1) entries) (entry_filters (filter_at stamped rule part) (n + 1) entries)))
      by true here rest = every-append Q (peers_in entry.peers) (list_peers (entry_filters (filter_at stamped rule part) (n + 1) entries)) here rest
      by false here rest = rest

  of_section : (rule : Rule) (part : Section) → AllByRecursion Q (rule_peers rule) → AllByRecursion Q (section_peers (section_of part rule))
  of_section rule part all =
      let whole = subst (AllByRecursion Q) (rule_by_section rule) all in
      let last = every-parts Q (section_peers rule.ingress ++ section_peers rule.ingress_deny ++ section_peers rule.egress) (section_peers rule.egress_deny) whole in
      let third = every-parts Q (section_peers rule.ingress ++ section_peers rule.ingress_deny) (section_peers rule.egress) last.0 in
      let first = every-parts Q (section_peers rule.ingress) (section_peers rule.ingress_deny) third.0 in
      elim part as (λ s. AllByRecursion Q (section_peers (section_of s rule))) [
        | section.Ingress ↦ first.0
        | section.IngressDeny ↦ first.1
        | section.Egress ↦ third.1
        | section.EgressDeny ↦ last.1
      ]

  of_rule : (stamped : Stamped) (dir : Direction) (n : ℕ) (rule : Rule) → AllByRecursion Q (rule_peers rule) → AllByRecursion Q (list_peers (rule_filters stamped dir n rule))
  of_rule stamped dir n rule all =
      joined (entry_filters (filter_at stamped n (allow_section dir)) 0 (section_of (allow_section dir) rule))
      (entry_filters (filter_at stamped n (deny_section dir)) 0 (section_of (deny_section dir) rule))
      (of_entries stamped n (allow_section dir) 0 (section_of (allow_section dir) rule) (of_section rule (allow_section dir) all))
      (of_entries stamped n (deny_section dir) 0 (section_of (deny_section dir) rule) (of_section rule (deny_section dir) all))

  of_policy : (stamped : Stamped) (labels : List Label) (dir : Direction) (n : ℕ) (rules : List Rule) → AllByRecursion Q (flat_map rule_peers rules)
      → AllByRecursion Q (list_peers (policy_filters stamped labels dir n rules))
  of_policy stamped labels dir n [] all = tt
  of_policy stamped labels dir n (rule ∷ rules) all =
      let parts = every-parts Q (rule_peers rule) (flat_map rule_peers rules) all in
      by (matches rule.subject labels) parts.0 (of_policy stamped labels dir (n + 1) rules parts.1)
    where
      by : (b : Bool) → AllByRecursion Q (rule_peers rule) → AllByRecursion Q (list_peers (policy_filters stamped labels dir (n + 1) rules))
          → AllByRecursion Q (list_peers (cond b (rule_filters stamped dir n rule ++ policy_filters stamped labels dir (n + 1) rules) (policy_filters stamped labels dir (n + 1) rules)))
      by true here rest = joined (rule_filters stamped dir n rule) (policy_filters stamped labels dir (n + 1) rules) (of_rule stamped dir n rule here) rest
      by false here rest = rest

  of_policies : (labels : List Label) (dir : Direction) (policies : List Stamped) → AllByRecursion Q (flat_map (λ stamped. listed_peers stamped.policy) policies)
      → AllByRecursion Q (list_peers (filters_in policies labels dir))
  of_policies labels dir [] all = tt
  of_policies labels dir (stamped ∷ policies) all =
      let parts = every-parts Q (listed_peers stamped.policy) (flat_map (λ (s : Stamped). listed_peers s.policy) policies) all in
      joined (policy_filters stamped labels dir 0 stamped.policy.rules) (filters_in policies labels dir)
      (of_policy stamped labels dir 0 stamped.policy.rules parts.0) (of_policies labels dir policies parts.1)

live_of : (o : Option Live) (times : ℕ) → option_map_or (λ s. s.references) o 0 ≡ times → 1 ≤ times → IsSome (option_map (λ (s : Live). s.number) o)
live_of None times is some = absurd (omega (arith, is, some))
live_of (Some s) times is some = refl

all_live : (ps : List Peer) (live : List Live) → RefsOf ps live → AllByRecursion (λ p. IsSome (number_of p live)) ps
all_live ps live refs =
    every-from_in (λ p. IsSome (number_of p live)) ps (λ p there.
    live_of (find (is_of p) live) (times_in p ps) (refs p) (count_by-some (peers.ghosts.eq p) ps (list_any-In (peers.ghosts.eq p) p ps there (peer_itself p))))

pub filters_live : (policies : List Stamped) (labels : List Label) (mode : Mode) (localhost : Bool) (live : List Live)
    → RefsOf (flat_map (λ stamped. listed_peers stamped.policy) policies) live
    → AllByRecursion (λ p. IsSome (number_of p live)) (filter_peers (filters_for policies labels mode localhost))
filters_live policies labels mode localhost live refs =
    let Q : Peer → Type 0 = λ p. IsSome (number_of p live) in
    let all = all_live (flat_map (λ (stamped : Stamped). listed_peers stamped.policy) policies) live refs in
    every-append Q (list_peers (filters_in policies labels Ingress)) (list_peers (filters_in policies labels Egress))
    (of_policies Q labels Ingress policies all) (of_policies Q labels Egress policies all)
