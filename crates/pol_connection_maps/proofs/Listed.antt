-- The sets of the peers that policies list serve each subject's filters.
use Rattle.std.proofs.Common.{◌≡◌, ℕ, ◌+◌, ◌<◌, Bool, true, false, cond, List, [], ◌∷◌, ◌++◌, map, filter, IsTrue, inl, refl, sym, ap, subst, ◌∙◌}
use Rattle.std.specs.Arc.{arc_value}
use Rattle.std.specs.List.{AllByRecursion, flat_map, list_any}
use Rattle.std.specs.List.Sorted.{IsStrictlySortedBy}
use Rattle.std.specs.Option.{option_map_or}
use Rattle.std.specs.Ordering.{nat_cmp}
use Rattle.std.specs.declared.cmp.Ordering.TheVariants.{Less}
use Rattle.std.proofs.lemmas.Bool.{cond-true, lt-ltb}
use Rattle.pol_data.proofs.Every.{every-append, every-kept, every-map, every-weaker}
use Rattle.pol_data.proofs.Members.{every-in}
use Rattle.pol_labels.specs.declared.label.Label.{Label}
use Rattle.pol_labels.specs.Match.{matches}
use Rattle.pol_ports.specs.declared.Direction.{Direction}
use Rattle.pol_ports.specs.declared.Direction.TheVariants.{Ingress, Egress}
use Rattle.pol_rule.specs.Covers.{has_effect, section_of}
use Rattle.pol_rule.specs.declared.policy.Entry.{Entry}
use Rattle.pol_rule.specs.declared.policy.Peer.{Peer}
use Rattle.pol_rule.specs.declared.policy.Peers.{Peers}
use Rattle.pol_rule.specs.declared.policy.Peers.TheVariants.{Every, Listed}
use Rattle.pol_rule.specs.declared.policy.Rule.{Rule}
use Rattle.pol_rule.specs.declared.policy.Section.{Section}
use Rattle.pol_rule.specs.declared.policy.Section.TheVariants as section
use Rattle.pol_rule.specs.Listed.{listed_peers, peers_in, rule_peers, section_peers}
use Rattle.pol_rule.proofs.Equality.{peer_eq-Decides}
use Rattle.pol_rule.proofs.Sections.{rule_by_section}
use Rattle.pol_model.specs.declared.options.Mode.{Mode}
use Rattle.pol_model.specs.declared.row.IdentityRow.{IdentityRow}
use Rattle.pol_model.specs.declared.row.Stamped.{Stamped}
use Rattle.pol_model.specs.Ascending.{Ascends}
use Rattle.pol_model.specs.Enforced.{allow_section, deny_section}
use Rattle.pol_model.specs.Selects.{set_at}
use Rattle.pol_model_laws.specs.MapFacts.{AgreeOnEntries, AgreeOnParts, AgreeOnPeers}
use Rattle.pol_model_laws.proofs.Membership.{In-left, In-list_any, In-right, find-In, found-some, list_any-In}
use Rattle.pol_sets.specs.declared.sets.SetRow.{SetRow}
use Rattle.pol_sets.specs.Sets.{has_set, is_row_of, set_given}
use Rattle.pol_filters.specs.declared.filter.Filter.{Filter}
use Rattle.pol_filters.specs.declared.filter.Filters.{Filters}
use Rattle.pol_filters.specs.FilterParts.{entry_of, filter_parts, filters_of}
use Rattle.pol_filters.specs.Resolved.{entry_filters, filter_at, filters_for, filters_in, policy_filters, rule_filters}
use Rattle.pol_distill.specs.Sorted.{HaveSets, ListHasSets, PeersHaveSets}
use Rattle.pol_connection_maps.specs.PeerRows.{filters_peers, list_peers}
use Rattle.pol_connection_maps.specs.Sets.{AreExact, AreSetsOf, peers_of}

every-parts : {X : Type 0} (P : X → Type 0) (xs ys : List X) → AllByRecursion P (xs ++ ys) → AllByRecursion P xs × AllByRecursion P ys
every-parts P [] ys all = (tt, all)
every-parts P (x ∷ xs) ys all = let rest = every-parts P xs ys all.1 in ((all.0, rest.0), rest.1)

-- ---- what holds of all peers of the policies holds of those that filters list
module _ (Q : Peer → Type 0) where
  joined : (xs ys : List Filter) → AllByRecursion Q (list_peers xs) → AllByRecursion Q (list_peers ys) → AllByRecursion Q (list_peers (xs ++ ys))
  joined [] ys front back = back
  joined (x ∷ xs) ys front back =
      let parts = every-parts Q (peers_in x.peers) (list_peers xs) front in
      every-append Q (peers_in x.peers) (list_peers (xs ++ ys)) parts.0 (joined xs ys parts.1 back)

  of_entries : (stamped : Stamped) (rule : ℕ) (part : Section) (n : ℕ) (entries : List Entry) → AllByRecursion Q (section_peers entries)
      → AllByRecursion Q (list_peers (entry_filters (filter_at stamped rule part) n entries))
  of_entries stamped rule part n [] all = tt
  of_entries stamped rule part n (entry ∷ entries) all =
      let parts = every-parts Q (peers_in entry.peers) (section_peers entries) all in
      by (has_effect entry) parts.0 (of_entries stamped rule part (n + 1) entries parts.1)
    where
      by : (b : Bool) → AllByRecursion Q (peers_in entry.peers) → AllByRecursion Q (list_peers (entry_filters (filter_at stamped rule part) (n + 1) entries))
          → AllByRecursion Q (list_peers (cond b (filter_at stamped rule part n entry ∷ entry_filters (filter_at stamped rule part) (n + 1) entries) (entry_filters (filter_at stamped rule part) (n + 1) entries)))
      by true here rest = every-append Q (peers_in entry.peers) (list_peers (entry_filters (filter_at stamped rule part) (n + 1) entries)) here rest
      by false here rest = rest

  of_section : (rule : Rule) (part : Section) → AllByRecursion Q (rule_peers rule) → AllByRecursion Q (section_peers (section_of part rule))
  of_section rule part all =
      let whole = subst (AllByRecursion Q) (rule_by_section rule) all in
      let last = every-parts Q (section_peers rule.ingress ++ section_peers rule.ingress_deny ++ section_peers rule.egress) (section_peers rule.egress_deny) whole in
      let third = every-parts Q (section_peers rule.ingress ++ section_peers rule.ingress_deny) (section_peers rule.egress) last.0 in
      let first = every-parts Q (section_peers rule.ingress) (section_peers rule.ingress_deny) third.0 in
      elim part as (λ s. AllByRecursion Q (section_peers (section_of s rule))) [
        | section.Ingress ↦ first.0
        | section.IngressDeny ↦ first.1
        | section.Egress ↦ third.1
        | section.EgressDeny ↦ last.1
      ]

  of_rule : (stamped : Stamped) (dir : Direction) (n : ℕ) (rule : Rule) → AllByRecursion Q (rule_peers rule) → AllByRecursion Q (list_peers (rule_filters stamped dir n rule))
  of_rule stamped dir n rule all =
      joined (entry_filters (filter_at stamped n (allow_section dir)) 0 (section_of (allow_section dir) rule))
      (entry_filters (filter_at stamped n (deny_section dir)) 0 (section_of (deny_section dir) rule))
      (of_entries stamped n (allow_section dir) 0 (section_of (allow_section dir) rule) (of_section rule (allow_section dir) all))
      (of_entries stamped n (deny_section dir) 0 (section_of (deny_section dir) rule) (of_section rule (deny_section dir) all))

  of_policy : (stamped : Stamped) (labels : List Label) (dir : Direction) (n : ℕ) (rules : List Rule) → AllByRecursion Q (flat_map rule_peers rules)
      → AllByRecursion Q (list_peers (policy_filters stamped labels dir n rules))
  of_policy stamped labels dir n [] all = tt
  of_policy stamped labels dir n (rule ∷ rules) all =
      let parts = every-parts Q (rule_peers rule) (flat_map rule_peers rules) all in
      by (matches rule.subject labels) parts.0 (of_policy stamped labels dir (n + 1) rules parts.1)
    where
      by : (b : Bool) → AllByRecursion Q (rule_peers rule) → AllByRecursion Q (list_peers (policy_filters stamped labels dir (n + 1) rules))
          → AllByRecursion Q (list_peers (cond b (rule_filters stamped dir n rule ++ policy_filters stamped labels dir (n + 1) rules) (policy_filters stamped labels dir (n + 1) rules)))
      by true here rest = joined (rule_filters stamped dir n rule) (policy_filters stamped labels dir (n + 1) rules) (of_rule stamped dir n rule here) rest
      by false here rest = rest

  of_policies : (labels : List Label) (dir : Direction) (policies : List Stamped) → AllByRecursion Q (peers_of policies)
      → AllByRecursion Q (list_peers (filters_in policies labels dir))
  of_policies labels dir [] all = tt
  of_policies labels dir (stamped ∷ policies) all =
      let parts = every-parts Q (listed_peers stamped.policy) (peers_of policies) all in
      joined (policy_filters stamped labels dir 0 stamped.policy.rules) (filters_in policies labels dir)
      (of_policy stamped labels dir 0 stamped.policy.rules parts.0) (of_policies labels dir policies parts.1)

-- ---- so each listed peer has its row
module _ (rows : List SetRow) where
  abbrev Has : Peer → Type 0
  Has p = IsTrue (has_set rows p)

  peers_have : (ps : Peers) → AllByRecursion Has (peers_in ps) → PeersHaveSets rows ps
  peers_have Every all = tt
  peers_have (Listed ps) all = all

  lists_have : (filters : List Filter) → AllByRecursion Has (list_peers filters) → ListHasSets rows filters
  lists_have [] all = tt
  lists_have (one ∷ filters) all =
      let parts = every-parts Has (peers_in one.peers) (list_peers filters) all in
      (peers_have one.peers parts.0, lists_have filters parts.1)

  pub filters_serve : (filters : Filters) → AllByRecursion Has (filters_peers filters) → HaveSets rows filters
  filters_serve filters all =
      let parts = every-parts Has (list_peers filters.ingress) (list_peers filters.egress) all in
      record { ingress = lists_have filters.ingress parts.0; egress = lists_have filters.egress parts.1 }

  pub filters_have : (policies : List Stamped) (labels : List Label) (mode : Mode) (localhost : Bool) → AllByRecursion Has (peers_of policies)
      → AllByRecursion Has (filters_peers (filters_for policies labels mode localhost))
  filters_have policies labels mode localhost all =
      every-append Has (list_peers (filters_in policies labels Ingress)) (list_peers (filters_in policies labels Egress))
      (of_policies Has labels Ingress policies all) (of_policies Has labels Egress policies all)

-- ---- and the sets are those of the state
module _ (identities : List IdentityRow) (rows : List SetRow) (exact : AreExact identities rows) where
  pub given_is : (p : Peer) → IsTrue (has_set rows p) → set_given rows p ≡ set_at identities p
  given_is p there =
      let one = found-some (is_row_of p) rows there in
      let at = find-In (is_row_of p) one.0 rows one.1 in
      ap (λ o. option_map_or (λ (row : SetRow). arc_value row.set) o []) one.1
      ∙ every-in (λ (row : SetRow). arc_value row.set ≡ set_at identities row.peer) rows exact one.0 at.0
      ∙ ap (set_at identities) ((peer_eq-Decides one.0.peer p).0 at.1)

  peers_agree : (ps : Peers) → PeersHaveSets rows ps → AgreeOnPeers (set_given rows) (set_at identities) ps
  peers_agree Every have = tt
  peers_agree (Listed ps) have = every-weaker (λ p. IsTrue (has_set rows p)) _ (λ p there _. given_is p there) ps have

  entries_agree : (test : Filter → Bool) (filters : List Filter) → ListHasSets rows filters → AgreeOnEntries (set_given rows) (set_at identities) (map entry_of (filter test filters))
  entries_agree test filters have =
      every-map (λ entry. AgreeOnPeers (set_given rows) (set_at identities) entry.peers) entry_of (filter test filters)
      (every-kept (λ one. AgreeOnPeers (set_given rows) (set_at identities) one.peers) test filters
      (every-weaker (λ one. PeersHaveSets rows one.peers) (λ one. AgreeOnPeers (set_given rows) (set_at identities) one.peers) (λ one has. peers_agree one.peers has) filters have))

  in_direction : (filters : Filters) → HaveSets rows filters → (dir : Direction) → ListHasSets rows (filters_of filters dir)
  in_direction filters have Ingress = have.ingress
  in_direction filters have Egress = have.egress

  pub parts_agree : (filters : Filters) → HaveSets rows filters → AgreeOnParts (set_given rows) (set_at identities) (filter_parts filters)
  parts_agree filters have = record {
    allows = λ dir. entries_agree _ (filters_of filters dir) (in_direction filters have dir);
    denies = λ dir. entries_agree _ (filters_of filters dir) (in_direction filters have dir);
  }

-- ---- one row more
any_left : {X : Type 0} (p : X → Bool) (xs ys : List X) → list_any p xs ≡ true → list_any p (xs ++ ys) ≡ true
any_left p xs ys some = let one = In-list_any p xs some in list_any-In p one.0 (xs ++ ys) (In-left one.0 xs ys one.1) one.2

any_last : {X : Type 0} (p : X → Bool) (xs : List X) (x : X) → p x ≡ true → list_any p (xs ++ x ∷ []) ≡ true
any_last p xs x here = list_any-In p x (xs ++ x ∷ []) (In-right x xs (x ∷ []) (inl refl)) here

module _ (identities : List IdentityRow) where
  pub no_rows : (rows : List SetRow) → rows ≡ [] → AreSetsOf identities [] rows
  no_rows rows none = subst (AreSetsOf identities []) (sym none) (record { every = tt; exact = tt })

  pub row_more : (peers : List Peer) (p : Peer) (rows : List SetRow) (row : SetRow) → row.peer ≡ p → arc_value row.set ≡ set_at identities p
      → AreSetsOf identities peers rows → AreSetsOf identities (peers ++ p ∷ []) (rows ++ row ∷ [])
  row_more peers p rows row own set was = record {
    every = every-append (λ q. IsTrue (has_set (rows ++ row ∷ []) q)) peers (p ∷ [])
        (every-weaker (λ q. IsTrue (has_set rows q)) (λ q. IsTrue (has_set (rows ++ row ∷ []) q)) (λ q there. any_left (is_row_of q) rows (row ∷ []) there) peers was.every)
        (any_last (is_row_of p) rows row ((peer_eq-Decides row.peer p).1 own), tt);
    exact = every-append (λ (r : SetRow). arc_value r.set ≡ set_at identities r.peer) rows (row ∷ []) was.exact (set ∙ ap (set_at identities) (sym own), tt);
  }

-- ---- numbers that ascend are a set's
pub strictly : (xs : List ℕ) → Ascends xs → IsStrictlySortedBy nat_cmp xs
unfolding IsStrictlySortedBy
strictly [] ascends = tt
strictly (x ∷ xs) ascends =
    (every-weaker (λ y. x < y) (λ y. nat_cmp x y ≡ Less) (λ y below. cond-true _ Less _ (lt-ltb x y below)) xs ascends.0, strictly xs ascends.1)
