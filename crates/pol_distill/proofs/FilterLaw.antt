-- What an endpoint's filters put into a map is what the rules that select it do.
use Rattle.std.proofs.Common.{◌≡◌, ℕ, ◌+◌, Bool, true, false, not, cond, List, [], ◌∷◌, ◌++◌, map, filter, IsTrue, ◌↔◌, refl, sym, ◌∙◌, ap, append-nil}
use Rattle.std.proofs.lemmas.Grind.{flat_map-append}
use Rattle.std.specs.List.{flat_map}
use Rattle.pol_labels.specs.Match.{matches}
use Rattle.pol_ports.specs.declared.Direction.{Direction}
use Rattle.pol_ports.specs.declared.Direction.TheVariants.{Ingress, Egress}
use Rattle.pol_mapkey.specs.Entries.{Entry as MapEntry}
use Rattle.pol_mapkey.specs.declared.Kind.{Kind}
use Rattle.pol_mapkey.specs.declared.Kind.TheVariants.{Allow, Deny}
use Rattle.pol_rule.specs.Covers.{has_effect, section_of}
use Rattle.pol_rule.specs.declared.policy.Entry.{Entry}
use Rattle.pol_rule.specs.declared.policy.Peer.{Peer}
use Rattle.pol_rule.specs.declared.policy.Rule.{Rule}
use Rattle.pol_rule.specs.declared.policy.Section.{Section}
use Rattle.pol_model.specs.declared.limits.TheConstants.{INIT_IDENTITY}
use Rattle.pol_model.specs.declared.options.Options.{Options}
use Rattle.pol_model.specs.declared.row.Endpoint.{Endpoint}
use Rattle.pol_model.specs.declared.row.Stamped.{Stamped}
use Rattle.pol_model.specs.Enforced.{allow_section, deny_section, rule_selects}
use Rattle.pol_model.specs.Fault.{is_init}
use Rattle.pol_model.specs.PolicyMap.{allow_every, canonical, direction_entries, entry_entries, localhost_entries, map_parts, peers_numbers, policy_map, ports_keys, raw_entries, selecting_rules}
use Rattle.pol_model.specs.Selects.{set_at}
use Rattle.pol_model.specs.State.{State}
use Rattle.pol_model.specs.Verdict.{is_never}
use Rattle.pol_model_laws.proofs.PeerSets.{map_same}
use Rattle.pol_sets.specs.declared.sets.SetRow.{SetRow}
use Rattle.pol_sets.specs.Sets.{set_given}
use Rattle.pol_filters.specs.declared.filter.Filter.{Filter}
use Rattle.pol_filters.specs.FilterParts.{allowing, denying, entry_of, filter_parts}
use Rattle.pol_filters.specs.Resolved.{denies, entry_filters, filter_at, filters_in, labels_enforced, policy_filters, rule_filters}
use Rattle.pol_filters.proofs.EnforcedBy.{enforced_by_labels}
use Rattle.pol_distill.specs.Distilled.{HasSetsOf, distilled, filters_at}

filter_append : {X : Type 0} (p : X → Bool) (xs ys : List X) → filter p (xs ++ ys) ≡ filter p xs ++ filter p ys
filter_append p [] ys = refl
filter_append p (x ∷ xs) ys = by_pass (p x) (filter_append p xs ys)
  where
    by_pass : (b : Bool) → filter p (xs ++ ys) ≡ filter p xs ++ filter p ys
        → cond b (x ∷ filter p (xs ++ ys)) (filter p (xs ++ ys)) ≡ cond b (x ∷ filter p xs) (filter p xs) ++ filter p ys
    by_pass true same = ap (λ l. x ∷ l) same
    by_pass false same = same

map_append : {X Y : Type 0} (f : X → Y) (xs ys : List X) → map f (xs ++ ys) ≡ map f xs ++ map f ys
map_append f [] ys = refl
map_append f (x ∷ xs) ys = ap (λ l. f x ∷ l) (map_append f xs ys)

-- filters that pass a test of their section, and what entries without effect give nothing to
module _ {Y : Type 0} (f : Entry → List Y) (idle : (e : Entry) → has_effect e ≡ false → f e ≡ []) (p : Filter → Bool) (q : Section → Bool)
    (tested : (stamped : Stamped) (n : ℕ) (part : Section) (k : ℕ) (e : Entry) → p (filter_at stamped n part k e) ≡ q part) where
  picked : List Filter → List Entry
  picked filters = map entry_of (filter p filters)

  picked_append : (xs ys : List Filter) → flat_map f (picked (xs ++ ys)) ≡ flat_map f (picked xs) ++ flat_map f (picked ys)
  unfolding picked
  picked_append xs ys =
      ap (λ l. flat_map f (map entry_of l)) (filter_append p xs ys)
      ∙ ap (flat_map f) (map_append entry_of (filter p xs) (filter p ys))
      ∙ flat_map-append f (picked xs) (picked ys)

  taken_first : (b : Bool) (x : Filter) (xs : List Filter) → p x ≡ b → filter p (x ∷ xs) ≡ cond b (x ∷ filter p xs) (filter p xs)
  taken_first b x xs is = ap (λ c. cond c (x ∷ filter p xs) (filter p xs)) is

  -- a section that passes gives what its entries do, and another gives nothing
  given : (stamped : Stamped) (n : ℕ) (part : Section) (k : ℕ) (es : List Entry) → q part ≡ true
      → flat_map f (picked (entry_filters (filter_at stamped n part) k es)) ≡ flat_map f es
  unfolding picked
  given stamped n part k [] t = refl
  given stamped n part k (e ∷ es) t = by_effect (has_effect e) refl (given stamped n part (k + 1) es t)
    where
      others : List Filter
      others = entry_filters (filter_at stamped n part) (k + 1) es

      by_effect : (b : Bool) → has_effect e ≡ b → flat_map f (picked others) ≡ flat_map f es
          → flat_map f (picked (cond b (filter_at stamped n part k e ∷ others) others)) ≡ f e ++ flat_map f es
      by_effect true is rest =
          ap (λ l. flat_map f (map entry_of l)) (taken_first true (filter_at stamped n part k e) others (tested stamped n part k e ∙ t))
          ∙ ap (λ l. f e ++ l) rest
      by_effect false is rest = rest ∙ ap (λ l. l ++ flat_map f es) (sym (idle e is))

  kept_out : (stamped : Stamped) (n : ℕ) (part : Section) (k : ℕ) (es : List Entry) → q part ≡ false
      → flat_map f (picked (entry_filters (filter_at stamped n part) k es)) ≡ []
  unfolding picked
  kept_out stamped n part k [] no' = refl
  kept_out stamped n part k (e ∷ es) no' = by_effect (has_effect e) (kept_out stamped n part (k + 1) es no')
    where
      others : List Filter
      others = entry_filters (filter_at stamped n part) (k + 1) es

      by_effect : (b : Bool) → flat_map f (picked others) ≡ [] → flat_map f (picked (cond b (filter_at stamped n part k e ∷ others) others)) ≡ []
      by_effect true rest =
          ap (λ l. flat_map f (map entry_of l)) (taken_first false (filter_at stamped n part k e) others (tested stamped n part k e ∙ no')) ∙ rest
      by_effect false rest = rest

  module _ (dir : Direction) (wanted : Section)
      (rule_gives : (stamped : Stamped) (n : ℕ) (rule : Rule) → flat_map f (picked (rule_filters stamped dir n rule)) ≡ flat_map f (section_of wanted rule))
      (endpoint : Endpoint) where
    rules_give : (stamped : Stamped) (n : ℕ) (rules : List Rule) → flat_map f (picked (policy_filters stamped endpoint.labels dir n rules))
        ≡ flat_map f (flat_map (section_of wanted) (filter (rule_selects endpoint) rules))
    unfolding picked
    rules_give stamped n [] = refl
    rules_give stamped n (rule ∷ rules) = by_match (matches rule.subject endpoint.labels) (rules_give stamped (n + 1) rules)
      where
        own : List Filter
        own = rule_filters stamped dir n rule

        others : List Filter
        others = policy_filters stamped endpoint.labels dir (n + 1) rules

        kept : List Rule
        kept = filter (rule_selects endpoint) rules

        by_match : (b : Bool) → flat_map f (picked others) ≡ flat_map f (flat_map (section_of wanted) kept)
            → flat_map f (picked (cond b (own ++ others) others)) ≡ flat_map f (flat_map (section_of wanted) (cond b (rule ∷ kept) kept))
        by_match false rest = rest
        by_match true rest =
            picked_append own others
            ∙ (λ i. rule_gives stamped n rule i ++ rest i)
            ∙ sym (flat_map-append f (section_of wanted rule) (flat_map (section_of wanted) kept))

    policies_give : (policies : List Stamped) → flat_map f (picked (filters_in policies endpoint.labels dir))
        ≡ flat_map f (flat_map (section_of wanted) (selecting_rules policies endpoint))
    unfolding picked
    policies_give [] = refl
    policies_give (stamped ∷ policies) =
        let rules = stamped.policy.rules in
        let later = flat_map (λ (s : Stamped). s.policy.rules) policies in
        let first = filter (rule_selects endpoint) rules in
        let rest = filter (rule_selects endpoint) later in
        picked_append (policy_filters stamped endpoint.labels dir 0 rules) (filters_in policies endpoint.labels dir)
        ∙ (λ i. rules_give stamped 0 rules i ++ policies_give policies i)
        ∙ sym (flat_map-append f (flat_map (section_of wanted) first) (flat_map (section_of wanted) rest))
        ∙ ap (flat_map f) (sym (flat_map-append (section_of wanted) first rest))
        ∙ ap (λ l. flat_map f (flat_map (section_of wanted) l)) (sym (filter_append (rule_selects endpoint) rules later))

allow_passes : (dir : Direction) → denies (allow_section dir) ≡ false
allow_passes Ingress = refl
allow_passes Egress = refl

deny_passes : (dir : Direction) → denies (deny_section dir) ≡ true
deny_passes Ingress = refl
deny_passes Egress = refl

module _ {Y : Type 0} (f : Entry → List Y) (idle : (e : Entry) → has_effect e ≡ false → f e ≡ []) (dir : Direction) (endpoint : Endpoint)
    (policies : List Stamped) where
  pub allows_give : flat_map f (allowing (filters_in policies endpoint.labels dir)) ≡ flat_map f (flat_map (section_of (allow_section dir)) (selecting_rules policies endpoint))
  unfolding picked
  allows_give =
      let p : Filter → Bool = λ one. not one.deny in
      let q : Section → Bool = λ part. not (denies part) in
      policies_give f idle p q (λ stamped n part k e. refl) dir (allow_section dir) (λ stamped n rule.
      let front = entry_filters (filter_at stamped n (allow_section dir)) 0 (section_of (allow_section dir) rule) in
      let back = entry_filters (filter_at stamped n (deny_section dir)) 0 (section_of (deny_section dir) rule) in
      picked_append f idle p q (λ stamped n part k e. refl) front back
      ∙ (λ i. given f idle p q (λ stamped n part k e. refl) stamped n (allow_section dir) 0 (section_of (allow_section dir) rule) (ap not (allow_passes dir)) i
      ++ kept_out f idle p q (λ stamped n part k e. refl) stamped n (deny_section dir) 0 (section_of (deny_section dir) rule) (ap not (deny_passes dir)) i)
      ∙ append-nil (flat_map f (section_of (allow_section dir) rule))) endpoint policies

  pub denies_give : flat_map f (denying (filters_in policies endpoint.labels dir)) ≡ flat_map f (flat_map (section_of (deny_section dir)) (selecting_rules policies endpoint))
  unfolding picked
  denies_give =
      let p : Filter → Bool = λ one. one.deny in
      policies_give f idle p denies (λ stamped n part k e. refl) dir (deny_section dir) (λ stamped n rule.
      let front = entry_filters (filter_at stamped n (allow_section dir)) 0 (section_of (allow_section dir) rule) in
      let back = entry_filters (filter_at stamped n (deny_section dir)) 0 (section_of (deny_section dir) rule) in
      picked_append f idle p denies (λ stamped n part k e. refl) front back
      ∙ (λ i. kept_out f idle p denies (λ stamped n part k e. refl) stamped n (allow_section dir) 0 (section_of (allow_section dir) rule) (allow_passes dir) i
      ++ given f idle p denies (λ stamped n part k e. refl) stamped n (deny_section dir) 0 (section_of (deny_section dir) rule) (deny_passes dir) i)) endpoint policies

idle_entry : (set : Peer → List ℕ) (dir : Direction) (kind : Kind) (e : Entry) → has_effect e ≡ false → entry_entries set dir kind e ≡ []
idle_entry set dir kind e none =
    ap (λ b. cond b (flat_map (λ id. map (λ key. (key, kind)) (ports_keys dir id e.ports)) (peers_numbers set e.peers)) []) none

module _ (options : Options) (s : State) (endpoint : Endpoint) (init : (endpoint.identity ≡ INIT_IDENTITY) ↔ IsTrue (is_init endpoint.labels)) where
  module _ (set : Peer → List ℕ) where
    -- what filters, and what rules, put into a direction
    filters_put : Direction → List MapEntry
    filters_put dir =
        flat_map (entry_entries set dir Allow) (allowing (filters_in s.policies endpoint.labels dir))
        ++ flat_map (entry_entries set dir Deny) (denying (filters_in s.policies endpoint.labels dir))
        ++ cond (labels_enforced s.mode s.policies endpoint.labels dir) [] (allow_every dir 0 ∷ [])
        ++ localhost_entries (map_parts options s endpoint) dir

    put_alike : (dir : Direction) → filters_put dir ≡ direction_entries set (map_parts options s endpoint) dir
    unfolding filters_put
    put_alike dir =
        λ i. allows_give (entry_entries set dir Allow) (idle_entry set dir Allow) dir endpoint s.policies i
        ++ denies_give (entry_entries set dir Deny) (idle_entry set dir Deny) dir endpoint s.policies i
        ++ cond (enforced_by_labels s.mode s.policies endpoint dir init i) [] (allow_every dir 0 ∷ [])
        ++ localhost_entries (map_parts options s endpoint) dir

    raw_alike : raw_entries set (filter_parts (filters_at options s endpoint)) ≡ raw_entries set (map_parts options s endpoint)
    unfolding filters_put
    raw_alike = λ i. cond (is_never s.mode) (allow_every Ingress 0 ∷ allow_every Egress 0 ∷ []) (put_alike Ingress i ++ put_alike Egress i)

  -- the canonical map of the filters, with the sets of the state, is the endpoint's policy map
  pub distilled_is : (rows : List SetRow) → HasSetsOf options s endpoint rows → distilled (filters_at options s endpoint) rows ≡ policy_map options s endpoint
  distilled_is rows agree =
      map_same (set_given rows) (set_at s.identities) (filter_parts (filters_at options s endpoint)) agree
      ∙ ap canonical (raw_alike (set_at s.identities))
