-- The places of filters are those that an explanation names.
use Rattle.std.proofs.Common.{◌≡◌, ℕ, ◌+◌, ◌&&◌, Bool, true, false, not, cond, List, [], ◌∷◌, ◌++◌, map, filter, refl, sym, ◌∙◌, ap, append-nil}
use Rattle.pol_labels.specs.Match.{matches}
use Rattle.pol_ports.specs.declared.Direction.{Direction}
use Rattle.pol_ports.specs.declared.Direction.TheVariants.{Ingress, Egress}
use Rattle.pol_ports.specs.declared.Proto.{Proto}
use Rattle.pol_rule.specs.Covers.{entry_covers, has_effect, peers_take, ports_cover, section_of}
use Rattle.pol_rule.specs.declared.policy.Entry.{Entry}
use Rattle.pol_rule.specs.declared.policy.Peer.{Peer}
use Rattle.pol_rule.specs.declared.policy.Place.{Place}
use Rattle.pol_rule.specs.declared.policy.Rule.{Rule}
use Rattle.pol_rule.specs.declared.policy.Section.{Section}
use Rattle.pol_model.specs.declared.row.Endpoint.{Endpoint}
use Rattle.pol_model.specs.declared.row.Stamped.{Stamped}
use Rattle.pol_model.specs.Enforced.{allow_section, deny_section, rule_selects}
use Rattle.pol_model.specs.Explain.{covering_places, entry_places, rule_places}
use Rattle.pol_filters.specs.declared.filter.Filter.{Filter}
use Rattle.pol_filters.specs.FilterParts.{entry_of}
use Rattle.pol_filters.specs.Resolved.{denies, entry_filters, filter_at, filters_in, policy_filters, rule_filters}

-- a test of filters that asks for their section and their entry
module _ (q : Section → Bool) (passes : Entry → Bool) (idle : (e : Entry) → has_effect e ≡ false → passes e ≡ false) (p : Filter → Bool)
    (tested : (stamped : Stamped) (n : ℕ) (part : Section) (k : ℕ) (e : Entry) → p (filter_at stamped n part k e) ≡ (q part && passes e)) where
  places : List Filter → List Place
  places filters = map (λ one. one.place) (filter p filters)

  places_append : (xs ys : List Filter) → places (xs ++ ys) ≡ places xs ++ places ys
  unfolding places
  places_append [] ys = refl
  places_append (x ∷ xs) ys = by_pass (p x) (places_append xs ys)
    where
      by_pass : (b : Bool) → places (xs ++ ys) ≡ places xs ++ places ys
          → map (λ (one : Filter). one.place) (cond b (x ∷ filter p (xs ++ ys)) (filter p (xs ++ ys))) ≡ map (λ (one : Filter). one.place) (cond b (x ∷ filter p xs) (filter p xs)) ++ places ys
      by_pass true same = ap (λ l. x.place ∷ l) same
      by_pass false same = same

  place_at : Stamped → ℕ → Section → ℕ → Place
  place_at stamped n part k = record { key = stamped.policy.key; rule = n; section = part; entry = k }

  -- a section that passes has the places of its entries that pass, and another has none
  section_places : (stamped : Stamped) (n : ℕ) (part : Section) (k : ℕ) (es : List Entry) → q part ≡ true
      → places (entry_filters (filter_at stamped n part) k es) ≡ entry_places passes stamped.policy.key n part k es
  unfolding places place_at
  section_places stamped n part k [] t = refl
  section_places stamped n part k (e ∷ es) t = by_effect (has_effect e) refl (section_places stamped n part (k + 1) es t)
    where
      others : List Filter
      others = entry_filters (filter_at stamped n part) (k + 1) es

      by_pass : (b : Bool) → p (filter_at stamped n part k e) ≡ b → passes e ≡ b → (listed : List Place) → places others ≡ listed
          → places (filter_at stamped n part k e ∷ others) ≡ cond (passes e) (place_at stamped n part k ∷ listed) listed
      by_pass true one two listed rest =
          ap (λ c. map (λ (one : Filter). one.place) (cond c (filter_at stamped n part k e ∷ filter p others) (filter p others))) one
          ∙ ap (λ l. place_at stamped n part k ∷ l) rest
          ∙ sym (ap (λ c. cond c (place_at stamped n part k ∷ listed) listed) two)
      by_pass false one two listed rest =
          ap (λ c. map (λ (one : Filter). one.place) (cond c (filter_at stamped n part k e ∷ filter p others) (filter p others))) one
          ∙ rest
          ∙ sym (ap (λ c. cond c (place_at stamped n part k ∷ listed) listed) two)

      by_effect : (b : Bool) → has_effect e ≡ b → places others ≡ entry_places passes stamped.policy.key n part (k + 1) es
          → places (cond b (filter_at stamped n part k e ∷ others) others)
          ≡ cond (passes e) (place_at stamped n part k ∷ entry_places passes stamped.policy.key n part (k + 1) es) (entry_places passes stamped.policy.key n part (k + 1) es)
      by_effect true is rest =
          by_pass (passes e) (tested stamped n part k e ∙ ap (λ b. b && passes e) t) refl (entry_places passes stamped.policy.key n part (k + 1) es) rest
      by_effect false is rest =
          rest ∙ sym (ap (λ c. cond c (place_at stamped n part k ∷ entry_places passes stamped.policy.key n part (k + 1) es) (entry_places passes stamped.policy.key n part (k + 1) es)) (idle e is))

  no_places : (stamped : Stamped) (n : ℕ) (part : Section) (k : ℕ) (es : List Entry) → q part ≡ false → places (entry_filters (filter_at stamped n part) k es) ≡ []
  unfolding places
  no_places stamped n part k [] no' = refl
  no_places stamped n part k (e ∷ es) no' = by_effect (has_effect e) (no_places stamped n part (k + 1) es no')
    where
      others : List Filter
      others = entry_filters (filter_at stamped n part) (k + 1) es

      by_effect : (b : Bool) → places others ≡ [] → places (cond b (filter_at stamped n part k e ∷ others) others) ≡ []
      by_effect true rest =
          ap (λ c. map (λ (one : Filter). one.place) (cond c (filter_at stamped n part k e ∷ filter p others) (filter p others)))
          (tested stamped n part k e ∙ ap (λ b. b && passes e) no')
          ∙ rest
      by_effect false rest = rest

  module _ (dir : Direction) (wanted : Section)
      (rule_gives : (stamped : Stamped) (n : ℕ) (rule : Rule) → places (rule_filters stamped dir n rule) ≡ entry_places passes stamped.policy.key n wanted 0 (section_of wanted rule))
      (endpoint : Endpoint) where
    rules_places : (stamped : Stamped) (n : ℕ) (rules : List Rule) → places (policy_filters stamped endpoint.labels dir n rules)
        ≡ rule_places (rule_selects endpoint) passes stamped.policy.key wanted n rules
    unfolding places
    rules_places stamped n [] = refl
    rules_places stamped n (rule ∷ rules) = by_match (matches rule.subject endpoint.labels) (rules_places stamped (n + 1) rules)
      where
        own : List Filter
        own = rule_filters stamped dir n rule

        others : List Filter
        others = policy_filters stamped endpoint.labels dir (n + 1) rules

        listed : List Place
        listed = rule_places (rule_selects endpoint) passes stamped.policy.key wanted (n + 1) rules

        by_match : (b : Bool) → places others ≡ listed → places (cond b (own ++ others) others)
            ≡ cond b (entry_places passes stamped.policy.key n wanted 0 (section_of wanted rule) ++ listed) listed
        by_match true rest = places_append own others ∙ (λ i. rule_gives stamped n rule i ++ rest i)
        by_match false rest = rest

    policies_places : (policies : List Stamped) → places (filters_in policies endpoint.labels dir) ≡ covering_places policies endpoint wanted passes
    unfolding places
    policies_places [] = refl
    policies_places (stamped ∷ policies) =
        places_append (policy_filters stamped endpoint.labels dir 0 stamped.policy.rules) (filters_in policies endpoint.labels dir)
        ∙ (λ i. rules_places stamped 0 stamped.policy.rules i ++ policies_places policies i)

allow_passes : (dir : Direction) → denies (allow_section dir) ≡ false
allow_passes Ingress = refl
allow_passes Egress = refl

deny_passes : (dir : Direction) → denies (deny_section dir) ≡ true
deny_passes Ingress = refl
deny_passes Egress = refl

module _ (passes : Entry → Bool) (idle : (e : Entry) → has_effect e ≡ false → passes e ≡ false) (policies : List Stamped) (endpoint : Endpoint) (dir : Direction) where
  pub denies_explained : map (λ (one : Filter). one.place) (filter (λ one. one.deny && passes (entry_of one)) (filters_in policies endpoint.labels dir))
      ≡ covering_places policies endpoint (deny_section dir) passes
  unfolding places
  denies_explained =
      let p : Filter → Bool = λ one. one.deny && passes (entry_of one) in
      policies_places denies passes idle p (λ stamped n part k e. refl) dir (deny_section dir) (λ stamped n rule.
      let front = entry_filters (filter_at stamped n (allow_section dir)) 0 (section_of (allow_section dir) rule) in
      let back = entry_filters (filter_at stamped n (deny_section dir)) 0 (section_of (deny_section dir) rule) in
      places_append denies passes idle p (λ stamped n part k e. refl) front back
      ∙ (λ i. no_places denies passes idle p (λ stamped n part k e. refl) stamped n (allow_section dir) 0 (section_of (allow_section dir) rule) (allow_passes dir) i
      ++ section_places denies passes idle p (λ stamped n part k e. refl) stamped n (deny_section dir) 0 (section_of (deny_section dir) rule) (deny_passes dir) i)) endpoint policies

  pub allows_explained : map (λ (one : Filter). one.place) (filter (λ one. not one.deny && passes (entry_of one)) (filters_in policies endpoint.labels dir))
      ≡ covering_places policies endpoint (allow_section dir) passes
  unfolding places
  allows_explained =
      let p : Filter → Bool = λ one. not one.deny && passes (entry_of one) in
      let q : Section → Bool = λ part. not (denies part) in
      policies_places q passes idle p (λ stamped n part k e. refl) dir (allow_section dir) (λ stamped n rule.
      let front = entry_filters (filter_at stamped n (allow_section dir)) 0 (section_of (allow_section dir) rule) in
      let back = entry_filters (filter_at stamped n (deny_section dir)) 0 (section_of (deny_section dir) rule) in
      places_append q passes idle p (λ stamped n part k e. refl) front back
      ∙ (λ i. section_places q passes idle p (λ stamped n part k e. refl) stamped n (allow_section dir) 0 (section_of (allow_section dir) rule) (ap not (allow_passes dir)) i
      ++ no_places q passes idle p (λ stamped n part k e. refl) stamped n (deny_section dir) 0 (section_of (deny_section dir) rule) (ap not (deny_passes dir)) i)
      ∙ append-nil (entry_places passes stamped.policy.key n (allow_section dir) 0 (section_of (allow_section dir) rule))) endpoint policies

-- an entry without effect covers nothing
pub idle_covers : (takes : Peer → Bool) (proto : Proto) (port : ℕ) (e : Entry) → has_effect e ≡ false → entry_covers takes proto port e ≡ false
idle_covers takes proto port e none = ap (λ b. b && peers_take takes e.peers && ports_cover proto port e.ports) none
