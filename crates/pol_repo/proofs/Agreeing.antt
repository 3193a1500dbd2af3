-- Two sides of a packet that the peers of all policies take alike get one verdict.
use Rattle.std.proofs.Common.{◌≡◌, ℕ, Bool, not, ◌&&◌, ◌||◌, List, [], ◌∷◌, ◌++◌, inl, inr, refl, sym, ap, subst}
use Rattle.std.specs.Prelude.{if◌then◌else◌}
use Rattle.std.specs.List.{flat_map, list_any}
use Rattle.std.proofs.lemmas.Bool.{cases_Bool}
use Rattle.pol_addr.specs.declared.network.Prefix.{Prefix}
use Rattle.pol_addr.specs.Prefix.{same_prefix}
use Rattle.pol_ports.specs.declared.Direction.{Direction}
use Rattle.pol_ports.specs.declared.Proto.{Proto}
use Rattle.pol_mapkey.specs.declared.Word.TheVariants.{Allowed, DeniedByRule, DeniedByDefault}
use Rattle.pol_rule.specs.Covers.{section_of, entry_covers, has_effect, peers_take, ports_cover}
use Rattle.pol_rule.specs.Listed.{listed_peers, peers_in, rule_entries, rule_peers}
use Rattle.pol_rule.specs.Prefixes.{distinct, peer_prefixes, policy_prefixes}
use Rattle.pol_rule.specs.declared.policy.Entry.{Entry}
use Rattle.pol_rule.specs.declared.policy.Peer.{Peer}
use Rattle.pol_rule.specs.declared.policy.Peers.{Peers}
use Rattle.pol_rule.specs.declared.policy.Peers.TheVariants.{Every, Listed}
use Rattle.pol_rule.specs.declared.policy.Policy.{Policy}
use Rattle.pol_rule.specs.declared.policy.Rule.{Rule}
use Rattle.pol_rule.specs.declared.policy.Section.{Section}
use Rattle.pol_rule.specs.declared.policy.Section.TheVariants as section
use Rattle.pol_model.specs.Enforced.{allow_section, deny_section, enforced, has_rule, rule_selects}
use Rattle.pol_model.specs.State.{State}
use Rattle.pol_model.specs.Verdict.{Side, is_ingress, is_never, rule_covers, some_covers, verdict_on}
use Rattle.pol_model.specs.declared.options.Options.{Options}
use Rattle.pol_model.specs.declared.row.Endpoint.{Endpoint}
use Rattle.pol_model.specs.declared.row.Stamped.{Stamped}
use Rattle.pol_data.proofs.Members.{In}
use Rattle.pol_model_laws.proofs.Ledger.{same_prefix-is}
use Rattle.pol_model_laws.proofs.Membership.{filter-In}
use Rattle.pol_set_moves.proofs.InRules.{In-flat_map, in_rule}

-- ---- lists

any_within : {X : Type 0} (p q : X → Bool) (xs : List X) → ((x : X) → In x xs → p x ≡ q x) → list_any p xs ≡ list_any q xs
any_within p q [] same = refl
any_within p q (x ∷ xs) same = λ i. same x (inl refl) i || any_within p q xs (λ y later. same y (inr later)) i

-- each prefix stands once among the distinct ones
in_distinct : (prefix : Prefix) (prefixes : List Prefix) → In prefix prefixes → In prefix (distinct prefixes)
in_distinct prefix [] there = elim there [ ]
in_distinct prefix (first ∷ others) (inl same) = inl same
in_distinct prefix (first ∷ others) (inr later) =
    elim (cases_Bool (same_prefix first prefix)) [
      | inl same ↦ inl (same_prefix-is first prefix same)
      | inr other ↦ inr (filter-In (λ q. not (same_prefix first q)) prefix (distinct others) (in_distinct prefix others later) (ap not other))
    ]

-- ---- peers, entries, rules, policies

-- the two tests agree on each peer whose prefixes are among these
abbrev AgreeOver : (f g : Peer → Bool) → List Prefix → Type 0
AgreeOver f g prefixes = (p : Peer) → ((prefix : Prefix) → In prefix (peer_prefixes p) → In prefix prefixes) → f p ≡ g p

-- the two tests agree on the peers of the policies
abbrev pub Agree : (f g : Peer → Bool) → List Stamped → Type 0
Agree f g policies = (stamped : Stamped) → In stamped policies → AgreeOver f g (policy_prefixes stamped.policy)

-- the two tests agree on each of these
abbrev AgreeOn : (f g : Peer → Bool) → List Peer → Type 0
AgreeOn f g peers = (p : Peer) → In p peers → f p ≡ g p

module _ (f g : Peer → Bool) where
  peers_agree : (peers : Peers) → AgreeOn f g (peers_in peers) → peers_take f peers ≡ peers_take g peers
  peers_agree Every agree = refl
  peers_agree (Listed peers) agree = any_within f g peers agree

  listed_agree : (policy : Policy) → AgreeOver f g (policy_prefixes policy) → AgreeOn f g (listed_peers policy)
  listed_agree policy agree p listed =
      agree p (λ prefix its.
      in_distinct prefix (flat_map peer_prefixes (listed_peers policy)) (In-flat_map peer_prefixes prefix p (listed_peers policy) listed its))

  module _ (proto : Proto) (port : ℕ) where
    rule_agrees : (s : Section) (rule : Rule) → AgreeOn f g (rule_peers rule)
        → list_any (entry_covers f proto port) (section_of s rule) ≡ list_any (entry_covers g proto port) (section_of s rule)
    rule_agrees s rule agree =
        any_within (entry_covers f proto port) (entry_covers g proto port) (section_of s rule) (λ entry there.
        let its : AgreeOn f g (peers_in entry.peers)
        = λ p among. agree p (In-flat_map (λ e. peers_in e.peers) p entry (rule_entries rule) (in_rule s rule entry there) among) in
        ap (λ b. has_effect entry && b && ports_cover proto port entry.ports) (peers_agree entry.peers its))

    policies_agree : (policies : List Stamped) (endpoint : Endpoint) (s : Section) → Agree f g policies
        → some_covers policies endpoint s f proto port ≡ some_covers policies endpoint s g proto port
    unfolding has_rule rule_covers
    policies_agree policies endpoint s agree =
        any_within _ _ policies (λ stamped there.
        any_within _ _ stamped.policy.rules (λ rule within.
        ap (λ b. rule_selects endpoint rule && b) (rule_agrees s rule (λ p among.
        listed_agree stamped.policy (agree stamped there) p (In-flat_map rule_peers p rule stamped.policy.rules within among)))))

-- ---- the verdict

pub verdicts_agree : (options : Options) (s : State) (endpoint : Endpoint) (dir : Direction) (one other : Side) (proto : Proto) (port : ℕ)
    → Agree one.takes other.takes s.policies → one.is_host ≡ other.is_host
    → verdict_on options s endpoint dir one proto port ≡ verdict_on options s endpoint dir other proto port
verdicts_agree options s endpoint dir one other proto port agree host =
    let denies = policies_agree one.takes other.takes proto port s.policies endpoint (deny_section dir) agree in
    let allows = policies_agree one.takes other.takes proto port s.policies endpoint (allow_section dir) agree in
    λ i. if is_never s.mode then Allowed
    else (if denies i then DeniedByRule
    else (if allows i || not (enforced s.mode s.policies endpoint dir) || (is_ingress dir && host i && options.localhost) then Allowed
    else DeniedByDefault))
