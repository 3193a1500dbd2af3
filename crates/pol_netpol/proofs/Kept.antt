-- A NetworkPolicy keeps its meaning.
use Rattle.std.proofs.Common.{◌≡◌, ◌≤◌, ℕ, Bool, true, false, cond, ◌&&◌, ◌||◌, List, [], ◌∷◌, ◌++◌, map, filter_map, All, Option, Some, None, is_none, option_map, option_and_then, Ok, refl, sym, ap, ◌∙◌, arith}
use Rattle.std.proofs.lemmas.Bool.{le-leb, true≢false}
use Rattle.std.proofs.lemmas.List.Elements.{All-head, All-tail}
use Rattle.std.specs.List.{cons_option, list_any}
use Rattle.std.specs.Option.{option_map_or, option_or}
use Rattle.pol_labels.specs.Match.{matches}
use Rattle.pol_labels.specs.declared.label.Label.{Label}
use Rattle.pol_labels.specs.declared.requirement.Requirement.{Requirement}
use Rattle.pol_ports.specs.declared.Direction.{Direction}
use Rattle.pol_ports.specs.declared.Direction.TheVariants.{Ingress, Egress}
use Rattle.pol_ports.specs.declared.Proto.{Proto}
use Rattle.pol_rule.specs.Covers.{entry_covers, has_ports, ports_cover}
use Rattle.pol_rule.specs.declared.cause.RuleCause.{RuleCause}
use Rattle.pol_rule.specs.declared.fault.RuleFault.{RuleFault}
use Rattle.pol_rule.specs.declared.policy.Peer.{Peer}
use Rattle.pol_rule.specs.declared.policy.Policy.{Policy}
use Rattle.pol_rule.specs.declared.policy.Section.{Section}
use Rattle.pol_rule.specs.declared.policy.Section.TheVariants as section
use Rattle.pol_rule.specs.declared.raw.RawSelector.{RawSelector}
use Rattle.pol_sanitize.specs.Faults.{first_cause}
use Rattle.pol_sanitize.specs.Sanitized.{judged}
use Rattle.pol_sanitize.specs.Selectors.{is_in_namespace}
use Rattle.pol_sanitize.proofs.Wholeness.{all_faultless, no_cause}
use Rattle.pol_rule.specs.Covers as covers
use Rattle.pol_rule.specs.declared.policy.Rule.{Rule}
use Rattle.pol_model.specs.Enforced.{allow_section, deny_section, rule_says, rule_selects}
use Rattle.pol_model.specs.Selects.{selects_number}
use Rattle.pol_model.specs.State.{State}
use Rattle.pol_model.specs.Verdict.{rule_covers}
use Rattle.pol_model.specs.declared.row.Endpoint.{Endpoint}
use Rattle.pol_model.specs.declared.row.IdentityRow.{IdentityRow}
use Rattle.pol_netpol.specs.Faults.{asks_badly, entry_causes, entry_fault, excepts_outside, fault_at, first_fault, has_bad_cidr, has_bad_selector, is_bad_end, is_bad_peer, is_bad_port, is_bad_protocol, is_bad_selector, section_fault, subject_causes, subject_fault}
use Rattle.pol_netpol.specs.Keeps.{KeepsItsMeaning, MeansTheSame}
use Rattle.pol_netpol.specs.Meaning.{allows, entries_of, entry_takes, is_pod_of, isolates, meets, of_pod, port_takes, selects}
use Rattle.pol_netpol.specs.Translated.{entry_of, policy_of, requirements_of, rule_of, rule_with, section_of, spec_of, subject_of}
use Rattle.pol_netpol.specs.declared.raw.RawNetEntry.{RawNetEntry}
use Rattle.pol_netpol.specs.declared.raw.RawNetPeer.{RawNetPeer}
use Rattle.pol_netpol.specs.declared.raw.RawNetPort.{RawNetPort}
use Rattle.pol_netpol.specs.declared.raw.RawNetworkPolicy.{RawNetworkPolicy}
use Rattle.pol_netpol.proofs.Formed.{both_formed, selector_formed}
use Rattle.pol_netpol.proofs.Porting.{all_fine, first_port, ports_any, split_fine}
use Rattle.pol_netpol.proofs.Selecting.{both, own_namespace, selector_met}
use Rattle.pol_netpol.proofs.Taking.{peers_number}

-- ---- no fault
no_or : {X : Type 0} (o p : Option X) → option_or o p ≡ None → (o ≡ None) × (p ≡ None)
no_or None p none = (refl, none)
no_or (Some x) p none = cc

none_there : (at : Option (Section × ℕ)) (o : Option RuleCause) → option_map (fault_at at) o ≡ None → o ≡ None
none_there at None none = refl
none_there at (Some cause) none = cc

record Fine (entry : RawNetEntry) : Type 0 where
  peers : list_any asks_badly entry.peers ≡ false
  ports : all_fine entry.ports

entry_fine : (entry : RawNetEntry) → first_cause (entry_causes entry) ≡ None → Fine entry
entry_fine entry none =
    let (peers, n1) = no_cause _ (list_any asks_badly entry.peers) _ none in
    let (cidrs, n2) = no_cause _ (list_any has_bad_cidr entry.peers) _ n1 in
    let (exceptions, n3) = no_cause _ (list_any excepts_outside entry.peers) _ n2 in
    let (ports, n4) = no_cause _ (list_any is_bad_port entry.ports) _ n3 in
    let (protocols, n5) = no_cause _ (list_any is_bad_protocol entry.ports) _ n4 in
    let (kinds, n6) = no_cause _ (list_any is_bad_peer entry.peers) _ n5 in
    let (ends, n7) = no_cause _ (list_any is_bad_end entry.ports) _ n6 in
    record { peers = peers; ports = (ports, protocols, ends) }

section_fine : (s : Section) (entries : List RawNetEntry) → section_fault s entries ≡ None → All Fine entries
section_fine s entries none =
    all_faultless Fine (entry_fault s) (λ n entry fine. entry_fine entry (none_there _ (first_cause (entry_causes entry)) fine)) 0 entries none

-- ---- an entry
module _ (own : List ℕ) (rows : List IdentityRow) (number : ℕ) (proto : Proto) (port : ℕ) (low : port ≤ 65535) where
  abbrev takes : Peer → Bool
  takes = selects_number rows number

  -- ports of which the first is read
  first_covers : (p : RawNetPort) (ps : List RawNetPort) → all_fine (p ∷ ps)
      → (has_ports (filter_map spec_of (p ∷ ps)) ≡ true) × (ports_cover proto port (filter_map spec_of (p ∷ ps)) ≡ list_any (port_takes proto port) (p ∷ ps))
  first_covers p ps fine =
      let (here, rest) = split_fine p ps fine in
      let (spec, is) = first_port p ps here in
      (ap has_ports is, ap (ports_cover proto port) is ∙ ap (list_any _) (sym is) ∙ ports_any (p ∷ ps) proto port low fine)

  entry_same : (peers : List RawNetPeer) (ports : List RawNetPort) → list_any asks_badly peers ≡ false → all_fine ports
      → entry_covers takes proto port (entry_of own (record { peers = peers; ports = ports })) ≡ entry_takes own rows number proto port (record { peers = peers; ports = ports })
  entry_same [] [] fine fine' = λ i. (le-leb 0 port (omega arith) i && le-leb port 65535 low i) || false
  entry_same [] (p ∷ ps) fine fine' =
      let (some, covers) = first_covers p ps fine' in
      λ i. (some i && true) && covers i
  entry_same (peer ∷ peers) [] fine fine' = λ i. peers_number own rows number (peer ∷ peers) fine i && true
  entry_same (peer ∷ peers) (p ∷ ps) fine fine' =
      let (some, covers) = first_covers p ps fine' in
      λ i. peers_number own rows number (peer ∷ peers) fine i && covers i

  entries_same : (entries : List RawNetEntry) → All Fine entries
      → list_any (entry_covers takes proto port) (map (entry_of own) entries) ≡ list_any (entry_takes own rows number proto port) entries
  entries_same [] fine = refl
  entries_same (entry ∷ entries) fine =
      let here = All-head Fine entry entries fine in
      λ i. entry_same entry.peers entry.ports here.peers here.ports i || entries_same entries (All-tail Fine entry entries fine) i

-- ---- the rule
module _ (raw : RawNetworkPolicy) (selector : RawSelector) (there : raw.subject ≡ Some selector) (fine : is_bad_selector selector ≡ false) where
  abbrev own : List ℕ
  own = raw.key.namespace

  abbrev subject : List Requirement
  subject = requirements_of [] selector ++ is_in_namespace own ∷ []

  selects_same : (labels : List Label) → matches subject labels ≡ selects raw labels
  selects_same labels =
      both (requirements_of [] selector) (is_in_namespace own ∷ []) labels
      ∙ (λ i. selector_met [] labels selector fine i && own_namespace own labels i)
      ∙ ap (λ o. option_map_or (meets (of_pod labels)) o false && is_pod_of own labels) (sym there)

  says_same : (dir : Direction) (labels : List Label) → (matches subject labels && isolates raw dir) ≡ (selects raw labels && isolates raw dir)
  says_same dir labels = λ i. selects_same labels i && isolates raw dir

  section_same : (dir : Direction) → All Fine (entries_of dir raw) → (rows : List IdentityRow) (number : ℕ) (proto : Proto) (port : ℕ) (low : port ≤ 65535)
      → isolates raw dir ≡ true → list_any (entry_covers (selects_number rows number) proto port) (section_of raw dir) ≡ allows raw rows dir number proto port
  section_same dir each rows number proto port low isolated =
      ap (λ b. list_any (entry_covers (selects_number rows number) proto port) (cond b (map (entry_of own) (entries_of dir raw)) [])) isolated
      ∙ entries_same own rows number proto port low (entries_of dir raw) each

  elsewhere : (dir : Direction) → isolates raw dir ≡ false → section_of raw dir ≡ []
  elsewhere dir not_isolated = ap (λ b. cond b (map (entry_of own) (entries_of dir raw)) []) not_isolated

  abbrev rule : Rule
  rule = rule_with raw subject

  rule_isolates : (endpoint : Endpoint) (dir : Direction) → (rule_selects endpoint rule && rule_says dir rule) ≡ (selects raw endpoint.labels && isolates raw dir)
  rule_isolates endpoint Ingress = says_same Ingress endpoint.labels
  rule_isolates endpoint Egress = says_same Egress endpoint.labels

  rule_allows : All Fine raw.ingress → All Fine raw.egress → (s : State) (dir : Direction) (number : ℕ) (proto : Proto) (port : ℕ) → port ≤ 65535
      → isolates raw dir ≡ true → rule_covers (allow_section dir) (selects_number s.identities number) proto port rule ≡ allows raw s.identities dir number proto port
  unfolding rule_covers
  rule_allows ingress egress s Ingress number proto port low isolated = section_same Ingress ingress s.identities number proto port low isolated
  rule_allows ingress egress s Egress number proto port low isolated = section_same Egress egress s.identities number proto port low isolated

  rule_elsewhere : (dir : Direction) → isolates raw dir ≡ false → covers.section_of (allow_section dir) rule ≡ []
  rule_elsewhere Ingress none = elsewhere Ingress none
  rule_elsewhere Egress none = elsewhere Egress none

  rule_denies : (dir : Direction) → covers.section_of (deny_section dir) rule ≡ []
  rule_denies Ingress = refl
  rule_denies Egress = refl

  means : All Fine raw.ingress → All Fine raw.egress → MeansTheSame raw rule
  means ingress egress = record {
    enforces = rule_isolates;
    covers = rule_allows ingress egress;
    elsewhere = rule_elsewhere;
    denies = rule_denies;
  }

  subject_read : rule_of raw ≡ Some rule
  subject_read =
      let formed = both_formed (requirements_of [] selector) (is_in_namespace own ∷ []) (selector_formed [] selector fine) refl in
      ap (λ o. option_map (rule_with raw) (option_and_then (subject_of own) o)) there
      ∙ ap (λ b. option_map (rule_with raw) (cond b (Some subject) None)) formed

-- ---- the law
accepted : (raw : RawNetworkPolicy) (policy : Policy) (fault : Option RuleFault) → judged fault (policy_of raw) ≡ Ok policy → (fault ≡ None) × (policy_of raw ≡ policy)
accepted raw policy None is = (refl, cc)
accepted raw policy (Some fault) is = cc

abbrev Subject : RawNetworkPolicy → Type 0
Subject raw = (selector : RawSelector) × (raw.subject ≡ Some selector) × (is_bad_selector selector ≡ false)

subject_there : (raw : RawNetworkPolicy) (o : Option RawSelector) → raw.subject ≡ o → is_none o ≡ false → has_bad_selector o ≡ false → Subject raw
subject_there raw None is some fine = absurd (true≢false some)
subject_there raw (Some selector) is some fine = (selector, is, fine)

subject_fine : (raw : RawNetworkPolicy) → first_cause (subject_causes raw) ≡ None → Subject raw
subject_fine raw none =
    let (some, n1) = no_cause _ (is_none raw.subject) _ none in
    let (fine, n2) = no_cause _ (has_bad_selector raw.subject) _ n1 in
    subject_there raw raw.subject refl some fine

pub keeps : KeepsItsMeaning
keeps raw policy is =
    let (none, same) = accepted raw policy (first_fault raw) is in
    let (subject, n1) = no_or (subject_fault raw) _ none in
    let (ingress, egress) = no_or (section_fault section.Ingress raw.ingress) _ n1 in
    let (selector, there, fine) = subject_fine raw (none_there _ (first_cause (subject_causes raw)) subject) in (
      ap (λ (p : Policy). p.key) (sym same),
      rule raw selector there fine,
      ap (λ (p : Policy). p.rules) (sym same) ∙ ap (λ o. cons_option o []) (subject_read raw selector there fine),
      means raw selector there fine (section_fine section.Ingress raw.ingress ingress) (section_fine section.Egress raw.egress egress),
    )
