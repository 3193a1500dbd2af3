-- The side of an address, judged by itself, takes the peers of all policies as that of its number does.
use Rattle.std.proofs.Common.{◌≡◌, ℕ, ◌==◌, ◌&&◌, ◌||◌, not, Bool, true, false, List, [], ◌∷◌, Option, None, Some, ◌⊎◌, inl, inr, refl, sym, ap, ◌∙◌, subst, arith, codes, nat_le}
use Rattle.std.specs.List.{AllByRecursion, list_any}
use Rattle.std.specs.Option.{option_map_or}
use Rattle.std.proofs.lemmas.Bool.{and_from, and_parts, both_ways, eq-eqb, eqb-true, false_from_ne_true, leb-true, ne_eqb}
use Rattle.std.proofs.lemmas.Option.{same_Some}
use Rattle.pol_addr.specs.Address.{IsAddr, family_of}
use Rattle.pol_addr.specs.declared.family.Family.{Family}
use Rattle.pol_addr.specs.declared.family.Family.TheVariants.{Ipv4, Ipv6}
use Rattle.pol_addr.specs.declared.address.Addr.{Addr}
use Rattle.pol_addr.specs.declared.network.Prefix.{Prefix}
use Rattle.pol_addr.specs.Prefix.{contains, covers, world}
use Rattle.pol_addr.proofs.Containment.{contains-family, contains_through, covers_from_shared}
use Rattle.pol_addr.proofs.World.{contains-world}
use Rattle.pol_labels.specs.Match.{matches, carries}
use Rattle.pol_ports.specs.declared.Direction.{Direction}
use Rattle.pol_ports.specs.declared.Proto.{Proto}
use Rattle.pol_rule.specs.Prefixes.{peer_prefixes, policy_prefixes}
use Rattle.pol_rule.specs.declared.policy.Entity.{Entity}
use Rattle.pol_rule.specs.declared.policy.Entity.TheVariants as entity
use Rattle.pol_rule.specs.declared.policy.Peer.{Peer}
use Rattle.pol_rule.specs.declared.policy.Peer.TheVariants as peer
use Rattle.pol_data.proofs.Members.{In, Contains-from_In, In-from_Contains, every-in}
use Rattle.pol_model.specs.declared.limits.TheConstants.{HOST_IDENTITY, RESERVED_LAST}
use Rattle.pol_model.specs.declared.options.Options.{Options}
use Rattle.pol_model.specs.declared.row.Endpoint.{Endpoint}
use Rattle.pol_model.specs.declared.row.IdentityRow.{IdentityRow}
use Rattle.pol_model.specs.declared.row.Stamped.{Stamped}
use Rattle.pol_model.specs.Identities.{reserved_identities}
use Rattle.pol_model.specs.Remote.{address_side, endpoint_at, endpoint_side, known_endpoint, known_outside, longest_at, number_at, numbered_prefixes, outside_side, verdict_at_address}
use Rattle.pol_model.specs.Selects.{Known, cluster_label, entity_selects, is_all, is_core_number, known_row, selects, selects_number, selects_row}
use Rattle.pol_model.specs.State.{State}
use Rattle.pol_model.specs.Verdict.{numbered_side, verdict_of, verdict_on}
use Rattle.pol_model.specs.Worlds.{is_outside, outside, reserved_label, world_around, world_in, world_labels, world_of}
use Rattle.pol_model_laws.specs.Holding.{is_held}
use Rattle.pol_model_laws.specs.Keeps.{IsInForceIn, IsLiveIn, IsLocalRow, Keeps, KeepsRows}
use Rattle.pol_model_laws.proofs.FoundRows.{reserved-there}
use Rattle.pol_model_laws.proofs.Keyed.{one_of_number}
use Rattle.pol_model_laws.proofs.Ledger.{has_prefix-is}
use Rattle.pol_model_laws.proofs.Membership.{In-list_any, find-In, list_any-In}
use Rattle.pol_model_laws.proofs.PrefixHolders.{same_tests}
use Rattle.pol_model_laws.proofs.RowLedger.{kind_of, row_cases}
use Rattle.pol_repo.proofs.Agreeing.{Agree, verdicts_agree}
use Rattle.pol_repo.proofs.Longest.{listed_prefix, longest_is, longest_none, prefix_listed}

-- ---- the number of a row

-- `all` selects every side
all_selects : (known : Known) (p : Peer) → (is_all p || selects known p) ≡ selects known p
all_selects known (peer.Labels selector) = refl
all_selects known (peer.Cidr prefix except) = refl
all_selects known (peer.Entity entity.All) = refl
all_selects known (peer.Entity entity.World) = refl
all_selects known (peer.Entity entity.WorldIpv4) = refl
all_selects known (peer.Entity entity.WorldIpv6) = refl
all_selects known (peer.Entity entity.Host) = refl
all_selects known (peer.Entity entity.RemoteNode) = refl
all_selects known (peer.Entity entity.KubeApiserver) = refl
all_selects known (peer.Entity entity.Ingress) = refl
all_selects known (peer.Entity entity.Init) = refl
all_selects known (peer.Entity entity.Health) = refl
all_selects known (peer.Entity entity.Unmanaged) = refl
all_selects known (peer.Entity entity.Cluster) = refl

-- a number with a row is selected exactly where its row is
row_selected : (rows : List IdentityRow) → KeepsRows rows → (row : IdentityRow) → In row rows → (p : Peer) → selects_number rows row.number p ≡ selects (known_row row) p
row_selected rows keeps row there p = ap (λ b. is_all p || b) only ∙ all_selects (known_row row) p
  where
    test : IdentityRow → Bool
    test other = (other.number == row.number) && selects_row p other

    only : list_any (λ other. (other.number == row.number) && selects_row p other) rows ≡ selects_row p row
    only =
        same_tests (list_any test rows) (selects_row p row)
        (λ some.
        let one = In-list_any test rows some in
        let both = and_parts (one.0.number == row.number) (selects_row p one.0) one.2 in
        subst (λ r. selects_row p r ≡ true) (one_of_number (λ r. r.number) one.0 row rows keeps.numbers one.1 there (eqb-true one.0.number row.number both.0)) both.1)
        (λ selected. list_any-In test row rows there (and_from (row.number == row.number) (selects_row p row) (eq-eqb row.number row.number refl) selected))

-- ---- an endpoint's address

known_of_endpoint : (row : IdentityRow) (endpoint : Endpoint) → row.number ≡ endpoint.identity → row.labels ≡ endpoint.labels → row.prefix ≡ None → known_row row ≡ known_endpoint endpoint
known_of_endpoint row endpoint number labels none =
    λ i. record {
      labels = labels i;
      lies_in = λ prefix. option_map_or (covers prefix) (none i) false;
      is_core = is_core_number (number i);
    }

endpoint_agrees : (s : State) → Keeps s → (endpoint : Endpoint) → In endpoint s.endpoints → Agree (endpoint_side endpoint).takes (numbered_side s.identities endpoint.identity).takes s.policies
endpoint_agrees s keeps endpoint there stamped within p own =
    let live = every-in (IsLiveIn s) s.endpoints keeps.endpoints endpoint there in
    let at = find-In (λ row. row.number == endpoint.identity) live.row s.identities live.there in
    let number = eqb-true live.row.number endpoint.identity at.1 in
    sym (ap (λ n. selects_number s.identities n p) (sym number)
    ∙ row_selected s.identities keeps.identities live.row at.0 p
    ∙ ap (λ known. selects known p) (known_of_endpoint live.row endpoint number live.labels live.no_prefix))

-- ---- an address outside

-- the row of a prefix: the label of its world, none of the cluster's own numbers, and not the local host's
record IsOutsideRow (row : IdentityRow) (prefix : Prefix) : Type 0 where
  own : row.prefix ≡ Some prefix
  labels : row.labels ≡ world_labels (world_around prefix)
  core : is_core_number row.number ≡ false
  host : (row.number == HOST_IDENTITY) ≡ false

-- the row of a family's world
abbrev world_row : Family → IdentityRow
world_row family = record { number = (world_in family).identity; labels = world_labels (world_in family); prefix = Some (world family); holders = 1 }

world_outside : (family : Family) → IsOutsideRow (world_row family) (world family)
world_outside Ipv4 = record { own = refl; labels = refl; core = refl; host = refl }
world_outside Ipv6 = record { own = refl; labels = refl; core = refl; host = refl }

-- a reserved row has no prefix, or it is a world's
abbrev IsWorldOrNone : IdentityRow → Type 0
IsWorldOrNone row = (row.prefix ≡ None) ⊎ ((prefix : Prefix) × IsOutsideRow row prefix)

reserved_outside : AllByRecursion IsWorldOrNone reserved_identities
reserved_outside =
    (inl refl, (inl refl, (inl refl, (inl refl, (inl refl, (inl refl, (inl refl, (inl refl, (inr (world Ipv4, world_outside Ipv4), (inr (world Ipv6, world_outside Ipv6), tt))))))))))

local_outside : (row : IdentityRow) (local : IsLocalRow row) → IsOutsideRow row local.own
local_outside row local = record {
  own = local.prefix;
  labels = local.labels;
  core = false_from_ne_true (is_core_number row.number) (λ core.
      let small = and_parts (nat_le 1 row.number && nat_le row.number RESERVED_LAST) (not (is_outside row.number)) core in
      let upto = and_parts (nat_le 1 row.number) (nat_le row.number RESERVED_LAST) small.0 in
      absurd (omega (arith, local.from, leb-true row.number RESERVED_LAST upto.1)));
  host = ne_eqb row.number HOST_IDENTITY (λ is. omega (arith, local.from, is));
}

outside_at : (row : IdentityRow) (given prefix : Prefix) → IsOutsideRow row given → row.prefix ≡ Some prefix → IsOutsideRow row prefix
outside_at row given prefix is own = subst (IsOutsideRow row) (same_Some given prefix (sym is.own ∙ own)) is

prefix_row_outside : (rows : List IdentityRow) → KeepsRows rows → (row : IdentityRow) (prefix : Prefix) → In row rows → row.prefix ≡ Some prefix → IsOutsideRow row prefix
prefix_row_outside rows keeps row prefix there own =
    elim (row_cases keeps row there) [
      | inl reserved ↦ elim (every-in IsWorldOrNone reserved_identities reserved_outside row reserved) [
        | inl none ↦ absurd (let wrong : None ≡ Some prefix = sym none ∙ own in cc)
        | inr its ↦ outside_at row its.0 prefix its.1 own
      ]
      | inr behind ↦ elim (kind_of keeps row behind) [
        | inl cluster ↦ absurd (let wrong : None ≡ Some prefix = sym cluster.no_prefix ∙ own in cc)
        | inr local ↦ outside_at row local.own prefix (local_outside row local) own
      ]
    ]

-- entities ask for labels and for the cluster's own numbers alone
entities_agree : (one other : Known) (e : Entity) → one.labels ≡ other.labels → one.is_core ≡ other.is_core → entity_selects one e ≡ entity_selects other e
entities_agree one other entity.All labels core = refl
entities_agree one other entity.World labels core = ap (λ ls. list_any (λ w. carries ls (reserved_label w.1)) outside) labels
entities_agree one other entity.WorldIpv4 labels core = ap (λ ls. carries ls (reserved_label (codes "world-ipv4"))) labels
entities_agree one other entity.WorldIpv6 labels core = ap (λ ls. carries ls (reserved_label (codes "world-ipv6"))) labels
entities_agree one other entity.Host labels core = ap (λ ls. carries ls (reserved_label (codes "host"))) labels
entities_agree one other entity.RemoteNode labels core = ap (λ ls. carries ls (reserved_label (codes "remote-node"))) labels
entities_agree one other entity.KubeApiserver labels core = ap (λ ls. carries ls (reserved_label (codes "kube-apiserver"))) labels
entities_agree one other entity.Ingress labels core = ap (λ ls. carries ls (reserved_label (codes "ingress"))) labels
entities_agree one other entity.Init labels core = ap (λ ls. carries ls (reserved_label (codes "init"))) labels
entities_agree one other entity.Health labels core = ap (λ ls. carries ls (reserved_label (codes "health"))) labels
entities_agree one other entity.Unmanaged labels core = ap (λ ls. carries ls (reserved_label (codes "unmanaged"))) labels
entities_agree one other entity.Cluster labels core = λ i. core i || carries (labels i) cluster_label

exceptions_agree : (f g : Prefix → Bool) (prefixes : List Prefix) → ((prefix : Prefix) → In prefix prefixes → f prefix ≡ g prefix) → list_any f prefixes ≡ list_any g prefixes
exceptions_agree f g [] same = refl
exceptions_agree f g (prefix ∷ others) same = λ i. same prefix (inl refl) i || exceptions_agree f g others (λ q later. same q (inr later)) i

peers_agree : (one other : Known) (p : Peer) → one.labels ≡ other.labels → one.is_core ≡ other.is_core
    → ((prefix : Prefix) → In prefix (peer_prefixes p) → one.lies_in prefix ≡ other.lies_in prefix) → selects one p ≡ selects other p
peers_agree one other (peer.Labels selector) labels core lies = ap (matches selector) labels
peers_agree one other (peer.Cidr prefix except) labels core lies =
    λ i. lies prefix (inl refl) i && not (exceptions_agree one.lies_in other.lies_in except (λ q later. lies q (inr later)) i)
peers_agree one other (peer.Entity e) labels core lies = entities_agree one other e labels core

module _ (address : Addr) (rows : List IdentityRow) (keeps : KeepsRows rows) (best : Prefix × ℕ) (is : longest_at address rows ≡ Some best) where
  -- a held prefix contains the address exactly where it covers the longest one that does
  held_lies : (prefix : Prefix) → is_held prefix rows ≡ true → contains prefix address ≡ covers prefix best.0
  held_lies prefix held =
      let it = longest_is address (numbered_prefixes rows) best is in
      let one = In-list_any _ rows held in
      let own = has_prefix-is prefix one.0.prefix one.2 in
      same_tests (contains prefix address) (covers prefix best.0)
      (λ inside. covers_from_shared prefix best.0 address inside it.inside (it.most (prefix, one.0.number) (prefix_listed one.0 prefix rows one.1 own) inside))
      (λ over. contains_through prefix best.0 address over it.inside)

  outside_agrees : (policies : List Stamped) → ((stamped : Stamped) → In stamped policies → AllByRecursion (λ prefix. is_held prefix rows ≡ true) (policy_prefixes stamped.policy))
      → Agree (outside_side address).takes (numbered_side rows best.1).takes policies
  outside_agrees policies held stamped within p own =
      let it = longest_is address (numbered_prefixes rows) best is in
      let given = listed_prefix rows best it.there in
      let far = prefix_row_outside rows keeps given.row best.0 given.there given.prefix in
      let labels = ap (λ family. world_labels (world_in family)) (contains-family best.0 address it.inside) ∙ sym far.labels in
      peers_agree (known_outside address) (known_row given.row) p labels (sym far.core)
      (λ prefix its. held_lies prefix (every-in (λ q. is_held q rows ≡ true) (policy_prefixes stamped.policy) (held stamped within) prefix (own prefix its))
      ∙ ap (λ o. option_map_or (covers prefix) o false) (sym given.prefix))
      ∙ sym (row_selected rows keeps given.row given.there p)
      ∙ ap (λ n. selects_number rows n p) given.number

  outside_host : false ≡ (best.1 == HOST_IDENTITY)
  outside_host =
      let it = longest_is address (numbered_prefixes rows) best is in
      let given = listed_prefix rows best it.there in
      sym (ap (λ n. n == HOST_IDENTITY) (sym given.number) ∙ (prefix_row_outside rows keeps given.row best.0 given.there given.prefix).host)

world_reserved : (family : Family) → In (world_row family) reserved_identities
world_reserved Ipv4 = inr (inr (inr (inr (inr (inr (inr (inr (inl refl))))))))
world_reserved Ipv6 = inr (inr (inr (inr (inr (inr (inr (inr (inr (inl refl)))))))))

-- every address lies in the world of its family, which is always held
always_longest : (address : Addr) (rows : List IdentityRow) → KeepsRows rows → IsAddr address → longest_at address rows ≡ None → ⊥
always_longest address rows keeps within none =
    let family = family_of address in
    let row = world_row family in
    let there = reserved-there rows keeps row (Contains-from_In reserved_identities row (world_reserved family)) in
    let listed = prefix_listed row (world family) rows (In-from_Contains rows row there) refl in
    both_ways (contains (world family) address) (longest_none address (numbered_prefixes rows) none (world family, row.number) listed) (contains-world address within)

-- ---- the law

held_in_force : (s : State) → Keeps s → (stamped : Stamped) → In stamped s.policies → AllByRecursion (λ prefix. is_held prefix s.identities ≡ true) (policy_prefixes stamped.policy)
held_in_force s keeps stamped there = (every-in (IsInForceIn s) s.policies keeps.policies stamped there).held

module _ (options : Options) (s : State) (endpoint : Endpoint) (dir : Direction) (address : Addr) (proto : Proto) (port : ℕ) (keeps : Keeps s) (within : IsAddr address) where
  at_outside : (found : Option (Prefix × ℕ)) → longest_at address s.identities ≡ found
      → verdict_on options s endpoint dir (outside_side address) proto port
      ≡ verdict_of options s endpoint dir (option_map_or (λ f. f.1) found (world_of address).identity) proto port
  at_outside None is = absurd (always_longest address s.identities keeps.identities within is)
  at_outside (Some best) is =
      verdicts_agree options s endpoint dir (outside_side address) (numbered_side s.identities best.1) proto port
      (outside_agrees address s.identities keeps.identities best is s.policies (held_in_force s keeps))
      (outside_host address s.identities keeps.identities best is)

  at_found : (found : Option Endpoint) → endpoint_at address s.endpoints ≡ found
      → verdict_on options s endpoint dir (address_side address found) proto port
      ≡ verdict_of options s endpoint dir
      (option_map_or (λ e. e.identity) found (option_map_or (λ f. f.1) (longest_at address s.identities) (world_of address).identity)) proto port
  at_found None is = at_outside (longest_at address s.identities) refl
  at_found (Some other) is =
      verdicts_agree options s endpoint dir (endpoint_side other) (numbered_side s.identities other.identity) proto port
      (endpoint_agrees s keeps other (find-In _ other s.endpoints is).0) refl

  pub address_is_number : verdict_at_address options s endpoint dir address proto port ≡ verdict_of options s endpoint dir (number_at address s.endpoints s.identities) proto port
  address_is_number = at_found (endpoint_at address s.endpoints) refl
