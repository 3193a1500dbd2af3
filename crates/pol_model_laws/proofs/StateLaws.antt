-- What follows from what a state keeps, as `state_laws` hands it out.
use Rattle.std.proofs.Common.{zero, suc, ◌≡◌, ℕ, ◌==◌, ◌<◌, ◌≤◌, true, false, not, List, [], ◌∷◌, ◌++◌, find, take, drop, length, get_or, Option, None, Some, inl, inr, refl, sym, ap, ◌∙◌, subst, arith, is_none, codes}
use Rattle.std.specs.Prelude.{◌↔◌}
use Rattle.std.specs.Cmp.Lexicographic.{bytes_decides}
use Rattle.std.specs.List.{Contains}
use Rattle.std.proofs.lemmas.Bool.{and_parts, both_ways, eq-eqb, eqb-true, not-true, lt-leb}
use Rattle.std.proofs.lemmas.List.Sums.{count_by-le-length}
use Rattle.pol_addr.specs.declared.network.Prefix.{Prefix}
use Rattle.pol_labels.specs.declared.label.Label.{Label}
use Rattle.pol_labels.specs.Same.{same_labels}
use Rattle.pol_labels.specs.SameLaws.{same_labels-Decides}
use Rattle.pol_data.proofs.Members.{Contains-from_In, In-from_Contains, every-in}
use Rattle.pol_model.specs.declared.limits.TheConstants.{ENDPOINTS_MAX, LOCAL_FIRST, RESERVED_LAST, INIT_IDENTITY}
use Rattle.pol_model.specs.declared.options.Options.{Options}
use Rattle.pol_model.specs.declared.request.Request.{Request}
use Rattle.pol_model.specs.declared.row.Endpoint.{Endpoint}
use Rattle.pol_model.specs.declared.row.IdentityRow.{IdentityRow}
use Rattle.pol_model.specs.declared.row.NamedIdentity.{NamedIdentity}
use Rattle.pol_model.specs.declared.row.Stamped.{Stamped}
use Rattle.pol_model.specs.After.{after, after_all, start, state_of}
use Rattle.pol_model.specs.Endpoints.{endpoint_of, named_of}
use Rattle.pol_model_laws.specs.Holding.{is_held}
use Rattle.pol_model.specs.Fault.{is_init}
use Rattle.pol_model.specs.Identities.{is_local, is_reserved, number_of_labels}
use Rattle.pol_model_laws.specs.Keeps.{IsLiveIn, Keeps, holders_of, names_prefix, IsInForceIn}
use Rattle.pol_model.specs.Policies.{policy_at}
use Rattle.pol_model.specs.Prefixes.{has_prefix, number_of_prefix}
use Rattle.pol_model.specs.Remote.{endpoint_at}
use Rattle.pol_model.specs.State.{State}
use Rattle.pol_model_laws.specs.WithoutFaults.{CommitFrom, MayCommit, WithoutFaults}
use Rattle.pol_model.proofs.AscendingStates.{RowsAscend}
use Rattle.pol_model_laws.proofs.ComeAndGo.{labels_stay, prefix_stays}
use Rattle.pol_model_laws.proofs.Distinct.{found_by_key}
use Rattle.pol_model_laws.proofs.Holders.{init_number}
use Rattle.pol_model_laws.proofs.KeepsAll.{keeps, kept_start}
use Rattle.pol_model_laws.proofs.KeptFrom.{kept_from}
use Rattle.pol_model_laws.proofs.KeptStates.{kept_after}
use Rattle.pol_model_laws.proofs.Keyed.{few_below, found_by_number, one_of_number}
use Rattle.pol_model_laws.proofs.Ledger.{has_prefix-is}
use Rattle.pol_model_laws.proofs.Membership.{find-In, list_any-In}
use Rattle.pol_model_laws.proofs.PartStates.{row_before}
use Rattle.pol_addr.proofs.ByFamily.{same_addr-Decides}
use Rattle.pol_model_laws.proofs.PolicyHolders.{same_key-Decides}
use Rattle.pol_model_laws.proofs.RowLedger.{begins, row_cases}
use Rattle.pol_model_laws.proofs.StartRows.{start_row}
use Rattle.pol_model_laws.proofs.PrefixHolders.{is_held-number}
use Rattle.pol_model.specs.Worlds.{reserved_label}
use Rattle.pol_model_laws.proofs.Rows.{BeginsReserved}
use Rattle.pol_rule.specs.Prefixes.{policy_prefixes}
use Rattle.pol_model_laws.proofs.FoundRows.{found-labels, found_with, labels_pass}

-- one request more
commit_more : (s : State) (requests : List Request) (request : Request) → CommitFrom s requests → MayCommit (after_all s requests) request → CommitFrom s (requests ++ request ∷ [])
commit_more s [] request commit may = (may, tt)
commit_more s (first ∷ others) request commit may = (commit.0, commit_more (after s first) others request commit.1 may)

commit_less : (s : State) (requests : List Request) (request : Request) → CommitFrom s (requests ++ request ∷ []) → CommitFrom s requests × MayCommit (after_all s requests) request
commit_less s [] request commit = (tt, commit.0)
commit_less s (first ∷ others) request commit =
    let rest = commit_less (after s first) others request commit.1 in
    ((commit.0, rest.0), rest.1)

pub commits-more : (options : Options) (requests : List Request) (request : Request) → WithoutFaults options (requests ++ request ∷ []) ↔ (WithoutFaults options requests × MayCommit (state_of options requests) request)
commits-more options requests request =
    (commit_less (start options) requests request, λ both. commit_more (start options) requests request both.0 both.1)

commit_first : (s : State) (requests : List Request) (n : ℕ) → CommitFrom s requests → CommitFrom s (take n requests)
commit_first s requests zero commit = tt
commit_first s [] (suc n) commit = tt
commit_first s (request ∷ others) (suc n) commit = (commit.0, commit_first (after s request) others n commit.1)

pub commits-first : (options : Options) (requests : List Request) (n : ℕ) → WithoutFaults options requests → WithoutFaults options (take n requests)
commits-first options requests n commit = commit_first (start options) requests n commit

commit_at : (s : State) (requests : List Request) (n : ℕ) (d : Request) → CommitFrom s requests → n < length requests → MayCommit (after_all s (take n requests)) (get_or requests n d)
commit_at s [] n d commit below = absurd (omega arith)
commit_at s (request ∷ others) zero d commit below = commit.0
commit_at s (request ∷ others) (suc n) d commit below = commit_at (after s request) others n d commit.1 (omega (arith, below))

pub commits-each : (options : Options) (requests : List Request) (n : ℕ) (d : Request) → WithoutFaults options requests → n < length requests → MayCommit (state_of options (take n requests)) (get_or requests n d)
commits-each options requests n d commit below = commit_at (start options) requests n d commit below

pub keeps-after : (s : State) (request : Request) → Keeps s → MayCommit s request → Keeps (after s request)
keeps-after s request it may = keeps (after s request) (kept_after s request may (kept_from s it))

pub keeps-start : (options : Options) → Keeps (start options)
keeps-start options = keeps (start options) (kept_start options)

module _ (s : State) (it : Keeps s) where
  -- a row counts the endpoints, the named identities and the policies that hold it
  pub holders-few : (row : IdentityRow) → Contains s.identities row → is_reserved row.number ≡ false → row.holders ≤ s.revision
  holders-few row there unreserved =
      elim (row_cases it.identities row (In-from_Contains s.identities row there)) [
        | inl reserved ↦ absurd (both_ways (is_reserved row.number) unreserved (start_row row reserved).reserved.is)
        | inr behind ↦
            omega (
              arith,
              every-in (λ row. row.holders ≡ holders_of s row) (drop RESERVED_LAST s.identities) it.holders row behind,
              it.few,
              count_by-le-length (λ endpoint. endpoint.identity == row.number) s.endpoints,
              count_by-le-length (λ identity. identity.number == row.number) s.named,
              count_by-le-length (names_prefix row.prefix) s.policies,
            )
      ]

  pub found-name : (endpoint : Endpoint) → Contains s.endpoints endpoint → endpoint_of endpoint.name s.endpoints ≡ Some endpoint
  found-name endpoint there = found_by_key (λ e. e.name) bytes_decides endpoint s.endpoints it.endpoint_names (In-from_Contains s.endpoints endpoint there)

  -- the number of its labels
  pub found-own : (endpoint : Endpoint) → Contains s.endpoints endpoint → number_of_labels endpoint.labels s.identities ≡ Some endpoint.identity
  found-own endpoint there =
      let is = every-in (IsLiveIn s) s.endpoints it.endpoints endpoint (In-from_Contains s.endpoints endpoint there) in
      let at = find-In (λ row. row.number == endpoint.identity) is.row s.identities is.there in
      let number = eqb-true is.row.number endpoint.identity at.1 in
      let cluster = elim (is.number) as (λ _. is_local endpoint.identity ≡ false) [
        | inl init ↦ lt-leb LOCAL_FIRST endpoint.identity (omega (arith, init))
        | inr within ↦ let upto = within.1 in lt-leb LOCAL_FIRST endpoint.identity (omega (arith, upto))
      ] in
      let found = found-labels s.identities it.identities is.row (Contains-from_In s.identities is.row at.0) (subst (λ n. is_local n ≡ false) (sym number) cluster) in
      subst (λ labels. number_of_labels labels s.identities ≡ Some endpoint.identity) is.labels (found ∙ ap Some number)

  pub found-init : (endpoint : Endpoint) → Contains s.endpoints endpoint → (endpoint.identity ≡ INIT_IDENTITY) ↔ (is_init endpoint.labels ≡ true)
  found-init endpoint there =
      let begin : BeginsReserved s.identities = (drop RESERVED_LAST s.identities, begins it.identities) in
      let five : number_of_labels (reserved_label (codes "init") ∷ []) s.identities ≡ Some INIT_IDENTITY = init_number (reserved_label (codes "init") ∷ []) s.identities begin refl in
      let own = found-own endpoint there in
      let q = found_with (labels_pass (reserved_label (codes "init") ∷ [])) s.identities INIT_IDENTITY five in
      let q_labels = (same_labels-Decides q.0.labels (reserved_label (codes "init") ∷ [])).0 (and_parts (not (is_local q.0.number)) (same_labels q.0.labels (reserved_label (codes "init") ∷ [])) q.2).1 in
      let is = every-in (IsLiveIn s) s.endpoints it.endpoints endpoint (In-from_Contains s.endpoints endpoint there) in
      let at = find-In (λ row. row.number == endpoint.identity) is.row s.identities is.there in (
        λ same.
            let one = one_of_number (λ r. r.number) q.0 is.row s.identities it.identities.numbers q.1 at.0 (q.3 ∙ sym same ∙ sym (eqb-true is.row.number endpoint.identity at.1)) in
            (same_labels-Decides endpoint.labels (reserved_label (codes "init") ∷ [])).1 (sym is.labels ∙ sym (ap (λ r. r.labels) one) ∙ q_labels),
        λ init. let same = sym own ∙ init_number endpoint.labels s.identities begin init in cc,
      )

  -- each prefix of a policy has a number
  pub found-named : (policy : Stamped) (prefix : Prefix) → Contains s.policies policy → Contains (policy_prefixes policy.policy) prefix → (number : ℕ) × (number_of_prefix prefix s.identities ≡ Some number)
  found-named policy prefix there names =
      let is = every-in (IsInForceIn s) s.policies it.policies policy (In-from_Contains s.policies policy there) in
      let held = every-in (λ prefix. is_held prefix s.identities ≡ true) (policy_prefixes policy.policy) is.held prefix (In-from_Contains (policy_prefixes policy.policy) prefix names) in
      some (number_of_prefix prefix s.identities) (is_held-number prefix s.identities ∙ ap not held)
    where
      some : (o : Option ℕ) → is_none o ≡ false → (number : ℕ) × (o ≡ Some number)
      some None is = absurd cc
      some (Some number) is = (number, refl)

  pub found-slot : (endpoint : Endpoint) → Contains s.endpoints endpoint → find (λ other. other.slot == endpoint.slot) s.endpoints ≡ Some endpoint
  found-slot endpoint there = found_by_number (λ e. e.slot) endpoint s.endpoints it.slots (In-from_Contains s.endpoints endpoint there)

  pub found-address : (endpoint : Endpoint) → Contains s.endpoints endpoint → endpoint_at endpoint.address s.endpoints ≡ Some endpoint
  found-address endpoint there = found_by_key (λ e. e.address) same_addr-Decides endpoint s.endpoints it.addresses (In-from_Contains s.endpoints endpoint there)

  pub few-endpoints : length s.endpoints ≤ ENDPOINTS_MAX
  few-endpoints = few_below (λ e. e.slot) ENDPOINTS_MAX s.endpoints (λ endpoint there. (every-in (IsLiveIn s) s.endpoints it.endpoints endpoint there).slot) it.slots

  pub found-identity : (identity : NamedIdentity) → Contains s.named identity → named_of identity.name s.named ≡ Some identity
  found-identity identity there = found_by_key (λ i. i.name) bytes_decides identity s.named it.identity_names (In-from_Contains s.named identity there)

  pub found-policy : (policy : Stamped) → Contains s.policies policy → policy_at policy.policy.key s.policies ≡ Some policy
  found-policy policy there = found_by_key (λ p. p.policy.key) same_key-Decides policy s.policies it.keys (In-from_Contains s.policies policy there)

-- what stays keeps its number
pub row-stays : (s : State) (request : Request) (old new : IdentityRow) → RowsAscend s.identities → Contains s.identities old → Contains (after s request).identities new → old.number ≡ new.number
    → (old.labels ≡ new.labels) × (old.prefix ≡ new.prefix)
row-stays s request old new ascend there here same =
    let old_in = In-from_Contains s.identities old there in
    let has = list_any-In (λ r. r.number == new.number) old s.identities old_in (eq-eqb old.number new.number same) in
    let was = row_before s request ascend new (In-from_Contains (after s request).identities new here) has in
    let one = one_of_number (λ r. r.number) old was.0 s.identities ascend old_in was.1 (same ∙ sym (ap (λ r. r.number) was.2)) in
    (ap (λ r. r.labels) one ∙ ap (λ r. r.labels) was.2, ap (λ r. r.prefix) one ∙ ap (λ r. r.prefix) was.2)

pub labels-stay : (s : State) (request : Request) (labels : List Label) (old new : ℕ) → Keeps s → MayCommit s request
    → number_of_labels labels s.identities ≡ Some old → number_of_labels labels (after s request).identities ≡ Some new → old ≡ new
labels-stay s request labels old new it may was is =
    let one = found_with (labels_pass labels) s.identities old was in
    let other = found_with (labels_pass labels) (after s request).identities new is in
    let tests = and_parts (not (is_local one.0.number)) (same_labels one.0.labels labels) one.2 in
    let tests_too = and_parts (not (is_local other.0.number)) (same_labels other.0.labels labels) other.2 in
    let same : one.0.labels ≡ other.0.labels = (same_labels-Decides one.0.labels labels).0 tests.1 ∙ sym ((same_labels-Decides other.0.labels labels).0 tests_too.1) in
    sym one.3 ∙ labels_stay s request may (kept_from s it) one.0 other.0 one.1 other.1 (not-true (is_local one.0.number) tests.0, not-true (is_local other.0.number) tests_too.0, same) ∙ other.3

pub prefix-stays : (s : State) (request : Request) (prefix : Prefix) (old new : ℕ) → Keeps s → MayCommit s request
    → number_of_prefix prefix s.identities ≡ Some old → number_of_prefix prefix (after s request).identities ≡ Some new → old ≡ new
prefix-stays s request prefix old new it may was is =
    let one = found_with (λ row. has_prefix prefix row.prefix) s.identities old was in
    let other = found_with (λ row. has_prefix prefix row.prefix) (after s request).identities new is in
    sym one.3
    ∙ prefix_stays s request may (kept_from s it) prefix one.0 other.0 one.1 other.1 (has_prefix-is prefix one.0.prefix one.2) (has_prefix-is prefix other.0.prefix other.2)
    ∙ other.3
