-- The entries of filters, filter by filter, are those of the map's definition, each as often.
use Rattle.std.proofs.Common.{◌≡◌, ℕ, ◌+◌, true, false, cond, not, List, [], ◌∷◌, ◌++◌, map, filter, Result, Ok, Err, IfOk, refl, sym, ◌∙◌, ap, arith}
use Rattle.std.specs.List.{flat_map}
use Rattle.pol_ports.specs.declared.Direction.{Direction}
use Rattle.pol_ports.specs.declared.Direction.TheVariants.{Ingress, Egress}
use Rattle.pol_mapkey.specs.Entries.{Entry}
use Rattle.pol_mapkey.specs.declared.Kind.{Kind}
use Rattle.pol_mapkey.specs.declared.Kind.TheVariants.{Allow, Deny}
use Rattle.pol_mapkey.specs.declared.MapKey.{MapKey}
use Rattle.pol_rule.specs.declared.policy.Peer.{Peer}
use Rattle.pol_model.specs.PolicyMap.{allow_every, direction_entries, entry_entries, localhost_entries, raw_entries, unenforced_entries}
use Rattle.pol_sets.specs.declared.sets.SetRow.{SetRow}
use Rattle.pol_sets.specs.Sets.{set_given}
use Rattle.pol_filters.specs.declared.filter.Filter.{Filter}
use Rattle.pol_filters.specs.declared.filter.Filters.{Filters}
use Rattle.pol_filters.specs.FilterParts.{allowing, denying, entry_of, enforced_in, filter_parts, filters_of}
use Rattle.pol_entry_tally.specs.Times.{times}
use Rattle.pol_entry_changes.specs.Balance.{Leads}
use Rattle.pol_entry_changes.specs.Given.{all_given, entry_where, given_by, of_filters, of_no_filter, raw_of}
use Rattle.pol_entry_changes.specs.declared.staying.Moved.{Moved}
use Rattle.pol_entry_changes.proofs.Times.{times-append}

module _ (set : Peer → List ℕ) (q : MapKey) (k : Kind) where
  -- the filters that allow and those that deny are all filters
  sections : (dir : Direction) (list : List Filter) → times (flat_map (given_by set dir) list) q k
      ≡ times (flat_map (entry_entries set dir Allow) (allowing list)) q k + times (flat_map (entry_entries set dir Deny) (denying list)) q k
  sections dir [] = refl
  sections dir (one ∷ list) =
      let allows = entry_entries set dir Allow in
      let denies = entry_entries set dir Deny in
      let rest = sections dir list in
      elim one.deny as (λ b. times (entry_entries set dir (cond b Deny Allow) (entry_of one) ++ flat_map (given_by set dir) list) q k
      ≡ times (flat_map allows (map entry_of (cond (not b) (one ∷ filter (λ (f : Filter). not f.deny) list) (filter (λ (f : Filter). not f.deny) list)))) q k
      + times (flat_map denies (map entry_of (cond b (one ∷ filter (λ (f : Filter). f.deny) list) (filter (λ (f : Filter). f.deny) list)))) q k) [
        | true ↦ omega (arith, rest, times-append (denies (entry_of one)) (flat_map (given_by set dir) list) q k, times-append (denies (entry_of one)) (flat_map denies (denying list)) q k)
        | false ↦ omega (arith, rest, times-append (allows (entry_of one)) (flat_map (given_by set dir) list) q k, times-append (allows (entry_of one)) (flat_map allows (allowing list)) q k)
      ]

  module _ (filters : Filters) where
    open_entries : (dir : Direction) → times (unenforced_entries (filter_parts filters) dir) q k ≡ times (entry_where (not (enforced_in filters dir)) (allow_every dir 0)) q k
    open_entries dir =
        elim (enforced_in filters dir) as (λ b. times (cond b [] (allow_every dir 0 ∷ [])) q k ≡ times (cond (not b) (allow_every dir 0 ∷ []) []) q k) [
          | true ↦ refl
          | false ↦ refl
        ]

    direction_times : (dir : Direction) → times (direction_entries set (filter_parts filters) dir) q k
        ≡ times (flat_map (given_by set dir) (filters_of filters dir)) q k + times (entry_where (not (enforced_in filters dir)) (allow_every dir 0)) q k
        + times (localhost_entries (filter_parts filters) dir) q k
    direction_times dir =
        let parts = filter_parts filters in
        let allows = flat_map (entry_entries set dir Allow) (allowing (filters_of filters dir)) in
        let denies = flat_map (entry_entries set dir Deny) (denying (filters_of filters dir)) in
        let others = unenforced_entries parts dir in
        let local = localhost_entries parts dir in
        omega (arith, sections dir (filters_of filters dir), open_entries dir, times-append allows denies q k, times-append (allows ++ denies) others q k, times-append (allows ++ denies ++ others) local q k)

    pub enforced_times : times (of_filters set filters ++ of_no_filter filters) q k
        ≡ times (direction_entries set (filter_parts filters) Ingress ++ direction_entries set (filter_parts filters) Egress) q k
    enforced_times =
        let parts = filter_parts filters in
        let come = flat_map (given_by set Ingress) filters.ingress in
        let go = flat_map (given_by set Egress) filters.egress in
        let first = entry_where (not filters.ingress_enforced) (allow_every Ingress 0) in
        let second = entry_where filters.localhost (allow_every Ingress 1) in
        let third = entry_where (not filters.egress_enforced) (allow_every Egress 0) in
        let none : times (localhost_entries parts Egress) q k ≡ 0 = refl in
        let local : times (localhost_entries parts Ingress) q k ≡ times second q k = refl in
        omega (
          arith,
          none,
          local,
          direction_times Ingress,
          direction_times Egress,
          times-append (direction_entries set parts Ingress) (direction_entries set parts Egress) q k,
          times-append come go q k,
          times-append first second q k,
          times-append (first ++ second) third q k,
          times-append (come ++ go) (first ++ second ++ third) q k,
        )

    pub raw_times : times (all_given set filters) q k ≡ times (raw_entries set (filter_parts filters)) q k
    raw_times =
        elim filters.never as (λ b. times (cond b (allow_every Ingress 0 ∷ allow_every Egress 0 ∷ []) (of_filters set filters ++ of_no_filter filters)) q k
        ≡ times (cond b (allow_every Ingress 0 ∷ allow_every Egress 0 ∷ []) (direction_entries set (filter_parts filters) Ingress ++ direction_entries set (filter_parts filters) Egress)) q k) [
          | true ↦ refl
          | false ↦ enforced_times
        ]

-- what was made is all that the definition has
pub given_is : {V E : Type 0} (r : Result V E) (items : V → List Entry) (index rows : List SetRow) (filters : Filters) → index ≡ rows
    → IfOk r (λ v. items v ≡ all_given (set_given index) filters) → IfOk r (λ v. (q : MapKey) (k : Kind) → times (items v) q k ≡ times (raw_of filters rows) q k)
given_is (Ok v) items index rows filters same made = λ q k.
    ap (λ es. times es q k) made ∙ raw_times (set_given index) q k filters ∙ ap (λ (rs : List SetRow). times (raw_of filters rs) q k) same
given_is (Err e) items index rows filters same made = tt

-- where something is enforced
enforced_raw : (filters : Filters) (rows : List SetRow) → filters.never ≡ false → (q : MapKey) (k : Kind)
    → times (of_filters (set_given rows) filters ++ of_no_filter filters) q k ≡ times (raw_of filters rows) q k
enforced_raw filters rows some q k =
    let set = set_given rows in
    let parts = filter_parts filters in
    enforced_times set q k filters
    ∙ sym (ap (λ b. times (cond b (allow_every Ingress 0 ∷ allow_every Egress 0 ∷ []) (direction_entries set parts Ingress ++ direction_entries set parts Egress)) q k) some)

pub walked_leads : {E : Type 0} (was is : Filters) (was_rows is_rows : List SetRow) → was.never ≡ false → is.never ≡ false → (r : Result Moved E)
    → IfOk r (Leads (of_filters (set_given was_rows) was ++ of_no_filter was) (of_filters (set_given is_rows) is ++ of_no_filter is))
    → IfOk r (Leads (raw_of was was_rows) (raw_of is is_rows))
walked_leads was is was_rows is_rows old new (Ok m) on = λ q k. omega (arith, on q k, enforced_raw was was_rows old q k, enforced_raw is is_rows new q k)
walked_leads was is was_rows is_rows old new (Err e) on = tt
