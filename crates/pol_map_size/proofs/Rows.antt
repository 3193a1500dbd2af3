-- What rows give peers, where those of a part stand for them.
use Rattle.std.proofs.Common.{◌≡◌, ℕ, Bool, true, false, cond, List, [], ◌∷◌, ◌++◌, ◌||◌, find, filter, Option, Some, refl, sym, ◌∙◌, ap, subst}
use Rattle.std.proofs.lemmas.List.Kept.{IsStrictlySortedBy-filter}
use Rattle.std.specs.Arc.{arc_value}
use Rattle.std.specs.List.Sorted.{IsStrictlySortedBy}
use Rattle.std.specs.Option.{option_map_or}
use Rattle.std.specs.Ordering.{nat_cmp}
use Rattle.pol_rule.specs.contracts.policy.PeerPartialEq.TheImpl as peers
use Rattle.pol_rule.specs.declared.policy.Peer.{Peer}
use Rattle.pol_rule.specs.declared.policy.Peers.{Peers}
use Rattle.pol_rule.specs.declared.policy.Peers.TheVariants.{Every, Listed}
use Rattle.pol_sets.specs.declared.sets.SetRow.{SetRow}
use Rattle.pol_sets.specs.IdSet.{IsIdSet}
use Rattle.pol_sets.specs.Sets.{has_set, is_row_of, set_given}
use Rattle.pol_filters.specs.declared.filter.Filter.{Filter}
use Rattle.pol_filters.specs.declared.filter.Filters.{Filters}
use Rattle.pol_distill.specs.Sorted.{HaveSets, ListHasSets, PeersHaveSets}
use Rattle.pol_map_size.specs.Part.{ArePartsOf, IsPartOf, is_between}

-- what is left of a set's numbers ascends
pub ascends_between : (from : ℕ) (end : Option ℕ) (set ids left : List ℕ) → IsIdSet set → ids ≡ set → left ≡ filter (is_between from end) ids
    → IsStrictlySortedBy nat_cmp left
ascends_between from end set ids left is same made =
    subst (IsStrictlySortedBy nat_cmp) (sym (made ∙ ap (filter (is_between from end)) same)) (IsStrictlySortedBy-filter nat_cmp (is_between from end) set is.ascends)

abbrev set_in : Option SetRow → List ℕ
set_in found = option_map_or (λ (row : SetRow). arc_value row.set) found []

module _ (from : ℕ) (end : Option ℕ) where
  -- one row more
  pub more_rows : (rows parts : List SetRow) (row part : SetRow) → ArePartsOf from end rows parts → IsPartOf from end row part
      → ArePartsOf from end (rows ++ row ∷ []) (parts ++ part ∷ [])
  more_rows [] [] row part are is = (is, tt)
  more_rows [] (q ∷ parts) row part are is = absurd are
  more_rows (r ∷ rows) [] row part are is = absurd are
  more_rows (r ∷ rows) (q ∷ parts) row part are is = (are.0, more_rows rows parts row part are.1 is)

  same_row : (p : Peer) (row part : SetRow) → IsPartOf from end row part → is_row_of p part ≡ is_row_of p row
  same_row p row part is = ap (λ own. peers.ghosts.eq own p) is.peer

  -- the same peers have rows
  pub same_has : (rows parts : List SetRow) → ArePartsOf from end rows parts → (p : Peer) → has_set parts p ≡ has_set rows p
  same_has [] [] are p = refl
  same_has [] (q ∷ parts) are p = absurd are
  same_has (r ∷ rows) [] are p = absurd are
  same_has (r ∷ rows) (q ∷ parts) are p = λ i. same_row p r q are.0 i || same_has rows parts are.1 p i

  given_by : (b : Bool) (row part : SetRow) (found other : Option SetRow) → IsPartOf from end row part → set_in other ≡ filter (is_between from end) (set_in found)
      → set_in (cond b (Some part) other) ≡ filter (is_between from end) (set_in (cond b (Some row) found))
  given_by true row part found other is rest = is.set
  given_by false row part found other is rest = rest

  -- each peer is given what is of the part
  pub given_part : (rows parts : List SetRow) → ArePartsOf from end rows parts → (p : Peer)
      → set_given parts p ≡ filter (is_between from end) (set_given rows p)
  given_part [] [] are p = refl
  given_part [] (q ∷ parts) are p = absurd are
  given_part (r ∷ rows) [] are p = absurd are
  given_part (r ∷ rows) (q ∷ parts) are p =
      ap (λ b. set_in (cond b (Some q) (find (is_row_of p) parts))) (same_row p r q are.0)
      ∙ given_by (is_row_of p r) r q (find (is_row_of p) rows) (find (is_row_of p) parts) are.0 (given_part rows parts are.1 p)

  -- so each peer that filters list has its row still
  module _ (rows parts : List SetRow) (are : ArePartsOf from end rows parts) where
    peers_have : (peers : List Peer) → PeersHaveSets rows (Listed peers) → PeersHaveSets parts (Listed peers)
    peers_have [] have = tt
    peers_have (p ∷ peers) have = (same_has rows parts are p ∙ have.0, peers_have peers have.1)

    one_has : (peers : Peers) → PeersHaveSets rows peers → PeersHaveSets parts peers
    one_has Every have = tt
    one_has (Listed peers) have = peers_have peers have

    list_has : (filters : List Filter) → ListHasSets rows filters → ListHasSets parts filters
    list_has [] have = tt
    list_has (one ∷ filters) have = (one_has one.peers have.0, list_has filters have.1)

    pub have_parts : (filters : Filters) → HaveSets rows filters → HaveSets parts filters
    have_parts filters have = record { ingress = list_has filters.ingress have.ingress; egress = list_has filters.egress have.egress }
