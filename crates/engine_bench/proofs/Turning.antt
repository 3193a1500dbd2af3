-- The conditions of a turn.
use Rattle.std.proofs.Common.{◌≡◌, ℕ, ◌+◌, ◌<◌, true, false, List, [], ◌∷◌, ◌++◌, length, append-nil, Option, Some, None, IfSome, IsTrue, MatchOption, find, refl, sym, ◌∙◌, ap, subst, arith}
use Rattle.std.specs.Arc.{arc_value}
use Rattle.std.specs.List.{AllByRecursion, Contains, slice_index_or}
use Rattle.std.specs.Option.{option_map_or}
use Rattle.std.proofs.lemmas.Bool.{both_ways}
use Rattle.std.proofs.lemmas.List.Elements.{Contains-get_or}
use Rattle.pol_data.proofs.Every.{every-contained}
use Rattle.pol_data.proofs.Members.{find-gives, list_any-found}
use Rattle.pol_rule.specs.declared.policy.Peer.{Peer}
use Rattle.pol_rule.specs.declared.policy.Peers.{Peers}
use Rattle.pol_rule.specs.declared.policy.Peers.TheVariants.{Every, Listed}
use Rattle.pol_sets.specs.declared.sets.Move.{Move}
use Rattle.pol_sets.specs.declared.sets.SetRow.{SetRow}
use Rattle.pol_sets.specs.Sets.{has_set, is_row_of, set_given}
use Rattle.pol_set_changes.specs.Ids.{without}
use Rattle.pol_filters.specs.declared.filter.Filter.{Filter}
use Rattle.pol_filters.specs.declared.filter.Filters.{Filters}
use Rattle.pol_distill.specs.Sorted.{HaveSets, ListHasSets, PeersHaveSets}
use Rattle.pol_kept_map.specs.Applies.{HasMove, MovesTell, NamesFilters, all_filters}
use Rattle.pol_kept_map.specs.Work.{AllOfFilters, AllOfPeers, IsWorkOf, WorkOf}
use Rattle.pol_kept_map.specs.declared.changes.Changes.{Changes}
use Rattle.engine_bench.specs.Turns.{AllAt, IsAt, RowAt, Turns}

both_of : (P Q R : Peer → Type 0) → ((p : Peer) → P p → Q p → R p) → (ps : List Peer) → AllByRecursion P ps → AllByRecursion Q ps → AllByRecursion R ps
both_of P Q R make [] ones others = tt
both_of P Q R make (p ∷ ps) ones others = (make p ones.0 others.0, both_of P Q R make ps ones.1 others.1)

-- a peer that has a row is found
module _ (rows : List SetRow) (set : List ℕ) (all : AllAt (RowAt set) rows) (p : Peer) (has : IsTrue (has_set rows p)) where
  abbrev pub FoundAt : Type 0
  FoundAt = (row : SetRow) × (i : ℕ) × (find (is_row_of p) rows ≡ Some row) × (i < length rows) × (row.selector ≡ i) × (arc_value row.set ≡ set)

  pub found_at : FoundAt
  found_at = by (find (is_row_of p) rows) refl (find-gives (is_row_of p) rows)
    where
      by : (r : Option SetRow) → find (is_row_of p) rows ≡ r → MatchOption r ((x : SetRow) → Contains rows x → is_row_of p x ≡ false) (λ x. Contains rows x × (is_row_of p x ≡ true)) → FoundAt
      by None e none = (let one = list_any-found (is_row_of p) rows has in absurd (both_ways (is_row_of p one.0) (none one.0 one.1) one.2))
      by (Some row) e found =
          let at = all found.0.0 row found.0.1 in
          (row, found.0.0, e, found.0.1, sym (ap (λ (r : SetRow). r.selector) found.0.2) ∙ at.0, sym (ap (λ (r : SetRow). arc_value r.set) found.0.2) ∙ at.1)

  pub given_at : set_given rows p ≡ set
  given_at = ap (λ (r : Option SetRow). option_map_or (λ (row : SetRow). arc_value row.set) r []) found_at.2 ∙ found_at.5

-- where each row has the set, each peer that has a row has it
module _ (rows : List SetRow) (set : List ℕ) (all : AllAt (RowAt set) rows) where
  peers_now : (new : List SetRow) (peers : Peers) → AllOfPeers (λ p. set_given new p ≡ set_given rows p) peers → PeersHaveSets rows peers
      → AllOfPeers (λ p. set_given new p ≡ set) peers
  peers_now new Every own has = tt
  peers_now new (Listed ps) own has =
      both_of (λ p. set_given new p ≡ set_given rows p) (λ p. IsTrue (has_set rows p)) (λ p. set_given new p ≡ set)
      (λ p own has. own ∙ given_at rows set all p has) ps own has

  filters_now : (new : List SetRow) (filters : List Filter) → AllOfFilters (λ p. set_given new p ≡ set_given rows p) filters → ListHasSets rows filters
      → AllOfFilters (λ p. set_given new p ≡ set) filters
  filters_now new [] own has = tt
  filters_now new (one ∷ filters) own has = (peers_now new one.peers own.0 has.0, filters_now new filters own.1 has.1)

  pub arrives : (filters : Filters) (work : WorkOf) → HaveSets rows filters → IsWorkOf filters rows work → IsAt set filters work
  arrives filters work have of = record {
    same = of.same;
    agrees = record { ingress = filters_now work.rows filters.ingress of.agrees.ingress have.ingress; egress = filters_now work.rows filters.egress of.agrees.egress have.egress };
  }

module _ (was is : List ℕ) (count : ℕ) (changes : Changes) (turns : Turns was is count changes) where
  has_move : (old : List SetRow) (p : Peer) → set_given old p ≡ was → IsTrue (has_set changes.sets p) → HasMove old changes.sets turns.moves p
  has_move old p own has =
      let at = found_at changes.sets is turns.rows p has in
      let within : at.1 < length turns.moves = omega (arith, at.3, turns.row_count, turns.move_count) in
      let none : Move = record { selector = 0; gained = []; lost = [] } in
      let now = given_at changes.sets is turns.rows p has in
      record {
        row = at.0;
        first = at.2;
        move = slice_index_or turns.moves at.1 none;
        there = Contains-get_or turns.moves at.1 none within;
        own = (turns.exact at.1 none within).0 ∙ sym at.4;
        exact = λ m there own_selector.
            let moved = turns.exact there.0 m there.1 in
            record {
              gained = sym (ap (λ (x : Move). x.gained) there.2) ∙ moved.1 ∙ (λ i. without (sym now i) (sym own i));
              lost = sym (ap (λ (x : Move). x.lost) there.2) ∙ moved.2 ∙ (λ i. without (sym own i) (sym now i));
            };
      }

  peers_move : (old : List SetRow) (peers : Peers) → AllOfPeers (λ p. set_given old p ≡ was) peers → PeersHaveSets changes.sets peers
      → AllOfPeers (HasMove old changes.sets turns.moves) peers
  peers_move old Every own has = tt
  peers_move old (Listed ps) own has =
      both_of (λ p. set_given old p ≡ was) (λ p. IsTrue (has_set changes.sets p)) (HasMove old changes.sets turns.moves) (has_move old) ps own has

  module _ (from to : Filters) (have : HaveSets changes.sets to) (named : NamesFilters from to) where
    pub tells : (work : WorkOf) → IsAt was from work → from.egress ≡ [] → to.egress ≡ [] → IfSome changes.moves (MovesTell work to changes.sets)
    tells work at none nor =
        subst (λ (ms : Option (List Move)). IfSome ms (MovesTell work to changes.sets)) (sym turns.some) (λ one there stands.
        let there_in = subst (λ fs. Contains fs one) (ap (λ fs. to.ingress ++ fs) nor ∙ append-nil to.ingress) there in
        let stood = subst (λ fs. Contains (all_filters fs) stands.0) at.same stands.1 in
        let equal : stands.0 ≡ one = named stands.0 one stood there stands.2 stands.3 in
        let stood_in = subst (λ fs. Contains fs stands.0) (ap (λ fs. from.ingress ++ fs) none ∙ append-nil from.ingress) stood in
        peers_move work.rows one.peers
        (every-contained (λ (f : Filter). AllOfPeers (λ p. set_given work.rows p ≡ was) f.peers) from.ingress one at.agrees.ingress (subst (Contains from.ingress) equal stood_in))
        (every-contained (λ (f : Filter). PeersHaveSets changes.sets f.peers) to.ingress one have.ingress there_in))
