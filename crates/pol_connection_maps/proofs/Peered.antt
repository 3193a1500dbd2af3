-- A table has the first row of each peer, and what the rows of one subject's peers give.
use Rattle.std.proofs.Common.{◌≡◌, Bool, true, false, cond, ◌||◌, List, [], ◌∷◌, Bor, map, Option, None, Some, option_map, find, IsTrue, refl, sym, ap, ◌∙◌}
use Rattle.std.specs.Arc.{arc_value}
use Rattle.std.specs.List.{AllByRecursion, list_any}
use Rattle.std.specs.Option.{option_map_or}
use Rattle.pol_rule.specs.contracts.policy.PeerPartialEq.TheImpl as peers
use Rattle.pol_rule.specs.declared.policy.Peer.{Peer}
use Rattle.pol_rule.proofs.Equality.{peer_eq-Decides}
use Rattle.pol_model.specs.declared.row.IdentityRow.{IdentityRow}
use Rattle.pol_model.specs.Selects.{set_at}
use Rattle.pol_model_laws.proofs.Membership.{find-In}
use Rattle.pol_model_laws.proofs.PeerSets.{map_same}
use Rattle.pol_sets.specs.declared.sets.SetRow.{SetRow}
use Rattle.pol_sets.specs.Sets.{has_set, is_row_of, set_given}
use Rattle.pol_filters.specs.declared.filter.Filters.{Filters}
use Rattle.pol_filters.specs.FilterParts.{filter_parts}
use Rattle.pol_distill.specs.Distilled.{distilled}
use Rattle.pol_connection_maps.specs.PeerRows.{filters_peers, first_row}
use Rattle.pol_connection_maps.specs.Sets.{AreExact, AreSetsOf}
use Rattle.pol_connection_maps.proofs.Listed.{filters_serve, parts_agree}

-- a reference to a peer, for what a table says at each
abbrev pub at : Peer → Bor Peer
at p = record { ref_ptr = (0, 0); now = p }

abbrev pub row_in : Option (Bor SetRow) → Option SetRow
row_in = option_map (λ (row : Bor SetRow). row.now)

-- one row before the others
pub put_row : (b : Bool) (row : Bor SetRow) (found : Option SetRow) (old : Option (Bor SetRow)) → row_in old ≡ found → row_in (cond b (Some row) old) ≡ cond b (Some row.now) found
put_row true row found old rest = refl
put_row false row found old rest = rest

-- a row in front of those that are there
pub row_more : (p : Peer) (one : Bor SetRow) (key : Peer) (rest : List SetRow) (old new : Option (Bor SetRow)) → key ≡ one.now.peer → new ≡ cond (peers.ghosts.eq key p) (Some one) old
    → row_in old ≡ first_row rest p → row_in new ≡ first_row (one.now ∷ rest) p
row_more p one key rest old new named updated was =
    ap row_in updated ∙ (λ i. row_in (cond (peers.ghosts.eq (named i) p) (Some one) old)) ∙ put_row (is_row_of p one.now) one (first_row rest p) old was

-- a peer that has a row is found
pub none_found : (p : Peer) (rows : List SetRow) → None ≡ first_row rows p → IsTrue (has_set rows p) → ⊥
none_found p [] found there = cc
none_found p (row ∷ rows) found there = by_first (is_row_of p row) found there (none_found p rows)
  where
    by_first : (b : Bool) → None ≡ cond b (Some row) (find (is_row_of p) rows) → IsTrue (b || list_any (is_row_of p) rows) → (None ≡ first_row rows p → IsTrue (has_set rows p) → ⊥) → ⊥
    by_first true e there rest = cc
    by_first false e there rest = rest e there

pub found_peer : (rows : List SetRow) (p : Peer) (row : SetRow) → Some row ≡ first_row rows p → row.peer ≡ p
found_peer rows p row found = (peer_eq-Decides row.peer p).0 (find-In (is_row_of p) row rows (sym found)).1

pub given_by : (rows : List SetRow) (p : Peer) (row : SetRow) → Some row ≡ first_row rows p → arc_value row.set ≡ set_given rows p
given_by rows p row found = ap (λ o. option_map_or (λ (row : SetRow). arc_value row.set) o []) found

-- ---- the rows of one subject's peers serve as all rows do
pub own_serve : (identities : List IdentityRow) (filters : Filters) (sets own : List SetRow) → AreExact identities sets → AllByRecursion (λ p. IsTrue (has_set sets p)) (filters_peers filters)
    → AreSetsOf identities (filters_peers filters) own → distilled filters own ≡ distilled filters sets
own_serve identities filters sets own exact every are =
    map_same (set_given own) (set_at identities) (filter_parts filters) (parts_agree identities own are.exact filters (filters_serve own filters are.every))
    ∙ sym (map_same (set_given sets) (set_at identities) (filter_parts filters) (parts_agree identities sets exact filters (filters_serve sets filters every)))

pub every_under : {X Y : Type 0} (P : Y → Type 0) (f : X → Y) (xs : List X) → AllByRecursion P (map f xs) → AllByRecursion (λ x. P (f x)) xs
every_under P f [] all = tt
every_under P f (x ∷ xs) all = (all.0, every_under P f xs all.1)
