-- Two takes of one endpoint and the moves between them: a peer that a filter that stays lists was listed ever since, so its
-- row has the one move that tells how its set changed.
use Rattle.std.proofs.Common.{◌≡◌, ℕ, ◌≤◌, nat_eq, List, [], ◌∷◌, IsTrue, find, length, map, Some, inl, inr, refl, sym, ap, ◌∙◌, subst, arith}
use Rattle.std.specs.Arc.{arc_value}
use Rattle.std.specs.Bool.{Decides}
use Rattle.std.specs.List.{AllByRecursion, Contains, IsDistinct, flat_map}
use Rattle.std.specs.Option.{option_map_or}
use Rattle.std.proofs.lemmas.Bool.{both_ways, cases_Bool, eq-eqb, eqb-true}
use Rattle.pol_data.proofs.Members.{Contains-from_In, In, In-from_Contains, every-in}
use Rattle.pol_rule.specs.contracts.policy.PeerPartialEq.TheImpl as peers
use Rattle.pol_rule.specs.declared.policy.Peer.{Peer}
use Rattle.pol_rule.proofs.Equality.{peer_eq-Decides}
use Rattle.pol_model.specs.declared.options.Options.{Options}
use Rattle.pol_model.specs.declared.request.Request.{Request}
use Rattle.pol_model.specs.declared.row.Stamped.{Stamped}
use Rattle.pol_model.specs.After.{state_of}
use Rattle.pol_model_laws.proofs.Distinct.{one_of_key}
use Rattle.pol_model_laws.proofs.Membership.{In-append, find-In, found-some, list_any-In}
use Rattle.pol_sets.specs.declared.sets.Move.{Move}
use Rattle.pol_sets.specs.declared.sets.SetRow.{SetRow}
use Rattle.pol_sets.specs.Sets.{has_set, is_row_of, set_given}
use Rattle.pol_set_changes.specs.Sets.{IsMove}
use Rattle.pol_rule.specs.Listed.{listed_peers}
use Rattle.pol_store.specs.Store.{peers_of}
use Rattle.pol_set_moves.specs.Changes.{IsListedSince, is_listed, set_in, state_at}
use Rattle.pol_set_moves.specs.Moves.{AreMovesOf, IsMoveOf}
use Rattle.pol_kept_map.specs.Applies.{HasMove}
use Rattle.pol_set_moves.proofs.InRules.{In-flat_map}
use Rattle.pol_slot_map.proofs.Stamps.{policy_then}

-- what is in a list made of lists is in one of them
In-flat_map-parts : {X Y : Type 0} (f : Y → List X) (x : X) (ys : List Y) → In x (flat_map f ys) → (y : Y) × In y ys × In x (f y)
In-flat_map-parts f x [] there = elim there [ ]
In-flat_map-parts f x (y ∷ ys) there =
    elim (In-append x (f y) (flat_map f ys) there) [
      | inl here ↦ (y, inl refl, here)
      | inr later ↦ (let rest = In-flat_map-parts f x ys later in (rest.0, inr rest.1, rest.2))
    ]

nat_decides : (a b : ℕ) → Decides (nat_eq a b) (a ≡ b)
nat_decides a b = (eqb-true a b, eq-eqb a b)

-- ---- a policy that was there at the revision lists its peers ever since
pub listed_since : (options : Options) (journal : List Request) (since : ℕ) (stamped : Stamped) (p : Peer) → since ≤ length journal → stamped.stamp ≤ since
    → In stamped (state_of options journal).policies → In p (listed_peers stamped.policy) → IsListedSince options journal since p
listed_since options journal since stamped p within old there listed revision from upto =
    let then = policy_then options journal revision stamped upto (omega (arith, old, from)) there in
    list_any-In (peers.ghosts.eq p) p (peers_of (state_at options journal revision).policies)
    (In-flat_map (λ (s : Stamped). listed_peers s.policy) p stamped (state_at options journal revision).policies then listed)
    ((peer_eq-Decides p p).1 refl)

-- ---- the moves of rows
module _ (options : Options) (journal : List Request) (since : ℕ) where
  -- a row that has a move was listed ever since
  listed_by_move : (row : SetRow) (moves : List Move) (m : Move) → IsMoveOf options journal since row moves → In m moves → IsListedSince options journal since row.peer
  listed_by_move row moves m is there revision from upto =
      elim (cases_Bool (is_listed (state_at options journal revision) row.peer)) [
        | inl lists ↦ lists
        | inr lacks ↦ absurd (none (is.not_listed (λ listed. both_ways (is_listed (state_at options journal revision) row.peer) lacks (listed revision from upto))))
      ]
    where
      none : moves ≡ [] → ⊥
      none empty = (let wrong : In m [] = subst (In m) empty there in wrong)

  -- and it is the row's
  one_move : (row : SetRow) (moves : List Move) (m : Move) → (told : IsMoveOf options journal since row moves) → In m moves
      → (m.selector ≡ row.selector) × IsMove (set_in (state_at options journal since) row.peer) (set_in (state_of options journal) row.peer) m
  one_move row moves m is there =
      let one = is.listed (listed_by_move row moves m is there) in
      elim (subst (In m) one.1 there) [
        | inl same ↦ (
          ap (λ (x : Move). x.selector) (sym same) ∙ one.2,
          subst (IsMove (set_in (state_at options journal since) row.peer) (set_in (state_of options journal) row.peer)) same one.3,
        )
        | inr none ↦ absurd none
      ]

  module _ (rows : List SetRow) (moves : List Move) (are : AreMovesOf options journal since rows moves)
      (apart : IsDistinct nat_eq (map (λ row. row.selector) rows)) where
    -- each move of a row's selector is the row's
    move_of_row : (row : SetRow) (m : Move) → In row rows → Contains moves m → m.selector ≡ row.selector
        → IsMove (set_in (state_at options journal since) row.peer) (set_in (state_of options journal) row.peer) m
    move_of_row row m there listed own =
        let at = In-flat_map-parts are.0 m rows (subst (In m) are.1 (In-from_Contains moves m listed)) in
        let of = one_move at.0 (are.0 at.0) m (every-in (λ r. IsMoveOf options journal since r (are.0 r)) rows are.2 at.0 at.1) at.2 in
        let same : at.0 ≡ row = one_of_key (λ (r : SetRow). r.selector) nat_decides at.0 row rows apart at.1 there (sym of.0 ∙ own) in
        subst (λ (r : SetRow). IsMove (set_in (state_at options journal since) r.peer) (set_in (state_of options journal) r.peer) m) same of.1

    -- the set that the rows give a peer is the state's
    given_at : (p : Peer) → AllByRecursion (λ row. arc_value row.set ≡ set_in (state_of options journal) row.peer) rows
        → (row : SetRow) → find (is_row_of p) rows ≡ Some row → set_given rows p ≡ set_in (state_of options journal) p
    given_at p sets row first =
        let at = find-In (is_row_of p) row rows first in
        ap (λ o. option_map_or (λ (r : SetRow). arc_value r.set) o []) first
        ∙ every-in (λ (r : SetRow). arc_value r.set ≡ set_in (state_of options journal) r.peer) rows sets row at.0
        ∙ ap (set_in (state_of options journal)) ((peer_eq-Decides row.peer p).0 at.1)

    -- a peer that was listed ever since has its move
    pub has_move : (before : List SetRow) (p : Peer) → IsTrue (has_set rows p) → IsListedSince options journal since p
        → AllByRecursion (λ row. arc_value row.set ≡ set_in (state_of options journal) row.peer) rows
        → set_given before p ≡ set_in (state_at options journal since) p → HasMove before rows moves p
    has_move before p has listed sets was =
        let one = found-some (is_row_of p) rows has in
        let at = find-In (is_row_of p) one.0 rows one.1 in
        let same : one.0.peer ≡ p = (peer_eq-Decides one.0.peer p).0 at.1 in
        let told = (every-in (λ r. IsMoveOf options journal since r (are.0 r)) rows are.2 one.0 at.0).listed (subst (IsListedSince options journal since) (sym same) listed) in
        let here : In told.0 (are.0 one.0) = subst (In told.0) (sym told.1) (inl refl) in
        record {
          row = one.0;
          first = one.1;
          move = told.0;
          there = Contains-from_In moves told.0 (subst (In told.0) (sym are.1) (In-flat_map are.0 told.0 one.0 rows at.0 here));
          own = told.2;
          exact = λ m listed own.
              let of = move_of_row one.0 m at.0 listed own in
              let now = given_at p sets one.0 one.1 in
              subst (λ ids. IsMove ids (set_given rows p) m) (ap (set_in (state_at options journal since)) same ∙ sym was)
              (subst (λ ids. IsMove (set_in (state_at options journal since) one.0.peer) ids m) (ap (set_in (state_of options journal)) same ∙ sym now) of);
        }
