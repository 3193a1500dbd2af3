-- What the list by age says of the queue.
use Rattle.std.proofs.Common.{◌≡◌, ℕ, zero, suc, ◌+◌, ◌^◌, ◌<◌, ◌≤◌, List, [], ◌∷◌, length, get_or, Some, None, refl, sym, ap, subst, ◌∙◌, inl, inr, arith}
use Rattle.std.specs.Prelude.{IsSome}
use Rattle.std.proofs.lemmas.Bool.{cases_eq, cases_lt, eq-eqb, ne_eqb}
use Rattle.pol_arena.specs.declared.node.ChainNode.{ChainNode}
use Rattle.pol_arena.specs.Twin.{newest_on, entry_of, value_of, older_than}
use Rattle.pol_arena.specs.Queue.{behind, gap_before, ages_of, IsGap, AllLinked}
use Rattle.pol_arena.proofs.Indices.{behind_below, behind-zero, behind-behind, behind-place, same_from_behind, apart_from_behind, behind_step}

module _ {T : Type 0} where
  -- the newest node of a chain is behind the gap to it
  pub newest_found : (chain : ℕ) (ns : List (ChainNode T)) (last gap : ℕ) → last < 2 ^ 32 → length ns < 2 ^ 32 → IsGap chain ns gap → gap < length ns → newest_on chain (ages_of last ns) ≡ Some (behind last gap)
  newest_found chain [] last gap h k g w = absurd (omega arith)
  newest_found chain (n ∷ ns) last zero h k g w =
      rw (eq-eqb n.chain chain g) (ap Some (sym (behind-zero last h)))
  newest_found chain (n ∷ ns) last (suc gap) h k g w =
      rw (ne_eqb n.chain chain g.0) (newest_found chain ns (behind last 1) gap (behind_below last 1) (omega arith) g.1 (omega arith) ∙ ap Some (behind-behind last 1 gap (suc gap) h (omega arith) (omega arith)))

  -- and an empty chain has none
  pub newest_absent : (chain : ℕ) (ns : List (ChainNode T)) (last gap : ℕ) → IsGap chain ns gap → length ns ≤ gap → newest_on chain (ages_of last ns) ≡ None
  newest_absent chain [] last gap g w = refl
  newest_absent chain (n ∷ ns) last zero g w = absurd (omega arith)
  newest_absent chain (n ∷ ns) last (suc gap) g w =
      rw (ne_eqb n.chain chain g.0) (newest_absent chain ns (behind last 1) gap g.1 (omega arith))

  -- the gap to each chain
  pub gap_of : (chain : ℕ) (ns : List (ChainNode T)) → (gap : ℕ) × IsGap chain ns gap × (gap ≤ length ns)
  gap_of chain [] = (0, tt, omega arith)
  gap_of chain (n ∷ ns) =
      elim (cases_eq n.chain chain) [
        | inl same ↦ (zero, same, omega arith)
        | inr differs ↦ (suc (gap_of chain ns).0, (differs, (gap_of chain ns).1), omega (arith, (gap_of chain ns).2))
      ]

  -- the gap that a push writes down
  pub gap_before_right : (chain : ℕ) (ns : List (ChainNode T)) (last : ℕ) → last < 2 ^ 32 → length ns < 2 ^ 32 → IsGap chain ns (gap_before (newest_on chain (ages_of last ns)) last (length ns))
  gap_before_right chain ns last h k =
      let found = gap_of chain ns in
      let at_most : found.0 ≤ length ns = found.2 in
      elim (cases_lt found.0 (length ns)) [
        | inl within ↦ rw (newest_found chain ns last found.0 h k found.1 within) (rw (behind-place last found.0 h (omega arith)) found.1)
        | inr past ↦ (let all : found.0 ≡ length ns = omega arith in rw (newest_absent chain ns last found.0 found.1 past) (subst (IsGap chain ns) all found.1))
      ]

  -- an index too far behind is free
  pub entry_absent : (ns : List (ChainNode T)) (last node : ℕ) → last < 2 ^ 32 → node < 2 ^ 32 → length ns ≤ behind last node → entry_of node (ages_of last ns) ≡ None
  entry_absent [] last node h k far = refl
  entry_absent (n ∷ ns) last node h k far =
      let some : 0 < behind last node = omega arith in
      let step = behind_step last node h k some in
      rw (ne_eqb last node (apart_from_behind last node h some)) (entry_absent ns (behind last 1) node (behind_below last 1) k (omega arith))

  -- so that an index in use has a place
  pub place_within : (ns : List (ChainNode T)) (last node : ℕ) → last < 2 ^ 32 → node < 2 ^ 32 → IsSome (entry_of node (ages_of last ns)) → behind last node < length ns
  place_within ns last node h k used =
      elim (cases_lt (behind last node) (length ns)) [
        | inl within ↦ within
        | inr far ↦ (let none = entry_absent ns last node h k far in absurd (let wrong : ⊥ = cc in wrong))
      ]

  -- the value at a place
  pub value_at : (ns : List (ChainNode T)) (last node p : ℕ) (d : ChainNode T) → last < 2 ^ 32 → node < 2 ^ 32 → behind last node ≡ p → p < length ns → value_of node (ages_of last ns) ≡ Some (get_or ns p d).value
  value_at [] last node p d h k e w = absurd (omega arith)
  value_at (n ∷ ns) last node zero d h k e w = rw (eq-eqb last node (same_from_behind last node h k e)) refl
  value_at (n ∷ ns) last node (suc p) d h k e w =
      let some : 0 < behind last node = omega arith in
      let step = behind_step last node h k some in
      rw (ne_eqb last node (apart_from_behind last node h some)) (value_at ns (behind last 1) node p d (behind_below last 1) k (omega arith) (omega arith))

  -- the older node of a place is behind the gap there
  pub older_found : (ns : List (ChainNode T)) (last node p : ℕ) (d : ChainNode T) → last < 2 ^ 32 → node < 2 ^ 32 → length ns < 2 ^ 32 → AllLinked ns → behind last node ≡ p → p + (get_or ns p d).gap + 1 < length ns → older_than node (ages_of last ns) ≡ Some (behind last (p + (get_or ns p d).gap + 1))
  older_found [] last node p d h k fits linked e w = absurd (omega arith)
  older_found (n ∷ ns) last node zero d h k fits linked e w =
      rw (eq-eqb last node (same_from_behind last node h k e)) (newest_found n.chain ns (behind last 1) n.gap (behind_below last 1) (omega arith) linked.0 (omega arith) ∙ ap Some (behind-behind last 1 n.gap (zero + n.gap + 1) h (omega arith) (omega arith)))
  older_found (n ∷ ns) last node (suc p) d h k fits linked e w =
      let some : 0 < behind last node = omega arith in
      let step = behind_step last node h k some in
      rw (ne_eqb last node (apart_from_behind last node h some)) (older_found ns (behind last 1) node p d (behind_below last 1) k (omega arith) linked.1 (omega arith) (omega arith) ∙ ap Some (behind-behind last 1 (p + (get_or ns p d).gap + 1) (suc p + (get_or ns p d).gap + 1) h (omega arith) (omega arith)))

  -- and where the queue ends before, there is none
  pub older_absent : (ns : List (ChainNode T)) (last node p : ℕ) (d : ChainNode T) → last < 2 ^ 32 → node < 2 ^ 32 → AllLinked ns → behind last node ≡ p → p < length ns → length ns ≤ p + (get_or ns p d).gap + 1 → older_than node (ages_of last ns) ≡ None
  older_absent [] last node p d h k linked e w past = refl
  older_absent (n ∷ ns) last node zero d h k linked e w past =
      rw (eq-eqb last node (same_from_behind last node h k e)) (newest_absent n.chain ns (behind last 1) n.gap linked.0 (omega arith))
  older_absent (n ∷ ns) last node (suc p) d h k linked e w past =
      let some : 0 < behind last node = omega arith in
      let step = behind_step last node h k some in
      rw (ne_eqb last node (apart_from_behind last node h some)) (older_absent ns (behind last 1) node p d (behind_below last 1) k linked.1 (omega arith) (omega arith) (omega arith))
