-- What a twin that is kept right tells, and how a change keeps it right.
use Rattle.std.proofs.Common.{◌≡◌, ℕ, zero, suc, ◌+◌, ◌^◌, ◌<◌, ◌≤◌, true, false, List, [], ◌∷◌, length, get_or, map, Option, Some, None, refl, sym, ap, subst, ◌∙◌, inl, inr, arith}
use Rattle.std.specs.Prelude.{IsSome, IfSome, is_some, All, nat_eq}
use Rattle.std.proofs.lemmas.Option.{IfSome_then}
use Rattle.std.specs.List.{IsDistinct, AllByRecursion}
use Rattle.std.proofs.lemmas.Bool.{cases_eq, cases_lt, eq-eqb, ne_eqb}
use Rattle.std.proofs.lemmas.List.{get_or_past}
use Rattle.pol_arena.specs.declared.node.ChainNode.{ChainNode}
use Rattle.pol_arena.specs.Twin.{Entry, Twin, newest_on, entry_of, value_of, older_than, IsSound}
use Rattle.pol_arena.specs.Queue.{behind, ages_of, IsKept}
use Rattle.pol_arena.proofs.Indices.{behind_below, self-behind}
use Rattle.pol_arena.proofs.Ages.{entry_absent, place_within, value_at, older_found, older_absent}

module _ {T : Type 0} where
  pub length_ages : (ns : List (ChainNode T)) (last : ℕ) → length (ages_of last ns) ≡ length ns
  length_ages [] last = refl
  length_ages (n ∷ ns) last = ap suc (length_ages ns (behind last 1))

  -- no entry has a node that isn't in use
  pub others_differ : (node : ℕ) (es : List (Entry T)) → entry_of node es ≡ None → AllByRecursion (λ y. nat_eq node y ≡ false) (map (λ e. e.node) es)
  others_differ node [] none = tt
  others_differ node (e ∷ es) none =
      elim (cases_eq e.node node) [
        | inl same ↦ (let found : entry_of node (e ∷ es) ≡ Some e = rw (eq-eqb e.node node same) refl in absurd (let wrong : ⊥ = cc in wrong))
        | inr differs ↦ (ne_eqb node e.node (λ s. differs (sym s)), others_differ node es (rw (ne_eqb e.node node differs) at none))
      ]

  nodes_distinct : (ns : List (ChainNode T)) (last : ℕ) → last < 2 ^ 32 → length ns < 2 ^ 32 → IsDistinct nat_eq (map (λ e. e.node) (ages_of last ns))
  unfolding IsDistinct
  nodes_distinct [] last h k = tt
  nodes_distinct (n ∷ ns) last h k =
      let far = self-behind last h in
      (others_differ last (ages_of (behind last 1) ns) (entry_absent ns (behind last 1) last (behind_below last 1) h (omega arith)), nodes_distinct ns (behind last 1) (behind_below last 1) (omega arith))

  -- the chain of an entry has a newest node
  newest_there : (chain : ℕ) (es : List (Entry T)) (k : ℕ) (d : Entry T) → k < length es → (get_or es k d).chain ≡ chain → is_some (newest_on chain es) ≡ true
  newest_there chain [] k d w e = absurd (omega arith)
  newest_there chain (f ∷ es) zero d w e = rw (eq-eqb f.chain chain e) refl
  newest_there chain (f ∷ es) (suc k) d w e =
      elim (cases_eq f.chain chain) [
        | inl same ↦ rw (eq-eqb f.chain chain same) refl
        | inr differs ↦ rw (ne_eqb f.chain chain differs) (newest_there chain es k d (omega arith) e)
      ]

  pub all_placed : (newest : List (Option ℕ)) (es : List (Entry T)) → ((chain : ℕ) → get_or newest chain None ≡ newest_on chain es) → All (λ e. e.chain < length newest) es
  all_placed newest es heads k d w =
      let chain = (get_or es k d).chain in
      elim (cases_lt chain (length newest)) [
        | inl below ↦ below
        | inr past ↦ (let none = get_or_past newest chain None past in let some = newest_there chain es k d w refl in let head = heads chain in absurd (let wrong : ⊥ = cc in wrong))
      ]

  module _ {ns : List (ChainNode T)} {newest : List (Option ℕ)} {last spare capacity : ℕ} (kept : IsKept ns newest last spare capacity) where
    pub kept_sound : (t : Twin T) → record { ages = ages_of last ns; chains = length newest; spare = spare } ≡ t → IsSound t
    kept_sound t view =
        let size = length_ages ns last in
        let fits = kept.fits in
        subst IsSound view (record {
          distinct = nodes_distinct ns last kept.in_range (omega arith);
          placed = all_placed newest (ages_of last ns) kept.heads;
          fits = omega arith;
        })

    pub kept_place : (node : ℕ) (ages : List (Entry T)) → ages_of last ns ≡ ages → node < 2 ^ 32 → IsSome (entry_of node ages) → behind last node < length ns
    kept_place node ages view h used =
        place_within ns last node kept.in_range h (subst (λ (es : List (Entry T)). IsSome (entry_of node es)) (sym view) used)

    pub kept_value : (node : ℕ) (ages : List (Entry T)) (n : ChainNode T) → ages_of last ns ≡ ages → node < 2 ^ 32 → IsSome (entry_of node ages) → n ≡ get_or ns (behind last node) n → value_of node ages ≡ Some n.value
    kept_value node ages n view h used read =
        subst (λ (es : List (Entry T)). value_of node es ≡ Some n.value) view
        (value_at ns last node (behind last node) n kept.in_range h refl (kept_place node ages view h used) ∙ ap (λ (m : ChainNode T). Some m.value) (sym read))

    pub kept_older : (node : ℕ) (ages : List (Entry T)) (n : ChainNode T) → ages_of last ns ≡ ages → node < 2 ^ 32 → n ≡ get_or ns (behind last node) n → behind last node + n.gap + 1 < length ns → older_than node ages ≡ Some (behind last (behind last node + n.gap + 1))
    kept_older node ages n view h read within =
        let fits = kept.fits in
        let gap = ap (λ (m : ChainNode T). m.gap) read in
        subst (λ (es : List (Entry T)). older_than node es ≡ Some (behind last (behind last node + n.gap + 1))) view
        (older_found ns last node (behind last node) n kept.in_range h (omega arith) kept.linked refl (omega arith) ∙ ap (λ (m : ChainNode T). Some (behind last (behind last node + m.gap + 1))) (sym read))

    pub kept_oldest : (node : ℕ) (ages : List (Entry T)) (n : ChainNode T) → ages_of last ns ≡ ages → node < 2 ^ 32 → IsSome (entry_of node ages) → n ≡ get_or ns (behind last node) n → length ns ≤ behind last node + n.gap + 1 → older_than node ages ≡ None
    kept_oldest node ages n view h used read past =
        let gap = ap (λ (m : ChainNode T). m.gap) read in
        subst (λ (es : List (Entry T)). older_than node es ≡ None) view
        (older_absent ns last node (behind last node) n kept.in_range h kept.linked refl (kept_place node ages view h used) (omega arith))

  -- a node that a chain or a link names is in use
  used_at : (es : List (Entry T)) (e : Entry T) → IsSome (entry_of e.node (e ∷ es))
  used_at es e = rw (eq-eqb e.node e.node refl) refl

  used_behind : (f : Entry T) (es : List (Entry T)) (node : ℕ) → IsSome (entry_of node es) → IsSome (entry_of node (f ∷ es))
  used_behind f es node used =
      elim (cases_eq f.node node) [
        | inl same ↦ rw (eq-eqb f.node node same) refl
        | inr differs ↦ rw (ne_eqb f.node node differs) used
      ]

  pub newest_used : (chain : ℕ) (es : List (Entry T)) → IfSome (newest_on chain es) (λ node. IsSome (entry_of node es))
  newest_used chain [] = tt
  newest_used chain (f ∷ es) =
      elim (cases_eq f.chain chain) [
        | inl same ↦ rw (eq-eqb f.chain chain same) (used_at es f)
        | inr differs ↦ rw (ne_eqb f.chain chain differs) (IfSome_then (newest_on chain es) (newest_used chain es) (used_behind f es))
      ]

  pub older_used : (node : ℕ) (es : List (Entry T)) → IfSome (older_than node es) (λ other. IsSome (entry_of other es))
  older_used node [] = tt
  older_used node (f ∷ es) =
      elim (cases_eq f.node node) [
        | inl same ↦ rw (eq-eqb f.node node same) (IfSome_then (newest_on f.chain es) (newest_used f.chain es) (used_behind f es))
        | inr differs ↦ rw (ne_eqb f.node node differs) (IfSome_then (older_than node es) (older_used node es) (used_behind f es))
      ]
