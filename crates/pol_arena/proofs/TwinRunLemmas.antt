-- The laws of a list by age and the chains in it.
use Rattle.std.proofs.Common.{max, ◌≡◌, ◌≢◌, ℕ, zero, suc, ◌+◌, ◌-◌, ◌<◌, ◌≤◌, Bool, true, false, cond, List, [], ◌∷◌, ◌++◌, length, take, drop, map, get_or, is_some, Option, Some, None, refl, sym, ap, subst, ◌∙◌, ◌⊎◌, inl, inr, arith, eqb}
use Rattle.std.specs.Prelude.{nat_eq, option_map, slice_get, filter, find}
use Rattle.std.specs.List.{IsDistinct, AllByRecursion}
use Rattle.std.specs.Option.{option_or}
use Rattle.std.proofs.lemmas.Bool.{cases_eq, cases_Bool, eq-eqb, eqb-true, ne_eqb}
use Rattle.std.proofs.lemmas.Option.{same_Some, slice_get_within, slice_get-get_or, get_or_from_slice_get}
use Rattle.std.proofs.lemmas.List.{append-nil, take-append-drop, drop_more, drop_all, length-take}
use Rattle.std.proofs.lemmas.List.Elements.{filter-append, All-contains, All-weaker, All-cons, All-nil, All-take, filter_passes}
use Rattle.std.proofs.lemmas.List.Folds.{find-append}
use Rattle.pol_data.proofs.Members.{Contains-from_filter, Contains-filter}
use Rattle.pol_arena.specs.Twin.{Entry, Twin, empty_twin, on_chain, newest_on, entry_of, older_than, oldest, without_oldest, after_drop, IsSound}
use Rattle.pol_arena.specs.TwinRuns.{Operation, Reserve, Push, Drop, IsAllowed, after, AreAllowed, after_all, Leaves, IsBefore, NodesInUseStay, IsMergeOfChains, MergesChains, PushLengthensOneChain, DropShortensOneChain, PushKeepsNodes, DropKeepsNodes, WalksChains}
use Rattle.pol_arena.proofs.RunLemmas.{kept_through, both_in_turn}
use Rattle.pol_arena.proofs.Kept.{others_differ}

-- the first of a longer list stands there, and each other one where the rest has it
place_cons : {X : Type 0} (y : X) (zs ys : List X) (x : X) (k : ℕ) → slice_get (y ∷ zs) k ≡ Some x → ((m : ℕ) → slice_get zs m ≡ Some x → (l : ℕ) × (slice_get ys l ≡ Some x)) → (l : ℕ) × (slice_get (y ∷ ys) l ≡ Some x)
place_cons y zs ys x zero is rest = (zero, is)
place_cons y zs ys x (suc k) is rest =
    let later = rest k is in
    (suc later.0, later.1)

-- an element of a filtered list stands somewhere in the list
place_from_filter : {X : Type 0} (p : X → Bool) (xs : List X) (x : X) (k : ℕ) → slice_get (filter p xs) k ≡ Some x → (l : ℕ) × (slice_get xs l ≡ Some x)
place_from_filter p [] x k is = absurd (let wrong : ⊥ = cc in wrong)
place_from_filter p (y ∷ xs) x k is =
    elim (cases_Bool (p y)) [
      | inl passes ↦ place_cons y (filter p xs) xs x k (rw passes at is) (place_from_filter p xs x)
      | inr fails ↦ (let later = place_from_filter p xs x k (rw fails at is) in (suc later.0, later.1))
    ]

-- two elements in order are so in a longer list
IsBefore-cons : {X : Type 0} (z : X) (xs : List X) (x y : X) → IsBefore xs x y → IsBefore (z ∷ xs) x y
IsBefore-cons z xs x y (i, j, less, first, second) = (suc i, suc j, omega arith, first, second)

-- the first of them is the first of all, or both are in the rest
IsBefore-cons_cases : {X : Type 0} (z : X) (ys xs : List X) (x y : X) → IsBefore (z ∷ ys) x y → ((m : ℕ) → slice_get ys m ≡ Some y → (l : ℕ) × (slice_get xs l ≡ Some y)) → (IsBefore ys x y → IsBefore xs x y) → IsBefore (z ∷ xs) x y
IsBefore-cons_cases z ys xs x y (zero, zero, less, first, second) place rest = absurd (omega arith)
IsBefore-cons_cases z ys xs x y (zero, suc j, less, first, second) place rest =
    let later = place j second in
    (zero, suc later.0, omega arith, first, later.1)
IsBefore-cons_cases z ys xs x y (suc i, zero, less, first, second) place rest = absurd (omega arith)
IsBefore-cons_cases z ys xs x y (suc i, suc j, less, first, second) place rest =
    IsBefore-cons z xs x y (rest (i, j, omega arith, first, second))

-- two elements of a filtered list have the list's order
IsBefore-from_filter : {X : Type 0} (p : X → Bool) (xs : List X) (x y : X) → IsBefore (filter p xs) x y → IsBefore xs x y
IsBefore-from_filter p [] x y before = before
IsBefore-from_filter p (z ∷ xs) x y before =
    elim (cases_Bool (p z)) [
      | inl passes ↦ IsBefore-cons_cases z (filter p xs) xs x y (rw passes at before) (place_from_filter p xs y) (IsBefore-from_filter p xs x y)
      | inr fails ↦ IsBefore-cons z xs x y (IsBefore-from_filter p xs x y (rw fails at before))
    ]

module _ {T : Type 0} where
  merges_chains : (t : Twin T) → IsSound t → IsMergeOfChains t
  merges_chains t sound = record {
    each = λ e there. (All-contains (λ (f : Entry T). f.chain < t.chains) t.ages e sound.placed there, Contains-filter (λ (f : Entry T). eqb f.chain e.chain) t.ages e (eq-eqb e.chain e.chain refl) there);
    only = λ chain e there. (
      eqb-true e.chain chain (All-contains (λ (f : Entry T). eqb f.chain chain ≡ true) (on_chain chain t.ages) e (filter_passes (λ (f : Entry T). eqb f.chain chain) t.ages) there),
      Contains-from_filter (λ (f : Entry T). eqb f.chain chain) t.ages e there,
    );
    once = sound.distinct;
    ordered = λ chain newer older before. IsBefore-from_filter (λ (f : Entry T). eqb f.chain chain) t.ages newer older before;
  }

  -- the first entries have what all have
  all_take : (Q : ℕ → Type 0) (n : ℕ) (es : List (Entry T)) → AllByRecursion Q (map (λ e. e.node) es) → AllByRecursion Q (map (λ e. e.node) (take n es))
  all_take Q zero es all = tt
  all_take Q (suc n) [] all = tt
  all_take Q (suc n) (e ∷ es) all = (all.0, all_take Q n es all.1)

  distinct_take : (n : ℕ) (es : List (Entry T)) → IsDistinct nat_eq (map (λ e. e.node) es) → IsDistinct nat_eq (map (λ e. e.node) (take n es))
  unfolding IsDistinct
  distinct_take zero es distinct = tt
  distinct_take (suc n) [] distinct = tt
  distinct_take (suc n) (e ∷ es) distinct =
      (all_take (λ y. nat_eq e.node y ≡ false) n es distinct.0, distinct_take n es distinct.1)

  distinct_cons : (e : Entry T) (es : List (Entry T)) → entry_of e.node es ≡ None → IsDistinct nat_eq (map (λ f. f.node) es) → IsDistinct nat_eq (map (λ f. f.node) (e ∷ es))
  unfolding IsDistinct
  distinct_cons e es free distinct = (others_differ e.node es free, distinct)

  -- a drop leaves a sound twin sound
  drop_sound : (t : Twin T) → IsSound t → 0 < length t.ages → IsSound (after_drop t)
  drop_sound t sound some =
      let fits = sound.fits in
      let len = length-take (length t.ages - 1) t.ages in
      record {
        distinct = distinct_take (length t.ages - 1) t.ages sound.distinct;
        placed = All-take (λ (e : Entry T). e.chain < t.chains) (length t.ages - 1) t.ages sound.placed;
        fits = omega arith;
      }

  -- an operation that is allowed leaves a sound twin sound
  step_sound : (t : Twin T) (o : Operation T) → IsSound t → IsAllowed t o → IsSound (after t o)
  step_sound t (Reserve nodes chains) sound allowed =
      let fits = sound.fits in
      record {
        distinct = sound.distinct;
        placed = All-weaker (λ (e : Entry T). e.chain < t.chains) (λ e. e.chain < max t.chains chains) (λ e below. omega arith) t.ages sound.placed;
        fits = omega arith;
      }
  step_sound t (Push chain value node) sound allowed =
      let fits = sound.fits in
      let some : 1 ≤ t.spare = allowed.1 in
      record {
        distinct = distinct_cons (record { node = node; chain = chain; value = value }) t.ages allowed.2 sound.distinct;
        placed = All-cons (λ (e : Entry T). e.chain < t.chains) (record { node = node; chain = chain; value = value }) t.ages allowed.0 sound.placed;
        fits = omega arith;
      }
  step_sound t Drop sound allowed =
      elim (cases_eq (length t.ages) 0) [
        | inl empty ↦ rw (eq-eqb (length t.ages) 0 empty) sound
        | inr some ↦ rw (ne_eqb (length t.ages) 0 some) (drop_sound t sound (omega arith))
      ]

  all_sound : (t : Twin T) (os : List (Operation T)) → IsSound t → AreAllowed t os → IsSound (after_all t os)
  all_sound = kept_through after IsAllowed (λ t. IsSound t) step_sound

  pub empty_sound : IsSound {T = T} empty_twin
  unfolding IsDistinct
  empty_sound = record {
    distinct = tt;
    placed = All-nil (λ (e : Entry T). e.chain < 0);
    fits = omega arith;
  }

  pub merges : MergesChains T
  merges = record {
    sound = all_sound;
    merges = merges_chains;
  }

  pub push_lengthens : PushLengthensOneChain T
  push_lengthens t chain node value =
      (rw (eq-eqb chain chain refl) refl, λ other differs. rw (ne_eqb chain other (λ e. differs (sym e))) refl)

  -- the list by age is what is left after a drop, and the oldest
  split_oldest : (es : List (Entry T)) (e : Entry T) → oldest es ≡ Some e → es ≡ without_oldest es ++ e ∷ []
  split_oldest es e is =
      let within = slice_get_within es (length es - 1) e is in
      let last : drop (length es - 1) es ≡ e ∷ [] = drop_more es (length es - 1) e within ∙ rw (get_or_from_slice_get es (length es - 1) e e is, drop_all (length es - 1 + 1) es (omega arith)) refl in
      sym (take-append-drop (length es - 1) es) ∙ ap (λ zs. take (length es - 1) es ++ zs) last

  pub drop_shortens : DropShortensOneChain T
  drop_shortens t e is =
      let split = split_oldest t.ages e is in (
        ap (on_chain e.chain) split ∙ filter-append (λ (f : Entry T). eqb f.chain e.chain) (without_oldest t.ages) (e ∷ []) ∙ rw (eq-eqb e.chain e.chain refl) refl,
        λ other differs. sym (ap (on_chain other) split ∙ filter-append (λ (f : Entry T). eqb f.chain other) (without_oldest t.ages) (e ∷ []) ∙ rw (ne_eqb e.chain other (λ s. differs (sym s))) (append-nil (on_chain other (without_oldest t.ages)))),
      )

  -- a node in use differs from one that isn't
  pub push_keeps : PushKeepsNodes T
  push_keeps t chain node value free other used =
      let differs : node ≢ other = λ e. (let none : entry_of other t.ages ≡ None = ap (λ i. entry_of i t.ages) (sym e) ∙ free in let wrong : ⊥ = cc in wrong) in
      rw (ne_eqb node other differs) refl

  -- what holds of each node holds of the last one
  last_of_all : (Q : ℕ → Type 0) (es : List (Entry T)) (e : Entry T) → AllByRecursion Q (map (λ f. f.node) (es ++ e ∷ [])) → Q e.node
  last_of_all Q [] e all = all.0
  last_of_all Q (f ∷ es) e all = last_of_all Q es e all.1

  front_free : (es : List (Entry T)) (e : Entry T) → IsDistinct nat_eq (map (λ f. f.node) (es ++ e ∷ [])) → entry_of e.node es ≡ None
  unfolding IsDistinct
  front_free [] e distinct = refl
  front_free (f ∷ es) e distinct =
      rw (last_of_all (λ y. nat_eq f.node y ≡ false) es e distinct.0) (front_free es e distinct.1)

  or_none : (o : Option (Entry T)) → option_or o None ≡ o
  or_none None = refl
  or_none (Some e) = refl

  pub drop_keeps : DropKeepsNodes T
  drop_keeps t sound e is =
      let split = split_oldest t.ages e is in (
        front_free (without_oldest t.ages) e (subst (λ (es : List (Entry T)). IsDistinct nat_eq (map (λ f. f.node) es)) split sound.distinct),
        λ other differs. sym (ap (entry_of other) split ∙ find-append (λ (f : Entry T). eqb f.node other) (without_oldest t.ages) (e ∷ []) ∙ rw (ne_eqb e.node other (λ s. differs (sym s))) (or_none (entry_of other (without_oldest t.ages)))),
      )

  -- an operation that doesn't drop a node leaves it as it is
  drop_stays : (t : Twin T) (node : ℕ) (e : Entry T) → IsSound t → 0 < length t.ages → Leaves t node Drop → entry_of node t.ages ≡ Some e → entry_of node (after_drop t).ages ≡ Some e
  drop_stays t node e sound some leaves at =
      let last : Entry T = get_or t.ages (length t.ages - 1) e in
      let is : oldest t.ages ≡ Some last = slice_get-get_or t.ages (length t.ages - 1) e (omega arith) in
      (drop_keeps t sound last is).1 node (λ same. leaves (ap (option_map (λ (f : Entry T). f.node)) is ∙ ap Some (sym same))) ∙ at

  step_stays : (t : Twin T) (o : Operation T) (node : ℕ) (e : Entry T) → IsSound t → IsAllowed t o → Leaves t node o → entry_of node t.ages ≡ Some e → entry_of node (after t o).ages ≡ Some e
  step_stays t (Reserve nodes chains) node e sound allowed leaves at = at
  step_stays t (Push chain value given) node e sound allowed leaves at =
      push_keeps t chain given value allowed.2 node (ap is_some at) ∙ at
  step_stays t Drop node e sound allowed leaves at =
      elim (cases_eq (length t.ages) 0) [
        | inl empty ↦ rw (eq-eqb (length t.ages) 0 empty) at
        | inr some ↦ rw (ne_eqb (length t.ages) 0 some) (drop_stays t node e sound (omega arith) leaves at)
      ]

  pub all_stay : NodesInUseStay T
  all_stay t os node e sound allowed leave at =
      (kept_through after (λ s o. IsAllowed s o × Leaves s node o) (λ s. IsSound s × (entry_of node s.ages ≡ Some e))
      (λ s o good each. (step_sound s o good.0 each.0, step_stays s o node e good.0 each.0 each.1 good.1))
      t os (sound, at) (both_in_turn after IsAllowed (λ s o. Leaves s node o) t os allowed leave)).1

  newest_first : (chain : ℕ) (es : List (Entry T)) → newest_on chain es ≡ option_map (λ e. e.node) (slice_get (on_chain chain es) 0)
  newest_first chain [] = refl
  newest_first chain (f ∷ es) =
      elim (eqb f.chain chain) as (λ b. option_map (λ (e : Entry T). e.node) (cond b (Some f) (find (λ e. eqb e.chain chain) es)) ≡ option_map (λ e. e.node) (slice_get (cond b (f ∷ on_chain chain es) (on_chain chain es)) 0)) [
        | true ↦ refl
        | false ↦ newest_first chain es
      ]

  -- an entry of a chain's list is the first of all, or it is in the chain's list of the rest
  record InRest (chain : ℕ) (f : Entry T) (es : List (Entry T)) (k : ℕ) (e : Entry T) : Type 0 where
    place : ℕ
    there : slice_get (on_chain chain es) place ≡ Some e
    next : slice_get (on_chain chain (f ∷ es)) (k + 1) ≡ slice_get (on_chain chain es) (place + 1)

  rest_of_same : (chain : ℕ) (f : Entry T) (es : List (Entry T)) (k : ℕ) (e : Entry T) → f.chain ≡ chain → slice_get (f ∷ on_chain chain es) k ≡ Some e → ((k ≡ 0) × (f ≡ e)) ⊎ InRest chain f es k e
  rest_of_same chain f es zero e same is = inl (refl, same_Some f e is)
  rest_of_same chain f es (suc k) e same is =
      let more : suc k + 1 ≡ suc (k + 1) = omega arith in
      inr (record { place = k; there = is; next = rw (eq-eqb f.chain chain same, more) refl })

  first_or_rest : (chain : ℕ) (f : Entry T) (es : List (Entry T)) (k : ℕ) (e : Entry T) → slice_get (on_chain chain (f ∷ es)) k ≡ Some e → ((f.chain ≡ chain) × (k ≡ 0) × (f ≡ e)) ⊎ InRest chain f es k e
  first_or_rest chain f es k e is =
      elim (cases_eq f.chain chain) [
        | inl same ↦ elim (rest_of_same chain f es k e same (rw (eq-eqb f.chain chain same) at is)) [
          | inl first ↦ inl (same, first.0, first.1)
          | inr rest ↦ inr rest
        ]
        | inr differs ↦ inr (record { place = k; there = rw (ne_eqb f.chain chain differs) at is; next = rw (ne_eqb f.chain chain differs) refl })
      ]

  -- what holds of each node holds of those of a chain
  chain_of_all : (Q : ℕ → Type 0) (chain : ℕ) (es : List (Entry T)) (k : ℕ) (e : Entry T) → AllByRecursion Q (map (λ f. f.node) es) → slice_get (on_chain chain es) k ≡ Some e → Q e.node
  chain_of_all Q chain [] k e all is = cc
  chain_of_all Q chain (f ∷ es) k e all is =
      elim (first_or_rest chain f es k e is) [
        | inl first ↦ subst (λ (g : Entry T). Q g.node) first.2 all.0
        | inr rest ↦ chain_of_all Q chain es rest.place e all.1 rest.there
      ]

  walk_there : (chain : ℕ) (es : List (Entry T)) → IsDistinct nat_eq (map (λ f. f.node) es) → (k : ℕ) (e : Entry T) → slice_get (on_chain chain es) k ≡ Some e → entry_of e.node es ≡ Some e
  unfolding IsDistinct
  walk_there chain [] distinct k e is = cc
  walk_there chain (f ∷ es) distinct k e is =
      elim (first_or_rest chain f es k e is) [
        | inl first ↦ subst (λ (g : Entry T). entry_of g.node (f ∷ es) ≡ Some g) first.2 (rw (eq-eqb f.node f.node refl) refl)
        | inr rest ↦ rw (chain_of_all (λ y. nat_eq f.node y ≡ false) chain es rest.place e distinct.0 rest.there) (walk_there chain es distinct.1 rest.place e rest.there)
      ]

  walk_next : (chain : ℕ) (es : List (Entry T)) → IsDistinct nat_eq (map (λ f. f.node) es) → (k : ℕ) (e : Entry T) → slice_get (on_chain chain es) k ≡ Some e → older_than e.node es ≡ option_map (λ f. f.node) (slice_get (on_chain chain es) (k + 1))
  unfolding IsDistinct
  walk_next chain [] distinct k e is = cc
  walk_next chain (f ∷ es) distinct k e is =
      elim (first_or_rest chain f es k e is) [
        | inl first ↦ (
            let next : slice_get (on_chain chain (f ∷ es)) (k + 1) ≡ slice_get (on_chain chain es) 0 = rw (eq-eqb f.chain chain first.0, first.1) refl in
            rw next (subst (λ (g : Entry T). older_than g.node (f ∷ es) ≡ option_map (λ h. h.node) (slice_get (on_chain chain es) 0)) first.2 (rw (eq-eqb f.node f.node refl) (ap (λ i. newest_on i es) first.0 ∙ newest_first chain es)))
            )
        | inr rest ↦ rw (chain_of_all (λ y. nat_eq f.node y ≡ false) chain es rest.place e distinct.0 rest.there) (walk_next chain es distinct.1 rest.place e rest.there ∙ ap (option_map (λ (h : Entry T). h.node)) (sym rest.next))
      ]

  pub walks_chains : WalksChains T
  walks_chains t sound chain = record {
    first = newest_first chain t.ages;
    there = walk_there chain t.ages sound.distinct;
    next = walk_next chain t.ages sound.distinct;
  }
