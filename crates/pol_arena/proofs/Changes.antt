-- How a change keeps a twin right.
use Rattle.std.proofs.Common.{◌≡◌, ◌≢◌, ℕ, zero, suc, ◌+◌, ◌-◌, ◌%◌, ◌^◌, ◌<◌, ◌≤◌, true, false, cond, List, [], ◌∷◌, ◌++◌, length, get_or, set, replicate, Option, Some, None, refl, sym, ap, subst, ◌∙◌, inl, inr, arith}
use Rattle.std.specs.Prelude.{option_map}
use Rattle.std.proofs.lemmas.Bool.{cases_eq, cases_lt, eq-eqb, ne_eqb}
use Rattle.std.proofs.lemmas.Option.{slice_get-get_or}
use Rattle.std.proofs.lemmas.List.{get_or_past, get_or_read, get_or-set_same, get_or-set_other, get_or_append_left, get_or-append_right, get_or-replicate, get_or_at, take_at, length-set, length_push, length-replicate}
use Rattle.pol_arena.specs.declared.node.ChainNode.{ChainNode}
use Rattle.pol_arena.specs.Twin.{Entry, Twin, newest_on, entry_of, oldest, without_oldest, after_drop}
use Rattle.pol_arena.specs.Queue.{behind, is_newest, without_node, gap_before, ages_of, IsGap, AllLinked, IsKept}
use Rattle.pol_arena.proofs.Indices.{behind_below, behind-zero, behind-behind, behind-place, behind-next, next-behind}
use Rattle.pol_arena.proofs.Ages.{newest_found, newest_absent, gap_of, gap_before_right, entry_absent}
use Rattle.pol_arena.proofs.Kept.{length_ages, all_placed}

-- the chains that a reserve makes are empty
none_there : (k i : ℕ) → get_or {A = Option ℕ} (replicate k None) i None ≡ None
none_there k i =
    elim (cases_lt i k) [
      | inl below ↦ get_or-replicate k i None None below
      | inr past ↦ get_or_past (replicate k None) i None (rw (length-replicate {A = Option ℕ} k None) past)
    ]

heads_made : (newest : List (Option ℕ)) (k chain : ℕ) → get_or (newest ++ replicate k None) chain None ≡ get_or newest chain None
heads_made newest k chain =
    elim (cases_lt chain (length newest)) [
      | inl below ↦ get_or_append_left newest (replicate k None) None chain below
      | inr past ↦ get_or-append_right newest (replicate k None) (length newest) chain None refl past ∙ none_there k (chain - length newest) ∙ sym (get_or_past newest chain None past)
    ]

-- a node that was dropped is the newest of no chain, and each other one stays
length-without_node : (newest : List (Option ℕ)) (chain node : ℕ) → length (without_node newest chain node) ≡ length newest
length-without_node newest chain node =
    elim (is_newest (get_or newest chain None) node) as (λ b. length (cond b (set newest chain None) newest) ≡ length newest) [
      | true ↦ length-set newest chain None
      | false ↦ refl
    ]

other_chain : (newest : List (Option ℕ)) (chain node other : ℕ) → other ≢ chain → get_or (without_node newest chain node) other None ≡ get_or newest other None
other_chain newest chain node other differs =
    elim (is_newest (get_or newest chain None) node) as (λ b. get_or (cond b (set newest chain None) newest) other None ≡ get_or newest other None) [
      | true ↦ get_or-set_other newest chain other None None differs
      | false ↦ refl
    ]

newest_stays : (newest : List (Option ℕ)) (chain node head : ℕ) → get_or newest chain None ≡ Some head → head ≢ node → get_or (without_node newest chain node) chain None ≡ Some head
newest_stays newest chain node head is differs =
    let test : is_newest (get_or newest chain None) node ≡ false = rw is (ne_eqb head node differs) in
    rw test is

newest_goes : (newest : List (Option ℕ)) (chain node : ℕ) → get_or newest chain None ≡ Some node → chain < length newest → get_or (without_node newest chain node) chain None ≡ None
newest_goes newest chain node is below =
    let test : is_newest (get_or newest chain None) node ≡ true = rw is (eq-eqb node node refl) in
    rw test (get_or-set_same newest chain None None below)

module _ {T : Type 0} where
  -- the newest of a chain by a list with one more entry at its old end
  front_some : (chain : ℕ) (es : List (Entry T)) (e : Entry T) (head : ℕ) → newest_on chain es ≡ Some head → newest_on chain (es ++ e ∷ []) ≡ Some head
  front_some chain [] e head is = cc
  front_some chain (f ∷ es) e head is =
      elim (cases_eq f.chain chain) [
        | inl same ↦ rw (eq-eqb f.chain chain same) (rw (eq-eqb f.chain chain same) at is)
        | inr differs ↦ rw (ne_eqb f.chain chain differs) (front_some chain es e head (rw (ne_eqb f.chain chain differs) at is))
      ]

  front_none : (chain : ℕ) (es : List (Entry T)) (e : Entry T) → newest_on chain es ≡ None → newest_on chain (es ++ e ∷ []) ≡ newest_on chain (e ∷ [])
  front_none chain [] e is = refl
  front_none chain (f ∷ es) e is =
      elim (cases_eq f.chain chain) [
        | inl same ↦ (let some : newest_on chain (f ∷ es) ≡ Some f.node = rw (eq-eqb f.chain chain same) refl in absurd (let wrong : ⊥ = cc in wrong))
        | inr differs ↦ rw (ne_eqb f.chain chain differs) (front_none chain es e (rw (ne_eqb f.chain chain differs) at is))
      ]

  -- the old end
  pub without_oldest-push : (es : List (Entry T)) (e : Entry T) → without_oldest (es ++ e ∷ []) ≡ es
  without_oldest-push es e =
      let len = length_push es e in
      take_at es (e ∷ []) (length (es ++ e ∷ []) - 1) (omega arith)

  pub oldest-push : (es : List (Entry T)) (e : Entry T) → oldest (es ++ e ∷ []) ≡ Some e
  oldest-push es e =
      let len = length_push es e in
      slice_get-get_or (es ++ e ∷ []) (length (es ++ e ∷ []) - 1) e (omega arith) ∙ ap Some (get_or_at es e [] e (length (es ++ e ∷ []) - 1) (omega arith))

  ages_of-push : (ns : List (ChainNode T)) (n : ChainNode T) (last : ℕ) → last < 2 ^ 32 → length ns < 2 ^ 32 → ages_of last (ns ++ n ∷ []) ≡ ages_of last ns ++ record { node = behind last (length ns); chain = n.chain; value = n.value } ∷ []
  ages_of-push [] n last h k = ap (λ i. record { node = i; chain = n.chain; value = n.value } ∷ []) (sym (behind-zero last h))
  ages_of-push (m ∷ ns) n last h k =
      ap (λ es. record { node = last; chain = m.chain; value = m.value } ∷ es)
      (ages_of-push ns n (behind last 1) (behind_below last 1) (omega arith) ∙ ap (λ i. ages_of (behind last 1) ns ++ record { node = i; chain = n.chain; value = n.value } ∷ []) (behind-behind last 1 (length ns) (suc (length ns)) h (omega arith) (omega arith)))

  IsGap-front : (chain : ℕ) (ns : List (ChainNode T)) (n : ChainNode T) (gap : ℕ) → IsGap chain (ns ++ n ∷ []) gap → IsGap chain ns gap
  IsGap-front chain [] n gap g = tt
  IsGap-front chain (m ∷ ns) n zero g = g
  IsGap-front chain (m ∷ ns) n (suc gap) g = (g.0, IsGap-front chain ns n gap g.1)

  AllLinked-front : (ns : List (ChainNode T)) (n : ChainNode T) → AllLinked (ns ++ n ∷ []) → AllLinked ns
  AllLinked-front [] n l = tt
  AllLinked-front (m ∷ ns) n l = (IsGap-front m.chain ns n m.gap l.0, AllLinked-front ns n l.1)

  -- the newest node of a chain has a place
  newest_within : (chain : ℕ) (ns : List (ChainNode T)) (last head : ℕ) → last < 2 ^ 32 → length ns < 2 ^ 32 → newest_on chain (ages_of last ns) ≡ Some head → behind last head < length ns
  newest_within chain ns last head h k is =
      let found = gap_of chain ns in
      elim (cases_lt found.0 (length ns)) [
        | inl within ↦ (let head_is : head ≡ behind last found.0 = (let e = newest_found chain ns last found.0 h k found.1 within in cc) in rw head_is (rw (behind-place last found.0 h (omega arith)) within))
        | inr past ↦ (let e = newest_absent chain ns last found.0 found.1 past in absurd (let wrong : ⊥ = cc in wrong))
      ]

  module _ {ns : List (ChainNode T)} {newest : List (Option ℕ)} {last spare capacity : ℕ} (kept : IsKept ns newest last spare capacity) where
    -- more room and more chains
    pub kept_room : (ms : List (ChainNode T)) (heads : List (Option ℕ)) (more : ℕ) → ms ≡ ns → heads ≡ newest → capacity ≤ more → IsKept ms heads last spare more
    kept_room ms heads more same_nodes same_heads grown =
        let room = kept.room in
        rw (same_nodes, same_heads) (record {
          linked = kept.linked;
          heads = kept.heads;
          in_range = kept.in_range;
          fits = kept.fits;
          room = omega arith;
        })

    pub kept_chains : (made : List (Option ℕ)) (k room : ℕ) → made ≡ newest ++ replicate k None → length ns + room ≤ capacity → length ns + room < 2 ^ 32 → IsKept ns made last room capacity
    kept_chains made k room is within fits =
        subst (λ (heads : List (Option ℕ)). IsKept ns heads last room capacity) (sym is) (record {
          linked = kept.linked;
          heads = λ chain. heads_made newest k chain ∙ kept.heads chain;
          in_range = kept.in_range;
          fits = fits;
          room = within;
        })

    -- the index that a push gives is free
    pub kept_free : (ages : List (Entry T)) → ages_of last ns ≡ ages → entry_of ((last + 1) % 2 ^ 32) ages ≡ None
    kept_free ages view =
        let fits = kept.fits in
        let far = behind-next last kept.in_range in
        subst (λ (es : List (Entry T)). entry_of ((last + 1) % 2 ^ 32) es ≡ None) view (entry_absent ns last ((last + 1) % 2 ^ 32) kept.in_range (omega arith) (omega arith))

    heads_pushed : (chain : ℕ) (value : T) (gap other : ℕ) → chain < length newest → get_or (set newest chain (Some ((last + 1) % 2 ^ 32))) other None ≡ newest_on other (ages_of ((last + 1) % 2 ^ 32) (record { value = value; chain = chain; gap = gap } ∷ ns))
    heads_pushed chain value gap other below =
        elim (cases_eq chain other) [
          | inl same ↦ rw (eq-eqb chain other same) (subst (λ i. get_or (set newest chain (Some ((last + 1) % 2 ^ 32))) i None ≡ Some ((last + 1) % 2 ^ 32)) same (get_or-set_same newest chain (Some ((last + 1) % 2 ^ 32)) None below))
          | inr differs ↦ rw (ne_eqb chain other differs) (get_or-set_other newest chain other (Some ((last + 1) % 2 ^ 32)) None (λ e. differs (sym e)) ∙ kept.heads other ∙ ap (λ i. newest_on other (ages_of i ns)) (sym (next-behind last kept.in_range)))
        ]

    pub kept_push : (chain : ℕ) (value : T) (head : Option ℕ) (len : ℕ) → head ≡ get_or newest chain head → chain < length newest → 1 ≤ spare → len ≡ length ns → IsKept (record { value = value; chain = chain; gap = gap_before head last len } ∷ ns) (set newest chain (Some ((last + 1) % 2 ^ 32))) ((last + 1) % 2 ^ 32) (spare - 1) capacity
    kept_push chain value head len read below some size =
        let fits = kept.fits in
        let room = kept.room in
        let is = get_or_read newest chain head below read None ∙ kept.heads chain in
        record {
          linked = (rw (is, size) (gap_before_right chain ns last kept.in_range (omega arith)), kept.linked);
          heads = λ other. heads_pushed chain value (gap_before head last len) other below;
          in_range = omega arith;
          fits = omega arith;
          room = omega arith;
        }

    module _ (ms : List (ChainNode T)) (n : ChainNode T) (is : ns ≡ ms ++ n ∷ []) where
      -- the entry that a drop takes
      abbrev gone : Entry T
      gone = record { node = behind last (length ms); chain = n.chain; value = n.value }

      dropped_length : length ms + 1 ≡ length ns
      dropped_length = sym (ap length is ∙ length_push ms n)

      dropped_ages : ages_of last ns ≡ ages_of last ms ++ gone ∷ []
      dropped_ages =
          let fits = kept.fits in
          let len = dropped_length in
          ap (ages_of last) is ∙ ages_of-push ms n last kept.in_range (omega arith)

      pub dropped_placed : n.chain < length newest
      dropped_placed =
          let at = get_or_at (ages_of last ms) gone [] gone (length ms) (length_ages ms last) in
          let len = length_push (ages_of last ms) gone in
          let size = length_ages ms last in
          subst (λ (e : Entry T). e.chain < length newest) at
          (all_placed newest (ages_of last ms ++ gone ∷ []) (λ chain. kept.heads chain ∙ ap (newest_on chain) dropped_ages) (length ms) gone (omega arith))

      -- the newest node of each chain, by what is left of the chain
      heads_dropped : (chain : ℕ) (left : Option ℕ) → newest_on chain (ages_of last ms) ≡ left → get_or (without_node newest n.chain (behind last (length ms))) chain None ≡ left
      heads_dropped chain (Some head) left =
          let fits = kept.fits in
          let len = dropped_length in
          let before : get_or newest chain None ≡ Some head = kept.heads chain ∙ ap (newest_on chain) dropped_ages ∙ front_some chain (ages_of last ms) gone head left in
          elim (cases_eq chain n.chain) [
            | inl same ↦ (
                let within = newest_within chain ms last head kept.in_range (omega arith) left in
                let place = behind-place last (length ms) kept.in_range (omega arith) in
                let differs : head ≢ behind last (length ms) = λ e. (let far : behind last head ≡ length ms = ap (behind last) e ∙ place in omega arith) in
                subst (λ i. get_or newest i None ≡ Some head → get_or (without_node newest n.chain (behind last (length ms))) i None ≡ Some head) (sym same) (λ head_is. newest_stays newest n.chain (behind last (length ms)) head head_is differs) before
                )
            | inr differs ↦ other_chain newest n.chain (behind last (length ms)) chain differs ∙ before
          ]
      heads_dropped chain None left =
          let before : get_or newest chain None ≡ newest_on chain (gone ∷ []) = kept.heads chain ∙ ap (newest_on chain) dropped_ages ∙ front_none chain (ages_of last ms) gone left in
          elim (cases_eq chain n.chain) [
            | inl same ↦ (
                let head : get_or newest n.chain None ≡ Some (behind last (length ms)) = ap (λ i. get_or newest i None) (sym same) ∙ before ∙ rw (eq-eqb n.chain chain (sym same)) refl in
                ap (λ i. get_or (without_node newest n.chain (behind last (length ms))) i None) same ∙ newest_goes newest n.chain (behind last (length ms)) head dropped_placed
                )
            | inr differs ↦ other_chain newest n.chain (behind last (length ms)) chain differs ∙ before ∙ rw (ne_eqb n.chain chain (λ e. differs (sym e))) refl
          ]

      pub kept_drop : IsKept ms (without_node newest n.chain (behind last (length ms))) last (spare + 1) capacity
      kept_drop =
          let fits = kept.fits in
          let room = kept.room in
          let len = dropped_length in
          record {
            linked = AllLinked-front ms n (subst AllLinked is kept.linked);
            heads = λ chain. heads_dropped chain (newest_on chain (ages_of last ms)) refl;
            in_range = kept.in_range;
            fits = omega arith;
            room = omega arith;
          }

      -- what contracts see of the drop
      pub dropped_value : (t : Twin T) → record { ages = ages_of last ns; chains = length newest; spare = spare } ≡ t → Some n.value ≡ option_map (λ e. e.value) (oldest t.ages)
      dropped_value t view =
          subst (λ (s : Twin T). Some n.value ≡ option_map (λ e. e.value) (oldest s.ages)) view
          (rw dropped_ages (rw (oldest-push (ages_of last ms) gone) refl))

      pub dropped_view : (t : Twin T) → record { ages = ages_of last ns; chains = length newest; spare = spare } ≡ t → record { ages = ages_of last ms; chains = length (without_node newest n.chain (behind last (length ms))); spare = spare + 1 } ≡ after_drop t
      dropped_view t view =
          subst (λ (s : Twin T). record { ages = ages_of last ms; chains = length (without_node newest n.chain (behind last (length ms))); spare = spare + 1 } ≡ after_drop s) view
          (rw (dropped_ages, length-without_node newest n.chain (behind last (length ms)), without_oldest-push (ages_of last ms) gone) refl)
