-- A prefix and the rows: what its number is, and what the rows are once it is held.
use Rattle.std.proofs.Common.{◌≡◌, ◌≢◌, ℕ, ◌+◌, ◌-◌, ◌<◌, ◌≤◌, Bool, true, false, cond, List, [], ◌∷◌, ◌++◌, count_by, nat_le, is_some, length, Option, None, Some, inl, inr, refl, sym, ap, subst, ◌∙◌, arith}
use Rattle.std.proofs.lemmas.Bool.{and_parts, both_ways, le-leb, leb-true, lt-leb}
use Rattle.std.proofs.lemmas.Option.{same_Some}
use Rattle.std.proofs.lemmas.List.Sums.{sum_by-cons}
use Rattle.pol_addr.specs.Cidr.{IsPrefix}
use Rattle.pol_addr.specs.Prefix.{world}
use Rattle.pol_addr.specs.declared.family.Family.{Family}
use Rattle.pol_addr.specs.contracts.network.PrefixPartialEq.TheImpl as prefixes
use Rattle.pol_addr.specs.declared.network.Prefix.{Prefix}
use Rattle.pol_addr.proofs.Equality.{prefix_eq-Decides}
use Rattle.pol_labels.specs.declared.label.Label.{Label}
use Rattle.pol_data.proofs.Members.{In, Contains-from_In, In-from_Contains, every-in}
use Rattle.pol_model.specs.declared.limits.TheConstants.{CLUSTER_FIRST, CLUSTER_IDENTITIES, LOCAL_FIRST, LOCAL_IDENTITIES, RESERVED_LAST}
use Rattle.pol_model.specs.declared.row.IdentityRow.{IdentityRow}
use Rattle.pol_model.specs.Fault.{locals_held}
use Rattle.pol_model.specs.Identities.{free_number, held_or_new, is_local, or_free, released, reserved_identities, with_holder}
use Rattle.pol_model.specs.Numbers.{placed_by}
use Rattle.pol_model.specs.Prefixes.{has_prefix, number_of_prefix, prefix_held, prefix_row}
use Rattle.pol_model.specs.Worlds.{world_around, world_in, world_labels}
use Rattle.pol_model_laws.specs.Keeps.{KeepsRows}
use Rattle.pol_model_laws.proofs.FoundRows.{found-prefix, found_with, locals-few, reserved-there, row-kinds}
use Rattle.pol_model_laws.proofs.Keyed.{placed_behind}
use Rattle.pol_model_laws.proofs.Ledger.{has_prefix-is}
use Rattle.pol_model_laws.proofs.Membership.{In-append, In-right}
use Rattle.pol_model_laws.proofs.PrefixHolders.{least_free-within}
use Rattle.pol_model_laws.proofs.RowLaws.{keep_prefix}
use Rattle.pol_model_laws.proofs.StartRows.{start_row}
use Rattle.pol_ident.specs.Look.{number_for_prefix}
use Rattle.pol_ident.specs.Rows.{ArePrefixes, IsIdentities, cluster_rows, local_rows, row_with, rows_of, rows_then}
use Rattle.pol_interner.specs.Slots.{HasNone, HasPlace, Slot, changed, filled, free_place, one_less, one_more, slot_at}
use Rattle.pol_ident.proofs.HeldLabels.{plain, unreserved, without}
use Rattle.pol_ident.proofs.RowLists.{AreHeld, recounted-reserved}
use Rattle.pol_interner.proofs.SlotLengths.{length-changed, length-filled}
use Rattle.pol_ident.proofs.RowsOf.{AllBelow, In-here, In-past, In-slots, held-behind, held-past, less-front, more-front, reserved-below}
use Rattle.pol_ident.proofs.WorldRows.{world-prefix, world-reserved, world-there, world_row}
use Rattle.pol_ident.proofs.SlotRows.{free-here, free-past, less-here, less-past, more-here, more-past, placed-here, placed-past}

abbrev pub worlds : Prefix → List Label
worlds prefix = world_labels (world_around prefix)

-- how many numbers prefixes hold
locals-front : (front rest : List IdentityRow) → AllBelow LOCAL_FIRST front → locals_held (front ++ rest) ≡ locals_held rest
locals-front [] rest below = refl
locals-front (row ∷ front) rest below =
    sum_by-cons (λ row. cond (is_local row.number) 1 0) row (front ++ rest)
    ∙ ap (λ b. cond b 1 0 + locals_held (front ++ rest)) (lt-leb LOCAL_FIRST row.number below.0)
    ∙ omega (arith, locals-front front rest below.1)

locals-past : {K : Type 0} (labels : K → List Label) (prefix : K → Option Prefix) (first : ℕ) (slots : List (Slot K)) (rest : List IdentityRow) → first + length slots ≤ LOCAL_FIRST → locals_held (rows_then labels prefix first slots rest) ≡ locals_held rest
locals-past labels prefix first [] rest past = refl
locals-past labels prefix first (None ∷ slots) rest past = locals-past labels prefix (first + 1) slots rest (omega (arith, past))
locals-past labels prefix first (Some own ∷ slots) rest past =
    sum_by-cons (λ row. cond (is_local row.number) 1 0) (row_with labels prefix first own) (rows_then labels prefix (first + 1) slots rest)
    ∙ ap (λ b. cond b 1 0 + locals_held (rows_then labels prefix (first + 1) slots rest)) (lt-leb LOCAL_FIRST first (omega (arith, past)))
    ∙ omega (arith, locals-past labels prefix (first + 1) slots rest (omega (arith, past)))

at_most_one : (b : Bool) → cond b 1 0 ≤ 1
at_most_one true = omega arith
at_most_one false = omega arith

locals-le : (first : ℕ) (slots : List (Slot Prefix)) → locals_held (rows_then worlds Some first slots []) ≤ length slots
locals-le first [] = omega arith
locals-le first (None ∷ slots) = omega (arith, locals-le (first + 1) slots)
locals-le first (Some own ∷ slots) =
    omega (arith, locals-le (first + 1) slots, at_most_one (is_local first), sum_by-cons (λ row. cond (is_local row.number) 1 0) (row_with worlds Some first own) (rows_then worlds Some (first + 1) slots []))

locals-count : (first : ℕ) (slots : List (Slot Prefix)) → LOCAL_FIRST ≤ first → locals_held (rows_then worlds Some first slots []) ≡ count_by is_some slots
locals-count first [] from = refl
locals-count first (None ∷ slots) from =
    let rest = locals-count (first + 1) slots (omega (arith, from)) in
    let none = sum_by-cons (λ (slot : Slot Prefix). cond (is_some slot) 1 0) None slots in
    omega (arith, rest, none)
locals-count first (Some own ∷ slots) from =
    let rest = locals-count (first + 1) slots (omega (arith, from)) in
    let one = sum_by-cons (λ (slot : Slot Prefix). cond (is_some slot) 1 0) (Some own) slots in
    sum_by-cons (λ row. cond (is_local row.number) 1 0) (row_with worlds Some first own) (rows_then worlds Some (first + 1) slots [])
    ∙ ap (λ b. cond b 1 0 + locals_held (rows_then worlds Some (first + 1) slots [])) (le-leb LOCAL_FIRST first from)
    ∙ omega (arith, rest, one)

locals-below : (limit first : ℕ) (slots : List (Slot Prefix)) → free_place slots < limit → length slots ≤ limit → locals_held (rows_then worlds Some first slots []) < limit
locals-below limit first [] free few = omega (arith, free)
locals-below limit first (None ∷ slots) free few = omega (arith, few, locals-le (first + 1) slots)
locals-below limit first (Some own ∷ slots) free few =
    omega (arith, few, locals-below (limit - 1) (first + 1) slots (omega (arith, free)) (omega (arith, few)), at_most_one (is_local first), sum_by-cons (λ row. cond (is_local row.number) 1 0) (row_with worlds Some first own) (rows_then worlds Some (first + 1) slots []))

module _ (cluster : List (Slot (List Label))) (local : List (Slot Prefix)) (few : length cluster ≤ CLUSTER_IDENTITIES) where
  abbrev rows : List IdentityRow
  rows = rows_of cluster local

  free-number : free_number LOCAL_FIRST rows ≡ LOCAL_FIRST + free_place local
  free-number =
      free-past plain without LOCAL_FIRST CLUSTER_FIRST cluster (local_rows local) (omega (arith, few))
      ∙ free-here worlds Some LOCAL_FIRST local [] tt

  pub locals-all : locals_held rows ≡ count_by is_some local
  locals-all =
      locals-front reserved_identities (cluster_rows cluster (local_rows local)) (reserved-below LOCAL_FIRST (omega arith))
      ∙ locals-past plain without CLUSTER_FIRST cluster (local_rows local) (omega (arith, few))
      ∙ locals-count LOCAL_FIRST local (omega arith)

  locals-room : free_place local < LOCAL_IDENTITIES → length local ≤ LOCAL_IDENTITIES → locals_held rows < LOCAL_IDENTITIES
  locals-room free long =
      let front = locals-front reserved_identities (cluster_rows cluster (local_rows local)) (reserved-below LOCAL_FIRST (omega arith)) in
      let past = locals-past plain without CLUSTER_FIRST cluster (local_rows local) (omega (arith, few)) in
      omega (arith, front, past, locals-below LOCAL_IDENTITIES LOCAL_FIRST local free long)

  -- a place that is held once more, or once less
  pub more-rows : (n place : ℕ) → n ≡ LOCAL_FIRST + place → with_holder n rows ≡ rows_of cluster (changed one_more place local)
  more-rows n place is =
      more-front n reserved_identities (cluster_rows cluster (local_rows local)) (reserved-below n (omega (arith, is)))
      ∙ ap (λ rest. reserved_identities ++ rest) (
      more-past plain without n CLUSTER_FIRST cluster (local_rows local) (omega (arith, is, few))
      ∙ ap (cluster_rows cluster) (more-here worlds Some n LOCAL_FIRST place local [] is (unreserved n (omega (arith, is))) tt)
      )

  pub less-rows : (n place : ℕ) → n ≡ LOCAL_FIRST + place → AreHeld rows → released n rows ≡ rows_of cluster (changed one_less place local)
  less-rows n place is held =
      let behind = held-behind reserved_identities (cluster_rows cluster (local_rows local)) held in
      less-front n reserved_identities (cluster_rows cluster (local_rows local)) (reserved-below n (omega (arith, is))) held
      ∙ ap (λ rest. reserved_identities ++ rest) (
      less-past plain without n CLUSTER_FIRST cluster (local_rows local) (omega (arith, is, few)) behind
      ∙ ap (cluster_rows cluster) (less-here worlds Some n LOCAL_FIRST place local [] is (unreserved n (omega (arith, is))) tt (held-past plain without CLUSTER_FIRST cluster (local_rows local) behind))
      )

  new-rows : (n : ℕ) (prefix : Prefix) → n ≡ LOCAL_FIRST + free_place local → placed_by (λ row. row.number) (prefix_row prefix n) rows ≡ rows_of cluster (filled (prefix, 1) local)
  new-rows n prefix is =
      placed_behind (λ row. row.number) (prefix_row prefix n) reserved_identities (cluster_rows cluster (local_rows local)) (reserved-below n (omega (arith, is)))
      ∙ ap (λ rest. reserved_identities ++ rest) (
      placed-past plain without (prefix_row prefix n) CLUSTER_FIRST cluster (local_rows local) (omega (arith, is, few))
      ∙ ap (cluster_rows cluster) (placed-here worlds Some n LOCAL_FIRST (prefix, 1) local [] is tt)
      )

-- What a call that gave the prefix this number owes.
pub record IsHeld (prefix : Prefix) (reserved rows : List IdentityRow) (n : ℕ) (cluster : List (Slot (List Label))) (local : List (Slot Prefix)) : Type 0 where
  pub number : n ≡ number_for_prefix prefix rows
  pub is : rows_of cluster local ≡ prefix_held prefix rows
  pub room : (locals_held rows ≡ LOCAL_IDENTITIES) × (number_of_prefix prefix rows ≡ None) → ⊥
  pub kept : IsIdentities reserved cluster local

-- of the reserved prefixes
reserved_prefix : (row : IdentityRow) → In row reserved_identities → (prefix : Prefix) → row.prefix ≡ Some prefix → prefix.len ≡ 0
reserved_prefix = every-in (λ row. (prefix : Prefix) → row.prefix ≡ Some prefix → prefix.len ≡ 0) reserved_identities (
  (λ p e. cc),
  ((λ p e. cc), ((λ p e. cc), ((λ p e. cc), ((λ p e. cc), ((λ p e. cc), ((λ p e. cc), ((λ p e. cc), ((λ p e. cc), ((λ p e. cc), tt))))))))),
)

module _ (reserved : List IdentityRow) (cluster : List (Slot (List Label))) (local : List (Slot Prefix)) (known : IsIdentities reserved cluster local) (prefix : Prefix) where
  abbrev old : List IdentityRow
  old = rows_of cluster local

  number-found : (number : ℕ) → number_of_prefix prefix old ≡ Some number → (number ≡ number_for_prefix prefix old) × (with_holder number old ≡ prefix_held prefix old)
  number-found number is = (
    sym (ap (λ o. or_free o (free_number LOCAL_FIRST old)) is),
    sym (ap (λ o. held_or_new o (prefix_row prefix (free_number LOCAL_FIRST old)) old) is),
  )

  some_room : (number : ℕ) → number_of_prefix prefix old ≡ Some number → (locals_held old ≡ LOCAL_IDENTITIES) × (number_of_prefix prefix old ≡ None) → ⊥
  some_room number is full = some_is_none (sym is ∙ full.1)
    where
      some_is_none : {n : ℕ} → Some n ≡ None → ⊥
      some_is_none e = cc

  -- the row of a place
  place-row : (place : ℕ) (own : Prefix × ℕ) → slot_at local place ≡ Some own → In (row_with worlds Some (LOCAL_FIRST + place) own) old
  place-row place own at =
      In-right _ reserved_identities _ (In-past plain without (row_with worlds Some (LOCAL_FIRST + place) own) CLUSTER_FIRST cluster (local_rows local) (In-here worlds Some (LOCAL_FIRST + place) LOCAL_FIRST place local [] own refl at))

  -- the prefix has a place
  pub place-found : (place : ℕ) → HasPlace prefixes.ghosts.eq prefix local place → number_of_prefix prefix old ≡ Some (LOCAL_FIRST + place)
  place-found place has =
      found-prefix old known.keeps (row_with worlds Some (LOCAL_FIRST + place) has.0) prefix (Contains-from_In old _ (place-row place has.0 has.1)) (sym (ap Some ((prefix_eq-Decides prefix has.0.0).0 has.2)))

  pub hold-found : (place : ℕ) → HasPlace prefixes.ghosts.eq prefix local place → IsPrefix prefix → IsHeld prefix reserved old (LOCAL_FIRST + place) cluster (changed one_more place local)
  hold-found place has within =
      let at = place-found place has in
      let few = known.local_few in
      let told = number-found (LOCAL_FIRST + place) at in
      let is = sym (more-rows cluster local known.cluster_few (LOCAL_FIRST + place) place refl) ∙ told.1 in
      record {
        number = told.0;
        is = is;
        room = some_room (LOCAL_FIRST + place) at;
        kept = record {
          start = known.start;
          keeps = subst KeepsRows (sym is) (keep_prefix prefix old known.keeps within (λ none. absurd (some_is_none (sym at ∙ none))));
          cluster_few = known.cluster_few;
          local_few = omega (arith, few, length-changed one_more place local);
        };
      }
    where
      some_is_none : {n : ℕ} → Some n ≡ None → ⊥
      some_is_none e = cc

  -- the prefix has none
  pub none-found : HasNone prefixes.ghosts.eq prefix local → prefix.len ≢ 0 → number_of_prefix prefix old ≡ None
  none-found none long = by (number_of_prefix prefix old) refl
    where
      by : (o : Option ℕ) → number_of_prefix prefix old ≡ o → o ≡ None
      by None is = refl
      by (Some number) is =
          let row = found_with (λ row. has_prefix prefix row.prefix) old number is in
          let own = has_prefix-is prefix row.0.prefix row.2 in
          elim (In-append row.0 reserved_identities (cluster_rows cluster (local_rows local)) row.1) [
            | inl first ↦ absurd (long (reserved_prefix row.0 first prefix own))
            | inr behind ↦ elim (In-slots plain without row.0 CLUSTER_FIRST cluster (local_rows local) behind) [
              | inl at ↦ absurd (let wrong : None ≡ Some prefix = ap (λ r. r.prefix) at.3 ∙ own in cc)
              | inr last ↦ elim (In-slots worlds Some row.0 LOCAL_FIRST local [] last) [
                | inl at ↦
                    let same : Some at.1.0 ≡ Some prefix = ap (λ r. r.prefix) at.3 ∙ own in
                    let same_own : prefix ≡ at.1.0 = cc in
                    absurd (both_ways (prefixes.ghosts.eq prefix at.1.0) (none at.0 at.1 at.2) ((prefix_eq-Decides prefix at.1.0).1 same_own))
                | inr nowhere ↦ elim nowhere [ ]
              ]
            ]
          ]

  pub hold-new : HasNone prefixes.ghosts.eq prefix local → prefix.len ≢ 0 → IsPrefix prefix → (place : ℕ) → place ≡ free_place local → place < LOCAL_IDENTITIES → IsHeld prefix reserved old (LOCAL_FIRST + place) cluster (filled (prefix, 1) local)
  hold-new none long within place least below =
      let absent = none-found none long in
      let few = known.local_few in
      let free : free_place local < LOCAL_IDENTITIES = omega (arith, least, below) in
      let number = free-number cluster local known.cluster_few in
      let room = locals-room cluster local known.cluster_few free few in
      let is = sym (new-rows cluster local known.cluster_few (free_number LOCAL_FIRST old) prefix number)
      ∙ sym (ap (λ o. held_or_new o (prefix_row prefix (free_number LOCAL_FIRST old)) old) absent) in
      record {
        number = sym (ap (λ o. or_free o (free_number LOCAL_FIRST old)) absent ∙ number ∙ ap (λ p. LOCAL_FIRST + p) (sym least));
        is = is;
        room = λ full. let all = full.0 in absurd (omega (arith, room, all));
        kept = record {
          start = known.start;
          keeps = subst KeepsRows (sym is) (keep_prefix prefix old known.keeps within (λ _. room));
          cluster_few = known.cluster_few;
          local_few = length-filled LOCAL_IDENTITIES (prefix, 1) local free few;
        };
      }

  pub hold-full : HasNone prefixes.ghosts.eq prefix local → prefix.len ≢ 0 → (place : ℕ) → place ≡ free_place local → LOCAL_IDENTITIES ≤ place → (locals_held old ≡ LOCAL_IDENTITIES) × (number_of_prefix prefix old ≡ None)
  hold-full none long place least full =
      let number = free-number cluster local known.cluster_few in
      let within = least_free-within (λ row. row.number) LOCAL_FIRST old in
      (omega (arith, number, within, least, full, locals-few old known.keeps), none-found none long)

  -- a world's
  pub world-found : (f : Family) → prefix ≡ world f → number_of_prefix prefix old ≡ Some (world_in f).identity
  world-found f same = found-prefix old known.keeps (world_row f) prefix (reserved-there old known.keeps _ (world-there f)) (world-prefix f ∙ sym (ap Some same))

  pub hold-world : (f : Family) → prefix ≡ world f → IsHeld prefix reserved old (world_in f).identity cluster local
  hold-world f same =
      let found = world-found f same in
      let told = number-found (world_in f).identity found in
      record {
        number = told.0;
        is = sym (recounted-reserved (world_in f).identity (λ count. count + 1) old (world-reserved f)) ∙ told.1;
        room = some_room (world_in f).identity found;
        kept = known;
      }

-- the prefix of each place is one
pub are_prefixes : (reserved : List IdentityRow) (cluster : List (Slot (List Label))) (local : List (Slot Prefix)) → IsIdentities reserved cluster local → ArePrefixes local
are_prefixes reserved cluster local known place own at =
    let rows : List IdentityRow = rows_of cluster local in
    let row : IdentityRow = row_with worlds Some (LOCAL_FIRST + place) own in
    elim (row-kinds rows known.keeps row (Contains-from_In rows row (place-row reserved cluster local known own.0 place own at))) [
      | inl first ↦
          let is = (start_row row (In-from_Contains reserved_identities row first)).reserved.is in
          let upto = leb-true (LOCAL_FIRST + place) RESERVED_LAST (and_parts (nat_le 1 (LOCAL_FIRST + place)) (nat_le (LOCAL_FIRST + place) RESERVED_LAST) is).1 in
          absurd (omega (arith, upto))
      | inr (inl one) ↦ absurd (let wrong : Some own.0 ≡ None = one.no_prefix in cc)
      | inr (inr one) ↦ subst IsPrefix (sym (same_Some own.0 one.own one.prefix)) one.within
    ]
