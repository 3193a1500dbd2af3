-- What holding and releasing do to the rows, and what a request does to the set of a peer.
use Rattle.std.proofs.Common.{◌≡◌, ℕ, ◌+◌, ◌-◌, ◌==◌, ◌<◌, ◌&&◌, Bool, true, false, not, List, [], ◌∷◌, map, filter, nat_lt, Option, None, Some, ◌⊎◌, inl, inr, ⊎_elim, refl, sym, ap, ◌∙◌, subst}
use Rattle.std.specs.List.{list_any}
use Rattle.std.proofs.lemmas.Bool.{and_parts, both_ways, cases_Bool, cases_eq, eqb-true, eq-eqb, ne_eqb, and_left, cond-false, lt-ltb}
use Rattle.pol_addr.specs.declared.network.Prefix.{Prefix}
use Rattle.pol_labels.specs.declared.label.Label.{Label}
use Rattle.pol_labels.specs.Same.{same_labels}
use Rattle.pol_labels.specs.SameLaws.{same_labels-Decides}
use Rattle.pol_data.proofs.Members.{In}
use Rattle.pol_rule.specs.declared.policy.Peer.{Peer}
use Rattle.pol_model.specs.declared.limits.TheConstants.{CLUSTER_FIRST, LOCAL_FIRST}
use Rattle.pol_model.specs.declared.row.IdentityRow.{IdentityRow}
use Rattle.pol_model_laws.specs.Holding.{has_row, is_held, row_of, uncounted, IsPartOf}
use Rattle.pol_model.specs.Identities.{free_number, held_or_new, is_local, is_reserved, labels_held, number_for, number_where, or_free, recounted, released}
use Rattle.pol_model.specs.Prefixes.{has_prefix, number_of_prefix, prefix_held, prefix_row, prefixes_held}
use Rattle.pol_model.specs.Selects.{selects_row, set_at}
use Rattle.pol_model.proofs.AscendingStates.{RowsAscend, held_ascend}
use Rattle.pol_model_laws.proofs.Holders.{labels_row, number_where-some}
use Rattle.pol_model_laws.proofs.Keyed.{In-placed, one_of_number, placed-here}
use Rattle.pol_model_laws.proofs.Ledger.{AllHeld, has_prefix-is}
use Rattle.pol_model_laws.proofs.Membership.{filter-In, In-list_any, find-In, list_any-In, none-In}
use Rattle.pol_model_laws.proofs.Parts.{free_row, part-prefixes_held, part-row}
use Rattle.pol_model_laws.proofs.PrefixHolders.{held_more, same_prefix-itself}
use Rattle.pol_model_laws.proofs.Rows.{with_count, In-recounted, recounted-In, recounted-any, recount}

-- a hold adds one number at most
pub held_adds : (o : Option ℕ) (new : IdentityRow) (rows : List IdentityRow) (number : ℕ) → has_row number (held_or_new o new rows) ≡ true → (has_row number rows ≡ true) ⊎ (number ≡ or_free o new.number)
held_adds (Some own) new rows number has = inl (sym (recounted-any (λ row. row.number == number) (λ row c. refl) own (λ count. count + 1) rows) ∙ has)
held_adds None new rows number has =
    let one = In-list_any (λ row. row.number == number) (held_or_new None new rows) has in
    elim (In-placed (λ row. row.number) new one.0 rows one.1) [
      | inl is ↦ inr (sym (eqb-true one.0.number number one.2) ∙ sym (ap (λ r. r.number) is))
      | inr old ↦ inl (list_any-In (λ row. row.number == number) one.0 rows old one.2)
    ]

-- the number that is held has a row
pub held_has : (passes : IdentityRow → Bool) (new : IdentityRow) (rows : List IdentityRow) → has_row (or_free (number_where passes rows) new.number) (held_or_new (number_where passes rows) new rows) ≡ true
held_has passes new rows = has (number_where passes rows) refl
  where
    has : (o : Option ℕ) → number_where passes rows ≡ o → has_row (or_free o new.number) (held_or_new o new rows) ≡ true
    has (Some number) is =
        let its = number_where-some passes rows number is in
        let there = (find-In passes its.0 rows its.1).0 in
        recounted-any (λ row. row.number == number) (λ row c. refl) number (λ count. count + 1) rows
        ∙ list_any-In (λ row. row.number == number) its.0 rows there (eq-eqb its.0.number number its.2)
    has None is = list_any-In (λ row. row.number == new.number) new (held_or_new None new rows) (placed-here (λ row. row.number) new rows) (eq-eqb new.number new.number refl)

-- a row that passes is there
pub held_own : (passes : IdentityRow → Bool) → ((row : IdentityRow) (count : ℕ) → passes (with_count row count) ≡ passes row) → (new : IdentityRow) → passes new ≡ true → (rows : List IdentityRow)
    → list_any passes (held_or_new (number_where passes rows) new rows) ≡ true
held_own passes blind new own rows = has (number_where passes rows) refl
  where
    has : (o : Option ℕ) → number_where passes rows ≡ o → list_any passes (held_or_new o new rows) ≡ true
    has (Some number) is =
        let its = number_where-some passes rows number is in
        let found = find-In passes its.0 rows its.1 in
        recounted-any passes blind number (λ count. count + 1) rows ∙ list_any-In passes its.0 rows found.0 found.1
    has None is = list_any-In passes new (held_or_new None new rows) (placed-here (λ row. row.number) new rows) own

-- what the new row has, and each row that passes, the row of that number has too
pub held_is : (passes : IdentityRow → Bool) (P : IdentityRow → Type 0) → ((row : IdentityRow) (count : ℕ) → P row → P (with_count row count)) → ((row : IdentityRow) → passes row ≡ true → P row)
    → (new : IdentityRow) (first : ℕ) (rows : List IdentityRow) → RowsAscend rows → new.number ≡ free_number first rows → P new
    → (row : IdentityRow) → In row (held_or_new (number_where passes rows) new rows) → row.number ≡ or_free (number_where passes rows) new.number → P row
held_is passes P blind tells new first rows ascend free own row there its = held (number_where passes rows) refl there its
  where
    held : (o : Option ℕ) → number_where passes rows ≡ o → In row (held_or_new o new rows) → row.number ≡ or_free o new.number → P row
    held (Some number) is there its =
        let one = number_where-some passes rows number is in
        let found = find-In passes one.0 rows one.1 in
        let from = In-recounted number (λ count. count + 1) row rows there in
        let same = one_of_number (λ r. r.number) from.0 one.0 rows ascend from.1 found.0 (ap (λ r. r.number) from.2 ∙ its ∙ sym one.2) in
        subst P from.2 (blind from.0 (recount number (λ count. count + 1) from.0) (subst P (sym same) (tells one.0 found.1)))
    held None is there its =
        elim (In-placed (λ r. r.number) new row rows there) [
          | inl same ↦ subst P same own
          | inr old ↦
              absurd (both_ways (has_row (free_number first rows) rows) (free_row first rows ascend)
              (list_any-In (λ r. r.number == free_number first rows) row rows old (eq-eqb row.number (free_number first rows) (its ∙ free))))
        ]

-- the row of the number that a label set holds has these labels
pub labels_row_is : (labels : List Label) (rows : List IdentityRow) → RowsAscend rows → (row : IdentityRow) → row_of (number_for labels rows) (labels_held labels rows) ≡ Some row → row.labels ≡ labels
labels_row_is labels rows ascend row is =
    let at = find-In (λ r. r.number == number_for labels rows) row (labels_held labels rows) is in
    held_is (λ row. not (is_local row.number) && same_labels row.labels labels) (λ row. row.labels ≡ labels) (λ row c same. same)
    (λ row passes. (same_labels-Decides row.labels labels).0 (and_parts (not (is_local row.number)) (same_labels row.labels labels) passes).1)
    (labels_row (free_number CLUSTER_FIRST rows) labels) CLUSTER_FIRST rows ascend refl refl row at.0 (eqb-true row.number (number_for labels rows) at.1)

-- the number that a prefix holds
abbrev pub prefix_number : Prefix → List IdentityRow → ℕ
prefix_number prefix rows = or_free (number_of_prefix prefix rows) (free_number LOCAL_FIRST rows)

-- its row has this prefix
pub prefix_row_has : (prefix : Prefix) (rows : List IdentityRow) → RowsAscend rows → (row : IdentityRow) → In row (prefix_held prefix rows) → row.number ≡ prefix_number prefix rows → row.prefix ≡ Some prefix
prefix_row_has prefix rows ascend =
    held_is (λ row. has_prefix prefix row.prefix) (λ row. row.prefix ≡ Some prefix) (λ row c same. same) (λ row has. has_prefix-is prefix row.prefix has)
    (prefix_row prefix (free_number LOCAL_FIRST rows)) LOCAL_FIRST rows ascend refl refl

pub prefix_row_is : (prefix : Prefix) (rows : List IdentityRow) → RowsAscend rows → (row : IdentityRow) → row_of (prefix_number prefix rows) (prefix_held prefix rows) ≡ Some row → row.prefix ≡ Some prefix
prefix_row_is prefix rows ascend row is =
    let at = find-In (λ r. r.number == prefix_number prefix rows) row (prefix_held prefix rows) is in
    prefix_row_has prefix rows ascend row at.0 (eqb-true row.number (prefix_number prefix rows) at.1)

-- a new row of prefixes is that of one of them
pub new_prefix_row : (prefixes : List Prefix) (rows : List IdentityRow) → RowsAscend rows → (row : IdentityRow) → In row (prefixes_held prefixes rows)
    → (has_row row.number rows ≡ true) ⊎ ((prefix : Prefix) × In prefix prefixes × (row.prefix ≡ Some prefix))
new_prefix_row [] rows ascend row there = inl (list_any-In (λ r. r.number == row.number) row rows there (eq-eqb row.number row.number refl))
new_prefix_row (prefix ∷ others) rows ascend row there =
    let mid = prefix_held prefix rows in
    let mid_ascend = held_ascend (number_of_prefix prefix rows) (prefix_row prefix (free_number LOCAL_FIRST rows)) LOCAL_FIRST rows refl ascend in
    elim (new_prefix_row others mid mid_ascend row there) [
      | inl has ↦
          ⊎_elim (λ old. inl old) (λ own.
          let was = part-row mid (prefixes_held others mid) (part-prefixes_held others mid mid_ascend) row there has in
          let number : was.0.number ≡ prefix_number prefix rows = ap (λ r. r.number) was.2 ∙ own in
          inr (prefix, inl refl, sym (ap (λ r. r.prefix) was.2) ∙ prefix_row_has prefix rows ascend was.0 was.1 number))
          (held_adds (number_of_prefix prefix rows) (prefix_row prefix (free_number LOCAL_FIRST rows)) rows row.number has)
      | inr new ↦ inr (new.0, inr new.1, new.2)
    ]

-- each of the prefixes is held
pub own_prefix_held : (prefix : Prefix) (rows : List IdentityRow) → is_held prefix (prefix_held prefix rows) ≡ true
own_prefix_held prefix rows =
    held_own (λ row. has_prefix prefix row.prefix) (λ row c. refl) (prefix_row prefix (free_number LOCAL_FIRST rows)) (same_prefix-itself prefix) rows

pub prefixes_all_held : (prefixes : List Prefix) (rows : List IdentityRow) (prefix : Prefix) → (is_held prefix rows ≡ true) ⊎ In prefix prefixes → is_held prefix (prefixes_held prefixes rows) ≡ true
prefixes_all_held [] rows prefix (inl held) = held
prefixes_all_held [] rows prefix (inr none) = absurd none
prefixes_all_held (first ∷ others) rows prefix (inl held) = prefixes_all_held others (prefix_held first rows) prefix (inl (held_more first prefix rows held))
prefixes_all_held (first ∷ others) rows prefix (inr (inl same)) =
    prefixes_all_held others (prefix_held first rows) prefix (inl (subst (λ p. is_held p (prefix_held first rows) ≡ true) same (own_prefix_held first rows)))
prefixes_all_held (first ∷ others) rows prefix (inr (inr later)) = prefixes_all_held others (prefix_held first rows) prefix (inr later)

-- the number goes alone, where each row has a holder
pub released_alone : (number other : ℕ) (rows : List IdentityRow) → AllHeld rows → has_row other rows ≡ true → has_row other (released number rows) ≡ false → other ≡ number
released_alone number other rows held has gone =
    elim (cases_eq other number) [
      | inl same ↦ same
      | inr differs ↦
          let one = In-list_any (λ row. row.number == other) rows has in
          let stays = recounted-In number (λ count. count - 1) one.0 rows one.1 in
          let its = eqb-true one.0.number other one.2 in
          let same = cond-false _ (one.0.holders - 1) one.0.holders (and_left (one.0.number == number) (not (is_reserved number)) (ne_eqb one.0.number number (λ e. differs (sym its ∙ e)))) in
          let some : 0 < recount number (λ count. count - 1) one.0 = subst (λ n. 0 < n) (sym same) (held one.0 one.1) in
          let now = with_count one.0 (recount number (λ count. count - 1) one.0) in
          let kept = filter-In (λ row. nat_lt 0 row.holders) now (map (recounted number (λ count. count - 1)) rows) stays (lt-ltb 0 now.holders some) in
          absurd (both_ways (one.0.number == other) (none-In (λ row. row.number == other) now (released number rows) gone kept) one.2)
    ]

-- what a request does to the set of a peer
filter_map : {X Y : Type 0} (f : X → Y) (p : Y → Bool) (xs : List X) → filter p (map f xs) ≡ map f (filter (λ x. p (f x)) xs)
filter_map f p [] = refl
filter_map f p (x ∷ xs) =
    let others = filter_map f p xs in
    elim (cases_Bool (p (f x))) [
      | inl passes ↦ rw (passes, others) refl
      | inr fails ↦ rw (fails, others) refl
    ]

filter_both : {X : Type 0} (p q : X → Bool) (xs : List X) → filter p (filter q xs) ≡ filter q (filter p xs)
filter_both p q [] = refl
filter_both p q (x ∷ xs) =
    let others = filter_both p q xs in
    elim (cases_Bool (p x)) [
      | inl first ↦ elim (cases_Bool (q x)) [ inl second ↦ rw (first, second, first, others) refl | inr not_second ↦ rw (not_second, first, not_second, others) refl ]
      | inr not_first ↦ elim (cases_Bool (q x)) [ inl second ↦ rw (not_first, second, not_first, others) refl | inr not_second ↦ rw (not_first, not_second, others) refl ]
    ]

uncounted_numbers : (rows : List IdentityRow) → map (λ row. row.number) (map uncounted rows) ≡ map (λ row. row.number) rows
uncounted_numbers [] = refl
uncounted_numbers (row ∷ rows) = ap (λ rest. row.number ∷ rest) (uncounted_numbers rows)

-- the numbers of the rows that pass a test that looks at no count
numbers_where : (passes : IdentityRow → Bool) → ((row : IdentityRow) → passes (uncounted row) ≡ passes row) → (rows : List IdentityRow) → map (λ row. row.number) (filter passes (map uncounted rows)) ≡ map (λ row. row.number) (filter passes rows)
numbers_where passes blind rows =
    ap (map (λ row. row.number)) (filter_map uncounted passes rows)
    ∙ uncounted_numbers (filter (λ row. passes (uncounted row)) rows)
    ∙ ap (λ t. map (λ row. row.number) (filter t rows)) (λ i row. blind row i)

pub part_set : (rows others : List IdentityRow) (p : Peer) → IsPartOf rows others → set_at rows p ≡ filter (λ n. has_row n rows) (set_at others p)
part_set rows others p part =
    sym (numbers_where (selects_row p) (λ row. refl) rows)
    ∙ ap (λ list. map (λ row. row.number) (filter (selects_row p) list)) (sym part ∙ filter_map uncounted (λ row. has_row row.number rows) others)
    ∙ numbers_where (selects_row p) (λ row. refl) (filter (λ row. has_row row.number rows) others)
    ∙ ap (map (λ row. row.number)) (filter_both (selects_row p) (λ row. has_row row.number rows) others)
    ∙ sym (filter_map (λ row. row.number) (λ n. has_row n rows) (filter (selects_row p) others))
