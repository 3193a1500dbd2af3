-- Rows keep fitting together as label sets and prefixes are held and numbers released; and a release undoes a hold.
use Rattle.std.proofs.Common.{◌≡◌, ℕ, ◌+◌, ◌-◌, ◌==◌, ◌&&◌, ◌<◌, Bool, true, false, not, cond, List, [], ◌∷◌, drop, map, Option, None, Some, inl, inr, refl, sym, ap, ◌∙◌, subst, arith}
use Rattle.std.specs.List.{AllByRecursion}
use Rattle.std.specs.Option.{option_map_or}
use Rattle.std.proofs.lemmas.Bool.{both_ways, eqb-true, eq-eqb, or_parts, true_from_ne_false}
use Rattle.pol_addr.specs.Cidr.{IsPrefix}
use Rattle.pol_addr.specs.declared.network.Prefix.{Prefix}
use Rattle.pol_labels.specs.declared.label.Label.{Label}
use Rattle.pol_labels.specs.Order.{IsLabelSet}
use Rattle.pol_data.proofs.Members.{In}
use Rattle.pol_model.specs.declared.limits.TheConstants.{CLUSTER_FIRST, LOCAL_FIRST, LOCAL_IDENTITIES, RESERVED_LAST}
use Rattle.pol_model.specs.declared.row.IdentityRow.{IdentityRow}
use Rattle.pol_model.specs.Fault.{has_reserved, is_exhausted, is_init, locals_held}
use Rattle.pol_model_laws.specs.Holding.{has_row, row_of, uncounted, IsPartOf}
use Rattle.pol_model.specs.Identities.{free_number, is_reserved, labels_held, number_for, number_of_labels, number_released, released, reserved_identities}
use Rattle.pol_model_laws.specs.Keeps.{KeepsRows}
use Rattle.pol_model.specs.Prefixes.{number_of_prefix, prefix_held, prefix_row, prefix_released, prefixes_held, prefixes_released}
use Rattle.pol_model_laws.proofs.Holders.{hold_labels, labels_row}
use Rattle.pol_model_laws.proofs.Keyed.{found_by_number}
use Rattle.pol_model_laws.proofs.Ledger.{AllHeld, Ledger, taken_unreserved}
use Rattle.pol_model_laws.proofs.Membership.{In-left, In-list_any, In-right, list_any-In}
use Rattle.pol_model_laws.proofs.Parts.{filter_same, part-labels_held, part-prefixes_held, part-prefixes_released, part-released}
use Rattle.pol_model_laws.proofs.PrefixHolders.{HasRoom, hold_prefix, hold_prefixes, least_free-within, same_tests}
use Rattle.pol_model_laws.proofs.Releases.{held_or_new-held, number_released-held, prefixes_held-held, prefixes_released-held, release_holder, release_number, release_prefixes}
use Rattle.pol_model_laws.proofs.RowLedger.{begins, behind_taken, held_from, ledger_from, row_cases, rows_from}
use Rattle.pol_model_laws.proofs.StartRows.{start_held, start_ledger}

-- how many hold the number's row
abbrev own_count : List IdentityRow → ℕ → ℕ
own_count rows number = option_map_or (λ row. row.holders) (row_of number rows) 0

own_count-at : (rows : List IdentityRow) → KeepsRows rows → (row : IdentityRow) → In row rows → own_count rows row.number ≡ row.holders
own_count-at rows keeps row there = ap (λ o. option_map_or (λ row. row.holders) o 0) (found_by_number (λ r. r.number) row rows keeps.numbers there)

own_count-none : (rows : List IdentityRow) (number : ℕ) → has_row number rows ≡ false → own_count rows number ≡ 0
own_count-none [] number none = refl
own_count-none (row ∷ rows) number none =
    let parts = or_parts (row.number == number) _ none in
    rw (parts.0) (own_count-none rows number parts.1)

own_ledger : (rows : List IdentityRow) → KeepsRows rows → Ledger (own_count rows) (λ _. 0) rows
own_ledger rows keeps =
    ledger_from keeps (own_count rows) (λ _. 0)
    (λ row there. omega (arith, own_count-at rows keeps row (subst (In row) (sym (begins keeps)) (In-right row reserved_identities (drop RESERVED_LAST rows) there))))
    (own_count-none rows) (λ prefix none. refl)

-- before anything is held
pub start_rows : KeepsRows reserved_identities
start_rows = rows_from start_ledger start_held

-- a label set, a prefix and prefixes are held
pub keep_labels : (labels : List Label) (rows : List IdentityRow) → KeepsRows rows → IsLabelSet labels → (has_reserved labels && not (is_init labels)) ≡ false → is_exhausted labels rows ≡ false → KeepsRows (labels_held labels rows)
keep_labels labels rows keeps set allowed room =
    rows_from (hold_labels (own_ledger rows keeps) labels set allowed refl room)
    (held_or_new-held (number_of_labels labels rows) (labels_row (free_number CLUSTER_FIRST rows) labels) rows (omega arith) (held_from keeps))

pub keep_prefix : (prefix : Prefix) (rows : List IdentityRow) → KeepsRows rows → IsPrefix prefix → (number_of_prefix prefix rows ≡ None → locals_held rows < LOCAL_IDENTITIES) → KeepsRows (prefix_held prefix rows)
keep_prefix prefix rows keeps within room =
    rows_from (hold_prefix (own_ledger rows keeps) prefix within (λ none. omega (arith, room none, least_free-within (λ row. row.number) LOCAL_FIRST rows)))
    (held_or_new-held (number_of_prefix prefix rows) (prefix_row prefix (free_number LOCAL_FIRST rows)) rows (omega arith) (held_from keeps))

pub keep_prefixes : (prefixes : List Prefix) (rows : List IdentityRow) → KeepsRows rows → AllByRecursion IsPrefix prefixes → HasRoom rows prefixes → KeepsRows (prefixes_held prefixes rows)
keep_prefixes prefixes rows keeps within room =
    rows_from (hold_prefixes prefixes rows (own_count rows) (λ _. 0) (own_ledger rows keeps) within room) (prefixes_held-held prefixes rows (held_from keeps))

-- a number and prefixes are released
one_less : (h : ℕ) (b : Bool) → 0 < h → h + 0 ≡ (h - cond b 1 0) + 0 + cond b 1 0
one_less h true some = omega (arith, some)
one_less h false some = omega arith

keep_release : (number : ℕ) (rows : List IdentityRow) → KeepsRows rows → KeepsRows (released number rows)
keep_release number rows keeps =
    rows_from (
    release_number (own_ledger rows keeps) (λ n. own_count rows n - cond (n == number) 1 0) (λ _. 0) number
    (λ row there. one_less (own_count rows row.number) (row.number == number) (subst (λ n. 0 < n) (sym (own_count-at rows keeps row there)) (held_from keeps row there)))
    (λ n. omega arith) (λ own. omega arith)
    )
    (number_released-held (Some number) rows (held_from keeps))

pub keep_released : (number : Option ℕ) (rows : List IdentityRow) → KeepsRows rows → KeepsRows (number_released number rows)
keep_released None rows keeps = keeps
keep_released (Some number) rows keeps = keep_release number rows keeps

pub keep_prefixes_released : (prefixes : List Prefix) (rows : List IdentityRow) → KeepsRows rows → KeepsRows (prefixes_released prefixes rows)
keep_prefixes_released [] rows keeps = keeps
keep_prefixes_released (prefix ∷ others) rows keeps =
    keep_prefixes_released others (prefix_released prefix rows) (keep_released (number_of_prefix prefix rows) rows keeps)

-- rows with the same counts, that are parts of the same rows, are the same
same_counted : (one other : List IdentityRow) → map uncounted one ≡ map uncounted other → ((row own : IdentityRow) → In row one → In own other → row.number ≡ own.number → row.holders ≡ own.holders) → one ≡ other
same_counted [] [] same counts = refl
same_counted [] (own ∷ other) same counts = absurd cc
same_counted (row ∷ one) [] same counts = absurd cc
same_counted (row ∷ one) (own ∷ other) same counts =
    let here : uncounted row ≡ uncounted own = cc in
    let rest : map uncounted one ≡ map uncounted other = cc in
    let holders = counts row own (inl refl) (inl refl) (ap (λ r. r.number) here) in
    let others = same_counted one other rest (λ r o there here. counts r o (inr there) (inr here)) in
    λ i. record { number = (here i).number; labels = (here i).labels; prefix = (here i).prefix; holders = holders i } ∷ others i

module _ {by_number : ℕ → ℕ} (one other : List IdentityRow) (first : Ledger by_number (λ _. 0) one) (second : Ledger by_number (λ _. 0) other) (held : AllHeld one) (held_too : AllHeld other) where
  there_too : (row : IdentityRow) → In row one → has_row row.number other ≡ true
  there_too row there =
      elim (row_cases (rows_from first held) row there) [
        | inl reserved ↦
            list_any-In (λ r. r.number == row.number) row other
            (subst (In row) (sym (begins (rows_from second held_too))) (In-left row reserved_identities (drop RESERVED_LAST other) reserved)) (eq-eqb row.number row.number refl)
        | inr behind ↦
            true_from_ne_false (has_row row.number other) (λ none.
            let nobody = second.numbers_there row.number none in
            let count = (behind_taken first row behind).count in
            omega (arith, held row there, nobody, count))
      ]

  counts_agree : (row own : IdentityRow) → In row one → In own other → row.number ≡ own.number → row.holders ≡ own.holders
  counts_agree row own there here same =
      elim (first.each row there) [
        | inl reserved ↦ elim (second.each own here) [
          | inl reserved_too ↦ reserved.holders ∙ sym reserved_too.holders
          | inr taken ↦ absurd (both_ways (is_reserved own.number) (taken_unreserved own taken.kind) (subst (λ n. is_reserved n ≡ true) same reserved.is))
        ]
        | inr taken ↦ elim (second.each own here) [
          | inl reserved ↦ absurd (both_ways (is_reserved row.number) (taken_unreserved row taken.kind) (subst (λ n. is_reserved n ≡ true) (sym same) reserved.is))
          | inr taken_too ↦ taken.count ∙ ap (λ n. by_number n + 0) same ∙ sym taken_too.count
        ]
      ]

has_same : {by_number : ℕ → ℕ} (one other : List IdentityRow) → Ledger by_number (λ _. 0) one → Ledger by_number (λ _. 0) other → AllHeld one → AllHeld other → (number : ℕ) → has_row number one ≡ true → has_row number other ≡ true
has_same one other first second held held_too number has =
    let row = In-list_any (λ r. r.number == number) one has in
    subst (λ n. has_row n other ≡ true) (eqb-true row.0.number number row.2) (there_too one other first second held held_too row.0 row.1)

same_rows : {by_number : ℕ → ℕ} (one other whole : List IdentityRow) → Ledger by_number (λ _. 0) one → Ledger by_number (λ _. 0) other → AllHeld one → AllHeld other → IsPartOf one whole → IsPartOf other whole → one ≡ other
same_rows one other whole first second held held_too part part_too =
    same_counted one other (
    sym part
    ∙ filter_same (λ row. has_row row.number one) (λ row. has_row row.number other) (map uncounted whole) (λ row there.
    same_tests (has_row row.number one) (has_row row.number other) (has_same one other first second held held_too row.number) (has_same other one second first held_too held row.number))
    ∙ part_too
    )
    (counts_agree one other first second held held_too)

-- what is held and then released leaves the rows as they were
pub labels_undone : (labels : List Label) (rows : List IdentityRow) → KeepsRows rows → IsLabelSet labels → (has_reserved labels && not (is_init labels)) ≡ false → is_exhausted labels rows ≡ false
    → released (number_for labels rows) (labels_held labels rows) ≡ rows
labels_undone labels rows keeps set allowed room =
    let mid = labels_held labels rows in
    let number = number_for labels rows in
    let own = own_ledger rows keeps in
    let more = hold_labels own labels set allowed refl room in
    same_rows (released number mid) rows mid (release_holder number more) own
    (number_released-held (Some number) mid (held_from (keep_labels labels rows keeps set allowed room))) (held_from keeps)
    (part-released number mid more.ascend) (part-labels_held labels rows keeps.numbers)

pub prefixes_undone : (prefixes : List Prefix) (rows : List IdentityRow) → KeepsRows rows → AllByRecursion IsPrefix prefixes → HasRoom rows prefixes → prefixes_released prefixes (prefixes_held prefixes rows) ≡ rows
prefixes_undone prefixes rows keeps within room =
    let mid = prefixes_held prefixes rows in
    let own = own_ledger rows keeps in
    let more = hold_prefixes prefixes rows (own_count rows) (λ _. 0) own within room in
    same_rows (prefixes_released prefixes mid) rows mid (release_prefixes prefixes mid (own_count rows) (λ _. 0) more) own
    (prefixes_released-held prefixes mid (prefixes_held-held prefixes rows (held_from keeps))) (held_from keeps)
    (part-prefixes_released prefixes mid more.ascend) (part-prefixes_held prefixes rows keeps.numbers)
