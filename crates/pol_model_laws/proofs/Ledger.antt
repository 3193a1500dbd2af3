-- Rows that fit together, whose counts are given by how many hold each number and each prefix: what keeps that, as
-- counts change, rows without a holder go, and a new row comes.
use Rattle.std.proofs.Common.{◌≡◌, ℕ, ◌+◌, ◌==◌, ◌<◌, Bool, true, false, cond, List, map, filter, nat_lt, Option, None, Some, ◌⊎◌, inl, inr, refl, sym, ap, ◌∙◌, subst, arith}
use Rattle.std.specs.List.{list_any}
use Rattle.std.proofs.lemmas.Bool.{eqb-true, cases_Bool, lt-leb, lt-ltb, and_parts, and_right, both_ways, false≢true, cases_lt}
use Rattle.pol_addr.specs.declared.network.Prefix.{Prefix}
use Rattle.pol_addr.specs.Address.{same_addr}
use Rattle.pol_addr.specs.Prefix.{same_prefix}
use Rattle.pol_addr.proofs.ByFamily.{same_addr-is}
use Rattle.pol_data.proofs.Members.{In}
use Rattle.pol_model.specs.declared.limits.TheConstants.{RESERVED_LAST}
use Rattle.pol_model.specs.declared.row.IdentityRow.{IdentityRow}
use Rattle.pol_model.specs.Fault.{has_reserved}
use Rattle.pol_model_laws.specs.Holding.{has_row, is_held}
use Rattle.pol_model.specs.Identities.{is_reserved, is_local, recounted}
use Rattle.pol_model_laws.specs.Keeps.{IsClusterRow, IsLocalRow}
use Rattle.pol_model.specs.Numbers.{placed_by}
use Rattle.pol_model.specs.Prefixes.{has_prefix}
use Rattle.pol_model.proofs.Ascents.{filter_ascends, placed_ascends}
use Rattle.pol_model.proofs.AscendingStates.{RowsAscend, recounted_ascend}
use Rattle.pol_model_laws.proofs.Keyed.{In-placed, none-placed}
use Rattle.pol_model_laws.proofs.Membership.{In-filter, filter-In, In-list_any, none-In, list_any-map}
use Rattle.pol_model_laws.proofs.Rows.{with_count, recount, recount-reserved, recount-other, In-recounted, recounted-any, BeginsReserved, recounted-begins, held-begins, placed-begins}

-- a row of a reserved number
pub record IsReservedRow (row : IdentityRow) : Type 0 where
  pub is : is_reserved row.number ≡ true
  pub holders : row.holders ≡ 1
  pub labels : has_reserved row.labels ≡ true

-- a row that was taken, and counts so many of its number and its prefix
pub record IsTakenRow (by_number : ℕ → ℕ) (by_prefix : Option Prefix → ℕ) (row : IdentityRow) : Type 0 where
  pub kind : IsClusterRow row ⊎ IsLocalRow row
  pub count : row.holders ≡ by_number row.number + by_prefix row.prefix

-- two rows that are the same share a number
abbrev pub AreApart : (IdentityRow → IdentityRow → Type 0) → List IdentityRow → Type 0
AreApart Same rows = (one other : IdentityRow) → In one rows → In other rows → Same one other → one.number ≡ other.number

abbrev pub SameLabels : IdentityRow → IdentityRow → Type 0
SameLabels one other = (is_local one.number ≡ false) × (is_local other.number ≡ false) × (one.labels ≡ other.labels)

abbrev pub SamePrefix : IdentityRow → IdentityRow → Type 0
SamePrefix one other = (prefix : Prefix) × (one.prefix ≡ Some prefix) × (other.prefix ≡ Some prefix)

pub record Ledger (by_number : ℕ → ℕ) (by_prefix : Option Prefix → ℕ) (rows : List IdentityRow) : Type 0 where
  pub ascend : RowsAscend rows
  pub begins : BeginsReserved rows
  pub each : (row : IdentityRow) → In row rows → IsReservedRow row ⊎ IsTakenRow by_number by_prefix row
  pub labels : AreApart SameLabels rows
  pub prefixes : AreApart SamePrefix rows
  pub numbers_there : (number : ℕ) → has_row number rows ≡ false → by_number number ≡ 0
  pub prefixes_there : (prefix : Prefix) → is_held prefix rows ≡ false → by_prefix (Some prefix) ≡ 0

pub same_prefix-is : (one other : Prefix) → same_prefix one other ≡ true → one ≡ other
same_prefix-is one other same =
    let parts = and_parts (same_addr one.addr other.addr) (one.len == other.len) same in
    let addr = same_addr-is one.addr other.addr parts.0 in
    let len = eqb-true one.len other.len parts.1 in
    λ i. record { addr = addr i; len = len i }

-- the prefix of a row that has it
pub has_prefix-is : (prefix : Prefix) (own : Option Prefix) → has_prefix prefix own ≡ true → own ≡ Some prefix
has_prefix-is prefix None has = absurd (false≢true has)
has_prefix-is prefix (Some own) has = ap Some (sym (same_prefix-is prefix own has))

above_reserved : (row : IdentityRow) → IsClusterRow row ⊎ IsLocalRow row → RESERVED_LAST < row.number
above_reserved row (inl cluster) = let from = cluster.number.0 in omega (arith, from)
above_reserved row (inr local) = let from = local.from in omega (arith, from)

-- each row has a holder
abbrev pub AllHeld : List IdentityRow → Type 0
AllHeld rows = (row : IdentityRow) → In row rows → 0 < row.holders

-- a taken row isn't reserved
pub taken_unreserved : (row : IdentityRow) → IsClusterRow row ⊎ IsLocalRow row → is_reserved row.number ≡ false
taken_unreserved row (inl cluster) = and_right _ _ (lt-leb row.number RESERVED_LAST (let from = cluster.number.0 in omega (arith, from)))
taken_unreserved row (inr local) = and_right _ _ (lt-leb row.number RESERVED_LAST (let from = local.from in omega (arith, from)))

kind_counted : (row : IdentityRow) (count : ℕ) → IsClusterRow row ⊎ IsLocalRow row → IsClusterRow (with_count row count) ⊎ IsLocalRow (with_count row count)
kind_counted row count (inl cluster) =
    inl (record { number = cluster.number; label_set = cluster.label_set; not_reserved = cluster.not_reserved; no_prefix = cluster.no_prefix })
kind_counted row count (inr local) =
    inr (record { from = local.from; upto = local.upto; own = local.own; prefix = local.prefix; within = local.within; labels = local.labels })

-- what is the same of two rows doesn't look at counts
abbrev IsBlind : (IdentityRow → IdentityRow → Type 0) → Type 0
IsBlind Same = (one other : IdentityRow) (c d : ℕ) → Same (with_count one c) (with_count other d) → Same one other

pub apart_recounted : (Same : IdentityRow → IdentityRow → Type 0) → IsBlind Same
    → (number : ℕ) (count : ℕ → ℕ) (rows : List IdentityRow) → AreApart Same rows → AreApart Same (map (recounted number count) rows)
apart_recounted Same blind number count rows apart one other there here same =
    let from = In-recounted number count one rows there in
    let to = In-recounted number count other rows here in
    let counted : Same (with_count from.0 (recount number count from.0)) (with_count to.0 (recount number count to.0)) =
    subst (λ r. Same r (with_count to.0 (recount number count to.0))) (sym from.2) (subst (λ r. Same one r) (sym to.2) same) in
    let numbers = apart from.0 to.0 from.1 to.1 (blind from.0 to.0 _ _ counted) in
    sym (ap (λ r. r.number) from.2) ∙ numbers ∙ ap (λ r. r.number) to.2

pub apart_filtered : (Same : IdentityRow → IdentityRow → Type 0) (p : IdentityRow → Bool) (rows : List IdentityRow) → AreApart Same rows → AreApart Same (filter p rows)
apart_filtered Same p rows apart one other there here same =
    apart one other (In-filter p one rows there).0 (In-filter p other rows here).0 same

pub apart_placed : (Same : IdentityRow → IdentityRow → Type 0) → ((one other : IdentityRow) → Same one other → Same other one)
    → (new : IdentityRow) (rows : List IdentityRow) → ((old : IdentityRow) → In old rows → Same new old → ⊥) → AreApart Same rows → AreApart Same (placed_by (λ row. row.number) new rows)
apart_placed Same turned new rows differs apart one other there here same =
    elim (In-placed (λ row. row.number) new one rows there) [
      | inl is ↦
          elim (In-placed (λ row. row.number) new other rows here) [
            | inl is_too ↦ ap (λ r. r.number) (sym is ∙ is_too)
            | inr old ↦ absurd (differs other old (subst (λ r. Same r other) (sym is) same))
          ]
      | inr old ↦
          elim (In-placed (λ row. row.number) new other rows here) [
            | inl is_too ↦ absurd (differs one old (turned one new (subst (λ r. Same one r) (sym is_too) same)))
            | inr old_too ↦ apart one other old old_too same
          ]
    ]

module _ {by_number : ℕ → ℕ} {by_prefix : Option Prefix → ℕ} {rows : List IdentityRow} (ledger : Ledger by_number by_prefix rows) where
  -- the counts of a number change
  pub recounted_ledger : (now_number : ℕ → ℕ) (now_prefix : Option Prefix → ℕ) (number : ℕ) (count : ℕ → ℕ)
      → ((row : IdentityRow) → In row rows → IsTakenRow by_number by_prefix row → cond (row.number == number) (count row.holders) row.holders ≡ now_number row.number + now_prefix row.prefix)
      → ((n : ℕ) → has_row n rows ≡ false → now_number n ≡ 0)
      → ((prefix : Prefix) → is_held prefix rows ≡ false → now_prefix (Some prefix) ≡ 0)
      → Ledger now_number now_prefix (map (recounted number count) rows)
  recounted_ledger now_number now_prefix number count counts no_number no_prefix = record {
    ascend = recounted_ascend number count rows ledger.ascend;
    begins = recounted-begins number count rows ledger.begins;
    each = λ row there.
        let from = In-recounted number count row rows there in
        subst (λ r. IsReservedRow r ⊎ IsTakenRow now_number now_prefix r) from.2 (
        elim (ledger.each from.0 from.1) [
          | inl reserved ↦ inl (record { is = reserved.is; holders = recount-reserved number count from.0 reserved.is ∙ reserved.holders; labels = reserved.labels })
          | inr taken ↦
              inr (record {
                kind = kind_counted from.0 (recount number count from.0) taken.kind;
                count = recount-other number count from.0 (taken_unreserved from.0 taken.kind) ∙ counts from.0 from.1 taken;
              })
        ]
        );
    labels = apart_recounted SameLabels (λ one other c d same. same) number count rows ledger.labels;
    prefixes = apart_recounted SamePrefix (λ one other c d same. same) number count rows ledger.prefixes;
    numbers_there = λ n none. no_number n (sym (recounted-any (λ row. row.number == n) (λ row c. refl) number count rows) ∙ none);
    prefixes_there = λ prefix none. no_prefix prefix (sym (recounted-any (λ row. has_prefix prefix row.prefix) (λ row c. refl) number count rows) ∙ none);
  }

  gone : (p : IdentityRow → Bool) (row : IdentityRow) → In row rows → p row ≡ true → list_any p (filter (λ row. nat_lt 0 row.holders) rows) ≡ false → by_number row.number + by_prefix row.prefix ≡ 0
  gone p row there passes none =
      let stays : 0 < row.holders → ⊥ = λ some.
      let still = filter-In (λ row. nat_lt 0 row.holders) row rows there (lt-ltb 0 row.holders some) in
      both_ways (p row) (none-In p row _ none still) passes in
      elim (ledger.each row there) [
        | inl reserved ↦ absurd (stays (omega (arith, reserved.holders)))
        | inr taken ↦ elim (cases_lt 0 row.holders) [
          | inl some ↦ absurd (stays some)
          | inr zero ↦ omega (arith, zero, taken.count)
        ]
      ]

  -- rows without a holder go
  pub held_ledger : Ledger by_number by_prefix (filter (λ row. nat_lt 0 row.holders) rows)
  held_ledger = record {
    ascend = filter_ascends (λ row. row.number) (λ row. nat_lt 0 row.holders) rows ledger.ascend;
    begins = held-begins rows ledger.begins;
    each = λ row there. ledger.each row (In-filter (λ row. nat_lt 0 row.holders) row rows there).0;
    labels = apart_filtered SameLabels (λ row. nat_lt 0 row.holders) rows ledger.labels;
    prefixes = apart_filtered SamePrefix (λ row. nat_lt 0 row.holders) rows ledger.prefixes;
    numbers_there = λ n none.
        elim (cases_Bool (has_row n rows)) [
          | inl some ↦
              let one = In-list_any (λ row. row.number == n) rows some in
              let nobody = gone (λ row. row.number == n) one.0 one.1 one.2 none in
              subst (λ m. by_number m ≡ 0) (eqb-true one.0.number n one.2) (omega (arith, nobody))
          | inr none_before ↦ ledger.numbers_there n none_before
        ];
    prefixes_there = λ prefix none.
        elim (cases_Bool (is_held prefix rows)) [
          | inl some ↦
              let one = In-list_any (λ row. has_prefix prefix row.prefix) rows some in
              let nobody = gone (λ row. has_prefix prefix row.prefix) one.0 one.1 one.2 none in
              subst (λ p. by_prefix p ≡ 0) (has_prefix-is prefix one.0.prefix one.2) (omega (arith, nobody))
          | inr none_before ↦ ledger.prefixes_there prefix none_before
        ];
  }

  -- a new row comes
  pub placed_ledger : (now_number : ℕ → ℕ) (now_prefix : Option Prefix → ℕ) (new : IdentityRow)
      → IsClusterRow new ⊎ IsLocalRow new → has_row new.number rows ≡ false
      → ((old : IdentityRow) → In old rows → SameLabels new old → ⊥) → ((old : IdentityRow) → In old rows → SamePrefix new old → ⊥)
      → new.holders ≡ now_number new.number + now_prefix new.prefix
      → ((row : IdentityRow) → In row rows → IsTakenRow by_number by_prefix row → row.holders ≡ now_number row.number + now_prefix row.prefix)
      → ((n : ℕ) → has_row n rows ≡ false → (new.number == n) ≡ false → now_number n ≡ 0)
      → ((prefix : Prefix) → is_held prefix rows ≡ false → has_prefix prefix new.prefix ≡ false → now_prefix (Some prefix) ≡ 0)
      → Ledger now_number now_prefix (placed_by (λ row. row.number) new rows)
  placed_ledger now_number now_prefix new kind free new_labels new_prefix count counts no_number no_prefix = record {
    ascend = placed_ascends (λ row. row.number) new rows ledger.ascend (list_any-map (λ row. row.number) (λ n. n == new.number) rows ∙ free);
    begins = placed-begins new rows (above_reserved new kind) ledger.begins;
    each = λ row there.
        elim (In-placed (λ row. row.number) new row rows there) [
          | inl is ↦ subst (λ r. IsReservedRow r ⊎ IsTakenRow now_number now_prefix r) is (inr (record { kind = kind; count = count }))
          | inr old ↦ elim (ledger.each row old) [
            | inl reserved ↦ inl reserved
            | inr taken ↦ inr (record { kind = taken.kind; count = counts row old taken })
          ]
        ];
    labels = apart_placed SameLabels (λ one other same. (same.1, same.0, sym same.2)) new rows new_labels ledger.labels;
    prefixes = apart_placed SamePrefix (λ one other same. (same.0, same.2, same.1)) new rows new_prefix ledger.prefixes;
    numbers_there = λ n none.
        let parts = none-placed (λ row. row.number) (λ row. row.number == n) new rows none in
        no_number n parts.1 parts.0;
    prefixes_there = λ prefix none.
        let parts = none-placed (λ row. row.number) (λ row. has_prefix prefix row.prefix) new rows none in
        no_prefix prefix parts.1 parts.0;
  }
