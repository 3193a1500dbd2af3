-- Releasing a number, and prefixes one after another, in rows that fit together; and that each row has a holder.
use Rattle.std.proofs.Common.{◌≡◌, ℕ, ◌+◌, ◌-◌, ◌==◌, ◌<◌, ◌≤◌, ◌&&◌, Bool, true, false, not, cond, List, [], ◌∷◌, map, nat_lt, Option, None, Some, inl, inr, refl, ap, ◌∙◌, subst, arith}
use Rattle.std.proofs.lemmas.Bool.{ltb-true}
use Rattle.std.proofs.lemmas.Bool.Decides.{nat_tests}
use Rattle.pol_addr.specs.declared.network.Prefix.{Prefix}
use Rattle.pol_data.proofs.Members.{In}
use Rattle.pol_model.specs.declared.limits.TheConstants.{LOCAL_FIRST}
use Rattle.pol_model.specs.declared.row.IdentityRow.{IdentityRow}
use Rattle.pol_model.specs.Identities.{free_number, held_or_new, is_reserved, number_released, recounted, released, with_holder}
use Rattle.pol_model.specs.Prefixes.{has_prefix, prefix_row, number_of_prefix, prefix_held, prefixes_held, prefix_released, prefixes_released}
use Rattle.pol_model_laws.proofs.Holders.{one_of, number_where-none}
use Rattle.pol_model_laws.proofs.Keyed.{In-placed}
use Rattle.pol_model_laws.proofs.Ledger.{Ledger, AllHeld, recounted_ledger, held_ledger}
use Rattle.pol_model_laws.proofs.Membership.{In-filter}
use Rattle.pol_model_laws.proofs.PrefixHolders.{times, times-cons, prefix_of_number, same_ledger, same_prefix-itself}
use Rattle.pol_model_laws.proofs.Rows.{In-recounted}

less_where : (h now : ℕ) (b : Bool) → h ≡ now + cond b 1 0 → cond b (h - 1) h ≡ now
less_where h now true is = omega (arith, is)
less_where h now false is = omega (arith, is)

-- one holder less of a number
pub release_number : {by_number : ℕ → ℕ} {by_prefix : Option Prefix → ℕ} {rows : List IdentityRow} → Ledger by_number by_prefix rows
    → (now_number : ℕ → ℕ) (now_prefix : Option Prefix → ℕ) (number : ℕ)
    → ((row : IdentityRow) → In row rows → by_number row.number + by_prefix row.prefix ≡ now_number row.number + now_prefix row.prefix + cond (row.number == number) 1 0)
    → ((n : ℕ) → now_number n ≤ by_number n) → ((own : Option Prefix) → now_prefix own ≤ by_prefix own)
    → Ledger now_number now_prefix (released number rows)
release_number {by_number} {by_prefix} {rows} ledger now_number now_prefix number counts fewer_numbers fewer_prefixes =
    held_ledger (recounted_ledger ledger now_number now_prefix number (λ count. count - 1)
    (λ row there taken. less_where row.holders (now_number row.number + now_prefix row.prefix) (row.number == number) (taken.count ∙ counts row there))
    (λ n none. omega (arith, fewer_numbers n, ledger.numbers_there n none))
    (λ prefix none. omega (arith, fewer_prefixes (Some prefix), ledger.prefixes_there prefix none)))

turned_one : (x y a b : ℕ) → (x + cond (b == a) 1 0) + y ≡ x + y + cond (a == b) 1 0
turned_one x y a b = grind (arith, nat_tests)

-- one holder less of a number that its holders gave
pub release_holder : {by_number : ℕ → ℕ} {by_prefix : Option Prefix → ℕ} {rows : List IdentityRow} (number : ℕ)
    → Ledger (λ n. by_number n + one_of number n) by_prefix rows → Ledger by_number by_prefix (released number rows)
release_holder {by_number} {by_prefix} {rows} number ledger =
    release_number ledger by_number by_prefix number
    (λ row there. turned_one (by_number row.number) (by_prefix row.prefix) row.number number)
    (λ n. omega arith) (λ own. omega arith)

moved_one : (x now one others : ℕ) (b c : Bool) → b ≡ c → one ≡ cond c 1 0 → x + (now + (one + others)) ≡ x + (now + others) + cond b 1 0
moved_one x now one others b c same is = rw (same, is) (omega arith)

-- one holder less of each prefix
pub release_prefixes : (prefixes : List Prefix) (rows : List IdentityRow) (by_number : ℕ → ℕ) (by_prefix : Option Prefix → ℕ)
    → Ledger by_number (λ own. by_prefix own + times prefixes own) rows → Ledger by_number by_prefix (prefixes_released prefixes rows)
release_prefixes [] rows by_number by_prefix ledger = same_ledger (λ n. refl) (λ own. omega arith) ledger
release_prefixes (prefix ∷ others) rows by_number by_prefix ledger =
    release_prefixes others (prefix_released prefix rows) by_number by_prefix (one (number_of_prefix prefix rows) refl)
  where
    one : (o : Option ℕ) → number_of_prefix prefix rows ≡ o → Ledger by_number (λ own. by_prefix own + times others own) (number_released o rows)
    one None is =
        let nobody = ledger.prefixes_there prefix (number_where-none (λ row. has_prefix prefix row.prefix) rows is) in
        let this = ap {B = ℕ} (λ b. cond b 1 0) (same_prefix-itself prefix) in
        absurd (omega (arith, nobody, times-cons prefix others (Some prefix), this))
    one (Some number) is =
        release_number ledger by_number (λ own. by_prefix own + times others own) number
        (λ row there. rw (times-cons prefix others row.prefix) (moved_one (by_number row.number) (by_prefix row.prefix) _ (times others row.prefix) _ _ (prefix_of_number ledger prefix number is row there) refl))
        (λ n. omega arith)
        (λ own. omega (arith, times-cons prefix others own))

-- each row has a holder, after each of these
more_held : (b : Bool) (h : ℕ) → 0 < h → 0 < cond b (h + 1) h
more_held true h some = omega arith
more_held false h some = some

pub with_holder-held : (number : ℕ) (rows : List IdentityRow) → AllHeld rows → AllHeld (with_holder number rows)
with_holder-held number rows held row there =
    let from = In-recounted number (λ count. count + 1) row rows there in
    subst (λ r. 0 < r.holders) from.2 (more_held ((from.0.number == number) && not (is_reserved number)) from.0.holders (held from.0 from.1))

pub held_or_new-held : (o : Option ℕ) (new : IdentityRow) (rows : List IdentityRow) → 0 < new.holders → AllHeld rows → AllHeld (held_or_new o new rows)
held_or_new-held (Some number) new rows some held row there = with_holder-held number rows held row there
held_or_new-held None new rows some held row there =
    elim (In-placed (λ row. row.number) new row rows there) [
      | inl is ↦ subst (λ r. 0 < r.holders) is some
      | inr old ↦ held row old
    ]

pub prefixes_held-held : (prefixes : List Prefix) (rows : List IdentityRow) → AllHeld rows → AllHeld (prefixes_held prefixes rows)
prefixes_held-held [] rows held = held
prefixes_held-held (prefix ∷ others) rows held =
    prefixes_held-held others (prefix_held prefix rows)
    (held_or_new-held (number_of_prefix prefix rows) (prefix_row prefix (free_number LOCAL_FIRST rows)) rows (omega arith) held)

pub number_released-held : (o : Option ℕ) (rows : List IdentityRow) → AllHeld rows → AllHeld (number_released o rows)
number_released-held None rows held row there = held row there
number_released-held (Some number) rows held row there =
    ltb-true 0 row.holders (In-filter (λ row. nat_lt 0 row.holders) row (map (recounted number (λ count. count - 1)) rows) there).1

pub prefixes_released-held : (prefixes : List Prefix) (rows : List IdentityRow) → AllHeld rows → AllHeld (prefixes_released prefixes rows)
prefixes_released-held [] rows held = held
prefixes_released-held (prefix ∷ others) rows held =
    prefixes_released-held others (prefix_released prefix rows) (number_released-held (number_of_prefix prefix rows) rows held)
