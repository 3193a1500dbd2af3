-- The numbers that come as prefixes are held.
use Rattle.std.proofs.Common.{◌≡◌, ℕ, ◌+◌, ◌==◌, ◌&&◌, ◌||◌, Bool, true, false, not, List, [], ◌∷◌, ◌++◌, count_by, nat_lt, Option, None, Some, refl, sym, ap, ◌∙◌}
use Rattle.std.specs.List.{cons_option}
use Rattle.std.proofs.lemmas.List.{append_assoc, append-nil}
use Rattle.pol_addr.specs.declared.network.Prefix.{Prefix}
use Rattle.pol_model.specs.declared.limits.TheConstants.{LOCAL_FIRST}
use Rattle.pol_model.specs.declared.row.IdentityRow.{IdentityRow}
use Rattle.pol_model.specs.Identities.{free_number, held_or_new}
use Rattle.pol_model.specs.Prefixes.{number_of_prefix, prefix_held, prefix_row, prefixes_held}
use Rattle.pol_model.proofs.AscendingStates.{RowsAscend, held_ascend}
use Rattle.pol_model_laws.specs.Holding.{has_row}
use Rattle.pol_model_laws.proofs.Parts.{free_row, part-number, part-prefixes_held}
use Rattle.pol_model_laws.proofs.Rows.{recounted-any}
use Rattle.pol_prefixes.specs.Beyond.{AreBeyond}
use Rattle.pol_prefixes.specs.Coming.{all_coming, coming, unless_there}
use Rattle.pol_prefixes.proofs.Finding.{any-insert}
use Rattle.pol_prefixes.proofs.Has.{has-cons_option, is_some_of, some_of-is}

-- the rows have that number, and those that they had
has_held : (prefix : Prefix) (rows : List IdentityRow) (number : ℕ) → has_row number (prefix_held prefix rows) ≡ (is_some_of number (coming prefix rows) || has_row number rows)
has_held prefix rows number = by (number_of_prefix prefix rows)
  where
    new : IdentityRow
    new = prefix_row prefix (free_number LOCAL_FIRST rows)

    single : (b c : Bool) → (b || c) ≡ ((b || false) || c)
    single true c = refl
    single false c = refl

    by : (o : Option ℕ) → has_row number (held_or_new o new rows) ≡ (is_some_of number (unless_there o (free_number LOCAL_FIRST rows)) || has_row number rows)
    by (Some own) = recounted-any (λ row. row.number == number) (λ row c. refl) own (λ count. count + 1) rows
    by None =
        any-insert (λ row. row.number == number) new (count_by (λ row. nat_lt row.number new.number) rows) rows
        ∙ single (free_number LOCAL_FIRST rows == number) (has_row number rows)

-- and it is new
new_number : (prefix : Prefix) (rows : List IdentityRow) → RowsAscend rows → (number : ℕ) → is_some_of number (coming prefix rows) ≡ true → has_row number rows ≡ false
new_number prefix rows ascend number come = by (number_of_prefix prefix rows) (some_of-is number (coming prefix rows) come)
  where
    by : (o : Option ℕ) → unless_there o (free_number LOCAL_FIRST rows) ≡ Some number → has_row number rows ≡ false
    by (Some own) is = absurd cc
    by None is =
        let free : free_number LOCAL_FIRST rows ≡ number = cc in
        ap (λ n. has_row n rows) (sym free) ∙ free_row LOCAL_FIRST rows ascend

one_more : (come had all : Bool) → (come ≡ true → had ≡ false) → ((come || had) ≡ true → all ≡ true) → (come || (all && not (come || had))) ≡ (all && not had)
one_more true had all new stays = rw (new refl, stays refl) refl
one_more false had all new stays = refl

-- all of them are those beyond the rows of before
pub all_beyond : (prefixes : List Prefix) (rows : List IdentityRow) → RowsAscend rows → AreBeyond rows (prefixes_held prefixes rows) (all_coming prefixes rows)
all_beyond [] rows ascend number = none (has_row number rows)
  where
    none : (b : Bool) → false ≡ (b && not b)
    none true = refl
    none false = refl
all_beyond (prefix ∷ others) rows ascend number =
    let held = prefix_held prefix rows in
    let ascend_held = held_ascend (number_of_prefix prefix rows) (prefix_row prefix (free_number LOCAL_FIRST rows)) LOCAL_FIRST rows refl ascend in
    let all = has_row number (prefixes_held others held) in
    let is = has_held prefix rows number in
    has-cons_option number (coming prefix rows) (all_coming others held)
    ∙ ap (λ b. is_some_of number (coming prefix rows) || b) (all_beyond others held ascend_held number ∙ ap (λ b. all && not b) is)
    ∙ one_more (is_some_of number (coming prefix rows)) (has_row number rows) all
    (new_number prefix rows ascend number)
    (λ some. part-number held (prefixes_held others held) (part-prefixes_held others held ascend_held) number (is ∙ some))

-- one prefix more is held: what came so far and what is to come are all
pub come_more : (prefix : Prefix) (others : List Prefix) (rows : List IdentityRow) (come now all : List ℕ) → now ≡ come ++ cons_option (coming prefix rows) []
    → come ++ all_coming (prefix ∷ others) rows ≡ all → now ++ all_coming others (prefix_held prefix rows) ≡ all
come_more prefix others rows come now all is sum =
    ap (λ items. items ++ all_coming others (prefix_held prefix rows)) is
    ∙ by (coming prefix rows) (all_coming others (prefix_held prefix rows))
    ∙ sum
  where
    by : (o : Option ℕ) (rest : List ℕ) → (come ++ cons_option o []) ++ rest ≡ come ++ cons_option o rest
    by None rest = ap (λ items. items ++ rest) (append-nil come)
    by (Some number) rest = append_assoc come (number ∷ []) rest
