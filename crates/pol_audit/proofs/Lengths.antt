-- How many newline bytes the text of a table has.
use Rattle.std.proofs.Common.{◌≡◌, ℕ, suc, ◌+◌, ◌==◌, Bool, cond, List, [], ◌∷◌, codes, count_by, length, refl, ap, ◌∙◌, arith}
use Rattle.std.proofs.lemmas.Bool.{ne_eqb}
use Rattle.std.proofs.lemmas.List.Sums.{sum_by-append}
use Rattle.pol_data.proofs.Counts.{count_by-cons}
use Rattle.pol_data.proofs.Members.{Contains-here, Contains-later}
use Rattle.pol_mapkey.specs.Entries.{Entry}
use Rattle.pol_audit.specs.Text.{AreKept, IsKept, Lacks, entry_words, line_of, text_of}
use Rattle.pol_audit.proofs.Spelled.{words_lack_newline}

abbrev is_newline : ℕ → Bool
is_newline byte = byte == 10

abbrev one_if : ℕ → ℕ
one_if byte = cond (is_newline byte) 1 0

none_counted : (xs : List ℕ) → Lacks 10 xs → count_by is_newline xs ≡ 0
none_counted [] lacks = refl
none_counted (x ∷ xs) lacks =
    let here = count_by-cons is_newline x xs ∙ ap (λ b. cond b 1 0 + count_by is_newline xs) (ne_eqb x 10 (lacks 0 0 (omega arith))) in
    let rest = none_counted xs (λ i d below. lacks (suc i) d (omega arith)) in
    omega arith

line_counted : (e : Entry) → IsKept e → count_by is_newline (line_of e) ≡ 1
line_counted e kept =
    let all = sum_by-append one_if (entry_words e) (codes "\n") in
    let none = none_counted (entry_words e) (words_lack_newline e kept) in
    let one : count_by is_newline (codes "\n") ≡ 1 = refl in
    omega arith

pub lines_counted : (table : List Entry) → AreKept table → count_by (λ byte. byte == 10) (text_of table) ≡ length table
lines_counted [] kept = refl
lines_counted (e ∷ table) kept =
    let all = sum_by-append one_if (line_of e) (text_of table) in
    let one = line_counted e (kept e (Contains-here e table)) in
    let rest = lines_counted table (λ f there. kept f (Contains-later e table f there)) in
    omega arith
