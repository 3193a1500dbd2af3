-- One line more of a text that is read.
use Rattle.std.proofs.Common.{◌≡◌, ℕ, ◌+◌, ◌≤◌, List, [], ◌∷◌, ◌++◌, codes, length, sym, ap, subst, ◌∙◌, inl, inr, append_assoc, length-append, arith}
use Rattle.std.specs.List.Sorted.{IsStrictlySortedBy}
use Rattle.std.proofs.lemmas.Grind.{flat_map-append}
use Rattle.std.proofs.lemmas.List.{append-nil}
use Rattle.std.proofs.lemmas.List.Elements.{Contains-append_cases}
use Rattle.pol_data.proofs.Members.{Contains-cases}
use Rattle.pol_mapkey.specs.Entries.{Entry}
use Rattle.pol_audit.specs.Tables.{IsTable}
use Rattle.pol_audit.specs.Text.{AreKept, IsKept, entry_words, line_of, text_of}

text_push : (table : List Entry) (e : Entry) → text_of (table ++ e ∷ []) ≡ text_of table ++ line_of e
text_push table e = flat_map-append line_of table (e ∷ []) ∙ ap (λ xs. text_of table ++ xs) (append-nil (line_of e))

pub one_read : (text rest behind : List ℕ) (table new : List Entry) (e : Entry) → text ≡ text_of table ++ rest → rest ≡ line_of e ++ behind → new ≡ table ++ e ∷ [] → text ≡ text_of new ++ behind
one_read text rest behind table new e split is made =
    split ∙ ap (λ xs. text_of table ++ xs) is ∙ sym (append_assoc (text_of table) (line_of e) behind) ∙ ap (λ xs. xs ++ behind) (sym (text_push table e) ∙ ap text_of (sym made))

pub one_kept : (table new : List Entry) (e : Entry) → AreKept table → IsKept e → new ≡ table ++ e ∷ [] → AreKept new
one_kept table new e kept own made = subst AreKept (sym made) (λ f there. elim (Contains-append_cases table (e ∷ []) f there) [
  | inl before ↦ kept f before
  | inr last ↦ elim (Contains-cases e [] f last) [
    | inl is ↦ subst IsKept is own
    | inr none ↦ absurd (let below = none.1 in omega arith)
  ]
])

pub one_less : (rest behind : List ℕ) (e : Entry) → rest ≡ line_of e ++ behind → length behind + 1 ≤ length rest
one_less rest behind e is =
    let all = ap length is ∙ length-append (line_of e) behind in
    let own = length-append (entry_words e) (codes "\n") in
    omega arith

-- no entries
pub no_entries_kept : AreKept []
no_entries_kept e there = absurd (let below = there.1 in omega arith)

pub no_entries_are_table : IsTable []
unfolding IsStrictlySortedBy
no_entries_are_table = tt
