use Rattle.std.proofs.Common.{◌≡◌, List, ℕ, ◌∷◌, ◌++◌, codes, Bor, sym, ◌∙◌, append_assoc}
use Rattle.pol_mapkey.specs.Entries.{Entry}
use Rattle.pol_audit.specs.Text.{entry_words, line_of}
use Rattle.pol_audit.proofs.Results.{on_none, on_some}
use Rattle.pol_audit.proofs.Spelled.{cut_tells, no_line, words_lack_newline}
use Rattle.pol_audit.proofs.line.first_entry.Goals as goal

pub returns-in-None-clause-none : goal.returns-in-None-clause-none
returns-in-None-clause-none c = λ e behind kept is. no_line e c.args.bytes.now behind c.in-None.ensures.none is

pub returns-in-Some-clause-some : goal.returns-in-Some-clause-some
returns-in-Some-clause-some c =
    on_some c.entry_before.result
    (λ (found : Entry × Bor (List ℕ)). (c.in-Some.line.now ≡ entry_words found.0) × (found.1.now ≡ c.in-Some.behind.now))
    (λ (found : Entry × Bor (List ℕ)). c.args.bytes.now ≡ line_of found.0 ++ found.1.now)
    c.entry_before.ensures.some (λ found are.
    c.in-Some.ensures.some ∙ (λ i. are.0 i ++ 10 ∷ sym are.1 i) ∙ sym (append_assoc (entry_words found.0) (codes "\n") found.1.now))

pub returns-in-Some-clause-kept : goal.returns-in-Some-clause-kept
returns-in-Some-clause-kept c = c.entry_before.ensures.kept

pub returns-in-Some-clause-none : goal.returns-in-Some-clause-none
returns-in-Some-clause-none c = on_none c.entry_before.result _ _ c.entry_before.ensures.none (λ none e behind kept is.
    none e kept (cut_tells 10 c.in-Some.line.now c.in-Some.behind.now (entry_words e) behind c.in-Some.ensures.one (words_lack_newline e kept)
    (sym c.in-Some.ensures.some ∙ is ∙ append_assoc (entry_words e) (codes "\n") behind)).0)
