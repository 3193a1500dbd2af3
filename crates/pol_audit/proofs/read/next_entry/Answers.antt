use Rattle.std.proofs.Common.{◌≡◌, List, ℕ, [], ◌∷◌, ◌++◌, Bor, sym, subst, ◌∙◌}
use Rattle.pol_mapkey.specs.Entries.{Entry}
use Rattle.pol_audit.specs.Tables.{IsTable}
use Rattle.pol_audit.specs.Text.{IsKept, line_of}
use Rattle.pol_audit.proofs.Results.{on_none, on_some}
use Rattle.pol_audit.proofs.Spelled.{line_tells}
use Rattle.pol_audit.proofs.read.next_entry.Goals as goal

pub returns-in-None-clause-none : goal.returns-in-None-clause-none
returns-in-None-clause-none c = λ e behind kept up is. c.in-None.ensures.none e behind kept is

pub returns-in-Some-clause-some : goal.returns-in-Some-clause-some
returns-in-Some-clause-some c =
    on_some c.behind_table.result
    (λ (found : Entry × Bor (List ℕ)). (found.0 ≡ c.in-Some.entry) × (found.1.now ≡ c.in-Some.behind.now))
    (λ (found : Entry × Bor (List ℕ)). c.args.bytes.now ≡ line_of found.0 ++ found.1.now)
    c.behind_table.ensures.some (λ found are. c.in-Some.ensures.some ∙ (λ i. line_of (sym are.0 i) ++ sym are.1 i))

pub returns-in-Some-clause-kept : goal.returns-in-Some-clause-kept
returns-in-Some-clause-kept c =
    on_some c.behind_table.result
    (λ (found : Entry × Bor (List ℕ)). (found.0 ≡ c.in-Some.entry) × (found.1.now ≡ c.in-Some.behind.now))
    (λ (found : Entry × Bor (List ℕ)). IsKept found.0)
    c.behind_table.ensures.some (λ found are. subst IsKept (sym are.0) c.in-Some.ensures.kept)

pub returns-in-Some-clause-table : goal.returns-in-Some-clause-table
returns-in-Some-clause-table c = c.behind_table.ensures.table

pub returns-in-Some-clause-none : goal.returns-in-Some-clause-none
returns-in-Some-clause-none c = on_none c.behind_table.result _ _ c.behind_table.ensures.none (λ none e behind kept up is.
    none (subst (λ x. IsTable (c.args.table.now ++ x ∷ []))
    (line_tells e c.in-Some.entry behind c.in-Some.behind.now kept c.in-Some.ensures.kept (sym is ∙ c.in-Some.ensures.some)).0 up))
