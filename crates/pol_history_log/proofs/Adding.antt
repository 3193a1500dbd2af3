-- The exchange that adds an event keeps the rule.
use Rattle.std.proofs.Common.{◌≡◌, ℕ, ◌+◌, ◌<◌, ◌==◌, Bool, true, false, List, [], ◌∷◌, ◌++◌, length, refl, ap, sym, subst, arith, inl, length-append, append-nil, None}
use Rattle.std.proofs.lemmas.Bool.Decides.{nat_tests}
use mathlib.Core.List.{IsPrefix}
use prog.Atomic.{either}
use Rattle.logbook.specs.Pages.{Cell, Goes, Moves, cell, keeps, no_nib, step}
use Rattle.pol_history.specs.declared.event.HistoryEvent.{HistoryEvent}
use Rattle.pol_history.proofs.Beginnings.{prefix_whole}
use Rattle.pol_history_log.specs.Rules.{Adds, IsCounted}

abbrev pub shown : List HistoryEvent → List HistoryEvent
shown log = []

abbrev pub moved : List HistoryEvent → List HistoryEvent → ℕ → Type 0
moved before after answer = Unit {0}

adds_goes : (log seen : List HistoryEvent) (new : HistoryEvent) (old : ℕ) → length seen ≡ old → IsPrefix seen log
    → (test : Bool) → (length log == old) ≡ test
    → Goes IsCounted shown moved 0 (seen, (no_nib, None)) (λ n. either (n == old) (old + 1) n) (Adds (step 0 old (old + 1) new) (seen, (no_nib, None))) ((length log, true) ∷ (0, true) ∷ []) log
adds_goes log seen new old long begins true is =
    let here : length log ≡ old = grind (arith, nat_tests) in
    let same : seen ≡ log = prefix_whole seen log begins (omega arith) in
    let n : either (length log == old) (old + 1) (length log) ≡ length (log ++ new ∷ []) = rw is (omega (arith, length-append log (new ∷ []))) in (
      keeps,
      new ∷ [],
      None,
      tt,
      record { words = ap (λ (k : ℕ). (k, true) ∷ (0, true) ∷ []) n },
      inl (refl, refl),
      rw is (ap (λ (h : List HistoryEvent). h ++ new ∷ []) (sym same)),
    )
adds_goes log seen new old long begins false is =
    let n : either (length log == old) (old + 1) (length log) ≡ length (log ++ []) = rw is (ap length (sym (append-nil log))) in (
      keeps,
      [],
      None,
      tt,
      record { words = ap (λ (k : ℕ). (k, true) ∷ (0, true) ∷ []) n },
      inl (refl, refl),
      rw is tt,
    )

-- whatever the book is, the exchange adds the event to all that was seen, or finds that the history is longer
pub adds_moves : (seen : List HistoryEvent) (new : HistoryEvent) (old : ℕ) → length seen ≡ old
    → Moves IsCounted shown moved 0 (seen, (no_nib, None)) (λ n. either (n == old) (old + 1) n) (Adds (step 0 old (old + 1) new) (seen, (no_nib, None)))
adds_moves seen new old long cells log kept begins away =
    let P : List Cell → Type 0 = λ c. (0 < length c) × ((cell c 0).1 ≡ true) × Goes IsCounted shown moved 0 (seen, (no_nib, None)) (λ n. either (n == old) (old + 1) n) (Adds (step 0 old (old + 1) new) (seen, (no_nib, None))) c log in
    subst P (sym kept.words) (omega arith, refl, adds_goes log seen new old long begins (length log == old) refl)
