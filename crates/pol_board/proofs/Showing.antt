-- A history with an event more: what it is, what its change tells, and which of its commits are a pass's own.
use Rattle.std.proofs.Common.{◌≡◌, ℕ, List, [], ◌∷◌, ◌++◌, length, Option, None, Some, IfSome, refl, sym, ap, ◌∙◌, subst, arith, length-append, append-nil}
use Rattle.pol_model.specs.declared.options.Options.{Options}
use Rattle.pol_history.specs.declared.event.HistoryEvent.{HistoryEvent}
use Rattle.pol_history.specs.Commits.{commits_by}
use Rattle.pol_history.specs.Grows.{PassGrows, PassGrowsWhole, PassState}
use Rattle.pol_history.specs.Legal.{IsLegal}
use Rattle.pol_history.proofs.Beginnings.{prefix_self}
use Rattle.pol_board_view.specs.declared.change.FaceChange.{FaceChange}
use Rattle.pol_board_view.specs.Changes.{IsChangeOf, Tells}

-- the longer history, where there is one
pub longer_is : (history : List HistoryEvent) (last : HistoryEvent) (longer : Option (List HistoryEvent)) (new : List HistoryEvent)
    → IfSome longer (λ l. l ≡ history ++ last ∷ []) → longer ≡ Some new → new ≡ history ++ last ∷ []
longer_is history last longer new is some = subst (λ (o : Option (List HistoryEvent)). IfSome o (λ l. l ≡ history ++ last ∷ [])) some is

-- lists with one more are the same only where both parts are
pub last_same : {X : Type 0} (xs ys : List X) (x y : X) → xs ++ x ∷ [] ≡ ys ++ y ∷ [] → (xs ≡ ys) × (x ≡ y)
last_same [] [] x y same = (refl, (cc))
last_same [] (z ∷ ys) x y same = absurd (omega (arith, ap length same, length-append ys (y ∷ [])))
last_same (z ∷ xs) [] x y same = absurd (omega (arith, ap length same, length-append xs (x ∷ [])))
last_same (z ∷ xs) (w ∷ ys) x y same =
    let first : z ≡ w = (cc) in
    let rest : xs ++ x ∷ [] ≡ ys ++ y ∷ [] = (cc) in
    let both = last_same xs ys x y rest in
    (ap (λ v. v ∷ xs) first ∙ ap (λ vs. w ∷ vs) both.0, both.1)

-- the change of the event that the history ends with
pub is_change : (options : Options) (new : FaceChange) (history : List HistoryEvent) (last : HistoryEvent) (longer : List HistoryEvent)
    → Tells options history new last → longer ≡ history ++ last ∷ [] → IsChangeOf options new longer
is_change options new history last longer tells is = record {
  tells = λ before other same.
      let both = last_same history before last other (sym is ∙ same) in
      subst (λ (h : List HistoryEvent). Tells options h new other) both.0 (subst (λ (e : HistoryEvent). Tells options history new e) both.1 tells);
}

pub longer-is_change : (options : Options) (new : FaceChange) (history : List HistoryEvent) (last : HistoryEvent) (longer : Option (List HistoryEvent))
    → Tells options history new last → IfSome longer (λ l. l ≡ history ++ last ∷ []) → IfSome longer (λ l. IsChangeOf options new l)
longer-is_change options new history last None tells is = tt
longer-is_change options new history last (Some longer) tells is = is_change options new history last longer tells is

-- a pass that was shown the history has its own commits of it
pub own_shown : (options : Options) (old new : PassState) (history : List HistoryEvent) → PassGrowsWhole options old new [] → new.has.history ≡ history
    → commits_by new.number history ≡ new.has.mine
own_shown options old new history grows all =
    ap (λ (n : ℕ). commits_by n history) grows.number ∙ ap (commits_by old.number) (sym all) ∙ grows.whole.commits

-- a pass grows by nothing
pub grows_nothing : (options : Options) (pass : PassState) → IsLegal options pass.has.history → PassGrows options pass pass []
grows_nothing options pass legal = record {
  number = refl;
  grows = record { goes_on = prefix_self pass.has.history; legal = legal; mine = sym (append-nil pass.has.mine) };
}
