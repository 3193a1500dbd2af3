-- The writer's count of each pass's commits.
use Rattle.std.proofs.Common.{◌≡◌, ℕ, zero, suc, refl, ◌+◌, ◌<◌, List, [], ◌∷◌, ◌++◌, length, slice_index, slice_set, replicate, sym, ap, subst, ◌∙◌, arith, length-append}
use mathlib.Core.Logic.{dite}
use native.Mathlib.Decide.{ℕ_discrete}
use Rattle.std.proofs.lemmas.List.{get_or-set_same, get_or-set_other, length-set}
use Rattle.pol_mapkey.specs.Entries.{Entry as MapEntry}
use Rattle.pol_model.specs.declared.request.Request.{Request}
use Rattle.pol_history.specs.declared.event.EndpointId.{EndpointId}
use Rattle.pol_history.specs.declared.event.HistoryEvent.{HistoryEvent}
use Rattle.pol_history.specs.declared.event.HistoryEvent.TheVariants as event
use Rattle.pol_history.specs.Commits.{commits_by}
use Rattle.pol_history.specs.Grows.{PassState, nothing_yet}
use Rattle.pol_history.proofs.Own.{own-blocked, own-commit, own-of-another, own-publish}
use Rattle.pol_board.specs.Counts.{Counted, new_passes}

pub counted-publish : (endpoint : EndpointId) (revision : ℕ) (table : List MapEntry) (history : List HistoryEvent) (counts : List ℕ) → Counted counts history
    → Counted counts (history ++ event.Publish endpoint revision table ∷ [])
counted-publish endpoint revision table history counts counted =
    record { each = λ pass below. counted.each pass below ∙ ap length (sym (own-publish pass endpoint revision table history)) }

pub counted-blocked : (endpoint : EndpointId) (revision count : ℕ) (history : List HistoryEvent) (counts : List ℕ) → Counted counts history
    → Counted counts (history ++ event.Blocked endpoint revision count ∷ [])
counted-blocked endpoint revision count history counts counted =
    record { each = λ pass below. counted.each pass below ∙ ap length (sym (own-blocked pass endpoint revision count history)) }

counted_at : (of number : ℕ) (request : Request) (history : List HistoryEvent) (counts : List ℕ) (value : ℕ) → of < length counts → Counted counts history
    → value ≡ slice_index counts of + 1 → (pass : ℕ) → pass < length (slice_set counts of value)
    → slice_index (slice_set counts of value) pass ≡ length (commits_by pass (history ++ event.Commit of number request ∷ []))
counted_at of number request history counts value low counted is pass below =
    let long : length (slice_set counts of value) ≡ length counts = length-set counts of value in
    dite (ℕ_discrete pass of)
    (λ (same : pass ≡ of).
    let one : length (commits_by of (history ++ event.Commit of number request ∷ [])) ≡ length (commits_by of history) + 1 =
    ap length (own-commit of number request history) ∙ length-append (commits_by of history) (request ∷ []) in
    let here : slice_index (slice_set counts of value) of ≡ value = get_or-set_same counts of value 0 low in
    let was = counted.each of low in
    subst (λ (p : ℕ). slice_index (slice_set counts of value) p ≡ length (commits_by p (history ++ event.Commit of number request ∷ []))) (sym same)
    (omega (arith, one, here, was, is)))
    (λ apart.
    let other = ap length (own-of-another pass of number request history apart) in
    get_or-set_other counts of pass value 0 apart ∙ (counted.each pass (omega (arith, long, below)) ∙ sym other))

pub counted-commit : (of number : ℕ) (request : Request) (history : List HistoryEvent) (counts : List ℕ) (value : ℕ) → of < length counts → Counted counts history
    → value ≡ slice_index counts of + 1 → Counted (slice_set counts of value) (history ++ event.Commit of number request ∷ [])
counted-commit of number request history counts value low counted is = record { each = counted_at of number request history counts value low counted is }

-- ---- an empty board

zero_at : (n place : ℕ) → slice_index (replicate n 0) place ≡ 0
zero_at zero place = refl
zero_at (suc n) zero = refl
zero_at (suc n) (suc place) = zero_at n place

pub none_counted : (places : ℕ) (counts : List ℕ) (history : List HistoryEvent) → counts ≡ replicate places 0 → history ≡ [] → Counted counts history
none_counted places counts history zeros nothing = record {
  each = λ pass below.
      ap (λ (all : List ℕ). slice_index all pass) zeros ∙ zero_at places pass ∙ ap (λ (h : List HistoryEvent). length (commits_by pass h)) (sym nothing);
}

pub one_pass_more : (number : ℕ) (passes : List PassState) (new : PassState) → passes ≡ new_passes number → new ≡ record { number = number; has = nothing_yet }
    → passes ++ new ∷ [] ≡ new_passes (number + 1)
one_pass_more number passes new all is =
    let next : suc number ≡ number + 1 = omega arith in
    ap (λ (ps : List PassState). ps ++ new ∷ []) all ∙ ap (λ (p : PassState). new_passes number ++ p ∷ []) is ∙ ap new_passes next
