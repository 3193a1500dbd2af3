-- Commits of beginnings of a history, and the states that they make.
use Rattle.std.proofs.Common.{◌≡◌, ℕ, ◌+◌, ◌≤◌, List, ◌++◌, length, take, drop, sym, ap, ◌∙◌, subst, arith, length-append}
use Rattle.std.proofs.Math.Seq.{take-length}
use Rattle.std.proofs.lemmas.List.{take-append-drop, take-append-le, take-take}
use Rattle.std.proofs.lemmas.List.Elements.{filter_map-append}
use Rattle.pol_model.specs.After.{state_of}
use Rattle.pol_model.specs.declared.options.Options.{Options}
use Rattle.pol_model.specs.declared.request.Request.{Request}
use Rattle.pol_history.specs.declared.event.HistoryEvent.{HistoryEvent}
use Rattle.pol_history.specs.Commits.{commits_by, commits_in, request_by, request_in, revision_of, state_after, state_now}

pub commits-append : (front back : List HistoryEvent) → commits_in (front ++ back) ≡ commits_in front ++ commits_in back
commits-append front back = filter_map-append request_in front back

pub commits_by-append : (pass : ℕ) (front back : List HistoryEvent) → commits_by pass (front ++ back) ≡ commits_by pass front ++ commits_by pass back
commits_by-append pass front back = filter_map-append (request_by pass) front back

pub revision-append : (front back : List HistoryEvent) → revision_of (front ++ back) ≡ revision_of front + revision_of back
revision-append front back = ap length (commits-append front back) ∙ length-append (commits_in front) (commits_in back)

-- a beginning has no more commits
pub revision-take : (n : ℕ) (history : List HistoryEvent) → revision_of (take n history) ≤ revision_of history
revision-take n history =
    let parts : revision_of history ≡ revision_of (take n history) + revision_of (drop n history) =
    ap revision_of (sym (take-append-drop n history)) ∙ revision-append (take n history) (drop n history) in
    omega (arith, parts)

pub revision-grows : (m n : ℕ) (history : List HistoryEvent) → m ≤ n → revision_of (take m history) ≤ revision_of (take n history)
revision-grows m n history fewer =
    subst (λ (h : List HistoryEvent). revision_of h ≤ revision_of (take n history)) (take-take m n history fewer) (revision-take m (take n history))

-- ---- states

-- the first commits are those of a beginning that has as many
pub commits-cut : (front back : List HistoryEvent) (revision : ℕ) → revision ≤ revision_of front
    → take revision (commits_in (front ++ back)) ≡ take revision (commits_in front)
commits-cut front back revision within =
    ap (take revision) (commits-append front back) ∙ take-append-le revision (commits_in front) (commits_in back) within

pub state-cut : (options : Options) (front back : List HistoryEvent) (revision : ℕ) → revision ≤ revision_of front
    → state_after options (front ++ back) revision ≡ state_after options front revision
state-cut options front back revision within = ap (λ (requests : List Request). state_of options requests) (commits-cut front back revision within)

pub state-take : (options : Options) (n : ℕ) (history : List HistoryEvent) (revision : ℕ) → revision ≤ revision_of (take n history)
    → state_after options history revision ≡ state_after options (take n history) revision
state-take options n history revision within =
    ap (λ (h : List HistoryEvent). state_after options h revision) (sym (take-append-drop n history))
    ∙ state-cut options (take n history) (drop n history) revision within

-- the state now is that at the newest revision
pub state-now : (options : Options) (history : List HistoryEvent) → state_after options history (revision_of history) ≡ state_now options history
state-now options history = ap (λ (requests : List Request). state_of options requests) (take-length (commits_in history))

-- the state of a beginning is that at its revision
pub state-then : (options : Options) (n : ℕ) (history : List HistoryEvent)
    → state_after options history (revision_of (take n history)) ≡ state_now options (take n history)
state-then options n history =
    state-take options n history (revision_of (take n history)) (omega arith) ∙ state-now options (take n history)
