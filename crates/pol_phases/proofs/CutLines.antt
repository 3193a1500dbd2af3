-- One line more of a script that is being cut.
use Rattle.std.proofs.Common.{zero, suc, ◌≡◌, ℕ, ◌≤◌, List, [], ◌∷◌, ◌++◌, length, map, get_or, set, ◌-◌, ◌<◌, replicate, Option, None, Some, Result, Ok, Err, OnOk, refl, sym, ap, ◌∙◌, arith}
use Rattle.std.specs.List.{AllByRecursion}
use Rattle.std.proofs.lemmas.List.{length-replicate, map-append}
use Rattle.pol_script.specs.declared.command.Command.{Command}
use Rattle.pol_script.specs.declared.line_fault.LineFault.{LineFault}
use Rattle.pol_run.specs.Spots.{Reading, session_of}
use Rattle.pol_run_laws.specs.Cut.{change_at, change_last, change_session, command_behind, list_at, script_of, session_at, with_command}
use Rattle.pol_run_laws.proofs.OneMore.{fault_more, line_more}
use Rattle.pol_phases.specs.declared.mark.Mark.{Mark}
use Rattle.pol_phases.specs.declared.mark.Mark.TheVariants as mark
use Rattle.pol_phases.specs.Marks.{IsCut, mark_for, mark_of}

pub faulty-more : (n : ℕ) (lines : List Reading) (fault : LineFault) (ended : List (List (List Command))) (current : List (List Command)) (marks more : List Mark)
    → more ≡ marks ++ mark.Faulty fault ∷ [] → IsCut n lines ended current marks → IsCut n (lines ++ Err fault ∷ []) ended current more
faulty-more n lines fault ended current marks more is so_far = record {
  phases = so_far.phases ∙ sym (fault_more n lines fault);
  marked = is ∙ ap (λ (ms : List Mark). ms ++ mark.Faulty fault ∷ []) so_far.marked ∙ sym (map-append mark_of lines (Err fault ∷ []));
}

pub command-more : (n : ℕ) (lines : List Reading) (c : Command) (session : Option ℕ) (ended later : List (List (List Command))) (current next : List (List Command)) (marks more : List Mark)
    → session ≡ session_of (Ok c) → later ++ next ∷ [] ≡ command_behind n c session (ended ++ current ∷ []) → more ≡ marks ++ mark_for session ∷ []
    → IsCut n lines ended current marks → IsCut n (lines ++ Ok c ∷ []) later next more
command-more n lines c session ended later current next marks more of behind is so_far = record {
  phases = behind ∙ ap (λ (phases : List (List (List Command))). command_behind n c session phases) so_far.phases
      ∙ ap (λ (s : Option ℕ). command_behind n c s (script_of n lines)) of ∙ sym (line_more n lines c);
  marked = is ∙ ap (λ (ms : List Mark). ms ++ mark_for session ∷ []) so_far.marked ∙ ap (λ (s : Option ℕ). map mark_of lines ++ mark_for s ∷ []) of
      ∙ sym (map-append mark_of lines (Ok c ∷ []));
}

-- the last phase, behind those that have ended
pub change_last-behind : {X : Type 0} (change : List (List X) → List (List X)) (ended : List (List (List X))) (current : List (List X))
    → change_last change (ended ++ current ∷ []) ≡ ended ++ change current ∷ []
change_last-behind change [] current = refl
change_last-behind change (first ∷ []) current = refl
change_last-behind change (first ∷ next ∷ ended) current = ap (λ phases. first ∷ phases) (change_last-behind change (next ∷ ended) current)

-- ---- the list of a session, where sessions are numbered from 1

set-changes : {X : Type 0} (i : ℕ) (change : List X → List X) (lists : List (List X)) (own new : List X) → i < length lists → own ≡ get_or lists i own → new ≡ change own
    → set lists i new ≡ change_at i change lists
set-changes i change [] own new less at made = absurd (omega (arith, less))
set-changes zero change (xs ∷ others) own new less at made = ap (λ ys. ys ∷ others) (made ∙ ap change at)
set-changes (suc i) change (xs ∷ others) own new less at made = ap (λ lists. xs ∷ lists) (set-changes i change others own new (omega (arith, less)) at made)

change_at-past : {X : Type 0} (i : ℕ) (change : List X → List X) (lists : List (List X)) → length lists ≤ i → change_at i change lists ≡ lists
change_at-past i change [] past = refl
change_at-past zero change (xs ∷ others) past = absurd (omega (arith, past))
change_at-past (suc i) change (xs ∷ others) past = ap (λ lists. xs ∷ lists) (change_at-past i change others (omega (arith, past)))

list_at-get : {X : Type 0} (i : ℕ) (lists : List (List X)) (own : List X) → i < length lists → own ≡ get_or lists i own → list_at lists i ≡ own
list_at-get i [] own less at = absurd (omega (arith, less))
list_at-get zero (xs ∷ others) own less at = sym at
list_at-get (suc i) (xs ∷ others) own less at = list_at-get i others own (omega (arith, less)) at

list_at-past : {X : Type 0} (i : ℕ) (lists : List (List X)) → length lists ≤ i → list_at lists i ≡ []
list_at-past i [] past = refl
list_at-past zero (xs ∷ others) past = absurd (omega (arith, past))
list_at-past (suc i) (xs ∷ others) past = list_at-past i others (omega (arith, past))

pub session-changed : {X : Type 0} (session place : ℕ) (change : List X → List X) (lists : List (List X)) (own new : List X) → (session ≡ 0 → ⊥) → place ≡ session - 1
    → place < length lists → own ≡ get_or lists place own → new ≡ change own → set lists place new ≡ change_session session change lists
session-changed zero place change lists own new some is less at made = absurd (some refl)
session-changed (suc i) place change lists own new some is less at made =
    let same : place ≡ i = omega (arith, is) in
    set-changes place change lists own new less at made ∙ ap (λ (k : ℕ). change_at k change lists) same

pub session-past : {X : Type 0} (session place : ℕ) (change : List X → List X) (lists : List (List X)) → (session ≡ 0 → ⊥) → place ≡ session - 1 → length lists ≤ place
    → change_session session change lists ≡ lists
session-past zero place change lists some is past = absurd (some refl)
session-past (suc i) place change lists some is past = change_at-past i change lists (omega (arith, is, past))

pub session-there : {X : Type 0} (session place : ℕ) (lists : List (List X)) (own : List X) → (session ≡ 0 → ⊥) → place ≡ session - 1 → place < length lists
    → own ≡ get_or lists place own → session_at lists session ≡ own
session-there zero place lists own some is less at = absurd (some refl)
session-there (suc i) place lists own some is less at =
    let same : i ≡ place = omega (arith, is) in ap (λ (k : ℕ). list_at lists k) same ∙ list_at-get place lists own less at

pub session-none : {X : Type 0} (session place : ℕ) (lists : List (List X)) → (session ≡ 0 → ⊥) → place ≡ session - 1 → length lists ≤ place → session_at lists session ≡ []
session-none zero place lists some is past = absurd (some refl)
session-none (suc i) place lists some is past = list_at-past i lists (omega (arith, is, past))

pub on_ok : {A E : Type 0} (P Q : Type 0) (r : Result A E) → (P → Q) → OnOk r P → OnOk r Q
on_ok P Q (Ok x) step holds = step holds
on_ok P Q (Err e) step holds = tt

-- a `phase` line
pub phase-more : (n : ℕ) (lines : List Reading) (c : Command) (ended later : List (List (List Command))) (last current next : List (List Command)) (marks more : List Mark)
    → None ≡ session_of (Ok c) → later ≡ ended ++ last ∷ [] → last ≡ current → next ≡ replicate n [] → more ≡ marks ++ mark.Phase ∷ []
    → IsCut n lines ended current marks → IsCut n (lines ++ Ok c ∷ []) later next more
phase-more n lines c ended later last current next marks more of ends same begins is so_far =
    let behind : later ++ next ∷ [] ≡ (ended ++ current ∷ []) ++ replicate n [] ∷ [] =
    ap (λ (phases : List (List (List Command))). phases ++ next ∷ []) (ends ∙ ap (λ (phase : List (List Command)). ended ++ phase ∷ []) same)
    ∙ ap (λ (phase : List (List Command)). (ended ++ current ∷ []) ++ phase ∷ []) begins in
    command-more n lines c None ended later current next marks more of behind is so_far

-- a command of a session
pub own-more : (n : ℕ) (lines : List Reading) (c : Command) (session : ℕ) (ended : List (List (List Command))) (current next : List (List Command)) (marks more : List Mark)
    → Some session ≡ session_of (Ok c) → next ≡ change_session session (λ commands. commands ++ c ∷ []) current → more ≡ marks ++ mark.Of session ∷ []
    → IsCut n lines ended current marks → IsCut n (lines ++ Ok c ∷ []) ended next more
own-more n lines c session ended current next marks more of changed is so_far =
    let behind : ended ++ next ∷ [] ≡ command_behind n c (Some session) (ended ++ current ∷ []) =
    ap (λ (phase : List (List Command)). ended ++ phase ∷ []) changed ∙ sym (change_last-behind (change_session session (λ commands. commands ++ c ∷ [])) ended current) in
    command-more n lines c (Some session) ended ended current next marks more of behind is so_far

-- ---- how many lists a phase has

change_at-length : {X : Type 0} (i : ℕ) (change : List X → List X) (lists : List (List X)) → length (change_at i change lists) ≡ length lists
change_at-length i change [] = refl
change_at-length zero change (xs ∷ others) = refl
change_at-length (suc i) change (xs ∷ others) = ap (λ (n : ℕ). suc n) (change_at-length i change others)

session-length : {X : Type 0} (session : ℕ) (change : List X → List X) (lists : List (List X)) → length (change_session session change lists) ≡ length lists
session-length zero change lists = refl
session-length (suc i) change lists = change_at-length i change lists

each_with : (n : ℕ) (c : Command) (session : Option ℕ) (phases : List (List (List Command))) → AllByRecursion (λ lines. length lines ≡ n) phases
    → AllByRecursion (λ lines. length lines ≡ n) (with_command n c session phases)
each_with n c None phases all = (length-replicate n [], all)
each_with n c (Some session) [] all = tt
each_with n c (Some session) (first ∷ later) all = (session-length session (λ commands. c ∷ commands) first ∙ all.0, all.1)

-- each phase of a script has one for every session
pub phases_each : (n : ℕ) (lines : List Reading) → AllByRecursion (λ lines. length lines ≡ n) (script_of n lines)
phases_each n [] = (length-replicate n [], tt)
phases_each n (Err fault ∷ lines) = phases_each n lines
phases_each n (Ok c ∷ lines) = each_with n c (session_of (Ok c)) (script_of n lines) (phases_each n lines)
