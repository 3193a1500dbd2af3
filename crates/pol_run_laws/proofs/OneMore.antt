-- One more: a session beside those that played a phase, a phase behind those that were played, a line behind a script.
use Rattle.std.proofs.Common.{zero, suc, ◌≡◌, ℕ, List, [], ◌∷◌, ◌++◌, length, drop, get_or, map, replicate, Option, None, Some, Ok, Err, refl, sym, ap, ◌∙◌, subst, append-nil, arith}
use mathlib.Core.List.{IsPrefix}
use Rattle.pol_model.specs.declared.options.Options.{Options}
use Rattle.pol_model.specs.declared.request.Request.{Request}
use Rattle.pol_answer.specs.declared.answer.Answer.{Answer}
use Rattle.pol_script.specs.declared.command.Command.{Command}
use Rattle.pol_script.specs.declared.line_fault.LineFault.{LineFault}
use Rattle.pol_run.specs.Spots.{Reading, session_of}
use Rattle.pol_history.specs.declared.event.HistoryEvent.{HistoryEvent}
use Rattle.pol_history.specs.Commits.{commits_by}
use Rattle.pol_history.specs.Grows.{Grows, PassState}
use Rattle.pol_history.specs.Meet.{AreShown, HaveMet, IsShown, meetings_of}
use Rattle.pol_history.proofs.Looks.{views_grow}
use Rattle.pol_run_laws.specs.Cut.{change_at, change_first, change_last, change_session, command_behind, script_of, with_command}
use Rattle.pol_run_laws.specs.Seats.{ArePhases, HasGoneOn, HasPlayed, HaveGoneOn, HavePlayed, IsPhase}

-- ---- sessions and phases

pub session_more : (options : Options) (olds : List PassState) (commands : List (List Command)) (told : List (List Answer)) (news : List PassState)
    (old : PassState) (cs : List Command) (answers : List Answer) (new : PassState)
    → HaveGoneOn options olds commands told news → HasGoneOn options old cs answers new
    → HaveGoneOn options (olds ++ old ∷ []) (commands ++ cs ∷ []) (told ++ answers ∷ []) (news ++ new ∷ [])
session_more options [] [] [] [] old cs answers new each one = (one, tt)
session_more options (o ∷ olds) (c ∷ commands) (t ∷ told) (n ∷ news) old cs answers new each one =
    (each.0, session_more options olds commands told news old cs answers new each.1 one)
session_more options [] (c ∷ commands) told news old cs answers new each one = absurd each
session_more options [] [] (t ∷ told) news old cs answers new each one = absurd each
session_more options [] [] [] (n ∷ news) old cs answers new each one = absurd each
session_more options (o ∷ olds) [] told news old cs answers new each one = absurd each
session_more options (o ∷ olds) (c ∷ commands) [] news old cs answers new each one = absurd each
session_more options (o ∷ olds) (c ∷ commands) (t ∷ told) [] old cs answers new each one = absurd each

pub phase_more : (options : Options) (handed_out : List ℕ) (olds : List PassState) (commands : List (List (List Command))) (told : List (List (List Answer))) (then news : List PassState)
    (cs : List (List Command)) (answers : List (List Answer)) → ArePhases options handed_out olds commands told then → IsPhase options handed_out then cs answers news
    → ArePhases options handed_out olds (commands ++ cs ∷ []) (told ++ answers ∷ []) news
phase_more options handed_out olds [] [] then news cs answers phases one =
    (news, subst (λ (seats : List PassState). IsPhase options handed_out seats cs answers news) (sym phases) one, refl)
phase_more options handed_out olds (c ∷ commands) (t ∷ told) then news cs answers phases one =
    (phases.0, phases.1, phase_more options handed_out phases.0 commands told then news cs answers phases.2 one)
phase_more options handed_out olds [] (t ∷ told) then news cs answers phases one = absurd phases
phase_more options handed_out olds (c ∷ commands) [] then news cs answers phases one = absurd phases

-- a session that played, and whose pass was then shown the history at which all meet
played_and_met : (options : Options) (history : List HistoryEvent) (old then new : PassState) (commands : List Command) (answers : List Answer)
    → HasGoneOn options old commands answers then → new.number ≡ then.number → IsShown options history then.number then.has new.has
    → HasPlayed options history old commands answers new
played_and_met options history old then new commands answers went number shown = record {
  number = number ∙ went.number;
  own = went.own;
  ends = then.has.history;
  played = went.played;
  meets = subst (λ (h : List HistoryEvent). IsPrefix then.has.history h) shown.all shown.grows.grows.goes_on;
  grows = record {
    grows = subst (λ (requests : List Request). Grows options old.has new.has requests) (append-nil went.own)
        (views_grow options old.has then.has new.has went.own [] went.grows shown.grows.grows);
    commits = ap (λ (pass : ℕ). commits_by pass new.has.history) (sym went.number) ∙ shown.grows.commits;
  };
  all = shown.all;
}

pub all_met : (options : Options) (history : List HistoryEvent) (olds : List PassState) (commands : List (List Command)) (told : List (List Answer)) (thens news : List PassState)
    → HaveGoneOn options olds commands told thens → map (λ (pass : PassState). pass.number) news ≡ map (λ (pass : PassState). pass.number) thens
    → AreShown options history (meetings_of thens news) → HavePlayed options history olds commands told news
all_met options history [] [] [] [] [] went numbers shown = tt
all_met options history [] [] [] [] (new ∷ news) went numbers shown = absurd (omega (arith, ap (λ (ns : List ℕ). length ns) numbers))
all_met options history (old ∷ olds) (cs ∷ commands) (answers ∷ told) (then ∷ thens) [] went numbers shown = absurd (omega (arith, ap (λ (ns : List ℕ). length ns) numbers))
all_met options history (old ∷ olds) (cs ∷ commands) (answers ∷ told) (then ∷ thens) (new ∷ news) went numbers shown = (
  played_and_met options history old then new cs answers went.0 (ap (λ (ns : List ℕ). get_or ns 0 0) numbers) shown.0,
  all_met options history olds commands told thens news went.1 (ap (λ (ns : List ℕ). drop 1 ns) numbers) shown.1,
)
all_met options history [] (cs ∷ commands) told thens news went numbers shown = absurd went
all_met options history [] [] (answers ∷ told) thens news went numbers shown = absurd went
all_met options history [] [] [] (then ∷ thens) news went numbers shown = absurd went
all_met options history (old ∷ olds) [] told thens news went numbers shown = absurd went
all_met options history (old ∷ olds) (cs ∷ commands) [] thens news went numbers shown = absurd went
all_met options history (old ∷ olds) (cs ∷ commands) (answers ∷ told) [] news went numbers shown = absurd went

-- sessions that went on, and whose passes then met, played a phase
pub phase_of : (options : Options) (handed_out : List ℕ) (olds : List PassState) (commands : List (List Command)) (told : List (List Answer)) (thens news : List PassState)
    → HaveGoneOn options olds commands told thens → map (λ (pass : PassState). pass.number) news ≡ map (λ (pass : PassState). pass.number) thens
    → HaveMet options handed_out (meetings_of thens news) → IsPhase options handed_out olds commands told news
phase_of options handed_out olds commands told thens news went numbers met = record {
  history = met.history;
  commits = met.commits;
  each = all_met options met.history olds commands told thens news went numbers met.shown;
}

-- ---- lines

module _ {X : Type 0} (x y : X) where
  both_at : (i j : ℕ) (lists : List (List X))
      → change_at i (λ (xs : List X). xs ++ y ∷ []) (change_at j (λ (xs : List X). x ∷ xs) lists) ≡ change_at j (λ (xs : List X). x ∷ xs) (change_at i (λ (xs : List X). xs ++ y ∷ []) lists)
  both_at i j [] = refl
  both_at zero zero (xs ∷ others) = refl
  both_at zero (suc j) (xs ∷ others) = refl
  both_at (suc i) zero (xs ∷ others) = refl
  both_at (suc i) (suc j) (xs ∷ others) = ap (λ (ls : List (List X)). xs ∷ ls) (both_at i j others)

  both_sessions : (s t : ℕ) (lists : List (List X))
      → change_session s (λ (xs : List X). xs ++ y ∷ []) (change_session t (λ (xs : List X). x ∷ xs) lists) ≡ change_session t (λ (xs : List X). x ∷ xs) (change_session s (λ (xs : List X). xs ++ y ∷ []) lists)
  both_sessions zero t lists = refl
  both_sessions (suc i) zero lists = refl
  both_sessions (suc i) (suc j) lists = both_at i j lists

  first_and_last : (s t : ℕ) (phases : List (List (List X)))
      → change_last (change_session s (λ (xs : List X). xs ++ y ∷ [])) (change_first (change_session t (λ (xs : List X). x ∷ xs)) phases)
      ≡ change_first (change_session t (λ (xs : List X). x ∷ xs)) (change_last (change_session s (λ (xs : List X). xs ++ y ∷ [])) phases)
  first_and_last s t [] = refl
  first_and_last s t (first ∷ []) = ap (λ (ls : List (List X)). ls ∷ []) (both_sessions s t first)
  first_and_last s t (first ∷ next ∷ later) = refl

module _ {X : Type 0} (f g : List X → List X) (same : f [] ≡ g []) where
  empty_at : (n i : ℕ) → change_at i f (replicate n []) ≡ change_at i g (replicate n [])
  empty_at zero i = refl
  empty_at (suc n) zero = ap (λ (xs : List X). xs ∷ replicate n []) same
  empty_at (suc n) (suc i) = ap (λ (ls : List (List X)). [] ∷ ls) (empty_at n i)

  empty_session : (n session : ℕ) → change_session session f (replicate n []) ≡ change_session session g (replicate n [])
  empty_session n zero = refl
  empty_session n (suc i) = empty_at n i

-- a script has a phase
record HasPhase (phases : List (List (List Command))) : Type 0 where
  pub first : List (List Command)
  pub later : List (List (List Command))
  pub is : phases ≡ first ∷ later

has_command : (n : ℕ) (c : Command) (o : Option ℕ) (phases : List (List (List Command))) → HasPhase phases → HasPhase (with_command n c o phases)
has_command n c None phases has = record { first = replicate n []; later = phases; is = refl }
has_command n c (Some session) phases has = record {
  first = change_session session (λ (cs : List Command). c ∷ cs) has.first;
  later = has.later;
  is = ap (λ (ps : List (List (List Command))). change_first (change_session session (λ (cs : List Command). c ∷ cs)) ps) has.is;
}

has_phase : (n : ℕ) (lines : List Reading) → HasPhase (script_of n lines)
has_phase n [] = record { first = replicate n []; later = []; is = refl }
has_phase n (Err fault ∷ lines) = has_phase n lines
has_phase n (Ok c ∷ lines) = has_command n c (session_of (Ok c)) (script_of n lines) (has_phase n lines)

-- a command in front and one behind
both_ends : (n : ℕ) (c last : Command) (o p : Option ℕ) (phases : List (List (List Command))) → HasPhase phases
    → with_command n c o (command_behind n last p phases) ≡ command_behind n last p (with_command n c o phases)
both_ends n c last None None phases has = refl
both_ends n c last None (Some s) phases has =
    let change = change_session s (λ (cs : List Command). cs ++ last ∷ []) in
    ap (λ (ps : List (List (List Command))). replicate n [] ∷ change_last change ps) has.is
    ∙ ap (λ (ps : List (List (List Command))). change_last change (replicate n [] ∷ ps)) (sym has.is)
both_ends n c last (Some t) None phases has =
    let change = change_session t (λ (cs : List Command). c ∷ cs) in
    ap (λ (ps : List (List (List Command))). change_first change (ps ++ replicate n [] ∷ [])) has.is
    ∙ ap (λ (ps : List (List (List Command))). change_first change ps ++ replicate n [] ∷ []) (sym has.is)
both_ends n c last (Some t) (Some s) phases has = sym (first_and_last c last s t phases)

alone : (n : ℕ) (c : Command) (o : Option ℕ) → with_command n c o (replicate n [] ∷ []) ≡ command_behind n c o (replicate n [] ∷ [])
alone n c None = refl
alone n c (Some session) =
    ap (λ (lists : List (List Command)). lists ∷ []) (empty_session (λ (cs : List Command). c ∷ cs) (λ (cs : List Command). cs ++ c ∷ []) refl n session)

pub line_more : (n : ℕ) (lines : List Reading) (c : Command) → script_of n (lines ++ Ok c ∷ []) ≡ command_behind n c (session_of (Ok c)) (script_of n lines)
line_more n [] c = alone n c (session_of (Ok c))
line_more n (Err fault ∷ lines) c = line_more n lines c
line_more n (Ok first ∷ lines) c =
    ap (λ (ps : List (List (List Command))). with_command n first (session_of (Ok first)) ps) (line_more n lines c)
    ∙ both_ends n first c (session_of (Ok first)) (session_of (Ok c)) (script_of n lines) (has_phase n lines)

pub fault_more : (n : ℕ) (lines : List Reading) (fault : LineFault) → script_of n (lines ++ Err fault ∷ []) ≡ script_of n lines
fault_more n [] fault = refl
fault_more n (Err first ∷ lines) fault = fault_more n lines fault
fault_more n (Ok first ∷ lines) fault = ap (λ (ps : List (List (List Command))). with_command n first (session_of (Ok first)) ps) (fault_more n lines fault)
