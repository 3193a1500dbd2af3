-- Phases that sessions play one after another: what all had seen at the start of each, and what each session played.
use Rattle.std.proofs.Common.{zero, suc, ◌≡◌, ℕ, ◌<◌, List, [], ◌∷◌, ◌++◌, length, refl, sym, ap, ◌∙◌, subst, arith, append-nil, append_assoc}
use Rattle.std.specs.List.{AllByRecursion, zip}
use mathlib.Core.List.{IsPrefix}
use Rattle.pol_model.specs.declared.options.Options.{Options}
use Rattle.pol_model.specs.declared.request.Request.{Request}
use Rattle.pol_answer.specs.declared.answer.Answer.{Answer}
use Rattle.pol_script.specs.declared.command.Command.{Command}
use Rattle.pol_history.specs.declared.event.HistoryEvent.{HistoryEvent}
use Rattle.pol_history.specs.Commits.{commits_by}
use Rattle.pol_history.specs.Grows.{PassState}
use Rattle.pol_history.specs.Legal.{IsLegal}
use Rattle.pol_history.specs.Meet.{IsOf}
use Rattle.pol_run_laws.specs.Cut.{in_phase, list_at}
use Rattle.pol_run_laws.specs.Seats.{ArePhases, HavePlayed, IsPhase}
use Rattle.pol_run_laws.specs.Session.{PlaysOn, requests_done}
use Rattle.pol_run_laws.proofs.CutScript.{turn}
use Rattle.pol_run_laws.proofs.Phased.{prefix_join}
use Rattle.pol_run_laws.proofs.PutBack.{done}

-- ---- seats by index

abbrev pub pass_at : List PassState → ℕ → ℕ
pass_at [] i = 0
pass_at (seat ∷ seats) zero = seat.number
pass_at (seat ∷ seats) (suc i) = pass_at seats i

abbrev pub mine_at : List PassState → ℕ → List Request
mine_at [] i = []
mine_at (seat ∷ seats) zero = seat.has.mine
mine_at (seat ∷ seats) (suc i) = mine_at seats i

-- sessions are numbered from 1
abbrev pub pass_for : List PassState → ℕ → ℕ
pass_for seats zero = 0
pass_for seats (suc i) = pass_at seats i

abbrev pub HaveSeen : List HistoryEvent → List PassState → Type 0
HaveSeen history seats = AllByRecursion (λ seat. seat.has.history ≡ history) seats

-- ---- one phase

-- what a session played in a phase, from what all had seen at its start, to the history at which they met
pub record Turn (options : Options) (pass : ℕ) (start next : List HistoryEvent) (played : List (Command × Answer)) : Type 0 where
  pub ends : List HistoryEvent
  pub plays : PlaysOn options pass start ends played
  pub meets : IsPrefix ends next

abbrev no_turn : (options : Options) (pass : ℕ) (start next : List HistoryEvent) → IsPrefix start next → Turn options pass start next []
no_turn options pass start next begins = record { ends = start; plays = refl; meets = begins }

module _ (options : Options) (history : List HistoryEvent) where
  -- of the session at an index
  record PlayedAt (start : List HistoryEvent) (olds : List PassState) (commands : List (List Command)) (told : List (List Answer)) (news : List PassState) (i : ℕ) : Type 0 where
    pub turn_is : Turn options (pass_at olds i) start history (zip (list_at commands i) (list_at told i))
    pub one_each : length (list_at told i) ≡ length (list_at commands i)
    pub pass : pass_at news i ≡ pass_at olds i
    pub mine : mine_at news i ≡ mine_at olds i ++ requests_done (zip (list_at commands i) (list_at told i))
    pub whole : i < length olds → commits_by (pass_at news i) history ≡ mine_at news i

  played_at : (start : List HistoryEvent) → IsPrefix start history → (olds : List PassState) (commands : List (List Command)) (told : List (List Answer)) (news : List PassState)
      → HavePlayed options history olds commands told news → HaveSeen start olds → (i : ℕ) → PlayedAt start olds commands told news i
  played_at start begins [] [] [] [] each seen i = record {
    turn_is = no_turn options 0 start history begins;
    one_each = refl;
    pass = refl;
    mine = refl;
    whole = λ less. absurd (omega (arith, less));
  }
  played_at start begins (old ∷ olds) (cs ∷ commands) (as_told ∷ told) (new ∷ news) each seen zero =
      let one = each.0 in record {
        turn_is = record { ends = one.ends; plays = subst (λ (h : List HistoryEvent). PlaysOn options old.number h one.ends (zip cs as_told)) seen.0 one.played.plays; meets = one.meets };
        one_each = one.played.one_each;
        pass = one.number;
        mine = one.grows.grows.mine ∙ ap (λ (own : List Request). old.has.mine ++ own) one.played.committed;
        whole = λ less.
            ap (λ (p : ℕ). commits_by p history) one.number
            ∙ ap (λ (h : List HistoryEvent). commits_by old.number h) (sym one.all)
            ∙ one.grows.commits;
      }
  played_at start begins (old ∷ olds) (cs ∷ commands) (as_told ∷ told) (new ∷ news) each seen (suc i) =
      let later = played_at start begins olds commands told news each.1 seen.1 i in record {
        turn_is = later.turn_is;
        one_each = later.one_each;
        pass = later.pass;
        mine = later.mine;
        whole = λ less. later.whole (omega (arith, less));
      }
  played_at start begins [] (cs ∷ commands) told news each seen i = absurd each
  played_at start begins [] [] (as_told ∷ told) news each seen i = absurd each
  played_at start begins [] [] [] (new ∷ news) each seen i = absurd each
  played_at start begins (old ∷ olds) [] told news each seen i = absurd each
  played_at start begins (old ∷ olds) (cs ∷ commands) [] news each seen i = absurd each
  played_at start begins (old ∷ olds) (cs ∷ commands) (as_told ∷ told) [] each seen i = absurd each

  -- afterwards all have seen the history
  all_met : (olds : List PassState) (commands : List (List Command)) (told : List (List Answer)) (news : List PassState)
      → HavePlayed options history olds commands told news → HaveSeen history news × (length news ≡ length olds)
  all_met [] [] [] [] each = (tt, refl)
  all_met (old ∷ olds) (cs ∷ commands) (as_told ∷ told) (new ∷ news) each =
      let later = all_met olds commands told news each.1 in ((each.0.all, later.0), ap (λ (n : ℕ). suc n) later.1)
  all_met [] (cs ∷ commands) told news each = absurd each
  all_met [] [] (as_told ∷ told) news each = absurd each
  all_met [] [] [] (new ∷ news) each = absurd each
  all_met (old ∷ olds) [] told news each = absurd each
  all_met (old ∷ olds) (cs ∷ commands) [] news each = absurd each
  all_met (old ∷ olds) (cs ∷ commands) (as_told ∷ told) [] each = absurd each

  -- the history goes on and is legal
  went_on : (start : List HistoryEvent) (olds : List PassState) (commands : List (List Command)) (told : List (List Answer)) (news : List PassState)
      → 0 < length olds → HavePlayed options history olds commands told news → HaveSeen start olds → IsPrefix start history × IsLegal options history
  went_on start [] commands told news some each seen = absurd (omega (arith, some))
  went_on start (old ∷ olds) (cs ∷ commands) (as_told ∷ told) (new ∷ news) some each seen =
      let grows = each.0.grows.grows in (
        subst (λ (h : List HistoryEvent). IsPrefix h history) seen.0 (subst (λ (h : List HistoryEvent). IsPrefix old.has.history h) each.0.all grows.goes_on),
        subst (λ (h : List HistoryEvent). IsLegal options h) each.0.all grows.legal,
      )
  went_on start (old ∷ olds) [] told news some each seen = absurd each
  went_on start (old ∷ olds) (cs ∷ commands) [] news some each seen = absurd each
  went_on start (old ∷ olds) (cs ∷ commands) (as_told ∷ told) [] some each seen = absurd each

-- ---- phase after phase

module _ (options : Options) (handed_out : List ℕ) where
  -- all have seen the history, and all that they committed is there
  pub record AreReady (history : List HistoryEvent) (seats : List PassState) : Type 0 where
    pub some : 0 < length seats
    pub seen : HaveSeen history seats
    pub whole : (i : ℕ) → i < length seats → commits_by (pass_at seats i) history ≡ mine_at seats i
    pub commits : AllByRecursion (IsOf handed_out) history
    pub legal : IsLegal options history

  pub record ArePhased (start : List HistoryEvent) (olds : List PassState) (commands : List (List (List Command))) (told : List (List (List Answer))) (news : List PassState) : Type 0 where
    pub history : List HistoryEvent
    pub starts : ℕ → List HistoryEvent
    pub first : starts 0 ≡ start
    pub seen : (phase : ℕ) → IsPrefix (starts phase) history
    pub turns : (phase session : ℕ) → Turn options (pass_for olds session) (starts phase) (starts (suc phase)) (turn commands told phase session)
    pub one_each : (phase session : ℕ) → length (in_phase told phase session) ≡ length (in_phase commands phase session)
    pub pass : (i : ℕ) → pass_at news i ≡ pass_at olds i
    pub mine : (i : ℕ) → mine_at news i ≡ mine_at olds i ++ done commands told (suc i)
    pub long : length news ≡ length olds
    pub ready : AreReady history news

  abbrev start_at : List HistoryEvent → (ℕ → List HistoryEvent) → ℕ → List HistoryEvent
  start_at start later zero = start
  start_at start later (suc phase) = later phase

  -- a phase, and those behind it
  module _ (start : List HistoryEvent) (olds : List PassState) (cs : List (List Command)) (commands : List (List (List Command))) (as_told : List (List Answer)) (told : List (List (List Answer)))
      (next news : List PassState) (phase : IsPhase options handed_out olds cs as_told next) (was : AreReady start olds) where
    on : IsPrefix start phase.history × IsLegal options phase.history
    on = went_on options phase.history start olds cs as_told next was.some phase.each was.seen

    at : (i : ℕ) → PlayedAt options phase.history start olds cs as_told next i
    at i = played_at options phase.history start on.0 olds cs as_told next phase.each was.seen i

    met : HaveSeen phase.history next × (length next ≡ length olds)
    met = all_met options phase.history olds cs as_told next phase.each

    is_ready : AreReady phase.history next
    is_ready = record {
      some = omega (arith, met.1, was.some);
      seen = met.0;
      whole = λ i less. (at i).whole (omega (arith, less, met.1));
      commits = phase.commits;
      legal = on.1;
    }

    module _ (later : ArePhased phase.history next commands told news) where
      pass_same : (session : ℕ) → pass_for next session ≡ pass_for olds session
      pass_same zero = refl
      pass_same (suc i) = (at i).pass

      turn_first : (session : ℕ) → Turn options (pass_for olds session) start phase.history (turn (cs ∷ commands) (as_told ∷ told) 0 session)
      turn_first zero = no_turn options 0 start phase.history on.0
      turn_first (suc i) = (at i).turn_is

      each_first : (session : ℕ) → length (in_phase (as_told ∷ told) 0 session) ≡ length (in_phase (cs ∷ commands) 0 session)
      each_first zero = refl
      each_first (suc i) = (at i).one_each

      its_turns : (phase session : ℕ) → Turn options (pass_for olds session) (start_at start later.starts phase) (later.starts phase) (turn (cs ∷ commands) (as_told ∷ told) phase session)
      its_turns zero session =
          subst (λ (h : List HistoryEvent). Turn options (pass_for olds session) start h (turn (cs ∷ commands) (as_told ∷ told) 0 session)) (sym later.first) (turn_first session)
      its_turns (suc k) session =
          subst (λ (p : ℕ). Turn options p (later.starts k) (later.starts (suc k)) (turn commands told k session)) (pass_same session) (later.turns k session)

      its_each : (phase session : ℕ) → length (in_phase (as_told ∷ told) phase session) ≡ length (in_phase (cs ∷ commands) phase session)
      its_each zero session = each_first session
      its_each (suc k) session = later.one_each k session

      its_seen : (phase : ℕ) → IsPrefix (start_at start later.starts phase) later.history
      its_seen zero = prefix_join start phase.history later.history on.0 (subst (λ (h : List HistoryEvent). IsPrefix h later.history) later.first (later.seen 0))
      its_seen (suc k) = later.seen k

      phased_more : ArePhased start olds (cs ∷ commands) (as_told ∷ told) news
      phased_more = record {
        history = later.history;
        starts = λ k. start_at start later.starts k;
        first = refl;
        seen = its_seen;
        turns = its_turns;
        one_each = its_each;
        pass = λ i. later.pass i ∙ (at i).pass;
        mine = λ i.
            later.mine i
            ∙ ap (λ (xs : List Request). xs ++ done commands told (suc i)) (at i).mine
            ∙ append_assoc (mine_at olds i) (requests_done (zip (list_at cs i) (list_at as_told i))) (done commands told (suc i));
        long = later.long ∙ met.1;
        ready = later.ready;
      }

  pub phased : (start : List HistoryEvent) (olds : List PassState) (commands : List (List (List Command))) (told : List (List (List Answer))) (news : List PassState)
      → ArePhases options handed_out olds commands told news → AreReady start olds → ArePhased start olds commands told news
  phased start olds [] [] news phases was = record {
    history = start;
    starts = λ k. start;
    first = refl;
    seen = λ k. ([], append-nil start);
    turns = λ k session. no_turn options (pass_for olds session) start start ([], append-nil start);
    one_each = λ k session. refl;
    pass = λ i. ap (λ (seats : List PassState). pass_at seats i) (sym phases);
    mine = λ i. ap (λ (seats : List PassState). mine_at seats i) (sym phases) ∙ sym (append-nil (mine_at olds i));
    long = ap (λ (seats : List PassState). length seats) (sym phases);
    ready = subst (λ (seats : List PassState). AreReady start seats) phases was;
  }
  phased start olds (cs ∷ commands) (as_told ∷ told) news phases was =
      let next = phases.0 in
      phased_more start olds cs commands as_told told next news phases.1 was
      (phased phases.1.history next commands told news phases.2 (is_ready start olds cs commands as_told told next news phases.1 was))
  phased start olds [] (as_told ∷ told) news phases was = absurd phases
  phased start olds (cs ∷ commands) [] news phases was = absurd phases
