-- The lines of a script that sessions played phase after phase are lines played in phases.
use Rattle.std.proofs.Common.{zero, suc, ◌≡◌, ℕ, ◌+◌, ◌<◌, ◌≤◌, inl, inr, Bool, false, cond, List, [], ◌∷◌, ◌++◌, length, map, IfSome, Option, None, Some, refl, sym, ap, ◌∙◌, subst, arith}
use Rattle.std.specs.List.{AllByRecursion, Contains, cons_option, slice_get}
use Rattle.std.proofs.lemmas.Bool.{cases_Bool, eq-eqb}
use Rattle.std.specs.Prelude.{count_by, take}
use mathlib.Core.List.{IsPrefix}
use Rattle.pol_model.specs.declared.options.Options.{Options}
use Rattle.pol_model.specs.declared.request.Request.{Request}
use Rattle.pol_answer.specs.declared.answer.Answer.{Answer}
use Rattle.pol_answer.specs.declared.answer.Answer.TheVariants as answer
use Rattle.pol_script.specs.declared.command.Command.{Command}
use Rattle.pol_run.specs.ByIndex.{is_phase}
use Rattle.pol_run.specs.Spots.{Line, Reading}
use Rattle.pol_run.proofs.Lists.{every_contained}
use Rattle.pol_history.specs.declared.event.HistoryEvent.{HistoryEvent}
use Rattle.pol_history.specs.declared.event.HistoryEvent.TheVariants as event
use Rattle.pol_history.specs.Commits.{commits_by, request_by}
use Rattle.pol_history.specs.Grows.{nothing_yet, PassState}
use Rattle.pol_history.specs.Legal.{IsLegal}
use Rattle.pol_history.specs.Meet.{IsOf}
use Rattle.pol_history.proofs.LegalEvents.{each_legal}
use Rattle.pol_history.proofs.Lists.{no_element}
use Rattle.pol_run_laws.specs.Cut.{AreSeated, IsSeated, answers_to, script_of}
use Rattle.pol_run_laws.specs.Phases.{ArePlayedInPhases}
use Rattle.pol_run_laws.specs.Placed.{IsLineOf, IsPassOfLine, requests_ok, request_ok}
use Rattle.pol_run_laws.specs.Seats.{AreNewSeats, ArePhases}
use Rattle.pol_run_laws.specs.Session.{PlaysOn}
use Rattle.pol_run_laws.proofs.CutScript.{played_is}
use Rattle.pol_run_laws.proofs.PhaseLines.{of_session}
use Rattle.pol_run_laws.proofs.Places.{element_at, same_element}
use Rattle.pol_run_laws.proofs.PutBack.{done, faulty_back, own_back, phases_back, put_back, read_so}
use Rattle.pol_run_laws.proofs.Seated.{ArePhased, AreReady, HaveSeen, mine_at, pass_at, pass_for, phased}
use Rattle.pol_run_laws.proofs.SessionCounts.{found_line, has_line, no_line}
use Rattle.pol_run_laws.proofs.Sums.{every_at, length-filter_map}

-- ---- new seats

new_seen : (seats : List PassState) → AllByRecursion (λ seat. seat.has ≡ nothing_yet) seats → HaveSeen [] seats
new_seen [] new = tt
new_seen (seat ∷ seats) new = (ap (λ view. view.history) new.0, new_seen seats new.1)

new_mine : (seats : List PassState) → AllByRecursion (λ seat. seat.has ≡ nothing_yet) seats → (i : ℕ) → mine_at seats i ≡ []
new_mine [] new i = refl
new_mine (seat ∷ seats) new zero = ap (λ view. view.mine) new.0
new_mine (seat ∷ seats) new (suc i) = new_mine seats new.1 i

-- the seat at an index
record SeatAt (seats : List PassState) (i : ℕ) : Type 0 where
  pub seat : PassState
  pub there : slice_get seats i ≡ Some seat
  pub pass : pass_at seats i ≡ seat.number

seat_at : (seats : List PassState) (i : ℕ) → i < length seats → SeatAt seats i
seat_at [] i less = absurd (omega (arith, less))
seat_at (seat ∷ seats) zero less = record { seat = seat; there = refl; pass = refl }
seat_at (seat ∷ seats) (suc i) less =
    let found = seat_at seats i (omega (arith, less)) in record { seat = found.seat; there = found.there; pass = found.pass }

-- a number that was handed out is a seat's
record IsSeatOf (seats : List PassState) (pass : ℕ) : Type 0 where
  pub i : ℕ
  pub within : i < length seats
  pub same : pass_at seats i ≡ pass

mapped_at : (seats : List PassState) (i pass : ℕ) → slice_get (map (λ (seat : PassState). seat.number) seats) i ≡ Some pass → (i < length seats) × (pass_at seats i ≡ pass)
mapped_at [] i pass there = absurd (no_element pass there)
mapped_at (seat ∷ seats) zero pass there = (omega arith, same_element seat.number pass there)
mapped_at (seat ∷ seats) (suc i) pass there = let found = mapped_at seats i pass there in (omega (arith, found.0), found.1)

handed_seat : (seats : List PassState) → AllByRecursion (IsSeatOf seats) (map (λ (seat : PassState). seat.number) seats)
handed_seat seats = every_at (IsSeatOf seats) (map (λ (seat : PassState). seat.number) seats) (λ i pass there.
    let found = mapped_at seats i pass there in record { i = i; within = found.0; same = found.1 })

-- ---- commits

some_longer : (o : Option Request) (xs : List Request) → 1 ≤ length xs → 1 ≤ length (cons_option o xs)
some_longer None xs some = some
some_longer (Some x) xs some = omega arith

-- a commit of a pass is one of its commits
committed_once : (history : List HistoryEvent) (place pass number : ℕ) (request : Request) → slice_get history place ≡ Some (event.Commit pass number request)
    → 1 ≤ length (commits_by pass history)
committed_once [] place pass number request there = absurd (no_element (event.Commit pass number request) there)
committed_once (first ∷ history) zero pass number request there =
    let is : request_by pass first ≡ Some request =
    ap (request_by pass) (same_element first (event.Commit pass number request) there) ∙ ap (λ (b : Bool). cond b (Some request) None) (eq-eqb pass pass refl) in
    subst (λ (o : Option Request). 1 ≤ length (cons_option o (commits_by pass history))) (sym is) (omega arith)
committed_once (first ∷ history) (suc place) pass number request there =
    some_longer (request_by pass first) (commits_by pass history) (committed_once history place pass number request there)

-- a session without lines has no request that was answered `ok`
none_committed : (session : ℕ) (lines : List Line) → has_line lines session ≡ false → length (requests_ok session lines) ≡ 0
none_committed session lines none = length-filter_map (request_ok session) lines ∙ no_line session lines none

-- ---- the whole

module _ (options : Options) (handed_out : List ℕ) (olds news : List PassState) (readings : List Reading) (told : List (List (List Answer)))
    (new : AreNewSeats handed_out olds) (seated : AreSeated (length olds) readings)
    (phases : ArePhases options handed_out olds (script_of (length olds) readings) told news) where
  abbrev lines : List Line
  lines = put_back 1 readings told

  at_first_ready : AreReady options handed_out [] olds
  at_first_ready = record {
    some = new.some;
    seen = new_seen olds new.new;
    whole = λ i less. sym (new_mine olds new.new i);
    commits = tt;
    legal = each_legal options [] tt;
  }

  all : ArePhased options handed_out [] olds (script_of (length olds) readings) told news
  all = phased options handed_out [] olds (script_of (length olds) readings) told news phases at_first_ready

  -- a line of a session is one of a seat's
  line_seated : (session i : ℕ) (reading : Reading) (given : Answer) → IsLineOf lines session i reading given → (1 ≤ session) × (session ≤ length olds)
  line_seated session i reading given line =
      let its = of_session session reading given line.of in
      let read = read_so readings (answers_to readings told) i (reading, given) line.line.there in
      let one = element_at (IsSeated (length olds)) readings i reading seated read in
      subst (λ (o : Option ℕ). IfSome o (λ s. (1 ≤ s) × (s ≤ length olds))) its.session_is one

  pass_apart : (session other : ℕ) → (1 ≤ session) × (session ≤ length olds) → (1 ≤ other) × (other ≤ length olds) → pass_for olds session ≡ pass_for olds other → session ≡ other
  pass_apart zero other one two same = absurd (omega (arith, one.0))
  pass_apart (suc i) zero one two same = absurd (omega (arith, two.0))
  pass_apart (suc i) (suc j) one two same =
      let first = seat_at olds i (omega (arith, one.1)) in
      let second = seat_at olds j (omega (arith, two.1)) in
      ap (λ (n : ℕ). suc n) (new.apart i j first.seat second.seat first.there second.there (sym first.pass ∙ same ∙ second.pass))

  own : (session : ℕ) → (1 ≤ session) × (session ≤ length olds) → commits_by (pass_for olds session) all.history ≡ requests_ok session lines
  own zero within = absurd (omega (arith, within.0))
  own (suc i) within =
      ap (λ (pass : ℕ). commits_by pass all.history) (sym (all.pass i))
      ∙ all.ready.whole i (omega (arith, within.1, all.long))
      ∙ all.mine i
      ∙ ap (λ (xs : List Request). xs ++ done (script_of (length olds) readings) told (suc i)) (new_mine olds new.new i)
      ∙ sym (own_back (length olds) readings 1 told seated all.one_each (suc i))

  no_others : (place pass number : ℕ) (request : Request) → slice_get all.history place ≡ Some (event.Commit pass number request)
      → IsPassOfLine lines (λ session. pass_for olds session) pass
  no_others place pass number request there =
      let listed : Contains handed_out pass = element_at (IsOf handed_out) all.history place (event.Commit pass number request) all.ready.commits there in
      let seat = every_contained (IsSeatOf olds) handed_out pass
      (subst (λ (passes : List ℕ). AllByRecursion (IsSeatOf olds) passes) (sym new.those) (handed_seat olds)) listed in
      elim (cases_Bool (has_line lines (suc seat.i))) [
        | inl some ↦
            let found = found_line lines (suc seat.i) some in
            record { session = suc seat.i; i = found.i; reading = found.reading; told = found.told; line = found.line; same = seat.same }
        | inr none ↦
            let one = committed_once all.history place pass number request there in
            let same : commits_by pass all.history ≡ requests_ok (suc seat.i) lines =
            ap (λ (p : ℕ). commits_by p all.history) (sym seat.same) ∙ own (suc seat.i) (omega arith, omega (arith, seat.within)) in
            absurd (omega (arith, one, ap (λ (xs : List Request). length xs) same, none_committed (suc seat.i) lines none))
      ]

  played : ArePlayedInPhases options all.history lines
  played = record {
    pass_of = λ session. pass_for olds session;
    starts = all.starts;
    ends = λ phase session. (all.turns phase session).ends;
    plays = λ phase session.
        subst (λ (xs : List (Command × Answer)). PlaysOn options (pass_for olds session) (all.starts phase) (all.turns phase session).ends xs)
        (sym (played_is (length olds) readings 1 told seated all.one_each phase session)) (all.turns phase session).plays;
    meets = λ phase session.
        let next : suc phase ≡ phase + 1 = omega arith in
        subst (λ (p : ℕ). IsPrefix (all.turns phase session).ends (all.starts p)) next (all.turns phase session).meets;
    seen = all.seen;
    faulty = λ i fault given line. faulty_back 1 readings told i fault given line.there;
    phases = λ i given line.
        let order : 1 + count_by is_phase (take i lines) ≡ count_by is_phase (take i lines) + 1 = omega arith in
        phases_back 1 readings told i given line.there ∙ ap (λ (n : ℕ). answer.Phase n) order;
    apart = λ session i first given other j second later one two same.
        pass_apart session other (line_seated session i first given one) (line_seated other j second later two) same;
    own = λ session i reading given line. own session (line_seated session i reading given line);
    no_others = no_others;
  }

  -- what a seat has seen in the end
  last_is : (k : ℕ) (seat : PassState) → slice_get news k ≡ Some seat → seat.has.history ≡ all.history
  last_is k seat there = element_at (λ (one : PassState). one.has.history ≡ all.history) news k seat all.ready.seen there

  pub phases_played : (k : ℕ) (seat : PassState) → slice_get news k ≡ Some seat → IsLegal options seat.has.history × ArePlayedInPhases options seat.has.history lines
  phases_played k seat there = (
    subst (λ (h : List HistoryEvent). IsLegal options h) (sym (last_is k seat there)) all.ready.legal,
    subst (λ (h : List HistoryEvent). ArePlayedInPhases options h lines) (sym (last_is k seat there)) played,
  )
