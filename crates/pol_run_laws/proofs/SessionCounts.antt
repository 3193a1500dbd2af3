-- A history has as many commits as the lines that it places have `ok` answers: session by session, and so in all.
use Rattle.std.proofs.Common.{◌≡◌, ℕ, zero, suc, ◌+◌, ◌<◌, ◌≤◌, ◌==◌, inl, inr, Bool, true, false, cond, max, IsTrue, List, [], ◌∷◌, length, slice_get, Option, None, Some, Ok, Err, refl, ap, sym, ◌∙◌, subst, arith}
use Rattle.std.specs.Prelude.{count_by, sum_by}
use Rattle.std.specs.List.{AllByRecursion, list_any}
use Rattle.std.proofs.lemmas.Bool.{cases_Bool, eq-eqb, ne_eqb, eqb-true, false≢true, or_cases, or_left, or_right, or_parts, both_ways}
use Rattle.std.proofs.lemmas.List.Sums.{sum_by-cons}
use Rattle.pol_model.specs.declared.options.Options.{Options}
use Rattle.pol_model.specs.declared.request.Request.{Request}
use Rattle.pol_answer.specs.declared.answer.Answer.{Answer}
use Rattle.pol_answer.specs.declared.answer.Answer.TheVariants as answer
use Rattle.pol_script.specs.declared.command.Command.TheVariants as command
use Rattle.pol_run.specs.Spots.{Line, Reading, session_of, shares}
use Rattle.pol_run.specs.ByIndex.{IsOf, is_ok}
use Rattle.pol_history.specs.declared.event.HistoryEvent.{HistoryEvent}
use Rattle.pol_history.specs.declared.event.HistoryEvent.TheVariants as event
use Rattle.pol_history.specs.Commits.{commits_in, request_by, request_in}
use Rattle.pol_run_laws.specs.Placed.{IsLineOf, IsPlaced, request_ok}
use Rattle.pol_history.proofs.Lists.{no_element}
use Rattle.pol_run_laws.proofs.Places.{same_element}
use Rattle.pol_run_laws.proofs.Sums.{sum_to, sum_to-same, sum_to-none, sum_to-one, sum_of_kinds, count_in, length-filter_map, every_at}

-- ---- which sessions have a line

abbrev is_of : ℕ → Line → Bool
is_of session line = shares (Some session) (session_of line.0)

abbrev pub has_line : List Line → ℕ → Bool
has_line lines session = list_any (is_of session) lines

pub record HasLine (lines : List Line) (session : ℕ) : Type 0 where
  pub i : ℕ
  pub reading : Reading
  pub told : Answer
  pub line : IsLineOf lines session i reading told

of_session : (session : ℕ) (reading : Reading) → IsTrue (shares (Some session) (session_of reading)) → IsOf session reading
of_session session (Err fault) is = absurd (false≢true is)
of_session session (Ok (command.Commit its request)) is = sym (eqb-true session its is)
of_session session (Ok (command.Look its query)) is = sym (eqb-true session its is)
of_session session (Ok (command.Trace its query)) is = sym (eqb-true session its is)
of_session session (Ok (command.Sync its)) is = sym (eqb-true session its is)
of_session session (Ok command.Phase) is = absurd (false≢true is)

session_is : (session : ℕ) (reading : Reading) → IsOf session reading → session_of reading ≡ Some session
session_is session (Ok (command.Commit its request)) of = ap (λ (s : ℕ). Some s) of
session_is session (Ok (command.Look its query)) of = ap (λ (s : ℕ). Some s) of
session_is session (Ok (command.Trace its query)) of = ap (λ (s : ℕ). Some s) of
session_is session (Ok (command.Sync its)) of = ap (λ (s : ℕ). Some s) of
session_is session (Ok command.Phase) of = absurd of
session_is session (Err fault) of = absurd of

shares_itself : (session : ℕ) (o : Option ℕ) → o ≡ Some session → IsTrue (shares (Some session) o)
shares_itself session o is = subst (λ (x : Option ℕ). IsTrue (shares (Some session) x)) (sym is) (eq-eqb session session refl)

pub found_line : (lines : List Line) (session : ℕ) → has_line lines session ≡ true → HasLine lines session
found_line [] session has = absurd (false≢true has)
found_line (line ∷ lines) session has =
    elim (or_cases (is_of session line) (has_line lines session) has) [
      | inl here ↦ record {
        i = 0;
        reading = line.0;
        told = line.1;
        line = record { line = record { there = refl }; of = of_session session line.0 here };
      }
      | inr later ↦
          let found = found_line lines session later in record {
            i = suc found.i;
            reading = found.reading;
            told = found.told;
            line = record { line = record { there = found.line.line.there }; of = found.line.of };
          }
    ]

line_found : (lines : List Line) (session i : ℕ) (reading : Reading) (told : Answer) → slice_get lines i ≡ Some (reading, told) → IsOf session reading
    → has_line lines session ≡ true
line_found [] session i reading told there of = absurd (no_element (reading, told) there)
line_found (line ∷ lines) session zero reading told there of =
    or_left (is_of session line) (has_line lines session)
    (shares_itself session (session_of line.0)
    (ap (λ (l : Line). session_of l.0) (same_element line (reading, told) there) ∙ session_is session reading of))
line_found (line ∷ lines) session (suc i) reading told there of =
    or_right (is_of session line) (has_line lines session) (line_found lines session i reading told there of)

-- ---- a bound of the sessions

abbrev past : Option ℕ → ℕ
past None = 0
past (Some session) = session + 1

abbrev sessions_below : List Line → ℕ
sessions_below [] = 0
sessions_below (line ∷ lines) = max (past (session_of line.0)) (sessions_below lines)

past_session : (session : ℕ) (o : Option ℕ) → o ≡ Some session → session < past o
past_session session o is = subst (λ (x : Option ℕ). session < past x) (sym is) (omega arith)

line_below : (lines : List Line) (session i : ℕ) (reading : Reading) (told : Answer) → slice_get lines i ≡ Some (reading, told) → IsOf session reading
    → session < sessions_below lines
line_below [] session i reading told there of = absurd (no_element (reading, told) there)
line_below (line ∷ lines) session zero reading told there of =
    omega (
      arith,
      past_session session (session_of line.0)
          (ap (λ (l : Line). session_of l.0) (same_element line (reading, told) there) ∙ session_is session reading of),
    )
line_below (line ∷ lines) session (suc i) reading told there of = omega (arith, line_below lines session i reading told there of)

-- ---- the `ok` lines of the sessions

abbrev ok_in : ℕ → Line → ℕ
ok_in session line = count_in (request_ok session line)

line_share : (n : ℕ) (line : Line) → past (session_of line.0) ≤ n → sum_to (λ session. ok_in session line) n ≡ cond (is_ok line) 1 0
line_share n (Ok (command.Commit its request), answer.Committed revision identity) below =
    let mine = λ (b : Bool). count_in (cond b (Some request) None) in
    sum_to-one (λ session. ok_in session (Ok (command.Commit its request), answer.Committed revision identity)) n its (omega (arith, below))
    (ap mine (eq-eqb its its refl))
    (λ other apart. ap mine (ne_eqb its other (λ same. apart (sym same))))
line_share n (reading, told) below = sum_to-none (λ session. ok_in session (reading, told)) n (λ session. refl)

lines_share : (n : ℕ) (lines : List Line) → sessions_below lines ≤ n
    → AllByRecursion (λ line. sum_to (λ session. ok_in session line) n ≡ cond (is_ok line) 1 0) lines
lines_share n [] below = tt
lines_share n (line ∷ lines) below =
    let here : past (session_of line.0) ≤ n = omega (arith, below) in
    let others : sessions_below lines ≤ n = omega (arith, below) in
    (line_share n line here, lines_share n lines others)

none_ok : (session : ℕ) (line : Line) → is_of session line ≡ false → ok_in session line ≡ 0
none_ok session (Ok (command.Commit its request), answer.Committed revision identity) apart =
    ap (λ (b : Bool). count_in (cond b (Some request) None))
    (ne_eqb its session (λ same. both_ways (session == its) apart (eq-eqb session its (sym same))))
none_ok session (reading, told) apart = refl

pub no_line : (session : ℕ) (lines : List Line) → has_line lines session ≡ false → sum_by (ok_in session) lines ≡ 0
no_line session [] none = refl
no_line session (line ∷ lines) none =
    let parts = or_parts (is_of session line) (has_line lines session) none in
    omega (arith, sum_by-cons (ok_in session) line lines, none_ok session line parts.0, no_line session lines parts.1)

-- ---- the commits of the sessions

cond_same : (b : Bool) (n : ℕ) → cond b n n ≡ n
cond_same true n = refl
cond_same false n = refl

sum_none : {X : Type 0} (xs : List X) → sum_by (λ x. 0) xs ≡ 0
sum_none [] = refl
sum_none (x ∷ xs) = omega (arith, sum_by-cons (λ y. 0) x xs, sum_none xs)

module _ (options : Options) (history : List HistoryEvent) (lines : List Line) (placed : IsPlaced options history lines) where
  abbrev committed_in : ℕ → HistoryEvent → ℕ
  committed_in session e = cond (has_line lines session) (count_in (request_by (placed.pass_of session) e)) 0

  event_share : (place : ℕ) (e : HistoryEvent) → slice_get history place ≡ Some e
      → sum_to (λ session. committed_in session e) (sessions_below lines) ≡ count_in (request_in e)
  event_share place (event.Publish endpoint revision table) there =
      sum_to-none (λ session. committed_in session (event.Publish endpoint revision table)) (sessions_below lines) (λ session. cond_same (has_line lines session) 0)
  event_share place (event.Blocked endpoint revision count) there =
      sum_to-none (λ session. committed_in session (event.Blocked endpoint revision count)) (sessions_below lines) (λ session. cond_same (has_line lines session) 0)
  event_share place (event.Commit pass number request) there =
      let of = placed.no_others place pass number request there in
      let share = λ (has same : Bool). cond has (count_in (cond same (Some request) None)) 0 in
      sum_to-one (λ session. committed_in session (event.Commit pass number request)) (sessions_below lines) of.session
      (line_below lines of.session of.i of.reading of.told of.line.line.there of.line.of)
      (ap (λ (has : Bool). share has (pass == placed.pass_of of.session))
      (line_found lines of.session of.i of.reading of.told of.line.line.there of.line.of)
      ∙ ap (λ (same : Bool). share true same) (eq-eqb pass (placed.pass_of of.session) (sym of.same)))
      (λ other apart.
      elim (cases_Bool (has_line lines other)) [
        | inr none ↦ ap (λ (has : Bool). share has (pass == placed.pass_of other)) none
        | inl some ↦
            let found = found_line lines other some in
            ap (λ (has : Bool). share has (pass == placed.pass_of other)) some
            ∙ ap (λ (same : Bool). share true same)
            (ne_eqb pass (placed.pass_of other)
            (λ same.
            apart (sym (placed.apart of.session of.i of.reading of.told other found.i found.reading found.told of.line found.line (of.same ∙ same)))))
      ])

  session_share : (session : ℕ) → sum_by (committed_in session) history ≡ sum_by (ok_in session) lines
  session_share session =
      let taken = λ (has : Bool). sum_by (λ (e : HistoryEvent). cond has (count_in (request_by (placed.pass_of session) e)) 0) history in
      elim (cases_Bool (has_line lines session)) [
        | inr none ↦ ap taken none ∙ sum_none history ∙ sym (no_line session lines none)
        | inl some ↦
            let found = found_line lines session some in
            ap taken some ∙ sym (length-filter_map (request_by (placed.pass_of session)) history)
            ∙ ap (λ (requests : List Request). length requests) (placed.own session found.i found.reading found.told found.line)
            ∙ length-filter_map (request_ok session) lines
      ]

  -- as many `ok` lines as commits
  pub ok_counted : count_by is_ok lines ≡ length (commits_in history)
  ok_counted =
      let n = sessions_below lines in
      sym (sum_of_kinds ok_in (λ (line : Line). cond (is_ok line) 1 0) n lines (lines_share n lines (omega arith)))
      ∙ sym (sum_to-same (λ session. sum_by (committed_in session) history) (λ session. sum_by (ok_in session) lines) n session_share)
      ∙ sum_of_kinds committed_in (λ (e : HistoryEvent). count_in (request_in e)) n history
      (every_at (λ (e : HistoryEvent). sum_to (λ session. committed_in session e) n ≡ count_in (request_in e)) history event_share)
      ∙ sym (length-filter_map request_in history)
