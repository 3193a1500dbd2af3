-- Commands of one session, whose verdicts stand behind a `sync`, have one run: each line is answered as it is in input order.
use Rattle.std.proofs.Common.{◌≡◌, ℕ, zero, suc, ◌+◌, ◌≤◌, Bool, true, false, List, [], ◌∷◌, ◌++◌, length, map, take, drop, zip, slice_get, Option, None, Some, inl, inr, Ok, refl, sym, ap, ◌∙◌, subst, arith, length-drop}
use Rattle.std.proofs.lemmas.Bool.{cases_lt}
use Rattle.std.proofs.lemmas.List.{drop_all}
use Rattle.std.proofs.lemmas.Option.{slice_get_within}
use Rattle.pol_answer.specs.declared.answer.Answer.{Answer}
use Rattle.pol_answer.specs.declared.answer.Answer.TheVariants as answer
use Rattle.pol_model.proofs.Histories.{state_of-push}
use Rattle.pol_model.specs.After.{after, state_of}
use Rattle.pol_model.specs.Committed.{identity_given}
use Rattle.pol_model.specs.Endpoints.{endpoint_of}
use Rattle.pol_model.specs.Fault.{fault_of}
use Rattle.pol_model.specs.PolicyMap.{map_size}
use Rattle.pol_model.specs.Remote.{verdict_for}
use Rattle.pol_model.specs.State.{State}
use Rattle.pol_model.specs.declared.answer.Fault.{Fault}
use Rattle.pol_model.specs.declared.options.Options.{Options}
use Rattle.pol_model.specs.declared.request.Query.{Query}
use Rattle.pol_model.specs.declared.request.Request.{Request}
use Rattle.pol_model.specs.declared.row.Endpoint.{Endpoint}
use Rattle.pol_run.specs.ByIndex.{IsLine, IsOf}
use Rattle.pol_run.specs.InShort.{IsRunInShort, after_commits}
use Rattle.pol_run.specs.Serial.{answer_at_endpoint, answer_to_commit, answers_from, commit_answer, look_answer, state_with}
use Rattle.pol_run.specs.Spots.{Line, Reading}
use Rattle.pol_script.specs.declared.command.Command.{Command}
use Rattle.pol_script.specs.declared.command.Command.TheVariants as command
use Rattle.pol_generated.specs.Maps.{HasRoom}
use Rattle.pol_generated.specs.Requests.{is_committed, requests_in}
use Rattle.pol_generated.proofs.InTurn.{IsCounted, IsSynced, carrier, commit_counted, commits_next, other_counted, synced_now, verdict_now}
use Rattle.pol_generated.proofs.Plays.{Plays, committed_state}

-- ---- commands

-- each command is of session 1
abbrev pub IsOfOne : Command → Type 0
IsOfOne command = IsOf 1 (Ok command)

-- a verdict stands behind a `sync`, with no request between
abbrev pub StandsBehindSync : Bool → List Command → Type 0
StandsBehindSync synced [] = Unit {0}
StandsBehindSync synced (command.Commit session request ∷ others) = StandsBehindSync false others
StandsBehindSync synced (command.Look session query ∷ others) = (synced ≡ true) × StandsBehindSync synced others
StandsBehindSync synced (command.Trace session query ∷ others) = ⊥
StandsBehindSync synced (command.Sync session ∷ others) = StandsBehindSync true others
StandsBehindSync synced (command.Phase ∷ others) = ⊥

-- the maps that a `sync` or a verdict may show have so many entries at most
abbrev pub FitsIn : Options → ℕ → State → List Command → Type 0
FitsIn options most s [] = Unit {0}
FitsIn options most s (command.Commit session request ∷ others) = FitsIn options most (after s request) others
FitsIn options most s (command.Look session query ∷ others) = ((endpoint : Endpoint) → map_size options s endpoint ≤ most) × FitsIn options most s others
FitsIn options most s (command.Trace session query ∷ others) = FitsIn options most s others
FitsIn options most s (command.Sync session ∷ others) = ((endpoint : Endpoint) → map_size options s endpoint ≤ most) × FitsIn options most s others
FitsIn options most s (command.Phase ∷ others) = FitsIn options most s others

-- ---- lists

drop_here : {X : Type 0} (i : ℕ) (xs : List X) (x : X) (rest : List X) → drop i xs ≡ x ∷ rest → slice_get xs i ≡ Some x
drop_here zero [] x rest is = absurd cc
drop_here zero (y ∷ xs) x rest is = cc
drop_here (suc i) [] x rest is = absurd cc
drop_here (suc i) (y ∷ xs) x rest is = drop_here i xs x rest is

drop_next : {X : Type 0} (i : ℕ) (xs : List X) (x : X) (rest : List X) → drop i xs ≡ x ∷ rest → drop (i + 1) xs ≡ rest
drop_next zero [] x rest is = absurd cc
drop_next zero (y ∷ xs) x rest is = cc
drop_next (suc i) [] x rest is = absurd cc
drop_next (suc i) (y ∷ xs) x rest is =
    let next : suc i + 1 ≡ suc (i + 1) = omega arith in ap (λ (n : ℕ). drop n (y ∷ xs)) next ∙ drop_next i xs x rest is

drop_at : {X : Type 0} (i : ℕ) (xs : List X) (x : X) → slice_get xs i ≡ Some x → drop i xs ≡ x ∷ drop (i + 1) xs
drop_at zero [] x there = absurd cc
drop_at zero (y ∷ xs) x there = cc
drop_at (suc i) [] x there = absurd cc
drop_at (suc i) (y ∷ xs) x there =
    let next : suc (i + 1) ≡ suc i + 1 = omega arith in drop_at i xs x there ∙ ap (λ (n : ℕ). x ∷ drop n (y ∷ xs)) next

take_next : {X : Type 0} (i : ℕ) (xs : List X) (x : X) → slice_get xs i ≡ Some x → take (i + 1) xs ≡ take i xs ++ x ∷ []
take_next zero [] x there = absurd cc
take_next zero (y ∷ xs) x there = cc
take_next (suc i) [] x there = absurd cc
take_next (suc i) (y ∷ xs) x there =
    let next : suc i + 1 ≡ suc (i + 1) = omega arith in
    ap (λ (n : ℕ). take n (y ∷ xs)) next ∙ ap (λ (ys : List _). y ∷ ys) (take_next i xs x there)

-- ---- the answers in input order

pub committed_answer : (s : State) (request : Request) (fault : Option Fault) → fault ≡ None
    → answer_to_commit s (state_with s request fault) request fault ≡ answer.Committed (s.revision + 1) (identity_given (after s request) request)
committed_answer s request None none = refl
committed_answer s request (Some fault) none = absurd cc

pub found_answer : (options : Options) (s : State) (query : Query) (endpoint : Endpoint) → endpoint_of query.endpoint s.endpoints ≡ Some endpoint
    → look_answer options s query ≡ answer.Verdict s.revision (verdict_for options s query endpoint)
found_answer options s query endpoint live = ap (answer_at_endpoint options s query) live

-- ---- a run of such commands

-- where the flag is set, a `synced` line is of this revision
abbrev IsTold : List Line → ℕ → ℕ → Bool → Type 0
IsTold lines i c false = Unit {0}
IsTold lines i c true = IsSynced lines i c

told_later : (lines : List Line) (i c : ℕ) (synced : Bool) → IsTold lines i c synced → IsTold lines (i + 1) c synced
told_later lines i c false told = tt
told_later lines i c true told = record { at = told.at; before = (let before = told.before in omega (arith, before)); session = told.session; line = told.line }

is_told : (lines : List Line) (i c : ℕ) (synced : Bool) → synced ≡ true → IsTold lines i c synced → IsSynced lines i c
is_told lines i c true is told = told
is_told lines i c false is told = absurd cc

-- the answers are those in input order, and the rest of the history is of the rest of the requests
pub record GoesOn (options : Options) (s : State) (phase : ℕ) (commands : List Command) (answers : List Answer) (rest : List Request) : Type 0 where
  pub answers_are : answers ≡ answers_from options s phase (map Ok commands)
  pub rest_is : rest ≡ requests_in commands

module _ (options : Options) (lines : List Line) (short : IsRunInShort options lines)
    (own : (i : ℕ) (reading : Reading) (told : Answer) → IsLine lines i reading told → IsOf 1 reading) (most : ℕ) (room : HasRoom most options) where
  -- the state after one request more
  one_more : (c : ℕ) (request : Request) → slice_get short.history c ≡ Some request
      → after_commits options short.history (c + 1) ≡ after (after_commits options short.history c) request
  one_more c request there =
      ap (λ (requests : List Request). state_of options requests) (take_next c short.history request there)
      ∙ state_of-push options (take c short.history) request

  -- behind the last line nothing is left of the history
  none_left : (i c : ℕ) → drop i lines ≡ [] → IsCounted lines i c → drop c short.history ≡ []
  none_left i c last counted =
      let long : length lines ≤ i = omega (arith, length-drop i lines, ap {B = ℕ} length last) in
      elim (cases_lt c (length short.history)) [
        | inl less ↦
            let it = carrier options lines short own (c + 1) (omega arith) (omega (arith, less)) in
            let within = slice_get_within lines it.at _ it.line.there in
            let old = counted.most it.at it.session it.request (c + 1) it.identity it.line (omega (arith, within, long)) in
            absurd (omega (arith, old))
        | inr all ↦ drop_all c short.history all
      ]

  pub goes_on : (commands : List Command) (answers : List Answer) (i c phase : ℕ) (s : State) (synced : Bool)
      → length answers ≡ length commands → drop i lines ≡ zip (map Ok commands) answers
      → IsCounted lines i c → s ≡ after_commits options short.history c → s.revision ≡ c → IsTold lines i c synced
      → Plays s commands → StandsBehindSync synced commands → FitsIn options most s commands
      → GoesOn options s phase commands answers (drop c short.history)
  goes_on [] [] i c phase s synced long here counted is number told plays stands fits =
      record { answers_are = refl; rest_is = none_left i c here counted }
  goes_on [] (a ∷ answers) i c phase s synced long here counted is number told plays stands fits = absurd (omega (arith, long))
  goes_on (first ∷ others) [] i c phase s synced long here counted is number told plays stands fits = absurd (omega (arith, long))
  goes_on (command.Commit session request ∷ others) (a ∷ answers) i c phase s synced long here counted is number told plays stands fits =
      let reading : Reading = Ok (command.Commit session request) in
      let line : IsLine lines i reading a = record { there = drop_here i lines (reading, a) (zip (map Ok others) answers) here } in
      let own_fault : fault_of s request ≡ None = plays.0.no_fault in
      let none : fault_of (after_commits options short.history c) request ≡ None = subst (λ (t : State). fault_of t request ≡ None) is own_fault in
      let now = commits_next options lines short own i c counted session request a line none in
      let next : after s request ≡ after_commits options short.history (c + 1) = ap (λ (t : State). after t request) is ∙ sym (one_more c request now.1) in
      let line_is : IsLine lines i reading (answer.Committed (c + 1) (identity_given (after_commits options short.history (c + 1)) request)) =
      subst (λ (x : Answer). IsLine lines i reading x) now.0 line in
      let rest = goes_on others answers (i + 1) (c + 1) phase (after s request) false (omega (arith, long))
      (drop_next i lines (reading, a) (zip (map Ok others) answers) here)
      (commit_counted lines i c session request (identity_given (after_commits options short.history (c + 1)) request) counted line_is)
      next (omega (arith, number)) tt plays.1 stands fits in
      let numbers : c + 1 ≡ s.revision + 1 = omega (arith, number) in
      let answered : a ≡ commit_answer s request =
      now.0 ∙ (λ j. answer.Committed (numbers j) (identity_given (sym next j) request)) ∙ sym (committed_answer s request (fault_of s request) own_fault) in
      let states = ap (λ (t : State). answers_from options t phase (map Ok others)) (sym (committed_state s request (fault_of s request) own_fault)) in
      record {
        answers_are = λ j. answered j ∷ (rest.answers_are ∙ states) j;
        rest_is = drop_at c short.history request now.1 ∙ ap (λ (requests : List Request). request ∷ requests) rest.rest_is;
      }
  goes_on (command.Look session query ∷ others) (a ∷ answers) i c phase s synced long here counted is number told plays stands fits =
      let reading : Reading = Ok (command.Look session query) in
      let line : IsLine lines i reading a = record { there = drop_here i lines (reading, a) (zip (map Ok others) answers) here } in
      let live : endpoint_of query.endpoint (after_commits options short.history c).endpoints ≡ Some plays.0.0 =
      subst (λ (t : State). endpoint_of query.endpoint t.endpoints ≡ Some plays.0.0) is plays.0.1 in
      let now = verdict_now options lines short own i c counted (is_told lines i c synced stands.0 told) session query plays.0.0 a line live in
      let answered : a ≡ look_answer options s query =
      now ∙ (λ j. answer.Verdict (sym number j) (verdict_for options (sym is j) query plays.0.0)) ∙ sym (found_answer options s query plays.0.0 plays.0.1) in
      let other : is_committed a ≡ false = ap is_committed now in
      let rest = goes_on others answers (i + 1) c phase s synced (omega (arith, long)) (drop_next i lines (reading, a) (zip (map Ok others) answers) here)
      (other_counted lines i c reading a counted line other) is number (told_later lines i c synced told) plays.1 stands.1 fits.1 in
      record { answers_are = λ j. answered j ∷ rest.answers_are j; rest_is = rest.rest_is }
  goes_on (command.Sync session ∷ others) (a ∷ answers) i c phase s synced long here counted is number told plays stands fits =
      let reading : Reading = Ok (command.Sync session) in
      let line : IsLine lines i reading a = record { there = drop_here i lines (reading, a) (zip (map Ok others) answers) here } in
      let small : (endpoint : Endpoint) → map_size options (after_commits options short.history c) endpoint ≤ most =
      subst (λ (t : State). (endpoint : Endpoint) → map_size options t endpoint ≤ most) is fits.0 in
      let now = synced_now options lines short own i c counted session most a room line small in
      let answered : a ≡ answer.Synced s.revision [] = now ∙ (λ j. answer.Synced (sym number j) []) in
      let other : is_committed a ≡ false = ap is_committed now in
      let line_is : IsLine lines i reading (answer.Synced c []) = subst (λ (x : Answer). IsLine lines i reading x) now line in
      let rest = goes_on others answers (i + 1) c phase s true (omega (arith, long)) (drop_next i lines (reading, a) (zip (map Ok others) answers) here)
      (other_counted lines i c reading a counted line other) is number (record { at = i; before = omega arith; session = session; line = line_is })
      plays stands fits.1 in
      record { answers_are = λ j. answered j ∷ rest.answers_are j; rest_is = rest.rest_is }
  goes_on (other ∷ others) (a ∷ answers) i c phase s synced long here counted is number told plays stands fits = absurd stands
