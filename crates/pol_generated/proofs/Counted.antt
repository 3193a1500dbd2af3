-- The requests of a generated script are those of its lines, there are 32 and one for each round, and each is answered by a
-- commit. There are 32 queries behind every tenth round and behind the last, and each is answered by a verdict.
use Rattle.std.proofs.Common.{◌≡◌, ℕ, zero, suc, ◌+◌, ◌*◌, ◌/◌, ◌%◌, ◌==◌, Bool, true, false, cond, List, [], ◌∷◌, ◌++◌, length, map, Option, None, Some, option_map, Ok, inl, inr, refl, sym, ap, ◌∙◌, subst, arith}
use Rattle.std.specs.List.{count_by, flat_map, range_with_len}
use Rattle.std.proofs.lemmas.Bool.{cases_eq, eq-eqb, ne_eqb}
use Rattle.std.proofs.lemmas.List.Sums.{sum_by-append}
use Rattle.pol_answer.specs.declared.answer.Answer.{Answer}
use Rattle.pol_answer.specs.declared.answer.Answer.TheVariants as answer
use Rattle.pol_data.proofs.Counts.{count_by-cons}
use Rattle.pol_gen.specs.Draws.{after as after_draws}
use Rattle.pol_gen.specs.Generated.{draws_before, generated}
use Rattle.pol_mapkey.specs.declared.Word.{Word}
use Rattle.pol_model.specs.After.{after, start}
use Rattle.pol_model.specs.Endpoints.{endpoint_of}
use Rattle.pol_model.specs.Explain.{explain_for}
use Rattle.pol_model.specs.Fault.{fault_of}
use Rattle.pol_model.specs.State.{State}
use Rattle.pol_model.specs.declared.answer.Fault.{Fault}
use Rattle.pol_model.specs.declared.answer.Trace.{Trace}
use Rattle.pol_model.specs.declared.options.Options.{Options}
use Rattle.pol_model.specs.declared.request.Query.{Query}
use Rattle.pol_model.specs.declared.request.Request.{Request}
use Rattle.pol_model.specs.declared.row.Endpoint.{Endpoint}
use Rattle.pol_run.specs.Run.{readings_of}
use Rattle.pol_run.specs.Serial.{answer_at_endpoint, answer_to_commit, answer_with_trace, answers_from, commit_answer, look_answer, serial_answers, state_with, trace_answer}
use Rattle.pol_run.specs.Spots.{Reading, phase_after}
use Rattle.pol_script.specs.declared.command.Command.{Command}
use Rattle.pol_script.specs.declared.command.Command.TheVariants as command
use Rattle.pol_generated.specs.Asked as asked
use Rattle.pol_generated.specs.Requests.{is_committed, is_verdict, requests_asked, requests_in, requests_read}
use Rattle.pol_generated.proofs.Faultless.{asked_plays}
use Rattle.pol_generated.proofs.Plays.{Plays, committed_state}
use Rattle.pol_generated.proofs.Script.{lines_are_read}

-- ---- they are those of the lines

read_back : (commands : List Command) → requests_read (map Ok commands) ≡ requests_in commands
read_back [] = refl
read_back (command.Commit session request ∷ others) = ap (λ (rs : List Request). request ∷ rs) (read_back others)
read_back (command.Look session query ∷ others) = read_back others
read_back (command.Trace session query ∷ others) = read_back others
read_back (command.Sync session ∷ others) = read_back others
read_back (command.Phase ∷ others) = read_back others

pub requests_of_lines : (n : ℕ) → requests_read (readings_of (generated n)) ≡ requests_asked n
requests_of_lines n =
    let read : readings_of (generated n) ≡ map Ok (asked.asked n) = lines_are_read n in ap requests_read read ∙ read_back (asked.asked n)

-- ---- how many commands pass a test

abbrev is_request : Command → Bool
is_request (command.Commit session request) = true
is_request _ = false

abbrev is_query : Command → Bool
is_query (command.Look session query) = true
is_query _ = false

module _ (asks : Command → Bool) where
  both_many : (a b : List Command) → count_by asks (a ++ b) ≡ count_by asks a + count_by asks b
  both_many a b = sum_by-append (λ (c : Command). cond (asks c) 1 0) a b

  each_none : (commands : ℕ → List Command) → ((i : ℕ) → count_by asks (commands i) ≡ 0) → (a n : ℕ)
      → count_by asks (flat_map commands (range_with_len a n)) ≡ 0
  each_none commands each a zero = refl
  each_none commands each a (suc n) =
      both_many (commands a) (flat_map commands (range_with_len (a + 1) n)) ∙ (λ i. each a i + each_none commands each (a + 1) n i)

  each_one : (commands : ℕ → List Command) → ((i : ℕ) → count_by asks (commands i) ≡ 1) → (a n : ℕ)
      → count_by asks (flat_map commands (range_with_len a n)) ≡ n
  each_one commands each a zero = refl
  each_one commands each a (suc n) =
      both_many (commands a) (flat_map commands (range_with_len (a + 1) n)) ∙ (λ i. each a i + each_one commands each (a + 1) n i) ∙ omega arith

  -- the parts of the script
  parts_many : (n : ℕ) → count_by asks (asked.asked n)
      ≡ count_by asks (asked.endpoints n) + count_by asks (flat_map (asked.round_commands n) (range_with_len 0 n)) + count_by asks (asked.last_check n)
  parts_many n =
      let first = asked.endpoints n in
      let rounds = flat_map (asked.round_commands n) (range_with_len 0 n) in
      both_many (first ++ rounds) (asked.last_check n) ∙ ap (λ k. k + count_by asks (asked.last_check n)) (both_many first rounds)

-- ---- requests: one for each endpoint and one for each round

check_requests : (x : ℕ) → count_by is_request (asked.check x) ≡ 0
check_requests x =
    count_by-cons is_request (command.Sync 1) (flat_map (λ (i : ℕ). asked.verdict_command i (after_draws (2 * i) x) ∷ []) (range_with_len 0 32))
    ∙ ap (λ k. 0 + k) (each_none is_request (λ i. asked.verdict_command i (after_draws (2 * i) x) ∷ []) (λ i. refl) 0 32)

requests_where : (b : Bool) (x : ℕ) → count_by is_request (cond b (asked.check x) []) ≡ 0
requests_where true x = check_requests x
requests_where false x = refl

requests_unless : (b : Bool) (x : ℕ) → count_by is_request (cond b [] (asked.check x)) ≡ 0
requests_unless true x = refl
requests_unless false x = check_requests x

round_requests : (n round : ℕ) → count_by is_request (asked.round_commands n round) ≡ 1
round_requests n round =
    both_many is_request (asked.apply_command (after_draws (draws_before round) n) ∷ []) (asked.check_behind n round)
    ∙ ap (λ k. 1 + k) (requests_where ((round + 1) % 10 == 0) (after_draws (draws_before round + 6) n))

requests_many : (n : ℕ) → count_by is_request (asked.asked n) ≡ 32 + n
requests_many n =
    let endpoints : count_by is_request (asked.endpoints n) ≡ 32 = each_one is_request (λ i. asked.endpoint_command i (after_draws i n) ∷ []) (λ i. refl) 0 32 in
    let policies : count_by is_request (flat_map (asked.round_commands n) (range_with_len 0 n)) ≡ n =
    each_one is_request (asked.round_commands n) (round_requests n) 0 n in
    let last : count_by is_request (asked.last_check n) ≡ 0 = requests_unless (n % 10 == 0) (after_draws (draws_before n) n) in
    omega (arith, parts_many is_request n, endpoints, policies, last)

requests_length : (commands : List Command) → length (requests_in commands) ≡ count_by is_request commands
requests_length [] = refl
requests_length (command.Commit session request ∷ others) = omega (arith, count_by-cons is_request (command.Commit session request) others, requests_length others)
requests_length (command.Look session query ∷ others) = omega (arith, count_by-cons is_request (command.Look session query) others, requests_length others)
requests_length (command.Trace session query ∷ others) = omega (arith, count_by-cons is_request (command.Trace session query) others, requests_length others)
requests_length (command.Sync session ∷ others) = omega (arith, count_by-cons is_request (command.Sync session) others, requests_length others)
requests_length (command.Phase ∷ others) = omega (arith, count_by-cons is_request command.Phase others, requests_length others)

pub requests_counted : (n : ℕ) → length (requests_asked n) ≡ 32 + n
requests_counted n = requests_length (asked.asked n) ∙ requests_many n

-- ---- queries: 32 in each check

check_queries : (x : ℕ) → count_by is_query (asked.check x) ≡ 32
check_queries x =
    count_by-cons is_query (command.Sync 1) (flat_map (λ (i : ℕ). asked.verdict_command i (after_draws (2 * i) x) ∷ []) (range_with_len 0 32))
    ∙ ap (λ k. 0 + k) (each_one is_query (λ i. asked.verdict_command i (after_draws (2 * i) x) ∷ []) (λ i. refl) 0 32)

queries_where : (b : Bool) (x : ℕ) → count_by is_query (cond b (asked.check x) []) ≡ cond b 32 0
queries_where true x = check_queries x
queries_where false x = refl

queries_unless : (b : Bool) (x : ℕ) → count_by is_query (cond b [] (asked.check x)) ≡ cond b 0 32
queries_unless true x = refl
queries_unless false x = check_queries x

-- with a tenth round the quotient rises
tenth : (k : ℕ) → cond ((k + 1) % 10 == 0) 32 0 + 32 * (k / 10) ≡ 32 * ((k + 1) / 10)
tenth k =
    elim (cases_eq ((k + 1) % 10) 0) [
      | inl is ↦ let test = eq-eqb ((k + 1) % 10) 0 is in rw test (omega (arith, is))
      | inr not_so ↦ let test = ne_eqb ((k + 1) % 10) 0 not_so in rw test (omega (arith, not_so))
    ]

last_tenth : (n : ℕ) → 32 * (n / 10) + cond (n % 10 == 0) 0 32 ≡ 32 * ((n + 9) / 10)
last_tenth n =
    elim (cases_eq (n % 10) 0) [
      | inl is ↦ let test = eq-eqb (n % 10) 0 is in rw test (omega (arith, is))
      | inr not_so ↦ let test = ne_eqb (n % 10) 0 not_so in rw test (omega (arith, not_so))
    ]

round_queries : (n round : ℕ) → count_by is_query (asked.round_commands n round) ≡ cond ((round + 1) % 10 == 0) 32 0
round_queries n round =
    both_many is_query (asked.apply_command (after_draws (draws_before round) n) ∷ []) (asked.check_behind n round)
    ∙ ap (λ k. 0 + k) (queries_where ((round + 1) % 10 == 0) (after_draws (draws_before round + 6) n)) ∙ omega arith

rounds_queries : (n a k : ℕ) → count_by is_query (flat_map (asked.round_commands n) (range_with_len a k)) + 32 * (a / 10) ≡ 32 * ((a + k) / 10)
rounds_queries n a zero = let same : a + 0 ≡ a = omega arith in rw same (omega arith)
rounds_queries n a (suc k) =
    let same : a + suc k ≡ a + 1 + k = omega arith in
    rw same
    (omega (
      arith,
      both_many is_query (asked.round_commands n a) (flat_map (asked.round_commands n) (range_with_len (a + 1) k)),
      round_queries n a,
      tenth a,
      rounds_queries n (a + 1) k,
    ))

queries_many : (n : ℕ) → count_by is_query (asked.asked n) ≡ 32 * ((n + 9) / 10)
queries_many n =
    let endpoints : count_by is_query (asked.endpoints n) ≡ 0 = each_none is_query (λ i. asked.endpoint_command i (after_draws i n) ∷ []) (λ i. refl) 0 32 in
    let rounds : count_by is_query (flat_map (asked.round_commands n) (range_with_len 0 n)) + 32 * (0 / 10) ≡ 32 * ((0 + n) / 10) = rounds_queries n 0 n in
    let all : 0 + n ≡ n = omega arith in
    let rounds_all : count_by is_query (flat_map (asked.round_commands n) (range_with_len 0 n)) ≡ 32 * (n / 10) = omega (arith, rounds, ap {B = ℕ} (λ k. 32 * (k / 10)) all) in
    let last : count_by is_query (asked.last_check n) ≡ cond (n % 10 == 0) 0 32 = queries_unless (n % 10 == 0) (after_draws (draws_before n) n) in
    omega (arith, parts_many is_query n, endpoints, rounds_all, last, last_tenth n)

-- ---- each is answered by its kind of answer

-- an answer passes a test where its command passes another, kind by kind
pub record Agree (test : Answer → Bool) (asks : Command → Bool) : Type 0 where
  pub commits : (session revision : ℕ) (request : Request) (identity : Option ℕ) → test (answer.Committed revision identity) ≡ asks (command.Commit session request)
  pub looks : (session revision : ℕ) (query : Query) (word : Word) → test (answer.Verdict revision word) ≡ asks (command.Look session query)
  pub traces : (session revision : ℕ) (query : Query) (trace : Trace) → test (answer.Traced revision trace) ≡ asks (command.Trace session query)
  pub syncs : (session revision : ℕ) → test (answer.Synced revision []) ≡ asks (command.Sync session)
  pub phases : (number : ℕ) → test (answer.Phase number) ≡ asks command.Phase

module _ (test : Answer → Bool) (asks : Command → Bool) (agree : Agree test asks) where
  committed : (s : State) (session : ℕ) (request : Request) (fault : Option Fault) → fault ≡ None
      → test (answer_to_commit s (state_with s request fault) request fault) ≡ asks (command.Commit session request)
  committed s session request None none = agree.commits session _ request _
  committed s session request (Some fault) none = absurd cc

  looked : (options : Options) (s : State) (session : ℕ) (query : Query) (o : Option Endpoint) (endpoint : Endpoint) → o ≡ Some endpoint
      → test (answer_at_endpoint options s query o) ≡ asks (command.Look session query)
  looked options s session query None endpoint found = absurd cc
  looked options s session query (Some e) endpoint found = agree.looks session _ query _

  traced : (options : Options) (s : State) (session : ℕ) (query : Query) (o : Option Endpoint) (endpoint : Endpoint) → o ≡ Some endpoint
      → test (answer_with_trace s (option_map (explain_for options s query) o)) ≡ asks (command.Trace session query)
  traced options s session query None endpoint found = absurd cc
  traced options s session query (Some e) endpoint found = agree.traces session _ query _

  one_more : (a : Answer) (c : Command) (answers : List Answer) (commands : List Command) → test a ≡ asks c
      → count_by test answers ≡ count_by asks commands → count_by test (a ∷ answers) ≡ count_by asks (c ∷ commands)
  one_more a c answers commands same rest =
      count_by-cons test a answers ∙ (λ i. cond (same i) 1 0 + rest i) ∙ sym (count_by-cons asks c commands)

  plays_counted : (options : Options) (s : State) (phase : ℕ) (commands : List Command) → Plays s commands
      → count_by test (answers_from options s phase (map Ok commands)) ≡ count_by asks commands
  plays_counted options s phase [] plays = refl
  plays_counted options s phase (command.Commit session request ∷ others) plays =
      let none = plays.0.no_fault in
      subst (λ (next : State). count_by test (commit_answer s request ∷ answers_from options next phase (map Ok others)) ≡ count_by asks (command.Commit session request ∷ others))
      (sym (committed_state s request (fault_of s request) none))
      (one_more (commit_answer s request) (command.Commit session request) (answers_from options (after s request) phase (map Ok others)) others
      (committed s session request (fault_of s request) none) (plays_counted options (after s request) phase others plays.1))
  plays_counted options s phase (command.Look session query ∷ others) plays =
      one_more (look_answer options s query) (command.Look session query) (answers_from options s phase (map Ok others)) others
      (looked options s session query (endpoint_of query.endpoint s.endpoints) plays.0.0 plays.0.1) (plays_counted options s phase others plays.1)
  plays_counted options s phase (command.Trace session query ∷ others) plays =
      one_more (trace_answer options s query) (command.Trace session query) (answers_from options s phase (map Ok others)) others
      (traced options s session query (endpoint_of query.endpoint s.endpoints) plays.0.0 plays.0.1) (plays_counted options s phase others plays.1)
  plays_counted options s phase (command.Sync session ∷ others) plays =
      one_more (answer.Synced s.revision []) (command.Sync session) (answers_from options s phase (map Ok others)) others (agree.syncs session s.revision)
      (plays_counted options s phase others plays)
  plays_counted options s phase (command.Phase ∷ others) plays =
      let next = phase_after phase (Ok command.Phase) in
      one_more (answer.Phase phase) command.Phase (answers_from options s next (map Ok others)) others (agree.phases phase)
      (plays_counted options s next others plays)

  script_counted : (options : Options) (n : ℕ) → count_by test (serial_answers options (readings_of (generated n))) ≡ count_by asks (asked.asked n)
  script_counted options n =
      let read : readings_of (generated n) ≡ map Ok (asked.asked n) = lines_are_read n in
      ap (λ (readings : List Reading). count_by test (serial_answers options readings)) read
      ∙ plays_counted options (start options) 1 (asked.asked n) (asked_plays options n)

pub commits_counted : (options : Options) (n : ℕ) → count_by is_committed (serial_answers options (readings_of (generated n))) ≡ 32 + n
commits_counted options n =
    let agree : Agree is_committed is_request =
    record {
      commits = λ session revision request identity. refl;
      looks = λ session revision query word. refl;
      traces = λ session revision query trace. refl;
      syncs = λ session revision. refl;
      phases = λ number. refl;
    } in
    script_counted is_committed is_request agree options n ∙ requests_many n

pub verdicts_counted : (options : Options) (n : ℕ) → count_by is_verdict (serial_answers options (readings_of (generated n))) ≡ 32 * ((n + 9) / 10)
verdicts_counted options n =
    let agree : Agree is_verdict is_query =
    record {
      commits = λ session revision request identity. refl;
      looks = λ session revision query word. refl;
      traces = λ session revision query trace. refl;
      syncs = λ session revision. refl;
      phases = λ number. refl;
    } in
    script_counted is_verdict is_query agree options n ∙ queries_many n
