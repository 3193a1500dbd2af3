-- Each answer of a run tells its commit by its text: the names that are printed were read, and the numbers of commits are small.
use Rattle.std.proofs.Common.{◌≡◌, ℕ, suc, ◌+◌, ◌-◌, ◌^◌, ◌<◌, ◌≤◌, Bool, true, false, cond, List, [], ◌∷◌, ◌++◌, length, take, zip, slice_get, bytes_eq, Option, None, Some, option_map, Ok, Err, IsTrue, refl, sym, ap, ◌∙◌, subst, arith, lt-ltb}
use Rattle.std.specs.Cmp.Derive.{both_true}
use Rattle.std.specs.Cmp.Lexicographic.{bytes_decides}
use Rattle.std.specs.List.{AllByRecursion, cons_option, list_all}
use Rattle.std.proofs.lemmas.List.{length-map}
use Rattle.std.proofs.lemmas.List.Folds.{list_all-append}
use Rattle.pol_answer.proofs.TextsTell.{plain_key, plain_name}
use Rattle.pol_answer.specs.Shown.{is_applied_key, is_read_identity}
use Rattle.pol_answer.specs.Text.{has_plain_key, has_plain_name}
use Rattle.pol_answer.specs.declared.answer.Answer.{Answer}
use Rattle.pol_answer.specs.declared.answer.Answer.TheVariants as answer
use Rattle.pol_data.proofs.Members.{Contains-from_In, every-from_in}
use Rattle.pol_model_laws.proofs.Membership.{find-In}
use Rattle.pol_json.specs.Texts.{is_name}
use Rattle.pol_model.specs.After.{state_of}
use Rattle.pol_model.specs.Committed.{identity_given}
use Rattle.pol_model.specs.Endpoints.{endpoint_of}
use Rattle.pol_model.specs.Enforced.{allow_section, deny_section, rule_selects}
use Rattle.pol_model.specs.Explain.{covering_places, covers_query, entry_places, explain_for, rule_places}
use Rattle.pol_model.specs.declared.answer.FullSlot.{FullSlot}
use Rattle.pol_model.specs.declared.answer.Trace.{Trace}
use Rattle.pol_model.specs.declared.options.Options.{Options}
use Rattle.pol_model.specs.declared.request.Query.{Query}
use Rattle.pol_model.specs.declared.request.Request.{Request}
use Rattle.pol_model.specs.declared.row.Endpoint.{Endpoint}
use Rattle.pol_model.specs.declared.row.Stamped.{Stamped}
use Rattle.pol_rule.specs.Covers.{section_of}
use Rattle.pol_rule.specs.declared.policy.Entry.{Entry}
use Rattle.pol_rule.specs.declared.policy.Place.{Place}
use Rattle.pol_rule.specs.declared.policy.PolicyKey.{PolicyKey}
use Rattle.pol_rule.specs.declared.policy.Rule.{Rule}
use Rattle.pol_rule.specs.declared.policy.Section.{Section}
use Rattle.pol_script.specs.Lines.{lines_of}
use Rattle.pol_script.specs.Reading.{reading_of}
use Rattle.pol_script.specs.declared.command.Command.TheVariants as command
use Rattle.pol_run.specs.History.{Commit, commit_at, commits_of, history_of, state_at}
use Rattle.pol_run.specs.RightAnswer.{IsRightCommit, IsRightRow, RightAnswer}
use Rattle.pol_run.specs.Run.{IsNumbered, IsRunOf, readings_of}
use Rattle.pol_run.specs.Spots.{Reading, Spot, phase_after, spots_from, spots_of}
use Rattle.pol_run.specs.Told.{tells_commit}
use Rattle.pol_run.proofs.Counting.{request_kth}
use Rattle.pol_run.proofs.Examples.{some_same}
use Rattle.pol_run.proofs.GivenNumbers.{kth_gives}
use Rattle.pol_run.proofs.Indices.{spot_at}
use Rattle.pol_run.proofs.Lists.{every_contained}
use Rattle.pol_run.proofs.ReadHistory.{BringsRead, endpoint_named, history_read, policy_named, readings_named, taken_read}

-- ---- names that are printed

module _ (key : PolicyKey) (named : is_applied_key key ≡ true) where
  place_where : (passes : Bool) (rule n : ℕ) (section : Section) (others : List Place) → list_all has_plain_key others ≡ true
      → list_all has_plain_key (cond passes (record { key = key; rule = rule; section = section; entry = n } ∷ others) others) ≡ true
  place_where true rule n section others plain =
      let place : Place = record { key = key; rule = rule; section = section; entry = n } in both_true (plain_key place named) plain
  place_where false rule n section others plain = plain

  entries_plain : (passes : Entry → Bool) (rule n : ℕ) (section : Section) (entries : List Entry)
      → list_all has_plain_key (entry_places passes key rule section n entries) ≡ true
  entries_plain passes rule n section [] = refl
  entries_plain passes rule n section (entry ∷ others) =
      place_where (passes entry) rule n section (entry_places passes key rule section (n + 1) others) (entries_plain passes rule (n + 1) section others)

  rule_where : (selected : Bool) (here others : List Place) → list_all has_plain_key here ≡ true → list_all has_plain_key others ≡ true
      → list_all has_plain_key (cond selected (here ++ others) others) ≡ true
  rule_where true here others first plain = list_all-append has_plain_key here others ∙ both_true first plain
  rule_where false here others first plain = plain

  rules_plain : (selected : Rule → Bool) (passes : Entry → Bool) (section : Section) (n : ℕ) (rules : List Rule)
      → list_all has_plain_key (rule_places selected passes key section n rules) ≡ true
  rules_plain selected passes section n [] = refl
  rules_plain selected passes section n (rule ∷ others) =
      rule_where (selected rule) (entry_places passes key n section 0 (section_of section rule)) (rule_places selected passes key section (n + 1) others)
      (entries_plain passes n 0 section (section_of section rule)) (rules_plain selected passes section (n + 1) others)

abbrev IsKeyed : Stamped → Type 0
IsKeyed stamped = is_applied_key stamped.policy.key ≡ true

covering_plain : (policies : List Stamped) (endpoint : Endpoint) (section : Section) (passes : Entry → Bool) → AllByRecursion IsKeyed policies
    → list_all has_plain_key (covering_places policies endpoint section passes) ≡ true
covering_plain [] endpoint section passes every = refl
covering_plain (stamped ∷ policies) endpoint section passes every =
    list_all-append has_plain_key (rule_places (rule_selects endpoint) passes stamped.policy.key section 0 stamped.policy.rules)
    (covering_places policies endpoint section passes)
    ∙ both_true (rules_plain stamped.policy.key every.0 (rule_selects endpoint) passes section 0 stamped.policy.rules)
    (covering_plain policies endpoint section passes every.1)

-- ---- in the states of a run

module _ (options : Options) (spots : List Spot) (every : AllByRecursion BringsRead (history_of spots)) where
  policies_keyed : (revision : ℕ) → AllByRecursion IsKeyed (state_at options spots revision).policies
  policies_keyed revision =
      every-from_in IsKeyed (state_at options spots revision).policies
      (λ p there. policy_named options (take revision (history_of spots)) (taken_read revision (history_of spots) every) p
      (Contains-from_In (state_at options spots revision).policies p there))

  explained_plain : (revision : ℕ) (query : Query) (o : Option Endpoint) (trace : Trace)
      → option_map (explain_for options (state_at options spots revision) query) o ≡ Some trace → tells_commit (answer.Traced revision trace) ≡ true
  explained_plain revision query None trace is = absurd cc
  explained_plain revision query (Some endpoint) trace is =
      let s = state_at options spots revision in
      let same : explain_for options s query endpoint ≡ trace = some_same (explain_for options s query endpoint) trace is in
      subst (λ (t : Trace). tells_commit (answer.Traced revision t) ≡ true) same
      (both_true (covering_plain s.policies endpoint (deny_section query.dir) (covers_query s query) (policies_keyed revision))
      (covering_plain s.policies endpoint (allow_section query.dir) (covers_query s query) (policies_keyed revision)))

  row_plain : (spot : Spot) (synced : ℕ) (row : FullSlot) → IsRightRow options spots spot synced row → has_plain_name row ≡ true
  row_plain spot synced row right =
      let endpoints = (state_at options spots row.revision).endpoints in
      let of = find-In (λ (e : Endpoint). bytes_eq e.name row.name) right.endpoint endpoints right.live.found in
      let named : is_name right.endpoint.name ≡ true =
      endpoint_named options (take row.revision (history_of spots)) (taken_read row.revision (history_of spots) every) right.endpoint
      (Contains-from_In endpoints right.endpoint of.0) in
      let same : right.endpoint.name ≡ row.name = (bytes_decides right.endpoint.name row.name).0 of.1 in
      plain_name row (subst (λ (name : List ℕ). is_name name ≡ true) same named)

  rows_plain : (spot : Spot) (synced : ℕ) (full : List FullSlot) → AllByRecursion (IsRightRow options spots spot synced) full → list_all has_plain_name full ≡ true
  rows_plain spot synced [] right = refl
  rows_plain spot synced (row ∷ full) right = both_true (row_plain spot synced row right.0) (rows_plain spot synced full right.1)

-- ---- numbers of commits

-- a commit's number counts its request in the history
record IsCounted (spots : List Spot) (c : Commit) : Type 0 where
  positive : 1 ≤ c.number
  within : c.number ≤ length (commits_of spots)
  there : slice_get (history_of spots) (c.number - 1) ≡ Some c.request

every_counted : (spots : List Spot) → IsNumbered (commits_of spots) → AllByRecursion (IsCounted spots) (commits_of spots)
every_counted spots numbered =
    every-from_in (IsCounted spots) (commits_of spots)
    (λ c listed.
    let at = Contains-from_In (commits_of spots) c listed in
    let range : (1 ≤ c.number) × (c.number ≤ length (commits_of spots)) =
    every_contained (λ (x : Commit). (1 ≤ x.number) × (x.number ≤ length (commits_of spots))) (commits_of spots) c numbered.from_one at in
    record { positive = range.0; within = range.1; there = request_kth (commits_of spots) c numbered.from_one numbered.each_once at })

commit_tells : (options : Options) (spots : List Spot) (c : Commit) (request : Request) (identity : Option ℕ) → length (commits_of spots) < 2 ^ 64
    → IsCounted spots c → c.request ≡ request → IsRightCommit options spots request c.number identity → tells_commit (answer.Committed c.number identity) ≡ true
commit_tells options spots c request identity few counted is right =
    let k = c.number - 1 in
    let positive = counted.positive in
    let within = counted.within in
    let next : suc k ≡ c.number = omega (arith, positive) in
    let there : slice_get (history_of spots) k ≡ Some request = counted.there ∙ ap (λ (r : Request). Some r) is in
    let given = kth_gives options (history_of spots) k request there right.no_fault in
    let same : identity_given (state_of options (take (suc k) (history_of spots))) request ≡ identity =
    ap (λ (n : ℕ). identity_given (state_of options (take n (history_of spots))) request) next ∙ sym right.identity in
    both_true (lt-ltb c.number (2 ^ 64) (omega (arith, within, few))) (subst (λ (o : Option ℕ). is_read_identity o ≡ true) same given)

-- ---- each answer

abbrev committed : ℕ → ℕ → ℕ → Request → ℕ → Option ℕ → Commit
committed index phase session request revision identity =
    record { number = revision; request = request; spot = spot_at index phase (Ok (command.Commit session request)) (answer.Committed revision identity) }

others_counted : (spots : List Spot) (o : Option Commit) (cs : List Commit) → AllByRecursion (IsCounted spots) (cons_option o cs) → AllByRecursion (IsCounted spots) cs
others_counted spots None cs counted = counted
others_counted spots (Some c) cs counted = counted.1

one_more : (o : Option Commit) (cs : List Commit) (n : ℕ) → length cs ≤ n → length (cons_option o cs) ≤ suc n
one_more None cs n few = omega (arith, few)
one_more (Some c) cs n few = omega (arith, few)

module _ (options : Options) (whole : List Spot) (every : AllByRecursion BringsRead (history_of whole)) (few : length (commits_of whole) < 2 ^ 64) where
  answer_tells : (index phase : ℕ) (reading : Reading) (told : Answer) (cs : List Commit)
      → RightAnswer options whole (spot_at index phase reading told) reading told
      → AllByRecursion (IsCounted whole) (cons_option (commit_at (spot_at index phase reading told)) cs) → tells_commit told ≡ true
  answer_tells index phase (Err fault) (answer.BadLine told) cs right counted = refl
  answer_tells index phase (Ok command.Phase) (answer.Phase number) cs right counted = refl
  answer_tells index phase (Ok (command.Commit session request)) (answer.Committed revision identity) cs right counted =
      let c = committed index phase session request revision identity in
      commit_tells options whole c request identity few counted.0 refl right
  answer_tells index phase (Ok (command.Commit session request)) (answer.Refused refused) cs right counted = refl
  answer_tells index phase (Ok (command.Sync session)) (answer.Synced revision full) cs right counted =
      rows_plain options whole every (spot_at index phase (Ok (command.Sync session)) (answer.Synced revision full)) revision full right.rows
  answer_tells index phase (Ok (command.Look session query)) (answer.Verdict revision word) cs right counted = refl
  answer_tells index phase (Ok (command.Look session query)) (answer.NotYet revision) cs right counted = refl
  answer_tells index phase (Ok (command.Look session query)) (answer.NoEndpoint revision) cs right counted = refl
  answer_tells index phase (Ok (command.Trace session query)) (answer.Traced revision trace) cs right counted =
      explained_plain options whole every revision query (endpoint_of query.endpoint (state_at options whole revision).endpoints) trace right.explains
  answer_tells index phase (Ok (command.Trace session query)) (answer.NoEndpoint revision) cs right counted = refl
  answer_tells index phase reading told cs right counted = absurd right

  answers_tell : (index phase : ℕ) (readings : List Reading) (answers : List Answer) → length answers ≡ length readings
      → AllByRecursion (λ (spot : Spot). RightAnswer options whole spot spot.reading spot.answer) (spots_from index phase (zip readings answers))
      → AllByRecursion (IsCounted whole) (commits_of (spots_from index phase (zip readings answers))) → list_all tells_commit answers ≡ true
  answers_tell index phase readings [] same right counted = refl
  answers_tell index phase [] (a ∷ answers) same right counted = absurd (omega arith)
  answers_tell index phase (reading ∷ readings) (a ∷ answers) same right counted =
      let cs = commits_of (spots_from (index + 1) (phase_after phase reading) (zip readings answers)) in
      both_true (answer_tells index phase reading a cs right.0 counted)
      (answers_tell (index + 1) (phase_after phase reading) readings answers (omega arith) right.1 (others_counted whole (commit_at (spot_at index phase reading a)) cs counted))

-- ---- whole runs

pub commits_few : (index phase : ℕ) (readings : List Reading) (answers : List Answer) → length (commits_of (spots_from index phase (zip readings answers))) ≤ length readings
commits_few index phase [] answers = omega arith
commits_few index phase (reading ∷ readings) [] = omega arith
commits_few index phase (reading ∷ readings) (a ∷ answers) =
    one_more (commit_at (spot_at index phase reading a)) (commits_of (spots_from (index + 1) (phase_after phase reading) (zip readings answers))) (length readings)
    (commits_few (index + 1) (phase_after phase reading) readings answers)

-- the answers of a run on a script of fewer than 2^64 lines
pub run_tells : (options : Options) (script written : List ℕ) (ended : ℕ) (run : IsRunOf options script written ended) → length (lines_of script) < 2 ^ 64
    → IsTrue (list_all tells_commit run.answers)
run_tells options script written ended run small =
    let readings = readings_of script in
    let spots = spots_of (zip readings run.answers) in
    let lines : length readings ≡ length (lines_of script) = length-map (lines_of script) reading_of in
    let few = commits_few 0 1 readings run.answers in
    answers_tell options spots (history_read readings run.answers (readings_named (lines_of script))) (omega (arith, few, lines, small)) 0 1 readings run.answers
    (run.one_each ∙ sym lines) run.run.right (every_counted spots run.run.numbered)
