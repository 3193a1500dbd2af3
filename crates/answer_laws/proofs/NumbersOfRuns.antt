-- The numbers and names of the answers of a run: revisions are at most the commits, and phases at most the lines.
use Rattle.std.proofs.Common.{◌≡◌, ℕ, ◌+◌, ◌^◌, ◌<◌, ◌≤◌, Bool, true, false, cond, List, [], ◌∷◌, ◌++◌, length, take, zip, bytes_eq, Option, None, Some, option_map, Ok, Err, IsTrue, refl, sym, ◌∙◌, subst, arith, lt-ltb}
use Rattle.std.specs.Cmp.Derive.{both_true}
use Rattle.std.specs.Cmp.Lexicographic.{bytes_decides}
use Rattle.std.specs.List.{AllByRecursion, list_all}
use Rattle.std.proofs.lemmas.List.{length-map}
use Rattle.std.proofs.lemmas.List.Folds.{list_all-append}
use Rattle.pol_data.proofs.Members.{Contains-from_In, every-from_in}
use Rattle.pol_model_laws.proofs.Membership.{find-In}
use Rattle.pol_json.specs.Texts.{is_name}
use Rattle.pol_model.specs.Endpoints.{endpoint_of}
use Rattle.pol_model.specs.Enforced.{allow_section, deny_section, rule_selects}
use Rattle.pol_model.specs.Explain.{covering_places, covers_query, entry_places, explain_for, rule_places}
use Rattle.pol_model.specs.declared.answer.FullSlot.{FullSlot}
use Rattle.pol_model.specs.declared.answer.Trace.{Trace}
use Rattle.pol_model.specs.declared.options.Options.{Options}
use Rattle.pol_model.specs.declared.request.Query.{Query}
use Rattle.pol_model.specs.declared.row.Endpoint.{Endpoint}
use Rattle.pol_model.specs.declared.row.Stamped.{Stamped}
use Rattle.pol_rule.specs.Covers.{section_of}
use Rattle.pol_rule.specs.declared.policy.Entry.{Entry}
use Rattle.pol_rule.specs.declared.policy.Place.{Place}
use Rattle.pol_rule.specs.declared.policy.PolicyKey.{PolicyKey}
use Rattle.pol_rule.specs.declared.policy.Rule.{Rule}
use Rattle.pol_rule.specs.declared.policy.Section.{Section}
use Rattle.pol_answer.specs.Shown.{is_applied_key, is_u64}
use Rattle.pol_answer.specs.declared.answer.Answer.{Answer}
use Rattle.pol_answer.specs.declared.answer.Answer.TheVariants as answer
use Rattle.pol_script.proofs.ScriptLaws.{both_parts}
use Rattle.pol_script.specs.Lines.{lines_of}
use Rattle.pol_script.specs.Reading.{reading_of}
use Rattle.pol_script.specs.declared.command.Command.TheVariants as command
use Rattle.pol_run.specs.History.{commits_of, history_of, state_at}
use Rattle.pol_run.specs.Moments.{cap}
use Rattle.pol_run.specs.RightAnswer.{IsRightRow, RightAnswer}
use Rattle.pol_run.specs.Run.{IsNumbered, IsRunOf, readings_of}
use Rattle.pol_run.specs.Spots.{Reading, Spot, phase_after, spots_from, spots_of}
use Rattle.pol_run.specs.Told.{tells_commit}
use Rattle.pol_run.proofs.Caps.{cap_is_cut}
use Rattle.pol_run.proofs.Examples.{some_same}
use Rattle.pol_run.proofs.Indices.{spot_at}
use Rattle.pol_run.proofs.ReadHistory.{BringsRead, endpoint_named, history_read, policy_named, readings_named, taken_read}
use Rattle.pol_run.proofs.RunsTell.{commits_few, run_tells}
use Rattle.answer_laws.specs.Numbers.{has_read_key, has_read_numbers, has_read_row}

-- ---- keys of policies

module _ (key : PolicyKey) (named : is_applied_key key ≡ true) where
  place_keyed : (passes : Bool) (rule n : ℕ) (section : Section) (others : List Place) → list_all has_read_key others ≡ true
      → list_all has_read_key (cond passes (record { key = key; rule = rule; section = section; entry = n } ∷ others) others) ≡ true
  place_keyed true rule n section others keyed = both_true named keyed
  place_keyed false rule n section others keyed = keyed

  entries_keyed : (passes : Entry → Bool) (rule n : ℕ) (section : Section) (entries : List Entry)
      → list_all has_read_key (entry_places passes key rule section n entries) ≡ true
  entries_keyed passes rule n section [] = refl
  entries_keyed passes rule n section (entry ∷ others) =
      place_keyed (passes entry) rule n section (entry_places passes key rule section (n + 1) others) (entries_keyed passes rule (n + 1) section others)

  rule_keyed : (selected : Bool) (here others : List Place) → list_all has_read_key here ≡ true → list_all has_read_key others ≡ true
      → list_all has_read_key (cond selected (here ++ others) others) ≡ true
  rule_keyed true here others first keyed = list_all-append has_read_key here others ∙ both_true first keyed
  rule_keyed false here others first keyed = keyed

  rules_keyed : (selected : Rule → Bool) (passes : Entry → Bool) (section : Section) (n : ℕ) (rules : List Rule)
      → list_all has_read_key (rule_places selected passes key section n rules) ≡ true
  rules_keyed selected passes section n [] = refl
  rules_keyed selected passes section n (rule ∷ others) =
      rule_keyed (selected rule) (entry_places passes key n section 0 (section_of section rule)) (rule_places selected passes key section (n + 1) others)
      (entries_keyed passes n 0 section (section_of section rule)) (rules_keyed selected passes section (n + 1) others)

abbrev IsKeyed : Stamped → Type 0
IsKeyed stamped = is_applied_key stamped.policy.key ≡ true

covering_keyed : (policies : List Stamped) (endpoint : Endpoint) (section : Section) (passes : Entry → Bool) → AllByRecursion IsKeyed policies
    → list_all has_read_key (covering_places policies endpoint section passes) ≡ true
covering_keyed [] endpoint section passes every = refl
covering_keyed (stamped ∷ policies) endpoint section passes every =
    list_all-append has_read_key (rule_places (rule_selects endpoint) passes stamped.policy.key section 0 stamped.policy.rules)
    (covering_places policies endpoint section passes)
    ∙ both_true (rules_keyed stamped.policy.key every.0 (rule_selects endpoint) passes section 0 stamped.policy.rules)
    (covering_keyed policies endpoint section passes every.1)

-- ---- in the states of a run

module _ (options : Options) (spots : List Spot) (every : AllByRecursion BringsRead (history_of spots)) (numbered : IsNumbered (commits_of spots))
    (few : length (commits_of spots) < 2 ^ 64) where
  policies_keyed : (revision : ℕ) → AllByRecursion IsKeyed (state_at options spots revision).policies
  policies_keyed revision =
      every-from_in IsKeyed (state_at options spots revision).policies
      (λ p there. policy_named options (take revision (history_of spots)) (taken_read revision (history_of spots) every) p
      (Contains-from_In (state_at options spots revision).policies p there))

  -- a revision that the line may be answered at has 64 bits
  is_small : (spot : Spot) (revision : ℕ) → revision ≤ cap spots spot → is_u64 revision ≡ true
  is_small spot revision allowed =
      let within = (cap_is_cut spots spot revision numbered allowed).committed in lt-ltb revision (2 ^ 64) (omega (arith, within, few))

  explained_keyed : (spot : Spot) (revision : ℕ) (query : Query) (o : Option Endpoint) (trace : Trace) → revision ≤ cap spots spot
      → option_map (explain_for options (state_at options spots revision) query) o ≡ Some trace → has_read_numbers (answer.Traced revision trace) ≡ true
  explained_keyed spot revision query None trace allowed is = absurd cc
  explained_keyed spot revision query (Some endpoint) trace allowed is =
      let s = state_at options spots revision in
      let same : explain_for options s query endpoint ≡ trace = some_same (explain_for options s query endpoint) trace is in
      subst (λ (t : Trace). has_read_numbers (answer.Traced revision t) ≡ true) same
      (both_true (both_true (is_small spot revision allowed)
      (covering_keyed s.policies endpoint (deny_section query.dir) (covers_query s query) (policies_keyed revision)))
      (covering_keyed s.policies endpoint (allow_section query.dir) (covers_query s query) (policies_keyed revision)))

  row_read : (spot : Spot) (synced : ℕ) (row : FullSlot) → IsRightRow options spots spot synced row → has_read_row row ≡ true
  row_read spot synced row right =
      let endpoints = (state_at options spots row.revision).endpoints in
      let of = find-In (λ (e : Endpoint). bytes_eq e.name row.name) right.endpoint endpoints right.live.found in
      let named : is_name right.endpoint.name ≡ true =
      endpoint_named options (take row.revision (history_of spots)) (taken_read row.revision (history_of spots) every) right.endpoint
      (Contains-from_In endpoints right.endpoint of.0) in
      let same : right.endpoint.name ≡ row.name = (bytes_decides right.endpoint.name row.name).0 of.1 in
      both_true (subst (λ (name : List ℕ). is_name name ≡ true) same named) (is_small spot row.revision right.allowed)

  rows_read : (spot : Spot) (synced : ℕ) (full : List FullSlot) → AllByRecursion (IsRightRow options spots spot synced) full → list_all has_read_row full ≡ true
  rows_read spot synced [] right = refl
  rows_read spot synced (row ∷ full) right = both_true (row_read spot synced row right.0) (rows_read spot synced full right.1)

  -- ---- each answer

  answer_read : (index phase : ℕ) (reading : Reading) (told : Answer) → phase < 2 ^ 64
      → RightAnswer options spots (spot_at index phase reading told) reading told → tells_commit told ≡ true → has_read_numbers told ≡ true
  answer_read index phase (Err fault) (answer.BadLine told) small right tells = refl
  answer_read index phase (Ok command.Phase) (answer.Phase number) small right tells = lt-ltb number (2 ^ 64) (omega (arith, right, small))
  answer_read index phase (Ok (command.Commit session request)) (answer.Committed revision identity) small right tells = tells
  answer_read index phase (Ok (command.Commit session request)) (answer.Refused refused) small right tells =
      is_small (spot_at index phase (Ok (command.Commit session request)) (answer.Refused refused)) refused.revision right.moment.allowed
  answer_read index phase (Ok (command.Sync session)) (answer.Synced revision full) small right tells =
      let spot = spot_at index phase (Ok (command.Sync session)) (answer.Synced revision full) in
      both_true (is_small spot revision right.is_moment.allowed) (rows_read spot revision full right.rows)
  answer_read index phase (Ok (command.Look session query)) (answer.Verdict revision word) small right tells =
      let by_moment = right.by_moment in
      let allowed = right.is_moment.allowed in
      is_small (spot_at index phase (Ok (command.Look session query)) (answer.Verdict revision word)) revision (omega (arith, by_moment, allowed))
  answer_read index phase (Ok (command.Look session query)) (answer.NotYet revision) small right tells =
      is_small (spot_at index phase (Ok (command.Look session query)) (answer.NotYet revision)) revision right.is_moment.allowed
  answer_read index phase (Ok (command.Look session query)) (answer.NoEndpoint revision) small right tells =
      is_small (spot_at index phase (Ok (command.Look session query)) (answer.NoEndpoint revision)) revision right.is_moment.allowed
  answer_read index phase (Ok (command.Trace session query)) (answer.Traced revision trace) small right tells =
      explained_keyed (spot_at index phase (Ok (command.Trace session query)) (answer.Traced revision trace)) revision query
      (endpoint_of query.endpoint (state_at options spots revision).endpoints) trace right.is_moment.allowed right.explains
  answer_read index phase (Ok (command.Trace session query)) (answer.NoEndpoint revision) small right tells =
      is_small (spot_at index phase (Ok (command.Trace session query)) (answer.NoEndpoint revision)) revision right.is_moment.allowed
  answer_read index phase reading told small right tells = absurd right

  phase_grows : (phase : ℕ) (reading : Reading) → phase_after phase reading ≤ phase + 1
  phase_grows phase (Err fault) = omega arith
  phase_grows phase (Ok command.Phase) = omega arith
  phase_grows phase (Ok (command.Commit session request)) = omega arith
  phase_grows phase (Ok (command.Look session query)) = omega arith
  phase_grows phase (Ok (command.Trace session query)) = omega arith
  phase_grows phase (Ok (command.Sync session)) = omega arith

  -- a line's phase is at most one more than the lines before it
  answers_read : (index phase : ℕ) (readings : List Reading) (answers : List Answer) → length answers ≡ length readings → phase + length readings ≤ 2 ^ 64
      → AllByRecursion (λ (spot : Spot). RightAnswer options spots spot spot.reading spot.answer) (spots_from index phase (zip readings answers))
      → list_all tells_commit answers ≡ true → list_all has_read_numbers answers ≡ true
  answers_read index phase readings [] same small right tells = refl
  answers_read index phase [] (a ∷ answers) same small right tells = absurd (omega arith)
  answers_read index phase (reading ∷ readings) (a ∷ answers) same small right tells =
      let told = both_parts (tells_commit a) (list_all tells_commit answers) tells in
      let grows = phase_grows phase reading in
      both_true (answer_read index phase reading a (omega (arith, small)) right.0 told.0)
      (answers_read (index + 1) (phase_after phase reading) readings answers (omega arith) (omega (arith, small, grows)) right.1 told.1)

-- ---- whole runs

pub run_read : (options : Options) (script written : List ℕ) (ended : ℕ) (run : IsRunOf options script written ended) → length (lines_of script) < 2 ^ 64
    → IsTrue (list_all has_read_numbers run.answers)
run_read options script written ended run small =
    let readings = readings_of script in
    let spots = spots_of (zip readings run.answers) in
    let lines : length readings ≡ length (lines_of script) = length-map (lines_of script) reading_of in
    let few = commits_few 0 1 readings run.answers in
    answers_read options spots (history_read readings run.answers (readings_named (lines_of script))) run.run.numbered (omega (arith, few, lines, small)) 0 1 readings
    run.answers (run.one_each ∙ sym lines) (omega (arith, lines, small)) run.run.right (run_tells options script written ended run small)
