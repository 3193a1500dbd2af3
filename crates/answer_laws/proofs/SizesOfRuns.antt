-- The sizes of the answers of a run: places and faults by the bytes of the lines, counts of rows by the keys that there are, and the other
-- side of an explanation by the numbers of its state.
use Rattle.std.proofs.Common.{◌≡◌, ℕ, suc, ◌+◌, ◌-◌, ◌^◌, ◌<◌, ◌≤◌, ◌==◌, Bool, true, false, cond, List, [], ◌∷◌, ◌++◌, length, take, map, zip, Option, None, Some, option_map, Ok, Err, IsTrue, refl, sym, ◌∙◌, subst, arith, lt-ltb}
use Rattle.std.specs.Cmp.Derive.{both_true}
use Rattle.std.specs.List.{AllByRecursion, list_all}
use Rattle.std.proofs.lemmas.List.{length-append, length-map}
use Rattle.std.proofs.lemmas.List.Folds.{list_all-append}
use Rattle.pol_data.proofs.Every.{every-take}
use Rattle.pol_data.proofs.Members.{Contains-from_In, every-from_in}
use Rattle.pol_model.specs.After.{state_of}
use Rattle.pol_model.specs.Endpoints.{endpoint_of}
use Rattle.pol_model.specs.Enforced.{allow_section, deny_section, rule_selects}
use Rattle.pol_model.specs.Explain.{covering_places, covers_query, entry_places, explain_for, rule_places}
use Rattle.pol_model.specs.Remote.{number_at, remote_number}
use Rattle.pol_model.specs.declared.answer.FullSlot.{FullSlot}
use Rattle.pol_model.specs.declared.answer.Trace.{Trace}
use Rattle.pol_model.specs.declared.options.Options.{Options}
use Rattle.pol_model.specs.declared.request.Query.{Query}
use Rattle.pol_model.specs.declared.request.Remote.{Remote}
use Rattle.pol_model.specs.declared.request.Remote.TheVariants as remote
use Rattle.pol_model.specs.declared.request.Request.{Request}
use Rattle.pol_model.specs.declared.request.Request.TheVariants.{Apply}
use Rattle.pol_model.specs.declared.row.Endpoint.{Endpoint}
use Rattle.pol_model.specs.declared.row.Stamped.{Stamped}
use Rattle.pol_model_laws.proofs.Remembered.{applied-by}
use Rattle.pol_model_laws.specs.Keeps.{Keeps}
use Rattle.pol_rule.specs.Covers.{section_of}
use Rattle.pol_rule.specs.declared.policy.Entry.{Entry}
use Rattle.pol_rule.specs.declared.policy.Place.{Place}
use Rattle.pol_rule.specs.declared.policy.PolicyKey.{PolicyKey}
use Rattle.pol_rule.specs.declared.policy.Rule.{Rule}
use Rattle.pol_rule.specs.declared.policy.Section.{Section}
use Rattle.pol_rule.specs.declared.policy.Section.TheVariants as section
use Rattle.pol_answer.specs.Shown.{is_read_entry, is_read_fault, is_u64}
use Rattle.pol_answer.specs.declared.answer.Answer.{Answer}
use Rattle.pol_answer.specs.declared.answer.Answer.TheVariants as answer
use Rattle.pol_script.specs.Lines.{last_line, lines_from, lines_of, newline}
use Rattle.pol_script.specs.Reading.{reading_of}
use Rattle.pol_script.specs.declared.command.Command.TheVariants as command
use Rattle.pol_script.specs.declared.line_fault.LineFault.{LineFault}
use Rattle.pol_script.specs.declared.line_fault.LineFault.TheVariants as fault
use Rattle.pol_run.proofs.Examples.{some_same}
use Rattle.pol_run.proofs.Indices.{spot_at}
use Rattle.pol_run.proofs.Lists.{every_weaker}
use Rattle.pol_run.specs.History.{history_of, state_at}
use Rattle.pol_run.specs.RightAnswer.{IsRightRow, RightAnswer}
use Rattle.pol_run.specs.Run.{IsRunOf, readings_of}
use Rattle.pol_run.specs.Spots.{Reading, Spot, phase_after, spots_from, spots_of}
use Rattle.answer_laws.proofs.HistoriesOfRuns.{Brings, brought_at, history_brings}
use Rattle.answer_laws.proofs.ReadSizes.{BringsShort, IsSmallReading, IsSmallRemote, reading_small}
use Rattle.answer_laws.proofs.ShortPolicies.{IsSmallFault}
use Rattle.answer_laws.proofs.SmallKeys.{map_few}
use Rattle.answer_laws.proofs.SmallNumbers.{IsSmallState, at_small, keeps_small}
use Rattle.answer_laws.proofs.StatesOfRuns.{run_keeps}
use Rattle.answer_laws.specs.Numbers.{has_read_sizes, has_small_count, is_small_place}
use Rattle.answer_laws.specs.Short.{HasShortSections, IsShortPlace, IsShortPolicy}

-- ---- the lines of a script

abbrev IsWithin : ℕ → List ℕ → Type 0
IsWithin n line = length line ≤ n

record AreLines (n : ℕ) (lines : List (List ℕ)) : Type 0 where
  count : length lines ≤ n
  each : AllByRecursion (IsWithin n) lines

more_room : (m n : ℕ) → m ≤ n → (lines : List (List ℕ)) → AllByRecursion (IsWithin m) lines → AllByRecursion (IsWithin n) lines
more_room m n room lines each = every_weaker (IsWithin m) (IsWithin n) (λ line (few : length line ≤ m). omega (arith, few, room)) lines each

last_within : (begun : List ℕ) → AreLines (length begun) (last_line begun)
last_within [] = record { count = omega arith; each = tt }
last_within (byte ∷ bytes) = record { count = omega arith; each = (omega arith, tt) }

cut_within : (b : Bool) (n m : ℕ) (begun : List ℕ) (rest others : List (List ℕ)) → length begun ≤ n → suc m ≤ n → AreLines m rest → AreLines n others → AreLines n (cond b (begun ∷ rest) others)
cut_within true n m begun rest others own room here more =
    let few = here.count in record { count = omega (arith, few, room); each = (own, more_room m n (omega (arith, room)) rest here.each) }
cut_within false n m begun rest others own room here more = more

lines_within : (begun bytes : List ℕ) (n : ℕ) → length begun + length bytes ≤ n → AreLines n (lines_from begun bytes)
lines_within begun [] n room =
    let last = last_within begun in
    let few = last.count in
    record { count = omega (arith, few, room); each = more_room (length begun) n (omega (arith, room)) (last_line begun) last.each }
lines_within begun (byte ∷ bytes) n room =
    let longer = length-append begun (byte ∷ []) in
    cut_within (byte == newline) n (length bytes) begun (lines_from [] bytes) (lines_from (begun ++ byte ∷ []) bytes) (omega (arith, room)) (omega (arith, room))
    (lines_within [] bytes (length bytes) (omega arith)) (lines_within (begun ++ byte ∷ []) bytes n (omega (arith, longer, room)))

-- ---- what they read as

weaker_sections : (m n : ℕ) → m ≤ n → (rules : List Rule) → AllByRecursion (HasShortSections m) rules → AllByRecursion (HasShortSections n) rules
weaker_sections m n room [] each = tt
weaker_sections m n room (rule ∷ rules) each =
    let a = each.0.ingress in
    let b = each.0.ingress_deny in
    let c = each.0.egress in
    let d = each.0.egress_deny in (
      record { ingress = omega (arith, a, room); ingress_deny = omega (arith, b, room); egress = omega (arith, c, room); egress_deny = omega (arith, d, room) },
      weaker_sections m n room rules each.1,
    )

weaker_brings : (m n : ℕ) → m ≤ n → (request : Request) → BringsShort m request → BringsShort n request
weaker_brings m n room (Apply policy) short =
    let few = short.rules in record { rules = omega (arith, few, room); sections = weaker_sections m n room policy.rules short.sections }
weaker_brings m n room other short = tt

weaker_place : (m n : ℕ) → m ≤ n → (at : Option (Section × ℕ)) → IsShortPlace m at → IsShortPlace n at
weaker_place m n room None short = tt
weaker_place m n room (Some at) short = omega (arith, short, room)

weaker_fault : (m n : ℕ) → m ≤ n → (f : LineFault) → IsSmallFault m f → IsSmallFault n f
weaker_fault m n room (fault.Rule told) short =
    let below = short.rule in record { cause = short.cause; rule = omega (arith, below, room); place = weaker_place m n room told.«at» short.place }
weaker_fault m n room other short = tt

weaker_reading : (m n : ℕ) → m ≤ n → (reading : Reading) → IsSmallReading m reading → IsSmallReading n reading
weaker_reading m n room (Ok (command.Commit session request)) small = weaker_brings m n room request small
weaker_reading m n room (Ok (command.Trace session query)) small = small
weaker_reading m n room (Ok other) small = tt
weaker_reading m n room (Err f) small = weaker_fault m n room f small

readings_small : (n : ℕ) (lines : List (List ℕ)) → AllByRecursion (IsWithin n) lines → AllByRecursion (IsSmallReading n) (map reading_of lines)
readings_small n [] each = tt
readings_small n (line ∷ lines) each = (weaker_reading (length line) n each.0 (reading_of line) (reading_small line), readings_small n lines each.1)

brings_of : (n : ℕ) (reading : Reading) → IsSmallReading n reading → Brings (BringsShort n) reading
brings_of n (Ok (command.Commit session request)) small = small
brings_of n (Ok other) small = tt
brings_of n (Err f) small = tt

-- ---- the policies of a state

module _ (n : ℕ) where
  -- the policies of a state
  abbrev IsShortStamped : Stamped → Type 0
  IsShortStamped stamped = IsShortPolicy n stamped.policy

  policies_short : (options : Options) (requests : List Request) → AllByRecursion (BringsShort n) requests → AllByRecursion IsShortStamped (state_of options requests).policies
  policies_short options requests every =
      every-from_in IsShortStamped (state_of options requests).policies
      (λ p there. brought_at (BringsShort n) requests (p.stamp - 1) (Apply p.policy) every (applied-by options requests p (Contains-from_In (state_of options requests).policies p there)).1)

-- ---- places

module _ (n : ℕ) (few : n < 2 ^ 64) (key : PolicyKey) where
  place_small : (passes : Bool) (rule entry : ℕ) (section : Section) (others : List Place) → rule < n → entry < n → list_all is_small_place others ≡ true
      → list_all is_small_place (cond passes (record { key = key; rule = rule; section = section; entry = entry } ∷ others) others) ≡ true
  place_small true rule entry section others below within small =
      both_true (both_true (lt-ltb rule (2 ^ 64) (omega (arith, below, few))) (lt-ltb entry (2 ^ 64) (omega (arith, within, few)))) small
  place_small false rule entry section others below within small = small

  entries_small : (passes : Entry → Bool) (rule entry : ℕ) (section : Section) (entries : List Entry) → rule < n → entry + length entries ≤ n
      → list_all is_small_place (entry_places passes key rule section entry entries) ≡ true
  entries_small passes rule entry section [] below room = refl
  entries_small passes rule entry section (e ∷ others) below room =
      place_small (passes e) rule entry section (entry_places passes key rule section (entry + 1) others) below (omega (arith, room))
      (entries_small passes rule (entry + 1) section others below (omega (arith, room)))

  section_few : (section : Section) (rule : Rule) → HasShortSections n rule → length (section_of section rule) ≤ n
  section_few section.Ingress rule short = short.ingress
  section_few section.IngressDeny rule short = short.ingress_deny
  section_few section.Egress rule short = short.egress
  section_few section.EgressDeny rule short = short.egress_deny

  rule_small : (selected : Bool) (here others : List Place) → list_all is_small_place here ≡ true → list_all is_small_place others ≡ true
      → list_all is_small_place (cond selected (here ++ others) others) ≡ true
  rule_small true here others first small = list_all-append is_small_place here others ∙ both_true first small
  rule_small false here others first small = small

  rules_small : (selected : Rule → Bool) (passes : Entry → Bool) (section : Section) (rule : ℕ) (rules : List Rule) → rule + length rules ≤ n → AllByRecursion (HasShortSections n) rules
      → list_all is_small_place (rule_places selected passes key section rule rules) ≡ true
  rules_small selected passes section rule [] room short = refl
  rules_small selected passes section rule (r ∷ others) room short =
      rule_small (selected r) (entry_places passes key rule section 0 (section_of section r)) (rule_places selected passes key section (rule + 1) others)
      (entries_small passes rule 0 section (section_of section r) (omega (arith, room)) (omega (arith, section_few section r short.0)))
      (rules_small selected passes section (rule + 1) others (omega (arith, room)) short.1)

covering_small : (n : ℕ) → n < 2 ^ 64 → (policies : List Stamped) (endpoint : Endpoint) (section : Section) (passes : Entry → Bool) → AllByRecursion (IsShortStamped n) policies
    → list_all is_small_place (covering_places policies endpoint section passes) ≡ true
covering_small n few [] endpoint section passes every = refl
covering_small n few (stamped ∷ policies) endpoint section passes every =
    let short = every.0 in
    let count = short.rules in
    list_all-append is_small_place (rule_places (rule_selects endpoint) passes stamped.policy.key section 0 stamped.policy.rules)
    (covering_places policies endpoint section passes)
    ∙ both_true (rules_small n few stamped.policy.key (rule_selects endpoint) passes section 0 stamped.policy.rules (omega (arith, count)) short.sections)
    (covering_small n few policies endpoint section passes every.1)

-- ---- each answer

module _ (options : Options) (whole : List Spot) (keeps : (k : ℕ) → Keeps (state_at options whole k)) where
  -- each state of the run has small numbers
  state_small : (k : ℕ) → IsSmallState (state_at options whole k)
  state_small k = keeps_small (state_at options whole k) (keeps k)

  row_small : (spot : Spot) (synced : ℕ) (row : FullSlot) → IsRightRow options whole spot synced row → has_small_count row ≡ true
  row_small spot synced row right =
      let few = map_few options (state_at options whole row.revision) right.endpoint (state_small row.revision) in
      let count = right.count in
      lt-ltb row.count (2 ^ 64) (omega (arith, count, few))

  rows_small : (spot : Spot) (synced : ℕ) (full : List FullSlot) → AllByRecursion (IsRightRow options whole spot synced) full → list_all has_small_count full ≡ true
  rows_small spot synced [] right = refl
  rows_small spot synced (row ∷ full) right = both_true (row_small spot synced row right.0) (rows_small spot synced full right.1)

  remote_read : (k : ℕ) (other : Remote) → IsSmallRemote other → is_u64 (remote_number (state_at options whole k) other) ≡ true
  remote_read k (remote.Identity number) small = lt-ltb number (2 ^ 64) (omega (arith, small))
  remote_read k (remote.Address address) small =
      let s = state_at options whole k in
      let low = at_small s address (state_small k) in lt-ltb (number_at address s.endpoints s.identities) (2 ^ 64) (omega (arith, low))

  module _ (n : ℕ) (few : n < 2 ^ 64) (every : AllByRecursion (BringsShort n) (history_of whole)) where
    explained_small : (k : ℕ) (query : Query) (o : Option Endpoint) (trace : Trace) → IsSmallRemote query.remote
        → option_map (explain_for options (state_at options whole k) query) o ≡ Some trace → has_read_sizes (answer.Traced k trace) ≡ true
    explained_small k query None trace small is = absurd cc
    explained_small k query (Some endpoint) trace small is =
        let s = state_at options whole k in
        let same : explain_for options s query endpoint ≡ trace = some_same (explain_for options s query endpoint) trace is in
        let short = policies_short n options (take k (history_of whole)) (every-take (BringsShort n) k (history_of whole) every) in
        subst (λ (t : Trace). has_read_sizes (answer.Traced k t) ≡ true) same
        (both_true (both_true (remote_read k query.remote small)
        (covering_small n few s.policies endpoint (deny_section query.dir) (covers_query s query) short))
        (covering_small n few s.policies endpoint (allow_section query.dir) (covers_query s query) short))

    entry_read : (at : Option (Section × ℕ)) → IsShortPlace n at → is_read_entry at ≡ true
    entry_read None short = refl
    entry_read (Some at) short = lt-ltb at.1 (2 ^ 64) (omega (arith, short, few))

    fault_read : (f : LineFault) → IsSmallFault n f → is_read_fault f ≡ true
    fault_read (fault.Rule told) short =
        let below = short.rule in both_true (both_true short.cause (lt-ltb told.rule (2 ^ 64) (omega (arith, below, few)))) (entry_read told.«at» short.place)
    fault_read fault.Json short = refl
    fault_read fault.NoOp short = refl
    fault_read (fault.BadField member) short = refl
    fault_read (fault.UnknownField member) short = refl
    fault_read (fault.Doc found) short = refl
    fault_read fault.BadLabel short = refl
    fault_read fault.DuplicateLabelKey short = refl
    fault_read fault.BadAddress short = refl

    answer_small : (index phase : ℕ) (reading : Reading) (told : Answer) → IsSmallReading n reading
        → RightAnswer options whole (spot_at index phase reading told) reading told → has_read_sizes told ≡ true
    answer_small index phase (Err f) (answer.BadLine told) small right = subst (λ (x : LineFault). is_read_fault x ≡ true) (sym right) (fault_read f small)
    answer_small index phase (Ok command.Phase) (answer.Phase number) small right = refl
    answer_small index phase (Ok (command.Commit session request)) (answer.Committed revision identity) small right = refl
    answer_small index phase (Ok (command.Commit session request)) (answer.Refused refused) small right = refl
    answer_small index phase (Ok (command.Sync session)) (answer.Synced revision full) small right =
        rows_small (spot_at index phase (Ok (command.Sync session)) (answer.Synced revision full)) revision full right.rows
    answer_small index phase (Ok (command.Look session query)) (answer.Verdict revision word) small right = refl
    answer_small index phase (Ok (command.Look session query)) (answer.NotYet revision) small right = refl
    answer_small index phase (Ok (command.Look session query)) (answer.NoEndpoint revision) small right = refl
    answer_small index phase (Ok (command.Trace session query)) (answer.Traced revision trace) small right =
        explained_small revision query (endpoint_of query.endpoint (state_at options whole revision).endpoints) trace small right.explains
    answer_small index phase (Ok (command.Trace session query)) (answer.NoEndpoint revision) small right = refl
    answer_small index phase reading told small right = absurd right

    answers_small : (index phase : ℕ) (readings : List Reading) (answers : List Answer) → length answers ≡ length readings → AllByRecursion (IsSmallReading n) readings
        → AllByRecursion (λ (spot : Spot). RightAnswer options whole spot spot.reading spot.answer) (spots_from index phase (zip readings answers))
        → list_all has_read_sizes answers ≡ true
    answers_small index phase readings [] same small right = refl
    answers_small index phase [] (a ∷ answers) same small right = absurd (omega arith)
    answers_small index phase (reading ∷ readings) (a ∷ answers) same small right =
        both_true (answer_small index phase reading a small.0 right.0)
        (answers_small (index + 1) (phase_after phase reading) readings answers (omega arith) small.1 right.1)

-- ---- whole runs

pub lines_few : (script : List ℕ) → length (lines_of script) ≤ length script
lines_few script = let lines = lines_within [] script (length script) (omega arith) in let few = lines.count in omega (arith, few)

pub run_sizes : (options : Options) (script written : List ℕ) (ended : ℕ) (run : IsRunOf options script written ended) → length script < 2 ^ 64
    → IsTrue (list_all has_read_sizes run.answers)
run_sizes options script written ended run few =
    let readings = readings_of script in
    let spots = spots_of (zip readings run.answers) in
    let within = lines_within [] script (length script) (omega arith) in
    let small = readings_small (length script) (lines_of script) within.each in
    let same : length readings ≡ length (lines_of script) = length-map (lines_of script) reading_of in
    let history = history_brings (BringsShort (length script)) readings run.answers (every_weaker (IsSmallReading (length script)) (Brings (BringsShort (length script))) (brings_of (length script)) readings small) in
    answers_small options spots (run_keeps options script written ended run) (length script) few history 0 1 readings run.answers
    (run.one_each ∙ sym same) small run.run.right
