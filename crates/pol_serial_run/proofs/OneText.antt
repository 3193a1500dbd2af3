-- A script has one serial run.
use Rattle.std.proofs.Common.{◌≡◌, ℕ, ◌<◌, Bool, true, false, inl, inr, List, [], ◌∷◌, map, bytes_eq, Option, None, Some, Ok, Err, refl, sym, ap, ◌∙◌, subst, arith}
use Rattle.std.specs.Cmp.{IsTotalOrder}
use Rattle.std.specs.Cmp.Lexicographic.{slice_cmp}
use Rattle.std.specs.List.{AllByRecursion, IsDistinct, cons_option, filter_map}
use Rattle.std.specs.List.Sorted.{IsPermutation, IsStrictlySortedBy}
use Rattle.std.specs.Ordering.{is_eq, is_le, nat_cmp, ordering_then}
use Rattle.std.specs.declared.cmp.Ordering.{Ordering}
use Rattle.std.specs.declared.cmp.Ordering.TheVariants.{Less, Equal, Greater}
use Rattle.std.proofs.lemmas.Bool.{false_from_ne_true}
use Rattle.std.proofs.lemmas.Cmp.{nat_list_cmp_total, on_total}
use Rattle.std.proofs.lemmas.List.Sorted.{Contains-permutation, IsPermutation-sym}
use Rattle.std.proofs.lemmas.Map.Keys.{IsDistinct-IsPermutation}
use Rattle.std.proofs.lemmas.Map.Text.{is_eq-slice_cmp}
use Rattle.std.proofs.lemmas.Option.{same_Some}
use Rattle.std.proofs.lemmas.Slice.Eq.{bytes_eq-Decides}
use Rattle.pol_answer.specs.declared.answer.Answer.{Answer}
use Rattle.pol_answer.specs.declared.answer.Answer.TheVariants as answer
use Rattle.pol_data.proofs.Ascending.{same_members}
use Rattle.pol_data.proofs.Members.{Contains-from_In, In, In-from_Contains, every-from_in}
use Rattle.pol_history.specs.declared.event.EndpointId.{EndpointId}
use Rattle.pol_history.specs.declared.event.HistoryEvent.{HistoryEvent}
use Rattle.pol_history.specs.declared.event.LastReport.{LastReport}
use Rattle.pol_history.specs.declared.machine.Event.TheVariants as step
use Rattle.pol_history.specs.Commits.{commits_in, state_now}
use Rattle.pol_history.specs.Legal.{IsLegal}
use Rattle.pol_history.specs.Machine.{Machine, endpoint_id, machine_start}
use Rattle.pol_history.specs.MachineKeeps.{IsSound}
use Rattle.pol_history.specs.Reports.{last_report, size_at}
use Rattle.pol_history.proofs.Names.{slot-found, slot-live}
use Rattle.pol_history.proofs.Same.{live-parts}
use Rattle.pol_history.proofs.Steps.{start_sound, step_keeps, steps_keep}
use Rattle.pol_machine.specs.Full.{row_told}
use Rattle.pol_machine.specs.Serial.{ListsRows, machine_asked, machine_of, row_of, row_reported, rows_in, turns_in}
use Rattle.pol_machine.specs.Stands.{over_limit}
use Rattle.pol_machine.specs.declared.asked.Asked.TheVariants.{Sync}
use Rattle.pol_model.specs.Ascending.{Ascends}
use Rattle.pol_model.specs.Endpoints.{endpoint_of}
use Rattle.pol_model.specs.FullRows.{FullRowsAscend, full_row_le}
use Rattle.pol_model.specs.declared.answer.FullSlot.{FullSlot}
use Rattle.pol_model.specs.declared.options.Options.{Options}
use Rattle.pol_model.specs.declared.request.Request.{Request}
use Rattle.pol_model.specs.declared.row.Endpoint.{Endpoint}
use Rattle.pol_model.proofs.AscendingStates.{state_slots_ascend}
use Rattle.pol_model_laws.proofs.Keyed.{above-In}
use Rattle.pol_run.specs.Spots.{Reading, phase_after}
use Rattle.pol_script.specs.declared.command.Command.TheVariants as command
use Rattle.pol_serial_run.specs.SerialRun.{IsLineAnswer, IsSerial, IsSerialFrom, IsSyncAnswer, machine_then}

-- ---- rows that ascend by names that differ

abbrev by_name : FullSlot → FullSlot → Ordering
by_name a b = slice_cmp nat_cmp a.name b.name

abbrev same_name : FullSlot → FullSlot → Bool
same_name a b = bytes_eq a.name b.name

names_total : IsTotalOrder by_name
names_total = on_total (λ (row : FullSlot). row.name) nat_list_cmp_total

flipped : (a b : List ℕ) → bytes_eq a b ≡ true → bytes_eq b a ≡ true
flipped a b same = (bytes_eq-Decides b a).1 (sym ((bytes_eq-Decides a b).0 same))

both_true : (one other : Bool) → (one ≡ true → other ≡ true) → (other ≡ true → one ≡ true) → one ≡ other
both_true true other to back = sym (to refl)
both_true one true to back = back refl
both_true false false to back = refl

flips : (a b : FullSlot) → same_name a b ≡ same_name b a
flips a b = both_true (same_name a b) (same_name b a) (flipped a.name b.name) (flipped b.name a.name)

first_less : (names revisions : Ordering) → is_le (ordering_then names revisions) ≡ true → is_eq names ≡ false → names ≡ Less
first_less Less revisions at_most differ = refl
first_less Equal revisions at_most differ = absurd (cc)
first_less Greater revisions at_most differ = absurd (cc)

before_next : (a b : FullSlot) → full_row_le a b ≡ true → same_name a b ≡ false → by_name a b ≡ Less
before_next a b at_most differ =
    first_less (by_name a b) (nat_cmp a.revision b.revision) at_most (is_eq-slice_cmp a.name b.name ∙ differ)

before_all : (a b : FullSlot) (rows : List FullSlot) → by_name a b ≡ Less → AllByRecursion (λ row. by_name b row ≡ Less) rows → AllByRecursion (λ row. by_name a row ≡ Less) rows
before_all a b [] less all = tt
before_all a b (row ∷ rows) less all = (names_total.trans a b row less all.0, before_all a b rows less all.1)

strictly : (rows : List FullSlot) → FullRowsAscend rows → IsDistinct same_name rows → IsStrictlySortedBy by_name rows
unfolding IsDistinct IsStrictlySortedBy
strictly [] ascend differ = tt
strictly (row ∷ []) ascend differ = (tt, tt)
strictly (row ∷ next ∷ rows) ascend differ =
    let less : by_name row next ≡ Less = before_next row next ascend.0 differ.0.0 in
    let later = strictly (next ∷ rows) ascend.1 differ.1 in
    ((less, before_all row next rows less later.0), later)

one_list : (rows one other : List FullSlot) → IsDistinct same_name rows → IsPermutation rows one → IsPermutation rows other → FullRowsAscend one → FullRowsAscend other → one ≡ other
one_list rows one other differ those these ascend also =
    same_members names_total one other
    (strictly one ascend (IsDistinct-IsPermutation same_name flips rows one those differ))
    (strictly other also (IsDistinct-IsPermutation same_name flips rows other these differ))
    (λ x there. moved one other those these x there) (λ x there. moved other one these those x there)
  where
    moved : (one other : List FullSlot) → IsPermutation rows one → IsPermutation rows other → (x : FullSlot) → In x one → In x other
    moved one other those these x there =
        In-from_Contains other x
        (Contains-permutation rows other x these (Contains-permutation one rows x (IsPermutation-sym rows one those) (Contains-from_In one x there)))

-- ---- a row for each of some endpoints whose names differ

abbrev same_endpoint_name : Endpoint → Endpoint → Bool
same_endpoint_name a b = bytes_eq a.name b.name

other_name : (e f : Endpoint) → e.slot < f.slot → (e.name ≡ f.name → e ≡ f) → same_endpoint_name e f ≡ false
other_name e f below one =
    false_from_ne_true (same_endpoint_name e f)
    (λ same. let both : e ≡ f = one ((bytes_eq-Decides e.name f.name).0 same) in omega (arith, below, ap (λ (x : Endpoint). x.slot) both))

names_differ : (es : List Endpoint) → Ascends (map (λ (e : Endpoint). e.slot) es) → ((e f : Endpoint) → In e es → In f es → e.name ≡ f.name → e ≡ f)
    → IsDistinct same_endpoint_name es
unfolding IsDistinct
names_differ [] ascend one = tt
names_differ (e ∷ es) ascend one = (
  every-from_in (λ (f : Endpoint). same_endpoint_name e f ≡ false) es
      (λ f there. other_name e f (above-In (λ (x : Endpoint). x.slot) e.slot f es ascend.0 there) (one e f (inl refl) (inr there))),
  names_differ es ascend.1 (λ d f first second same. one d f (inr first) (inr second) same),
)

module _ (row : Endpoint → Option FullSlot) (named : (e : Endpoint) (told : FullSlot) → row e ≡ Some told → told.name ≡ e.name) where
  none_more : (name : List ℕ) (e : Endpoint) (o : Option FullSlot) (rest : List FullSlot) → row e ≡ o → bytes_eq name e.name ≡ false
      → AllByRecursion (λ (told : FullSlot). bytes_eq name told.name ≡ false) rest → AllByRecursion (λ (told : FullSlot). bytes_eq name told.name ≡ false) (cons_option o rest)
  none_more name e None rest is here later = later
  none_more name e (Some told) rest is here later = (ap (bytes_eq name) (named e told is) ∙ here, later)

  none_named : (name : List ℕ) (es : List Endpoint) → AllByRecursion (λ (e : Endpoint). bytes_eq name e.name ≡ false) es
      → AllByRecursion (λ (told : FullSlot). bytes_eq name told.name ≡ false) (filter_map row es)
  none_named name [] none = tt
  none_named name (e ∷ es) none = none_more name e (row e) (filter_map row es) refl none.0 (none_named name es none.1)

  rows_more : (e : Endpoint) (o : Option FullSlot) (rest : List FullSlot) → row e ≡ o
      → AllByRecursion (λ (told : FullSlot). bytes_eq e.name told.name ≡ false) rest → IsDistinct same_name rest → IsDistinct same_name (cons_option o rest)
  unfolding IsDistinct
  rows_more e None rest is none differ = differ
  rows_more e (Some told) rest is none differ =
      (subst (λ (name : List ℕ). AllByRecursion (λ (other : FullSlot). bytes_eq name other.name ≡ false) rest) (sym (named e told is)) none, differ)

  rows_differ : (es : List Endpoint) → IsDistinct same_endpoint_name es → IsDistinct same_name (filter_map row es)
  unfolding IsDistinct
  rows_differ [] differ = tt
  rows_differ (e ∷ es) differ = rows_more e (row e) (filter_map row es) refl (none_named e.name es differ.0) (rows_differ es differ.1)

-- ---- the rows of a history

one_row : (one other : FullSlot) → Some one ≡ Some other → one ≡ other
one_row one other same = same_Some one other same

module _ (options : Options) (history : List HistoryEvent) where
  told_named : (name : List ℕ) (report : LastReport) (full : Option ℕ) (told : FullSlot) → row_told name report full ≡ Some told → told.name ≡ name
  told_named name report None told is = absurd (cc)
  told_named name report (Some count) told is =
      ap (λ (row : FullSlot). row.name) (sym (one_row (record { name = name; revision = report.revision; count = count }) told is))

  reported_named : (id : EndpointId) (report : Option LastReport) (told : FullSlot) → row_reported options history id report ≡ Some told → told.name ≡ id.name
  reported_named id None told is = absurd (cc)
  reported_named id (Some report) told is =
      told_named id.name report (over_limit options.map_max (size_at options history id report.revision)) told is

  row_named : (e : Endpoint) (told : FullSlot) → row_of options history e ≡ Some told → told.name ≡ e.name
  row_named e told is = reported_named (endpoint_id e) (last_report (endpoint_id e) history) told is

  module _ (legal : IsLegal options history) where
    abbrev live : List Endpoint
    live = (state_now options history).endpoints

    found : (e : Endpoint) → In e live → endpoint_of e.name live ≡ Some e
    found e there =
        (live-parts (endpoint_id e) (state_now options history) e (slot-live options history legal e.slot e (slot-found options history e there))).0

    one_named : (e f : Endpoint) → In e live → In f live → e.name ≡ f.name → e ≡ f
    one_named e f first second same =
        same_Some e f (sym (found e first) ∙ ap (λ (name : List ℕ). endpoint_of name live) same ∙ found f second)

    pub one_full : (full other : List FullSlot) → ListsRows options history full → ListsRows options history other → full ≡ other
    one_full full other lists also =
        one_list (rows_in options history) full other
        (rows_differ (row_of options history) row_named live (names_differ live (state_slots_ascend options (commits_in history)) one_named))
        lists.those also.those lists.sorted also.sorted

-- ---- answers

module _ (options : Options) where
  one_sync : (m : Machine) → IsSound options (machine_asked options m Sync) → (told other : Answer) → IsSyncAnswer options m told → IsSyncAnswer options m other → told ≡ other
  one_sync m sound (answer.Synced revision full) (answer.Synced number rows) is also =
      let same : revision ≡ number = is.0 ∙ sym also.0 in
      let one : full ≡ rows = one_full options (machine_asked options m Sync).history sound.legal full rows is.1 also.1 in
      λ i. answer.Synced (same i) (one i)
  one_sync m sound (answer.Synced revision full) (answer.Committed number identity) is also = absurd also
  one_sync m sound (answer.Synced revision full) (answer.Phase number) is also = absurd also
  one_sync m sound (answer.Synced revision full) (answer.Verdict number word) is also = absurd also
  one_sync m sound (answer.Synced revision full) (answer.NoEndpoint number) is also = absurd also
  one_sync m sound (answer.Synced revision full) (answer.NotYet number) is also = absurd also
  one_sync m sound (answer.Synced revision full) (answer.Traced number trace) is also = absurd also
  one_sync m sound (answer.Synced revision full) (answer.BadLine fault) is also = absurd also
  one_sync m sound (answer.Synced revision full) (answer.Refused refused) is also = absurd also
  one_sync m sound (answer.Committed revision identity) other is also = absurd is
  one_sync m sound (answer.Phase number) other is also = absurd is
  one_sync m sound (answer.Verdict revision word) other is also = absurd is
  one_sync m sound (answer.NoEndpoint revision) other is also = absurd is
  one_sync m sound (answer.NotYet revision) other is also = absurd is
  one_sync m sound (answer.Traced revision trace) other is also = absurd is
  one_sync m sound (answer.BadLine fault) other is also = absurd is
  one_sync m sound (answer.Refused refused) other is also = absurd is

  sound_then : (m : Machine) (reading : Reading) → IsSound options m → IsSound options (machine_then options m reading)
  sound_then m (Err fault) sound = sound
  sound_then m (Ok (command.Commit session request)) sound = step_keeps options m (step.Commit request) sound
  sound_then m (Ok (command.Look session query)) sound = sound
  sound_then m (Ok (command.Trace session query)) sound = sound
  sound_then m (Ok (command.Sync session)) sound = steps_keep options m (turns_in options m.history) sound
  sound_then m (Ok command.Phase) sound = sound

  one_line : (m : Machine) (phase : ℕ) (reading : Reading) (told other : Answer) → IsSound options m
      → IsLineAnswer options m phase reading told → IsLineAnswer options m phase reading other → told ≡ other
  one_line m phase (Err fault) told other sound is also = is ∙ sym also
  one_line m phase (Ok (command.Commit session request)) told other sound is also = is ∙ sym also
  one_line m phase (Ok (command.Look session query)) told other sound is also = is ∙ sym also
  one_line m phase (Ok (command.Trace session query)) told other sound is also = is ∙ sym also
  one_line m phase (Ok (command.Sync session)) told other sound is also =
      one_sync m (steps_keep options m (turns_in options m.history) sound) told other is also
  one_line m phase (Ok command.Phase) told other sound is also = is ∙ sym also

  one_from : (m : Machine) (phase : ℕ) (readings : List Reading) (answers others : List Answer) → IsSound options m
      → IsSerialFrom options m phase readings answers → IsSerialFrom options m phase readings others → answers ≡ others
  one_from m phase [] [] [] sound is also = refl
  one_from m phase [] (told ∷ answers) others sound is also = absurd is
  one_from m phase [] [] (other ∷ others) sound is also = absurd also
  one_from m phase (reading ∷ readings) [] others sound is also = absurd is
  one_from m phase (reading ∷ readings) (told ∷ answers) [] sound is also = absurd also
  one_from m phase (reading ∷ readings) (told ∷ answers) (other ∷ others) sound is also =
      let here : told ≡ other = one_line m phase reading told other sound is.0 also.0 in
      let later : answers ≡ others =
      one_from (machine_then options m reading) (phase_after phase reading) readings answers others (sound_then m reading sound) is.1 also.1 in
      λ i. here i ∷ later i

  pub one_serial : (start : List Request) (readings : List Reading) (answers others : List Answer) → IsSerial options start readings answers
      → IsSerial options start readings others → answers ≡ others
  one_serial start readings answers others is also =
      one_from (machine_of options start) 1 readings answers others
      (steps_keep options machine_start (map (λ (request : Request). step.Commit request) start) (start_sound options)) is also
