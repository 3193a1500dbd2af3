-- What a sync learned of the slots, one after another, is what it tells.
use Rattle.std.proofs.Common.{zero, suc, ◌≡◌, ℕ, ◌+◌, ◌<◌, ◌≤◌, ◌&&◌, ◌⊎◌, inl, inr, Bool, true, false, List, [], ◌∷◌, length, bytes_eq, Option, None, Some, refl, sym, ap, ◌∙◌, subst, arith}
use Rattle.std.specs.Prelude.{is_some, sum_by, take}
use Rattle.std.specs.List.{AllByRecursion, cons_option, slice_get}
use Rattle.std.specs.List.Sorted.{IsPermutation}
use Rattle.std.proofs.lemmas.Bool.{cases_lt, cases_Bool, and_from, and_parts}
use Rattle.std.proofs.lemmas.List.Elements.{All-from_recursion, recursion_from_All}
use Rattle.std.proofs.lemmas.List.Sorted.{All-permutation, Contains-permutation, sum_by-IsPermutation}
use Rattle.std.proofs.lemmas.List.Sums.{sum_by-cons}
use Rattle.std.proofs.lemmas.List.{length-take}
use Rattle.std.proofs.lemmas.Slice.Eq.{bytes_eq-Decides}
use mathlib.Core.List.{IsPrefix}
use Rattle.pol_data.proofs.Members.{In, Contains-from_In}
use Rattle.pol_model.specs.Committed.{slots_of}
use Rattle.pol_model.specs.Endpoints.{endpoint_of}
use Rattle.pol_model.specs.State.{State}
use Rattle.pol_model.specs.declared.answer.FullSlot.{FullSlot}
use Rattle.pol_model.specs.declared.options.Options.{Options}
use Rattle.pol_model.specs.declared.row.Endpoint.{Endpoint}
use Rattle.pol_model.proofs.AscendingStates.{state_slots_ascend}
use Rattle.pol_model.specs.FullRows.{FullRowsAscend}
use Rattle.pol_model_laws.proofs.Keyed.{found_by_number}
use Rattle.pol_model_laws.proofs.Lives.{added-within}
use Rattle.pol_model_laws.proofs.Membership.{find-In}
use Rattle.pol_history.specs.declared.event.EndpointId.{EndpointId}
use Rattle.pol_history.specs.declared.event.HistoryEvent.{HistoryEvent}
use Rattle.pol_history.specs.declared.event.HistoryEvent.TheVariants as event
use Rattle.pol_history.specs.declared.turn.SlotTurn.{SlotTurn}
use Rattle.pol_history.specs.declared.turn.SlotTurn.TheVariants.{Full, Gone, Shown}
use Rattle.pol_history.specs.Calls.{HasPublish, HasRow, IsRow, IsRowOf, IsSynced}
use Rattle.pol_history.specs.Commits.{Lives, commits_in, live_endpoint, revision_of, state_after, state_now}
use Rattle.pol_history.specs.Legal.{IsLegal}
use Rattle.pol_history.specs.Machine.{endpoint_id, endpoint_in}
use Rattle.pol_history.specs.Regenerate.{WasTaken}
use Rattle.pol_history.specs.Reports.{IsReport}
use Rattle.pol_history.specs.SlotTurns.{EachTells, TellsTurn, row_in, rows_of}
use Rattle.pol_history.proofs.Beginnings.{prefix_self}
use Rattle.pol_history.proofs.Cuts.{state-now, state-take}
use Rattle.pol_history.proofs.Later.{has_publish-kept, row-kept, row_of-kept}
use Rattle.pol_history.proofs.Lists.{no_element}
use Rattle.pol_history.proofs.Lives.{lives-back, lives-then}
use Rattle.pol_history.proofs.Own.{revision-prefix, state-prefix}
use Rattle.pol_history.proofs.Same.{live-parts}

same_row : (a b : Endpoint) → Some a ≡ Some b → a ≡ b
same_row a b same = cc

-- ---- endpoints and slots

slot_within : (row : Endpoint) (rows : List Endpoint) → In row rows → row.slot < slots_of rows
slot_within row [] there = elim there [ ]
slot_within row (first ∷ rows) (inl here) = let same : first.slot ≡ row.slot = ap (λ (e : Endpoint). e.slot) here in omega (arith, same)
slot_within row (first ∷ rows) (inr later) = omega (arith, slot_within row rows later)

module _ (options : Options) (new : List HistoryEvent) where
  abbrev state : ℕ → State
  state r = state_after options new r

  abbrev LivesAt : EndpointId → ℕ → Endpoint → Type 0
  LivesAt e r row = live_endpoint e (state r) ≡ Some row

  module _ (e : EndpointId) (r : ℕ) (row : Endpoint) (lives : LivesAt e r row) where
    found_in : In row (state r).endpoints × (bytes_eq row.name e.name ≡ true)
    found_in = find-In (λ (x : Endpoint). bytes_eq x.name e.name) row (state r).endpoints (live-parts e (state r) row lives).0

    -- it is the endpoint of its slot
    in_its_slot : endpoint_in row.slot (state r).endpoints ≡ Some row
    in_its_slot = found_by_number (λ (x : Endpoint). x.slot) row (state r).endpoints (state_slots_ascend options (take r (commits_in new))) found_in.0

    its_id : endpoint_id row ≡ e
    its_id =
        let name : row.name ≡ e.name = (bytes_eq-Decides row.name e.name).0 found_in.1 in
        let added : row.added ≡ e.added = (live-parts e (state r) row lives).1 in
        λ i. record { name = name i; added = added i }

    added_by : e.added ≤ r
    added_by =
        let parts = live-parts e (state r) row lives in
        let within = added-within options (take r (commits_in new)) e.name row parts.0 in
        omega (arith, parts.1, within.1, length-take r (commits_in new))

  -- one endpoint is in a slot
  one_in_slot : (r : ℕ) (a b : EndpointId) (first second : Endpoint) → LivesAt a r first → LivesAt b r second → first.slot ≡ second.slot → a ≡ b
  one_in_slot r a b first second one other same =
      let rows : first ≡ second =
      same_row first second
      (sym (in_its_slot a r first one) ∙ ap (λ (slot : ℕ). endpoint_in slot (state r).endpoints) same ∙ in_its_slot b r second other) in
      sym (its_id a r first one) ∙ ap (λ (row : Endpoint). endpoint_id row) rows ∙ its_id b r second other

  -- an endpoint keeps its row while it lives
  row_back : (e : EndpointId) (r k : ℕ) (first second : Endpoint) → r ≤ k → LivesAt e r first → LivesAt e k second → first ≡ second
  row_back e r k first second fewer one other =
      same_row first second (sym one ∙ lives-back options new e second r k fewer (added_by e r first one) other)

  row_stays : (e : EndpointId) (r k : ℕ) (first second : Endpoint) → LivesAt e r first → LivesAt e k second → first ≡ second
  row_stays e r k first second one other =
      elim (cases_lt r k) [
        | inl less ↦ row_back e r k first second (omega (arith, less)) one other
        | inr no_less ↦ sym (row_back e k r second first (omega (arith, no_less)) other one)
      ]

  -- at a report of an endpoint it was live at the report's revision
  module _ (legal : IsLegal options new) where
    record HasLived (e : EndpointId) (r : ℕ) : Type 0 where
      pub row : Endpoint
      pub lives : LivesAt e r row

    reported : (place : ℕ) (e : EndpointId) (r : ℕ) → IsReport new place e r → HasLived e r
    reported place e r report =
        let is = legal.live place e r report in
        let within = legal.committed place e r report in
        record {
          row = is.row;
          lives = subst (λ (s : State). live_endpoint e s ≡ Some is.row) (sym (state-take options place new r within))
              (lives-then options (take place new) e is.row r within (legal.since_added place e r report) is.found);
        }

    row_lived : (old : List HistoryEvent) (synced : ℕ) (e : EndpointId) (row : FullSlot) → IsRowOf old new synced e row → HasLived e row.revision
    row_lived old synced e row is =
        reported is.place e row.revision (record { event = event.Blocked e row.revision row.count; there = is.there; reports = (refl, refl) })

    -- the row is of this endpoint
    abbrev is_of : EndpointId → FullSlot → Bool
    is_of e row = bytes_eq e.name row.name && is_some (live_endpoint e (state row.revision))

    some_of : (o : Option Endpoint) (row : Endpoint) → o ≡ Some row → is_some o ≡ true
    some_of o row is = ap (λ (x : Option Endpoint). is_some x) is

    of_row : (old : List HistoryEvent) (synced : ℕ) (e : EndpointId) (row : FullSlot) → IsRowOf old new synced e row → is_of e row ≡ true
    of_row old synced e row is =
        let lived = row_lived old synced e row is in
        and_from (bytes_eq e.name row.name) (is_some (live_endpoint e (state row.revision)))
        ((bytes_eq-Decides e.name row.name).1 is.name) (some_of (live_endpoint e (state row.revision)) lived.row lived.lives)

    found_some : (o : Option Endpoint) → is_some o ≡ true → (row : Endpoint) × (o ≡ Some row)
    found_some None is = absurd cc
    found_some (Some row) is = (row, refl)

    -- and of no other
    row_of_one : (old : List HistoryEvent) (synced : ℕ) (e other : EndpointId) (row : FullSlot) → IsRowOf old new synced other row → is_of e row ≡ true → other ≡ e
    row_of_one old synced e other row is of =
        let both = and_parts (bytes_eq e.name row.name) (is_some (live_endpoint e (state row.revision))) of in
        let name : e.name ≡ row.name = (bytes_eq-Decides e.name row.name).0 both.0 in
        let live = found_some (live_endpoint e (state row.revision)) both.1 in
        let lived = row_lived old synced other row is in
        let first = live-parts e (state row.revision) live.0 live.1 in
        let second = live-parts other (state row.revision) lived.row lived.lives in
        let rows : lived.row ≡ live.0 =
        same_row lived.row live.0
        (sym second.0 ∙ ap (λ (n : List ℕ). endpoint_of n (state row.revision).endpoints) (is.name ∙ sym name) ∙ first.0) in
        sym (its_id other row.revision lived.row lived.lives) ∙ ap (λ (r : Endpoint). endpoint_id r) rows ∙ its_id e row.revision live.0 live.1

-- ---- counts

abbrev one_if : Bool → ℕ
one_if true = 1
one_if false = 0

abbrev weight : {X : Type 0} → (X → Bool) → Option X → ℕ
weight p None = 0
weight p (Some x) = one_if (p x)

module _ {X : Type 0} (p : X → Bool) where
  one_here : (x y : X) → Some x ≡ Some y → p y ≡ true → one_if (p x) ≡ 1
  one_here x y same is = ap (λ (o : Option X). weight p o) same ∙ ap one_if is

  one_place : (xs : List X) (b : ℕ) (y : X) → slice_get xs b ≡ Some y → p y ≡ true → 1 ≤ sum_by (λ x. one_if (p x)) xs
  one_place [] b y there is = absurd (no_element y there)
  one_place (x ∷ xs) zero y there is = omega (arith, sum_by-cons (λ z. one_if (p z)) x xs, one_here x y there is)
  one_place (x ∷ xs) (suc b) y there is = omega (arith, sum_by-cons (λ z. one_if (p z)) x xs, one_place xs b y there is)

  two_places : (xs : List X) (a b : ℕ) (y z : X) → a < b → slice_get xs a ≡ Some y → slice_get xs b ≡ Some z → p y ≡ true → p z ≡ true
      → 2 ≤ sum_by (λ x. one_if (p x)) xs
  two_places [] a b y z less first second one other = absurd (no_element y first)
  two_places (x ∷ xs) zero zero y z less first second one other = absurd (omega (arith, less))
  two_places (x ∷ xs) zero (suc b) y z less first second one other =
      omega (arith, sum_by-cons (λ v. one_if (p v)) x xs, one_here x y first one, one_place xs b z second other)
  two_places (x ∷ xs) (suc a) zero y z less first second one other = absurd (omega (arith, less))
  two_places (x ∷ xs) (suc a) (suc b) y z less first second one other =
      omega (arith, sum_by-cons (λ v. one_if (p v)) x xs, two_places xs a b y z (omega (arith, less)) first second one other)

-- ---- turns

turn_at : (options : Options) (then new : List HistoryEvent) (synced slot : ℕ) (turns : List SlotTurn) → EachTells options then new synced slot turns
    → (k : ℕ) (turn : SlotTurn) → slice_get turns k ≡ Some turn → TellsTurn options (slot + k) then new synced turn
turn_at options then new synced slot [] each k turn there = absurd (no_element turn there)
turn_at options then new synced slot (first ∷ turns) each zero turn there =
    let same : slot ≡ slot + 0 = omega arith in
    subst (λ (t : SlotTurn). TellsTurn options (slot + 0) then new synced t) (same_turn first turn there)
    (subst (λ (n : ℕ). TellsTurn options n then new synced first) same each.0)
  where
    same_turn : (a b : SlotTurn) → Some a ≡ Some b → a ≡ b
    same_turn a b both = cc
turn_at options then new synced slot (first ∷ turns) each (suc k) turn there =
    let same : slot + 1 + k ≡ slot + suc k = omega arith in
    subst (λ (n : ℕ). TellsTurn options n then new synced turn) same (turn_at options then new synced (slot + 1) turns each.1 k turn there)

each_row : (options : Options) (then new : List HistoryEvent) (synced slot : ℕ) (turns : List SlotTurn) → EachTells options then new synced slot turns
    → AllByRecursion (IsRow then new synced) (rows_of turns)
each_row options then new synced slot [] each = tt
each_row options then new synced slot (Shown ∷ turns) each = each_row options then new synced (slot + 1) turns each.1
each_row options then new synced slot (Gone ∷ turns) each = each_row options then new synced (slot + 1) turns each.1
each_row options then new synced slot (Full row ∷ turns) each =
    (record { endpoint = each.0.endpoint; is = each.0.is }, each_row options then new synced (slot + 1) turns each.1)

row_listed : (turns : List SlotTurn) (k : ℕ) (row : FullSlot) → slice_get turns k ≡ Some (Full row) → In row (rows_of turns)
row_listed [] k row there = absurd (no_element (Full row) there)
row_listed (first ∷ turns) zero row there = subst (λ (t : SlotTurn). In row (cons_option (row_in t) (rows_of turns))) (same_turn (Full row) first (sym there)) (inl refl)
  where
    same_turn : (a b : SlotTurn) → Some a ≡ Some b → a ≡ b
    same_turn a b both = cc
row_listed (Shown ∷ turns) (suc k) row there = row_listed turns k row there
row_listed (Gone ∷ turns) (suc k) row there = row_listed turns k row there
row_listed (Full other ∷ turns) (suc k) row there = inr (row_listed turns k row there)

-- an element within a list
record IsThere {X : Type 0} (xs : List X) (k : ℕ) : Type 0 where
  pub element : X
  pub there : slice_get xs k ≡ Some element

is_there : {X : Type 0} (xs : List X) (k : ℕ) → k < length xs → IsThere xs k
is_there [] k less = absurd (omega (arith, less))
is_there (x ∷ xs) zero less = record { element = x; there = refl }
is_there (x ∷ xs) (suc k) less = let found = is_there xs k (omega (arith, less)) in record { element = found.element; there = found.there }

module _ (options : Options) (then new : List HistoryEvent) (synced : ℕ) (legal : IsLegal options new) where
  -- the endpoint was taken in the slot
  record TakenIn (e : EndpointId) (slot : ℕ) : Type 0 where
    pub revision : ℕ
    pub taken : WasTaken options slot then new e revision

  two_slots : (e : EndpointId) (s t : ℕ) → TakenIn e s → TakenIn e t → s ≡ t
  two_slots e s t first second =
      let rows = row_stays options new e first.revision second.revision first.taken.row second.taken.row first.taken.live second.taken.live in
      sym first.taken.in_slot ∙ ap (λ (row : Endpoint). row.slot) rows ∙ second.taken.in_slot

  module _ (e : EndpointId) where
    abbrev count : List FullSlot → ℕ
    count rows = sum_by (λ row. one_if (is_of options new legal e row)) rows

    -- the endpoint of a row that is of this one
    its_turn : (slot : ℕ) (row : FullSlot) (told : TellsTurn options slot then new synced (Full row)) → is_of options new legal e row ≡ true → TakenIn e slot
    its_turn slot row told of =
        let same = row_of_one options new legal then synced e told.endpoint row told.is of in
        record { revision = told.revision; taken = subst (λ (id : EndpointId). WasTaken options slot then new id told.revision) same told.taken }

    count_full : (row : FullSlot) (rows : List FullSlot) → count (row ∷ rows) ≡ one_if (is_of options new legal e row) + count rows
    count_full row rows = sum_by-cons (λ r. one_if (is_of options new legal e r)) row rows

    none_later : (s slot : ℕ) (turns : List SlotTurn) → TakenIn e s → s < slot → EachTells options then new synced slot turns → count (rows_of turns) ≡ 0
    none_later s slot [] taken less each = refl
    none_later s slot (Shown ∷ turns) taken less each = none_later s (slot + 1) turns taken (omega (arith, less)) each.1
    none_later s slot (Gone ∷ turns) taken less each = none_later s (slot + 1) turns taken (omega (arith, less)) each.1
    none_later s slot (Full row ∷ turns) taken less each =
        let rest = none_later s (slot + 1) turns taken (omega (arith, less)) each.1 in
        elim (cases_Bool (is_of options new legal e row)) [
          | inl of ↦ absurd (omega (arith, less, two_slots e s slot taken (its_turn slot row each.0 of)))
          | inr other ↦ omega (arith, rest, count_full row (rows_of turns), ap one_if other)
        ]

    at_most_one : (slot : ℕ) (turns : List SlotTurn) → EachTells options then new synced slot turns → count (rows_of turns) ≤ 1
    at_most_one slot [] each = omega arith
    at_most_one slot (Shown ∷ turns) each = at_most_one (slot + 1) turns each.1
    at_most_one slot (Gone ∷ turns) each = at_most_one (slot + 1) turns each.1
    at_most_one slot (Full row ∷ turns) each =
        elim (cases_Bool (is_of options new legal e row)) [
          | inl of ↦
              let rest = none_later slot (slot + 1) turns (its_turn slot row each.0 of) (omega arith) each.1 in
              omega (arith, rest, count_full row (rows_of turns), ap one_if of)
          | inr other ↦
              let rest = at_most_one (slot + 1) turns each.1 in
              omega (arith, rest, count_full row (rows_of turns), ap one_if other)
        ]

-- ---- the whole

module _ (options : Options) (old then new : List HistoryEvent) (turns : List SlotTurn) (full : List FullSlot) (legal : IsLegal options new)
    (less : IsPrefix old then) (more : IsPrefix then new) (all : slots_of (state_now options then).endpoints ≤ length turns)
    (each : EachTells options then new (revision_of then) 0 turns) (moved : IsPermutation (rows_of turns) full) where
  abbrev synced : ℕ
  synced = revision_of then

  rows : AllByRecursion (IsRow old new synced) full
  rows =
      let here = each_row options then new synced 0 turns each in
      let there = All-permutation (IsRow then new synced) (rows_of turns) full moved (All-from_recursion (IsRow then new synced) (rows_of turns) here) in
      kept full (recursion_from_All (IsRow then new synced) full there)
    where
      kept : (xs : List FullSlot) → AllByRecursion (IsRow then new (revision_of then)) xs → AllByRecursion (IsRow old new (revision_of then)) xs
      kept [] every = tt
      kept (row ∷ xs) every = (row-kept old then new new less (prefix_self new) (revision_of then) row every.0, kept xs every.1)

  distinct : (a b : ℕ) (first second : FullSlot) (e : EndpointId) → a < b → slice_get full a ≡ Some first → slice_get full b ≡ Some second
      → IsRowOf old new synced e first → IsRowOf old new synced e second → ⊥
  distinct a b first second e below one other is also =
      let two = two_places (is_of options new legal e) full a b first second below one other
      (of_row options new legal old synced e first is) (of_row options new legal old synced e second also) in
      let same = sum_by-IsPermutation (λ row. one_if (is_of options new legal e row)) (rows_of turns) full moved in
      let few = at_most_one options then new synced legal e 0 turns each in
      omega (arith, two, same, few)

  module _ (e : EndpointId) (was : Lives (state_after options new synced) e) (is : Lives (state_now options new) e) where
    upto : synced ≤ revision_of new
    upto = revision-prefix then new more

    -- it lived all the while, in one slot
    lived : (r : ℕ) → synced ≤ r → r ≤ revision_of new → live_endpoint e (state_after options new r) ≡ Some is.row
    lived r from within =
        let added = added_by options new e synced was.row was.found in
        lives-then options new e is.row r within (omega (arith, added, from)) is.found

    slot_used : is.row.slot < length turns
    slot_used =
        let at = lived synced (omega arith) upto in
        let inside = (found_in options new e synced is.row at).0 in
        let same : state_after options new synced ≡ state_now options then =
        state-prefix options then new synced more (omega arith) ∙ state-now options then in
        let below = slot_within is.row (state_now options then).endpoints (subst (λ (s : State). In is.row s.endpoints) same inside) in
        omega (arith, below, all)

    its_own : (r : ℕ) (other : EndpointId) → WasTaken options is.row.slot then new other r → other ≡ e
    its_own r other taken =
        one_in_slot options new r other e taken.row is.row taken.live (lived r taken.between.from taken.between.upto) taken.in_slot

    by_turn : (turn : SlotTurn) → slice_get turns is.row.slot ≡ Some turn → TellsTurn options is.row.slot then new synced turn
        → HasRow old new synced full e ⊎ HasPublish old new synced e
    by_turn Shown there tells =
        let same = its_own tells.revision tells.endpoint tells.taken in
        inr (has_publish-kept old then new new less (prefix_self new) synced e (subst (λ (id : EndpointId). HasPublish then new synced id) same tells.publish))
    by_turn (Full row) there tells =
        let same = its_own tells.revision tells.endpoint tells.taken in
        inl (record {
          row = row;
          listed = Contains-permutation (rows_of turns) full row moved (Contains-from_In (rows_of turns) row (row_listed turns is.row.slot row there));
          is = row_of-kept old then new new less (prefix_self new) synced e row (subst (λ (id : EndpointId). IsRowOf then new synced id row) same tells.is);
        })
    by_turn Gone there tells =
        let at = lived tells.revision tells.between.from tells.between.upto in
        let there_is = in_its_slot options new e tells.revision is.row at in
        elim tells.gone [
          | inl none ↦ absurd (no_element is.row (sym none ∙ there_is))
          | inr has ↦
              let row : has.row ≡ is.row = same_row has.row is.row (sym has.was ∙ there_is) in
              let id : endpoint_id has.row ≡ e = ap (λ (r : Endpoint). endpoint_id r) row ∙ its_id options new e tells.revision is.row at in
              absurd (has.gone (subst (λ (i : EndpointId). Lives (state_now options new) i) (sym id) is))
        ]

    complete : HasRow old new synced full e ⊎ HasPublish old new synced e
    complete =
        let turn = is_there turns is.row.slot slot_used in
        let none : 0 + is.row.slot ≡ is.row.slot = omega arith in
        by_turn turn.element turn.there
        (subst (λ (n : ℕ). TellsTurn options n then new synced turn.element) none (turn_at options then new synced 0 turns each is.row.slot turn.element turn.there))

  pub turns_synced : FullRowsAscend full → IsSynced options old new synced full
  turns_synced sorted = record {
    between = record { from = revision-prefix old then less; upto = revision-prefix then new more };
    rows = rows;
    distinct = distinct;
    sorted = sorted;
    complete = complete;
  }
