-- A run of lines of one session, whose verdicts stand behind a `synced` line with no commit between: each line is answered at
-- the number of commits before it.
use Rattle.std.proofs.Common.{◌≡◌, ℕ, suc, ◌+◌, ◌-◌, ◌<◌, ◌≤◌, true, false, List, [], ◌∷◌, length, take, slice_get, Option, None, Some, ◌⊎◌, inl, inr, Ok, refl, sym, ap, ◌∙◌, subst, arith, length-take}
use Rattle.std.specs.Prelude.{count_by, IfSome}
use Rattle.std.proofs.lemmas.Bool.{both_ways, cases_Bool, cases_eq, cases_lt, eqb-true}
use Rattle.std.proofs.lemmas.Option.{same_Some}
use Rattle.pol_answer.specs.declared.answer.Answer.{Answer}
use Rattle.pol_answer.specs.declared.answer.Answer.TheVariants as answer
use Rattle.pol_data.proofs.Counts.{count_by-cons}
use Rattle.pol_data.proofs.Members.{Contains-here}
use Rattle.pol_model_laws.proofs.Lives.{added-within}
use Rattle.pol_model.specs.After.{after}
use Rattle.pol_model.specs.Committed.{identity_given}
use Rattle.pol_model.specs.Endpoints.{endpoint_of}
use Rattle.pol_model.specs.Fault.{fault_of}
use Rattle.pol_model.specs.PolicyMap.{map_size}
use Rattle.pol_model.specs.Remote.{verdict_for}
use Rattle.pol_model.specs.declared.options.Options.{Options}
use Rattle.pol_model.specs.declared.request.Query.{Query}
use Rattle.pol_model.specs.declared.request.Request.{Request}
use Rattle.pol_model.specs.declared.row.Endpoint.{Endpoint}
use Rattle.pol_run.specs.ByIndex.{AreOfOneSession, IsLine, IsOf, IsReached, IsSinceSeen, is_ok_at}
use Rattle.pol_run.specs.InShort.{IsRunInShort, after_commits}
use Rattle.pol_run.specs.Spots.{Line, Reading}
use Rattle.pol_script.specs.declared.command.Command.TheVariants as command
use Rattle.pol_generated.specs.Maps.{HasRoom}
use Rattle.pol_generated.specs.Requests.{is_committed}

-- ---- lines

-- an index has one line
one_line : (lines : List Line) (j i : ℕ) (a b : Line) → j ≡ i → slice_get lines j ≡ Some a → slice_get lines i ≡ Some b → a ≡ b
one_line lines j i a b same first second = same_Some a b (sym first ∙ ap (slice_get lines) same ∙ second)

-- a request that is answered `ok` with this number
pub record IsCarrier (lines : List Line) (k : ℕ) : Type 0 where
  pub at : ℕ
  pub session : ℕ
  pub request : Request
  pub identity : Option ℕ
  pub line : IsLine lines at (Ok (command.Commit session request)) (answer.Committed k identity)

-- which line passes the test
tested : (k : ℕ) (reading : Reading) (told : Answer) → is_ok_at k (reading, told) ≡ true
    → (session : ℕ) × (request : Request) × (identity : Option ℕ)
    × ◌≡◌ {A = Line} (reading, told) (Ok (command.Commit session request), answer.Committed k identity)
tested k (Ok (command.Commit session request)) (answer.Committed revision identity) passes =
    let same : revision ≡ k = eqb-true revision k passes in
    (session, request, identity, (λ j. (Ok (command.Commit session request), answer.Committed (same j) identity)))
tested k reading told passes = absurd cc

first_carrier : (k : ℕ) (line : Line) (lines : List Line) → is_ok_at k line ≡ true → IsCarrier (line ∷ lines) k
first_carrier k line lines passes =
    let it = tested k line.0 line.1 passes in
    record { at = 0; session = it.0; request = it.1; identity = it.2; line = record { there = ap Some it.3 } }

later_carrier : (k : ℕ) (line : Line) (lines : List Line) → IsCarrier lines k → IsCarrier (line ∷ lines) k
later_carrier k line lines it =
    record { at = suc it.at; session = it.session; request = it.request; identity = it.identity; line = record { there = it.line.there } }

-- where some line passes the test, one carries the number
some_carrier : (k : ℕ) (lines : List Line) → 1 ≤ count_by (is_ok_at k) lines → IsCarrier lines k
some_carrier k [] some = absurd (omega (arith, some))
some_carrier k (line ∷ lines) some =
    elim (cases_Bool (is_ok_at k line)) [
      | inl passes ↦ first_carrier k line lines passes
      | inr fails ↦
          let none : count_by (is_ok_at k) (line ∷ lines) ≡ 0 + count_by (is_ok_at k) lines = count_by-cons (is_ok_at k) line lines ∙ rw fails refl in
          later_carrier k line lines (some_carrier k lines (omega (arith, some, none)))
    ]

-- ---- what stands before a line

-- no line before this one carries a number above c, and one carries c, unless that is 0
pub record IsCounted (lines : List Line) (i c : ℕ) : Type 0 where
  pub most : (j session : ℕ) (request : Request) (k : ℕ) (identity : Option ℕ)
      → IsLine lines j (Ok (command.Commit session request)) (answer.Committed k identity) → j < i → k ≤ c
  pub last : (c ≡ 0) ⊎ ((it : IsCarrier lines c) × (it.at < i))

pub none_counted : (lines : List Line) → IsCounted lines 0 0
none_counted lines = record { most = λ j session request k identity line before. absurd (omega (arith, before)); last = inl refl }

abbrev carried : Answer → ℕ
carried (answer.Committed k identity) = k
carried _ = 0

module _ (lines : List Line) (j i session : ℕ) (request : Request) (k : ℕ) (identity : Option ℕ) (same : j ≡ i)
    (its : IsLine lines j (Ok (command.Commit session request)) (answer.Committed k identity)) where
  -- a line carries one number
  one_number : (other : ℕ) (later : Request) (n : ℕ) (number : Option ℕ)
      → IsLine lines i (Ok (command.Commit other later)) (answer.Committed n number) → k ≡ n
  one_number other later n number line = ap (λ (x : Line). carried x.1) (one_line lines j i _ _ same its.there line.there)

  -- one without a commit carries none
  not_carried : (reading : Reading) (told : Answer) → IsLine lines i reading told → is_committed told ≡ false → ⊥
  not_carried reading told line other =
      let commits : true ≡ is_committed told = ap (λ (x : Line). is_committed x.1) (one_line lines j i _ _ same its.there line.there) in
      both_ways (is_committed told) other (sym commits)

pub commit_counted : (lines : List Line) (i c session : ℕ) (request : Request) (identity : Option ℕ) → IsCounted lines i c
    → IsLine lines i (Ok (command.Commit session request)) (answer.Committed (c + 1) identity) → IsCounted lines (i + 1) (c + 1)
commit_counted lines i c session request identity counted line = record {
  most = λ j other later k number its before.
      elim (cases_eq j i) [
        | inl same ↦
            let one : k ≡ c + 1 = one_number lines j i other later k number same its session request (c + 1) identity line in
            omega (arith, one)
        | inr apart ↦ let older = counted.most j other later k number its (omega (arith, before, apart)) in omega (arith, older)
      ];
  last = inr (record { at = i; session = session; request = request; identity = identity; line = line }, omega arith);
}

pub other_counted : (lines : List Line) (i c : ℕ) (reading : Reading) (told : Answer) → IsCounted lines i c → IsLine lines i reading told
    → is_committed told ≡ false → IsCounted lines (i + 1) c
other_counted lines i c reading told counted line other = record {
  most = λ j session request k identity its before.
      elim (cases_eq j i) [
        | inl same ↦ absurd (not_carried lines j i session request k identity same its reading told line other)
        | inr apart ↦ counted.most j session request k identity its (omega (arith, before, apart))
      ];
  last = elim counted.last [ inl none ↦ inl none | inr it ↦ inr (it.0, (let before = it.1 in omega (arith, before))) ];
}

-- a `synced` line before this one is of the revision, and has no row
pub record IsSynced (lines : List Line) (i c : ℕ) : Type 0 where
  pub at : ℕ
  pub before : at < i
  pub session : ℕ
  pub line : IsLine lines at (Ok (command.Sync session)) (answer.Synced c [])

-- ---- what a run says of such lines

not_found : {X : Type 0} (o : Option X) (x : X) → o ≡ None → o ≡ Some x → ⊥
not_found o x none some = cc

room_for : (count limit : ℕ) (o : Option ℕ) → IfSome o (λ l. count ≤ l) → o ≡ Some limit → count ≤ limit
room_for count limit None room is = absurd cc
room_for count limit (Some l) room is = let same : l ≡ limit = same_Some l limit is in omega (arith, room, same)

module _ (options : Options) (lines : List Line) (short : IsRunInShort options lines)
    (own : (i : ℕ) (reading : Reading) (told : Answer) → IsLine lines i reading told → IsOf 1 reading) where
  pub carrier : (k : ℕ) → 1 ≤ k → k ≤ length short.history → IsCarrier lines k
  carrier k positive most = let once = short.once k positive most in some_carrier k lines (omega (arith, once))

  -- both lines are of the one session
  together : (i j : ℕ) (first second : Reading) (one other : Answer) → IsLine lines i first one → IsLine lines j second other
      → AreOfOneSession first second
  together i j first second one other here there = record { session = 1; first_is = own i first one here; second_is = own j second other there }

  module _ (i c : ℕ) (counted : IsCounted lines i c) where
    -- the next number is carried by no line before
    later_carried : (it : IsCarrier lines (c + 1)) → i ≤ it.at
    later_carried it =
        elim (cases_lt it.at i) [
          | inl before ↦ absurd (let old = counted.most it.at it.session it.request (c + 1) it.identity it.line before in omega (arith, old))
          | inr after ↦ after
        ]

    -- a line that makes no commit reaches no later revision
    reached_at_most : (reading : Reading) (told : Answer) (revision : ℕ) → IsLine lines i reading told → is_committed told ≡ false
        → IsReached lines short.history i reading revision → revision ≤ c
    reached_at_most reading told revision line other reached =
        elim (cases_lt c revision) [
          | inl above ↦
              let made = reached.made in
              let it = carrier (c + 1) (omega arith) (omega (arith, above, made)) in
              elim (cases_eq it.at i) [
                | inl same ↦ absurd (not_carried lines it.at i it.session it.request (c + 1) it.identity same it.line reading told line other)
                | inr apart ↦
                    let from = later_carried it in
                    let less : i < it.at = omega (arith, from, apart) in
                    let before = reached.none_after it.at it.session it.request (c + 1) it.identity it.line
                    (inl (less, together i it.at reading (Ok (command.Commit it.session it.request)) told (answer.Committed (c + 1) it.identity) line it.line)) in
                    absurd (omega (arith, above, before))
              ]
          | inr within ↦ within
        ]

    seen_at_least : (reading : Reading) (told : Answer) (revision : ℕ) → IsLine lines i reading told → IsSinceSeen lines i reading revision → c ≤ revision
    seen_at_least reading told revision line since =
        elim counted.last [
          | inl none ↦ omega (arith, none)
          | inr it ↦
              let carrying = it.0 in
              since.printed carrying.at (Ok (command.Commit carrying.session carrying.request)) (answer.Committed c carrying.identity) c carrying.line it.1
              (together carrying.at i (Ok (command.Commit carrying.session carrying.request)) reading (answer.Committed c carrying.identity) told carrying.line line) refl
        ]

    -- so what it prints is the number of the commits before it
    at_present : (reading : Reading) (told : Answer) (revision : ℕ) → IsLine lines i reading told → is_committed told ≡ false
        → IsReached lines short.history i reading revision → IsSinceSeen lines i reading revision → revision ≡ c
    at_present reading told revision line other reached since =
        omega (arith, reached_at_most reading told revision line other reached, seen_at_least reading told revision line since)

    -- ---- requests

    next_number : (session : ℕ) (request : Request) (k : ℕ) (identity : Option ℕ)
        → IsLine lines i (Ok (command.Commit session request)) (answer.Committed k identity) → 1 ≤ k → k ≤ length short.history → k ≡ c + 1
    next_number session request k identity line positive most =
        let above : c < k =
        elim counted.last as (λ _. c < k) [
          | inl none ↦ omega (arith, none, positive)
          | inr it ↦
              let carrying = it.0 in
              short.ascend carrying.at i carrying.session session carrying.request request c k carrying.identity identity carrying.line line
              (inl (
                it.1,
                together carrying.at i (Ok (command.Commit carrying.session carrying.request)) (Ok (command.Commit session request))
                    (answer.Committed c carrying.identity) (answer.Committed k identity) carrying.line line,
              ))
        ] in
        elim (cases_lt (c + 1) k) [
          | inl further ↦
              let it = carrier (c + 1) (omega arith) (omega (arith, further, most)) in
              elim (cases_eq it.at i) [
                | inl same ↦ sym (one_number lines it.at i it.session it.request (c + 1) it.identity same it.line session request k identity line)
                | inr apart ↦
                    let from = later_carried it in
                    let less : i < it.at = omega (arith, from, apart) in
                    let before = short.ascend i it.at session it.session request it.request k (c + 1) identity it.identity line it.line
                    (inl (
                      less,
                      together i it.at (Ok (command.Commit session request)) (Ok (command.Commit it.session it.request))
                          (answer.Committed k identity) (answer.Committed (c + 1) it.identity) line it.line,
                    )) in
                    absurd (omega (arith, further, before))
              ]
          | inr within ↦ omega (arith, above, within)
        ]

    -- it commits, with the next number, and its request is the next of the history
    pub commits_next : (session : ℕ) (request : Request) (told : Answer) → IsLine lines i (Ok (command.Commit session request)) told
        → fault_of (after_commits options short.history c) request ≡ None
        → (told ≡ answer.Committed (c + 1) (identity_given (after_commits options short.history (c + 1)) request))
        × (slice_get short.history c ≡ Some request)
    commits_next session request (answer.Committed k identity) line none =
        let says = short.each i (Ok (command.Commit session request)) (answer.Committed k identity) line in
        let reached = short.none_ahead i (Ok (command.Commit session request)) (answer.Committed k identity) k line refl in
        let same : k ≡ c + 1 = next_number session request k identity line says.from_one reached.made in
        let place : k - 1 ≡ c = omega (arith, same) in (
          subst (λ (n : ℕ). answer.Committed k identity ≡ answer.Committed n (identity_given (after_commits options short.history n) request)) same
              (ap (λ (number : Option ℕ). answer.Committed k number) says.number),
          subst (λ (n : ℕ). slice_get short.history n ≡ Some request) place says.kth,
        )
    commits_next session request (answer.Refused refused) line none =
        let says = short.each i (Ok (command.Commit session request)) (answer.Refused refused) line in
        let reached = short.none_ahead i (Ok (command.Commit session request)) (answer.Refused refused) refused.revision line refl in
        let same : refused.revision ≡ c =
        at_present (Ok (command.Commit session request)) (answer.Refused refused) refused.revision line refl reached says.1 in
        absurd (not_found (fault_of (after_commits options short.history c) request) refused.fault none
        (subst (λ (n : ℕ). fault_of (after_commits options short.history n) request ≡ Some refused.fault) same says.0.fault))
    commits_next session request told line none = absurd (short.each i (Ok (command.Commit session request)) told line)

    -- ---- queries and synchronisations

    module _ (synced : IsSynced lines i c) where
      -- the line comes behind the `synced` line
      behind_sync : (reading : Reading) (told : Answer) → IsLine lines i reading told → AreOfOneSession (Ok (command.Sync synced.session)) reading
      behind_sync reading told line = together synced.at i (Ok (command.Sync synced.session)) reading (answer.Synced c []) told synced.line line

      pub verdict_now : (session : ℕ) (query : Query) (endpoint : Endpoint) (told : Answer) → IsLine lines i (Ok (command.Look session query)) told
          → endpoint_of query.endpoint (after_commits options short.history c).endpoints ≡ Some endpoint
          → told ≡ answer.Verdict c (verdict_for options (after_commits options short.history c) query endpoint)
      verdict_now session query endpoint (answer.Verdict revision word) line live =
          let reading : Reading = Ok (command.Look session query) in
          let says = short.each i reading (answer.Verdict revision word) line in
          let still : says.still ≤ c = reached_at_most reading (answer.Verdict revision word) says.still line refl says.reached in
          let later = says.later in
          let since_added = says.since_added in
          let newer : c ≤ revision =
          says.no_older synced.at (Ok (command.Sync synced.session)) (answer.Synced c []) c synced.line
          (inl (synced.before, behind_sync reading (answer.Verdict revision word) line))
          (refl, omega (arith, since_added, later, still), tt) in
          let same : revision ≡ c = omega (arith, newer, later, still) in
          let found : endpoint_of query.endpoint (after_commits options short.history c).endpoints ≡ Some says.endpoint =
          subst (λ (n : ℕ). endpoint_of query.endpoint (after_commits options short.history n).endpoints ≡ Some says.endpoint) same says.lives in
          let one : says.endpoint ≡ endpoint = same_Some says.endpoint endpoint (sym found ∙ live) in
          let words : word ≡ verdict_for options (after_commits options short.history c) query endpoint =
          says.scan ∙ (λ j. verdict_for options (after_commits options short.history (same j)) query (one j)) in
          λ j. answer.Verdict (same j) (words j)
      verdict_now session query endpoint (answer.NotYet k) line live =
          let reading : Reading = Ok (command.Look session query) in
          let says = short.each i reading (answer.NotYet k) line in
          let reached = short.none_ahead i reading (answer.NotYet k) k line refl in
          let same : k ≡ c = at_present reading (answer.NotYet k) k line refl reached says.1 in
          let unseen = says.0 in
          let added = (added-within options (take k short.history) query.endpoint unseen.endpoint unseen.lives).1 in
          absurd (unseen.none_seen synced.at (Ok (command.Sync synced.session)) (answer.Synced c []) c synced.line
          (inl (synced.before, behind_sync reading (answer.NotYet k) line))
          (refl, omega (arith, same, added, length-take k short.history), tt))
      verdict_now session query endpoint (answer.NoEndpoint k) line live =
          let reading : Reading = Ok (command.Look session query) in
          let says = short.each i reading (answer.NoEndpoint k) line in
          let reached = short.none_ahead i reading (answer.NoEndpoint k) k line refl in
          let same : k ≡ c = at_present reading (answer.NoEndpoint k) k line refl reached says.1 in
          absurd (not_found (endpoint_of query.endpoint (after_commits options short.history c).endpoints) endpoint
          (subst (λ (n : ℕ). endpoint_of query.endpoint (after_commits options short.history n).endpoints ≡ None) same says.0) live)
      verdict_now session query endpoint told line live = absurd (short.each i (Ok (command.Look session query)) told line)

    pub synced_now : (session most : ℕ) (told : Answer) → HasRoom most options → IsLine lines i (Ok (command.Sync session)) told
        → ((endpoint : Endpoint) → map_size options (after_commits options short.history c) endpoint ≤ most)
        → told ≡ answer.Synced c []
    synced_now session most (answer.Synced k []) room line fits =
        let reading : Reading = Ok (command.Sync session) in
        let says = short.each i reading (answer.Synced k []) line in
        let reached = short.none_ahead i reading (answer.Synced k []) k line (inl refl) in
        let same : k ≡ c = at_present reading (answer.Synced k []) k line refl reached says.1 in
        λ j. answer.Synced (same j) []
    synced_now session most (answer.Synced k (row ∷ rows)) room line fits =
        let reading : Reading = Ok (command.Sync session) in
        let told : Answer = answer.Synced k (row ∷ rows) in
        let says = short.each i reading told line in
        let exact = says.0.each.0 in
        let reached = short.none_ahead i reading told row.revision line (inr (row, Contains-here row rows, refl)) in
        let since = seen_at_least reading told k line says.1 in
        let newer = exact.newer in
        let same : row.revision ≡ c = omega (arith, since, newer, reached_at_most reading told row.revision line refl reached) in
        let size : map_size options (after_commits options short.history row.revision) exact.endpoint ≤ most =
        subst (λ (n : ℕ). map_size options (after_commits options short.history n) exact.endpoint ≤ most) (sym same) (fits exact.endpoint) in
        let count = exact.count in
        let over = exact.over.over in
        absurd (omega (arith, size, count, over, room_for most exact.over.limit options.map_max room exact.over.is_limit))
    synced_now session most told room line fits = absurd (short.each i (Ok (command.Sync session)) told line)
