-- The law of runs: lines that a legal history places are a run of the policy machine, in short and so in full.
use Rattle.std.specs.List.{zip}
use Rattle.std.proofs.Common.{◌≡◌, ℕ, ◌-◌, ◌≤◌, List, take, slice_get, Option, None, Some, Ok, Err, refl, ap, sym, ◌∙◌, subst, arith}
use Rattle.pol_mapkey.specs.declared.Word.{Word}
use Rattle.pol_model.specs.Endpoints.{endpoint_of}
use Rattle.pol_model.specs.Fault.{fault_of}
use Rattle.pol_model.specs.Remote.{verdict_for}
use Rattle.pol_model.specs.State.{State}
use Rattle.pol_model.specs.PolicyMap.{map_size}
use Rattle.pol_model.specs.declared.answer.FullSlot.{FullSlot}
use Rattle.pol_model.specs.declared.answer.Refused.{Refused}
use Rattle.pol_model.specs.declared.answer.Trace.{Trace}
use Rattle.pol_model.specs.declared.options.Options.{Options}
use Rattle.pol_model.specs.declared.request.Query.{Query}
use Rattle.pol_model.specs.declared.request.Request.{Request}
use Rattle.pol_model.specs.declared.row.Endpoint.{Endpoint}
use Rattle.pol_model.specs.Explain.{explain_of}
use Rattle.pol_answer.specs.declared.answer.Answer.{Answer}
use Rattle.pol_answer.specs.declared.answer.Answer.TheVariants as answer
use Rattle.pol_script.specs.declared.command.Command.TheVariants as command
use Rattle.pol_run.specs.Run.{readings_of}
use Rattle.pol_run.specs.Spots.{Line, Reading, spots_of}
use Rattle.pol_run.specs.ByIndex.{ComesBefore, IsLine, IsReached, IsSinceSeen, Prints}
use Rattle.pol_run.specs.InShort.{AreExact, HasFault, IsExplained, IsFoundByScan, IsKth, IsRunInShort, IsUnpublished, LivesAfter, LivesNone, Says, ShowsMap, after_commits}
use Rattle.pol_run.specs.History.{history_of}
use Rattle.pol_run.proofs.FromShort.{run_from_short}
use Rattle.pol_run.proofs.ShortNumbers.{short_history}
use Rattle.pol_history.specs.declared.event.HistoryEvent.{HistoryEvent}
use Rattle.pol_history.specs.declared.event.HistoryEvent.TheVariants as event
use Rattle.pol_history.specs.Commits.{commits_in, revision_of, state_after}
use Rattle.pol_history.specs.Legal.{IsLegal}
use Rattle.pol_history.proofs.Cuts.{revision-grows, state-take, state-then}
use Rattle.pol_history.proofs.LegalEvents.{legal_take}
use Rattle.pol_history.proofs.Lists.{get_take}
use Rattle.pol_run_laws.specs.LawOfRuns.{PlacedAnswersAreARun, PlacedLinesAreARun}
use Rattle.pol_run_laws.specs.Placed.{IsLineOf, IsPlaced}
use Rattle.pol_run_laws.proofs.Between.{are_bounded, commit_at, high_of, low_of}
use Rattle.pol_run_laws.proofs.Bounds.{AreBounded, carried, ok_ascend, reached, since_seen}
use Rattle.pol_history.proofs.Grown.{newest, published_report}
use Rattle.pol_run_laws.proofs.Live.{fits_within, live_then, one_row, published_fits, reported}
use Rattle.pol_run_laws.proofs.Looks.{TellsLook, id_of, tells_look}
use Rattle.pol_run_laws.proofs.Places.{at_first, commit-kth}
use Rattle.pol_run_laws.proofs.Shown.{IsShown, showing_session, shown, verdict_row}
use Rattle.pol_run_laws.proofs.Syncs.{are_exact}

module _ (options : Options) (history : List HistoryEvent) (lines : List Line) (legal : IsLegal options history) (placed : IsPlaced options history lines) where
  abbrev requests : List Request
  requests = commits_in history

  -- the revisions of the two beginnings of line i
  abbrev low : ℕ → ℕ
  low i = low_of options history lines placed i

  abbrev high : ℕ → ℕ
  high i = high_of options history lines placed i

  -- what the session of line i had seen once it was answered
  abbrev new : ℕ → List HistoryEvent
  new i = take (placed.after i) history

  bounded : AreBounded lines requests low high
  bounded = are_bounded options history lines placed legal

  module _ (session i : ℕ) (reading : Reading) (told : Answer) (line : IsLineOf lines session i reading told) where
    reaches : (k : ℕ) → k ≤ high i → IsReached lines requests i reading k
    reaches k within = reached lines requests low high bounded session i reading told line k within

    since : (k : ℕ) → low i ≤ k → IsSinceSeen lines i reading k
    since k past = since_seen lines requests low high bounded session i reading told line k past

    -- a state that the session had seen is that of the history
    state_seen : (k : ℕ) → k ≤ high i → state_after options (new i) k ≡ after_commits options requests k
    state_seen k within = sym (state-take options (placed.after i) history k within)

    -- What earlier lines showed of an endpoint that is live now was published.
    shown_before : (name : List ℕ) (row : Endpoint) → LivesAfter options requests (high i) name row
        → (j : ℕ) (other : Reading) (answer : Answer) (seen : ℕ) → IsLine lines j other answer → ComesBefore lines j other i reading
        → ShowsMap options requests other answer name row.added seen → IsShown (new i) (id_of name row) seen
    shown_before name row lives j other answer seen earlier before shows =
        let its = showing_session options history lines legal placed j other answer name row.added seen earlier shows in
        let of : IsLineOf lines its.0 j other answer = record { line = earlier; of = its.1 } in
        let order = placed.in_order its.0 j other answer session i reading told of line before in
        let grows = placed.grows session i reading told line in
        let was = shown options history lines legal placed its.0 j other answer name row seen (high i) of
        (revision-grows (placed.after j) (placed.after i) history (omega (arith, order, grows))) lives
        (placed.allowed its.0 j other answer of) shows in
        let first = at_first (placed.after j) was.place history (event.Publish (id_of name row) was.revision was.table) was.there in
        record {
          place = was.place;
          revision = was.revision;
          table = was.table;
          there = get_take (placed.after i) history was.place (omega (arith, first.0, order, grows)) ∙ first.1;
          newer = was.newer;
        }

  -- ---- kind by kind

  committed : (session i : ℕ) (request : Request) (k : ℕ) (identity : Option ℕ)
      → IsLine lines i (Ok (command.Commit session request)) (answer.Committed k identity) → IsKth options requests request k identity
  committed session i request k identity line =
      let is = commit_at options history lines placed session i request k identity line in
      let before : revision_of (take is.place history) ≡ k - 1 = omega (arith, is.kth) in
      record {
        from_one = omega (arith, is.kth);
        kth = subst (λ (n : ℕ). slice_get requests n ≡ Some request) before
            (commit-kth history is.place (placed.pass_of session) is.number request is.there);
        no_fault = subst (λ (n : ℕ). fault_of (after_commits options requests n) request ≡ None) before
            (subst (λ (s : State). fault_of s request ≡ None) (sym (state-then options is.place history))
            (legal.no_fault is.place (placed.pass_of session) is.number request is.there));
        number = is.identity_is;
      }

  refused : (session i : ℕ) (request : Request) (told : Refused) → IsLine lines i (Ok (command.Commit session request)) (answer.Refused told)
      → HasFault options requests request told × IsSinceSeen lines i (Ok (command.Commit session request)) told.revision
  refused session i request told line =
      let reading : Reading = Ok (command.Commit session request) in
      let of : IsLineOf lines session i reading (answer.Refused told) = record { line = line; of = refl } in
      let is = placed.allowed session i reading (answer.Refused told) of in (
        record {
          fault = subst (λ (s : State). fault_of s request ≡ Some told.fault)
              (state_seen session i reading (answer.Refused told) of told.revision is.between.upto) is.fault;
        },
        since session i reading (answer.Refused told) of told.revision is.between.from,
      )

  module _ (session i : ℕ) (query : Query) where
    abbrev looks : Reading
    looks = Ok (command.Look session query)

    abbrev traces : Reading
    traces = Ok (command.Trace session query)

    found_by_scan : (revision : ℕ) (word : Word) → IsLine lines i looks (answer.Verdict revision word)
        → IsFoundByScan options lines requests i looks query revision word
    found_by_scan revision word line =
        let told = answer.Verdict revision word in
        let of : IsLineOf lines session i looks told = record { line = line; of = refl } in
        let found = tells_look options (new i) query told (placed.allowed session i looks told of) in
        let row = found.live.row in
        let is = verdict_row options history legal (placed.after i) query revision word found in
        let lives = live_then options history query.endpoint row (placed.after i) found.live.found in
        let id = id_of query.endpoint row in
        let first = at_first (placed.after i) found.published.place history _ found.published.there in
        let at = reported options history legal found.published.place id revision
        (published_report options history legal id found.published.place revision found.published.table first.1) in
        let fits = published_fits options history legal found.published.place id revision found.published.table first.1 at in
        let same : at.row ≡ row = one_row options history revision query.endpoint at.row row at.lives is.lives in
        record {
          endpoint = row;
          since_added = is.since_added;
          lives = is.lives;
          scan = found.scan ∙ ap (λ (s : State). verdict_for options s query row) (state_seen session i looks told of revision is.within);
          fits = λ limit is_limit.
              subst (λ (e : Endpoint). map_size options (after_commits options requests revision) e ≤ limit) same
              (fits_within options (map_size options (after_commits options requests revision) at.row) limit is_limit fits);
          no_older = λ j other answer seen earlier before shows.
              let was = shown_before session i looks told of query.endpoint row lives j other answer seen earlier before shows in
              omega (
                arith,
                was.newer,
                newest options (new i) (legal_take options (placed.after i) history legal) id was.place was.revision revision was.table was.there found.published,
              );
          still = high i;
          later = is.within;
          lives_still = lives;
          since_seen = since session i looks told of (high i) (bounded.grows session i looks told of);
          reached = reaches session i looks told of (high i) (omega arith);
        }

    not_yet : (revision : ℕ) → IsLine lines i looks (answer.NotYet revision)
        → IsUnpublished options lines requests i looks query revision × IsSinceSeen lines i looks revision
    not_yet revision line =
        let told = answer.NotYet revision in
        let of : IsLineOf lines session i looks told = record { line = line; of = refl } in
        let is = tells_look options (new i) query told (placed.allowed session i looks told of) in
        let row = is.live.row in
        let lives = live_then options history query.endpoint row (placed.after i) is.live.found in (
          record {
            endpoint = row;
            lives = subst (λ (k : ℕ). LivesAfter options requests k query.endpoint row) (sym is.now) lives;
            none_seen = λ j other answer seen earlier before shows.
                let was = shown_before session i looks told of query.endpoint row lives j other answer seen earlier before shows in
                is.none was.place was.revision was.table was.there;
          },
          since session i looks told of revision (omega (arith, is.now, bounded.grows session i looks told of)),
        )

    no_endpoint : (revision : ℕ) → IsLine lines i looks (answer.NoEndpoint revision)
        → LivesNone options requests query revision × IsSinceSeen lines i looks revision
    no_endpoint revision line =
        let told = answer.NoEndpoint revision in
        let of : IsLineOf lines session i looks told = record { line = line; of = refl } in
        let is = tells_look options (new i) query told (placed.allowed session i looks told of) in (
          subst (λ (k : ℕ). LivesNone options requests query k) (sym is.now)
              (subst (λ (s : State). endpoint_of query.endpoint s.endpoints ≡ None) (sym (state-then options (placed.after i) history)) is.absent),
          since session i looks told of revision (omega (arith, is.now, bounded.grows session i looks told of)),
        )

    traced : (revision : ℕ) (trace : Trace) → IsLine lines i traces (answer.Traced revision trace)
        → IsExplained options requests query revision trace × IsSinceSeen lines i traces revision
    traced revision trace line =
        let told = answer.Traced revision trace in
        let of : IsLineOf lines session i traces told = record { line = line; of = refl } in
        let is = placed.allowed session i traces told of in (
          subst (λ (s : State). explain_of options s query ≡ Some trace) (state_seen session i traces told of revision is.between.upto) is.explains,
          since session i traces told of revision is.between.from,
        )

    untraced : (revision : ℕ) → IsLine lines i traces (answer.NoEndpoint revision)
        → LivesNone options requests query revision × IsSinceSeen lines i traces revision
    untraced revision line =
        let told = answer.NoEndpoint revision in
        let of : IsLineOf lines session i traces told = record { line = line; of = refl } in
        let is = placed.allowed session i traces told of in (
          subst (λ (s : State). endpoint_of query.endpoint s.endpoints ≡ None) (state_seen session i traces told of revision is.between.upto) is.absent,
          since session i traces told of revision is.between.from,
        )

  synced : (session i revision : ℕ) (full : List FullSlot) → IsLine lines i (Ok (command.Sync session)) (answer.Synced revision full)
      → AreExact options lines requests i (Ok (command.Sync session)) revision full × IsSinceSeen lines i (Ok (command.Sync session)) revision
  synced session i revision full line =
      let reading : Reading = Ok (command.Sync session) in
      let told = answer.Synced revision full in
      let of : IsLineOf lines session i reading told = record { line = line; of = refl } in
      let is = placed.allowed session i reading told of in (
        are_exact options history legal (take (placed.before i) history) (placed.after i) revision lines full is i reading
            (reaches session i reading told of),
        since session i reading told of revision is.between.from,
      )

  -- ---- line by line

  -- no other answer is allowed to a look-up
  no_such_look : (session i : ℕ) (query : Query) (told : Answer) → IsLine lines i (Ok (command.Look session query)) told
      → TellsLook options (new i) query told
  no_such_look session i query told line =
      tells_look options (new i) query told (placed.allowed session i (Ok (command.Look session query)) told (record { line = line; of = refl }))

  says : (i : ℕ) (reading : Reading) (told : Answer) → IsLine lines i reading told → Says options lines requests i reading told
  says i (Err fault) told line =
      subst (λ (a : Answer). Says options lines requests i (Err fault) a) (sym (placed.faulty i fault told line)) refl
  says i (Ok command.Phase) told line =
      subst (λ (a : Answer). Says options lines requests i (Ok command.Phase) a) (sym (placed.phases i told line)) refl
  says i (Ok (command.Commit session request)) (answer.Committed k identity) line = committed session i request k identity line
  says i (Ok (command.Commit session request)) (answer.Refused told) line = refused session i request told line
  says i (Ok (command.Commit session request)) told line =
      absurd (placed.allowed session i (Ok (command.Commit session request)) told (record { line = line; of = refl }))
  says i (Ok (command.Look session query)) (answer.Verdict revision word) line = found_by_scan session i query revision word line
  says i (Ok (command.Look session query)) (answer.NotYet revision) line = not_yet session i query revision line
  says i (Ok (command.Look session query)) (answer.NoEndpoint revision) line = no_endpoint session i query revision line
  says i (Ok (command.Look session query)) told line = absurd (no_such_look session i query told line)
  says i (Ok (command.Trace session query)) (answer.Traced revision trace) line = traced session i query revision trace line
  says i (Ok (command.Trace session query)) (answer.NoEndpoint revision) line = untraced session i query revision line
  says i (Ok (command.Trace session query)) told line =
      absurd (placed.allowed session i (Ok (command.Trace session query)) told (record { line = line; of = refl }))
  says i (Ok (command.Sync session)) (answer.Synced revision full) line = synced session i revision full line
  says i (Ok (command.Sync session)) told line =
      absurd (placed.allowed session i (Ok (command.Sync session)) told (record { line = line; of = refl }))

  -- a line that prints a revision is of a session, and may reach it
  reaches_printed : (session i : ℕ) (reading : Reading) (told : Answer) (k : ℕ) → IsLineOf lines session i reading told → Prints told k
      → IsReached lines requests i reading k
  reaches_printed session i reading told k of prints =
      reaches session i reading told of k (bounded.printed session i reading told k of prints)

  none_ahead : (i : ℕ) (reading : Reading) (told : Answer) (k : ℕ) → IsLine lines i reading told → Prints told k
      → IsReached lines requests i reading k
  none_ahead i (Err fault) told k line prints = absurd (subst (λ (a : Answer). Prints a k) (placed.faulty i fault told line) prints)
  none_ahead i (Ok command.Phase) told k line prints = absurd (subst (λ (a : Answer). Prints a k) (placed.phases i told line) prints)
  none_ahead i (Ok (command.Commit session request)) told k line prints =
      reaches_printed session i (Ok (command.Commit session request)) told k (record { line = line; of = refl }) prints
  none_ahead i (Ok (command.Look session query)) told k line prints =
      reaches_printed session i (Ok (command.Look session query)) told k (record { line = line; of = refl }) prints
  none_ahead i (Ok (command.Trace session query)) told k line prints =
      reaches_printed session i (Ok (command.Trace session query)) told k (record { line = line; of = refl }) prints
  none_ahead i (Ok (command.Sync session)) told k line prints =
      reaches_printed session i (Ok (command.Sync session)) told k (record { line = line; of = refl }) prints

  pub placed_in_short : IsRunInShort options lines
  placed_in_short = record {
    history = requests;
    size = sym bounded.counted;
    once = carried lines requests low high bounded;
    ascend = λ i j session other request later k n identity number first second before.
        ok_ascend lines requests low high bounded i j k n
        (record { session = session; request = request; identity = identity; line = first })
        (record { session = other; request = later; identity = number; line = second }) before;
    none_ahead = none_ahead;
    each = says;
  }

  short_is : placed_in_short.history ≡ requests
  unfolding placed_in_short
  short_is = refl

  -- the commits are the history of the run
  pub short_requests : requests ≡ history_of (spots_of lines)
  short_requests = sym short_is ∙ short_history options lines placed_in_short

pub placed_lines : PlacedLinesAreARun
placed_lines options history lines legal placed = run_from_short options lines (placed_in_short options history lines legal placed)

pub placed_answers : PlacedAnswersAreARun
placed_answers options history script answers one_each legal placed = record {
  answers = answers;
  one_each = one_each;
  text = refl;
  run = placed_lines options history (zip (readings_of script) answers) legal placed;
  status = refl;
}
