-- What a run says is all that makes it one.
use Rattle.std.proofs.Common.{◌≡◌, ℕ, inl, inr, IsTrue, List, Contains, Some, Ok, Err, refl, sym, subst, arith}
use Rattle.std.proofs.lemmas.Bool.{not-true}
use Rattle.pol_mapkey.specs.declared.Word.{Word}
use Rattle.pol_model.specs.Endpoints.{endpoint_of}
use Rattle.pol_model.specs.declared.answer.FullSlot.{FullSlot}
use Rattle.pol_model.specs.declared.options.Options.{Options}
use Rattle.pol_model.specs.declared.request.Query.{Query}
use Rattle.pol_model.specs.declared.request.Request.{Request}
use Rattle.pol_answer.specs.declared.answer.Answer.{Answer}
use Rattle.pol_answer.specs.declared.answer.Answer.TheVariants as answer
use Rattle.pol_script.specs.declared.command.Command.TheVariants as command
use Rattle.pol_run.specs.Spots.{Line, Reading, Spot, spots_of, stands_before}
use Rattle.pol_run.specs.History.{history_of, state_at}
use Rattle.pol_run.specs.Moments.{IsMoment}
use Rattle.pol_run.specs.Endpoints.{VerdictAnswers, SyncAnswers, has_row, size_at}
use Rattle.pol_run.specs.RightAnswer.{RightAnswer, IsRightVerdict, IsRightNotYet, IsRightSync, IsRightRow, IsTooLarge}
use Rattle.pol_run.specs.Run.{IsRun}
use Rattle.pol_run.specs.ByIndex.{IsLine, ComesBefore, IsReached, IsSinceSeen, Prints}
use Rattle.pol_run.specs.InShort.{ShowsMap, IsFoundByScan, IsUnpublished, IsExact, AreExact, IsOverAfter, Says, IsRunInShort}
use Rattle.pol_run.proofs.Lists.{every_contained, every_weaker}
use Rattle.pol_run.proofs.ByIndex.{phase_counted, spot_of, IsSpotOf, every_spot_of, known_before}
use Rattle.pol_run.proofs.ByIndexCommits.{cap_to_reached}
use Rattle.pol_run.proofs.ShortRows.{is_over, is_fitting, not_fitting, row_names_differ, distinct_from}
use Rattle.pol_run.proofs.ShortNumbers.{short_numbered, short_history}
use Rattle.pol_run.proofs.ShortFloors.{every_listed, floor_from_seen}

-- ---- what a line shows

shows_verdict : (options : Options) (spots : List Spot) (reading : Reading) (told : Answer) (name : List ℕ) (added seen : ℕ)
    → VerdictAnswers options spots reading told name added seen → ShowsMap options (history_of spots) reading told name added seen
shows_verdict options spots (Ok (command.Look session query)) (answer.Verdict revision word) name added seen verdict = (
  verdict.1,
  verdict.0,
  record {
    endpoint = verdict.2.endpoint;
    lives = subst (λ (r : ℕ). endpoint_of name (state_at options spots r).endpoints ≡ Some verdict.2.endpoint) (sym verdict.1) verdict.2.live.found;
    same = verdict.2.same;
  },
)
shows_verdict options spots reading told name added seen verdict = absurd verdict

shows_sync : (options : Options) (history : List Request) (reading : Reading) (told : Answer) (name : List ℕ) (added seen : ℕ)
    → SyncAnswers told name added seen → ShowsMap options history reading told name added seen
shows_sync options history reading (answer.Synced revision full) name added seen sync =
    (sync.0, (omega (arith, sync.0, sync.1)), row_names_differ name full (not-true (has_row name full) sync.2))
shows_sync options history reading told name added seen sync = absurd sync

module _ (options : Options) (lines : List Line) (short : IsRunInShort options lines) where
  -- both parts of the account, over the history of the `ok` lines
  abbrev OverHistory : List Request → Type 0
  OverHistory history =
      ((i : ℕ) (reading : Reading) (told : Answer) (revision : ℕ) → IsLine lines i reading told → Prints told revision
      → IsReached lines history i reading revision)
      × ((i : ℕ) (reading : Reading) (told : Answer) → IsLine lines i reading told → Says options lines history i reading told)

  over_history : OverHistory (history_of (spots_of lines))
  over_history = subst (λ (history : List Request). OverHistory history) (short_history options lines short) (short.none_ahead, short.each)

  module _ (i : ℕ) (reading : Reading) (told : Answer) (line : IsLine lines i reading told) where
    -- a revision that the line may reach, and that is no older than what its session has seen, is a moment of it
    moment_from : (k : ℕ) → IsSinceSeen lines i reading k → IsReached lines (history_of (spots_of lines)) i reading k
        → IsMoment (spots_of lines) (spot_of lines i reading told) k
    moment_from k since reached = record {
      reached = floor_from_seen lines i reading told k since;
      allowed = cap_to_reached lines (short_numbered options lines short) i reading told k line reached;
    }

    moment_printed : (k : ℕ) → Prints told k → IsSinceSeen lines i reading k → IsMoment (spots_of lines) (spot_of lines i reading told) k
    moment_printed k prints since = moment_from k since (over_history.0 i reading told k line prints)

    other_before : (other : Spot) → Contains (spots_of lines) other → IsTrue (stands_before other (spot_of lines i reading told))
        → IsLine lines other.index other.reading other.answer × ComesBefore lines other.index other.reading i reading
    other_before other listed before =
        let is = every_contained (IsSpotOf lines) (spots_of lines) other (every_spot_of lines) listed in
        (is.line, known_before lines other (spot_of lines i reading told) is (record { line = line; phase = refl }) before)

    verdict_from : (query : Query) (revision : ℕ) (word : Word)
        → IsFoundByScan options lines (history_of (spots_of lines)) i reading query revision word
        → IsRightVerdict options (spots_of lines) (spot_of lines i reading told) query revision word
    verdict_from query revision word found = record {
      moment = found.still;
      is_moment = moment_from found.still found.since_seen found.reached;
      endpoint = found.endpoint;
      live = record { found = found.lives_still };
      since_added = found.since_added;
      by_moment = found.later;
      scan = found.scan;
      fits = is_fitting options (size_at options (spots_of lines) revision found.endpoint) found.fits;
      verdicts_seen = λ other seen listed before verdict.
          let there = other_before other listed before in
          found.no_older other.index other.reading other.answer seen there.0 there.1
          (shows_verdict options (spots_of lines) other.reading other.answer query.endpoint found.endpoint.added seen verdict.verdict);
      syncs_seen = λ other seen listed before sync.
          let there = other_before other listed before in
          found.no_older other.index other.reading other.answer seen there.0 there.1
          (shows_sync options (history_of (spots_of lines)) other.reading other.answer query.endpoint found.endpoint.added seen sync.sync);
    }

    not_yet_from : (query : Query) (revision : ℕ) → Prints told revision → IsSinceSeen lines i reading revision
        → IsUnpublished options lines (history_of (spots_of lines)) i reading query revision
        → IsRightNotYet options (spots_of lines) (spot_of lines i reading told) query revision
    not_yet_from query revision prints since unpublished = record {
      is_moment = moment_printed revision prints since;
      endpoint = unpublished.endpoint;
      live = record { found = unpublished.lives };
      no_verdict = λ other seen listed before verdict.
          let there = other_before other listed before in
          unpublished.none_seen other.index other.reading other.answer seen there.0 there.1
          (shows_verdict options (spots_of lines) other.reading other.answer query.endpoint unpublished.endpoint.added seen verdict.verdict);
      no_sync = λ other seen listed before sync.
          let there = other_before other listed before in
          unpublished.none_seen other.index other.reading other.answer seen there.0 there.1
          (shows_sync options (history_of (spots_of lines)) other.reading other.answer query.endpoint unpublished.endpoint.added seen sync.sync);
    }

    row_from : (revision : ℕ) (row : FullSlot) → Prints told row.revision → IsExact options (history_of (spots_of lines)) revision row
        → IsRightRow options (spots_of lines) (spot_of lines i reading told) revision row
    row_from revision row prints exact = record {
      since = exact.newer;
      allowed = cap_to_reached lines (short_numbered options lines short) i reading told row.revision line
          (over_history.0 i reading told row.revision line prints);
      endpoint = exact.endpoint;
      live = record { found = exact.lives };
      count = exact.count;
      too_many = not_fitting options row.count exact.over;
    }

    over_from : (name : List ℕ) (added k : ℕ) → IsTooLarge options (spots_of lines) name added k
        → IsOverAfter options (history_of (spots_of lines)) name added k
    over_from name added k large = record {
      endpoint = large.endpoint;
      lives = large.live.found;
      same = large.same;
      over = is_over options (size_at options (spots_of lines) k large.endpoint) large.too_many;
    }

  sync_from : (i session revision : ℕ) (full : List FullSlot) → IsLine lines i (Ok (command.Sync session)) (answer.Synced revision full)
      → AreExact options lines (history_of (spots_of lines)) i (Ok (command.Sync session)) revision full
      → IsSinceSeen lines i (Ok (command.Sync session)) revision
      → IsRightSync options (spots_of lines) (spot_of lines i (Ok (command.Sync session)) (answer.Synced revision full)) revision full
  sync_from i session revision full line exact since =
      let reading : Reading = Ok (command.Sync session) in
      let told = answer.Synced revision full in
      let spots = spots_of lines in record {
        is_moment = moment_printed i reading told line revision (inl refl) since;
        rows = every_listed (IsRightRow options spots (spot_of lines i reading told) revision) full (λ row listed.
            row_from i reading told line revision row (inr (row, listed, refl))
            (every_contained (IsExact options (history_of spots) revision) full row exact.each listed));
        ascend = exact.sorted;
        distinct = distinct_from options spots full (λ a b first second less is_first is_second one.
            exact.distinct a b first second one.added less is_first is_second one.name
            (record { endpoint = one.first.endpoint; lives = one.first.live.found; same = one.first.same })
            (record { endpoint = one.second.endpoint; lives = one.second.live.found; same = one.second.same }));
        complete = λ name added large.
            let row = exact.none_missing name added (λ k from reached.
            over_from i reading told line name added k
            (large k from (cap_to_reached lines (short_numbered options lines short) i reading told k line reached))) in
            record {
              row = row.0;
              listed = row.1;
              named = row.2;
              live = record { endpoint = row.3.endpoint; live = record { found = row.3.lives }; same = row.3.same };
            };
      }

  right_from : (i : ℕ) (reading : Reading) (told : Answer) → IsLine lines i reading told
      → Says options lines (history_of (spots_of lines)) i reading told
      → RightAnswer options (spots_of lines) (spot_of lines i reading told) reading told
  right_from i (Err fault) (answer.BadLine told) line says = says
  right_from i (Ok command.Phase) (answer.Phase number) line says = omega (arith, says, phase_counted 1 lines i)
  right_from i (Ok (command.Commit session request)) (answer.Committed k identity) line says =
      record { no_fault = says.no_fault; identity = says.number }
  right_from i (Ok (command.Commit session request)) (answer.Refused refused) line says = record {
    moment = moment_printed i (Ok (command.Commit session request)) (answer.Refused refused) line refused.revision refl says.1;
    fault = says.0.fault;
  }
  right_from i (Ok (command.Sync session)) (answer.Synced k full) line says = sync_from i session k full line says.0 says.1
  right_from i (Ok (command.Look session query)) (answer.Verdict revision word) line says =
      verdict_from i (Ok (command.Look session query)) (answer.Verdict revision word) line query revision word says
  right_from i (Ok (command.Look session query)) (answer.NotYet k) line says =
      not_yet_from i (Ok (command.Look session query)) (answer.NotYet k) line query k refl says.1 says.0
  right_from i (Ok (command.Look session query)) (answer.NoEndpoint k) line says = record {
    is_moment = moment_printed i (Ok (command.Look session query)) (answer.NoEndpoint k) line k refl says.1;
    absent = says.0;
  }
  right_from i (Ok (command.Trace session query)) (answer.Traced k trace) line says = record {
    is_moment = moment_printed i (Ok (command.Trace session query)) (answer.Traced k trace) line k refl says.1;
    explains = says.0;
  }
  right_from i (Ok (command.Trace session query)) (answer.NoEndpoint k) line says = record {
    is_moment = moment_printed i (Ok (command.Trace session query)) (answer.NoEndpoint k) line k refl says.1;
    absent = says.0;
  }
  right_from i reading told line says = absurd says

  -- lines of which the short account holds are a run
  pub run_from_short : IsRun options (spots_of lines)
  run_from_short = record {
    numbered = short_numbered options lines short;
    right = every_weaker (IsSpotOf lines) (λ (spot : Spot). RightAnswer options (spots_of lines) spot spot.reading spot.answer)
        (λ spot is.
        subst (λ (phase : ℕ). RightAnswer options (spots_of lines)
        (record { index = spot.index; phase = phase; reading = spot.reading; answer = spot.answer }) spot.reading spot.answer) (sym is.phase)
        (right_from spot.index spot.reading spot.answer is.line (over_history.1 spot.index spot.reading spot.answer is.line)))
        (spots_of lines) (every_spot_of lines);
  }
