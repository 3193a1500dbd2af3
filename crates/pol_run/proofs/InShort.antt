-- What a run says, line by line.
use Rattle.std.proofs.Common.{◌≡◌, ℕ, ◌<◌, ◌≤◌, ◌==◌, ◌⊎◌, inl, inr, IsTrue, List, length, Option, Some, Ok, Err, sym, ◌∙◌, subst, arith}
use Rattle.std.specs.Prelude.{count_by}
use Rattle.std.proofs.lemmas.Bool.{leb-true}
use Rattle.std.proofs.lemmas.List.Sums.{length-filter}
use Rattle.pol_mapkey.specs.declared.Word.{Word}
use Rattle.pol_model.specs.Endpoints.{endpoint_of}
use Rattle.pol_model.specs.declared.answer.FullSlot.{FullSlot}
use Rattle.pol_model.specs.declared.options.Options.{Options}
use Rattle.pol_model.specs.declared.request.Query.{Query}
use Rattle.pol_model.specs.declared.request.Request.{Request}
use Rattle.pol_model.specs.FullRows.{fits_limit}
use Rattle.pol_model_laws.proofs.Lives.{found_back}
use Rattle.pol_answer.specs.declared.answer.Answer.{Answer}
use Rattle.pol_answer.specs.declared.answer.Answer.TheVariants as answer
use Rattle.pol_script.specs.declared.command.Command.TheVariants as command
use Rattle.pol_run.specs.Spots.{Line, Reading, Spot, spots_of}
use Rattle.pol_run.specs.History.{Commit, commits_of, history_of, state_at}
use Rattle.pol_run.specs.Moments.{IsMoment}
use Rattle.pol_run.specs.Endpoints.{IsVerdictFor, IsSyncFor, size_at}
use Rattle.pol_run.specs.RightAnswer.{RightAnswer, IsRightVerdict, IsRightNotYet, IsRightSync, IsRightRow}
use Rattle.pol_run.specs.Run.{IsRun}
use Rattle.pol_run.specs.ByIndex.{IsLine, is_ok_at, ComesBefore, IsReached, IsSinceSeen, Prints}
use Rattle.pol_run.specs.InShort.{ShowsMap, IsFoundByScan, IsUnpublished, IsExact, AreExact, Says, IsRunInShort}
use Rattle.pol_run.proofs.Lists.{every_contained, every_weaker}
use Rattle.pol_run.proofs.Counting.{carried_once, requests_all, request_kth}
use Rattle.pol_run.proofs.ByIndex.{phase_counted, spot_of, spot_listed, stands_before_known}
use Rattle.pol_run.proofs.ByIndexCommits.{commit_of, ok_listed, commits_counted, numbers_counted, reached_to_cap}
use Rattle.pol_run.proofs.Seen.{since_floor}
use Rattle.pol_run.proofs.ShortRows.{is_over, not_fitting, no_row, apart_at}

-- ---- line by line

module _ (options : Options) (lines : List Line) where
  -- a line that shows a map does so where it stands
  shown_before : (j : ℕ) (other : Reading) (told : Answer) (name : List ℕ) (added seen : ℕ)
      → ShowsMap options (history_of (spots_of lines)) other told name added seen
      → IsVerdictFor options (spots_of lines) (spot_of lines j other told) name added seen
      ⊎ IsSyncFor (spot_of lines j other told) name added seen
  shown_before j (Ok (command.Look session query)) (answer.Verdict revision word) name added seen shows =
      inl (record {
        verdict = (
          shows.1,
          shows.0,
          record {
            endpoint = shows.2.endpoint;
            live = record {
              found = subst (λ (r : ℕ). endpoint_of name (state_at options (spots_of lines) r).endpoints ≡ Some shows.2.endpoint) shows.0 shows.2.lives;
            };
            same = shows.2.same;
          },
        );
      })
  shown_before j reading (answer.Synced revision full) name added seen shows =
      inr (record { sync = (shows.0, (omega (arith, shows.0, shows.1)), no_row name full shows.2) })
  shown_before j reading (answer.Verdict revision word) name added seen shows = absurd shows.1
  shown_before j reading told name added seen shows = absurd shows

  module _ (run : IsRun options (spots_of lines)) (i : ℕ) (reading : Reading) (told : Answer) (line : IsLine lines i reading told) where
    -- a moment of the line is a revision that it may reach, and no older than what its session has seen
    reached_at : (k : ℕ) → IsMoment (spots_of lines) (spot_of lines i reading told) k → IsReached lines (history_of (spots_of lines)) i reading k
    reached_at k moment = reached_to_cap lines run.numbered i reading told k moment.allowed

    since_at : (k : ℕ) → IsMoment (spots_of lines) (spot_of lines i reading told) k → IsSinceSeen lines i reading k
    since_at k moment = since_floor lines i reading told k moment.reached

    by_scan : (query : Query) (revision : ℕ) (word : Word) → IsRightVerdict options (spots_of lines) (spot_of lines i reading told) query revision word
        → IsFoundByScan options lines (history_of (spots_of lines)) i reading query revision word
    by_scan query revision word right = record {
      endpoint = right.endpoint;
      since_added = right.since_added;
      lives = found_back options (history_of (spots_of lines)) revision right.moment query.endpoint right.endpoint right.by_moment right.since_added right.live.found;
      scan = right.scan;
      fits = λ limit is.
          leb-true (size_at options (spots_of lines) revision right.endpoint) limit
          (subst (λ (o : Option ℕ). IsTrue (fits_limit o (size_at options (spots_of lines) revision right.endpoint))) is right.fits);
      no_older = λ j other answer seen there before shows.
          let listed = spot_listed lines j other answer there in
          let stands = stands_before_known lines j i other reading answer told before in
          elim (shown_before j other answer query.endpoint right.endpoint.added seen shows) [
            | inl verdict ↦ right.verdicts_seen (spot_of lines j other answer) seen listed stands verdict
            | inr sync ↦ right.syncs_seen (spot_of lines j other answer) seen listed stands sync
          ];
      still = right.moment;
      later = right.by_moment;
      lives_still = right.live.found;
      since_seen = since_at right.moment right.is_moment;
      reached = reached_at right.moment right.is_moment;
    }

    unpublished : (query : Query) (revision : ℕ) → IsRightNotYet options (spots_of lines) (spot_of lines i reading told) query revision
        → IsUnpublished options lines (history_of (spots_of lines)) i reading query revision
    unpublished query revision right = record {
      endpoint = right.endpoint;
      lives = right.live.found;
      none_seen = λ j other answer seen there before shows.
          let listed = spot_listed lines j other answer there in
          let stands = stands_before_known lines j i other reading answer told before in
          elim (shown_before j other answer query.endpoint right.endpoint.added seen shows) [
            | inl verdict ↦ right.no_verdict (spot_of lines j other answer) seen listed stands verdict
            | inr sync ↦ right.no_sync (spot_of lines j other answer) seen listed stands sync
          ];
    }

    exact : (revision : ℕ) (full : List FullSlot) → IsRightSync options (spots_of lines) (spot_of lines i reading told) revision full
        → AreExact options lines (history_of (spots_of lines)) i reading revision full
    exact revision full right = record {
      each = every_weaker (IsRightRow options (spots_of lines) (spot_of lines i reading told) revision) (IsExact options (history_of (spots_of lines)) revision)
          (λ row is. record {
            newer = is.since;
            endpoint = is.endpoint;
            lives = is.live.found;
            count = is.count;
            over = is_over options row.count is.too_many;
          }) full right.rows;
      sorted = right.ascend;
      distinct = λ a b first second added less is_first is_second same one other.
          apart_at options (spots_of lines) full a b first second right.distinct less is_first is_second (record {
            name = same;
            added = added;
            first = record { endpoint = one.endpoint; live = record { found = one.lives }; same = one.same };
            second = record { endpoint = other.endpoint; live = record { found = other.lives }; same = other.same };
          });
      none_missing = λ name added large.
          let row = right.complete name added (λ k from to.
          let over = large k from (reached_to_cap lines run.numbered i reading told k to) in
          record {
            endpoint = over.endpoint;
            live = record { found = over.lives };
            same = over.same;
            too_many = not_fitting options (size_at options (spots_of lines) k over.endpoint) over.over;
          }) in
          (row.row, row.listed, row.named, record { endpoint = row.live.endpoint; lives = row.live.live.found; same = row.live.same });
    }

-- ---- the commits

module _ (options : Options) (lines : List Line) (run : IsRun options (spots_of lines)) where
  history_length : length (history_of (spots_of lines)) ≡ length (commits_of (spots_of lines))
  history_length = requests_all (commits_of (spots_of lines)) run.numbered.from_one run.numbered.each_once

  commits_ascend : (i j session other : ℕ) (request later : Request) (k n : ℕ) (identity number : Option ℕ)
      → IsLine lines i (Ok (command.Commit session request)) (answer.Committed k identity)
      → IsLine lines j (Ok (command.Commit other later)) (answer.Committed n number)
      → ComesBefore lines i (Ok (command.Commit session request)) j (Ok (command.Commit other later)) → k < n
  commits_ascend i j session other request later k n identity number first second before =
      run.numbered.ascending (commit_of lines i session request k identity) (commit_of lines j other later n number)
      (ok_listed lines i session request k identity first) (ok_listed lines j other later n number second)
      (stands_before_known lines i j (Ok (command.Commit session request)) (Ok (command.Commit other later))
      (answer.Committed k identity) (answer.Committed n number) before)

  number_range : (i session : ℕ) (request : Request) (k : ℕ) (identity : Option ℕ)
      → IsLine lines i (Ok (command.Commit session request)) (answer.Committed k identity)
      → (1 ≤ k) × (k ≤ length (commits_of (spots_of lines)))
  number_range i session request k identity line =
      every_contained (λ (c : Commit). (1 ≤ c.number) × (c.number ≤ length (commits_of (spots_of lines)))) (commits_of (spots_of lines))
      (commit_of lines i session request k identity) run.numbered.from_one (ok_listed lines i session request k identity line)

  number_once : (k : ℕ) → 1 ≤ k → k ≤ length (history_of (spots_of lines)) → count_by (is_ok_at k) lines ≡ 1
  number_once k positive most =
      sym (numbers_counted k lines) ∙ sym (length-filter (λ (c : Commit). c.number == k) (commits_of (spots_of lines)))
      ∙ carried_once (commits_of (spots_of lines)) k run.numbered.from_one run.numbered.each_once positive (omega (arith, most, history_length))

  -- ---- kind by kind

  says : (i : ℕ) (reading : Reading) (told : Answer) → IsLine lines i reading told
      → RightAnswer options (spots_of lines) (spot_of lines i reading told) reading told
      → Says options lines (history_of (spots_of lines)) i reading told
  says i (Err fault) (answer.BadLine told) line right = right
  says i (Ok command.Phase) (answer.Phase number) line right = omega (arith, right, phase_counted 1 lines i)
  says i (Ok (command.Commit session request)) (answer.Committed k identity) line right = record {
    from_one = (number_range i session request k identity line).0;
    kth = request_kth (commits_of (spots_of lines)) (commit_of lines i session request k identity) run.numbered.from_one run.numbered.each_once
        (ok_listed lines i session request k identity line);
    no_fault = right.no_fault;
    number = right.identity;
  }
  says i (Ok (command.Commit session request)) (answer.Refused refused) line right = (
    record { fault = right.fault },
    since_at options lines run i (Ok (command.Commit session request)) (answer.Refused refused) line refused.revision right.moment,
  )
  says i (Ok (command.Sync session)) (answer.Synced k full) line right = (
    exact options lines run i (Ok (command.Sync session)) (answer.Synced k full) line k full right,
    since_at options lines run i (Ok (command.Sync session)) (answer.Synced k full) line k right.is_moment,
  )
  says i (Ok (command.Look session query)) (answer.Verdict revision word) line right =
      by_scan options lines run i (Ok (command.Look session query)) (answer.Verdict revision word) line query revision word right
  says i (Ok (command.Look session query)) (answer.NotYet k) line right = (
    unpublished options lines run i (Ok (command.Look session query)) (answer.NotYet k) line query k right,
    since_at options lines run i (Ok (command.Look session query)) (answer.NotYet k) line k right.is_moment,
  )
  says i (Ok (command.Look session query)) (answer.NoEndpoint k) line right = (
    right.absent,
    since_at options lines run i (Ok (command.Look session query)) (answer.NoEndpoint k) line k right.is_moment,
  )
  says i (Ok (command.Trace session query)) (answer.Traced k trace) line right = (
    right.explains,
    since_at options lines run i (Ok (command.Trace session query)) (answer.Traced k trace) line k right.is_moment,
  )
  says i (Ok (command.Trace session query)) (answer.NoEndpoint k) line right = (
    right.absent,
    since_at options lines run i (Ok (command.Trace session query)) (answer.NoEndpoint k) line k right.is_moment,
  )
  says i reading told line right = absurd right

  -- what a line prints, it may reach
  ahead : (i : ℕ) (reading : Reading) (told : Answer) (k : ℕ) → IsLine lines i reading told
      → RightAnswer options (spots_of lines) (spot_of lines i reading told) reading told → Prints told k
      → IsReached lines (history_of (spots_of lines)) i reading k
  ahead i (Ok (command.Commit session request)) (answer.Committed n identity) k line right prints =
      subst (λ (m : ℕ). IsReached lines (history_of (spots_of lines)) i (Ok (command.Commit session request)) m) prints (record {
        made = omega (arith, (number_range i session request n identity line).1, history_length);
        none_after = λ j other later m number second before. commits_ascend i j session other request later n m identity number line second before;
      })
  ahead i (Ok (command.Commit session request)) (answer.Refused refused) k line right prints =
      reached_to_cap lines run.numbered i (Ok (command.Commit session request)) (answer.Refused refused) k (omega (arith, prints, right.moment.allowed))
  ahead i (Ok (command.Sync session)) (answer.Synced n full) k line right prints =
      elim prints [
        | inl own ↦ reached_to_cap lines run.numbered i (Ok (command.Sync session)) (answer.Synced n full) k (omega (arith, own, right.is_moment.allowed))
        | inr row ↦
            let spot = spot_of lines i (Ok (command.Sync session)) (answer.Synced n full) in
            let is = every_contained (IsRightRow options (spots_of lines) spot n) full row.0 right.rows row.1 in
            reached_to_cap lines run.numbered i (Ok (command.Sync session)) (answer.Synced n full) k (omega (arith, row.2, is.allowed))
      ]
  ahead i (Ok (command.Look session query)) (answer.Verdict revision word) k line right prints =
      reached_to_cap lines run.numbered i (Ok (command.Look session query)) (answer.Verdict revision word) k
      (omega (arith, prints, right.by_moment, right.is_moment.allowed))
  ahead i (Ok (command.Look session query)) (answer.NotYet n) k line right prints =
      reached_to_cap lines run.numbered i (Ok (command.Look session query)) (answer.NotYet n) k (omega (arith, prints, right.is_moment.allowed))
  ahead i (Ok (command.Look session query)) (answer.NoEndpoint n) k line right prints =
      reached_to_cap lines run.numbered i (Ok (command.Look session query)) (answer.NoEndpoint n) k (omega (arith, prints, right.is_moment.allowed))
  ahead i (Ok (command.Trace session query)) (answer.Traced n trace) k line right prints =
      reached_to_cap lines run.numbered i (Ok (command.Trace session query)) (answer.Traced n trace) k (omega (arith, prints, right.is_moment.allowed))
  ahead i (Ok (command.Trace session query)) (answer.NoEndpoint n) k line right prints =
      reached_to_cap lines run.numbered i (Ok (command.Trace session query)) (answer.NoEndpoint n) k (omega (arith, prints, right.is_moment.allowed))
  ahead i (Err fault) (answer.BadLine told) k line right prints = absurd prints
  ahead i (Ok command.Phase) (answer.Phase number) k line right prints = absurd prints
  ahead i reading told k line right prints = absurd right

  -- the answer to a line is right where it stands
  right_at : (i : ℕ) (reading : Reading) (told : Answer) → IsLine lines i reading told
      → RightAnswer options (spots_of lines) (spot_of lines i reading told) reading told
  right_at i reading told line =
      every_contained (λ (x : Spot). RightAnswer options (spots_of lines) x x.reading x.answer) (spots_of lines) (spot_of lines i reading told)
      run.right (spot_listed lines i reading told line)

  -- a run says this
  pub run_in_short : IsRunInShort options lines
  run_in_short = record {
    history = history_of (spots_of lines);
    size = history_length ∙ commits_counted lines;
    once = number_once;
    ascend = commits_ascend;
    none_ahead = λ i reading told k line prints. ahead i reading told k line (right_at i reading told line) prints;
    each = λ i reading told line. says i reading told line (right_at i reading told line);
  }
