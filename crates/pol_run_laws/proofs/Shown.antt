-- What a line shows of an endpoint's maps was published before it ended.
use Rattle.std.proofs.Common.{◌≡◌, ◌≢◌, ℕ, ◌≤◌, inl, inr, List, Contains, take, Ok, Err, refl, ap, sym, ◌∙◌, subst, arith}
use Rattle.std.specs.Prelude.{⊤}
use Rattle.pol_mapkey.specs.Entries.{Entry as MapEntry}
use Rattle.pol_mapkey.specs.declared.Word.{Word}
use Rattle.pol_model.specs.declared.answer.FullSlot.{FullSlot}
use Rattle.pol_model.specs.declared.options.Options.{Options}
use Rattle.pol_model.specs.declared.request.Query.{Query}
use Rattle.pol_model.specs.declared.row.Endpoint.{Endpoint}
use Rattle.pol_answer.specs.declared.answer.Answer.{Answer}
use Rattle.pol_answer.specs.declared.answer.Answer.TheVariants as answer
use Rattle.pol_script.specs.declared.command.Command.TheVariants as command
use Rattle.pol_run.specs.Spots.{Line, Reading}
use Rattle.pol_run.specs.ByIndex.{IsLine, IsOf}
use Rattle.pol_run.specs.InShort.{LivesAfter, ShowsMap}
use Rattle.pol_run.proofs.Lists.{every_contained}
use Rattle.pol_history.specs.declared.event.EndpointId.{EndpointId}
use Rattle.pol_history.specs.declared.event.HistoryEvent.{HistoryEvent}
use Rattle.pol_history.specs.Calls.{IsSynced}
use Rattle.pol_history.specs.Commits.{commits_in, revision_of, state_after, state_now}
use Rattle.pol_history.specs.Legal.{IsLegal}
use Rattle.pol_history.proofs.LegalEvents.{legal_take}
use Rattle.pol_history.proofs.Same.{live-whole}
use Rattle.pol_run_laws.specs.Placed.{Allows, IsLineOf, IsPlaced}
use Rattle.pol_run_laws.proofs.Between.{reported_within}
use Rattle.pol_history.proofs.Grown.{published_report}
use Rattle.pol_run_laws.proofs.Live.{live_before, live_then, live_there, live_of_first, one_row}
use Rattle.pol_run_laws.proofs.Looks.{IsFound, id_of, tells_look}
use Rattle.pol_history.proofs.Published.{PublishesAt}

-- a map of the endpoint at the revision or a later one was published
pub record IsShown (history : List HistoryEvent) (endpoint : EndpointId) (seen : ℕ) : Type 0 where
  pub place : ℕ
  pub revision : ℕ
  pub table : List MapEntry
  pub there : PublishesAt history endpoint place revision table
  pub newer : seen ≤ revision

module _ (options : Options) (history : List HistoryEvent) (legal : IsLegal options history) (n : ℕ) where
  -- the row of a verdict was live at its revision
  pub record IsVerdictRow (query : Query) (revision : ℕ) (row : Endpoint) : Type 0 where
    pub within : revision ≤ revision_of (take n history)
    pub since_added : row.added ≤ revision
    pub lives : LivesAfter options (commits_in history) revision query.endpoint row

  pub verdict_row : (query : Query) (revision : ℕ) (word : Word) (found : IsFound options (take n history) query revision word)
      → IsVerdictRow query revision found.live.row
  verdict_row query revision word found =
      let row = found.live.row in
      let id = id_of query.endpoint row in
      let first = legal_take options n history legal in
      let report = published_report options (take n history) first id found.published.place revision found.published.table found.published.there in
      let within = reported_within options (take n history) first found.published.place id revision report in
      let since_added = first.since_added found.published.place id revision report in
      record {
        within = within;
        since_added = since_added;
        lives = live_before options history query.endpoint row revision (revision_of (take n history)) within since_added
            (live_then options history query.endpoint row n found.live.found);
      }

  module _ (name : List ℕ) (row : Endpoint) where
    shown_by_verdict : (query : Query) (revision : ℕ) (word : Word) → IsFound options (take n history) query revision word
        → query.endpoint ≡ name → (other : Endpoint) → LivesAfter options (commits_in history) revision name other → other.added ≡ row.added
        → IsShown (take n history) (id_of name row) revision
    shown_by_verdict query revision word found named other lives alike =
        let is = verdict_row query revision word found in
        let same : found.live.row ≡ other =
        one_row options history revision name found.live.row other
        (subst (λ (x : List ℕ). LivesAfter options (commits_in history) revision x found.live.row) named is.lives) lives in
        let added : found.live.row.added ≡ row.added = ap (λ (e : Endpoint). e.added) same ∙ alike in
        let endpoint : id_of query.endpoint found.live.row ≡ id_of name row = (λ i. record { name = named i; added = added i }) in
        record {
          place = found.published.place;
          revision = revision;
          table = found.published.table;
          there = subst (λ (e : EndpointId). PublishesAt (take n history) e found.published.place revision found.published.table) endpoint found.published.there;
          newer = omega arith;
        }

    shown_by_sync : (old : List HistoryEvent) (revision : ℕ) (full : List FullSlot) → IsSynced options old (take n history) revision full
        → row.added ≤ revision → ((at : FullSlot) → Contains full at → at.name ≢ name)
        → LivesAfter options (commits_in history) (revision_of (take n history)) name row
        → IsShown (take n history) (id_of name row) revision
    shown_by_sync old revision full synced old_enough none lives =
        let first = take n history in
        let then = live_before options history name row revision (revision_of first) synced.between.upto old_enough lives in
        elim (synced.complete (id_of name row)
        (record {
          row = row;
          found = live-whole (id_of name row) (state_after options first revision) row
              (live_of_first options history name row n revision synced.between.upto then) refl;
        })
        (record { row = row; found = live-whole (id_of name row) (state_now options first) row (live_there options history name row n lives) refl })) [
          | inl has ↦ absurd (none has.row has.listed (sym has.is.name))
          | inr published ↦ record {
            place = published.place;
            revision = published.revision;
            table = published.table;
            there = published.there;
            newer = published.counts.newer;
          }
        ]

-- ---- lines

-- an answer with rows
abbrev HasRows : Answer → Type 0
HasRows (answer.Synced revision full) = ⊤
HasRows told = ⊥

module _ (options : Options) (history : List HistoryEvent) (lines : List Line) (legal : IsLegal options history) (placed : IsPlaced options history lines) where
  -- a line that shows a map is one of a session
  pub showing_session : (j : ℕ) (other : Reading) (told : Answer) (name : List ℕ) (added seen : ℕ) → IsLine lines j other told
      → ShowsMap options (commits_in history) other told name added seen → (session : ℕ) × IsOf session other
  showing_session j (Ok (command.Look session query)) (answer.Verdict revision word) name added seen line shows = (session, refl)
  showing_session j (Ok (command.Commit session request)) (answer.Synced revision full) name added seen line shows = (session, refl)
  showing_session j (Ok (command.Look session query)) (answer.Synced revision full) name added seen line shows = (session, refl)
  showing_session j (Ok (command.Trace session query)) (answer.Synced revision full) name added seen line shows = (session, refl)
  showing_session j (Ok (command.Sync session)) (answer.Synced revision full) name added seen line shows = (session, refl)
  showing_session j (Ok command.Phase) (answer.Synced revision full) name added seen line shows =
      absurd (subst HasRows (placed.phases j (answer.Synced revision full) line) tt)
  showing_session j (Err fault) (answer.Synced revision full) name added seen line shows =
      absurd (subst HasRows (placed.faulty j fault (answer.Synced revision full) line) tt)
  showing_session j other (answer.Verdict revision word) name added seen line shows = absurd shows.1
  showing_session j other told name added seen line shows = absurd shows

  -- What line j shows of an endpoint that lives on was published before the line ended.
  pub shown : (session j : ℕ) (other : Reading) (told : Answer) (name : List ℕ) (row : Endpoint) (seen k : ℕ) → IsLineOf lines session j other told
      → revision_of (take (placed.after j) history) ≤ k → LivesAfter options (commits_in history) k name row
      → Allows options (placed.pass_of session) (take (placed.before j) history) (take (placed.after j) history) other told
      → ShowsMap options (commits_in history) other told name row.added seen
      → IsShown (take (placed.after j) history) (id_of name row) seen
  shown session j (Ok (command.Look its query)) (answer.Verdict revision word) name row seen k line later lives allows shows =
      let n = placed.after j in
      let found = tells_look options (take n history) query (answer.Verdict revision word) allows in
      subst (λ (r : ℕ). IsShown (take n history) (id_of name row) r) shows.0
      (shown_by_verdict options history legal n name row query revision word found shows.1 shows.2.endpoint shows.2.lives shows.2.same)
  shown session j (Ok (command.Sync its)) (answer.Synced revision full) name row seen k line later lives allows shows =
      let n = placed.after j in
      let old : row.added ≤ revision = shows.1 in
      subst (λ (r : ℕ). IsShown (take n history) (id_of name row) r) shows.0
      (shown_by_sync options history legal n name row (take (placed.before j) history) revision full allows old
      (λ at listed. every_contained (λ (x : FullSlot). x.name ≢ name) full at shows.2 listed)
      (live_before options history name row (revision_of (take n history)) k later (omega (arith, old, allows.between.upto)) lives))
  shown session j (Ok (command.Look its query)) (answer.Synced revision full) name row seen k line later lives allows shows =
      absurd (tells_look options (take (placed.after j) history) query (answer.Synced revision full) allows)
  shown session j other (answer.Verdict revision word) name row seen k line later lives allows shows = absurd shows.1
  shown session j other (answer.Synced revision full) name row seen k line later lives allows shows = absurd allows
  shown session j other told name row seen k line later lives allows shows = absurd shows
