-- What the history holds of the lines that it places: the run's commits by the passes of the sessions, the map of each
-- verdict, the report of each row, and one of each endpoint that a `synced` line speaks for.
use Rattle.std.proofs.lemmas.List.{length-take}
use Rattle.std.proofs.Common.{◌≡◌, ℕ, ◌≤◌, inl, inr, List, take, Some, Ok, refl, ap, sym, ◌∙◌, subst, arith}
use Rattle.std.specs.List.{Contains}
use Rattle.pol_mapkey.specs.declared.Word.{Word}
use Rattle.pol_model.specs.Endpoints.{endpoint_of}
use Rattle.pol_model.specs.State.{State}
use Rattle.pol_model.specs.declared.answer.FullSlot.{FullSlot}
use Rattle.pol_model.specs.declared.options.Options.{Options}
use Rattle.pol_model.specs.declared.request.Query.{Query}
use Rattle.pol_model.specs.declared.row.Endpoint.{Endpoint}
use Rattle.pol_answer.specs.declared.answer.Answer.TheVariants as answer
use Rattle.pol_script.specs.declared.command.Command.TheVariants as command
use Rattle.pol_run.specs.ByIndex.{IsLine}
use Rattle.pol_run.specs.InShort.{LivesAfter}
use Rattle.pol_run.specs.Spots.{Line, Reading}
use Rattle.pol_run.proofs.Lists.{every_contained}
use Rattle.pol_history.specs.declared.event.EndpointId.{EndpointId}
use Rattle.pol_history.specs.declared.event.HistoryEvent.{HistoryEvent}
use Rattle.pol_history.specs.Calls.{Counts, IsRow}
use Rattle.pol_history.specs.Commits.{Lives, commits_in, revision_of, state_after, state_now}
use Rattle.pol_history.specs.Legal.{IsLegal}
use Rattle.pol_history.proofs.Cuts.{revision-take, state-now}
use Rattle.pol_history.proofs.LegalEvents.{report_of_take}
use Rattle.pol_model_laws.proofs.Lives.{added-within}
use Rattle.pol_history.proofs.Same.{live-parts, live-whole}
use Rattle.pol_run_laws.specs.HistoryOfRun.{HasBlocked, HasPublished, HasReport}
use Rattle.pol_run_laws.specs.LawOfRuns.{HistoriesHoldTheRun}
use Rattle.pol_run_laws.specs.Placed.{IsPlaced}
use Rattle.pol_run_laws.proofs.Between.{commit_at}
use Rattle.pol_run_laws.proofs.Law.{short_requests}
use Rattle.pol_run_laws.proofs.Live.{live_before, live_of_first, live_there, one_row}
use Rattle.pol_run_laws.proofs.Looks.{id_of, tells_look}
use Rattle.pol_run_laws.proofs.Places.{at_first}
use Rattle.pol_history.proofs.Published.{PublishesAt}
use Rattle.pol_run_laws.proofs.Shown.{verdict_row}

module _ (options : Options) (history : List HistoryEvent) (lines : List Line) (legal : IsLegal options history) (placed : IsPlaced options history lines) where
  -- a report that counts for a line is one of the history
  counted : (old : List HistoryEvent) (n synced place : ℕ) (endpoint : EndpointId) (revision : ℕ)
      → Counts old (take n history) synced place endpoint revision → HasReport history endpoint synced
  counted old n synced place endpoint revision counts =
      let report = counts.last.report in
      let first = at_first n place history report.event report.there in
      record {
        place = place;
        of = revision;
        report = report_of_take history n place endpoint revision first.0 report;
        newer = counts.newer;
      }

  held_verdict : (i session : ℕ) (query : Query) (revision : ℕ) (word : Word) (endpoint : EndpointId)
      → IsLine lines i (Ok (command.Look session query)) (answer.Verdict revision word)
      → endpoint.name ≡ query.endpoint → Lives (state_after options history revision) endpoint → HasPublished history endpoint revision
  held_verdict i session query revision word endpoint line named lives =
      let reading : Reading = Ok (command.Look session query) in
      let told = answer.Verdict revision word in
      let n = placed.after i in
      let found = tells_look options (take n history) query told (placed.allowed session i reading told (record { line = line; of = refl })) in
      let is = verdict_row options history legal n query revision word found in
      let parts = live-parts endpoint (state_after options history revision) lives.row lives.found in
      let same : found.live.row ≡ lives.row =
      one_row options history revision query.endpoint found.live.row lives.row is.lives
      (subst (λ (name : List ℕ). LivesAfter options (commits_in history) revision name lives.row) named parts.0) in
      let added : found.live.row.added ≡ endpoint.added = ap (λ (e : Endpoint). e.added) same ∙ parts.1 in
      let name : query.endpoint ≡ endpoint.name = sym named in
      let one : id_of query.endpoint found.live.row ≡ endpoint = (λ k. record { name = name k; added = added k }) in
      record {
        place = found.published.place;
        table = found.published.table;
        there = subst (λ (e : EndpointId). PublishesAt history e found.published.place revision found.published.table) one
            (at_first n found.published.place history _ found.published.there).1;
      }

  held_row : (i session revision : ℕ) (full : List FullSlot) (row : FullSlot)
      → IsLine lines i (Ok (command.Sync session)) (answer.Synced revision full) → Contains full row → HasBlocked history row
  held_row i session revision full row line listed =
      let reading : Reading = Ok (command.Sync session) in
      let new = take (placed.after i) history in
      let synced = placed.allowed session i reading (answer.Synced revision full) (record { line = line; of = refl }) in
      let is = every_contained (IsRow (take (placed.before i) history) new revision) full row synced.rows listed in
      record {
        place = is.is.place;
        endpoint = is.endpoint;
        there = (at_first (placed.after i) is.is.place history _ is.is.there).1;
        name = is.is.name;
      }

  held_report : (i session revision : ℕ) (full : List FullSlot) (endpoint : EndpointId)
      → IsLine lines i (Ok (command.Sync session)) (answer.Synced revision full)
      → Lives (state_after options history revision) endpoint → Lives (state_now options history) endpoint
      → HasReport history endpoint revision
  held_report i session revision full endpoint line then now =
      let reading : Reading = Ok (command.Sync session) in
      let n = placed.after i in
      let old = take (placed.before i) history in
      let synced = placed.allowed session i reading (answer.Synced revision full) (record { line = line; of = refl }) in
      let name = endpoint.name in
      let was = live-parts endpoint (state_after options history revision) then.row then.found in
      let is = live-parts endpoint (state_now options history) now.row now.found in
      let last : LivesAfter options (commits_in history) (revision_of history) name now.row =
      subst (λ (s : State). endpoint_of name s.endpoints ≡ Some now.row) (sym (state-now options history)) is.0 in
      let young = added-within options (take revision (commits_in history)) name then.row was.0 in
      let old_enough : endpoint.added ≤ revision = omega (arith, young.1, was.1, length-take revision (commits_in history)) in
      let between : LivesAfter options (commits_in history) (revision_of (take n history)) name now.row =
      live_before options history name now.row (revision_of (take n history)) (revision_of history) (revision-take n history)
      (omega (arith, is.1, old_enough, synced.between.upto)) last in
      elim (synced.complete endpoint
      (record {
        row = then.row;
        found = live-whole endpoint (state_after options (take n history) revision) then.row
            (live_of_first options history name then.row n revision synced.between.upto was.0) was.1;
      })
      (record {
        row = now.row;
        found = live-whole endpoint (state_now options (take n history)) now.row (live_there options history name now.row n between) is.1;
      })) [
        | inl row ↦ counted old n revision row.is.place endpoint row.row.revision row.is.counts
        | inr published ↦ counted old n revision published.place endpoint published.revision published.counts
      ]

pub histories_hold : HistoriesHoldTheRun
histories_hold options history lines legal placed = record {
  commits = short_requests options history lines legal placed;
  pass_of = placed.pass_of;
  one_pass = λ i session request k identity line.
      let is = commit_at options history lines placed session i request k identity line in
      record { place = is.place; number = is.number; request = request; there = is.there; kth = is.kth };
  apart = λ i j session other request later k n identity number first second same.
      placed.apart session i (Ok (command.Commit session request)) (answer.Committed k identity)
      other j (Ok (command.Commit other later)) (answer.Committed n number)
      (record { line = first; of = refl }) (record { line = second; of = refl }) same;
  verdicts = held_verdict options history lines legal placed;
  rows = held_row options history lines legal placed;
  syncs = held_report options history lines legal placed;
}
