-- Each line that a history places was answered between the revisions of its two beginnings.
use Rattle.std.proofs.Common.{◌≡◌, ℕ, suc, ◌+◌, ◌<◌, ◌≤◌, inl, inr, List, length, take, slice_get, Option, Some, Ok, refl, ap, sym, ◌∙◌, arith}
use Rattle.std.proofs.lemmas.Bool.{cases_order}
use Rattle.std.proofs.lemmas.List.{length-take-le, take-take}
use Rattle.pol_model.specs.Committed.{identity_given}
use Rattle.pol_model.specs.State.{State}
use Rattle.pol_model.specs.declared.answer.FullSlot.{FullSlot}
use Rattle.pol_model.specs.declared.options.Options.{Options}
use Rattle.pol_model.specs.declared.request.Query.{Query}
use Rattle.pol_model.specs.declared.request.Request.{Request}
use Rattle.pol_answer.specs.declared.answer.Answer.{Answer}
use Rattle.pol_answer.specs.declared.answer.Answer.TheVariants as answer
use Rattle.pol_script.specs.declared.command.Command.TheVariants as command
use Rattle.pol_run.specs.Spots.{Line, Reading}
use Rattle.pol_run.specs.ByIndex.{IsLine, Prints}
use Rattle.pol_run.proofs.Lists.{every_contained}
use Rattle.pol_history.specs.declared.event.EndpointId.{EndpointId}
use Rattle.pol_history.specs.declared.event.HistoryEvent.{HistoryEvent}
use Rattle.pol_history.specs.declared.event.HistoryEvent.TheVariants as event
use Rattle.pol_history.specs.Calls.{IsRow, IsRowOf}
use Rattle.pol_history.specs.Commits.{commits_in, revision_of, state_after}
use Rattle.pol_history.specs.Legal.{IsLegal}
use Rattle.pol_history.specs.Reports.{IsReport}
use Rattle.pol_history.proofs.Cuts.{revision-grows, revision-take, state-take}
use Rattle.pol_history.proofs.LegalEvents.{legal_take}
use Rattle.pol_run_laws.specs.Placed.{Allows, IsLineOf, IsPlaced}
use Rattle.pol_run_laws.proofs.Bounds.{AreBounded}
use Rattle.pol_history.proofs.Grown.{published_report}
use Rattle.pol_run_laws.proofs.Looks.{TellsLook, tells_look, id_of}
use Rattle.pol_run_laws.proofs.Numbers.{IsOkAt, EachOnce}
use Rattle.pol_run_laws.proofs.Places.{at_first, revision-next, no_earlier, same_element}
use Rattle.pol_run_laws.proofs.SessionCounts.{ok_counted}

-- ---- what an answer prints was committed

module _ (options : Options) (new : List HistoryEvent) (legal : IsLegal options new) where
  -- a report is of a revision of its history
  pub reported_within : (place : ℕ) (endpoint : EndpointId) (revision : ℕ) → IsReport new place endpoint revision → revision ≤ revision_of new
  reported_within place endpoint revision report =
      omega (arith, legal.committed place endpoint revision report, revision-take place new)

  pub row_within : (old : List HistoryEvent) (synced : ℕ) (endpoint : EndpointId) (row : FullSlot) → IsRowOf old new synced endpoint row
      → row.revision ≤ revision_of new
  row_within old synced endpoint row is = reported_within is.place endpoint row.revision is.counts.last.report

  look_within : (query : Query) (told : Answer) (k : ℕ) → TellsLook options new query told → Prints told k → k ≤ revision_of new
  look_within query (answer.Verdict revision word) k tells prints =
      let id = id_of query.endpoint tells.live.row in
      let report = published_report options new legal id tells.published.place revision tells.published.table tells.published.there in
      omega (arith, prints, reported_within tells.published.place id revision report)
  look_within query (answer.NotYet revision) k tells prints = omega (arith, prints, tells.now)
  look_within query (answer.NoEndpoint revision) k tells prints = omega (arith, prints, tells.now)
  look_within query told k tells prints = absurd tells

  printed_within : (pass : ℕ) (old : List HistoryEvent) (reading : Reading) (told : Answer) (k : ℕ)
      → Allows options pass old new reading told → Prints told k → k ≤ revision_of new
  printed_within pass old (Ok (command.Commit session request)) (answer.Committed revision identity) k allows prints =
      let accepted = allows.1 in
      omega (
        arith,
        prints,
        accepted.revision,
        revision-next new accepted.place pass accepted.number request accepted.there,
        revision-take (suc accepted.place) new,
      )
  printed_within pass old (Ok (command.Commit session request)) (answer.Refused refused) k allows prints = omega (arith, prints, allows.between.upto)
  printed_within pass old (Ok (command.Look session query)) told k allows prints = look_within query told k (tells_look options new query told allows) prints
  printed_within pass old (Ok (command.Trace session query)) (answer.Traced revision trace) k allows prints = omega (arith, prints, allows.between.upto)
  printed_within pass old (Ok (command.Trace session query)) (answer.NoEndpoint revision) k allows prints = omega (arith, prints, allows.between.upto)
  printed_within pass old (Ok (command.Sync session)) (answer.Synced revision full) k allows prints =
      elim prints [
        | inl own ↦ omega (arith, own, allows.between.upto)
        | inr row ↦
            let is = every_contained (IsRow old new revision) full row.0 allows.rows row.1 in
            omega (arith, row.2, row_within old revision is.endpoint row.0 is.is)
      ]
  printed_within pass old reading told k allows prints = absurd allows

-- ---- where the commits of lines stand

-- the pass of a commit
abbrev pass_in : HistoryEvent → ℕ
pass_in (event.Commit pass number request) = pass
pass_in (event.Publish endpoint revision table) = 0
pass_in (event.Blocked endpoint revision count) = 0

module _ (options : Options) (history : List HistoryEvent) (lines : List Line) (placed : IsPlaced options history lines) where
  -- the commit of line i stands between its two beginnings
  pub record IsCommitAt (session i : ℕ) (request : Request) (k : ℕ) (identity : Option ℕ) : Type 0 where
    pub place : ℕ
    pub number : ℕ
    pub there : slice_get history place ≡ Some (event.Commit (placed.pass_of session) number request)
    pub past : placed.before i ≤ place
    pub within : place < placed.after i
    pub kth : k ≡ revision_of (take place history) + 1
    pub identity_is : identity ≡ identity_given (state_after options history k) request

  pub commit_at : (session i : ℕ) (request : Request) (k : ℕ) (identity : Option ℕ)
      → IsLine lines i (Ok (command.Commit session request)) (answer.Committed k identity) → IsCommitAt session i request k identity
  commit_at session i request k identity line =
      let reading : Reading = Ok (command.Commit session request) in
      let told = answer.Committed k identity in
      let of : IsLineOf lines session i reading told = record { line = line; of = refl } in
      let new = take (placed.after i) history in
      let accepted = (placed.allowed session i reading told of).1 in
      let first = at_first (placed.after i) accepted.place history (event.Commit (placed.pass_of session) accepted.number request) accepted.there in
      let grows = placed.grows session i reading told of in
      let long : length (take (placed.before i) history) ≡ placed.before i =
      length-take-le (placed.before i) history (omega (arith, grows, placed.within session i reading told of)) in
      let cut : take accepted.place new ≡ take accepted.place history = take-take accepted.place (placed.after i) history (omega (arith, first.0)) in
      let kth : k ≡ revision_of (take accepted.place history) + 1 =
      accepted.revision ∙ ap (λ (h : List HistoryEvent). revision_of h + 1) cut in
      let upto : k ≤ revision_of new =
      omega (
        arith,
        kth,
        revision-next history accepted.place (placed.pass_of session) accepted.number request first.1,
        revision-grows (suc accepted.place) (placed.after i) history (omega (arith, first.0)),
      ) in
      record {
        place = accepted.place;
        number = accepted.number;
        there = first.1;
        past = omega (arith, long, accepted.past);
        within = first.0;
        kth = kth;
        identity_is = accepted.identity
            ∙ ap (λ (s : State). identity_given s request) (sym (state-take options (placed.after i) history k upto));
      }

  -- two lines whose commits have one number are one line
  one_line : (i j k : ℕ) (first : IsOkAt lines i k) (second : IsOkAt lines j k) → i < j → ⊥
  one_line i j k first second less =
      let of_first : IsLineOf lines first.session i (Ok (command.Commit first.session first.request)) (answer.Committed k first.identity) =
      record { line = first.line; of = refl } in
      let of_second : IsLineOf lines second.session j (Ok (command.Commit second.session second.request)) (answer.Committed k second.identity) =
      record { line = second.line; of = refl } in
      let a = commit_at first.session i first.request k first.identity first.line in
      let b = commit_at second.session j second.request k second.identity second.line in
      let same : revision_of (take a.place history) ≡ revision_of (take b.place history) = omega (arith, a.kth, b.kth) in
      let place : a.place ≡ b.place =
      omega (
        arith,
        no_earlier history a.place (placed.pass_of first.session) a.number first.request a.there b.place same,
        no_earlier history b.place (placed.pass_of second.session) b.number second.request b.there a.place (sym same),
      ) in
      let events : event.Commit (placed.pass_of first.session) a.number first.request ≡ event.Commit (placed.pass_of second.session) b.number second.request =
      same_element (event.Commit (placed.pass_of first.session) a.number first.request) (event.Commit (placed.pass_of second.session) b.number second.request)
      (sym a.there ∙ ap (λ (n : ℕ). slice_get history n) place ∙ b.there) in
      let session : first.session ≡ second.session =
      placed.apart first.session i _ _ second.session j _ _ of_first of_second (ap pass_in events) in
      let order = placed.in_order first.session i _ _ second.session j _ _ of_first of_second
      (inl (less, record { session = first.session; first_is = refl; second_is = sym session })) in
      omega (arith, a.within, order, b.past, place)

  each_once : EachOnce lines
  each_once i j k first second =
      elim (cases_order i j) [
        | inl same ↦ same
        | inr (inl less) ↦ absurd (one_line i j k first second less)
        | inr (inr more) ↦ absurd (one_line j i k second first more)
      ]

  -- the revisions of the two beginnings of line i
  abbrev pub low_of : ℕ → ℕ
  low_of i = revision_of (take (placed.before i) history)

  abbrev pub high_of : ℕ → ℕ
  high_of i = revision_of (take (placed.after i) history)

  pub are_bounded : IsLegal options history → AreBounded lines (commits_in history) low_of high_of
  are_bounded legal = record {
    grows = λ session i reading told of. revision-grows (placed.before i) (placed.after i) history (placed.grows session i reading told of);
    made = λ session i reading told of. revision-take (placed.after i) history;
    in_order = λ session i first told other j second later of_first of_second before.
        revision-grows (placed.after i) (placed.before j) history
        (placed.in_order session i first told other j second later of_first of_second before);
    printed = λ session i reading told k of prints.
        printed_within options (take (placed.after i) history) (legal_take options (placed.after i) history legal) (placed.pass_of session)
        (take (placed.before i) history) reading told k (placed.allowed session i reading told of) prints;
    ahead = λ i k ok.
        let commit = commit_at ok.session i ok.request k ok.identity ok.line in
        omega (arith, commit.kth, revision-grows (placed.before i) commit.place history commit.past);
    once = each_once;
    counted = ok_counted options history lines placed;
  }
