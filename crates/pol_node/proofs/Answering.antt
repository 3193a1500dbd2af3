-- What is told of a repository that is at the writer's history: a commit and its answer, a refusal, and a trace.
use Rattle.std.proofs.Common.{◌≡◌, ℕ, ◌+◌, List, [], ◌∷◌, ◌++◌, length, take, None, Some, sym, ap, subst, ◌∙◌, arith}
use Rattle.std.specs.List.{slice_get}
use mathlib.Core.List.{IsPrefix}
use Rattle.pol_model.specs.After.{after}
use Rattle.pol_model.specs.Commits.{Commits}
use Rattle.pol_model.specs.Committed.{committed_of, identity_given, slots_of}
use Rattle.pol_model.specs.Endpoints.{endpoint_of}
use Rattle.pol_model.specs.Explain.{explain_of}
use Rattle.pol_model.specs.Fault.{fault_of}
use Rattle.pol_model.specs.State.{State}
use Rattle.pol_model.specs.declared.answer.CommitError.{CommitError}
use Rattle.pol_model.specs.declared.answer.CommitError.TheVariants.{Refused, Memory}
use Rattle.pol_model.specs.declared.answer.Committed.{Committed}
use Rattle.pol_model.specs.declared.answer.Trace.{Trace}
use Rattle.pol_model.specs.declared.options.Options.{Options}
use Rattle.pol_model.specs.declared.request.Query.{Query}
use Rattle.pol_model.specs.declared.request.Request.{Request}
use Rattle.pol_model.proofs.Histories.{state_of-revision}
use Rattle.pol_history.specs.declared.event.HistoryEvent.{HistoryEvent}
use Rattle.pol_history.specs.declared.event.HistoryEvent.TheVariants as event
use Rattle.pol_history.specs.Calls.{IsAbsent, IsAccepted, IsBetween, IsTraced}
use Rattle.pol_history.specs.Commits.{commits_in, revision_of, state_after, state_now}
use Rattle.pol_history.proofs.Beginnings.{prefix_cut, prefix_length, prefix_more}
use Rattle.pol_history.proofs.Cuts.{revision-append, state-now}
use Rattle.pol_history.proofs.Lists.{get_seam}
use Rattle.pol_history.proofs.Names.{state-more}
use Rattle.pol_history.proofs.Own.{revision-prefix}
use Rattle.pol_repo.specs.Causes.{IsCause}
use Rattle.pol_repo.specs.Repository.{Repository, state_in}
use Rattle.pol_repo_history.specs.AtHistory.{IsAt}
use Rattle.pol_repo_history.proofs.AtHistory.{at_commit, revision_at, state_at}
use Rattle.pol_node.specs.Desk.{IsCauseOf}

-- the writer's history was shown
pub at_shown : (options : Options) (seen still shown : List HistoryEvent) (repo : Repository) → IsAt options seen repo → shown ≡ still → still ≡ seen
    → IsAt options shown repo
at_shown options seen still shown repo at all same = subst (λ (h : List HistoryEvent). IsAt options h repo) (sym (all ∙ same)) at

module _ (options : Options) (history : List HistoryEvent) (repo : Repository) (at : IsAt options history repo) where
  revision_there : (state_in repo).revision ≡ revision_of history
  revision_there = revision_at options history repo at

  state_there : state_in repo ≡ state_now options history
  state_there = state_at options history repo at

  -- where a revision is the repository's, the state after as many commits is its state
  pub state_then : (revision : ℕ) → revision ≡ (state_in repo).revision → state_after options history revision ≡ state_in repo
  state_then revision is =
      ap (λ (n : ℕ). state_after options history n) (is ∙ revision_there) ∙ state-now options history ∙ sym state_there

  -- ---- what a call tells of the present revision, to one who had seen a beginning of the history

  module _ (old : List HistoryEvent) (begins : IsPrefix old history) where
    between_at : (revision : ℕ) → revision ≡ (state_in repo).revision → IsBetween old history revision
    between_at revision is =
        let fewer = revision-prefix old history begins in
        record { from = omega (arith, fewer, is, revision_there); upto = omega (arith, is, revision_there) }

    pub refused_at : (request : Request) (error : CommitError) → IsCause (state_in repo) request error → IsCauseOf options old history request error
    refused_at request (Refused refused) cause = record {
      between = between_at refused.revision cause.revision;
      fault = ap (λ (s : State). fault_of s request) (state_then refused.revision cause.revision) ∙ cause.fault;
    }
    refused_at request Memory cause = tt

    pub traced_at : (query : Query) (revision : ℕ) (trace : Trace) → revision ≡ (state_in repo).revision
        → explain_of repo.options (state_in repo) query ≡ Some trace → IsTraced options old history query revision trace
    traced_at query revision trace is explains = record {
      between = between_at revision is;
      explains =
          ap (λ (s : State). explain_of options s query) (state_then revision is)
          ∙ sym (ap (λ (o : Options). explain_of o (state_in repo) query) at.options_same)
          ∙ explains;
    }

    pub absent_at : (query : Query) (revision : ℕ) → revision ≡ (state_in repo).revision
        → endpoint_of query.endpoint (state_in repo).endpoints ≡ None → IsAbsent options old history query revision
    absent_at query revision is absent = record {
      between = between_at revision is;
      absent = ap (λ (s : State). endpoint_of query.endpoint s.endpoints) (state_then revision is) ∙ absent;
    }

-- ---- a commit

-- what was prepared and then accepted is at the history with its commit
pub committed_at : (options : Options) (seen shown new : List HistoryEvent) (repo prepared accepted : Repository) (pass number : ℕ) (asked request : Request)
    → IsAt options seen repo → shown ≡ seen → prepared ≡ record repo { prepared = Some asked }
    → accepted ≡ record prepared { journal = prepared.journal ++ request ∷ []; prepared = None } → new ≡ shown ++ event.Commit pass number request ∷ []
    → IsAt options new accepted
committed_at options seen shown new repo prepared accepted pass number asked request at same ready done added =
    let e = event.Commit pass number request in
    let made = done ∙ ap (λ (r : Repository). record r { journal = r.journal ++ request ∷ []; prepared = None }) ready in
    let longer = added ∙ ap (λ (h : List HistoryEvent). h ++ e ∷ []) same in
    subst (λ (r : Repository). IsAt options new r) (sym made)
    (subst (λ (h : List HistoryEvent). IsAt options h (record repo { journal = repo.journal ++ request ∷ []; prepared = None })) (sym longer)
    (at_commit options seen repo at pass number request))

-- the answer is that of the request in the state before
pub answered_here : (s before made : State) (request asked : Request) (done : Committed) → Commits s made request done → s ≡ before → request ≡ asked
    → done ≡ committed_of (after before asked) asked
answered_here s before made request asked done commits same is =
    commits.answer ∙ ap (λ (t : State). committed_of t request) commits.state ∙ (λ i. committed_of (after (same i) (is i)) (is i))

-- the answer to a request that was committed behind the history
pub accepted_here : (options : Options) (pass number : ℕ) (request : Request) (done : Committed) (old history new : List HistoryEvent) → IsPrefix old history
    → new ≡ history ++ event.Commit pass number request ∷ [] → done ≡ committed_of (after (state_now options history) request) request
    → IsAccepted options pass old new request done
accepted_here options pass number request done old history new begins is answer =
    let e = event.Commit pass number request in
    let made : State = after (state_now options history) request in
    let one : state_now options new ≡ made = ap (state_now options) is ∙ state-more options history pass number request in
    let cut : take (length history) new ≡ history =
    ap (take (length history)) is ∙ prefix_cut history (history ++ e ∷ []) (prefix_more history (e ∷ [])) in
    let before : (state_now options history).revision ≡ revision_of history = state_of-revision options (commits_in history) in
    let revision : done.revision ≡ revision_of history + 1 = ap (λ (d : Committed). d.revision) answer ∙ ap (λ (n : ℕ). n + 1) before in
    let all : done.revision ≡ revision_of new = revision ∙ sym (ap revision_of is ∙ revision-append history (e ∷ [])) in
    let then : state_after options new done.revision ≡ made = ap (λ (n : ℕ). state_after options new n) all ∙ state-now options new ∙ one in
    record {
      place = length history;
      number = number;
      there = ap (λ (h : List HistoryEvent). slice_get h (length history)) is ∙ get_seam history e [];
      past = prefix_length old history begins;
      revision = revision ∙ sym (ap (λ (h : List HistoryEvent). revision_of h + 1) cut);
      identity = ap (λ (d : Committed). d.identity) answer ∙ sym (ap (λ (s : State). identity_given s request) then);
      slots = ap (λ (d : Committed). d.slots) answer ∙ sym (ap (λ (s : State). slots_of s.endpoints) then);
    }
