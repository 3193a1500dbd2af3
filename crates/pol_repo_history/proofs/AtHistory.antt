-- A repository that is at a history has the state of its commits, and is at the history that a commit or a report makes.
use Rattle.std.proofs.Common.{◌≡◌, ℕ, List, [], ◌∷◌, ◌++◌, length, None, refl, sym, ap, ◌∙◌, append-nil}
use Rattle.pol_mapkey.specs.Entries.{Entry as MapEntry}
use Rattle.pol_model.specs.After.{state_of}
use Rattle.pol_model.specs.declared.options.Options.{Options}
use Rattle.pol_model.specs.declared.request.Request.{Request}
use Rattle.pol_model.proofs.Histories.{state_of-revision}
use Rattle.pol_history.specs.declared.event.EndpointId.{EndpointId}
use Rattle.pol_history.specs.declared.event.HistoryEvent.{HistoryEvent}
use Rattle.pol_history.specs.declared.event.HistoryEvent.TheVariants as event
use Rattle.pol_history.specs.Commits.{commits_in, revision_of, state_now}
use Rattle.pol_history.proofs.Cuts.{commits-append}
use Rattle.pol_repo.specs.Repository.{Repository, state_in}
use Rattle.pol_repo_history.specs.AtHistory.{IsAt}

module _ (options : Options) (history : List HistoryEvent) (repo : Repository) (at : IsAt options history repo) where
  pub state_at : state_in repo ≡ state_now options history
  state_at =
      ap (λ (o : Options). state_of o repo.journal) at.options_same ∙ ap (λ (requests : List Request). state_of options requests) at.journal

  pub revision_at : (state_in repo).revision ≡ revision_of history
  revision_at = state_of-revision repo.options repo.journal ∙ ap (λ (requests : List Request). length requests) at.journal

  -- ---- one event more

  pub at_commit : (pass number : ℕ) (request : Request)
      → IsAt options (history ++ event.Commit pass number request ∷ []) (record repo { journal = repo.journal ++ request ∷ []; prepared = None })
  at_commit pass number request = record {
    journal =
        ap (λ (requests : List Request). requests ++ request ∷ []) at.journal
        ∙ sym (commits-append history (event.Commit pass number request ∷ []));
    idle = refl;
    options_same = at.options_same;
  }

  at_same : (new : HistoryEvent) → commits_in (new ∷ []) ≡ [] → IsAt options (history ++ new ∷ []) repo
  at_same new none = record {
    journal =
        at.journal
        ∙ sym (commits-append history (new ∷ []) ∙ ap (λ (requests : List Request). commits_in history ++ requests) none ∙ append-nil (commits_in history));
    idle = at.idle;
    options_same = at.options_same;
  }

  pub at_publish : (endpoint : EndpointId) (revision : ℕ) (table : List MapEntry) → IsAt options (history ++ event.Publish endpoint revision table ∷ []) repo
  at_publish endpoint revision table = at_same (event.Publish endpoint revision table) refl

  pub at_blocked : (endpoint : EndpointId) (revision count : ℕ) → IsAt options (history ++ event.Blocked endpoint revision count ∷ []) repo
  at_blocked endpoint revision count = at_same (event.Blocked endpoint revision count) refl
