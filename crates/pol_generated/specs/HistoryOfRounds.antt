-- What a history holds that places a generated script.
use Rattle.std.specs.Prelude.{◌≡◌, ℕ, List, length, take, slice_get, Some}
use Rattle.std.specs.List.{zip}
use Rattle.pol_answer.specs.declared.answer.Answer.{Answer}
use Rattle.pol_gen.specs.Generated.{generated}
use Rattle.pol_history.specs.Commits.{Lives, commits_in, state_after}
use Rattle.pol_history.specs.declared.event.EndpointId.{EndpointId}
use Rattle.pol_history.specs.declared.event.HistoryEvent.{HistoryEvent}
use Rattle.pol_model.specs.declared.options.Options.{Options}
use Rattle.pol_model.specs.declared.request.Query.{Query}
use Rattle.pol_run_laws.specs.HistoryOfRun.{HasPublished, IsHistoryOf}
use Rattle.pol_run.specs.Run.{readings_of}
use Rattle.pol_script.specs.declared.command.Command.TheVariants as command
use Rattle.pol_generated.specs.Asked.{asked}
use Rattle.pol_generated.specs.Maps.{HasRoom, most_entries}
use Rattle.pol_generated.specs.OneRun.{IsRunOfRounds}
use Rattle.pol_generated.specs.Requests.{requests_asked, requests_in}

-- the endpoint that the query names is live at the revision, and its map there was published
pub record HasMapFor (options : Options) (history : List HistoryEvent) (query : Query) (revision : ℕ) : Type 0 where
  pub endpoint : EndpointId
  pub named : endpoint.name ≡ query.endpoint
  pub lives : Lives (state_after options history revision) endpoint
  pub published : HasPublished history endpoint revision

-- The commits are the requests of the generated script of n rounds, in order; and for each verdict that it asks for, the map
-- of its endpoint was published at the number of requests before.
pub record IsHistoryOfRounds (options : Options) (n : ℕ) (history : List HistoryEvent) : Type 0 where
  pub commits : commits_in history ≡ requests_asked n
  pub verdicts : (i session : ℕ) (query : Query) → slice_get (asked n) i ≡ Some (command.Look session query)
      → HasMapFor options history query (length (requests_in (take i (asked n))))

-- Where maps have room, the history of each run of the script is such a one.
abbrev pub HistoriesHoldRounds : Type 0
HistoriesHoldRounds = (options : Options) (n : ℕ) (answers : List Answer) (history : List HistoryEvent)
    → HasRoom most_entries options → IsRunOfRounds options n answers
    → IsHistoryOf options history (zip (readings_of (generated n)) answers) → IsHistoryOfRounds options n history
