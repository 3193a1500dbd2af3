-- Histories of generated scripts that lack what their verdicts need.
use Rattle.std.specs.Prelude.{List, [], ◌∷◌, map}
use Rattle.pol_history.specs.declared.event.HistoryEvent.{HistoryEvent}
use Rattle.pol_history.specs.declared.event.HistoryEvent.TheVariants as event
use Rattle.pol_history.specs.ExampleEvents.{commit, open_map, publish, remove_web}
use Rattle.pol_model.specs.declared.request.Request.{Request}
use Rattle.pol_run.specs.ExampleLines.{add_web}

-- these requests were committed, and nothing else has come
abbrev pub committed : List Request → List HistoryEvent
committed requests = map (λ request. event.Commit 0 0 request) requests

-- the map of an endpoint was published, which has gone
abbrev pub published_though_gone : List HistoryEvent
published_though_gone = commit 0 0 add_web ∷ commit 0 1 remove_web ∷ publish 1 2 open_map ∷ []
