-- Machines at small histories, rows of maps that are too large, and why a packet is allowed or denied.
use Rattle.std.specs.Prelude.{List, [], ◌∷◌, codes}
use Rattle.pol_history.specs.Machine.{Machine, machine_start}
use Rattle.pol_history.specs.declared.event.HistoryEvent.{HistoryEvent}
use Rattle.pol_history.specs.declared.event.HistoryEvent.TheVariants as event
use Rattle.pol_history.specs.ExampleEvents.{blocked, commit, open_map, publish}
use Rattle.pol_mapkey.specs.declared.Word.TheVariants.{Allowed, DeniedByDefault}
use Rattle.pol_model.specs.declared.answer.FullSlot.{FullSlot}
use Rattle.pol_model.specs.declared.answer.Trace.{Trace}
use Rattle.pol_model.specs.After.{start}
use Rattle.pol_model.specs.State.{State}
use Rattle.pol_model.specs.declared.options.Mode.TheVariants.{Always}
use Rattle.pol_model.specs.declared.options.Options.{Options}
use Rattle.pol_model_laws.specs.WorkedMaps.{app_peer, ingress_policy}
use Rattle.pol_rule.specs.declared.policy.Peers.TheVariants.{Listed}
use Rattle.pol_run.specs.ExampleLines.{add_db, add_web, db, full, set, web}

abbrev pub machine_at : List HistoryEvent → Machine
machine_at history = record machine_start { history = history }

-- an endpoint was added; its map of two entries was reported as too large; or it was published, and then another mode denies all
abbrev pub added : List HistoryEvent
added = commit 0 0 add_web ∷ []

abbrev pub one_full : List HistoryEvent
one_full = commit 0 0 add_web ∷ blocked 1 1 2 ∷ []

abbrev pub changed : List HistoryEvent
changed = commit 0 0 add_web ∷ publish 1 1 open_map ∷ commit 0 1 (set Always) ∷ []

abbrev pub row : FullSlot
row = full web 1 2

-- two endpoints, whose maps of two entries are too large
abbrev pub two_full : List HistoryEvent
two_full =
    commit 0 0 add_web ∷ commit 0 1 add_db ∷ blocked 1 2 2 ∷ event.Blocked (record { name = db; added = 2 }) 2 2 ∷ []

abbrev pub web_row : FullSlot
web_row = full web 2 2

abbrev pub db_row : FullSlot
db_row = full db 2 2

-- no entry decides: what comes from outside is allowed in mode `default`, and denied in mode `always`
abbrev pub allowed_trace : Trace
allowed_trace = record { word = Allowed; remote = 2; denies = []; allows = [] }

abbrev pub denied_trace : Trace
denied_trace = record { word = DeniedByDefault; remote = 2; denies = []; allows = [] }

-- one policy, which lists one peer of labels
abbrev pub with_a_peer : Options → State
with_a_peer options = record (start options) {
  policies =
      record { policy = ingress_policy (codes "p") (record { peers = Listed (app_peer (codes "x") ∷ []); ports = [] } ∷ []) []; stamp = 1 } ∷ [];
}
