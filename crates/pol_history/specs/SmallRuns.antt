-- Small runs of the machine.
use Rattle.std.specs.Prelude.{List, [], ◌∷◌, None, Some}
use Rattle.pol_mapkey.specs.declared.Word.TheVariants.{Allowed}
use Rattle.pol_model.specs.declared.answer.Fault.TheVariants.{DuplicateEndpoint}
use Rattle.pol_model.specs.declared.options.Mode.TheVariants.{Always, Default}
use Rattle.pol_model.specs.declared.request.Query.{Query}
use Rattle.pol_model.specs.declared.request.Remote.TheVariants.{Identity}
use Rattle.pol_model.specs.declared.request.Request.TheVariants.{SetMode}
use Rattle.pol_ports.specs.declared.Direction.TheVariants.{Ingress}
use Rattle.pol_ports.specs.declared.Proto.TheVariants.{Tcp}
use Rattle.pol_history.specs.declared.machine.Event.{Event}
use Rattle.pol_history.specs.declared.machine.Event.TheVariants.{Commit, Finish, Look, Take}
use Rattle.pol_history.specs.declared.machine.Reply.{Reply}
use Rattle.pol_history.specs.declared.machine.Reply.TheVariants as reply
use Rattle.pol_history.specs.ExampleEvents.{add_web, remove_web, web}

-- a packet of the identity `world` to port 80
abbrev pub packet : Query
packet = record { endpoint = web; dir = Ingress; remote = Identity 2; proto = Tcp; port = 80 }

-- a commit between the take and the finish
abbrev pub taken_before : List Event
taken_before =
    Commit add_web
    ∷ Look packet
    ∷ Finish 0
    ∷ Take 0
    ∷ Commit (SetMode Always)
    ∷ Finish 0
    ∷ Look packet
    ∷ []

abbrev pub taken_before_replies : List Reply
taken_before_replies =
    reply.Committed (record { revision = 1; identity = Some 256; slots = 1 })
    ∷ reply.NotYet 1
    ∷ reply.Idle
    ∷ reply.Took 1
    ∷ reply.Committed (record { revision = 2; identity = None; slots = 1 })
    ∷ reply.Published 1
    ∷ reply.Verdict 1 Allowed
    ∷ []

-- where a map has one entry at most: each reply to a take and to a finish, and refusals
abbrev pub too_large : List Event
too_large =
    Take 0
    ∷ Commit add_web
    ∷ Commit add_web
    ∷ Take 0
    ∷ Finish 0
    ∷ Look packet
    ∷ Take 0
    ∷ Finish 0
    ∷ Finish 0
    ∷ []

abbrev pub too_large_replies : List Reply
too_large_replies =
    reply.Gone
    ∷ reply.Committed (record { revision = 1; identity = Some 256; slots = 1 })
    ∷ reply.Refused (record { revision = 1; fault = DuplicateEndpoint })
    ∷ reply.Took 1
    ∷ reply.Full 1 2
    ∷ reply.NotYet 1
    ∷ reply.Took 1
    ∷ reply.Already 1
    ∷ reply.Idle
    ∷ []

-- a take that replaces an unfinished one, and an endpoint that goes before the finish
abbrev pub taken_again : List Event
taken_again =
    Commit add_web
    ∷ Take 0
    ∷ Commit (SetMode Always)
    ∷ Take 0
    ∷ Finish 0
    ∷ Commit (SetMode Default)
    ∷ Take 0
    ∷ Commit remove_web
    ∷ Look packet
    ∷ Finish 0
    ∷ Finish 0
    ∷ []

abbrev pub taken_again_replies : List Reply
taken_again_replies =
    reply.Committed (record { revision = 1; identity = Some 256; slots = 1 })
    ∷ reply.Took 1
    ∷ reply.Committed (record { revision = 2; identity = None; slots = 1 })
    ∷ reply.Took 2
    ∷ reply.Published 2
    ∷ reply.Committed (record { revision = 3; identity = None; slots = 1 })
    ∷ reply.Took 3
    ∷ reply.Committed (record { revision = 4; identity = None; slots = 0 })
    ∷ reply.NoEndpoint 4
    ∷ reply.Gone
    ∷ reply.Idle
    ∷ []
