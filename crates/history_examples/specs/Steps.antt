-- Small runs of the machine in which an endpoint goes between a take and its finish.
use Rattle.std.specs.Prelude.{List, [], ◌∷◌, None, Some}
use Rattle.pol_history.specs.declared.machine.Event.{Event}
use Rattle.pol_history.specs.declared.machine.Event.TheVariants.{Commit, Finish, Take}
use Rattle.pol_history.specs.declared.machine.Reply.{Reply}
use Rattle.pol_history.specs.declared.machine.Reply.TheVariants as reply
use Rattle.pol_history.specs.ExampleEvents.{add_web, remove_web}

-- the endpoint was added, and has gone
abbrev added : Reply
added = reply.Committed (record { revision = 1; identity = Some 256; slots = 1 })

abbrev removed : Reply
removed = reply.Committed (record { revision = 2; identity = None; slots = 0 })

-- a take that finds nobody, behind one that is to be finished
abbrev pub taken_in_vain : List Event
taken_in_vain = Commit add_web ∷ Take 0 ∷ Commit remove_web ∷ Take 0 ∷ Finish 0 ∷ Finish 0 ∷ []

abbrev pub taken_in_vain_replies : List Reply
taken_in_vain_replies = added ∷ reply.Took 1 ∷ removed ∷ reply.Gone ∷ reply.Gone ∷ reply.Idle ∷ []

-- a finish at the revision of the last report, of an endpoint that has gone
abbrev pub gone_though_reported : List Event
gone_though_reported = Commit add_web ∷ Take 0 ∷ Finish 0 ∷ Take 0 ∷ Commit remove_web ∷ Finish 0 ∷ []

abbrev pub gone_though_reported_replies : List Reply
gone_though_reported_replies = added ∷ reply.Took 1 ∷ reply.Published 1 ∷ reply.Took 1 ∷ removed ∷ reply.Gone ∷ []

-- an endpoint of the same name in the same slot
abbrev pub another_of_its_name : List Event
another_of_its_name = Commit add_web ∷ Take 0 ∷ Commit remove_web ∷ Commit add_web ∷ Finish 0 ∷ Take 0 ∷ Finish 0 ∷ []

abbrev pub another_of_its_name_replies : List Reply
another_of_its_name_replies =
    added
    ∷ reply.Took 1
    ∷ removed
    ∷ reply.Committed (record { revision = 3; identity = Some 256; slots = 1 })
    ∷ reply.Gone
    ∷ reply.Took 3
    ∷ reply.Published 3
    ∷ []
