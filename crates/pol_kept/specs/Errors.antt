-- What the errors say.
use Rattle.std.specs.Prelude.{Bool, false, true, Result, Ok, Err}
use Rattle.pol_history.specs.declared.machine.Reply.{Reply}
use Rattle.pol_history.specs.declared.machine.Reply.TheVariants as reply
use Rattle.pol_kept.specs.declared.error.KeptError.{KeptError}
use Rattle.pol_kept.specs.declared.error.KeptError.TheVariants as kept
use Rattle.pol_model.specs.declared.answer.Committed.{Committed}

-- a call of the disk failed
abbrev pub is_disk : KeptError → Bool
is_disk (kept.Refused refused) = false
is_disk kept.Memory = false
is_disk kept.Disk = true

-- a commit with this answer has lost the disk
abbrev pub loses : Result Committed KeptError → Bool
loses (Ok done) = false
loses (Err why) = is_disk why

-- ---- what a machine replies to a commit

abbrev pub is_committed : Reply → Bool
is_committed (reply.Committed done) = true
is_committed (reply.Refused refused) = false
is_committed (reply.Took revision) = false
is_committed reply.Gone = false
is_committed reply.Idle = false
is_committed (reply.Already revision) = false
is_committed (reply.Full revision count) = false
is_committed (reply.Published revision) = false
is_committed (reply.Verdict revision word) = false
is_committed (reply.NoEndpoint revision) = false
is_committed (reply.NotYet revision) = false

-- the answer to the commit
abbrev pub answered : Reply → Result Committed KeptError
answered (reply.Committed done) = Ok done
answered (reply.Refused refused) = Err (kept.Refused refused)
answered (reply.Took revision) = Err kept.Memory
answered reply.Gone = Err kept.Memory
answered reply.Idle = Err kept.Memory
answered (reply.Already revision) = Err kept.Memory
answered (reply.Full revision count) = Err kept.Memory
answered (reply.Published revision) = Err kept.Memory
answered (reply.Verdict revision word) = Err kept.Memory
answered (reply.NoEndpoint revision) = Err kept.Memory
answered (reply.NotYet revision) = Err kept.Memory
