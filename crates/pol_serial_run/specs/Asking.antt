-- How what a machine says is told.
use Rattle.std.specs.Prelude.{◌≡◌, Bool, true, false, Option, None, Some}
use Rattle.pol_answer.specs.declared.answer.Answer.{Answer}
use Rattle.pol_answer.specs.declared.answer.Answer.TheVariants as answer
use Rattle.pol_history.specs.declared.machine.Reply.{Reply}
use Rattle.pol_history.specs.declared.machine.Reply.TheVariants as reply
use Rattle.pol_machine.specs.declared.asked.SerialAnswer.{SerialAnswer}
use Rattle.pol_machine.specs.declared.asked.SerialAnswer.TheVariants.{Replied, Synced, Traced}
use Rattle.pol_script.specs.declared.command.Command.{Command}
use Rattle.pol_script.specs.declared.command.Command.TheVariants as command

-- a reply as an answer; what a take and a finish are replied is told to nobody
abbrev pub reply_told : Reply → Option Answer
reply_told (reply.Committed done) = Some (answer.Committed done.revision done.identity)
reply_told (reply.Refused refused) = Some (answer.Refused refused)
reply_told (reply.Took revision) = None
reply_told reply.Gone = None
reply_told reply.Idle = None
reply_told (reply.Already revision) = None
reply_told (reply.Full revision count) = None
reply_told (reply.Published revision) = None
reply_told (reply.Verdict revision word) = Some (answer.Verdict revision word)
reply_told (reply.NoEndpoint revision) = Some (answer.NoEndpoint revision)
reply_told (reply.NotYet revision) = Some (answer.NotYet revision)

abbrev pub told_of : SerialAnswer → Option Answer
told_of (Replied said) = reply_told said
told_of (Synced revision full) = Some (answer.Synced revision full)
told_of (Traced revision trace) = Some (answer.Traced revision trace)

-- the command commits a request
abbrev pub is_commit : Command → Bool
is_commit (command.Commit session request) = true
is_commit (command.Look session query) = false
is_commit (command.Trace session query) = false
is_commit (command.Sync session) = false
is_commit command.Phase = false

-- the answer tells what the machine says, of which this holds
pub record IsToldAs (P : SerialAnswer → Type 0) (told : Answer) : Type 0 where
  pub said : SerialAnswer
  pub holds : P said
  pub tells : told_of said ≡ Some told
