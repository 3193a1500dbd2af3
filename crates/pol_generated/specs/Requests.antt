-- The requests among the commands of a generated script, among what the lines of a script read as, and the answers to
-- requests that committed and to queries of verdicts.
use Rattle.std.specs.Prelude.{ℕ, Bool, true, false, List, Option, None, Some, Ok, Err}
use Rattle.std.specs.List.{filter_map}
use Rattle.pol_answer.specs.declared.answer.Answer.{Answer}
use Rattle.pol_answer.specs.declared.answer.Answer.TheVariants as answer
use Rattle.pol_model.specs.declared.request.Request.{Request}
use Rattle.pol_run.specs.Spots.{Reading}
use Rattle.pol_script.specs.declared.command.Command.{Command}
use Rattle.pol_script.specs.declared.command.Command.TheVariants as command
use Rattle.pol_generated.specs.Asked.{asked}

-- the request of a command, where it is one
abbrev pub request_in : Command → Option Request
request_in (command.Commit session request) = Some request
request_in other = None

abbrev pub requests_in : List Command → List Request
requests_in commands = filter_map request_in commands

-- the requests of the generated script of n rounds, in the order of its lines
abbrev pub requests_asked : ℕ → List Request
requests_asked n = requests_in (asked n)

-- the request that a line reads as, where it does
abbrev pub request_read : Reading → Option Request
request_read (Ok command) = request_in command
request_read (Err fault) = None

-- the requests that lines read as, in their order
abbrev pub requests_read : List Reading → List Request
requests_read readings = filter_map request_read readings

-- the answer tells of a commit
abbrev pub is_committed : Answer → Bool
is_committed (answer.Committed revision identity) = true
is_committed other = false

-- the answer is a verdict
abbrev pub is_verdict : Answer → Bool
is_verdict (answer.Verdict revision word) = true
is_verdict other = false
