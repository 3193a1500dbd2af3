-- The history of a run: the committed requests, in the order of the numbers that the `ok` lines carry.
-- It is read from the answers themselves.
use Rattle.std.specs.Prelude.{ℕ, zero, suc, ◌==◌, List, [], ◌++◌, length, take, map, filter, Option, None, Some}
use Rattle.std.specs.List.{filter_map}
use Rattle.pol_model.specs.State.{State}
use Rattle.pol_model.specs.After.{state_of}
use Rattle.pol_model.specs.declared.options.Options.{Options}
use Rattle.pol_model.specs.declared.request.Request.{Request}
use Rattle.pol_answer.specs.declared.answer.Answer.{Answer}
use Rattle.pol_answer.specs.declared.answer.Answer.TheVariants as answer
use Rattle.pol_script.specs.declared.command.Command.TheVariants as command
use Rattle.pol_run.specs.Spots.{Spot, Reading}
use Rattle.std.specs.Prelude.{Ok}

-- a commit: the number of its `ok` line, and its request
pub record Commit : Type 0 where
  pub number : ℕ
  pub request : Request
  pub spot : Spot

abbrev pub commit_as : Spot → Request → Answer → Option Commit
commit_as spot request (answer.Committed revision identity) = Some (record { number = revision; request = request; spot = spot })
commit_as spot request other = None

abbrev pub commit_read : Spot → Reading → Option Commit
commit_read spot (Ok (command.Commit session request)) = commit_as spot request spot.answer
commit_read spot other = None

-- the commit of a line that was answered `ok`
abbrev pub commit_at : Spot → Option Commit
commit_at spot = commit_read spot spot.reading

-- the commits, in the order of their lines
abbrev pub commits_of : List Spot → List Commit
commits_of spots = filter_map commit_at spots

-- the requests of the commits that carry this number
abbrev pub requests_numbered : ℕ → List Commit → List Request
requests_numbered number commits = map (λ c. c.request) (filter (λ c. c.number == number) commits)

-- the requests of the commits that carry 1 to n, in that order
abbrev pub requests_to : ℕ → List Commit → List Request
requests_to zero commits = []
requests_to (suc n) commits = requests_to n commits ++ requests_numbered (suc n) commits

-- the history of a run
abbrev pub history_of : List Spot → List Request
history_of spots = requests_to (length (commits_of spots)) (commits_of spots)

-- the state at a revision: after so many of its commits
abbrev pub state_at : Options → List Spot → ℕ → State
state_at options spots revision = state_of options (take revision (history_of spots))
