-- How many steps an event costs at most: a match of a selector, or a node of a trie that is visited.
use Rattle.std.specs.Prelude.{◌≡◌, ℕ, ◌+◌, ◌≤◌, false}
use Rattle.pol_history.specs.declared.machine.Event.{Event}
use Rattle.pol_history.specs.declared.machine.Event.TheVariants as step
use Rattle.pol_model.specs.State.{State}
use Rattle.pol_repo.specs.Cost.{label_peers}
use Rattle.pol_requests.specs.Prepared.{is_of_policy}

-- A commit of no policy costs a match for each distinct label peer of the policies, a look-up 36 nodes, and takes and finishes
-- cost none. Of a policy's commit nothing is said.
abbrev pub Costs : State → Event → ℕ → ℕ → Type 0
Costs s (step.Commit request) before now = is_of_policy request ≡ false → now ≤ before + label_peers s.policies
Costs s (step.Take slot) before now = now ≡ before
Costs s (step.Finish slot) before now = now ≡ before
Costs s (step.Look query) before now = now ≤ before + 36
