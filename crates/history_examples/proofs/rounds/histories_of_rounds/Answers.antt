use Rattle.std.proofs.Common.{◌≡◌, ℕ, ◌+◌, List, [], ◌∷◌, ◌++◌, length, slice_get, Some, refl, ap, arith}
use Rattle.std.specs.Prelude.{⊤}
use Rattle.std.specs.List.{AllByRecursion, flat_map, range_with_len}
use Rattle.pol_data.proofs.Every.{every-append}
use Rattle.pol_gen.specs.Draws.{after, drawn}
use Rattle.pol_gen.specs.Generated.{draws_before}
use Rattle.pol_generated.specs.Asked.{asked, endpoint_command, endpoint_name, endpoints, host_address, last_check, round_commands}
use Rattle.pol_generated.specs.Requests.{requests_asked}
use Rattle.pol_history.specs.Commits.{commits_in}
use Rattle.pol_history.specs.declared.event.HistoryEvent.TheVariants as event
use Rattle.pol_model.specs.declared.request.Query.{Query}
use Rattle.pol_model.specs.declared.request.Remote.TheVariants as remote
use Rattle.pol_model.specs.declared.request.Request.{Request}
use Rattle.pol_ports.specs.declared.Direction.TheVariants.{Ingress}
use Rattle.pol_ports.specs.declared.Proto.TheVariants.{Tcp}
use Rattle.pol_run_laws.proofs.Places.{element_at}
use Rattle.pol_script.specs.declared.command.Command.{Command}
use Rattle.pol_script.specs.declared.command.Command.TheVariants as command
use Rattle.history_examples.specs.Rounds.{committed}
use Rattle.history_examples.proofs.OneEndpoint.{IsNoReport}
use Rattle.history_examples.proofs.rounds.histories_of_rounds.Goals as goal

commits_again : (requests : List Request) → commits_in (committed requests) ≡ requests
commits_again [] = refl
commits_again (request ∷ requests) = ap (λ (rs : List Request). request ∷ rs) (commits_again requests)

pub returns-clause-all_commits : goal.returns-clause-all_commits
returns-clause-all_commits c = commits_again (requests_asked 1)

no_reports : (requests : List Request) → AllByRecursion IsNoReport (committed requests)
no_reports [] = tt
no_reports (request ∷ requests) = (tt, no_reports requests)

-- the first verdict of the script of one round
abbrev looked_at : ℕ → Query
looked_at x = record {
  endpoint = endpoint_name 0;
  dir = Ingress;
  remote = remote.Address (host_address (drawn 0 x 32 + 1));
  proto = Tcp;
  port = drawn 1 x 1124 + 1;
}

first_look : slice_get (asked 1) 34 ≡ Some (command.Look 1 (looked_at (after (draws_before 1) 1)))
unfolding after
first_look = refl

pub returns-clause-no_map : goal.returns-clause-no_map
returns-clause-no_map c = λ it.
    let map_there = it.verdicts 34 1 (looked_at (after (draws_before 1) 1)) first_look in
    element_at IsNoReport (committed (requests_asked 1)) map_there.published.place
    (event.Publish map_there.endpoint _ map_there.published.table) (no_reports (requests_asked 1)) map_there.published.there

abbrev IsNoLook : Command → Type 0
IsNoLook (command.Commit session request) = ⊤
IsNoLook (command.Look session query) = ⊥
IsNoLook (command.Trace session query) = ⊤
IsNoLook (command.Sync session) = ⊤
IsNoLook command.Phase = ⊤

-- endpoints are added, and nothing else is asked
endpoints_alone : (n : ℕ) (numbers : List ℕ) → AllByRecursion IsNoLook (flat_map (λ i. endpoint_command i (after i n) ∷ []) numbers)
endpoints_alone n [] = tt
endpoints_alone n (i ∷ numbers) = (tt, endpoints_alone n numbers)

without_rounds : AllByRecursion IsNoLook (asked 0)
without_rounds =
    every-append IsNoLook (endpoints 0 ++ flat_map (round_commands 0) (range_with_len 0 0)) (last_check 0)
    (every-append IsNoLook (endpoints 0) (flat_map (round_commands 0) (range_with_len 0 0)) (endpoints_alone 0 (range_with_len 0 32)) tt) tt

pub returns-clause-no_verdicts : goal.returns-clause-no_verdicts
returns-clause-no_verdicts c = λ i session query there. element_at IsNoLook (asked 0) i (command.Look session query) without_rounds there

pub returns-clause-no_commits : goal.returns-clause-no_commits
returns-clause-no_commits c = λ it.
    let wrong : 0 ≡ 32 = ap (λ (rs : List Request). length rs) it.commits in omega (arith, wrong)
