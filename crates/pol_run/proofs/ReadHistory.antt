-- The names in the states of a run were read: an endpoint's by the line that added it, a policy's key by the line that applied it.
use Rattle.std.proofs.Common.{◌≡◌, ℕ, zero, suc, ◌+◌, ◌-◌, List, [], ◌∷◌, length, map, take, filter, zip, ◌==◌, slice_get, Contains, true, Some, Ok, IsTrue, subst}
use Rattle.std.specs.List.{AllByRecursion, cons_option}
use Rattle.pol_answer.specs.Shown.{is_applied_key}
use Rattle.pol_answer.specs.declared.answer.Answer.{Answer}
use Rattle.pol_answer.specs.declared.answer.Answer.TheVariants as answer
use Rattle.pol_model_laws.proofs.Remembered.{added-by, applied-by}
use Rattle.pol_json.specs.Texts.{is_name}
use Rattle.pol_model.specs.After.{state_of}
use Rattle.pol_model.specs.declared.options.Options.{Options}
use Rattle.pol_model.specs.declared.request.Request.{Request}
use Rattle.pol_model.specs.declared.request.Request.TheVariants.{AddEndpoint, Apply}
use Rattle.pol_model.specs.declared.row.Endpoint.{Endpoint}
use Rattle.pol_model.specs.declared.row.Stamped.{Stamped}
use Rattle.pol_script.specs.Reading.{reading_of}
use Rattle.pol_script.specs.declared.command.Command.TheVariants as command
use Rattle.pol_run.specs.History.{Commit, commit_as, commit_read, commits_of, requests_numbered, requests_to}
use Rattle.pol_run.specs.Spots.{Reading, Spot, phase_after, spots_from}
use Rattle.pol_run.specs.Told.{has_read_names}
use Rattle.pol_run.proofs.Indices.{spot_at}
use Rattle.pol_run.proofs.Lists.{every_append, every_filtered, every_mapped, every_weaker}
use Rattle.pol_run.proofs.ReadNames.{IsNamed, reading_named}

-- the request brings names that were read
abbrev pub BringsRead : Request → Type 0
BringsRead request = IsTrue (has_read_names request)

-- ---- from the lines to the history

pub readings_named : (lines : List (List ℕ)) → AllByRecursion IsNamed (map reading_of lines)
readings_named [] = tt
readings_named (line ∷ lines) = (reading_named line, readings_named lines)

abbrev IsOfRead : Commit → Type 0
IsOfRead c = BringsRead c.request

commit_as_read : (spot : Spot) (request : Request) (told : Answer) (cs : List Commit) → BringsRead request → AllByRecursion IsOfRead cs
    → AllByRecursion IsOfRead (cons_option (commit_as spot request told) cs)
commit_as_read spot request (answer.Committed revision identity) cs named others = (named, others)
commit_as_read spot request told cs named others = others

commit_of_read : (spot : Spot) (reading : Reading) (cs : List Commit) → IsNamed reading → AllByRecursion IsOfRead cs
    → AllByRecursion IsOfRead (cons_option (commit_read spot reading) cs)
commit_of_read spot (Ok (command.Commit session request)) cs named others = commit_as_read spot request spot.answer cs named others
commit_of_read spot reading cs named others = others

commits_read : (index phase : ℕ) (readings : List Reading) (answers : List Answer) → AllByRecursion IsNamed readings
    → AllByRecursion IsOfRead (commits_of (spots_from index phase (zip readings answers)))
commits_read index phase [] answers every = tt
commits_read index phase (reading ∷ readings) [] every = tt
commits_read index phase (reading ∷ readings) (a ∷ answers) every =
    commit_of_read (spot_at index phase reading a) reading (commits_of (spots_from (index + 1) (phase_after phase reading) (zip readings answers))) every.0
    (commits_read (index + 1) (phase_after phase reading) readings answers every.1)

requests_read : (n : ℕ) (cs : List Commit) → AllByRecursion IsOfRead cs → AllByRecursion BringsRead (requests_to n cs)
requests_read zero cs every = tt
requests_read (suc n) cs every =
    every_append BringsRead (requests_to n cs) (requests_numbered (suc n) cs) (requests_read n cs every)
    (every_mapped BringsRead (λ (c : Commit). c.request) (filter (λ (c : Commit). c.number == suc n) cs)
    (every_filtered IsOfRead (λ (c : Commit). c.number == suc n) cs
    (every_weaker IsOfRead (λ (c : Commit). IsTrue (c.number == suc n) → IsOfRead c) (λ c named _. named) cs every)))

-- each request of the history of lines that are read brings such names
pub history_read : (readings : List Reading) (answers : List Answer) → AllByRecursion IsNamed readings
    → let cs = commits_of (spots_from 0 1 (zip readings answers)) in AllByRecursion BringsRead (requests_to (length cs) cs)
history_read readings answers every =
    let cs = commits_of (spots_from 0 1 (zip readings answers)) in requests_read (length cs) cs (commits_read 0 1 readings answers every)

-- ---- from the history to the states

read_at : (requests : List Request) (i : ℕ) (request : Request) → AllByRecursion BringsRead requests → slice_get requests i ≡ Some request → BringsRead request
read_at [] i request every is = absurd cc
read_at (first ∷ requests) zero request every is = let same : first ≡ request = cc in subst BringsRead same every.0
read_at (first ∷ requests) (suc i) request every is = read_at requests i request every.1 is

pub taken_read : (n : ℕ) (requests : List Request) → AllByRecursion BringsRead requests → AllByRecursion BringsRead (take n requests)
taken_read zero requests every = tt
taken_read (suc n) [] every = tt
taken_read (suc n) (request ∷ requests) every = (every.0, taken_read n requests every.1)

module _ (options : Options) (requests : List Request) (every : AllByRecursion BringsRead requests) where
  pub endpoint_named : (e : Endpoint) → Contains (state_of options requests).endpoints e → is_name e.name ≡ true
  endpoint_named e there = read_at requests (e.added - 1) (AddEndpoint e.name e.labels e.address) every (added-by options requests e there).1

  pub policy_named : (p : Stamped) → Contains (state_of options requests).policies p → is_applied_key p.policy.key ≡ true
  policy_named p there = read_at requests (p.stamp - 1) (Apply p.policy) every (applied-by options requests p there).1
