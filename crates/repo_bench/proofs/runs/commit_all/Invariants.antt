use Rattle.std.proofs.Common.{◌≡◌, None}
use Rattle.repo_bench.proofs.runs.commit_all.Given as goal

abbrev pub invariant-loop-request : goal.invariant-loop-request
invariant-loop-request g l =
    (goal.iterator-loop-request g).can_next l.request-iterator ×
    (goal.iterator-loop-request g).is_finite l.request-iterator ×
    (l.repo.prepared ≡ None)
