use Rattle.std.proofs.Common.{◌≡◌, ◌++◌, None, length}
use Rattle.std.specs.Vec.Iter.{into_iter_items}
use Rattle.pol_repo.specs.Repository.{state_in}
use Rattle.pol_script_commits.specs.Left.{state_left}
use Rattle.pol_script_commits.specs.Refused.{refusals_from}
use Rattle.pol_script_commits.proofs.commits.commit_all.Given as goal

-- the requests of the lines so far are committed, and those of them that were refused are told
abbrev pub invariant-loop-reading : goal.invariant-loop-reading
invariant-loop-reading l = record {
  options : l.repo.options ≡ l.fn.repo.options;
  idle : l.repo.prepared ≡ None;
  state : state_in l.repo ≡ state_left (state_in l.fn.repo) l.yielded;
  counted : l.line ≡ length l.yielded;
  refused : l.refusals.items ≡ refusals_from 0 (state_in l.fn.repo) l.yielded;
  left : l.yielded ++ into_iter_items l.reading-iterator ≡ l.fn.readings.items;
}
