use Rattle.std.proofs.Common.{◌≡◌, ◌≤◌, count_by, take}
use Rattle.pol_summary.specs.Summary.{is_of}
use Rattle.pol_summary.proofs.summary.count_of.Given as goal

-- how many of the answers so far are of the kind
abbrev pub invariant-loop-answer : goal.invariant-loop-answer
invariant-loop-answer l = record {
  counted : l.count ≡ count_by (is_of l.kind) (take l.answer-index l.answers);
  within : l.count ≤ l.answer-index;
}
