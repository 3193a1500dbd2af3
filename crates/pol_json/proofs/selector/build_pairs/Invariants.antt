use Rattle.std.proofs.Common.{◌≡◌, ◌++◌}
use Rattle.serde_json.specs.View.{members_view}
use Rattle.pol_json.specs.Build.{pairs_of}
use Rattle.pol_json.proofs.selector.build_pairs.Given as goal

-- the pairs so far, and those of the rest, are those of all
abbrev pub invariant-loop-name : goal.invariant-loop-name
invariant-loop-name l = l.pairs.items ++ pairs_of (members_view l.name-iterator) ≡ pairs_of (members_view l.members.entries)
