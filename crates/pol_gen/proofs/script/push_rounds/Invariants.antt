use Rattle.std.proofs.Common.{◌≡◌, ◌++◌}
use Rattle.std.specs.List.{flat_map, range_with_len}
use Rattle.std.specs.String.{string_bytes}
use Rattle.pol_gen.specs.Draws.{after}
use Rattle.pol_gen.specs.Generated.{draws_before, round_lines}
use Rattle.pol_gen.proofs.script.push_rounds.Given as goal

-- the rounds so far
abbrev pub invariant-loop-round : goal.invariant-loop-round
invariant-loop-round l = record {
  draws : l.draws.x ≡ after (draws_before l.round) l.n;
  lines : string_bytes l.out ≡ string_bytes l.fn.out ++ flat_map (round_lines l.n) (range_with_len 0 l.round);
}
