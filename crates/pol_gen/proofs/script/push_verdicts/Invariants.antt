use Rattle.std.proofs.Common.{◌≡◌, ◌++◌, ◌*◌}
use Rattle.std.specs.List.{flat_map, range_with_len}
use Rattle.std.specs.String.{string_bytes}
use Rattle.pol_gen.specs.Draws.{after}
use Rattle.pol_gen.specs.Generated.{verdict_line}
use Rattle.pol_gen.proofs.script.push_verdicts.Given as goal

-- the lines of the verdicts so far
abbrev pub invariant-loop-i : goal.invariant-loop-i
invariant-loop-i l = record {
  draws : l.draws.x ≡ after (2 * l.i) l.fn.draws.x;
  lines : string_bytes l.out ≡ string_bytes l.fn.out ++ flat_map (λ i. verdict_line i (after (2 * i) l.fn.draws.x)) (range_with_len 0 l.i);
}
