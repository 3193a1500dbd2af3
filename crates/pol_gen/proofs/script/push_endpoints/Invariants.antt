use Rattle.std.proofs.Common.{◌≡◌, ◌++◌}
use Rattle.std.specs.List.{flat_map, range_with_len}
use Rattle.std.specs.String.{string_bytes}
use Rattle.pol_gen.specs.Draws.{after}
use Rattle.pol_gen.specs.Generated.{endpoint_line}
use Rattle.pol_gen.proofs.script.push_endpoints.Given as goal

-- the lines of the endpoints so far
abbrev pub invariant-loop-i : goal.invariant-loop-i
invariant-loop-i l = record {
  draws : l.draws.x ≡ after l.i l.fn.draws.x;
  lines : string_bytes l.out ≡ string_bytes l.fn.out ++ flat_map (λ i. endpoint_line i (after i l.fn.draws.x)) (range_with_len 0 l.i);
}
