use Rattle.std.proofs.Common.{◌≡◌, ◌++◌, drop, filter_map}
use Rattle.std.specs.List.{list_any}
use Rattle.pol_sanitize.proofs.kind.push_each.Given as goal

-- what was appended, and what the rest gives, are what all give; and a bad one, if there is one, is still to come
abbrev pub invariant-loop-raw : goal.invariant-loop-raw
invariant-loop-raw g l = record {
  parts : l.parts.items ++ filter_map (g.K.PartKind.part l.key) (drop l.raw-index l.raws) ≡ l.initial.parts.items ++ filter_map (g.K.PartKind.part l.key) l.raws;
  bad : list_any g.K.PartKind.bad (drop l.raw-index l.raws) ≡ list_any g.K.PartKind.bad l.raws;
}
