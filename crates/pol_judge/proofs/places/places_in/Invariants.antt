use Rattle.std.proofs.Common.{◌≡◌, take}
use Rattle.pol_rule.specs.Covers.{entry_covers}
use Rattle.pol_model.specs.Explain.{covering_places}
use Rattle.pol_model.specs.Selects.{selects_number}
use Rattle.pol_judge.proofs.places.places_in.Given as goal

abbrev pub invariant-loop-stamped : goal.invariant-loop-stamped
invariant-loop-stamped l =
    l.out.items ≡ covering_places (take l.stamped-index l.policies) l.endpoint l.section (entry_covers (selects_number l.identities l.number) l.query.proto l.query.port)
