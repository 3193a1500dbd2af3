use Rattle.std.proofs.Common.{◌<◌, ◌==◌, filter, ap, ◌∙◌}
use Rattle.std.proofs.lemmas.List.Elements.{All-contains}
use Rattle.pol_mapkey.specs.Entries.{Entry}
use Rattle.pol_audit.specs.declared.difference.Difference.{Difference}
use Rattle.pol_audit.specs.Packets.{direction_place, packet_place}
use Rattle.pol_shut_ports.specs.Shut.{group_place, place_of}
use Rattle.pol_shut_ports.proofs.Found.{numbers_small}
use Rattle.pol_shut_ports.proofs.Places.{ranges_rise}
use Rattle.pol_shut_ports.proofs.shut.shut_at.Goals as goal

pub ranges_at-requires-clause-up : goal.ranges_at-requires-clause-up
ranges_at-requires-clause-up c =
    ranges_rise c.args.ranges.now c.requires.difference.ascend
    (numbers_small c.args.entries.now c.args.ranges.now c.requires.difference
    (λ e there. All-contains (λ (f : Entry). f.0.id < 4294967296) c.args.entries.now e c.requires.small there))

pub returns : goal.returns
returns c =
    c.ranges_at.ensures
    ∙ ap (λ n. filter (λ (d : Difference). place_of d == n) c.args.ranges.now)
    (c.group_place.ensures.value ∙ ap (λ n. group_place (direction_place c.args.dir) n (packet_place c.args.proto)) c.number_in-number.ensures)
