use Rattle.std.proofs.Common.{◌<◌, ◌==◌, not, filter, length, ap, sym, ◌∙◌}
use Rattle.std.proofs.lemmas.List.Elements.{All-contains}
use Rattle.pol_mapkey.specs.Entries.{Entry}
use Rattle.pol_shut_ports.specs.Shut.{entry_place}
use Rattle.pol_shut_ports.proofs.Places.{entries_rise, stands_at}
use Rattle.pol_shut_ports.proofs.standing.stands.Goals as goal

pub entries_at-requires-clause-up : goal.entries_at-requires-clause-up
entries_at-requires-clause-up c =
    rw (c.as_slice.ensures.entries)
    (entries_rise c.args.entries.now c.as_slice.ensures.table (λ e there. All-contains (λ (f : Entry). f.0.id < 4294967296) c.args.entries.now e c.requires there))

pub returns : goal.returns
returns c =
    ap (λ b. not b) c.is_empty.ensures
    ∙ ap (λ es. not (length es == 0)) (c.entries_at.ensures ∙ (λ i. filter (λ (e : Entry). entry_place e == c.number_place.ensures.value i) (c.as_slice.ensures.entries i)))
    ∙ sym (stands_at c.args.dir c.args.id c.args.entries.now c.ranges.id.fits (λ e there. All-contains (λ (f : Entry). f.0.id < 4294967296) c.args.entries.now e c.requires there))
