use Rattle.std.proofs.Common.{◌<◌, ap, ◌∙◌}
use Rattle.std.proofs.lemmas.List.Elements.{All-contains}
use Rattle.pol_mapkey.specs.Entries.{Entry, read_map}
use Rattle.pol_shut_ports.specs.Shut.{shut_at, word_in}
use Rattle.pol_shut_ports.proofs.Found.{says}
use Rattle.pol_shut_ports.proofs.shut.Shut.at.Goals as goal

pub returns : goal.returns
returns c = λ port below.
    let table = c.self.inside.entries in
    let list = c.self.inside.list in
    ap (λ ds. word_in ds port) (c.shut_at.ensures ∙ ap (λ l. shut_at table l c.args.dir c.args.id c.args.proto) c.as_slice.ensures)
    ∙ says table list c.self.invariant.1 (λ e there. All-contains (λ (f : Entry). f.0.id < 4294967296) table e c.self.invariant.0 there) c.args.dir c.args.id c.ranges.id.fits c.args.proto port below
    ∙ ap (λ t. read_map t c.args.dir c.args.id c.args.proto port) c.self.view_is
