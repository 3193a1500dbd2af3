use Rattle.std.proofs.Common.{sym, ◌∙◌, ap}
use Rattle.pol_rule.specs.declared.policy.Peers.TheVariants.{Listed}
use Rattle.pol_sets.specs.Sets.{set_given}
use Rattle.pol_entry_changes.proofs.PeerStays.{listed_stays}
use Rattle.pol_entry_changes.proofs.staying.stays.Goals as goal

pub returns-in-Listed : goal.returns-in-Listed
returns-in-Listed c =
    listed_stays (set_given c.args.was.now) (set_given c.args.is.now.rows) c.args.dir c.args.one.now c.as_slice.result.now (c.in-Listed.is ∙ ap Listed (sym c.as_slice.ensures))
    c.args.out.now c.peers_stay.new.out c.peers_stay.result c.peers_stay.ensures
