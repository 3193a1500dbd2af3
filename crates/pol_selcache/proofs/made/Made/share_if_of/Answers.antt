use Rattle.std.specs.Arc.{arc_value}
use Rattle.pol_selcache.proofs.Sharing.{made_of}
use Rattle.pol_selcache.proofs.made.Made.share_if_of.Goals as goal

pub returns : goal.returns
returns c = record {
  made = made_of c.args.was.now c.args.gained.now c.args.lost.now c.args.self.now (c.is_of.ensures c.if-not-is_of.false) (arc_value c.in_ok-set.set) c.in_ok-set.ensures.made;
}
