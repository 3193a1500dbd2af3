use Rattle.std.proofs.Common.{ap, arith}
use Rattle.pol_arena.proofs.Kept.{kept_sound, kept_place, kept_value}
use Rattle.pol_arena.proofs.twin.Twin.get.Goals as goal

pub index-requires : goal.index-requires
index-requires g c =
    let within = kept_place c.self.invariant c.args.node c.args.self.now.ages (ap (λ t. t.ages) c.self.view_is) (omega arith) c.requires.in_use in
    let len = c.self.inside.nodes.ok.0 in
    omega arith

pub returns-clause-value : goal.returns-clause-value
returns-clause-value g c =
    kept_value c.self.invariant c.args.node c.args.self.now.ages c.index.result.now (ap (λ t. t.ages) c.self.view_is) (omega arith) c.requires.in_use c.index.ensures

pub returns-clause-sound : goal.returns-clause-sound
returns-clause-sound g c = kept_sound c.self.invariant c.args.self.now c.self.view_is
