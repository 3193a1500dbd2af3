use Rattle.std.proofs.Common.{ap, sym, subst, arith}
use Rattle.std.specs.Prelude.{Option, ℕ, IfSome}
use Rattle.pol_arena.specs.Twin.{IsInUse}
use Rattle.pol_arena.proofs.Kept.{kept_sound, kept_place, kept_older, kept_oldest, older_used}
use Rattle.pol_arena.proofs.twin.Twin.older.Goals as goal

pub index-requires : goal.index-requires
index-requires g c =
    let within = kept_place c.self.invariant c.args.node c.args.self.now.ages (ap (λ t. t.ages) c.self.view_is) (omega arith) c.requires.in_use in
    let len = c.self.inside.nodes.ok.0 in
    omega arith

pub returns-then-next-len-clause-node : goal.returns-then-next-len-clause-node
returns-then-next-len-clause-node g c =
    let len = c.self.inside.nodes.ok.0 in
    sym (kept_older c.self.invariant c.args.node c.args.self.now.ages c.index.result.now (ap (λ t. t.ages) c.self.view_is) (omega arith) c.index.ensures (omega arith))

pub returns-else-next-len-clause-node : goal.returns-else-next-len-clause-node
returns-else-next-len-clause-node g c =
    let len = c.self.inside.nodes.ok.0 in
    sym (kept_oldest c.self.invariant c.args.node c.args.self.now.ages c.index.result.now (ap (λ t. t.ages) c.self.view_is) (omega arith) c.requires.in_use c.index.ensures (omega arith))

pub returns-then-next-len-clause-sound : goal.returns-then-next-len-clause-sound
returns-then-next-len-clause-sound g c = kept_sound c.self.invariant c.args.self.now c.self.view_is

pub returns-else-next-len-clause-sound : goal.returns-else-next-len-clause-sound
returns-else-next-len-clause-sound g c = kept_sound c.self.invariant c.args.self.now c.self.view_is

pub returns-then-next-len-clause-in_use : goal.returns-then-next-len-clause-in_use
returns-then-next-len-clause-in_use g c =
    subst (λ (o : Option ℕ). IfSome o (IsInUse c.args.self.now)) (sym (returns-then-next-len-clause-node g c)) (older_used c.args.node c.args.self.now.ages)
