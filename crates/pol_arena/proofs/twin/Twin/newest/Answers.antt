use Rattle.std.proofs.Common.{◌≡◌, sym, subst, rules, arith}
use Rattle.std.proofs.lemmas.Grind.{common_steps}
use Rattle.std.specs.Prelude.{Option, ℕ, IfSome}
use Rattle.pol_arena.specs.Twin.{newest_on, IsInUse}
use Rattle.pol_arena.proofs.Kept.{kept_sound, newest_used}
use Rattle.pol_arena.proofs.twin.Twin.newest.Goals as goal

pub returns-in-Some-clause-in_use : goal.returns-in-Some-clause-in_use
returns-in-Some-clause-in_use g c =
    let is : c.in-Some.node.now ≡ newest_on c.args.chain c.args.self.now.ages = first_of (search rules, grind (arith, common_steps)) in
    subst (λ (o : Option ℕ). IfSome o (IsInUse c.args.self.now)) (sym is) (newest_used c.args.chain c.args.self.now.ages)

pub returns-in-Some-clause-sound : goal.returns-in-Some-clause-sound
returns-in-Some-clause-sound g c = kept_sound c.self.invariant c.args.self.now c.self.view_is

pub returns-in-None-clause-sound : goal.returns-in-None-clause-sound
returns-in-None-clause-sound g c = kept_sound c.self.invariant c.args.self.now c.self.view_is
