use Rattle.std.proofs.Common.{sym}
use Rattle.pol_interner.proofs.Shown.{found-place, none-placed}
use Rattle.pol_interner.proofs.interner.Interner.find.Goals as goal

pub returns-in-Some-clause-found : goal.returns-in-Some-clause-found
returns-in-Some-clause-found g c =
    let e = c.in-Some.ensures in
    rw (← c.self.view_is) (found-place g.K.PartialEq.eq _ _ c.args.key.now _ _ _ c.self.invariant.0 e.entry e.key)

pub returns-in-None-clause-none : goal.returns-in-None-clause-none
returns-in-None-clause-none g c =
    let e = c.in-None.ensures in
    rw (← c.self.view_is) (none-placed g.K.PartialEq.eq _ _ c.args.key.now c.self.invariant.0 (sym e.value))
