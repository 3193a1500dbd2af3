use Rattle.pol_interner.proofs.TakenOut.{out-none, out-some, out-within}
use Rattle.pol_interner.proofs.interner.take_out.Goals as goal

pub relink-requires : goal.relink-requires
relink-requires g c =
    let e = c.swap_remove_index.ensures in
    record { within = out-within _ _ _ c.args.place c.args.index c.requires.tied c.requires.taken _ e.entry e.entries _ _ c.in-Some.ensures.entry }

pub returns-in-Some-clause-tied : goal.returns-in-Some-clause-tied
returns-in-Some-clause-tied g c =
    let e = c.swap_remove_index.ensures in
    rw c.relink.ensures (out-some _ _ _ c.args.place c.args.index c.requires.tied c.requires.taken _ e.entry e.entries _ _ c.in-Some.ensures.entry).ties

pub returns-in-Some-clause-shown : goal.returns-in-Some-clause-shown
returns-in-Some-clause-shown g c =
    let e = c.swap_remove_index.ensures in
    rw c.relink.ensures (out-some _ _ _ c.args.place c.args.index c.requires.tied c.requires.taken _ e.entry e.entries _ _ c.in-Some.ensures.entry).shows

pub returns-in-None-clause-tied : goal.returns-in-None-clause-tied
returns-in-None-clause-tied g c =
    let e = c.swap_remove_index.ensures in
    (out-none _ _ _ c.args.place c.args.index c.requires.tied c.requires.taken _ e.entry e.entries c.in-None.ensures.entry).ties

pub returns-in-None-clause-shown : goal.returns-in-None-clause-shown
returns-in-None-clause-shown g c =
    let e = c.swap_remove_index.ensures in
    (out-none _ _ _ c.args.place c.args.index c.requires.tied c.requires.taken _ e.entry e.entries c.in-None.ensures.entry).shows
