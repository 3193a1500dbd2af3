use Rattle.std.proofs.Common.{◌≡◌, [], ◌++◌, append-nil, drop, sym, ◌∙◌, ap, arith}
use Rattle.std.proofs.lemmas.List.{drop_all}
use Rattle.pol_distill.proofs.Joined.{joined}
use Rattle.pol_distill.proofs.OnePass.{pass_is}
use Rattle.pol_distill.proofs.Swept.{swept}
use Rattle.pol_distill.proofs.sweep.swept.Goals as goal

pub returns : goal.returns
returns c =
    let rest : drop c.loop-i.i c.args.entries.now ≡ [] = drop_all c.loop-i.i c.args.entries.now (omega arith) in
    sym (append-nil c.loop-i.table.items)
    ∙ ap (λ l. c.loop-i.table.items ++ swept c.loop-i.deny (joined l)) (sym rest)
    ∙ c.loop-i.invariant
    ∙ pass_is c.args.entries.now c.requires.rises c.requires.small
