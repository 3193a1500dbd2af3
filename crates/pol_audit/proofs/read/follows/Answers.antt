use Rattle.std.proofs.Common.{refl, sym, ap, ◌∙◌}
use Rattle.std.specs.Ordering.{is_lt}
use Rattle.pol_audit.proofs.Following.{follows_last, follows_none}
use Rattle.pol_audit.proofs.read.follows.Goals as goal

pub returns-in-None : goal.returns-in-None
returns-in-None c = (λ _. follows_none c.args.table.now c.args.entry.now (sym c.in-None.ensures.value), λ _. refl)

pub returns-in-Some : goal.returns-in-Some
returns-in-Some c =
    follows_last c.args.table.now c.in-Some.last.now c.args.entry.now c.is_lt.result c.requires (sym c.in-Some.ensures.value) (c.is_lt.ensures ∙ ap is_lt c.order_of_keys.ensures)
