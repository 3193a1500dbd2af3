use Rattle.pol_entry_tally.proofs.Stretches.{of_turned}
use Rattle.pol_entry_tally.proofs.asked.those_asked.Goals as goal

pub returns-clause-under : goal.returns-clause-under
returns-clause-under c = λ turn n there under given. c.in_order.ensures.same n (c.in_ok-push_denied.ensures.all turn n there under given)

pub returns-clause-no_more : goal.returns-clause-no_more
returns-clause-no_more c =
    of_turned c.args.counts.now c.args.turns.now c.in_ok-asked.asked.items c.push_turned.new.asked.items c.push_denied.new.asked.items c.in_order.result.items
    c.in_ok-asked.ensures.items c.in_ok-push_turned.ensures c.in_ok-push_denied.ensures.no_more c.in_order.ensures.no_more
