use Rattle.pol_entry_tally.proofs.InOrder.{all_turns, downs_are, listed_is, rises_sorted, ups_are}
use Rattle.pol_entry_tally.proofs.turns.turns_of.Goals as goal

pub returns-clause-rises : goal.returns-clause-rises
returns-clause-rises c = rises_sorted _ c.sort_unstable.ensures.sorted

pub returns-clause-turns : goal.returns-clause-turns
returns-clause-turns c =
    all_turns c.args.come.now c.args.gone.now c.in_ok-push_turns.ensures.fit c.in_ok-push_turns-2.ensures.fit _ _
    (listed_is _ _ _ _ _ c.in_ok-turns.ensures.items c.in_ok-push_turns.ensures.pushed c.in_ok-push_turns-2.ensures.pushed) c.sort_unstable.ensures.permutation

pub returns-clause-come : goal.returns-clause-come
returns-clause-come c =
    ups_are c.args.come.now c.args.gone.now c.in_ok-push_turns.ensures.fit c.in_ok-push_turns-2.ensures.fit _ _
    (listed_is _ _ _ _ _ c.in_ok-turns.ensures.items c.in_ok-push_turns.ensures.pushed c.in_ok-push_turns-2.ensures.pushed) c.sort_unstable.ensures.permutation

pub returns-clause-gone : goal.returns-clause-gone
returns-clause-gone c =
    downs_are c.args.come.now c.args.gone.now c.in_ok-push_turns.ensures.fit c.in_ok-push_turns-2.ensures.fit _ _
    (listed_is _ _ _ _ _ c.in_ok-turns.ensures.items c.in_ok-push_turns.ensures.pushed c.in_ok-push_turns-2.ensures.pushed) c.sort_unstable.ensures.permutation
