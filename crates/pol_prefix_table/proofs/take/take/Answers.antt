use Rattle.std.proofs.Common.{sym, ap, ◌∙◌, option_map}
use Rattle.pol_addr.specs.Prefix.{covers}
use Rattle.pol_prefix_table.proofs.Taking.{numbers_unchanged, number_of-absent, number_of-at}
use Rattle.pol_prefix_table.proofs.take.take.Goals as goal

pub returns-in_err-at-clause-value : goal.returns-in_err-at-clause-value
returns-in_err-at-clause-value g c = ap (option_map (λ r. r.0)) c.from_residual.ensures ∙ sym (number_of-absent c.args.trie.now c.args.prefix.now c.in_err-at.ensures.absent)

pub returns-in_err-at-clause-numbers : goal.returns-in_err-at-clause-numbers
returns-in_err-at-clause-numbers g c = numbers_unchanged c.args.trie.now c.args.prefix.now (number_of-absent c.args.trie.now c.args.prefix.now c.in_err-at.ensures.absent)

pub returns-in_err-number-clause-value : goal.returns-in_err-number-clause-value
returns-in_err-number-clause-value g c =
    ap (option_map (λ r. r.0)) c.from_residual-in_err-number.ensures
    ∙ sym (number_of-at c.args.trie.now c.at.ensures.trie.tree c.args.prefix.now c.in_ok-at.at c.at.result c.in_ok-at.ensures.found c.at.ensures.node ∙ c.in_err-number.was)

pub returns-in_err-number-clause-numbers : goal.returns-in_err-number-clause-numbers
returns-in_err-number-clause-numbers g c =
    numbers_unchanged c.args.trie.now c.args.prefix.now
    (number_of-at c.args.trie.now c.at.ensures.trie.tree c.args.prefix.now c.in_ok-at.at c.at.result c.in_ok-at.ensures.found c.at.ensures.node ∙ c.in_err-number.was)

pub returns-clause-value : goal.returns-clause-value
returns-clause-value g c =
    sym (number_of-at c.args.trie.now c.at.ensures.trie.tree c.args.prefix.now c.in_ok-at.at c.at.result c.in_ok-at.ensures.found c.at.ensures.node ∙ c.in_ok-number.was)

pub returns-clause-over : goal.returns-clause-over
returns-clause-over g c =
    let h = c.in_ok-at.ensures.found in
    let (m, is, same) = c.set_number.ensures.kept c.in_ok-at.at h.node h.there in
    ap (covers c.prune_from-over.result) (sym (same ∙ h.prefix)) ∙ c.prune_from-over.ensures.over m is

pub returns-clause-kept : goal.returns-clause-kept
returns-clause-kept g c = λ j n outside is.
    let (m, is', same) = c.set_number.ensures.kept j n is in
    let (m', is'', same') = c.prune_from-over.ensures.kept j m (ap (covers c.prune_from-over.result) same ∙ outside) is' in
    (m', is'', same' ∙ same)
