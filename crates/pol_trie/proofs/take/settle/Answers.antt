use Rattle.std.proofs.Common.{sym, ◌∙◌}
use Rattle.pol_trie.proofs.Putting.{stays, goes_either}
use Rattle.pol_trie.proofs.Calls.{used_loosely}
use Rattle.pol_trie.proofs.take.settle.Goals as goal

pub get-requires : goal.get-requires
get-requires c = record { in_use = used_loosely c.args.nodes.now c.args.at c.requires }

pub returns-then-is_needed : goal.returns-then-is_needed
returns-then-is_needed c = stays c.args.nodes.now c.args.at c.get.result.now c.get.ensures.value (sym c.is_needed.ensures ∙ c.if-is_needed.true)

pub take-requires : goal.take-requires
take-requires c = record { in_use = used_loosely c.args.nodes.now c.args.at c.requires }

pub returns : goal.returns
returns c =
    goes_either c.args.nodes.now c.take.new.self c.args.at c.get.result.now c.get.ensures.value (sym c.is_needed.ensures ∙ c.if-is_needed.false)
    c.take.ensures.updates c.take.ensures.count c.only.result c.only.ensures
