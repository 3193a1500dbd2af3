use Rattle.std.proofs.Common.{sym, ◌∙◌, ap}
use Rattle.pol_addr.specs.Address.{or_else, read_addr, read_v6}
use Rattle.pol_addr.proofs.HexTexts.{none_writes, some_writes}
use Rattle.pol_addr.proofs.address.Addr.parse.Goals as goal

pub returns-in-Some-clause-reads : goal.returns-in-Some-clause-reads
unfolding read_addr
returns-in-Some-clause-reads c = ap (λ o. or_else o (read_v6 c.args.text.now)) (sym c.in-Some.is ∙ c.parse_v4.ensures)

pub returns-in-Some-clause-written : goal.returns-in-Some-clause-written
returns-in-Some-clause-written c = some_writes c.args.text.now _ (returns-in-Some-clause-reads c)

pub returns-in-None-clause-reads : goal.returns-in-None-clause-reads
unfolding read_addr
returns-in-None-clause-reads c = c.parse_v6.ensures ∙ ap (λ o. or_else o (read_v6 c.args.text.now)) (sym c.in-None.is ∙ c.parse_v4.ensures)

pub returns-in-None-clause-written : goal.returns-in-None-clause-written
returns-in-None-clause-written c = some_writes c.args.text.now _ (returns-in-None-clause-reads c)

pub returns-in-None-clause-none : goal.returns-in-None-clause-none
returns-in-None-clause-none c = none_writes c.args.text.now _ (returns-in-None-clause-reads c)
