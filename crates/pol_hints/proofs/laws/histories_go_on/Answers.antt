use Rattle.std.proofs.Common.{ap, sym, ◌∙◌}
use Rattle.pol_hints.specs.History.{hints_put, hints_taken}
use Rattle.pol_hints.proofs.Beginnings.{first_longer, longer_begins, second_longer}
use Rattle.pol_hints.proofs.Histories.{begun, put-append, taken-append}
use Rattle.pol_hints.proofs.laws.histories_go_on.Goals as goal

pub returns-clause-first : goal.returns-clause-first
returns-clause-first c = first_longer

pub returns-clause-second : goal.returns-clause-second
returns-clause-second c = second_longer

pub returns-clause-whole : goal.returns-clause-whole
returns-clause-whole c = longer_begins

pub returns-clause-begun : goal.returns-clause-begun
returns-clause-begun c = begun

pub returns-clause-put : goal.returns-clause-put
returns-clause-put c v whole begins = (hints_put begins.0, sym (put-append v begins.0) ∙ ap hints_put begins.1)

pub returns-clause-taken : goal.returns-clause-taken
returns-clause-taken c v whole begins = (hints_taken begins.0, sym (taken-append v begins.0) ∙ ap hints_taken begins.1)
