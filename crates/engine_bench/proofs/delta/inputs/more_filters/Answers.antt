use Rattle.std.proofs.Common.{◌++◌, ◌∷◌, [], ap, ◌∙◌}
use Rattle.engine_bench.proofs.Numbered.{more_numbered}
use Rattle.engine_bench.proofs.delta.inputs.more_filters.Goals as goal

pub returns-clause-numbered : goal.returns-clause-numbered
returns-clause-numbered c =
    more_numbered c.args.few.now c.args.count c.in_ok-one.one c.enforced.result
    (c.enforced.ensures.ingress ∙ c.in_ok-list.ensures ∙ ap (λ own. own ++ c.in_ok-one.one ∷ []) c.as_slice.ensures)
    c.requires.numbered c.requires.count c.in_ok-one.ensures c.enforced.ensures.egress
