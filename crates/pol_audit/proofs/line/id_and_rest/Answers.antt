use Rattle.std.proofs.Common.{◌≡◌, ◌∷◌, ◌++◌, decimal, ◌∙◌, arith}
use Rattle.pol_audit.specs.declared.line.Said.{Said}
use Rattle.pol_audit.specs.Text.{kind_word, port_text, proto_word, said_words, spaced}
use Rattle.pol_audit.proofs.Results.{on_none, on_some}
use Rattle.pol_audit.proofs.Spelled.{cut_none, cut_some, cut_words, decimal_lacks}
use Rattle.pol_audit.proofs.line.id_and_rest.Goals as goal

pub returns-in-None-clause-none : goal.returns-in-None-clause-none
returns-in-None-clause-none c = λ id proto port kind low small is.
    cut_none 32 c.args.text.now (omega arith) (decimal id) (spaced (proto_word proto) (spaced (port_text port) (kind_word kind))) c.in-None.ensures.cases (decimal_lacks 32 id (omega arith) (omega arith)) is

pub returns-in-Some-clause-some : goal.returns-in-Some-clause-some
returns-in-Some-clause-some c =
    on_some c.id_then_rest.result
    (λ (said : Said). (c.in-Some.id.now ≡ decimal said.id) × (c.in-Some.rest.now ≡ spaced (proto_word said.proto) (spaced (port_text said.port) (kind_word said.kind))))
    (λ (said : Said). c.args.text.now ≡ said_words said.id said.proto said.port said.kind)
    c.id_then_rest.ensures.some (λ said are.
    cut_some 32 c.args.text.now (omega arith) (c.in-Some.id, c.in-Some.rest) c.in-Some.ensures.cases ∙ (λ i. are.0 i ++ 32 ∷ are.1 i))

pub returns-in-Some-clause-none : goal.returns-in-Some-clause-none
returns-in-Some-clause-none c = on_none c.id_then_rest.result _ _ c.id_then_rest.ensures.none (λ none id proto port kind low small is.
    let parts = cut_words 32 c.args.text.now (omega arith) (c.in-Some.id, c.in-Some.rest) (decimal id) (spaced (proto_word proto) (spaced (port_text port) (kind_word kind))) c.in-Some.ensures.cases (decimal_lacks 32 id (omega arith) (omega arith)) is in
    none id proto port kind low small parts.0 parts.1)
