use Rattle.std.proofs.Common.{◌≡◌, ◌∷◌, ◌++◌, ◌∙◌, arith}
use Rattle.pol_ports.specs.declared.PortPrefix.{PortPrefix}
use Rattle.pol_mapkey.specs.declared.Kind.{Kind}
use Rattle.pol_audit.specs.Text.{kind_word, port_text, spaced}
use Rattle.pol_audit.proofs.Results.{on_none, on_some}
use Rattle.pol_audit.proofs.Spelled.{cut_none, cut_some, cut_words, port_lacks}
use Rattle.pol_audit.proofs.line.port_and_kind.Goals as goal

pub returns-in-None-clause-none : goal.returns-in-None-clause-none
returns-in-None-clause-none c = λ port kind small is.
    cut_none 32 c.args.text.now (omega arith) (port_text port) (kind_word kind) c.in-None.ensures.cases (port_lacks 32 (omega arith) port small) is

pub returns-in-Some-clause-some : goal.returns-in-Some-clause-some
returns-in-Some-clause-some c =
    on_some c.ports_then_kind.result
    (λ (said : PortPrefix × Kind). (c.in-Some.port.now ≡ port_text said.0) × (c.in-Some.kind.now ≡ kind_word said.1))
    (λ (said : PortPrefix × Kind). c.args.text.now ≡ spaced (port_text said.0) (kind_word said.1))
    c.ports_then_kind.ensures.some (λ said are.
    cut_some 32 c.args.text.now (omega arith) (c.in-Some.port, c.in-Some.kind) c.in-Some.ensures.cases ∙ (λ i. are.0 i ++ 32 ∷ are.1 i))

pub returns-in-Some-clause-none : goal.returns-in-Some-clause-none
returns-in-Some-clause-none c = on_none c.ports_then_kind.result _ _ c.ports_then_kind.ensures.none (λ none port kind small is.
    let parts = cut_words 32 c.args.text.now (omega arith) (c.in-Some.port, c.in-Some.kind) (port_text port) (kind_word kind) c.in-Some.ensures.cases (port_lacks 32 (omega arith) port small) is in
    none port kind small parts.0 parts.1)
