use Rattle.std.proofs.Common.{◌≡◌, ◌∷◌, ◌++◌, decimal, ◌∙◌, arith}
use Rattle.pol_ports.specs.declared.PortPrefix.{PortPrefix}
use Rattle.pol_audit.specs.Text.{port_text}
use Rattle.pol_audit.proofs.Results.{on_none, on_some}
use Rattle.pol_audit.proofs.Spelled.{cut_none, cut_some, cut_words, decimal_lacks}
use Rattle.pol_audit.proofs.words.port_of.Goals as goal

pub returns-in-None-clause-none : goal.returns-in-None-clause-none
returns-in-None-clause-none c = λ port small is.
    cut_none 47 c.args.text.now (omega arith) (decimal port.bits) (decimal port.len) c.in-None.ensures.cases (decimal_lacks 47 port.bits (omega arith) (omega arith)) is

pub returns-in-Some-clause-some : goal.returns-in-Some-clause-some
returns-in-Some-clause-some c =
    on_some c.prefix_from.result
    (λ (port : PortPrefix). (c.in-Some.bits.now ≡ decimal port.bits) × (c.in-Some.len.now ≡ decimal port.len))
    (λ (port : PortPrefix). c.args.text.now ≡ port_text port)
    c.prefix_from.ensures.some (λ port said.
    cut_some 47 c.args.text.now (omega arith) (c.in-Some.bits, c.in-Some.len) c.in-Some.ensures.cases ∙ (λ i. said.0 i ++ 47 ∷ said.1 i))

pub returns-in-Some-clause-none : goal.returns-in-Some-clause-none
returns-in-Some-clause-none c = on_none c.prefix_from.result _ _ c.prefix_from.ensures.none (λ none port small is.
    let parts = cut_words 47 c.args.text.now (omega arith) (c.in-Some.bits, c.in-Some.len) (decimal port.bits) (decimal port.len) c.in-Some.ensures.cases (decimal_lacks 47 port.bits (omega arith) (omega arith)) is in
    none port small parts.0 parts.1)
