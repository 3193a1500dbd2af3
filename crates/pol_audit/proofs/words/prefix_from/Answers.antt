use Rattle.std.proofs.Common.{◌≡◌, ◌<◌, ◌^◌, decimal, sym, ◌∙◌, arith}
use Rattle.std.proofs.lemmas.Fmt.{decimal_injective}
use Rattle.pol_ports.specs.declared.PortPrefix.{PortPrefix}
use Rattle.pol_audit.proofs.Results.{if_none, on_none}
use Rattle.pol_audit.proofs.words.prefix_from.Goals as goal

pub returns-in_err-number_of-clause-none : goal.returns-in_err-number_of-clause-none
returns-in_err-number_of-clause-none c =
    let none : (port : PortPrefix) → port.bits < 2 ^ 16 → c.args.bits.now ≡ decimal port.bits → c.args.len.now ≡ decimal port.len → ⊥ =
    λ port small bits len. c.in_err-number_of.ensures.none port.bits (omega arith) bits in
    if_none _ _ none

pub returns-in_err-number_of-2-clause-none : goal.returns-in_err-number_of-2-clause-none
returns-in_err-number_of-2-clause-none c =
    let none : (port : PortPrefix) → port.bits < 2 ^ 16 → c.args.bits.now ≡ decimal port.bits → c.args.len.now ≡ decimal port.len → ⊥ =
    λ port small bits len. let short = port.short in c.in_err-number_of-2.ensures.none port.len (omega arith) len in
    if_none _ _ none

pub returns-clause-none : goal.returns-clause-none
returns-clause-none c = on_none c.prefix_of.result _ _ c.prefix_of.ensures.none (λ none port small bits len.
    let short = port.short in
    let fits = c.in_ok-number_of.ensures.fits in
    let fits' = c.in_ok-number_of-2.ensures.fits in
    none port small
    (decimal_injective port.bits _ (omega arith) (omega arith) (sym bits ∙ c.in_ok-number_of.ensures.some))
    (decimal_injective port.len _ (omega arith) (omega arith) (sym len ∙ c.in_ok-number_of-2.ensures.some)))
