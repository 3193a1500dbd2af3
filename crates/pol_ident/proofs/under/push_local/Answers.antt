use Rattle.std.proofs.Common.{◌≡◌, ◌++◌, OnOk, sym, ap, subst, ◌∙◌}
use Rattle.std.proofs.lemmas.List.{append-nil}
use Rattle.pol_addr.specs.Prefix.{covers}
use Rattle.pol_interner.specs.Slots.{numbers_where}
use Rattle.pol_model.specs.declared.limits.TheConstants.{LOCAL_FIRST}
use Rattle.pol_ident.proofs.StandUnder.{all-where, family-where, no_family-where}
use Rattle.pol_ident.proofs.under.push_local.Goals as goal

-- the prefixes of the family have the label, and no others
pub returns-in-Some : goal.returns-in-Some
returns-in-Some c =
    rw c.in-Label.is
    (subst (λ ns. OnOk c.push_numbers_within.result (c.push_numbers_within.new.numbers.items ≡ c.args.numbers.now.items ++ ns))
    (ap (λ p. numbers_where LOCAL_FIRST (covers p) c.args.local.now) c.world.ensures
    ∙ family-where c.in-Some.family c.in-Label.key.now c.in-Label.value.now c.in-Some.ensures.some LOCAL_FIRST c.args.local.now c.requires.valid) c.push_numbers_within.ensures)

pub returns-in-None : goal.returns-in-None
returns-in-None c =
    rw c.in-Label.is
    (sym (append-nil c.args.numbers.now.items)
    ∙ ap (λ ns. c.args.numbers.now.items ++ ns) (sym (no_family-where c.in-Label.key.now c.in-Label.value.now c.in-None.ensures.none LOCAL_FIRST c.args.local.now)))

pub returns-in-Any : goal.returns-in-Any
returns-in-Any c =
    rw c.in-Any.is
    (subst (λ ns. OnOk c.push_numbers.result (c.push_numbers.new.numbers.items ≡ c.args.numbers.now.items ++ ns)) (sym (all-where LOCAL_FIRST c.args.local.now)) c.push_numbers.ensures)
