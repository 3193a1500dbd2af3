use Rattle.std.proofs.Common.{◌≡◌, ◌+◌, ◌∷◌, get_or, drop, refl, sym, ap, ◌∙◌, append-nil, ◌++◌, add-one, drop-cons, arith}
use Rattle.proof_forms.proofs.Stopping.{stops}
use Rattle.proof_forms.proofs.walks.push_below.Goals as goal

pub returns-then-number-limit : goal.returns-then-number-limit
returns-then-number-limit c =
    let numbers = c.args.numbers.now in
    let i = c.loop-number.number-index in
    let within = c.loop-number-test.true in
    let next : drop i numbers ≡ get_or numbers i 0 ∷ drop (i + 1) numbers = rw (drop-cons numbers i 0 within, add-one) refl in
    let none = stops c.args.limit (get_or numbers i 0) (drop (i + 1) numbers) (drop i numbers) next (omega arith) c.loop-number.invariant.ascends in
    sym (append-nil c.loop-number.out.items) ∙ ap (λ xs. c.loop-number.out.items ++ xs) (sym none) ∙ c.loop-number.invariant.kept
