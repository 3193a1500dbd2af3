use Rattle.std.proofs.Common.{◌↔◌, [], ◌∷◌, ◌++◌, map, ap, subst, ◌∙◌}
use Rattle.std.specs.List.{Contains}
use Rattle.pol_mapkey.specs.Entries.{Entry}
use Rattle.pol_audit.proofs.numbers.numbers_of.Goals as goal

pub returns-clause-members : goal.returns-clause-members
returns-clause-members c = λ n.
    let one = c.in_ok-push.ensures.items ∙ ap (λ xs. xs ++ 0 ∷ []) c.new-numbers.ensures.items in
    let two = c.in_ok-push_numbers.ensures ∙ ap (λ xs. xs ++ map (λ (e : Entry). e.0.id) c.args.left.now) one in
    let three = c.in_ok-push_numbers-2.ensures ∙ ap (λ xs. xs ++ map (λ (e : Entry). e.0.id) c.args.right.now) two in
    subst (λ xs. Contains c.ids_in_order.result.items n ↔ Contains xs n) three (c.ids_in_order.ensures.members n)
