use Rattle.std.proofs.Common.{[], ◌∷◌, ◌++◌, length, ap, sym, subst, ◌∙◌, arith}
use Rattle.std.specs.List.{Contains, flat_map}
use Rattle.pol_data.proofs.Members.{Contains-here, Contains-later}
use Rattle.pol_audit.specs.Cuts.{all_cuts, cuts_at}
use Rattle.pol_audit.proofs.Shares.{all_cuts_few}
use Rattle.pol_audit.proofs.Steady.{begins_with_0}
use Rattle.pol_audit.proofs.cuts.cuts_of.Goals as goal

pub returns : goal.returns
returns c =
    let parts = c.args.parts.now in
    let f = cuts_at c.args.proto in
    let all = all_cuts c.args.proto parts.left.now parts.right.now parts.left_every.now parts.right_every.now in
    let zero = c.in_ok-push.ensures.items ∙ ap (λ xs. xs ++ 0 ∷ []) c.new-cuts.ensures.items in
    let one = c.in_ok-push_cuts.ensures ∙ ap (λ xs. xs ++ flat_map f parts.left.now) zero in
    let two = c.in_ok-push_cuts-2.ensures ∙ ap (λ xs. xs ++ flat_map f parts.right.now) one in
    let three = c.in_ok-push_cuts-3.ensures ∙ ap (λ xs. xs ++ flat_map f parts.left_every.now) two in
    let four = c.in_ok-push_cuts-4.ensures ∙ ap (λ xs. xs ++ flat_map f parts.right_every.now) three in
    let made = c.ports_in_order.ensures in
    record {
      ascend = made.ascend;
      first = begins_with_0 c.ports_in_order.result.items made.ascend ((made.members 0).1 (subst (λ xs. Contains xs 0) (sym four) (Contains-here 0 all)));
      has = λ n there. (made.members n).1 (subst (λ xs. Contains xs n) (sym four) (Contains-later 0 all n there));
      few =
          let most = all_cuts_few c.args.proto parts.left.now parts.right.now parts.left_every.now parts.right_every.now in
          let same = ap length four in
          let few = made.few in
          omega arith;
    }
