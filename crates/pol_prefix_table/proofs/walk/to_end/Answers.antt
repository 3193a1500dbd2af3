use Rattle.std.proofs.Common.{◌+◌, ◌≡◌, ℕ, Option, option_map, sym, ap, ◌∙◌, arith, subst}
use Rattle.std.specs.Option.{option_or}
use Rattle.std.proofs.lemmas.Option.{same_Some}
use Rattle.pol_prefix_table.specs.declared.node.PrefixNode.{PrefixNode}
use Rattle.pol_prefix_table.specs.Trie.{IsBest}
use Rattle.pol_prefix_table.proofs.Best.{best_step}
use Rattle.pol_prefix_table.proofs.walk.to_end.Goals as goal

pub loop-next-preserved : goal.loop-next-preserved
loop-next-preserved g c =
    let stands = c.in-Some.ensures.stands in
    let same : stands.node.number ≡ c.number_at.result = same_Some stands.node.number c.number_at.result (sym (ap (option_map (λ (m : PrefixNode). m.number)) stands.there) ∙ c.number_at.ensures.number) in
    record {
      stands = c.in-Some.ensures.stands;
      best = subst (IsBest c.args.trie.now c.args.from.to c.in-Some.next) (ap (λ (o : Option ℕ). option_or o c.loop-next.number) same ∙ sym c.or-number.ensures)
          (best_step c.args.trie.now c.number_at.ensures.trie.tree c.args.from.to (c.len-limit.result + 1) c.loop-next.at c.in-Some.next stands.node c.loop-next.number stands.there stands c.in-Some.ensures.between c.in-Some.ensures.deeper c.loop-next.invariant.best);
      few = omega (arith, c.in-Some.ensures.deeper, c.loop-next.invariant.few);
    }
