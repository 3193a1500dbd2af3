use Rattle.std.proofs.Common.{◌&&◌, ◌||◌, not, sym, subst, ap, ◌∙◌}
use Rattle.pol_sets.specs.IdSet.{IsIdSet}
use Rattle.pol_sets.proofs.Parted.{has-moved}
use Rattle.pol_set_changes.specs.Ids.{has}
use Rattle.pol_selcache.proofs.Numbers.{and_swap}
use Rattle.pol_selcache.proofs.made.Made.new.Goals as goal

pub invariant_of-result : goal.invariant_of-result
invariant_of-result c = record {
  members = λ n.
      ap (has n) (c.in_ok-new.ensures.ok ∙ c.in_ok-set.ensures.moved)
      ∙ has-moved n c.deref.result.now c.args.gained.now c.args.lost.now
      ∙ ap (λ b. b || has n c.args.gained.now) (and_swap (not (has n c.args.lost.now)) (has n c.deref.result.now))
      ∙ sym (λ i. (has n ((c.in_ok-try_clone.ensures ∙ sym c.deref.ensures) i) && not (has n (c.in_ok-copy-2.ensures.equal i))) || has n (c.in_ok-copy.ensures.equal i));
  set = subst IsIdSet (sym c.in_ok-new.ensures.ok) c.in_ok-set.ensures.set;
}
