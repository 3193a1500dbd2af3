use Rattle.std.proofs.Common.{◌≡◌, ◌++◌, length, sym, subst, ◌∙◌, arith}
use Rattle.std.specs.Prelude.{OnOk}
use Rattle.std.proofs.lemmas.Grind.{common_steps}
use Rattle.pol_sets.specs.Blocks.{numbers_in}
use Rattle.pol_sets.proofs.Parted.{moved_still}
use Rattle.pol_sets.proofs.blocks.push_moved.Goals as goal

pub returns-then-is_empty-2 : goal.returns-then-is_empty-2
returns-then-is_empty-2 c =
    let none_gained : length c.args.gained.now ≡ 0 = grind (arith, common_steps) in
    let none_lost : length c.args.lost.now ≡ 0 = grind (arith, common_steps) in
    record {
      pushed = subst (λ xs. OnOk c.push_block.result (numbers_in c.push_block.new.blocks.items ≡ numbers_in c.args.blocks.now.items ++ xs))
          (c.in_ok-share.ensures.same ∙ sym (moved_still c.args.block.now c.args.gained.now c.args.lost.now none_gained none_lost)) c.push_block.ensures.pushed;
    }
