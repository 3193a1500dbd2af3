use Rattle.std.proofs.Common.{◌≡◌, ℕ, IfOk, List, None, ap, subst, ◌∙◌}
use Rattle.pol_sets.specs.declared.sets.SetRow.{SetRow}
use Rattle.pol_distill.specs.Distilled.{distilled}
use Rattle.pol_map_size.specs.Part.{part_size}
use Rattle.pol_map_size.proofs.Sizes.{whole_size}
use Rattle.pol_map_size.proofs.counted.map_size.Goals as goal

pub returns : goal.returns
returns c = record {
  size = subst (λ (n : ℕ). IfOk c.size_between.result (λ size. size ≡ n))
      (ap (λ (rows : List SetRow). part_size 0 None (distilled c.args.filters.now rows)) c.as_slice-2.ensures.rows
      ∙ whole_size (distilled c.args.filters.now c.args.sets.now))
      c.size_between.ensures.size;
}
