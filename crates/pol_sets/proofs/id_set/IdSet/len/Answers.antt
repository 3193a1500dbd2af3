use Rattle.std.proofs.Common.{◌^◌, length, ap, ◌∙◌, arith}
use Rattle.std.proofs.lemmas.List.{length-append}
use Rattle.std.proofs.lemmas.Map.Views.{length-le_from_below}
use Rattle.pol_sets.specs.Blocks.{numbers_in}
use Rattle.pol_sets.proofs.id_set.IdSet.len.Goals as goal

pub count_in-requires : goal.count_in-requires
count_in-requires c =
    let most = length-le_from_below (2 ^ 32) c.args.self.now c.parts.ensures.set.ascends c.parts.ensures.set.small in
    let all = ap length c.parts.ensures.same ∙ length-append c.parts.result.0.now (numbers_in c.parts.result.1.now) in
    record { fits = omega (arith, most, all) }

pub overflow_add-result : goal.overflow_add-result
overflow_add-result c =
    let most = length-le_from_below (2 ^ 32) c.args.self.now c.parts.ensures.set.ascends c.parts.ensures.set.small in
    let all = ap length c.parts.ensures.same ∙ length-append c.parts.result.0.now (numbers_in c.parts.result.1.now) in
    omega (arith, most, all, c.count_in.ensures)
