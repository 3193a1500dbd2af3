use Rattle.std.proofs.Common.{ℕ, true, List, Bor, option_map, sym, ap, ◌∙◌}
use Rattle.pol_compare.proofs.Cutting.{back_few, front_few, is_cut}
use Rattle.pol_compare.specs.Parts.{parts_of}
use Rattle.pol_compare.proofs.tables.compare.Goals as goal

pub one_table-requires : goal.one_table-requires
one_table-requires c =
    let text = c.args.text.now in front_few text _ (parts_of text) (is_cut true text) c.parts_of.ensures.front c.requires

pub two_tables-requires-clause-left : goal.two_tables-requires-clause-left
two_tables-requires-clause-left c =
    let text = c.args.text.now in front_few text _ (parts_of text) (is_cut true text) c.parts_of.ensures.front c.requires

pub two_tables-requires-clause-right : goal.two_tables-requires-clause-right
two_tables-requires-clause-right c =
    let text = c.args.text.now in
    back_few text _ (parts_of text) (is_cut true text)
    (ap (option_map (λ (b : Bor (List ℕ)). b.now)) (sym c.in-Some.is) ∙ c.parts_of.ensures.back) c.requires
