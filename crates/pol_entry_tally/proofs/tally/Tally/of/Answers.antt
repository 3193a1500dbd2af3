use Rattle.std.proofs.Common.{subst}
use Rattle.pol_entry_tally.specs.Counted.{IsTurnedTo}
use Rattle.pol_entry_tally.proofs.Whole.{filled_counts}
use Rattle.pol_entry_tally.proofs.tally.Tally.of.Goals as goal

pub returns : goal.returns
returns c = record {
  order = c.in_ok-fill.ensures.order;
  counts = filled_counts c.none-tally.result c.fill.new.tally c.in_ok-turns.turns.items c.args.entries.now
      (subst (λ ts. IsTurnedTo c.none-tally.result ts c.fill.new.tally) c.deref.ensures.value c.in_ok-fill.ensures.ok)
      c.in_ok-turns.ensures.come c.in_ok-turns.ensures.gone c.in_ok-turns.ensures.fit_come c.none-tally.ensures;
}
