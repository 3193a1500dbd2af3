-- One pass after another is shown the history.
use Rattle.std.proofs.Common.{◌≡◌, ◌≤◌, length, Some, refl, ◌∙◌, arith}
use Rattle.std.specs.List.{slice_get, slice_index_or}
use Rattle.std.proofs.Math.Seq.{map-set_same}
use Rattle.std.proofs.lemmas.Option.{slice_get-get_or}
use Rattle.pol_history.specs.Grows.{PassState}
use Rattle.pol_history.proofs.Meetings.{all_met, next_met, none_met}
use Rattle.pol_node.proofs.desk.Desk.meet.Goals as goal

pub loop-k-init : goal.loop-k-init
loop-k-init g c = (none_met g.N.NodeName.options c.args.self.now.writer.seen c.args.passes.now, refl, refl)

pub loop-k-preserved : goal.loop-k-preserved
loop-k-preserved g c =
    let i = c.loop-k.invariant in let k = c.loop-k.k in let passes = c.loop-k.passes in
    let pass = slice_index_or passes k c.index-passes-k.result in
    let at : slice_get passes k ≡ Some pass = slice_get-get_or passes k c.index-passes-k.result (omega (arith, c.loop-k-test.true, c.loop-k.auto.passes)) in (
      next_met g.N.NodeName.options c.args.self.now.writer.seen k c.args.passes.now passes pass c.show.new.pass i.0 at
          (record { grows = c.show.ensures.grows.whole; all = c.show.ensures.all ∙ c.show.ensures.same ∙ i.2 }),
      map-set_same (λ (p : PassState). p.number) passes k c.show.new.pass c.index-passes-k.result c.show.ensures.grows.number ∙ i.1,
      c.show.ensures.same ∙ i.2,
    )

pub returns-clause-met : goal.returns-clause-met
returns-clause-met g c =
    let all : length c.loop-k.passes ≤ c.loop-k.k = omega (arith, c.loop-k-test.false, c.loop-k.auto.passes) in
    all_met g.N.NodeName.options g.N.NodeName.passes c.args.self.now.writer.seen c.loop-k.k c.args.passes.now c.loop-k.passes c.args.self.now.ours all c.loop-k.invariant.0

pub returns-clause-numbers : goal.returns-clause-numbers
returns-clause-numbers g c = c.loop-k.invariant.1

pub returns-clause-stays : goal.returns-clause-stays
returns-clause-stays g c = c.loop-k.invariant.2
