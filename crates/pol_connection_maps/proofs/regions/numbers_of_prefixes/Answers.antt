use Rattle.std.proofs.Common.{drop, sym, subst}
use Rattle.std.proofs.Math.Seq.{drop-length}
use Rattle.pol_connection_maps.specs.Named.{AreNumbersOf}
use Rattle.pol_connection_maps.proofs.Around.{no_numbers}
use Rattle.pol_connection_maps.proofs.Turns.{split_before}
use Rattle.pol_connection_maps.proofs.regions.numbers_of_prefixes.Goals as goal

pub loop-i-init : goal.loop-i-init
loop-i-init c =
    subst (λ rows. AreNumbersOf rows c.new-numbers.result) (sym (drop-length c.args.identities.now)) (no_numbers c.new-numbers.result c.new-numbers.ensures.empty)

pub loop-i-preserved : goal.loop-i-preserved
loop-i-preserved c =
    let all = c.args.identities.now in
    let i = c.loop-i.i in
    let row = c.index-identities-i.result in
    subst (λ rows. AreNumbersOf rows c.put_number.new.numbers) (sym (split_before all i row c.loop-i-test.true c.loop-i.auto.i c.index-identities-i.is))
    (c.in_ok-put_number.ensures (drop i all) c.loop-i.invariant)
