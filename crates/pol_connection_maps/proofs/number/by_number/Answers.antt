use Rattle.std.proofs.Common.{◌≡◌, ◌-◌, ◌∷◌, drop, sym, subst}
use Rattle.std.proofs.Math.Seq.{drop-length}
use Rattle.pol_connection_maps.specs.Maps.{AreMapsOf}
use Rattle.pol_connection_maps.proofs.Numbered.{map_more, none_mapped}
use Rattle.pol_connection_maps.proofs.Turns.{split_before}
use Rattle.pol_connection_maps.proofs.number.by_number.Goals as goal

pub loop-i-init : goal.loop-i-init
loop-i-init c =
    subst (λ xs. AreMapsOf xs c.new-table.result) (sym (drop-length c.args.maps.now)) (none_mapped c.new-table.result c.new-table.ensures.empty)

pub loop-i-preserved : goal.loop-i-preserved
loop-i-preserved c =
    let all = c.args.maps.now in
    let i = c.loop-i.i in
    let one = c.index-maps-i.result in
    let split : drop (i - 1) all ≡ one ∷ drop i all = split_before all i one c.loop-i-test.true c.loop-i.auto.i c.index-maps-i.is in
    subst (λ xs. AreMapsOf xs c.insert.new.self) (sym split)
    (map_more _ _ (drop i all) c.loop-i.table c.insert.new.self c.number.ensures c.in_ok-insert.ensures.updates.0 c.loop-i.invariant)
