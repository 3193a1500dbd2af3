use Rattle.std.proofs.Common.{◌≡◌, ◌-◌, ◌∷◌, drop, sym, subst, ◌∙◌}
use Rattle.std.proofs.Math.Seq.{drop-length}
use Rattle.pol_connection_maps.specs.Named.{AreFirsts}
use Rattle.pol_connection_maps.proofs.Firsts.{first_more, none_first}
use Rattle.pol_connection_maps.proofs.Turns.{split_before}
use Rattle.pol_connection_maps.proofs.named.firsts_of.Goals as goal

pub loop-i-init : goal.loop-i-init
loop-i-init g c =
    subst (λ xs. AreFirsts g.T.IsNamed.name_of xs c.new-firsts.result) (sym (drop-length c.args.all.now))
    (none_first g.T.IsNamed.name_of c.new-firsts.result c.new-firsts.ensures.empty)

pub loop-i-preserved : goal.loop-i-preserved
loop-i-preserved g c =
    let name_of = g.T.IsNamed.name_of in
    let all = c.args.all.now in
    let i = c.loop-i.i in
    let one = c.index-all-i.result in
    let split : drop (i - 1) all ≡ one ∷ drop i all = split_before all i one c.loop-i-test.true c.loop-i.auto.i c.index-all-i.is in
    subst (λ xs. AreFirsts name_of xs c.insert.new.self) (sym split)
    (first_more name_of _ _ (drop i all) c.loop-i.firsts c.insert.new.self (c.in_ok-copy.ensures.equal ∙ c.own_name.ensures) c.in_ok-insert.ensures.updates.0 c.loop-i.invariant)
