use Rattle.std.proofs.Common.{◌≡◌, ◌-◌, ◌∷◌, drop, map, sym, ap, subst, ◌∙◌}
use Rattle.std.proofs.Math.Seq.{drop-length}
use Rattle.std.specs.BTreeMap.{insert_entry}
use Rattle.std.specs.Cmp.Lexicographic.{slice_cmp}
use Rattle.std.specs.List.{IsDistinct}
use Rattle.std.specs.Ordering.{nat_cmp}
use Rattle.std.specs.Str.{bytes_eq}
use Rattle.pol_model.specs.declared.row.Endpoint.{Endpoint}
use Rattle.pol_connections.specs.Ends.{by_name}
use Rattle.pol_connection_maps.proofs.Ordered.{apart_drop, none_yet, one_more}
use Rattle.pol_connection_maps.proofs.Turns.{split_before}
use Rattle.pol_connection_maps.proofs.names.numbers_by_name.Goals as goal

pub loop-i-init : goal.loop-i-init
loop-i-init c =
    none_yet (λ (e : Endpoint). e.name) (λ (e : Endpoint). e.identity) c.new-numbers.result.entries c.new-numbers.ensures.empty
    ∙ ap (λ es. map (λ (e : Endpoint). (e.name, e.identity)) (by_name (λ (e : Endpoint). e.name) es)) (sym (drop-length c.args.endpoints.now))

pub loop-i-preserved : goal.loop-i-preserved
loop-i-preserved c =
    let all = c.args.endpoints.now in
    let i = c.loop-i.i in
    let e = c.index-endpoints-i.result in
    let split : drop (i - 1) all ≡ e ∷ drop i all = split_before all i e c.loop-i-test.true c.loop-i.auto.i c.index-endpoints-i.is in
    let apart = subst (λ es. IsDistinct bytes_eq (map (λ (e : Endpoint). e.name) es)) split (apart_drop (λ (e : Endpoint). e.name) (i - 1) all c.requires) in
    c.in_ok-insert.ensures.entries
    ∙ (λ j. insert_entry (slice_cmp nat_cmp) c.loop-i.numbers.entries (c.in_ok-copy.ensures.equal j) e.identity)
    ∙ one_more (λ (e : Endpoint). e.name) (λ (e : Endpoint). e.identity) e (drop i all) c.loop-i.numbers.entries apart c.loop-i.invariant
    ∙ ap (λ es. map (λ (e : Endpoint). (e.name, e.identity)) (by_name (λ (e : Endpoint). e.name) es)) (sym split)
