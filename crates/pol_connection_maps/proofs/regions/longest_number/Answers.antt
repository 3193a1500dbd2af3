use Rattle.std.proofs.Common.{◌≡◌, ◌≤◌, ◌+◌, ◌-◌, ℕ, option_map, sym, ap, ◌∙◌, arith}
use Rattle.pol_addr.specs.declared.network.Prefix.{Prefix}
use Rattle.pol_model.specs.Remote.{numbered_prefixes}
use Rattle.pol_connection_maps.proofs.Around.{none_of, over_all, over_below, over_none, step_found, step_none}
use Rattle.pol_connection_maps.proofs.regions.longest_number.Goals as goal

pub loop-len-init : goal.loop-len-init
loop-len-init c = λ rows are.
    let region = c.args.region.now in
    sym (ap (λ n. over_below region (n + 1) (numbered_prefixes rows)) c.len-len.ensures.value ∙ over_all region (numbered_prefixes rows))

pub returns-in-Some : goal.returns-in-Some
returns-in-Some c = λ rows are.
    let region = c.args.region.now in
    let len = c.loop-len.len in
    let es = numbered_prefixes rows in
    let next : len - 1 + 1 ≡ len = omega (arith, c.loop-len-test.true) in
    let within : len - 1 ≤ region.len = omega (arith, c.loop-len.auto.len, c.len-len.ensures.value) in
    step_found region (len - 1) within es _ (sym c.in-Some.is ∙ c.number_around.ensures rows are)
    ∙ ap (λ n. option_map (λ (e : Prefix × ℕ). e.1) (over_below region n es)) next
    ∙ sym (ap (λ o. option_map (λ (e : Prefix × ℕ). e.1) o) (c.loop-len.invariant rows are))

pub loop-len-preserved : goal.loop-len-preserved
loop-len-preserved c = λ rows are.
    let region = c.args.region.now in
    let len = c.loop-len.len in
    let es = numbered_prefixes rows in
    let next : len - 1 + 1 ≡ len = omega (arith, c.loop-len-test.true) in
    let within : len - 1 ≤ region.len = omega (arith, c.loop-len.auto.len, c.len-len.ensures.value) in
    c.loop-len.invariant rows are
    ∙ ap (λ n. over_below region n es) (sym next)
    ∙ step_none region (len - 1) within es (sym (none_of c.number_around.result c.in_default.not-Some) ∙ c.number_around.ensures rows are)

pub returns : goal.returns
returns c = λ rows are.
    let region = c.args.region.now in
    let es = numbered_prefixes rows in
    let zero : c.loop-len.len ≡ 0 = omega (arith, c.loop-len-test.false) in
    sym (ap (λ o. option_map (λ (e : Prefix × ℕ). e.1) o) (c.loop-len.invariant rows are ∙ ap (λ n. over_below region n es) zero ∙ over_none region es))
