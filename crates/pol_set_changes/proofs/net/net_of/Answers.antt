use Rattle.std.proofs.Common.{◌∙◌}
use Rattle.pol_set_changes.specs.Net.{surplus}
use Rattle.pol_set_changes.proofs.Surplus.{surplus-permuted}
use Rattle.pol_set_changes.proofs.net.net_of.Goals as goal

pub returns : goal.returns
returns c =
    let gained = c.in_ok-surplus.ensures
    ∙ (λ i. surplus (c.as_slice.ensures.value i) (c.as_slice-2.ensures.value i))
    ∙ surplus-permuted c.args.came.items c.sort.new.self.items c.args.went.items c.sort-2.new.self.items c.sort.ensures.permutation c.sort-2.ensures.permutation in
    let lost = c.in_ok-surplus-2.ensures
    ∙ (λ i. surplus (c.as_slice-3.ensures.value i) (c.as_slice-4.ensures.value i))
    ∙ surplus-permuted c.args.went.items c.sort-2.new.self.items c.args.came.items c.sort.new.self.items c.sort-2.ensures.permutation c.sort.ensures.permutation in
    λ i. record { selector = c.args.selector; gained = gained i; lost = lost i }
