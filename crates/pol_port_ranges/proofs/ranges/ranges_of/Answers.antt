use Rattle.std.proofs.Common.{◌++◌, ap, ◌∙◌}
use Rattle.pol_port_ranges.specs.Walk.{walk}
use Rattle.pol_port_ranges.proofs.Turns.{all_walked}
use Rattle.pol_port_ranges.proofs.ranges.ranges_of.Goals as goal

pub returns : goal.returns
returns c = λ f rest is are steady.
    c.in_ok-push_said.ensures f are ∙ ap (λ xs. xs ++ walk f 0 c.args.ports.now) c.new-out.ensures.items ∙ all_walked f c.args.ports.now rest is steady
