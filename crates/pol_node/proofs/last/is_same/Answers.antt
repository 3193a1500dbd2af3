-- Two histories of which each begins the other are one.
use Rattle.std.proofs.Common.{Bool, MatchBool, ◌<◌, length, subst}
use mathlib.Core.List.{IsPrefix}
use Rattle.pol_history.proofs.Beginnings.{prefix_length, prefix_whole}
use Rattle.pol_node.proofs.last.is_same.Goals as goal

pub returns : goal.returns
returns g c begins =
    let one = c.args.one.now in
    let other = c.args.other.now in
    let back : IsPrefix other one = subst (λ (b : Bool). MatchBool b (IsPrefix other one) (length one < length other)) begins c.begins-2.ensures in
    prefix_whole one other c.if-not-begins.ensures (prefix_length other one back)
