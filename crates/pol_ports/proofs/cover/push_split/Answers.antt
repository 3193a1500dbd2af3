use Rattle.std.proofs.Common.{◌≡◌, ◌++◌, List, OnOk, sym, subst}
use Rattle.pol_ports.specs.declared.PortPrefix.{PortPrefix}
use Rattle.pol_ports.proofs.SplitLaws.{split_is_parts}
use Rattle.pol_ports.proofs.cover.push_split.Goals as goal

pub returns : goal.returns
returns c =
    subst (λ (parts : List PortPrefix). OnOk c.push_parts.result (c.push_parts.new.parts.items ≡ c.args.parts.now.items ++ parts))
    (sym (split_is_parts c.args.range)) c.push_parts.ensures
