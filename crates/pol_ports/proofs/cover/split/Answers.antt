-- The list is the split of the range, and each clause is a law of the split.
use Rattle.std.proofs.Common.{◌≡◌, ◌≤◌, true, List, length, sym, subst, ◌↔◌, arith}
use Rattle.std.specs.List.{Contains, AllPairs}
use Rattle.pol_ports.specs.declared.PortPrefix.{PortPrefix}
use Rattle.pol_ports.specs.PortPrefix.{Precedes}
use Rattle.pol_ports.specs.Split.{is_part, CoversExactly}
use Rattle.pol_ports.proofs.SplitLaws.{split_ascends, split_covers, split_few, split_least, split_parts, split_from}
use Rattle.pol_ports.proofs.cover.split.Goals as goal

pub returns-clause-split : goal.returns-clause-split
returns-clause-split c =
    split_from c.args.range c.new-parts.result.items c.push_split.new.parts.items c.new-parts.ensures.items c.in_ok-push_split.ensures

pub returns-clause-parts : goal.returns-clause-parts
returns-clause-parts c =
    let P : List PortPrefix → Type 0 = λ xs. (p : PortPrefix) → Contains xs p ↔ (is_part c.args.range p ≡ true) in
    subst P (sym (returns-clause-split c)) (split_parts c.args.range (omega arith))

pub returns-clause-ascending : goal.returns-clause-ascending
returns-clause-ascending c =
    let P : List PortPrefix → Type 0 = λ xs. AllPairs Precedes xs in
    subst P (sym (returns-clause-split c)) (split_ascends c.args.range)

pub returns-clause-exact : goal.returns-clause-exact
returns-clause-exact c =
    let P : List PortPrefix → Type 0 = λ xs. CoversExactly c.args.range xs in
    subst P (sym (returns-clause-split c)) (split_covers c.args.range)

pub returns-clause-few : goal.returns-clause-few
returns-clause-few c =
    let P : List PortPrefix → Type 0 = λ xs. length xs ≤ 30 in
    subst P (sym (returns-clause-split c)) (split_few c.args.range)

pub returns-clause-least : goal.returns-clause-least
returns-clause-least c =
    let P : List PortPrefix → Type 0 = λ xs. (other : List PortPrefix) → CoversExactly c.args.range other → length xs ≤ length other in
    subst P (sym (returns-clause-split c)) (split_least c.args.range)
