-- The first passes have been shown the history, each keeps its number, and the history stays.
use Rattle.std.proofs.Common.{◌≡◌, map}
use Rattle.pol_history.proofs.Meetings.{FirstMet}
use Rattle.pol_node.proofs.desk.Desk.meet.Given as goal

abbrev pub invariant-loop-k : goal.invariant-loop-k
invariant-loop-k g l =
    FirstMet g.N.NodeName.options l.initial.self.writer.seen l.k l.initial.passes l.passes
    × (map (λ pass. pass.number) l.passes ≡ map (λ pass. pass.number) l.initial.passes)
    × (l.self.writer.seen ≡ l.initial.self.writer.seen)
