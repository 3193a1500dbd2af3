use Rattle.std.proofs.Common.{◌≡◌, map}
use Rattle.serde_json.specs.View.{members_view}
use Rattle.pol_script.specs.Members.{known_members}
use Rattle.pol_script.proofs.members.check_members.Given as goal

-- the members so far are known
abbrev pub invariant-loop-name : goal.invariant-loop-name
invariant-loop-name l =
    known_members (map (λ n. n.now) l.names) (members_view l.members.entries) ≡ known_members (map (λ n. n.now) l.names) (members_view l.name-iterator)
