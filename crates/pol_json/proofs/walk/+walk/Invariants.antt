use Rattle.std.proofs.Common.{◌≡◌, drop}
use Rattle.serde_json.specs.View.{items_view, members_view}
use Rattle.pol_json.specs.Places.{below_members, below_items, first_found}
use Rattle.pol_json.proofs.walk.+walk.Given as goal

-- nothing was found so far
abbrev pub invariant-walk_items-loop-index : goal.invariant-walk_items-loop-index
invariant-walk_items-loop-index l =
    first_found (below_items l.content 0 (items_view l.value-items)) ≡ first_found (below_items l.content l.index (items_view (drop l.index l.value-items)))

abbrev pub invariant-walk_members-loop-name : goal.invariant-walk_members-loop-name
invariant-walk_members-loop-name l =
    first_found (below_members l.kind (members_view l.members.entries)) ≡ first_found (below_members l.kind (members_view l.name-iterator))
