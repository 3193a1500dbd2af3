-- When a table finds the first row of each peer.
use Rattle.std.specs.Prelude.{◌≡◌, ℕ, List, find, option_map}
use Rattle.std.proofs.Common.{Bor}
use Rattle.std.specs.Arc.{arc_value}
use Rattle.std.specs.HashMap.{HashMap, get_by}
use Rattle.pol_rule.specs.contracts.policy.PeerPartialEq.TheImpl as peers
use Rattle.pol_rule.specs.declared.policy.Peer.{Peer}
use Rattle.pol_sets.specs.declared.sets.SetRow.{SetRow}
use Rattle.pol_sets.specs.Sets.{is_row_of}

-- the table has for each peer the set of its first row
abbrev pub IsIndexOf : {S : Type 0} → HashMap (Bor Peer) (Bor (List ℕ)) S → List SetRow → Type 0
IsIndexOf table rows =
    (p : Peer) → option_map (λ (set : Bor (List ℕ)). set.now) (get_by (λ (k : Bor Peer). peers.ghosts.eq p k.now) table)
    ≡ option_map (λ (row : SetRow). arc_value row.set) (find (is_row_of p) rows)
