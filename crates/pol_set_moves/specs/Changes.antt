-- The changes of sets that the requests of a journal make, and from which revision on they are kept ('profile').
use Rattle.std.specs.Prelude.{ℕ, zero, suc, ◌≡◌, ◌≤◌, not, nat_eq, Bool, true, List, [], ◌++◌, filter, length, replicate, slice_get, take}
use Rattle.std.specs.Cmp.Lexicographic.{pointwise}
use Rattle.std.specs.List.{list_any}
use Rattle.std.specs.Option.{option_map_or}
use Rattle.std.specs.Set.{distinct_count}
use Rattle.pol_rule.specs.contracts.policy.PeerPartialEq.TheImpl as peer
use Rattle.pol_rule.specs.declared.policy.Peer.{Peer}
use Rattle.pol_model.specs.declared.options.Options.{Options}
use Rattle.pol_model.specs.declared.request.Request.{Request}
use Rattle.pol_model.specs.After.{state_of}
use Rattle.pol_model.specs.Selects.{set_at}
use Rattle.pol_model.specs.State.{State}
use Rattle.pol_store.specs.Store.{peers_of}

-- the state after so many of the requests
abbrev pub state_at : Options → List Request → ℕ → State
state_at options journal revision = state_of options (take revision journal)

-- a policy of the state lists the peer
abbrev pub is_listed : State → Peer → Bool
is_listed s p = list_any (peer.ghosts.eq p) (peers_of s.policies)

-- the numbers that the peer selects in the state
abbrev pub set_in : State → Peer → List ℕ
set_in s p = set_at s.identities p

-- the peer's set is another one in the other state
abbrev pub differs : State → State → Peer → Bool
differs s t p = not (pointwise nat_eq (set_in s p) (set_in t p))

-- how many sets change from the one state to the other, of the distinct peers that policies list in either
abbrev pub changes_between : State → State → ℕ
changes_between s t = distinct_count peer.ghosts.eq (filter (differs s t) (peers_of s.policies ++ peers_of t.policies))

-- the revisions of the changes that the first requests make, newest first
abbrev pub revisions_until : Options → List Request → ℕ → List ℕ
revisions_until options journal zero = []
revisions_until options journal (suc revision) =
    replicate (changes_between (state_at options journal revision) (state_at options journal (suc revision))) (suc revision)
    ++ revisions_until options journal revision

-- the revision of the change that exactly so many follow, or 0
abbrev pub revision_before : ℕ → List ℕ → ℕ
revision_before many revisions = option_map_or (λ revision. revision) (slice_get revisions many) 0

-- the revision of the change that exactly 65,536 follow, or 0
abbrev pub horizon_of : Options → List Request → ℕ
horizon_of options journal = revision_before 65536 (revisions_until options journal (length journal))

-- the peer is listed in each state from the revision to the present
abbrev pub IsListedSince : Options → List Request → ℕ → Peer → Type 0
IsListedSince options journal since p =
    (revision : ℕ) → since ≤ revision → revision ≤ length journal → is_listed (state_at options journal revision) p ≡ true
