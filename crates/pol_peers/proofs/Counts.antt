-- References that are counted by lists of peers: how holds and drops join.
use Rattle.std.proofs.Common.{◌≡◌, ◌+◌, cond, List, [], ◌++◌, arith}
use Rattle.std.proofs.lemmas.List.Sums.{sum_by-append}
use Rattle.pol_rule.specs.contracts.policy.PeerPartialEq.TheImpl as peers
use Rattle.pol_rule.specs.declared.policy.Peer.{Peer}
use Rattle.pol_selcache.specs.Live.{Live}
use Rattle.pol_peers.specs.References.{HasRefs, IsMoreBy, RefsOf, references_of, times_in}

pub times_append : (p : Peer) (xs ys : List Peer) → times_in p (xs ++ ys) ≡ times_in p xs + times_in p ys
times_append p xs ys = sum_by-append (λ q. cond (peers.ghosts.eq p q) 1 0) xs ys

pub more_joined : (xs ys : List Peer) (one two three : List Live) → IsMoreBy xs one two → IsMoreBy ys two three → IsMoreBy (xs ++ ys) one three
more_joined xs ys one two three first second p = omega (arith, first p, second p, times_append p xs ys)

-- what is more, and then less by as much
pub undone : (xs : List Peer) (one two three : List Live) → IsMoreBy xs one two → IsMoreBy xs three two → IsMoreBy [] one three
undone xs one two three more less p = omega (arith, more p, less p)

pub has_more : (xs : List Peer) (live more : List Live) → IsMoreBy xs live more → HasRefs xs more
has_more xs live more is p = omega (arith, is p)

-- ---- who keeps references for many
pub refs_held : (xs held : List Peer) (old new : List Live) → RefsOf held old → IsMoreBy xs old new → RefsOf (xs ++ held) new
refs_held xs held old new refs more p = omega (arith, refs p, more p, times_append p xs held)

pub refs_may_drop : (xs held : List Peer) (live : List Live) → RefsOf (xs ++ held) live → HasRefs xs live
refs_may_drop xs held live refs p = omega (arith, refs p, times_append p xs held)

pub refs_dropped : (xs held : List Peer) (old new : List Live) → RefsOf (xs ++ held) old → IsMoreBy xs new old → RefsOf held new
refs_dropped xs held old new refs more p = omega (arith, refs p, more p, times_append p xs held)

-- ---- what is left to drop
-- Of all that are dropped these are left: the others are gone already.
abbrev pub Left : List Peer → List Peer → List Live → List Live → Type 0
Left all left old now = (p : Peer) → references_of p old + times_in p left ≡ references_of p now + times_in p all

pub left_end : (all : List Peer) (old now : List Live) → Left all [] old now → IsMoreBy all now old
left_end all old now is p = omega (arith, is p)

pub left_has : (all xs ys : List Peer) (old now : List Live) → HasRefs all old → Left all (xs ++ ys) old now → HasRefs xs now
left_has all xs ys old now has is p = omega (arith, has p, is p, times_append p xs ys)

pub left_next : (all xs ys : List Peer) (old now next : List Live) → Left all (xs ++ ys) old now → IsMoreBy xs next now → Left all ys old next
left_next all xs ys old now next is less p = omega (arith, is p, less p, times_append p xs ys)
