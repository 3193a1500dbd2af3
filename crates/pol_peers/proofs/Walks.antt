-- A walk over what lists peers, whose references are given back one after another.
use Rattle.std.proofs.Common.{◌≡◌, ℕ, ◌+◌, ◌<◌, ◌≤◌, List, [], ◌∷◌, ◌++◌, drop, get_or, length, ap, ◌∙◌, subst}
use Rattle.std.proofs.lemmas.List.{drop_all, drop_more}
use Rattle.pol_rule.specs.declared.policy.Peer.{Peer}
use Rattle.pol_selcache.specs.Live.{Live}
use Rattle.pol_peers.specs.References.{HasRefs, IsMoreBy}
use Rattle.pol_peers.proofs.Counts.{Left, left_end, left_has, left_next}

-- the peers of all that is walked over, those of one of it, and that the former are the latter in a row
module _ {X : Type 0} (all : List X) (peers : List X → List Peer) (one : X → List Peer) (apart : (x : X) (xs : List X) → peers (x ∷ xs) ≡ one x ++ peers xs) (i : ℕ) (old now : List Live) where
  -- the next one is the first of those that are left
  at_next : (x : X) → i < length all → get_or all i x ≡ x → Left (peers all) (peers (drop i all)) old now → Left (peers all) (one x ++ peers (drop (i + 1) all)) old now
  at_next x within is =
      subst (λ ps. Left (peers all) ps old now) (ap peers (drop_more all i x within) ∙ ap (λ y. peers (y ∷ drop (i + 1) all)) is ∙ apart x (drop (i + 1) all))

  -- its peers have their references still
  pub next_has : (x : X) → i < length all → get_or all i x ≡ x → HasRefs (peers all) old → Left (peers all) (peers (drop i all)) old now → HasRefs (one x) now
  next_has x within is has left = left_has (peers all) (one x) (peers (drop (i + 1) all)) old now has (at_next x within is left)

  -- and are left no more once these are given back
  pub next_given : (x : X) → i < length all → get_or all i x ≡ x → (new : List Live) → Left (peers all) (peers (drop i all)) old now → IsMoreBy (one x) new now
      → Left (peers all) (peers (drop (i + 1) all)) old new
  next_given x within is new left = left_next (peers all) (one x) (peers (drop (i + 1) all)) old now new (at_next x within is left)

  -- where none is left, all are given back
  pub all_given : peers [] ≡ [] → length all ≤ i → Left (peers all) (peers (drop i all)) old now → IsMoreBy (peers all) now old
  all_given none past left = left_end (peers all) old now (subst (λ ps. Left (peers all) ps old now) (ap peers (drop_all i all past) ∙ none) left)
