-- The references of all policies' peers, as a policy comes or goes.
use Rattle.std.proofs.Common.{◌≡◌, ℕ, ◌+◌, List, [], ◌∷◌, ◌++◌, map, Option, None, Some, refl, sym, ap, ◌∙◌, arith}
use Rattle.std.specs.List.{IsDistinct, sum_by}
use Rattle.std.proofs.lemmas.List.Sums.{sum_by-cons}
use Rattle.pol_rule.specs.declared.policy.Peer.{Peer}
use Rattle.pol_rule.specs.declared.policy.PolicyKey.{PolicyKey}
use Rattle.pol_rule.specs.Keys.{same_key}
use Rattle.pol_model.specs.declared.row.Stamped.{Stamped}
use Rattle.pol_model.specs.Policies.{applied, policy_at, removed}
use Rattle.pol_model_laws.proofs.Distinct.{removed_sum}
use Rattle.pol_model_laws.proofs.PolicyHolders.{applied_sum, same_key-Decides, sum_at}
use Rattle.pol_selcache.specs.Live.{Live}
use Rattle.pol_rule.specs.Listed.{listed_peers}
use Rattle.pol_peers.specs.References.{RefsOf, references_of, times_in}
use Rattle.pol_peers.proofs.Counts.{times_append}
use Rattle.pol_store.specs.PolicyParts.{listed_of}
use Rattle.pol_store.specs.Store.{peers_of}

-- how often a policy lists the peer
abbrev times_listed : Peer → Stamped → ℕ
times_listed p stamped = times_in p (listed_peers stamped.policy)

times_of : (p : Peer) (policies : List Stamped) → times_in p (peers_of policies) ≡ sum_by (times_listed p) policies
times_of p [] = refl
times_of p (stamped ∷ others) =
    times_append p (listed_peers stamped.policy) (peers_of others)
    ∙ ap (λ n. times_listed p stamped + n) (times_of p others)
    ∙ sym (sum_by-cons (times_listed p) stamped others)

times_at : (p : Peer) (o : Option Stamped) → times_in p (listed_of o) ≡ sum_at (times_listed p) o
times_at p None = refl
times_at p (Some stamped) = refl

-- a policy that is applied: the peers of the one that it replaces are too many
moved : (refs new others old now all left : ℕ) → refs ≡ new + others → others ≡ all → left + old ≡ all + new → now ≡ left → refs ≡ old + now
moved refs new others old now all left counts them sum its = omega (arith, counts, them, sum, its)

pub refs_applied : (new : Stamped) (policies : List Stamped) (live : List Live) → RefsOf (listed_peers new.policy ++ peers_of policies) live
    → RefsOf (listed_of (policy_at new.policy.key policies) ++ peers_of (applied new policies)) live
refs_applied new policies live refs p =
    let old = policy_at new.policy.key policies in
    moved (references_of p live) (times_listed p new) (times_in p (peers_of policies)) (sum_at (times_listed p) old)
    (times_in p (peers_of (applied new policies))) (sum_by (times_listed p) policies) (sum_by (times_listed p) (applied new policies))
    (refs p ∙ times_append p (listed_peers new.policy) (peers_of policies)) (times_of p policies) (applied_sum (times_listed p) new policies) (times_of p (applied new policies))
    ∙ ap (λ n. n + times_in p (peers_of (applied new policies))) (sym (times_at p old))
    ∙ sym (times_append p (listed_of old) (peers_of (applied new policies)))

-- and one that is removed
pub refs_removed : (key : PolicyKey) (policies : List Stamped) (old : Stamped) (live : List Live) → IsDistinct same_key (map (λ stamped. stamped.policy.key) policies) → policy_at key policies ≡ Some old
    → RefsOf (peers_of policies) live → RefsOf (listed_peers old.policy ++ peers_of (removed key policies)) live
refs_removed key policies old live differ found refs p =
    taken (references_of p live) (times_listed p old) (times_in p (peers_of (removed key policies))) (sum_by (times_listed p) policies) (sum_by (times_listed p) (removed key policies))
    (refs p ∙ times_of p policies) (removed_sum (λ stamped. stamped.policy.key) same_key-Decides (times_listed p) key old policies differ found) (times_of p (removed key policies))
    ∙ sym (times_append p (listed_peers old.policy) (peers_of (removed key policies)))
  where
    taken : (refs old now all left : ℕ) → refs ≡ all → left + old ≡ all → now ≡ left → refs ≡ old + now
    taken refs old now all left counts sum its = omega (arith, counts, sum, its)
