-- One reference more, and one less, as the cache gives them.
use Rattle.std.proofs.Common.{◌≡◌, ℕ, cond, List, [], ◌∷◌, find, Option, Some, None, option_map, refl, ap, ◌∙◌, arith}
use Rattle.pol_rule.specs.declared.policy.Peer.{Peer}
use Rattle.pol_model.specs.declared.row.IdentityRow.{IdentityRow}
use Rattle.pol_model.specs.Selects.{set_at}
use Rattle.pol_selcache.specs.Cache.{Cache, added, added_by}
use Rattle.pol_selcache.specs.Live.{AreLive, Live, number_of, without_reference}
use Rattle.pol_peers.specs.References.{HasRefs, IsMoreBy, references_of, times_in}
use Rattle.pol_peers.proofs.Found.{found_none, is_of, one_time, peer_itself, refs, references_less, references_more, references_new}

-- a peer that has a reference has a selector
pub has_selector : (p : Peer) (live : List Live) → HasRefs (p ∷ []) live → number_of p live ≡ None → ⊥
has_selector p live has none =
    let one : times_in p (p ∷ []) ≡ 1 = one_time p p ∙ ap (λ b. cond b 1 0) (peer_itself p) in
    omega (arith, has p, one, nothing (find (is_of p) live) refl none)
  where
    nothing : (o : Option Live) → find (is_of p) live ≡ o → option_map (λ s. s.number) o ≡ None → references_of p live ≡ 0
    nothing None at none = ap refs at
    nothing (Some s) at none = absurd cc

-- one reference more
pub added_more : (p : Peer) (rows : List IdentityRow) (cache : Cache) → AreLive cache.live → IsMoreBy (p ∷ []) cache.live (added p rows cache).live
added_more p rows cache are = by (number_of p cache.live) refl
  where
    by : (o : Option ℕ) → number_of p cache.live ≡ o → IsMoreBy (p ∷ []) cache.live (added_by o p rows cache).live
    by (Some number) is q = references_more cache.live are p number is q
    by None is q = references_new cache.live (record { number = cache.next; peer = p; references = 1; set = set_at rows p }) refl (found_none p cache.live is) q

pub added_log : (p : Peer) (rows : List IdentityRow) (cache : Cache) → (added p rows cache).log ≡ cache.log
added_log p rows cache = by (number_of p cache.live)
  where
    by : (o : Option ℕ) → (added_by o p rows cache).log ≡ cache.log
    by (Some number) = refl
    by None = refl

-- and one less
pub dropped_less : (p : Peer) (number : ℕ) (live : List Live) → AreLive live → number_of p live ≡ Some number → IsMoreBy (p ∷ []) (without_reference number live) live
dropped_less p number live are is q = references_less live are p number is q
