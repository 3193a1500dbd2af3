-- The raw entries of a map depend on the sets of the peers that its entries list.
use Rattle.std.proofs.Common.{◌≡◌, ℕ, Bool, true, false, cond, List, [], ◌∷◌, ◌++◌, map, refl}
use Rattle.std.specs.List.{AllByRecursion, flat_map}
use Rattle.pol_ports.specs.declared.Direction.{Direction}
use Rattle.pol_ports.specs.declared.Direction.TheVariants.{Ingress, Egress}
use Rattle.pol_mapkey.specs.declared.Kind.{Kind}
use Rattle.pol_mapkey.specs.declared.Kind.TheVariants.{Allow, Deny}
use Rattle.pol_rule.specs.Covers.{has_effect}
use Rattle.pol_rule.specs.declared.policy.Entry.{Entry}
use Rattle.pol_rule.specs.declared.policy.Peer.{Peer}
use Rattle.pol_rule.specs.declared.policy.Peers.{Peers}
use Rattle.pol_rule.specs.declared.policy.Peers.TheVariants.{Every, Listed}
use Rattle.pol_model_laws.specs.MapFacts.{AgreeOnPeers, AgreeOnEntries, AgreeOnParts}
use Rattle.pol_model.specs.PolicyMap.{MapParts, peer_numbers, peers_numbers, ports_keys, entry_entries, allow_every, unenforced_entries, localhost_entries, direction_entries, raw_entries, canonical}
use Rattle.pol_model.specs.Selects.{is_all}

-- lists made from equal lists are equal
flat_map_same : {X Y : Type 0} (f g : X → List Y) (xs : List X) → AllByRecursion (λ x. f x ≡ g x) xs → flat_map f xs ≡ flat_map g xs
flat_map_same f g [] all = refl
flat_map_same f g (x ∷ xs) all = λ i. all.0 i ++ flat_map_same f g xs all.1 i

module _ (set other : Peer → List ℕ) where
  listed_same : (peers : List Peer) → AllByRecursion (λ p. is_all p ≡ false → set p ≡ other p) peers
      → AllByRecursion (λ p. peer_numbers set p ≡ peer_numbers other p) peers
  listed_same [] all = tt
  listed_same (p ∷ peers) all = (by_all p (is_all p) refl all.0, listed_same peers all.1)
    where
      by_all : (p : Peer) (b : Bool) → is_all p ≡ b → (is_all p ≡ false → set p ≡ other p) → cond b (0 ∷ []) (set p) ≡ cond b (0 ∷ []) (other p)
      by_all p true e same = refl
      by_all p false e same = same e

  numbers_same : (peers : Peers) → AgreeOnPeers set other peers → peers_numbers set peers ≡ peers_numbers other peers
  numbers_same Every agree = refl
  numbers_same (Listed peers) agree = flat_map_same (peer_numbers set) (peer_numbers other) peers (listed_same peers agree)

  entries_same : (d : Direction) (kind : Kind) (entries : List Entry) → AgreeOnEntries set other entries
      → flat_map (entry_entries set d kind) entries ≡ flat_map (entry_entries other d kind) entries
  entries_same d kind [] agree = refl
  entries_same d kind (entry ∷ entries) agree =
      (λ i. cond (has_effect entry) (flat_map (λ id. map (λ key. (key, kind)) (ports_keys d id entry.ports)) (numbers_same entry.peers agree.0 i)) []
      ++ entries_same d kind entries agree.1 i)

  direction_same : (parts : MapParts) (d : Direction) → AgreeOnParts set other parts → direction_entries set parts d ≡ direction_entries other parts d
  direction_same parts d agree =
      λ i. entries_same d Allow (parts.allows d) (agree.allows d) i ++ entries_same d Deny (parts.denies d) (agree.denies d) i
      ++ unenforced_entries parts d ++ localhost_entries parts d

  pub map_same : (parts : MapParts) → AgreeOnParts set other parts → canonical (raw_entries set parts) ≡ canonical (raw_entries other parts)
  map_same parts agree =
      λ i. canonical (cond parts.never (allow_every Ingress 0 ∷ allow_every Egress 0 ∷ [])
      (direction_same parts Ingress agree i ++ direction_same parts Egress agree i))
