-- The ports of all raw entries are ports.
use Rattle.std.proofs.Common.{zero, suc, ℕ, ◌+◌, ◌-◌, ◌^◌, ◌<◌, ◌≤◌, Bool, true, false, cond, ◌&&◌, List, [], ◌∷◌, ◌++◌, map, min, arith}
use Rattle.std.proofs.lemmas.Nat.{pow_pos}
use Rattle.std.proofs.Math.Nat.{div-mul-le_self, two-pow-succ}
use Rattle.std.specs.List.{AllByRecursion, flat_map}
use Rattle.pol_data.proofs.Every.{every-append, every-flat_map, every-kept, every-map}
use Rattle.pol_ports.specs.PortPrefix.{prefix_at}
use Rattle.pol_ports.specs.Split.{is_part, parts_within, prefixes_within, split_of}
use Rattle.pol_ports.specs.declared.Direction.{Direction}
use Rattle.pol_ports.specs.declared.Direction.TheVariants.{Ingress, Egress}
use Rattle.pol_ports.specs.declared.PortPrefix.{PortPrefix}
use Rattle.pol_ports.specs.declared.PortRange.{PortRange}
use Rattle.pol_ports.specs.declared.Proto.{Proto}
use Rattle.pol_mapkey.specs.MapKey.{every_key, port_key}
use Rattle.pol_mapkey.specs.Entries.{Entry as MapEntry}
use Rattle.pol_mapkey.specs.declared.Kind.{Kind}
use Rattle.pol_mapkey.specs.declared.Kind.TheVariants.{Allow, Deny}
use Rattle.pol_mapkey.specs.declared.MapKey.{MapKey}
use Rattle.pol_rule.specs.Covers.{has_effect}
use Rattle.pol_rule.specs.declared.policy.Entry.{Entry}
use Rattle.pol_rule.specs.declared.policy.Peer.{Peer}
use Rattle.pol_rule.specs.declared.policy.PortSpec.{PortSpec}
use Rattle.pol_model.specs.PolicyMap.{MapParts, allow_every, direction_entries, entry_entries, localhost_entries, peers_numbers, ports_keys, protos_of, raw_entries, spec_keys, unenforced_entries}
use Rattle.pol_model.specs.Verdict.{is_ingress}
use Rattle.pol_distill.specs.Sorted.{IsSmall}

all_of : {X : Type 0} (P : X → Type 0) → ((x : X) → P x) → (xs : List X) → AllByRecursion P xs
all_of P holds [] = tt
all_of P holds (x ∷ xs) = (holds x, all_of P holds xs)

-- prefixes in a block begin before its end
floor_below : (n first len : ℕ) → first < n → (prefix_at first len).bits < n
floor_below n first len below = omega (arith, div-mul-le_self first (2 ^ (16 - min len 16)), below)

within_below : (n height first : ℕ) → first + 2 ^ height ≤ n → AllByRecursion (λ (p : PortPrefix). p.bits < n) (prefixes_within height first)
unfolding prefixes_within
within_below n zero first end = (floor_below n first 16 (omega arith), tt)
within_below n (suc height) first end =
    let pos = pow_pos height in
    let double = two-pow-succ height in (
      floor_below n first (16 - suc height) (omega arith),
      every-append (λ (p : PortPrefix). p.bits < n) (prefixes_within height first) (prefixes_within height (first + 2 ^ height))
          (within_below n height first (omega arith)) (within_below n height (first + 2 ^ height) (omega arith)),
    )

split_small : (range : PortRange) → AllByRecursion (λ (p : PortPrefix). p.bits < 2 ^ 16) (split_of range)
unfolding split_of parts_within
split_small range = every-kept (λ (p : PortPrefix). p.bits < 2 ^ 16) (is_part range) (prefixes_within 16 0) (within_below (2 ^ 16) 16 0 (omega arith))

IsSmallKey : MapKey → Type 0
IsSmallKey key = key.port.bits < 2 ^ 16

spec_small : (dir : Direction) (id : ℕ) (spec : PortSpec) → AllByRecursion IsSmallKey (spec_keys dir id spec)
unfolding IsSmallKey
spec_small dir id spec =
    every-flat_map IsSmallKey (λ proto. map (port_key dir id proto) (split_of spec.range)) (protos_of spec.proto)
    (all_of _ (λ (proto : Proto). every-map IsSmallKey (port_key dir id proto) (split_of spec.range) (split_small spec.range)) (protos_of spec.proto))

every_small : (dir : Direction) (id : ℕ) → IsSmallKey (every_key dir id)
unfolding IsSmallKey
every_small dir id = omega arith

ports_small : (dir : Direction) (id : ℕ) (ports : List PortSpec) → AllByRecursion IsSmallKey (ports_keys dir id ports)
ports_small dir id [] = (every_small dir id, tt)
ports_small dir id (spec ∷ specs) = every-flat_map IsSmallKey (spec_keys dir id) (spec ∷ specs) (all_of _ (spec_small dir id) (spec ∷ specs))

every_entry_small : (dir : Direction) (id : ℕ) → IsSmall (allow_every dir id)
unfolding IsSmallKey
every_entry_small dir id = every_small dir id

chosen : (P : MapEntry → Type 0) (b : Bool) (xs ys : List MapEntry) → AllByRecursion P xs → AllByRecursion P ys → AllByRecursion P (cond b xs ys)
chosen P true xs ys front back = front
chosen P false xs ys front back = back

module _ (set : Peer → List ℕ) where
  entry_small : (dir : Direction) (kind : Kind) (entry : Entry) → AllByRecursion IsSmall (entry_entries set dir kind entry)
  unfolding IsSmallKey
  entry_small dir kind entry =
      chosen IsSmall (has_effect entry) _ [] (every-flat_map IsSmall _ (peers_numbers set entry.peers)
      (all_of _ (λ (id : ℕ). every-map IsSmall (λ key. (key, kind)) (ports_keys dir id entry.ports) (ports_small dir id entry.ports)) (peers_numbers set entry.peers))) tt

  direction_small : (parts : MapParts) (dir : Direction) → AllByRecursion IsSmall (direction_entries set parts dir)
  direction_small parts dir =
      let allows = flat_map (entry_entries set dir Allow) (parts.allows dir) in
      let denies = flat_map (entry_entries set dir Deny) (parts.denies dir) in
      let open' = unenforced_entries parts dir in
      every-append IsSmall (allows ++ denies ++ open') (localhost_entries parts dir)
      (every-append IsSmall (allows ++ denies) open'
      (every-append IsSmall allows denies
      (every-flat_map IsSmall _ (parts.allows dir) (all_of _ (entry_small dir Allow) (parts.allows dir)))
      (every-flat_map IsSmall _ (parts.denies dir) (all_of _ (entry_small dir Deny) (parts.denies dir))))
      (chosen IsSmall (parts.enforced dir) [] (allow_every dir 0 ∷ []) tt (every_entry_small dir 0, tt)))
      (chosen IsSmall (is_ingress dir && parts.localhost) (allow_every dir 1 ∷ []) [] (every_entry_small dir 1, tt) tt)

  pub raw_small : (parts : MapParts) → AllByRecursion IsSmall (raw_entries set parts)
  raw_small parts =
      chosen IsSmall parts.never (allow_every Ingress 0 ∷ allow_every Egress 0 ∷ []) _
      (every_entry_small Ingress 0, (every_entry_small Egress 0, tt))
      (every-append IsSmall (direction_entries set parts Ingress) (direction_entries set parts Egress) (direction_small parts Ingress) (direction_small parts Egress))
