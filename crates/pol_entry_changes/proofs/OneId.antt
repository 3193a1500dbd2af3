-- The entries of one number, port by port, are those of the keys of the ports.
use Rattle.std.proofs.Common.{◌≡◌, ℕ, ◌==◌, cond, List, [], ◌∷◌, ◌++◌, length, map, refl, sym, ◌∙◌, ap, arith}
use Rattle.std.proofs.lemmas.Bool.{ne_eqb}
use Rattle.std.specs.List.{flat_map}
use Rattle.pol_ports.specs.Split.{split_of}
use Rattle.pol_ports.specs.declared.Direction.{Direction}
use Rattle.pol_ports.specs.declared.PortPrefix.{PortPrefix}
use Rattle.pol_ports.specs.declared.Proto.{Proto}
use Rattle.pol_mapkey.specs.Entries.{Entry}
use Rattle.pol_mapkey.specs.MapKey.{every_key, port_key}
use Rattle.pol_mapkey.specs.declared.Kind.{Kind}
use Rattle.pol_mapkey.specs.declared.MapKey.{MapKey}
use Rattle.pol_rule.specs.declared.policy.PortSpec.{PortSpec}
use Rattle.pol_model.specs.PolicyMap.{ports_keys, protos_of, spec_keys}
use Rattle.pol_distill.specs.RawKeys.{entries_for, with_id}
use Rattle.pol_entry_changes.specs.OneId.{part_entry, spec_entries}

map_append : {X Y : Type 0} (f : X → Y) (xs ys : List X) → map f (xs ++ ys) ≡ map f xs ++ map f ys
map_append f [] ys = refl
map_append f (x ∷ xs) ys = ap (λ l. f x ∷ l) (map_append f xs ys)

map_flat_map : {X Y Z : Type 0} (f : Y → Z) (g : X → List Y) (h : X → List Z) → ((x : X) → map f (g x) ≡ h x) → (xs : List X) → map f (flat_map g xs) ≡ flat_map h xs
map_flat_map f g h same [] = refl
map_flat_map f g h same (x ∷ xs) = map_append f (g x) (flat_map g xs) ∙ (λ i. same x i ++ map_flat_map f g h same xs i)

module _ (dir : Direction) (kind : Kind) (id : ℕ) where
  -- the entry of a key of every number
  abbrev own : MapKey → Entry
  own key = (with_id id key, kind)

  of_parts : (proto : Proto) (parts : List PortPrefix) → map own (map (port_key dir 0 proto) parts) ≡ map (part_entry dir kind id proto) parts
  of_parts proto [] = refl
  of_parts proto (part ∷ parts) = ap (λ l. part_entry dir kind id proto part ∷ l) (of_parts proto parts)

  of_spec : (spec : PortSpec) → map own (spec_keys dir 0 spec) ≡ spec_entries dir kind id spec
  of_spec spec =
      map_flat_map own (λ proto. map (port_key dir 0 proto) (split_of spec.range)) (λ proto. map (part_entry dir kind id proto) (split_of spec.range))
      (λ proto. of_parts proto (split_of spec.range)) (protos_of spec.proto)

  -- ports without any give the one entry of every protocol
  pub id_entries : (ports : List PortSpec)
      → entries_for kind (ports_keys dir 0 ports) id ≡ cond (length ports == 0) ((every_key dir id, kind) ∷ []) (flat_map (spec_entries dir kind id) ports)
  id_entries [] = refl
  id_entries (spec ∷ specs) =
      map_flat_map own (spec_keys dir 0) (spec_entries dir kind id) of_spec (spec ∷ specs)
      ∙ sym (ap (λ b. cond b ((every_key dir id, kind) ∷ []) (flat_map (spec_entries dir kind id) (spec ∷ specs))) (ne_eqb (length (spec ∷ specs)) 0 (λ e. absurd (omega arith))))
