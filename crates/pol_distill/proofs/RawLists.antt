-- The lists of keys and entries that filters give, in the shapes in which they are made.
use Rattle.std.proofs.Common.{◌≡◌, ℕ, ◌==◌, false, cond, List, [], ◌∷◌, ◌++◌, length, map, Result, Ok, Err, OnOk, refl, sym, ◌∙◌, ap, append_assoc, append-nil, arith}
use Rattle.std.proofs.lemmas.Bool.{ne_eqb}
use Rattle.std.proofs.lemmas.Grind.{flat_map-append}
use Rattle.std.specs.List.{flat_map}
use Rattle.pol_ports.specs.PortPrefix.{empty_prefix}
use Rattle.pol_ports.specs.Split.{split_of}
use Rattle.pol_ports.specs.declared.Direction.{Direction}
use Rattle.pol_ports.specs.declared.PortPrefix.{PortPrefix}
use Rattle.pol_ports.specs.declared.Proto.{Proto}
use Rattle.pol_ports.proofs.Blocks.{prefix_same}
use Rattle.pol_mapkey.specs.Entries.{Entry as MapEntry}
use Rattle.pol_mapkey.specs.MapKey.{every_key, port_key}
use Rattle.pol_mapkey.specs.declared.KeyProto.TheVariants.{Every as EveryProto}
use Rattle.pol_mapkey.specs.declared.Kind.{Kind}
use Rattle.pol_mapkey.specs.declared.MapKey.{MapKey}
use Rattle.pol_mapkey.proofs.Keys.{key_same}
use Rattle.pol_rule.specs.declared.policy.Peer.{Peer}
use Rattle.pol_rule.specs.declared.policy.Peers.TheVariants.{Every}
use Rattle.pol_rule.specs.declared.policy.PortSpec.{PortSpec}
use Rattle.pol_model.specs.PolicyMap.{entry_entries, ports_keys, protos_of, spec_keys}
use Rattle.pol_filters.specs.declared.filter.Filter.{Filter}
use Rattle.pol_filters.specs.FilterParts.{entry_of}
use Rattle.pol_distill.specs.RawKeys.{entries_for, with_id}

-- a key with the fields of another is that key
pub every_key_is : (dir : Direction) (id : ℕ) (key : MapKey) → key.dir ≡ dir → key.id ≡ id → key.proto ≡ EveryProto → key.port.bits ≡ 0 → key.port.len ≡ 0
    → key ≡ every_key dir id
every_key_is dir id key dirs ids protos bits len = key_same key (every_key dir id) dirs ids protos (prefix_same key.port empty_prefix bits len)

-- ports without any give the one key of every protocol
pub keys_or_every : (dir : Direction) (id : ℕ) (ports : List PortSpec)
    → ports_keys dir id ports ≡ cond (length ports == 0) (every_key dir id ∷ []) (flat_map (spec_keys dir id) ports)
keys_or_every dir id [] = refl
keys_or_every dir id (spec ∷ specs) =
    sym (ap (λ b. cond b (every_key dir id ∷ []) (flat_map (spec_keys dir id) (spec ∷ specs))) (ne_eqb (length (spec ∷ specs)) 0 (λ e. absurd (omega arith))))

-- ---- the same keys with another identity
map_map : {X Y Z : Type 0} (f : Y → Z) (g : X → Y) (xs : List X) → map f (map g xs) ≡ map (λ x. f (g x)) xs
map_map f g [] = refl
map_map f g (x ∷ xs) = ap (λ l. f (g x) ∷ l) (map_map f g xs)

map_append : {X Y : Type 0} (f : X → Y) (xs ys : List X) → map f (xs ++ ys) ≡ map f xs ++ map f ys
map_append f [] ys = refl
map_append f (x ∷ xs) ys = ap (λ l. f x ∷ l) (map_append f xs ys)

map_flat_map : {X Y Z : Type 0} (f : Y → Z) (g : X → List Y) (h : X → List Z) → ((x : X) → map f (g x) ≡ h x) → (xs : List X) → map f (flat_map g xs) ≡ flat_map h xs
map_flat_map f g h same [] = refl
map_flat_map f g h same (x ∷ xs) = map_append f (g x) (flat_map g xs) ∙ (λ i. same x i ++ map_flat_map f g h same xs i)

module _ (dir : Direction) (id : ℕ) where
  parts_with : (proto : Proto) (parts : List PortPrefix) → map (with_id id) (map (port_key dir 0 proto) parts) ≡ map (port_key dir id proto) parts
  parts_with proto [] = refl
  parts_with proto (part ∷ parts) = ap (λ l. port_key dir id proto part ∷ l) (parts_with proto parts)

  spec_with : (spec : PortSpec) → map (with_id id) (spec_keys dir 0 spec) ≡ spec_keys dir id spec
  spec_with spec =
      map_flat_map (with_id id) (λ proto. map (port_key dir 0 proto) (split_of spec.range)) (λ proto. map (port_key dir id proto) (split_of spec.range))
      (λ proto. parts_with proto (split_of spec.range)) (protos_of spec.proto)

  keys_with : (ports : List PortSpec) → map (with_id id) (ports_keys dir 0 ports) ≡ ports_keys dir id ports
  keys_with [] = refl
  keys_with (spec ∷ specs) = map_flat_map (with_id id) (spec_keys dir 0) (spec_keys dir id) spec_with (spec ∷ specs)

  entries_with : (kind : Kind) (ports : List PortSpec) → entries_for kind (ports_keys dir 0 ports) id ≡ map (λ key. (key, kind)) (ports_keys dir id ports)
  entries_with kind ports =
      sym (map_map (λ (key : MapKey). (key, kind)) (with_id id) (ports_keys dir 0 ports)) ∙ ap (map (λ (key : MapKey). (key, kind))) (keys_with ports)

flat_map_same : {X Y : Type 0} (f g : X → List Y) → ((x : X) → f x ≡ g x) → (xs : List X) → flat_map f xs ≡ flat_map g xs
flat_map_same f g same [] = refl
flat_map_same f g same (x ∷ xs) = λ i. same x i ++ flat_map_same f g same xs i

-- the entries of a filter, identity by identity
pub filter_entries : (dir : Direction) (kind : Kind) (ports : List PortSpec) (numbers : List ℕ)
    → flat_map (entries_for kind (ports_keys dir 0 ports)) numbers ≡ flat_map (λ id. map (λ key. (key, kind)) (ports_keys dir id ports)) numbers
filter_entries dir kind ports numbers = flat_map_same _ _ (λ id. entries_with dir id kind ports) numbers

-- those of a filter without a peer member, which has ports
pub every_entries : (set : Peer → List ℕ) (dir : Direction) (kind : Kind) (ports : List PortSpec) → (length ports == 0) ≡ false
    → entry_entries set dir kind (record { peers = Every; ports = ports }) ≡ entries_for kind (ports_keys dir 0 ports) 0
every_entries set dir kind [] some = absurd (let wrong : ⊥ = cc in wrong)
every_entries set dir kind (spec ∷ specs) some =
    append-nil (map (λ key. (key, kind)) (ports_keys dir 0 (spec ∷ specs))) ∙ sym (entries_with dir 0 kind (spec ∷ specs))

-- so the entries of such a filter, once its keys are pushed
pub every_pushed : {X E : Type 0} (set : Peer → List ℕ) (dir : Direction) (kind : Kind) (one : Filter) (ports : List PortSpec) (keys : List MapKey) (out new : List MapEntry)
    (r : Result X E) → one.peers ≡ Every → ports ≡ one.ports → (length ports == 0) ≡ false → keys ≡ ports_keys dir 0 ports
    → OnOk r (new ≡ out ++ entries_for kind keys 0) → OnOk r (new ≡ out ++ entry_entries set dir kind (entry_of one))
every_pushed set dir kind one ports keys out new (Ok x) peers own some made pushed =
    pushed
    ∙ ap (λ k. out ++ entries_for kind k 0) made
    ∙ ap (λ l. out ++ l) (sym (every_entries set dir kind ports some))
    ∙ (λ i. out ++ entry_entries set dir kind (record { peers = sym peers i; ports = own i }))
every_pushed set dir kind one ports keys out new (Err e) peers own some made pushed = tt

-- one list of numbers more
pub more_peers : {X Y Z : Type 0} (f : Y → List Z) (g : X → List Y) (out : List Z) (xs : List X) (x : X)
    → (out ++ flat_map f (flat_map g xs)) ++ flat_map f (g x) ≡ out ++ flat_map f (flat_map g (xs ++ x ∷ []))
more_peers f g out xs x =
    append_assoc out (flat_map f (flat_map g xs)) (flat_map f (g x))
    ∙ ap (λ l. out ++ l) (sym (ap (flat_map f) (flat_map-append g xs (x ∷ []) ∙ ap (λ l. flat_map g xs ++ l) (append-nil (g x))) ∙ flat_map-append f (flat_map g xs) (g x)))
