-- What the entries of a map say of a packet, found by direction and identity.
use Rattle.std.proofs.Common.{◌≡◌, ℕ, ◌^◌, ◌<◌, Bool, true, false, ◌&&◌, ◌==◌, T, cond, if◌then◌else◌, List, [], ◌∷◌, Option, Some, None, is_some, IsSome, option_map, Contains, refl, sym, ap, subst, ◌∙◌, inl, inr, ◌⊎◌, arith}
use Rattle.std.specs.FinMap as finite
use Rattle.std.specs.Option.{option_or}
use Rattle.std.specs.Cmp.{IsTotalOrder}
use Rattle.std.specs.Ordering.{eq_by_cmp, is_lt}
use Rattle.std.specs.declared.cmp.Ordering.{Ordering}
use Rattle.std.specs.declared.cmp.Ordering.TheVariants.{Equal}
use Rattle.std.proofs.lemmas.Bool.{cases_Bool, and_from, and_parts, eqb-true, eq-eqb}
use Rattle.std.proofs.lemmas.Cmp.{tied_itself}
use Rattle.std.proofs.lemmas.Option.{same_Some}
use Rattle.pol_data.proofs.Members.{Contains-here, Contains-later, Contains-cases}
use Rattle.pol_ports.specs.declared.Direction.{Direction}
use Rattle.pol_ports.specs.declared.Proto.{Proto}
use Rattle.pol_ports.specs.PortPrefix.{empty_prefix, prefix_holds, same_prefix}
use Rattle.pol_ports.proofs.Blocks.{shorter_contains}
use Rattle.pol_ports.proofs.Containing.{holds_is, holds_from, contains_from, empty_contains}
use Rattle.pol_ports.proofs.Same.{same_prefix-is}
use Rattle.pol_mapkey.specs.declared.KeyProto.TheVariants.{Every}
use Rattle.pol_mapkey.specs.declared.Kind.{Kind}
use Rattle.pol_mapkey.specs.declared.MapKey.{MapKey}
use Rattle.pol_mapkey.specs.KeyProto.{key_proto, proto_covers}
use Rattle.pol_mapkey.specs.MapKey.{key_cmp, covers, covers_packet, every_key, port_key}
use Rattle.pol_mapkey.specs.Entries.{Entry, reaches, longest}
use Rattle.pol_mapkey.proofs.Keys.{key_same, covers_from, packet_is, packet_from, proto_covers-self, proto_covers-cases, covers-self}
use Rattle.pol_mapkey.proofs.Longest.{NoneReaches, IsLongest, OneKindAKey, longest_is, longest_none}
use Rattle.pol_mapkey.proofs.KeyOrder.{key_cmp_total, key_cmp-same}
use Rattle.pol_trie.specs.declared.key_set.KeySet.{KeySet}
use Rattle.pol_trie.specs.KeySet.{kind_of, Covering}
use Rattle.pol_trie.specs.PortMap.{Decides, IsLongestOf, NoneHolds}
use Rattle.pol_trie.specs.PolicyMap.{PolicyMap}
use Rattle.pol_trie.proofs.Ties.{tied_from, tied_is}

-- ---- the entries of a map are what it gives
pub both_true : (a b : Bool) → T (a && b) → T a × T b
both_true true true t = (tt, tt)
both_true true false t = absurd t
both_true false b t = absurd t

both_from : (a b : Bool) → T a → T b → T (a && b)
both_from true b s t = t
both_from false b s t = absurd s

pub not_less : {K : Type 0} (R : K → K → Ordering) → IsTotalOrder R → (x : K) → T (is_lt (R x x)) → ⊥
not_less R total x t = (let P : Ordering → Type 0 = λ o. T (is_lt o) in subst P (tied_itself total x) t)

module _ {K X : Type 0} (R : K → K → Ordering) (total : IsTotalOrder R) (same : (a b : K) → R a b ≡ Equal → a ≡ b) where
  -- the first key is less than each later one
  pub less_than : (x : K) (v : X) (es : List (K × X)) → T (finite.is_sorted R ((x, v) ∷ es)) → (e : K × X) → Contains es e → T (is_lt (R x e.0))
  less_than x v [] sorted e has = absurd (let l = has.1 in omega arith)
  less_than x v (y ∷ es) sorted e has =
      let outer = both_true _ _ sorted in
      let first = both_true _ _ outer.0 in
      let rest = both_true _ _ outer.1 in
      elim (Contains-cases y es e has) [
        | inl here ↦ (let P : K × X → Type 0 = λ z. T (is_lt (R x z.0)) in subst P here first.0)
        | inr later ↦ less_than x v es (both_from _ _ first.1 rest.1) e later
      ]

  found : (es : List (K × X)) → T (finite.is_sorted R es) → (e : K × X) → Contains es e → finite.find R e.0 es ≡ Some e.1
  found [] sorted e has = absurd (let l = has.1 in omega arith)
  found (y ∷ es) sorted e has =
      let both = both_true _ _ sorted in
      elim (Contains-cases y es e has) [
        | inl here ↦
            ap (λ b. cond b (Some y.1) (finite.find R e.0 es)) (tied_from R total same e.0 y.0 (sym (ap (λ (z : K × X). z.0) here))) ∙ ap (λ z. Some z.1) here
        | inr later ↦
            elim (cases_Bool (eq_by_cmp R e.0 y.0)) [
              | inl t ↦
                  let is = tied_is R total same e.0 y.0 t in
                  let P : K → Type 0 = λ z. T (is_lt (R z e.0)) in
                  absurd (not_less R total e.0 (subst P (sym is) (less_than y.0 y.1 es sorted e later)))
              | inr f ↦ ap (λ b. cond b (Some y.1) (finite.find R e.0 es)) f ∙ found es both.1 e later
            ]
      ]

  pub found_listed : (es : List (K × X)) (q : K) (x : X) → finite.find R q es ≡ Some x → Contains es (q, x)
  found_listed [] q x is = absurd (cc)
  found_listed (y ∷ es) q x is =
      by (eq_by_cmp R q y.0) refl is (found_listed es q x)
    where
      by : (b : Bool) → eq_by_cmp R q y.0 ≡ b → cond b (Some y.1) (finite.find R q es) ≡ Some x → (finite.find R q es ≡ Some x → Contains es (q, x)) → Contains (y ∷ es) (q, x)
      by true t is later =
          let key = tied_is R total same q y.0 t in
          let value = same_Some y.1 x is in
          let e : y ≡ (q, x) = λ i. (sym key i, value i) in
          let P : K × X → Type 0 = λ z. Contains (y ∷ es) z in
          subst P e (Contains-here y es)
      by false f is later = Contains-later y es (q, x) (later is)

entry_found : (m : PolicyMap) (e : Entry) → Contains (finite.entries m) e → finite.get m e.0 ≡ Some e.1
entry_found m e has = finite.get-entries m e.0 ∙ found key_cmp key_cmp_total key_cmp-same (finite.entries m) (finite.entries_sorted m) e has

entry_listed : (m : PolicyMap) (key : MapKey) (kind : Kind) → finite.get m key ≡ Some kind → Contains (finite.entries m) (key, kind)
entry_listed m key kind is = found_listed key_cmp key_cmp_total key_cmp-same (finite.entries m) key kind (sym (finite.get-entries m key) ∙ is)

one_kind : (m : PolicyMap) → OneKindAKey (finite.entries m)
one_kind m e f has_e has_f same =
    let kinds = same_Some e.1 f.1 (sym (entry_found m e has_e) ∙ ap (finite.get m) same ∙ entry_found m f has_f) in
    λ i. (same i, kinds i)

-- ---- the longest key of an identity
module _ (m : PolicyMap) (dir : Direction) (id : ℕ) (proto : Proto) (port : ℕ) where
  -- what reaches the packet
  record Reaching (f : Entry) : Type 0 where
    dir_is : f.0.dir ≡ dir
    id_is : f.0.id ≡ id
    proto_is : (f.0.proto ≡ Every) ⊎ (f.0.proto ≡ key_proto proto)
    holds : prefix_holds f.0.port port ≡ true

  reaching : (f : Entry) → reaches dir id proto port f ≡ true → Reaching f
  reaching f t =
      let both = and_parts (f.0.id == id) (covers_packet f.0 dir proto port) t in
      let p = packet_is f.0 dir proto port both.1 in
      record { dir_is = p.0; id_is = eqb-true f.0.id id both.0; proto_is = proto_covers-cases f.0.proto (key_proto proto) p.1; holds = p.2 }

  reaches_from : (key : MapKey) (kind : Kind) → key.dir ≡ dir → key.id ≡ id → proto_covers key.proto (key_proto proto) ≡ true → prefix_holds key.port port ≡ true
      → reaches dir id proto port (key, kind) ≡ true
  reaches_from key kind dirs ids protos holds = and_from (key.id == id) (covers_packet key dir proto port) (eq-eqb key.id id ids) (packet_from key dir proto port dirs protos holds)

  -- the kinds of the keys of this direction and identity
  module _ (s : KeySet) (kinds : (key : MapKey) → key.dir ≡ dir → key.id ≡ id → finite.get m key ≡ kind_of s key.proto key.port) (below : port < 2 ^ 16) where
    kind_there : (f : Entry) → Contains (finite.entries m) f → (r : Reaching f) → kind_of s f.0.proto f.0.port ≡ Some f.1
    kind_there f has r = sym (kinds f.0 r.dir_is r.id_is) ∙ entry_found m f has

    -- of the packet's protocol
    own_there : (f : Entry) → Contains (finite.entries m) f → (r : Reaching f) → f.0.proto ≡ key_proto proto → IsSome (kind_of s (key_proto proto) f.0.port)
    own_there f has r is = ap is_some (ap (λ p. kind_of s p f.0.port) (sym is) ∙ kind_there f has r)

    -- of every protocol
    picked : (b : Bool) (x : Option Kind) (k : Kind) → (if b then x else None) ≡ Some k → (b ≡ true) × (x ≡ Some k)
    picked true x k e = (refl, e)
    picked false x k e = absurd (cc)

    every_there : (f : Entry) → Contains (finite.entries m) f → (r : Reaching f) → f.0.proto ≡ Every → (empty_prefix ≡ f.0.port) × (s.every ≡ Some f.1)
    every_there f has r is =
        let at : (if same_prefix empty_prefix f.0.port then s.every else None) ≡ Some f.1 = ap (λ p. kind_of s p f.0.port) (sym is) ∙ kind_there f has r in
        let both = picked (same_prefix empty_prefix f.0.port) s.every f.1 at in
        (same_prefix-is empty_prefix f.0.port both.0, both.1)

    by_own : (k : Kind) (l : IsLongestOf (kind_of s (key_proto proto)) port k) → IsLongest (finite.entries m) dir id proto port (port_key dir id proto l.prefix, k)
    by_own k l =
        let key = port_key dir id proto l.prefix in (
          entry_listed m key k (kinds key refl refl ∙ l.found),
          reaches_from key k refl refl (proto_covers-self (key_proto proto)) l.holds,
          λ f has reach.
              let r = reaching f reach in
              let at = holds_is f.0.port port r.holds in
              let at' = holds_is l.prefix port l.holds in
              elim r.proto_is [
                | inl every ↦
                    covers_from f.0 key r.dir_is r.id_is (ap (λ p. proto_covers p (key_proto proto)) every)
                    (empty_contains f.0.port l.prefix port (f.0.every_port every) r.holds l.holds)
                | inr own ↦
                    let shorter = l.longest f.0.port (own_there f has r own) r.holds in
                    let ends = shorter_contains f.0.port l.prefix shorter (omega arith) (omega arith) in
                    covers_from f.0 key r.dir_is r.id_is (ap (λ p. proto_covers p (key_proto proto)) own ∙ proto_covers-self (key_proto proto)) (contains_from f.0.port l.prefix ends.0 ends.1)
              ],
        )

    by_every : (k : Kind) → NoneHolds (kind_of s (key_proto proto)) port → s.every ≡ Some k → IsLongest (finite.entries m) dir id proto port (every_key dir id, k)
    by_every k none is =
        let key = every_key dir id in (
          entry_listed m key k (kinds key refl refl ∙ is),
          reaches_from key k refl refl refl (holds_from empty_prefix port (omega arith) below),
          λ f has reach.
              let r = reaching f reach in
              elim r.proto_is [
                | inl every ↦
                    let e = every_there f has r every in
                    let same : f.0 ≡ key = key_same f.0 key r.dir_is r.id_is every (sym e.0) in
                    ap (covers f.0) (sym same) ∙ covers-self f.0
                | inr own ↦ absurd (none f.0.port (own_there f has r own) r.holds)
              ],
        )

    by_none : NoneHolds (kind_of s (key_proto proto)) port → s.every ≡ None → NoneReaches (finite.entries m) dir id proto port
    by_none none no_every f has =
        elim (cases_Bool (reaches dir id proto port f)) [
          | inl reach ↦
              let r = reaching f reach in
              absurd (elim r.proto_is [
                | inl every ↦ differ (sym no_every ∙ (every_there f has r every).1)
                | inr own ↦ none f.0.port (own_there f has r own) r.holds
              ])
          | inr never ↦ never
        ]
      where
        differ : {k : Kind} → None ≡ Some k → ⊥
        differ e = cc

    -- so the kind that was found is that of the longest key
    pub found_longest : (found : Option Kind) → Covering s proto port found → found ≡ option_map (λ e. e.1) (longest (finite.entries m) dir id proto port)
    found_longest found c = c.is ∙ go c.own c.decides s.every refl
      where
        go : (own : Option Kind) → Decides (kind_of s (key_proto proto)) port own → (every : Option Kind) → s.every ≡ every → option_or own every ≡ option_map (λ e. e.1) (longest (finite.entries m) dir id proto port)
        go (Some k) d every is = sym (ap (option_map (λ e. e.1)) (longest_is dir id proto port (finite.entries m) _ (one_kind m) (by_own k d)))
        go None d (Some k) is = sym (ap (option_map (λ e. e.1)) (longest_is dir id proto port (finite.entries m) _ (one_kind m) (by_every k d is)))
        go None d None is = sym (ap (option_map (λ e. e.1)) (longest_none dir id proto port (finite.entries m) (by_none d is)))

  -- and where the map has no key of this direction and identity, there is none
  pub missed_longest : ((key : MapKey) → key.dir ≡ dir → key.id ≡ id → finite.get m key ≡ None) → None ≡ option_map (λ e. e.1) (longest (finite.entries m) dir id proto port)
  missed_longest none =
      sym (ap (option_map (λ e. e.1)) (longest_none dir id proto port (finite.entries m) (λ f has.
      elim (cases_Bool (reaches dir id proto port f)) [
        | inl reach ↦ (let r = reaching f reach in absurd (differ (sym (none f.0 r.dir_is r.id_is) ∙ entry_found m f has)))
        | inr never ↦ never
      ])))
    where
      differ : {k : Kind} → None ≡ Some k → ⊥
      differ e = cc
