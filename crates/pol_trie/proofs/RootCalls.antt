-- What calls on the keys by direction and identity make of the map.
use Rattle.std.proofs.Common.{◌≡◌, Bool, true, false, ◌&&◌, not, cond, if◌then◌else◌, List, [], ◌∷◌, Option, Some, None, is_some, is_none, option_and_then, OnErr, refl, sym, ap, ◌∙◌}
use Rattle.std.specs.FinMap as finite
use Rattle.std.specs.Bool.{Decides}
use Rattle.std.specs.List.{IsDistinct, AllZip}
use Rattle.std.specs.declared.result.Result.{Result}
use Rattle.std.specs.declared.result.Result.TheVariants.{Ok, Err}
use Rattle.std.specs.Map.{lookup, keys_of}
use Rattle.std.specs.Ordering.{eq_by_cmp}
use Rattle.std.proofs.lemmas.Bool.Decides.{Decides-like, Decides-and, Decides-eqb}
use Rattle.pol_ports.specs.declared.PortPrefix.{PortPrefix}
use Rattle.pol_ports.specs.PortPrefix.{same_prefix}
use Rattle.pol_ports.proofs.Equality.{direction_eq-Decides}
use Rattle.pol_mapkey.specs.declared.KeyProto.{KeyProto}
use Rattle.pol_mapkey.specs.declared.Kind.{Kind}
use Rattle.pol_mapkey.specs.declared.MapKey.{MapKey}
use Rattle.pol_mapkey.specs.KeyProto.{same_key_proto}
use Rattle.pol_mapkey.specs.MapKey.{key_cmp}
use Rattle.pol_mapkey.proofs.KeyOrder.{key_cmp_total, key_cmp-same}
use Rattle.pol_trie.specs.declared.root.Root.{Root}
use Rattle.pol_trie.specs.declared.key_set.KeySet.{KeySet}
use Rattle.pol_trie.specs.contracts.root.RootPartialEq.TheImpl as root
use Rattle.pol_trie.specs.KeySet.{kind_of}
use Rattle.pol_trie.specs.PolicyMap.{PolicyMap}
use Rattle.pol_trie.specs.Roots.{root_of, policy_of, kind_at}
use Rattle.pol_trie.proofs.RootLemmas.{get-policy_of, kind_changes}

-- `==` of roots
abbrev pub same_root : Root → Root → Bool
same_root = root.ghosts.eq

same_root-Decides : (a b : Root) → Decides (same_root a b) (a ≡ b)
same_root-Decides a b =
    Decides-like _ (λ same. λ i. record { dir = same.0 i; id = same.1 i }) (λ e. (ap (λ (r : Root). r.dir) e, ap (λ (r : Root). r.id) e))
    (Decides-and _ _ (direction_eq-Decides a.dir b.dir) (Decides-eqb a.id b.id))

pub same_root-is : (a b : Root) → same_root a b ≡ true → a ≡ b
same_root-is a b = (same_root-Decides a b).0

pub same_root-self : (a : Root) → same_root a a ≡ true
same_root-self a = (same_root-Decides a a).1 refl

abbrev pub Rows : Type 0
Rows = List (Root × KeySet)

pub get-rows : (es : Rows) → IsDistinct same_root (keys_of es) → (key : MapKey) → finite.get (policy_of es) key ≡ kind_at same_root es key
get-rows = get-policy_of same_root same_root-is same_root-self

-- no rows are no keys
pub policy_of-none : (es : Rows) → es ≡ [] → policy_of es ≡ finite.empty
unfolding policy_of
policy_of-none es e = ap policy_of e

-- the kinds of the keys of a direction and an identity
pub kinds_in : (es : Rows) → IsDistinct same_root (keys_of es) → (r : Root) (s : KeySet) → lookup (same_root r) es ≡ Some s
    → (key : MapKey) → key.dir ≡ r.dir → key.id ≡ r.id → finite.get (policy_of es) key ≡ kind_of s key.proto key.port
kinds_in es distinct r s there key dirs ids =
    let same : root_of key ≡ r = λ i. record { dir = dirs i; id = ids i } in
    get-rows es distinct key ∙ ap (λ x. option_and_then (λ y. kind_of y key.proto key.port) (lookup (same_root x) es)) same ∙ ap (option_and_then (λ y. kind_of y key.proto key.port)) there

pub none_in : (es : Rows) → IsDistinct same_root (keys_of es) → (r : Root) → lookup (same_root r) es ≡ None
    → (key : MapKey) → key.dir ≡ r.dir → key.id ≡ r.id → finite.get (policy_of es) key ≡ None
none_in es distinct r none key dirs ids =
    let same : root_of key ≡ r = λ i. record { dir = dirs i; id = ids i } in
    get-rows es distinct key ∙ ap (λ x. option_and_then (λ y. kind_of y key.proto key.port) (lookup (same_root x) es)) same ∙ ap (option_and_then (λ y. kind_of y key.proto key.port)) none

-- ---- changes
same_policies : (m n : PolicyMap) → ((q : MapKey) → finite.get m q ≡ finite.get n q) → m ≡ n
same_policies = finite.same_map key_cmp_total key_cmp-same

-- the rows have the same sets
pub policy_of-same : (old new : Rows) → IsDistinct same_root (keys_of old) → IsDistinct same_root (keys_of new)
    → ((r : Root) → lookup (same_root r) new ≡ lookup (same_root r) old) → policy_of new ≡ policy_of old
policy_of-same old new distinct distinct' same =
    same_policies (policy_of new) (policy_of old) (λ q.
    get-rows new distinct' q ∙ ap (option_and_then (λ y. kind_of y q.proto q.port)) (same (root_of q)) ∙ sym (get-rows old distinct q))

-- the kinds that a set has, or none has
abbrev pub kinds_of : Option KeySet → KeyProto → PortPrefix → Option Kind
kinds_of s p q = option_and_then (λ y. kind_of y p q) s

-- one row has another set then, or none, with the key's new kind
module _ (old new : Rows) (distinct : IsDistinct same_root (keys_of old)) (distinct' : IsDistinct same_root (keys_of new)) (key : MapKey) (then_there : Option KeySet)
    (changes : (r : Root) → lookup (same_root r) new ≡ cond (same_root (root_of key) r) then_there (lookup (same_root r) old)) where
  pub policy_of-put : (kind : Kind)
      → ((p : KeyProto) (q : PortPrefix) → kinds_of then_there p q ≡ (if same_key_proto key.proto p && same_prefix key.port q then Some kind else kinds_of (lookup (same_root (root_of key)) old) p q))
      → policy_of new ≡ finite.insert (policy_of old) key kind
  policy_of-put kind kinds =
      same_policies (policy_of new) (finite.insert (policy_of old) key kind) (λ q.
      get-rows new distinct' q ∙ kind_changes same_root same_root-is same_root-self old new key (Some kind) then_there changes kinds q
      ∙ sym (finite.get-insert key_cmp_total (policy_of old) key kind q ∙ ap (cond (eq_by_cmp key_cmp q key) (Some kind)) (get-rows old distinct q)))

  pub policy_of-taken : ((p : KeyProto) (q : PortPrefix) → kinds_of then_there p q ≡ (if same_key_proto key.proto p && same_prefix key.port q then None else kinds_of (lookup (same_root (root_of key)) old) p q))
      → policy_of new ≡ finite.remove (policy_of old) key
  policy_of-taken kinds =
      same_policies (policy_of new) (finite.remove (policy_of old) key) (λ q.
      get-rows new distinct' q ∙ kind_changes same_root same_root-is same_root-self old new key None then_there changes kinds q
      ∙ sym (finite.get-remove key_cmp_total (policy_of old) key q ∙ ap (cond (eq_by_cmp key_cmp q key) None) (get-rows old distinct q)))

-- ---- what calls answer
pub on_err : {V E P : Type 0} (r : Result V E) → P → OnErr r P
on_err (Ok x) p = tt
on_err (Err e) p = p

-- whether nothing was there
pub fresh_is : (o : Option Kind) (b : Bool) → is_some o ≡ not b → b ≡ is_none o
fresh_is None true e = refl
fresh_is None false e = cc
fresh_is (Some k) true e = cc
fresh_is (Some k) false e = refl

-- a write of what was there changes nothing
pub unchanged : (es : Rows) (r : Root) (s w : KeySet) → lookup (same_root r) es ≡ Some s → w ≡ s → (q : Root)
    → cond (same_root r q) (Some w) (lookup (same_root q) es) ≡ lookup (same_root q) es
unchanged es r s w there same q = go (same_root r q) refl
  where
    go : (b : Bool) → same_root r q ≡ b → cond b (Some w) (lookup (same_root q) es) ≡ lookup (same_root q) es
    go true t = ap Some same ∙ sym there ∙ ap (λ x. lookup (same_root x) es) (same_root-is r q t)
    go false f = refl

-- nor does taking out what isn't there
pub still_absent : (es : Rows) (r : Root) → lookup (same_root r) es ≡ None → (q : Root) → lookup (same_root q) es ≡ cond (same_root r q) None (lookup (same_root q) es)
still_absent es r none q = go (same_root r q) refl
  where
    go : (b : Bool) → same_root r q ≡ b → lookup (same_root q) es ≡ cond b None (lookup (same_root q) es)
    go true t = ap (λ x. lookup (same_root x) es) (sym (same_root-is r q t)) ∙ none
    go false f = refl

pub none_taken : (s : Option KeySet) → s ≡ None → (t : Bool) (p : KeyProto) (q : PortPrefix) → kinds_of None p q ≡ (if t then None else kinds_of s p q)
none_taken s none t p q = nothing t None ∙ ap (λ x. if t then None else kinds_of x p q) (sym none)
  where
    nothing : (t : Bool) (n : Option Kind) → n ≡ (if t then n else n)
    nothing true n = refl
    nothing false n = refl

-- an entry that is written and then taken out is out
pub taken_after : (b : Bool) (w x : Option KeySet) → cond b None (cond b w x) ≡ cond b None x
taken_after true w x = refl
taken_after false w x = refl

-- the same rows once more
pub same_rows : (es fs : Rows) → AllZip (λ (p q : Root × KeySet). (q.0 ≡ p.0) × (q.1 ≡ p.1)) es fs → fs ≡ es
same_rows [] [] all = refl
same_rows [] (f ∷ fs) all = absurd all
same_rows (e ∷ es) [] all = absurd all
same_rows (e ∷ es) (f ∷ fs) all = λ i. (all.0.0 i, all.0.1 i) ∷ same_rows es fs all.1 i
