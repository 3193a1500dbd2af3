-- What merging raw entries leaves: their keys, ascending, each with a deny where some entry of it is a deny.
use Rattle.std.proofs.Common.{◌≡◌, Bool, true, false, ◌&&◌, ◌||◌, List, [], ◌∷◌, refl, sym, ◌∙◌, ap, subst, ◌↔◌, inl, inr, arith}
use Rattle.std.proofs.lemmas.Bool.{and_parts, and_from, cases_Bool, both_ways, false_from_ne_true}
use Rattle.std.proofs.lemmas.Cmp.{on_total, tied_itself}
use Rattle.std.proofs.lemmas.List.Elements.{All-from_recursion}
use Rattle.std.proofs.lemmas.List.Folds.{Any-from_list_any, list_any_at}
use Rattle.std.proofs.lemmas.List.Kept.{AllPairs-cons}
use Rattle.std.specs.Cmp.{IsTotalOrder}
use Rattle.std.specs.List.{AllByRecursion, Contains, list_any}
use Rattle.std.specs.List.Sorted.{IsStrictlySortedBy}
use Rattle.std.specs.Ordering.{ordering_reverse, match_ordering}
use Rattle.std.specs.declared.cmp.Ordering.{Ordering}
use Rattle.std.specs.declared.cmp.Ordering.TheVariants.{Less, Equal, Greater}
use Rattle.pol_data.proofs.Ascending.{same_members}
use Rattle.pol_data.proofs.Members.{In, In-from_Contains, Contains-from_In}
use Rattle.pol_mapkey.specs.MapKey.{key_cmp, same_key}
use Rattle.pol_mapkey.specs.Entries.{Entry, is_deny, EachKeyOnce}
use Rattle.pol_mapkey.specs.declared.Kind.{Kind}
use Rattle.pol_mapkey.specs.declared.Kind.TheVariants.{Allow, Deny}
use Rattle.pol_mapkey.specs.declared.MapKey.{MapKey}
use Rattle.pol_mapkey.proofs.Equality.{same_key-is, same_key-self}
use Rattle.pol_mapkey.proofs.Longest.{one_kind}
use Rattle.pol_mapkey.proofs.KeyOrder.{key_cmp_total, key_cmp-same}
use Rattle.pol_model.specs.PolicyMap.{stronger, put_entry, merged}

-- some element that passes, and an element that does
pub passing : {X : Type 0} (p : X → Bool) (xs : List X) → list_any p xs ≡ true → (x : X) × Contains xs x × (p x ≡ true)
passing p xs t = let a = Any-from_list_any p xs t in (a.1, (a.0, a.2, a.3), a.4)

pub any_from : {X : Type 0} (p : X → Bool) (xs : List X) (x : X) → Contains xs x → p x ≡ true → list_any p xs ≡ true
any_from p xs x (k, below, at) t = list_any_at p xs k x below (ap p at ∙ t)

-- lists with the same elements pass a test alike
pub any_same : {X : Type 0} (p : X → Bool) (xs ys : List X) → ((x : X) → Contains xs x ↔ Contains ys x) → list_any p xs ≡ list_any p ys
any_same p xs ys same =
    elim (cases_Bool (list_any p xs)) [
      | inl t ↦ (let one = passing p xs t in t ∙ sym (any_from p ys one.0 ((same one.0).0 one.1) one.2))
      | inr f ↦ f ∙ sym (false_from_ne_true (list_any p ys) (λ t.
          let one = passing p ys t in both_ways (list_any p xs) f (any_from p xs one.0 ((same one.0).1 one.1) one.2)))
    ]

abbrev pub entry_cmp : Entry → Entry → Ordering
entry_cmp a b = key_cmp a.0 b.0

pub entry_cmp_total : IsTotalOrder entry_cmp
entry_cmp_total = on_total (λ (e : Entry). e.0) key_cmp_total

-- what putting an entry does to a list
data Put (new : Entry) : List Entry → List Entry → Type 0 where
  last : Put new [] (new ∷ [])
  before : {old : Entry} {others : List Entry} → key_cmp new.0 old.0 ≡ Less → Put new (old ∷ others) (new ∷ old ∷ others)
  joined : {old : Entry} {others : List Entry} → new.0 ≡ old.0 → Put new (old ∷ others) ((old.0, stronger new.1 old.1) ∷ others)
  later : {old : Entry} {others ys : List Entry} → key_cmp new.0 old.0 ≡ Greater → Put new others ys → Put new (old ∷ others) (old ∷ ys)

put_is : (new : Entry) (xs : List Entry) → Put new xs (put_entry new xs)
put_is new [] = last
put_is new (old ∷ others) = by_order (key_cmp new.0 old.0) refl (put_is new others)
  where
    by_order : (o : Ordering) → key_cmp new.0 old.0 ≡ o → Put new others (put_entry new others)
        → Put new (old ∷ others) (match_ordering o (new ∷ old ∷ others) ((old.0, stronger new.1 old.1) ∷ others) (old ∷ put_entry new others))
    by_order Less e rest = before e
    by_order Equal e rest = joined (key_cmp-same new.0 old.0 e)
    by_order Greater e rest = later e rest

-- what holds of all keys still does
keys_put : (P : MapKey → Type 0) {new : Entry} {xs ys : List Entry} → Put new xs ys → P new.0 → AllByRecursion (λ (e : Entry). P e.0) xs
    → AllByRecursion (λ (e : Entry). P e.0) ys
keys_put P last here all = (here, tt)
keys_put P (before less) here all = (here, all)
keys_put P (joined same) here all = (all.0, all.1)
keys_put P (later more rest) here all = (all.0, keys_put P rest here all.1)

above_all : (k m : MapKey) (xs : List Entry) → key_cmp k m ≡ Less → AllByRecursion (λ (e : Entry). key_cmp m e.0 ≡ Less) xs
    → AllByRecursion (λ (e : Entry). key_cmp k e.0 ≡ Less) xs
above_all k m [] less all = tt
above_all k m (e ∷ es) less all = (key_cmp_total.trans k m e.0 less all.0, above_all k m es less all.1)

put_ascends : {new : Entry} {xs ys : List Entry} → Put new xs ys → IsStrictlySortedBy entry_cmp xs → IsStrictlySortedBy entry_cmp ys
unfolding IsStrictlySortedBy
put_ascends last up = (tt, tt)
put_ascends {new} (before {old} {others} less) up = ((less, above_all new.0 old.0 others less up.0), (up.0, up.1))
put_ascends (joined same) up = (up.0, up.1)
put_ascends {new} (later {old} more rest) up =
    let less : key_cmp old.0 new.0 ≡ Less = key_cmp_total.antisymm old.0 new.0 ∙ ap ordering_reverse more in
    (keys_put (λ k. key_cmp old.0 k ≡ Less) rest less up.0, put_ascends rest up.1)

pub merged_ascends : (raw : List Entry) → IsStrictlySortedBy entry_cmp (merged raw)
unfolding IsStrictlySortedBy
merged_ascends [] = tt
merged_ascends (e ∷ es) = put_ascends (put_is e (merged es)) (merged_ascends es)

-- whether some entry has the key, and whether some deny has it
abbrev pub has_key : MapKey → List Entry → Bool
has_key key entries = list_any (λ e. same_key e.0 key) entries

abbrev pub denies_key : MapKey → List Entry → Bool
denies_key key entries = list_any (λ e. is_deny e.1 && same_key e.0 key) entries

or_same : (a b : Bool) → (a || b) ≡ (a || (a || b))
or_same true b = refl
or_same false b = refl

or_swap : (a b c : Bool) → (a || (b || c)) ≡ (b || (a || c))
or_swap true true c = refl
or_swap true false c = refl
or_swap false true c = refl
or_swap false false c = refl

key_put : (k : MapKey) {new : Entry} {xs ys : List Entry} → Put new xs ys → has_key k ys ≡ has_key k (new ∷ xs)
key_put k last = refl
key_put k (before less) = refl
key_put k {new} (joined {old} {others} same) =
    or_same (same_key old.0 k) (has_key k others) ∙ ap (λ m. same_key m k || (same_key old.0 k || has_key k others)) (sym same)
key_put k {new} (later {old} {others} more rest) =
    ap (λ b. same_key old.0 k || b) (key_put k rest) ∙ or_swap (same_key old.0 k) (same_key new.0 k) (has_key k others)

stronger_or : (a b : Kind) (s r : Bool) → (is_deny (stronger a b) && s || r) ≡ (is_deny a && s || (is_deny b && s || r))
stronger_or Allow b s r = refl
stronger_or Deny Allow s r = refl
stronger_or Deny Deny s r = or_same s r

deny_put : (k : MapKey) {new : Entry} {xs ys : List Entry} → Put new xs ys → denies_key k ys ≡ denies_key k (new ∷ xs)
deny_put k last = refl
deny_put k (before less) = refl
deny_put k {new} (joined {old} {others} same) =
    stronger_or new.1 old.1 (same_key old.0 k) (denies_key k others)
    ∙ ap (λ m. is_deny new.1 && same_key m k || (is_deny old.1 && same_key old.0 k || denies_key k others)) (sym same)
deny_put k {new} (later {old} {others} more rest) =
    ap (λ b. is_deny old.1 && same_key old.0 k || b) (deny_put k rest)
    ∙ or_swap (is_deny old.1 && same_key old.0 k) (is_deny new.1 && same_key new.0 k) (denies_key k others)

merged_keys : (k : MapKey) (raw : List Entry) → has_key k (merged raw) ≡ has_key k raw
merged_keys k [] = refl
merged_keys k (e ∷ es) = key_put k (put_is e (merged es)) ∙ ap (λ b. same_key e.0 k || b) (merged_keys k es)

merged_denies : (k : MapKey) (raw : List Entry) → denies_key k (merged raw) ≡ denies_key k raw
merged_denies k [] = refl
merged_denies k (e ∷ es) = deny_put k (put_is e (merged es)) ∙ ap (λ b. is_deny e.1 && same_key e.0 k || b) (merged_denies k es)

-- entries of ascending keys have each key once
pub each_once : (xs : List Entry) → IsStrictlySortedBy entry_cmp xs → EachKeyOnce xs
unfolding IsStrictlySortedBy
each_once [] up = λ i j d below within. absurd (omega arith)
each_once (e ∷ es) up =
    AllPairs-cons (λ (a b : Entry). a.0 ≡ b.0 → ⊥) e es (All-from_recursion _ es (apart e es up.0)) (each_once es up.1)
  where
    apart : (e : Entry) (es : List Entry) → AllByRecursion (λ (f : Entry). key_cmp e.0 f.0 ≡ Less) es → AllByRecursion (λ (f : Entry). e.0 ≡ f.0 → ⊥) es
    apart e [] all = tt
    apart e (f ∷ fs) all = (λ same. cc (all.0, tied_itself key_cmp_total e.0, same), apart e fs all.1)

-- an entry is a deny exactly where some raw entry of its key is one
pub merged_kind : (raw : List Entry) (e : Entry) → Contains (merged raw) e → denies_key e.0 raw ≡ is_deny e.1
merged_kind raw e has = by_kind e.1 refl
  where
    by_kind : (kind : Kind) → e.1 ≡ kind → denies_key e.0 raw ≡ is_deny kind
    by_kind Deny k =
        sym (merged_denies e.0 raw)
        ∙ any_from _ (merged raw) e has (and_from (is_deny e.1) (same_key e.0 e.0) (ap is_deny k) (same_key-self e.0))
    by_kind Allow k =
        false_from_ne_true (denies_key e.0 raw) (λ t.
        let one = passing (λ (f : Entry). is_deny f.1 && same_key f.0 e.0) (merged raw) (merged_denies e.0 raw ∙ t) in
        let both = and_parts (is_deny one.0.1) (same_key one.0.0 e.0) one.2 in
        let same = one_kind (merged raw) (each_once (merged raw) (merged_ascends raw)) one.0 e one.1 has (same_key-is one.0.0 e.0 both.1) in
        both_ways (is_deny e.1) (ap is_deny k) (ap (λ (f : Entry). is_deny f.1) (sym same) ∙ both.0))

pub merged_key : (raw : List Entry) (e : Entry) → Contains (merged raw) e → has_key e.0 raw ≡ true
merged_key raw e has = sym (merged_keys e.0 raw) ∙ any_from _ (merged raw) e has (same_key-self e.0)

is_deny-same : (a b : Kind) → is_deny a ≡ is_deny b → a ≡ b
is_deny-same Allow Allow e = refl
is_deny-same Allow Deny e = cc
is_deny-same Deny Allow e = cc
is_deny-same Deny Deny e = refl

-- and each key with that kind is an entry
pub merged_has : (raw : List Entry) (e : Entry) → has_key e.0 raw ≡ true → denies_key e.0 raw ≡ is_deny e.1 → Contains (merged raw) e
merged_has raw e key kind =
    let one = passing (λ (f : Entry). same_key f.0 e.0) (merged raw) (merged_keys e.0 raw ∙ key) in
    let k : one.0.0 ≡ e.0 = same_key-is one.0.0 e.0 one.2 in
    let own : denies_key one.0.0 raw ≡ is_deny one.0.1 = merged_kind raw one.0 one.1 in
    let kinds : one.0.1 ≡ e.1 = is_deny-same one.0.1 e.1 (sym own ∙ ap (λ m. denies_key m raw) k ∙ kind) in
    let same : one.0 ≡ e = λ i. (k i, kinds i) in
    subst (Contains (merged raw)) same one.1

-- it depends on which raw entries there are alone
pub merged_same : (xs ys : List Entry) → ((e : Entry) → Contains xs e ↔ Contains ys e) → merged xs ≡ merged ys
merged_same xs ys same =
    same_members entry_cmp_total (merged xs) (merged ys) (merged_ascends xs) (merged_ascends ys)
    (λ e there. Contains_to xs ys same e there) (λ e there. Contains_to ys xs (λ f. ((same f).1, (same f).0)) e there)
  where
    Contains_to : (xs ys : List Entry) → ((e : Entry) → Contains xs e ↔ Contains ys e) → (e : Entry) → In e (merged xs) → In e (merged ys)
    Contains_to xs ys same e there =
        let has = Contains-from_In (merged xs) e there in
        In-from_Contains (merged ys) e
        (merged_has ys e (sym (any_same _ xs ys same) ∙ merged_key xs e has) (sym (any_same _ xs ys same) ∙ merged_kind xs e has))
