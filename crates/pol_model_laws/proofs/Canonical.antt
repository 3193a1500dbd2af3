-- The canonical map of raw entries: which entries it has.
use Rattle.std.proofs.Common.{◌≡◌, Bool, true, false, not, ◌&&◌, List, ◌↔◌, refl, sym, ◌∙◌, ap, subst}
use Rattle.std.proofs.lemmas.Bool.{and_parts, both_ways, false_from_ne_true, not-true, not_from_false}
use Rattle.std.proofs.lemmas.List.Elements.{All-contains, All-contains_itself, All-filter, filter_passes, filter_agree}
use Rattle.std.proofs.lemmas.List.Kept.{IsStrictlySortedBy-filter}
use Rattle.std.specs.List.{Contains, filter}
use Rattle.std.specs.List.Sorted.{IsStrictlySortedBy}
use Rattle.pol_data.proofs.Members.{Contains-filter}
use Rattle.pol_mapkey.specs.MapKey.{same_key, strictly_covers}
use Rattle.pol_mapkey.specs.Entries.{Entry, is_deny, EachKeyOnce}
use Rattle.pol_mapkey.specs.declared.Kind.{Kind}
use Rattle.pol_mapkey.specs.declared.Kind.TheVariants.{Allow, Deny}
use Rattle.pol_mapkey.specs.declared.MapKey.{MapKey}
use Rattle.pol_mapkey.proofs.Equality.{same_key-is, same_key-self}
use Rattle.pol_model_laws.specs.MapFacts.{HasKey, IsUnderNoDeny, HaveSameEntries}
use Rattle.pol_model.specs.PolicyMap.{merged, canonical, is_under_deny}
use Rattle.pol_model_laws.proofs.Merged.{passing, any_from, any_same, has_key, denies_key, entry_cmp, each_once, merged_ascends, merged_kind, merged_key, merged_has, merged_same}

-- what a filter keeps
from_filter : {X : Type 0} (p : X → Bool) (xs : List X) (x : X) → Contains (filter p xs) x → Contains xs x × (p x ≡ true)
from_filter p xs x has = (
  All-contains (Contains xs) (filter p xs) x (All-filter p (Contains xs) xs (All-contains_itself xs)) has,
  All-contains (λ y. p y ≡ true) (filter p xs) x (filter_passes p xs) has,
)

pub deny_is : (kind : Kind) → is_deny kind ≡ true → kind ≡ Deny
deny_is Allow t = cc
deny_is Deny t = refl

-- raw entries by their keys
key_there : (raw : List Entry) (key : MapKey) → has_key key raw ≡ true → HasKey raw key
key_there raw key t =
    let one = passing (λ (e : Entry). same_key e.0 key) raw t in
    (one.0.1, subst (Contains raw) (λ i. (same_key-is one.0.0 key one.2 i, one.0.1)) one.1)

there_key : (raw : List Entry) (key : MapKey) → HasKey raw key → has_key key raw ≡ true
there_key raw key (kind, has) = any_from (λ (e : Entry). same_key e.0 key) raw (key, kind) has (same_key-self key)

deny_there : (raw : List Entry) (key : MapKey) → denies_key key raw ≡ true → Contains raw (key, Deny)
deny_there raw key t =
    let one = passing (λ (e : Entry). is_deny e.1 && same_key e.0 key) raw t in
    let both = and_parts (is_deny one.0.1) (same_key one.0.0 key) one.2 in
    subst (Contains raw) (λ i. (same_key-is one.0.0 key both.1 i, deny_is one.0.1 both.0 i)) one.1

there_deny : (raw : List Entry) (key : MapKey) → Contains raw (key, Deny) → denies_key key raw ≡ true
there_deny raw key has = any_from (λ (e : Entry). is_deny e.1 && same_key e.0 key) raw (key, Deny) has (same_key-self key)

under_none : (raw : List Entry) (e : Entry) → is_under_deny raw e ≡ false → IsUnderNoDeny raw e.0
under_none raw e f deny has =
    false_from_ne_true (strictly_covers deny e.0) (λ t.
    both_ways (is_under_deny raw e) f (any_from (λ (o : Entry). is_deny o.1 && strictly_covers o.0 e.0) raw (deny, Deny) has t))

not_under : (raw : List Entry) (e : Entry) → IsUnderNoDeny raw e.0 → is_under_deny raw e ≡ false
not_under raw e none =
    false_from_ne_true (is_under_deny raw e) (λ t.
    let one = passing (λ (o : Entry). is_deny o.1 && strictly_covers o.0 e.0) raw t in
    let both = and_parts (is_deny one.0.1) (strictly_covers one.0.0 e.0) one.2 in
    let has = subst (Contains raw) (λ i. (one.0.0, deny_is one.0.1 both.0 i)) one.1 in
    both_ways (strictly_covers one.0.0 e.0) (none one.0.0 has) both.1)

pub canonical_ascends : (raw : List Entry) → IsStrictlySortedBy entry_cmp (canonical raw)
canonical_ascends raw = IsStrictlySortedBy-filter entry_cmp (λ e. not (is_under_deny raw e)) (merged raw) (merged_ascends raw)

pub canonical_once : (raw : List Entry) → EachKeyOnce (canonical raw)
canonical_once raw = each_once (canonical raw) (canonical_ascends raw)

from_canonical : (raw : List Entry) (e : Entry) → Contains (canonical raw) e → Contains (merged raw) e × IsUnderNoDeny raw e.0
from_canonical raw e has =
    let kept = from_filter (λ e. not (is_under_deny raw e)) (merged raw) e has in
    (kept.0, under_none raw e (not-true (is_under_deny raw e) kept.1))

to_canonical : (raw : List Entry) (e : Entry) → Contains (merged raw) e → IsUnderNoDeny raw e.0 → Contains (canonical raw) e
to_canonical raw e has none =
    Contains-filter (λ e. not (is_under_deny raw e)) (merged raw) e (not_from_false (is_under_deny raw e) (not_under raw e none)) has

-- a map has a key exactly where a raw entry has it that lies under no deny
pub canonical_keys : (raw : List Entry) (key : MapKey) → HasKey (canonical raw) key ↔ (HasKey raw key × IsUnderNoDeny raw key)
canonical_keys raw key = (
  λ (kind, has). let kept = from_canonical raw (key, kind) has in (key_there raw key (merged_key raw (key, kind) kept.0), kept.1),
  λ (there, none). let kind = kind_of (denies_key key raw) refl in
      (kind.0, to_canonical raw (key, kind.0) (merged_has raw (key, kind.0) (there_key raw key there) kind.1) none),
)
  where
    kind_of : (b : Bool) → denies_key key raw ≡ b → (kind : Kind) × (denies_key key raw ≡ is_deny kind)
    kind_of true t = (Deny, t)
    kind_of false f = (Allow, f)

-- and it is a deny exactly where some raw entry of it is
pub canonical_denies : (raw : List Entry) (key : MapKey) (kind : Kind) → Contains (canonical raw) (key, kind) → (kind ≡ Deny) ↔ Contains raw (key, Deny)
canonical_denies raw key kind has =
    let own : denies_key key raw ≡ is_deny kind = merged_kind raw (key, kind) (from_canonical raw (key, kind) has).0 in (
      λ deny. deny_there raw key (own ∙ ap is_deny deny),
      λ there. deny_is kind (sym own ∙ there_deny raw key there),
    )

pub canonical_under_none : (raw : List Entry) (key : MapKey) → HasKey (canonical raw) key → IsUnderNoDeny (canonical raw) key
canonical_under_none raw key (kind, has) deny denies =
    (from_canonical raw (key, kind) has).1 deny ((canonical_denies raw deny Deny denies).0 refl)

pub canonical_same : (xs ys : List Entry) → HaveSameEntries xs ys → canonical xs ≡ canonical ys
canonical_same xs ys same =
    filter_agree (λ e. not (is_under_deny xs e)) (λ e. not (is_under_deny ys e)) (λ e. ap not (any_same _ xs ys same)) (merged xs)
    ∙ ap (filter (λ e. not (is_under_deny ys e))) (merged_same xs ys same)
