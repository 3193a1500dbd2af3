-- Two maps of prefixes, one of each family, seen as one.
use Rattle.std.proofs.Common.{◌≡◌, ℕ, ◌+◌, ◌↔◌, Bool, true, false, ◌&&◌, T, cond, List, [], ◌∷◌, ◌++◌, is_some, IsSome, IsNone, IsTrue, IfSome, OnOk, OnErr, Option, Some, None, Result, Ok, Err, refl, sym, ap, subst, ◌∙◌, length-append}
use Rattle.std.specs.Option.{option_or}
use Rattle.std.specs.Ordering.{eq_by_cmp, is_eq, is_lt}
use Rattle.std.specs.declared.cmp.Ordering.{Ordering}
use Rattle.std.specs.declared.cmp.Ordering.TheVariants.{Less, Equal, Greater}
use Rattle.std.specs.FinMap as map
use Rattle.std.specs.FinMap.Entries.{below_all}
use Rattle.pol_addr.specs.declared.family.Family.{Family}
use Rattle.pol_addr.specs.declared.family.Family.TheVariants.{Ipv4, Ipv6}
use Rattle.pol_addr.specs.declared.address.Addr.{Addr}
use Rattle.pol_addr.specs.Address.{family_of}
use Rattle.pol_addr.specs.declared.network.Prefix.{Prefix}
use Rattle.pol_addr.specs.Prefix.{contains}
use Rattle.pol_addr.specs.Order.{prefix_cmp}
use Rattle.pol_addr.proofs.Containment.{contains-family}
use Rattle.pol_addr.proofs.Order.{prefix_cmp_total, prefix_cmp-IsAntisymmetric, same_tied, tied_same}
use Rattle.pol_prefix_table.specs.Table.{IsLongestMatch, IsOf, NoneMatches, PrefixMap, joined}
use Rattle.pol_prefix_table.proofs.Bound.{Fresh, len_fresh}

abbrev pub Tied : Prefix → Prefix → Bool
Tied q p = eq_by_cmp prefix_cmp q p

-- ---- look-ups
find_step : (b : Bool) (number : ℕ) (all front back : Option ℕ) → all ≡ option_or front back → cond b (Some number) all ≡ option_or (cond b (Some number) front) back
find_step true number all front back rest = refl
find_step false number all front back rest = rest

find_both : (xs ys : List (Prefix × ℕ)) (q : Prefix) → map.find prefix_cmp q (xs ++ ys) ≡ option_or (map.find prefix_cmp q xs) (map.find prefix_cmp q ys)
find_both [] ys q = refl
find_both (x ∷ xs) ys q = find_step (Tied q x.0) x.1 (map.find prefix_cmp q (xs ++ ys)) (map.find prefix_cmp q xs) (map.find prefix_cmp q ys) (find_both xs ys q)

pub get-joined : (m n : PrefixMap) (q : Prefix) → map.get (joined m n) q ≡ option_or (map.get m q) (map.get n q)
get-joined m n q =
    map.get-from_entries prefix_cmp_total (map.entries m ++ map.entries n) q ∙ find_both (map.entries m) (map.entries n) q
    ∙ (λ i. option_or (sym (map.get-entries m q) i) (sym (map.get-entries n q) i))

or_none : (o : Option ℕ) → option_or o None ≡ o
or_none None = refl
or_none (Some x) = refl

-- a map of one family has no prefix of another
pub other_none : (f : Family) (m : PrefixMap) → IsOf f m → (q : Prefix) → (family_of q.addr ≡ f → ⊥) → map.get m q ≡ None
other_none f m of q other = by (map.get m q) refl
  where
    by : (o : Option ℕ) → map.get m q ≡ o → o ≡ None
    by None is = refl
    by (Some x) is = absurd (other (of q (ap is_some is)))

four_not_six : Ipv4 ≡ Ipv6 → ⊥
four_not_six same = cc

-- what holds on success, and what follows from it
pub on_ok : {A E : Type 0} (r : Result A E) (P Q : Type 0) → (P → Q) → OnOk r P → OnOk r Q
on_ok (Ok x) P Q gives h = gives h
on_ok (Err e) P Q gives h = tt

pub joined-empty : joined map.empty map.empty ≡ map.empty
joined-empty =
    map.same_map prefix_cmp_total prefix_cmp-IsAntisymmetric (joined map.empty map.empty) map.empty (λ q.
    get-joined map.empty map.empty q ∙ (λ i. option_or (map.get-empty prefix_cmp q i) (map.get-empty prefix_cmp q i)) ∙ sym (map.get-empty prefix_cmp q))

-- ---- one map of each family
module _ (m n : PrefixMap) (of4 : IsOf Ipv4 m) (of6 : IsOf Ipv6 n) where
  none6 : (q : Prefix) → family_of q.addr ≡ Ipv4 → map.get n q ≡ None
  none6 q own = other_none Ipv6 n of6 q (λ other. four_not_six (sym own ∙ other))

  none4 : (q : Prefix) → family_of q.addr ≡ Ipv6 → map.get m q ≡ None
  none4 q own = other_none Ipv4 m of4 q (λ other. four_not_six (sym other ∙ own))

  pub get4 : (q : Prefix) → family_of q.addr ≡ Ipv4 → map.get (joined m n) q ≡ map.get m q
  get4 q own = get-joined m n q ∙ ap (option_or (map.get m q)) (none6 q own) ∙ or_none (map.get m q)

  pub get6 : (q : Prefix) → family_of q.addr ≡ Ipv6 → map.get (joined m n) q ≡ map.get n q
  get6 q own = get-joined m n q ∙ ap (λ o. option_or o (map.get n q)) (none4 q own)

  -- a prefix that comes
  pub insert4 : (p : Prefix) (x : ℕ) → joined (map.insert m p x) n ≡ map.insert (joined m n) p x
  insert4 p x =
      map.same_map prefix_cmp_total prefix_cmp-IsAntisymmetric (joined (map.insert m p x) n) (map.insert (joined m n) p x) (λ q.
      get-joined (map.insert m p x) n q ∙ ap (λ o. option_or o (map.get n q)) (map.get-insert prefix_cmp_total m p x q) ∙ by q (Tied q p)
      ∙ sym (map.get-insert prefix_cmp_total (joined m n) p x q ∙ ap (cond (Tied q p) (Some x)) (get-joined m n q)))
    where
      by : (q : Prefix) (b : Bool) → option_or (cond b (Some x) (map.get m q)) (map.get n q) ≡ cond b (Some x) (option_or (map.get m q) (map.get n q))
      by q true = refl
      by q false = refl

  pub insert6 : (p : Prefix) (x : ℕ) → family_of p.addr ≡ Ipv6 → joined m (map.insert n p x) ≡ map.insert (joined m n) p x
  insert6 p x own =
      map.same_map prefix_cmp_total prefix_cmp-IsAntisymmetric (joined m (map.insert n p x)) (map.insert (joined m n) p x) (λ q.
      get-joined m (map.insert n p x) q ∙ ap (option_or (map.get m q)) (map.get-insert prefix_cmp_total n p x q) ∙ by q (Tied q p) refl
      ∙ sym (map.get-insert prefix_cmp_total (joined m n) p x q ∙ ap (cond (Tied q p) (Some x)) (get-joined m n q)))
    where
      by : (q : Prefix) (b : Bool) → Tied q p ≡ b → option_or (map.get m q) (cond b (Some x) (map.get n q)) ≡ cond b (Some x) (option_or (map.get m q) (map.get n q))
      by q true tied = ap (λ o. option_or o (Some x)) (none4 q (ap (λ r. family_of r.addr) (same_tied q p tied) ∙ own))
      by q false tied = refl

  -- a prefix that goes
  pub remove4 : (p : Prefix) → family_of p.addr ≡ Ipv4 → joined (map.remove m p) n ≡ map.remove (joined m n) p
  remove4 p own =
      map.same_map prefix_cmp_total prefix_cmp-IsAntisymmetric (joined (map.remove m p) n) (map.remove (joined m n) p) (λ q.
      get-joined (map.remove m p) n q ∙ ap (λ o. option_or o (map.get n q)) (map.get-remove prefix_cmp_total m p q) ∙ by q (Tied q p) refl
      ∙ sym (map.get-remove prefix_cmp_total (joined m n) p q ∙ ap (cond (Tied q p) None) (get-joined m n q)))
    where
      by : (q : Prefix) (b : Bool) → Tied q p ≡ b → option_or (cond b None (map.get m q)) (map.get n q) ≡ cond b None (option_or (map.get m q) (map.get n q))
      by q true tied = none6 q (ap (λ r. family_of r.addr) (same_tied q p tied) ∙ own)
      by q false tied = refl

  pub remove6 : (p : Prefix) → family_of p.addr ≡ Ipv6 → joined m (map.remove n p) ≡ map.remove (joined m n) p
  remove6 p own =
      map.same_map prefix_cmp_total prefix_cmp-IsAntisymmetric (joined m (map.remove n p)) (map.remove (joined m n) p) (λ q.
      get-joined m (map.remove n p) q ∙ ap (option_or (map.get m q)) (map.get-remove prefix_cmp_total n p q) ∙ by q (Tied q p) refl
      ∙ sym (map.get-remove prefix_cmp_total (joined m n) p q ∙ ap (cond (Tied q p) None) (get-joined m n q)))
    where
      by : (q : Prefix) (b : Bool) → Tied q p ≡ b → option_or (map.get m q) (cond b None (map.get n q)) ≡ cond b None (option_or (map.get m q) (map.get n q))
      by q true tied = ap (λ o. option_or o None) (none4 q (ap (λ r. family_of r.addr) (same_tied q p tied) ∙ own))
      by q false tied = refl

-- ---- what stays of one family
pub IsOf-empty : (f : Family) → IsOf f map.empty
IsOf-empty f p some = absurd (let wrong : true ≡ false = sym some ∙ ap is_some (map.get-empty prefix_cmp p) in cc)

pub IsOf-insert : (f : Family) (m : PrefixMap) (p : Prefix) (x : ℕ) → IsOf f m → family_of p.addr ≡ f → IsOf f (map.insert m p x)
IsOf-insert f m p x of own q some = by (Tied q p) refl (subst (λ o. IsSome o) (map.get-insert prefix_cmp_total m p x q) some)
  where
    by : (b : Bool) → Tied q p ≡ b → IsSome (cond b (Some x) (map.get m q)) → family_of q.addr ≡ f
    by true tied there = ap (λ r. family_of r.addr) (same_tied q p tied) ∙ own
    by false tied there = of q there

pub IsOf-remove : (f : Family) (m : PrefixMap) (p : Prefix) → IsOf f m → IsOf f (map.remove m p)
IsOf-remove f m p of q some = by (Tied q p) (subst (λ o. IsSome o) (map.get-remove prefix_cmp_total m p q) some)
  where
    by : (b : Bool) → IsSome (cond b None (map.get m q)) → family_of q.addr ≡ f
    by true there = absurd (cc)
    by false there = of q there

pub IsOf-inserted : {E : Type 0} (f : Family) (old new : PrefixMap) (p : Prefix) (x : ℕ) (r : Result (Unit {0}) E) → OnOk r (new ≡ map.insert old p x) → OnErr r (new ≡ old) → IsOf f old → family_of p.addr ≡ f → IsOf f new
IsOf-inserted f old new p x (Ok done) ok err of own = subst (IsOf f) (sym ok) (IsOf-insert f old p x of own)
IsOf-inserted f old new p x (Err e) ok err of own = subst (IsOf f) (sym err) of

-- ---- the longest match, in the map of the address's family and in both
module _ (own all : PrefixMap) (addr : Addr) (same : (p : Prefix) → family_of p.addr ≡ family_of addr → map.get all p ≡ map.get own p) where
  its_family : (p : Prefix) → IsTrue (contains p addr) → family_of p.addr ≡ family_of addr
  its_family p inside = sym (contains-family p addr inside)

  match_in_all : (x : ℕ) → IsLongestMatch own addr x → IsLongestMatch all addr x
  match_in_all x h = record {
    prefix = h.prefix;
    found = same h.prefix (its_family h.prefix h.inside) ∙ h.found;
    inside = h.inside;
    longest = λ p matches. h.longest p (subst (λ o. IsSome o) (same p (its_family p matches.1)) matches.0, matches.1);
  }

  pub found_in_all : (r : Option ℕ) → IfSome r (IsLongestMatch own addr) → IfSome r (IsLongestMatch all addr)
  found_in_all None h = h
  found_in_all (Some x) h = match_in_all x h

  pub none_in_all : (r : Option ℕ) → IsNone r ↔ NoneMatches own addr → IsNone r ↔ NoneMatches all addr
  none_in_all r none = (
    λ is p matches. none.0 is p (subst (λ o. IsSome o) (same p (its_family p matches.1)) matches.0, matches.1),
    λ no. none.1 (λ p matches. no p (subst (λ o. IsSome o) (sym (same p (its_family p matches.1))) matches.0, matches.1)),
  )

-- ---- how many
T_first : (a b : Bool) → T (a && b) → T a
T_first true b h = tt
T_first false b h = absurd h

T_second : (a b : Bool) → T (a && b) → T b
T_second true b h = h
T_second false b h = absurd h

none_below : (x : Prefix) (es : List (Prefix × ℕ)) → T (below_all prefix_cmp x es) → map.find prefix_cmp x es ≡ None
none_below x [] h = refl
none_below x (e ∷ es) h = by (prefix_cmp x e.0) (T_first (is_lt (prefix_cmp x e.0)) (below_all prefix_cmp x es) h) (none_below x es (T_second (is_lt (prefix_cmp x e.0)) (below_all prefix_cmp x es) h))
  where
    by : (o : Ordering) → T (is_lt o) → map.find prefix_cmp x es ≡ None → cond (is_eq o) (Some e.1) (map.find prefix_cmp x es) ≡ None
    by Less less none = none
    by Equal less none = absurd less
    by Greater less none = absurd less

fresh_sorted : (es : List (Prefix × ℕ)) → T (map.is_sorted prefix_cmp es) → Fresh es
fresh_sorted [] h = tt
fresh_sorted (e ∷ es) h =
    (none_below e.0 es (T_first (below_all prefix_cmp e.0 es) (map.is_sorted prefix_cmp es) h), fresh_sorted es (T_second (below_all prefix_cmp e.0 es) (map.is_sorted prefix_cmp es) h))

fresh_both : (xs ys : List (Prefix × ℕ)) → Fresh xs → Fresh ys → ((q : Prefix) → IsSome (map.find prefix_cmp q xs) → map.find prefix_cmp q ys ≡ None) → Fresh (xs ++ ys)
fresh_both [] ys fresh fresh' apart = fresh'
fresh_both (x ∷ xs) ys fresh fresh' apart = (
  find_both xs ys x.0 ∙ (λ i. option_or (fresh.0 i) (apart x.0 first i)),
  fresh_both xs ys fresh.1 fresh' (λ q some. apart q (later q (Tied q x.0) some)),
)
  where
    first : IsSome (map.find prefix_cmp x.0 (x ∷ xs))
    first = ap (λ b. is_some (cond b (Some x.1) (map.find prefix_cmp x.0 xs))) (tied_same x.0 x.0 refl)

    later : (q : Prefix) (b : Bool) → IsSome (map.find prefix_cmp q xs) → IsSome (cond b (Some x.1) (map.find prefix_cmp q xs))
    later q true some = refl
    later q false some = some

pub len-joined : (m n : PrefixMap) → IsOf Ipv4 m → IsOf Ipv6 n → map.len (joined m n) ≡ map.len m + map.len n
len-joined m n of4 of6 =
    let apart : (q : Prefix) → IsSome (map.find prefix_cmp q (map.entries m)) → map.find prefix_cmp q (map.entries n) ≡ None = λ q some.
    sym (map.get-entries n q) ∙ none6 m n of4 of6 q (of4 q (subst (λ o. IsSome o) (sym (map.get-entries m q)) some)) in
    let fresh = fresh_both (map.entries m) (map.entries n) (fresh_sorted (map.entries m) (map.entries_sorted m)) (fresh_sorted (map.entries n) (map.entries_sorted n)) apart in
    len_fresh (map.entries m ++ map.entries n) fresh ∙ length-append (map.entries m) (map.entries n) ∙ (λ i. sym (map.len-entries m) i + sym (map.len-entries n) i)
