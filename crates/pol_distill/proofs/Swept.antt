-- A sweep over entries in the order of their keys, which keeps the last deny that it kept: it leaves out just what
-- lies strictly under a deny.
use Rattle.std.proofs.Common.{◌≡◌, Bool, true, false, not, cond, if◌then◌else◌, ◌&&◌, ◌||◌, List, [], ◌∷◌, Option, None, Some, filter, refl, sym, ◌∙◌, ap}
use Rattle.std.proofs.lemmas.Bool.{and_parts, both_ways, false_from_ne_true, or_from}
use Rattle.std.specs.List.{AllByRecursion}
use Rattle.std.specs.List.Sorted.{IsStrictlySortedBy}
use Rattle.std.specs.declared.cmp.Ordering.TheVariants.{Less}
use Rattle.pol_mapkey.specs.MapKey.{covers, key_cmp, same_key, strictly_covers}
use Rattle.pol_mapkey.specs.Entries.{Entry, is_deny}
use Rattle.pol_mapkey.specs.declared.MapKey.{MapKey}
use Rattle.pol_mapkey.proofs.Equality.{same_key-self}
use Rattle.pol_model.specs.PolicyMap.{is_under_deny}
use Rattle.pol_model_laws.proofs.Merged.{entry_cmp}
use Rattle.pol_distill.specs.Passing.{is_covered, last_deny}
use Rattle.pol_distill.specs.Sorted.{IsSmall}
use Rattle.pol_distill.proofs.Between.{key_between, no_later_covers, strict_covers, strict_in_order, strict_through}

-- the sweep, with the last deny that it kept
abbrev pub swept : Option MapKey → List Entry → List Entry
swept open' [] = []
swept open' (entry ∷ entries) = if is_covered open' entry.0 then swept open' entries else entry ∷ swept (last_deny open' entry) entries

-- the open deny stands before all entries that are left
abbrev StandsBefore : Option MapKey → List Entry → Type 0
StandsBefore None entries = Unit {0}
StandsBefore (Some open') entries = AllByRecursion (λ (e : Entry). key_cmp open' e.0 ≡ Less) entries

stands_after : (open' : Option MapKey) (x : Entry) (xs : List Entry) → StandsBefore open' (x ∷ xs) → StandsBefore open' xs
stands_after None x xs all = tt
stands_after (Some o) x xs all = all.1

stands_opened : (b : Bool) (open' : Option MapKey) (x : Entry) (xs : List Entry) → AllByRecursion (λ (e : Entry). entry_cmp x e ≡ Less) xs
    → StandsBefore open' (x ∷ xs) → StandsBefore (cond b (Some x.0) open') xs
stands_opened true open' x xs above all = above
stands_opened false open' x xs above all = stands_after open' x xs all

-- one test that another implies
or_implied : (a d : Bool) → (d ≡ true → a ≡ true) → (a || d) ≡ a
or_implied true d implied = refl
or_implied false true implied = sym (implied refl)
or_implied false false implied = refl

or_implies : (a d : Bool) → (a ≡ true → d ≡ true) → (a || d) ≡ d
or_implies true d implies = sym (implies refl)
or_implies false d implies = refl

or_later : (a d u : Bool) → (a || (d || u)) ≡ ((a || d) || u)
or_later true d u = refl
or_later false d u = refl

or_none : (a : Bool) → (a || false) ≡ a
or_none true = refl
or_none false = refl

-- after an entry that is left out, what it covers is covered already
left_out : (open' : Option MapKey) (b : Bool) (x : Entry) (xs : List Entry) → StandsBefore open' (x ∷ xs) → is_covered open' x.0 ≡ true
    → (e : Entry) → entry_cmp x e ≡ Less → (is_covered open' e.0 || b && strictly_covers x.0 e.0) ≡ is_covered open' e.0
left_out None b x xs all t e less = absurd (let wrong : ⊥ = cc in wrong)
left_out (Some o) b x xs all t e less =
    or_implied (strictly_covers o e.0) (b && strictly_covers x.0 e.0) (λ u.
    strict_through o x.0 e.0 all.0 less t (and_parts b (strictly_covers x.0 e.0) u).1)

-- after one that is kept, what the open deny covers lies under it too, if it is a deny
kept_open : (b : Bool) (open' : Option MapKey) (x : Entry) (xs : List Entry) → StandsBefore open' (x ∷ xs) → is_covered open' x.0 ≡ false → IsSmall x
    → (e : Entry) → IsSmall e → entry_cmp x e ≡ Less → (is_covered open' e.0 || b && strictly_covers x.0 e.0) ≡ is_covered (cond b (Some x.0) open') e.0
kept_open false open' x xs all f small e small_e less = or_none (is_covered open' e.0)
kept_open true None x xs all f small e small_e less = refl
kept_open true (Some o) x xs all f small e small_e less =
    or_implies (strictly_covers o e.0) (strictly_covers x.0 e.0) (λ t. absurd (
    let over = key_between o x.0 e.0 (strict_covers o e.0 t) small small_e all.0 less in
    both_ways (strictly_covers o x.0) f (strict_in_order o x.0 all.0 over)))

-- nothing that stands behind an entry lies over it
none_later : (x : Entry) (xs : List Entry) → AllByRecursion (λ (e : Entry). entry_cmp x e ≡ Less) xs → is_under_deny xs x ≡ false
none_later x [] above = refl
none_later x (e ∷ es) above =
    or_from (is_deny e.1 && strictly_covers e.0 x.0) (is_under_deny es x)
    (false_from_ne_true _ (λ t. no_later_covers x.0 e.0 above.0 (strict_covers e.0 x.0 (and_parts (is_deny e.1) (strictly_covers e.0 x.0) t).1)))
    (none_later x es above.1)

not_over_itself : (x : Entry) → (is_deny x.1 && strictly_covers x.0 x.0) ≡ false
not_over_itself x =
    false_from_ne_true _ (λ t.
    let strict = (and_parts (is_deny x.1) (strictly_covers x.0 x.0) t).1 in
    let apart : not (same_key x.0 x.0) ≡ true = (and_parts (covers x.0 x.0) (not (same_key x.0 x.0)) strict).1 in
    let wrong : not true ≡ true = ap not (sym (same_key-self x.0)) ∙ apart in cc)

none_over_first : (x : Entry) (xs : List Entry) → AllByRecursion (λ (e : Entry). entry_cmp x e ≡ Less) xs → is_under_deny (x ∷ xs) x ≡ false
none_over_first x xs above =
    or_from (is_deny x.1 && strictly_covers x.0 x.0) (is_under_deny xs x) (not_over_itself x) (none_later x xs above)

-- what lies under a deny of all entries lies under the open one, or under one of those that are left
module _ (all : List Entry) where
  Agrees : Option MapKey → List Entry → Entry → Type 0
  Agrees open' left e = is_under_deny all e ≡ (is_covered open' e.0 || is_under_deny left e)

  agrees_on : (open' next : Option MapKey) (x : Entry) (left ys : List Entry)
      → ((e : Entry) → IsSmall e → entry_cmp x e ≡ Less → (is_covered open' e.0 || is_deny x.1 && strictly_covers x.0 e.0) ≡ is_covered next e.0)
      → AllByRecursion IsSmall ys → AllByRecursion (λ (e : Entry). entry_cmp x e ≡ Less) ys → AllByRecursion (Agrees open' (x ∷ left)) ys
      → AllByRecursion (Agrees next left) ys
  unfolding Agrees
  agrees_on open' next x left [] step small above agree = tt
  agrees_on open' next x left (e ∷ es) step small above agree = (
    agree.0 ∙ or_later (is_covered open' e.0) (is_deny x.1 && strictly_covers x.0 e.0) (is_under_deny left e)
        ∙ ap (λ b. b || is_under_deny left e) (step e small.0 above.0),
    agrees_on open' next x left es step small.1 above.1 agree.1,
  )

  turn : (b u : Bool) → u ≡ b → (x : Entry) (skipped taken kept : List Entry) → (b ≡ true → skipped ≡ kept) → (b ≡ false → taken ≡ kept)
      → cond b skipped (x ∷ taken) ≡ cond (not u) (x ∷ kept) kept
  turn true u same x skipped taken kept skip take = skip refl ∙ sym (ap (λ c. cond (not c) (x ∷ kept) kept) same)
  turn false u same x skipped taken kept skip take = ap (λ l. x ∷ l) (take refl) ∙ sym (ap (λ c. cond (not c) (x ∷ kept) kept) same)

  swept_from : (open' : Option MapKey) (ys : List Entry) → IsStrictlySortedBy entry_cmp ys → AllByRecursion IsSmall ys → StandsBefore open' ys
      → AllByRecursion (Agrees open' ys) ys → swept open' ys ≡ filter (λ e. not (is_under_deny all e)) ys
  unfolding IsStrictlySortedBy Agrees
  swept_from open' [] up small stands agree = refl
  swept_from open' (x ∷ xs) up small stands agree =
      let own : is_under_deny all x ≡ is_covered open' x.0 =
      agree.0 ∙ ap (λ b. is_covered open' x.0 || b) (none_over_first x xs up.0) ∙ or_none (is_covered open' x.0) in
      turn (is_covered open' x.0) (is_under_deny all x) own x (swept open' xs) (swept (last_deny open' x) xs) (filter (λ e. not (is_under_deny all e)) xs)
      (λ t. swept_from open' xs up.1 small.1 (stands_after open' x xs stands)
      (agrees_on open' open' x xs xs (λ e _ less. left_out open' (is_deny x.1) x xs stands t e less) small.1 up.0 agree.1))
      (λ f. swept_from (last_deny open' x) xs up.1 small.1 (stands_opened (is_deny x.1) open' x xs up.0 stands)
      (agrees_on open' (last_deny open' x) x xs xs (λ e small_e less. kept_open (is_deny x.1) open' x xs stands f small.0 e small_e less) small.1 up.0 agree.1))

  agrees_first : (ys : List Entry) → AllByRecursion (Agrees None all) ys
  unfolding Agrees
  agrees_first [] = tt
  agrees_first (y ∷ ys) = (refl, agrees_first ys)

-- the sweep of entries whose keys ascend leaves out what lies strictly under a deny
pub swept_is : (ys : List Entry) → IsStrictlySortedBy entry_cmp ys → AllByRecursion IsSmall ys → swept None ys ≡ filter (λ e. not (is_under_deny ys e)) ys
swept_is ys up small = swept_from ys None ys up small tt (agrees_first ys ys)
