-- All addresses of a region have its number.
use Rattle.std.proofs.Common.{◌≡◌, ℕ, ◌≤◌, nat_le, Bool, true, false, cond, List, [], ◌∷◌, ◌++◌, drop, map, Option, None, Some, option_map, refl, sym, ap, subst, ◌∙◌, ◌⊎◌, inl, inr, arith}
use Rattle.std.specs.BTreeSet.{insert_key}
use Rattle.std.specs.List.{Contains}
use Rattle.std.specs.Option.{option_map_or}
use Rattle.std.specs.Ordering.{match_ordering}
use Rattle.std.specs.declared.cmp.Ordering.{Ordering}
use Rattle.std.specs.declared.cmp.Ordering.TheVariants.{Less, Equal, Greater}
use Rattle.std.proofs.lemmas.Bool.{cases_lt, le-leb, leb-true}
use Rattle.std.proofs.lemmas.List.Elements.{Contains-append_left, Contains-append_right}
use Rattle.pol_data.proofs.Members.{Contains-cases, Contains-here, Contains-later}
use Rattle.pol_addr.specs.Address.{IsAddr, family_of}
use Rattle.pol_addr.specs.declared.address.Addr.{Addr}
use Rattle.pol_addr.specs.declared.network.Prefix.{Prefix}
use Rattle.pol_addr.specs.Longest.{longer, longest_of}
use Rattle.pol_addr.specs.Order.{prefix_cmp}
use Rattle.pol_addr.specs.Prefix.{contains, covers, world}
use Rattle.pol_addr.specs.declared.family.Family.{Family}
use Rattle.pol_addr.specs.declared.family.Family.TheVariants.{Ipv4, Ipv6}
use Rattle.pol_addr.proofs.Containment.{contains-family, contains_through, covers_from_shared}
use Rattle.pol_addr.proofs.Order.{prefix_cmp-IsAntisymmetric}
use Rattle.pol_addr.proofs.World.{contains-world}
use Rattle.pol_model.specs.declared.limits.TheConstants.{RESERVED_LAST}
use Rattle.pol_model.specs.declared.row.Endpoint.{Endpoint}
use Rattle.pol_model.specs.declared.row.IdentityRow.{IdentityRow}
use Rattle.pol_model.specs.Remote.{endpoint_at, longest_at, number_at, numbered_prefixes}
use Rattle.pol_model.specs.State.{State}
use Rattle.pol_model.specs.Worlds.{world_around, world_in, world_of}
use Rattle.pol_model_laws.specs.Keeps.{Keeps, KeepsRows}
use Rattle.pol_model_laws.proofs.RowLedger.{begins}
use Rattle.pol_connections.specs.Regions.{held_prefixes, longest_over, prefixes_in_order, region_number, region_of, regions_of}

clash : (b : Bool) → b ≡ true → b ≡ false → ⊥
clash b t f = let wrong : true ≡ false = sym t ∙ f in cc

mapped : {A B : Type 0} (f : A → B) (xs : List A) (x : A) → Contains xs x → Contains (map f xs) (f x)
mapped f [] x there = absurd (let below = there.1 in omega arith)
mapped f (y ∷ ys) x there = elim (Contains-cases y ys x there) [
  | inl same ↦ subst (λ z. Contains (f y ∷ map f ys) (f z)) same (Contains-here (f y) (map f ys))
  | inr later ↦ Contains-later (f y) (map f ys) (f x) (mapped f ys x later)
]

-- ---- the longest that contains an address
abbrev IsLongest : Addr → List (Prefix × ℕ) → Option (Prefix × ℕ) → Type 0
IsLongest a es None = (e : Prefix × ℕ) → Contains es e → contains e.0 a ≡ false
IsLongest a es (Some best) = (contains best.0 a ≡ true) × ((e : Prefix × ℕ) → Contains es e → contains e.0 a ≡ true → e.0.len ≤ best.0.len)

module _ (a : Addr) where
  shorter : (m n : ℕ) → nat_le n m ≡ false → m ≤ n
  shorter m n f = elim (cases_lt n m) [ inl more ↦ absurd (clash (nat_le n m) (le-leb n m (omega arith)) f) | inr le ↦ le ]

  chosen : (e best : Prefix × ℕ) (es : List (Prefix × ℕ)) → contains e.0 a ≡ true → IsLongest a es (Some best) → (b : Bool) → nat_le best.0.len e.0.len ≡ b
      → IsLongest a (e ∷ es) (cond b (Some e) (Some best))
  chosen e best es has rest true le = (
    has,
    λ f there holds. elim (Contains-cases e es f there) [
      | inl same ↦ subst (λ g. g.0.len ≤ e.0.len) same (let k : e.0.len ≤ e.0.len = omega arith in k)
      | inr later ↦ (let one = rest.1 f later holds in let two = leb-true best.0.len e.0.len le in let k : f.0.len ≤ e.0.len = omega arith in k)
    ],
  )
  chosen e best es has rest false le = (
    rest.0,
    λ f there holds. elim (Contains-cases e es f there) [
      | inl same ↦ subst (λ g. g.0.len ≤ best.0.len) same (shorter e.0.len best.0.len le)
      | inr later ↦ rest.1 f later holds
    ],
  )

  with_head : (e : Prefix × ℕ) (es : List (Prefix × ℕ)) (o : Option (Prefix × ℕ)) → IsLongest a es o → (b : Bool) → contains e.0 a ≡ b → IsLongest a (e ∷ es) (cond b (longer e o) o)
  with_head e es None rest true has = (
    has,
    λ f there holds. elim (Contains-cases e es f there) [
      | inl same ↦ subst (λ g. g.0.len ≤ e.0.len) same (let k : e.0.len ≤ e.0.len = omega arith in k)
      | inr later ↦ absurd (clash (contains f.0 a) holds (rest f later))
    ],
  )
  with_head e es (Some best) rest true has = chosen e best es has rest (nat_le best.0.len e.0.len) refl
  with_head e es None rest false has = λ f there. elim (Contains-cases e es f there) [
    | inl same ↦ subst (λ g. contains g.0 a ≡ false) same has
    | inr later ↦ rest f later
  ]
  with_head e es (Some best) rest false has = (
    rest.0,
    λ f there holds. elim (Contains-cases e es f there) [
      | inl same ↦ absurd (clash (contains f.0 a) holds (subst (λ g. contains g.0 a ≡ false) same has))
      | inr later ↦ rest.1 f later holds
    ],
  )

  longest_is : (es : List (Prefix × ℕ)) → IsLongest a es (longest_of a es)
  longest_is [] = λ e there. absurd (let below = there.1 in omega arith)
  longest_is (e ∷ es) = with_head e es (longest_of a es) (longest_is es) (contains e.0 a) refl

  -- a region of the address contains it, and is the longest that does
  record IsRegion (regions : List Prefix) (region : Prefix) : Type 0 where
    has : contains region a ≡ true
    longest : (prefix : Prefix) → Contains regions prefix → contains prefix a ≡ true → prefix.len ≤ region.len

  region_is : (regions : List Prefix) (region : Prefix) → region_of a regions ≡ Some region → IsRegion regions region
  region_is regions region is = by (longest_of a (map (λ p. (p, 0)) regions)) (longest_is (map (λ p. (p, 0)) regions)) is
    where
      by : (o : Option (Prefix × ℕ)) → IsLongest a (map (λ p. (p, 0)) regions) o → option_map (λ found. found.0) o ≡ Some region → IsRegion regions region
      by None all same = absurd (let wrong : ⊥ = cc in wrong)
      by (Some best) all same =
          let one : best.0 ≡ region = cc in
          record {
            has = subst (λ p. contains p a ≡ true) one all.0;
            longest = λ prefix there holds. subst (λ p. prefix.len ≤ p.len) one (all.1 (prefix, 0) (mapped (λ p. (p, 0)) regions prefix there) holds);
          }

  -- what contains the address is what covers its region
  agree : (p q : Bool) → (p ≡ true → q ≡ true) → (q ≡ true → p ≡ true) → p ≡ q
  agree true q to back = sym (to refl)
  agree false true to back = back refl
  agree false false to back = refl

  longest_agree : (region : Prefix) (es : List (Prefix × ℕ)) → ((e : Prefix × ℕ) → Contains es e → contains e.0 a ≡ covers e.0 region) → longest_of a es ≡ longest_over region es
  longest_agree region [] same = refl
  longest_agree region (e ∷ es) same =
      let rest = longest_agree region es (λ f there. same f (Contains-later e es f there)) in
      λ i. cond (same e (Contains-here e es) i) (longer e (rest i)) (rest i)

  longest_in_region : (regions : List Prefix) (region : Prefix) (rows : List IdentityRow) → ((prefix : Prefix) → Contains (held_prefixes rows) prefix → Contains regions prefix)
      → IsRegion regions region → longest_at a rows ≡ longest_over region (numbered_prefixes rows)
  longest_in_region regions region rows all is =
      longest_agree region (numbered_prefixes rows) (λ e there.
      let held = all e.0 (mapped (λ f. f.0) (numbered_prefixes rows) e there) in
      agree (contains e.0 a) (covers e.0 region)
      (λ holds. covers_from_shared e.0 region a holds is.has (is.longest e.0 held holds))
      (λ over. contains_through e.0 region a over is.has))

pub number_in_region : (s : State) (regions : List Prefix) (region : Prefix) (a : Addr) → ((prefix : Prefix) → Contains (held_prefixes s.identities) prefix → Contains regions prefix)
    → endpoint_at a s.endpoints ≡ None → region_of a regions ≡ Some region → number_at a s.endpoints s.identities ≡ region_number region s.identities
number_in_region s regions region a all none is =
    let own = region_is a regions region is in
    ap (λ (o : Option Endpoint). option_map_or (λ (endpoint : Endpoint). endpoint.identity) o (option_map_or (λ (found : Prefix × ℕ). found.1) (longest_at a s.identities) (world_of a).identity)) none
    ∙ ap (λ (family : Family). option_map_or (λ (found : Prefix × ℕ). found.1) (longest_at a s.identities) (world_in family).identity) (contains-family region a own.has)
    ∙ ap (λ o. option_map_or (λ (found : Prefix × ℕ). found.1) o (world_around region).identity) (longest_in_region a regions region s.identities all own)

-- ---- the regions of two states have each prefix that either holds
module _ (k : Prefix) where
  into : (x : Prefix) (xs : List Prefix) (o : Ordering) → prefix_cmp k x ≡ o → (p : Prefix) → (k ≡ p) ⊎ Contains (x ∷ xs) p
      → ((q : Prefix) → (k ≡ q) ⊎ Contains xs q → Contains (insert_key prefix_cmp xs k) q)
      → Contains (match_ordering o (k ∷ x ∷ xs) (x ∷ xs) (x ∷ insert_key prefix_cmp xs k)) p
  into x xs Less is p (inl same) rest = subst (λ q. Contains (k ∷ x ∷ xs) q) same (Contains-here k (x ∷ xs))
  into x xs Less is p (inr there) rest = Contains-later k (x ∷ xs) p there
  into x xs Equal is p (inl same) rest = subst (λ q. Contains (x ∷ xs) q) (sym (prefix_cmp-IsAntisymmetric k x is) ∙ same) (Contains-here x xs)
  into x xs Equal is p (inr there) rest = there
  into x xs Greater is p (inl same) rest = Contains-later x (insert_key prefix_cmp xs k) p (rest p (inl same))
  into x xs Greater is p (inr there) rest = elim (Contains-cases x xs p there) [
    | inl same ↦ subst (λ q. Contains (x ∷ insert_key prefix_cmp xs k) q) same (Contains-here x (insert_key prefix_cmp xs k))
    | inr later ↦ Contains-later x (insert_key prefix_cmp xs k) p (rest p (inr later))
  ]

  inserted : (xs : List Prefix) (p : Prefix) → (k ≡ p) ⊎ Contains xs p → Contains (insert_key prefix_cmp xs k) p
  inserted [] p (inl same) = subst (λ q. Contains (k ∷ []) q) same (Contains-here k [])
  inserted [] p (inr there) = absurd (let below = there.1 in omega arith)
  inserted (x ∷ xs) p either = into x xs (prefix_cmp k x) refl p either (λ q e. inserted xs q e)

in_order : (xs : List Prefix) (p : Prefix) → Contains xs p → Contains (prefixes_in_order xs) p
unfolding prefixes_in_order
in_order [] p there = there
in_order (x ∷ xs) p there = elim (Contains-cases x xs p there) [
  | inl same ↦ inserted x (prefixes_in_order xs) p (inl same)
  | inr later ↦ inserted x (prefixes_in_order xs) p (inr (in_order xs p later))
]

pub held_before : (s t : State) (p : Prefix) → Contains (held_prefixes s.identities) p → Contains (regions_of s.identities t.identities) p
held_before s t p there = in_order (held_prefixes s.identities ++ held_prefixes t.identities) p (Contains-append_left (held_prefixes s.identities) (held_prefixes t.identities) p there)

pub held_after : (s t : State) (p : Prefix) → Contains (held_prefixes t.identities) p → Contains (regions_of s.identities t.identities) p
held_after s t p there = in_order (held_prefixes s.identities ++ held_prefixes t.identities) p (Contains-append_right (held_prefixes s.identities) (held_prefixes t.identities) p there)

-- ---- each address has a region
-- the rows of both worlds are always there
pub worlds_held : (rows : List IdentityRow) → KeepsRows rows → (family : Family) → Contains (held_prefixes rows) (world family)
worlds_held rows keeps family = subst (λ (held : List Prefix). Contains held (world family)) (sym (ap held_prefixes (begins keeps))) (by family)
  where
    rest : List Prefix
    rest = held_prefixes (drop RESERVED_LAST rows)

    by : (f : Family) → Contains (world Ipv4 ∷ world Ipv6 ∷ rest) (world f)
    by Ipv4 = Contains-here (world Ipv4) (world Ipv6 ∷ rest)
    by Ipv6 = Contains-later (world Ipv4) (world Ipv6 ∷ rest) (world Ipv6) (Contains-here (world Ipv6) rest)

pub each_world : (s : State) (family : Family) → Keeps s → Contains (held_prefixes s.identities) (world family)
each_world s family keeps = worlds_held s.identities keeps.identities family

abbrev HasRegion : Addr → List Prefix → Type 0
HasRegion a regions = (region : Prefix) × (region_of a regions ≡ Some region) × (family_of region.addr ≡ family_of a)

has_region : (a : Addr) (regions : List Prefix) → IsAddr a → Contains regions (world (family_of a)) → HasRegion a regions
has_region a regions small there = by (longest_of a (map (λ p. (p, 0)) regions)) (longest_is a (map (λ p. (p, 0)) regions)) refl
  where
    by : (o : Option (Prefix × ℕ)) → IsLongest a (map (λ p. (p, 0)) regions) o → longest_of a (map (λ p. (p, 0)) regions) ≡ o → HasRegion a regions
    by None none is =
        absurd (clash (contains (world (family_of a)) a) (contains-world a small) (none (world (family_of a), 0) (mapped (λ p. (p, 0)) regions (world (family_of a)) there)))
    by (Some best) all is = (best.0, ap (option_map (λ found. found.0)) is, sym (contains-family best.0 a all.0))

pub each_region : (s t : State) (a : Addr) → Keeps s → IsAddr a → HasRegion a (regions_of s.identities t.identities)
each_region s t a keeps small = has_region a (regions_of s.identities t.identities) small (held_before s t (world (family_of a)) (each_world s (family_of a) keeps))
