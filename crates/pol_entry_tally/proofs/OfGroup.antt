-- The changes at keys of one group.
use Rattle.std.proofs.Common.{◌≡◌, ℕ, ◌+◌, ◌*◌, ◌/◌, ◌%◌, ◌^◌, ◌<◌, ◌≤◌, true, cond, not, nat_eq, nat_lt, List, [], ◌∷◌, ◌++◌, map, Option, Some, None, is_some, ◌⊎◌, refl, sym, ◌∙◌, ap, inl, inr, arith}
use Rattle.std.specs.List.{AllByRecursion, Contains}
use Rattle.std.specs.List.Sorted.{IsStrictlySortedBy}
use Rattle.std.specs.Cmp.{ranks}
use Rattle.std.specs.Ordering.{MatchOrdering, is_eq, nat_cmp, ordering_reverse, ordering_then}
use Rattle.std.specs.declared.cmp.Ordering.{Ordering}
use Rattle.std.specs.declared.cmp.Ordering.TheVariants.{Less, Equal, Greater}
use Rattle.std.proofs.lemmas.Bool.{and_from, both_ways, cases_Bool, cases_lt, eq-eqb, eqb-true, lt-ltb, or_left, or_right}
use Rattle.std.proofs.lemmas.List.Sums.{sum_by-append}
use Rattle.pol_data.proofs.Counts.{count_by-cons}
use Rattle.pol_data.proofs.Members.{Contains-cases}
use Rattle.pol_ports.specs.Direction.{direction_cmp}
use Rattle.pol_ports.specs.PortPrefix.{prefix_cmp}
use Rattle.pol_ports.specs.declared.Direction.{Direction}
use Rattle.pol_ports.specs.declared.Direction.TheVariants.{Ingress, Egress}
use Rattle.pol_mapkey.specs.KeyProto.{key_proto_cmp, proto_place}
use Rattle.pol_mapkey.specs.MapKey.{key_cmp, same_key}
use Rattle.pol_mapkey.specs.declared.Kind.{Kind}
use Rattle.pol_mapkey.specs.declared.MapKey.{MapKey}
use Rattle.pol_mapkey.proofs.Equality.{same_key-self}
use Rattle.pol_mapkey.proofs.KeyOrder.{key_cmp_total}
use Rattle.pol_map_changes.specs.declared.change.Change.{Change}
use Rattle.pol_map_changes.specs.declared.change.Change.TheVariants.{Set, Clear}
use Rattle.pol_map_changes.specs.Changes.{difference_at}
use Rattle.pol_map_changes.proofs.Said.{same_of}
use Rattle.pol_entry_tally.specs.Numbers.{dir_at, dir_place, fits, group_of, key_in, key_of, local_of, number_of}
use Rattle.pol_entry_tally.specs.Affected.{GoesOn, IsLocal, change_at, changes_at, changes_in, has_key, says}
use Rattle.pol_entry_tally.specs.Sizes.{clear_count, is_new, new_count}
use Rattle.pol_entry_tally.specs.Times.{Times, kind_of}
use Rattle.pol_entry_tally.proofs.ByNumber.{fits_is, key_again, local_small, number_is, one_in_group, proto_small}
use Rattle.pol_entry_tally.proofs.Under.{kind_alike}

-- ---- keys are in order by their numbers
then_less : (o p : Ordering) → ordering_then o p ≡ Less → (o ≡ Less) ⊎ ((o ≡ Equal) × (p ≡ Less))
then_less Less p e = inl refl
then_less Equal p e = inr (refl, e)
then_less Greater p e = absurd (let wrong : ⊥ = cc in wrong)

dirs_less : (a b : Direction) → direction_cmp a b ≡ Less → dir_place a < dir_place b
dirs_less Ingress Ingress e = absurd (let wrong : ⊥ = cc in wrong)
dirs_less Ingress Egress e = omega arith
dirs_less Egress Ingress e = absurd (let wrong : ⊥ = cc in wrong)
dirs_less Egress Egress e = absurd (let wrong : ⊥ = cc in wrong)

dirs_same : (a b : Direction) → direction_cmp a b ≡ Equal → dir_place a ≡ dir_place b
dirs_same Ingress Ingress e = refl
dirs_same Ingress Egress e = absurd (let wrong : ⊥ = cc in wrong)
dirs_same Egress Ingress e = absurd (let wrong : ⊥ = cc in wrong)
dirs_same Egress Egress e = refl

nats_less : (x y : ℕ) → nat_cmp x y ≡ Less → x < y
nats_less x y e = by (nat_cmp x y) (ranks x y) e
  where
    by : (o : Ordering) → MatchOrdering o (x < y) (x ≡ y) (y < x) → o ≡ Less → x < y
    by Less less _ = less
    by Equal _ wrong = absurd (let none : ⊥ = cc in none)
    by Greater _ wrong = absurd (let none : ⊥ = cc in none)

nats_same : (x y : ℕ) → nat_cmp x y ≡ Equal → x ≡ y
nats_same x y e = by (nat_cmp x y) (ranks x y) e
  where
    by : (o : Ordering) → MatchOrdering o (x < y) (x ≡ y) (y < x) → o ≡ Equal → x ≡ y
    by Less _ wrong = absurd (let none : ⊥ = cc in none)
    by Equal same _ = same
    by Greater _ wrong = absurd (let none : ⊥ = cc in none)

abbrev digits : ℕ → ℕ → ℕ → ℕ → ℕ → ℕ
digits d i p b l = d * 2 ^ 55 + i * 2 ^ 23 + p * 2 ^ 21 + b * 2 ^ 5 + l

module _ (d d' i i' p p' b b' l l' : ℕ) (i_small : i < 2 ^ 32) (p_small : p ≤ 3) (b_small : b < 2 ^ 16) (l_small : l ≤ 16) where
  by_dir : d < d' → digits d i p b l < digits d' i' p' b' l'
  by_dir less = omega (arith, less, i_small, p_small, b_small, l_small)

  by_id : d ≡ d' → i < i' → digits d i p b l < digits d' i' p' b' l'
  by_id same less = omega (arith, same, less, p_small, b_small, l_small)

  by_proto : d ≡ d' → i ≡ i' → p < p' → digits d i p b l < digits d' i' p' b' l'
  by_proto same same' less = omega (arith, same, same', less, b_small, l_small)

  by_bits : d ≡ d' → i ≡ i' → p ≡ p' → b < b' → digits d i p b l < digits d' i' p' b' l'
  by_bits same same' same'' less = omega (arith, same, same', same'', less, l_small)

  by_len : d ≡ d' → i ≡ i' → p ≡ p' → b ≡ b' → l < l' → digits d i p b l < digits d' i' p' b' l'
  by_len same same' same'' same''' less = omega (arith, same, same', same'', same''', less)

less_number : (a c : MapKey) → fits a ≡ true → key_cmp a c ≡ Less → number_of a < number_of c
less_number a c fit e =
    let small = fits_is a fit in
    let few = proto_small a.proto in
    elim (then_less (direction_cmp a.dir c.dir) (ordering_then (nat_cmp a.id c.id) (ordering_then (key_proto_cmp a.proto c.proto) (prefix_cmp a.port c.port))) e) [
      | inl dirs ↦ by_dir (dir_place a.dir) (dir_place c.dir) a.id c.id (proto_place a.proto) (proto_place c.proto) a.port.bits c.port.bits a.port.len c.port.len small.0 few small.1 a.port.short (dirs_less a.dir c.dir dirs)
      | inr rest ↦
          (let d = dirs_same a.dir c.dir rest.0 in
          elim (then_less (nat_cmp a.id c.id) (ordering_then (key_proto_cmp a.proto c.proto) (prefix_cmp a.port c.port)) rest.1) [
            | inl ids ↦ by_id (dir_place a.dir) (dir_place c.dir) a.id c.id (proto_place a.proto) (proto_place c.proto) a.port.bits c.port.bits a.port.len c.port.len small.0 few small.1 a.port.short d (nats_less a.id c.id ids)
            | inr rest' ↦
                (let i = nats_same a.id c.id rest'.0 in
                elim (then_less (key_proto_cmp a.proto c.proto) (prefix_cmp a.port c.port) rest'.1) [
                  | inl protos ↦ by_proto (dir_place a.dir) (dir_place c.dir) a.id c.id (proto_place a.proto) (proto_place c.proto) a.port.bits c.port.bits a.port.len c.port.len small.0 few small.1 a.port.short d i (nats_less (proto_place a.proto) (proto_place c.proto) protos)
                  | inr ports ↦
                      (let p = nats_same (proto_place a.proto) (proto_place c.proto) ports.0 in
                      elim (then_less (nat_cmp a.port.bits c.port.bits) (nat_cmp a.port.len c.port.len) ports.1) [
                        | inl bits ↦ by_bits (dir_place a.dir) (dir_place c.dir) a.id c.id (proto_place a.proto) (proto_place c.proto) a.port.bits c.port.bits a.port.len c.port.len small.0 few small.1 a.port.short d i p (nats_less a.port.bits c.port.bits bits)
                        | inr lens ↦ by_len (dir_place a.dir) (dir_place c.dir) a.id c.id (proto_place a.proto) (proto_place c.proto) a.port.bits c.port.bits a.port.len c.port.len small.0 few small.1 a.port.short d i p (nats_same a.port.bits c.port.bits lens.0) (nats_less a.port.len c.port.len lens.1)
                      ])
                ])
          ])
    ]

pub key_less : (a b : MapKey) → fits a ≡ true → fits b ≡ true → number_of a < number_of b → key_cmp a b ≡ Less
key_less a b fit fit' less = by (key_cmp a b) refl
  where
    by : (o : Ordering) → key_cmp a b ≡ o → o ≡ Less
    by Less e = refl
    by Equal e =
        let same : a ≡ b = same_of a b (ap is_eq e) in
        absurd (omega (arith, less, ap number_of same))
    by Greater e =
        let back : key_cmp b a ≡ Less = key_cmp_total.antisymm b a ∙ ap ordering_reverse e in
        absurd (omega (arith, less, less_number b a fit' back))

-- ---- a key of the group for each place
dir_again : (n : ℕ) → n ≤ 1 → dir_place (dir_at n) ≡ n
dir_again n few =
    elim (cases_Bool (nat_eq n 0)) [
      | inl t ↦ ap (λ b. dir_place (cond b Ingress Egress)) t ∙ sym (eqb-true n 0 t)
      | inr f ↦
          ap (λ b. dir_place (cond b Ingress Egress)) f
          ∙ elim (cases_lt 0 n) [ inl more ↦ omega (arith, more, few) | inr least ↦ absurd (both_ways (nat_eq n 0) f (eq-eqb n 0 (omega (arith, least)))) ]
    ]

abbrev in_group : ℕ → MapKey → MapKey
in_group g q = record { dir = dir_at (g / 2 ^ 32); id = g % 2 ^ 32; proto = q.proto; port = q.port; every_port = q.every_port }

group_again : (g : ℕ) (q : MapKey) → g < 2 ^ 33 → group_of (in_group g q) ≡ g
group_again g q small = let few : g / 2 ^ 32 ≤ 1 = omega (arith, small) in omega (arith, dir_again (g / 2 ^ 32) few)

fits_in : (g : ℕ) (q : MapKey) → fits q ≡ true → fits (in_group g q) ≡ true
fits_in g q fit =
    let small : g % 2 ^ 32 < 2 ^ 32 = omega arith in
    and_from (nat_lt (g % 2 ^ 32) (2 ^ 32)) (nat_lt q.port.bits (2 ^ 16)) (lt-ltb (g % 2 ^ 32) (2 ^ 32) small) (lt-ltb q.port.bits (2 ^ 16) (fits_is q fit).1)

key_in_is : (g n : ℕ) (q : MapKey) → g < 2 ^ 33 → fits q ≡ true → n ≡ local_of q → key_in g n ≡ in_group g q
key_in_is g n q small fit is =
    let number : g * 2 ^ 23 + n ≡ number_of (in_group g q) = omega (arith, is, number_is (in_group g q), group_again g q small) in
    ap key_of number ∙ key_again (in_group g q) (fits_in g q fit)

pub record IsKeyIn (g n : ℕ) : Type 0 where
  pub fit : fits (key_in g n) ≡ true
  pub group : group_of (key_in g n) ≡ g
  pub local : local_of (key_in g n) ≡ n
  pub number : number_of (key_in g n) ≡ g * 2 ^ 23 + n

pub key_there : (g n : ℕ) → g < 2 ^ 33 → IsLocal n → IsKeyIn g n
key_there g n small own =
    let q = own.0 in
    let is : key_in g n ≡ in_group g q = key_in_is g n q small own.1 own.2 in
    let grouped : group_of (key_in g n) ≡ g = ap group_of is ∙ group_again g q small in
    let locals : local_of (key_in g n) ≡ n = ap local_of is ∙ sym own.2 in
    record {
      fit = ap fits is ∙ fits_in g q own.1;
      group = grouped;
      local = locals;
      number = number_is (key_in g n) ∙ (λ i. grouped i * 2 ^ 23 + locals i);
    }

-- ---- what is listed of a group
one_new : (a b : Times) (k : MapKey) (s : Option (Option Kind)) → kind_of a k ≡ kind_of b k → new_count a (change_at k s) ≡ new_count b (change_at k s)
one_new a b k None same = refl
one_new a b k (Some None) same = count_by-cons (is_new a) (Clear k) [] ∙ sym (count_by-cons (is_new b) (Clear k) [])
one_new a b k (Some (Some kind)) same =
    count_by-cons (is_new a) (Set k kind) [] ∙ ap (λ (o : Option Kind). cond {A = ℕ} (not (is_some o)) 1 0 + 0) same ∙ sym (count_by-cons (is_new b) (Set k kind) [])

new_append : (a : Times) (xs ys : List Change) → new_count a (xs ++ ys) ≡ new_count a xs + new_count a ys
new_append a xs ys = sum_by-append (λ c. cond (is_new a c) 1 0) xs ys

module _ (g : ℕ) (small : g < 2 ^ 33) (one two before after : Times)
    (was : (q : MapKey) (k : Kind) → group_of q ≡ g → before q k ≡ one q k) (is : (q : MapKey) (k : Kind) → group_of q ≡ g → after q k ≡ two q k) where
  own_group : (w q : MapKey) → w.dir ≡ q.dir → w.id ≡ q.id → group_of q ≡ g → group_of w ≡ g
  own_group w q dirs ids of = (λ i. dir_place (dirs i) * 2 ^ 32 + ids i) ∙ of

  kind_was : (q : MapKey) → group_of q ≡ g → kind_of one q ≡ kind_of before q
  kind_was q of = kind_alike one before q (λ w k dirs ids. sym (was w k (own_group w q dirs ids of)))

  kind_now : (q : MapKey) → group_of q ≡ g → kind_of two q ≡ kind_of after q
  kind_now q of = kind_alike two after q (λ w k dirs ids. sym (is w k (own_group w q dirs ids of)))

  abbrev keys : List ℕ → List MapKey
  keys asked = map (key_in g) asked

  same_changes : (asked : List ℕ) → AllByRecursion IsLocal asked → changes_in g one two asked ≡ changes_at before after (keys asked)
  same_changes [] all = refl
  same_changes (n ∷ ns) all =
      let q = key_in g n in
      let of = (key_there g n small all.0).group in
      λ i. change_at q (difference_at (kind_was q of i) (kind_now q of i)) ++ same_changes ns all.1 i

  same_new : (asked : List ℕ) → AllByRecursion IsLocal asked → new_count one (changes_in g one two asked) ≡ new_count before (changes_in g one two asked)
  same_new [] all = refl
  same_new (n ∷ ns) all =
      let q = key_in g n in
      let of = (key_there g n small all.0).group in
      new_append one (change_at q (says one two q)) (changes_in g one two ns)
      ∙ (λ i. one_new one before q (says one two q) (kind_was q of) i + same_new ns all.1 i)
      ∙ sym (new_append before (change_at q (says one two q)) (changes_in g one two ns))

  above : (n : ℕ) (ns : List ℕ) → IsLocal n → AllByRecursion IsLocal ns → AllByRecursion (λ m. nat_cmp n m ≡ Less) ns → AllByRecursion (λ k. key_cmp (key_in g n) k ≡ Less) (keys ns)
  above n [] own all less = tt
  above n (m ∷ ms) own all less =
      let one' = key_there g n small own in
      let two' = key_there g m small all.0 in
      let low = nats_less n m less.0 in
      (key_less (key_in g n) (key_in g m) one'.fit two'.fit (omega (arith, one'.number, two'.number, low)), above n ms own all.1 less.1)

  keys_ascend : (asked : List ℕ) → IsStrictlySortedBy nat_cmp asked → AllByRecursion IsLocal asked → IsStrictlySortedBy key_cmp (keys asked)
  unfolding IsStrictlySortedBy
  keys_ascend [] up all = tt
  keys_ascend (n ∷ ns) up all = (above n ns all.0 all.1 up.0, keys_ascend ns up.1 all.1)

  keys_within : (asked : List ℕ) → AllByRecursion IsLocal asked → AllByRecursion (λ k. (fits k ≡ true) × (g * 2 ^ 23 ≤ number_of k) × (number_of k < (g + 1) * 2 ^ 23)) (keys asked)
  keys_within [] all = tt
  keys_within (n ∷ ns) all =
      let own = key_there g n small all.0 in
      let low = local_small (key_in g n) own.fit in
      ((own.fit, omega (arith, own.number), omega (arith, own.number, own.local, low)), keys_within ns all.1)

  listed_there : (asked : List ℕ) (q : MapKey) → fits q ≡ true → group_of q ≡ g → AllByRecursion IsLocal asked → Contains asked (local_of q) → has_key q (keys asked) ≡ true
  listed_there [] q fit of all there = absurd (omega (arith, there.1))
  listed_there (n ∷ ns) q fit of all there =
      elim (Contains-cases n ns (local_of q) there) [
        | inl here ↦
            (let own = key_there g n small all.0 in
            let same : key_in g n ≡ q = one_in_group (key_in g n) q own.fit fit (own.group ∙ sym of) (own.local ∙ here) in
            or_left (same_key (key_in g n) q) (has_key q (keys ns)) (ap (λ k. same_key k q) same ∙ same_key-self q))
        | inr later ↦ or_right (same_key (key_in g n) q) (has_key q (keys ns)) (listed_there ns q fit of all.1 later)
      ]

  group_within : (q : MapKey) → fits q ≡ true → g * 2 ^ 23 ≤ number_of q → number_of q < (g + 1) * 2 ^ 23 → group_of q ≡ g
  group_within q fit low high = omega (arith, number_is q, local_small q fit, low, high)

  pub group_goes_on : (asked : List ℕ) → IsStrictlySortedBy nat_cmp asked → AllByRecursion IsLocal asked
      → ((q : MapKey) → fits q ≡ true → group_of q ≡ g → (Contains asked (local_of q) → ⊥) → kind_of before q ≡ kind_of after q)
      → (old new : List Change) (size grown : ℕ) → new ≡ old ++ changes_in g one two asked
      → grown + clear_count (changes_in g one two asked) ≡ size + new_count one (changes_in g one two asked)
      → GoesOn before after (g * 2 ^ 23) ((g + 1) * 2 ^ 23) old new size grown
  group_goes_on asked up all others old new size grown made sized =
      let same = same_changes asked all in
      record {
        keys = keys asked;
        ascends = keys_ascend asked up all;
        within = keys_within asked all;
        others = λ q fit low high none.
            let of = group_within q fit low high in
            others q fit of (λ there. both_ways (has_key q (keys asked)) none (listed_there asked q fit of all there));
        made = made ∙ ap (λ l. old ++ l) same;
        sized = omega (arith, sized, same_new asked all, ap clear_count same, ap (new_count before) same);
      }
