-- The ranges of a group, of a number's groups, and of several numbers' groups.
use Rattle.std.proofs.Common.{◌≡◌, ℕ, zero, suc, ◌+◌, ◌<◌, ◌≤◌, List, [], ◌∷◌, ◌++◌, take, get_or, length, refl, sym, ap, subst, ◌∙◌, inl, inr, append_assoc, arith}
use Rattle.std.specs.List.{Contains, flat_map}
use Rattle.std.specs.List.Sorted.{IsStrictlySortedBy}
use Rattle.std.specs.Ordering.{nat_cmp}
use Rattle.std.specs.declared.cmp.Ordering.TheVariants.{Less}
use Rattle.std.proofs.lemmas.Bool.{cond-true, lt-ltb}
use Rattle.std.proofs.lemmas.Grind.{flat_map-append}
use Rattle.std.proofs.lemmas.List.{append-nil}
use Rattle.std.proofs.lemmas.List.Elements.{Contains-append_cases, Contains-append_left, Contains-append_right, Contains-get_or}
use Rattle.pol_data.proofs.Members.{Contains-cases, Contains-here, Contains-later, Contains-from_In, In, In-from_Contains, every-from_in}
use Rattle.pol_ports.specs.declared.Direction.{Direction}
use Rattle.pol_ports.specs.declared.Proto.{Proto}
use Rattle.pol_ports.specs.declared.Proto.TheVariants.{Tcp, Udp, Sctp}
use Rattle.pol_mapkey.specs.Entries.{Entry}
use Rattle.pol_audit.specs.declared.difference.Difference.{Difference}
use Rattle.pol_audit.specs.declared.group.Group.{Group}
use Rattle.pol_audit.specs.Cuts.{all_cuts, cuts_at}
use Rattle.pol_audit.specs.Exact.{AreAmong, AreOf, Grown, groups_at, words_of}
use Rattle.pol_audit.specs.Ranges.{ranges_from}
use Rattle.pol_audit.proofs.Orders.{Apart, joined, none_of}
use Rattle.pol_audit.proofs.Pieces.{ranges_exact, same_words-self}
use Rattle.pol_audit.proofs.Walk.{ranges_same}
use Rattle.pol_audit.proofs.Steady.{HasCuts, above_head, in_flat_map, in_left, in_right, in_left_every, in_right_every, of_cuts, steady, tail_ascends}

ascends_one : (n : ℕ) → IsStrictlySortedBy nat_cmp (n ∷ [])
unfolding IsStrictlySortedBy
ascends_one n = (tt, tt)

pub less_from : (x y : ℕ) → x < y → nat_cmp x y ≡ Less
less_from x y below = cond-true _ Less _ (lt-ltb x y below)

above_zero : (p : ℕ) (ps : List ℕ) → IsStrictlySortedBy nat_cmp (suc p ∷ ps) → IsStrictlySortedBy nat_cmp (0 ∷ suc p ∷ ps)
unfolding IsStrictlySortedBy
above_zero p ps up = (
  (less_from 0 (suc p) (omega arith), every-from_in (λ z. nat_cmp 0 z ≡ Less) ps (λ z there. less_from 0 z (let above = above_head (suc p) ps up z (Contains-from_In ps z there) in omega arith))),
  up,
)

-- ---- one group
module _ (left right own_left own_right every_left every_right : List Entry) (g : Group) (ports : List ℕ) where
  module _ (cuts : (n : ℕ) → Contains (all_cuts g.proto own_left own_right every_left every_right) n → Contains ports n) where
    has_left : AreAmong g.dir g.id left own_left every_left → HasCuts g left ports
    has_left among e there dir number for' n inside =
        let at = of_cuts g.proto e n for' inside in
        cuts n (elim (among e there dir number) [
          | inl own ↦ in_left g.proto own_left own_right every_left every_right n (in_flat_map (cuts_at g.proto) own_left e n own at)
          | inr every ↦ in_left_every g.proto own_left own_right every_left every_right n (in_flat_map (cuts_at g.proto) every_left e n every at)
        ])

    has_right : AreAmong g.dir g.id right own_right every_right → HasCuts g right ports
    has_right among e there dir number for' n inside =
        let at = of_cuts g.proto e n for' inside in
        cuts n (elim (among e there dir number) [
          | inl own ↦ in_right g.proto own_left own_right every_left every_right n (in_flat_map (cuts_at g.proto) own_right e n own at)
          | inr every ↦ in_right_every g.proto own_left own_right every_left every_right n (in_flat_map (cuts_at g.proto) every_right e n every at)
        ])

    module _ (small : (n : ℕ) → Contains ports n → n < 65536) (among_left : AreAmong g.dir g.id left own_left every_left) (among_right : AreAmong g.dir g.id right own_right every_right) where
      -- from 0 on, with the cuts behind it
      from_zero : (ps : List ℕ) → IsStrictlySortedBy nat_cmp (0 ∷ ps) → ((n : ℕ) → 0 < n → Contains ports n → Contains ps n) → ((n : ℕ) → Contains ps n → Contains ports n)
          → AreOf left right (g ∷ []) (ranges_from g (words_of left right g) 0 ps)
      from_zero ps up all from = ranges_exact left right g ps (steady left right g ports (has_left among_left) (has_right among_right) small 0 ps up all from)

      -- whether or not the cuts begin with 0
      exact : (ps : List ℕ) → IsStrictlySortedBy nat_cmp ps → ((n : ℕ) → Contains ports n → Contains ps n) → ((n : ℕ) → Contains ps n → Contains ports n)
          → AreOf left right (g ∷ []) (ranges_from g (words_of left right g) 0 ps)
      exact [] up all from = from_zero [] (ascends_one 0) (λ n above there. all n there) from
      exact (zero ∷ ps) up all from =
          subst (AreOf left right (g ∷ [])) (sym (ranges_same g (words_of left right g) 0 0 ps (same_words-self (words_of left right g 0))))
          (from_zero ps up (λ n above there. elim (Contains-cases 0 ps n (all n there)) [
            | inl is ↦ absurd (omega (arith, is))
            | inr later ↦ later
          ]) (λ n there. from n (Contains-later 0 ps n there)))
      exact (suc p ∷ ps) up all from = from_zero (suc p ∷ ps) (above_zero p ps up) (λ n above there. all n there) from

    pub group_exact : IsStrictlySortedBy nat_cmp ports → ((n : ℕ) → Contains ports n → n < 65536) → AreAmong g.dir g.id left own_left every_left → AreAmong g.dir g.id right own_right every_right
        → AreOf left right (g ∷ []) (ranges_from g (words_of left right g) 0 ports)
    group_exact up small among_left among_right = exact small among_left among_right ports up (λ n there. there) (λ n there. there)

-- ---- several groups
module _ (left right : List Entry) where
  pub grown_more : (gs hs : List Group) (a b c : List Difference) → Grown left right gs a b → Grown left right hs b c
      → ((g h : Group) → Contains gs g → Contains hs h → Apart g h) → Grown left right (gs ++ hs) a c
  grown_more gs hs a b c one two apart =
      (one.0 ++ two.0, two.1 ∙ ap (λ xs. xs ++ two.0) one.1 ∙ append_assoc a one.0 two.0, joined left right gs hs one.0 two.0 one.2 two.2 apart)

  pub grown_none : (a : List Difference) → Grown left right [] a a
  grown_none a = ([], sym (append-nil a), none_of left right)

only : {X : Type 0} (x y : X) → Contains (x ∷ []) y → x ≡ y
only x y there = elim (Contains-cases x [] y there) [ inl is ↦ is | inr none ↦ absurd (let below = none.1 in omega arith) ]

module _ (dir : Direction) (id : ℕ) where
  abbrev at : Proto → Group
  at proto = record { dir = dir; id = id; proto = proto }

  pub tcp_udp : (g h : Group) → Contains (at Tcp ∷ []) g → Contains (at Udp ∷ []) h → Apart g h
  tcp_udp g h in_g in_h =
      subst (λ x. Apart x h) (only (at Tcp) g in_g) (subst (λ y. Apart (at Tcp) y) (only (at Udp) h in_h) (inr (refl, inr (refl, inl (omega arith)))))

  pub both_sctp : (g h : Group) → Contains (at Tcp ∷ at Udp ∷ []) g → Contains (at Sctp ∷ []) h → Apart g h
  both_sctp g h in_g in_h =
      subst (λ y. Apart g y) (only (at Sctp) h in_h) (elim (Contains-cases (at Tcp) (at Udp ∷ []) g in_g) [
        | inl is ↦ subst (λ x. Apart x (at Sctp)) is (inr (refl, inr (refl, inl (omega arith))))
        | inr later ↦ subst (λ x. Apart x (at Sctp)) (only (at Udp) g later) (inr (refl, inr (refl, inl (omega arith))))
      ])

  -- what a group of the number is
  pub of_number : (g : Group) → Contains (groups_at dir id) g → (g.dir ≡ dir) × (g.id ≡ id)
  of_number g there = elim (Contains-cases (at Tcp) (at Udp ∷ at Sctp ∷ []) g there) [
    | inl is ↦ (ap (λ (x : Group). x.dir) (sym is), ap (λ (x : Group). x.id) (sym is))
    | inr later ↦ elim (Contains-cases (at Udp) (at Sctp ∷ []) g later) [
      | inl is ↦ (ap (λ (x : Group). x.dir) (sym is), ap (λ (x : Group). x.id) (sym is))
      | inr last ↦ (let is = only (at Sctp) g last in (ap (λ (x : Group). x.dir) (sym is), ap (λ (x : Group). x.id) (sym is)))
    ]
  ]

  pub has_proto : (proto : Proto) → Contains (groups_at dir id) (at proto)
  has_proto Tcp = Contains-here (at Tcp) (at Udp ∷ at Sctp ∷ [])
  has_proto Udp = Contains-later (at Tcp) (at Udp ∷ at Sctp ∷ []) (at Udp) (Contains-here (at Udp) (at Sctp ∷ []))
  has_proto Sctp = Contains-later (at Tcp) (at Udp ∷ at Sctp ∷ []) (at Sctp) (Contains-later (at Udp) (at Sctp ∷ []) (at Sctp) (Contains-here (at Sctp) []))

module _ (dir : Direction) where
  -- which groups those of some numbers are
  pub of_numbers : (numbers : List ℕ) (g : Group) → Contains (flat_map (groups_at dir) numbers) g → (g.dir ≡ dir) × Contains numbers g.id
  of_numbers [] g there = absurd (let below = there.1 in omega arith)
  of_numbers (n ∷ numbers) g there = elim (Contains-append_cases (groups_at dir n) (flat_map (groups_at dir) numbers) g there) [
    | inl here ↦ (let is = of_number dir n g here in (is.0, subst (λ m. Contains (n ∷ numbers) m) (sym is.1) (Contains-here n numbers)))
    | inr later ↦ (let is = of_numbers numbers g later in (is.0, Contains-later n numbers g.id is.1))
  ]

  pub has_numbers : (numbers : List ℕ) (n : ℕ) (proto : Proto) → Contains numbers n → Contains (flat_map (groups_at dir) numbers) (at dir n proto)
  has_numbers numbers n proto there = Contains-from_In (flat_map (groups_at dir) numbers) (at dir n proto) (each numbers (In-from_Contains numbers n there))
    where
      each : (ns : List ℕ) → In n ns → In (at dir n proto) (flat_map (groups_at dir) ns)
      each [] there = elim there [ ]
      each (m ∷ ns) (inl same) =
          In-from_Contains (groups_at dir m ++ flat_map (groups_at dir) ns) (at dir n proto)
          (Contains-append_left (groups_at dir m) (flat_map (groups_at dir) ns) (at dir n proto) (subst (λ k. Contains (groups_at dir k) (at dir n proto)) (sym same) (has_proto dir n proto)))
      each (m ∷ ns) (inr later) =
          In-from_Contains (groups_at dir m ++ flat_map (groups_at dir) ns) (at dir n proto)
          (Contains-append_right (groups_at dir m) (flat_map (groups_at dir) ns) (at dir n proto) (Contains-from_In (flat_map (groups_at dir) ns) (at dir n proto) (each ns later)))

  -- one number more
  pub next_number : (left right : List Entry) (numbers : List ℕ) (i : ℕ) (a b c : List Difference) → IsStrictlySortedBy nat_cmp numbers → i < length numbers
      → Grown left right (flat_map (groups_at dir) (take i numbers)) a b → Grown left right (groups_at dir (get_or numbers i 0)) b c
      → Grown left right (flat_map (groups_at dir) (take (i + 1) numbers)) a c
  next_number left right numbers i a b c up below begun more =
      subst (λ gs. Grown left right gs a c) joins (grown_more left right (flat_map (groups_at dir) (take i numbers)) (groups_at dir (get_or numbers i 0)) a b c begun more apart)
    where
      split : (k : ℕ) (ns : List ℕ) → k < length ns → take (k + 1) ns ≡ take k ns ++ get_or ns k 0 ∷ []
      split k [] less = absurd (omega arith)
      split zero (n ∷ ns) less = refl
      split (suc k) (n ∷ ns) less = ap (λ j. take j (n ∷ ns)) (let e : suc k + 1 ≡ suc (k + 1) = omega arith in e) ∙ ap (λ ms. n ∷ ms) (split k ns (omega arith))

      joins : flat_map (groups_at dir) (take i numbers) ++ groups_at dir (get_or numbers i 0) ≡ flat_map (groups_at dir) (take (i + 1) numbers)
      joins = sym (flat_map-append (groups_at dir) (take i numbers) (get_or numbers i 0 ∷ [])) ∙ ap (flat_map (groups_at dir)) (sym (split i numbers below))

      lower : (k j : ℕ) (ns : List ℕ) (n : ℕ) → Contains (take k ns) n → k ≤ j → j < length ns → IsStrictlySortedBy nat_cmp ns → n < get_or ns j 0
      lower zero j ns n there le less up' = absurd (let none = there.1 in omega arith)
      lower (suc k) j [] n there le less up' = absurd (omega arith)
      lower (suc k) zero (m ∷ ns) n there le less up' = absurd (omega arith)
      lower (suc k) (suc j) (m ∷ ns) n there le less up' = elim (Contains-cases m (take k ns) n there) [
        | inl is ↦ subst (λ x. x < get_or ns j 0) is (above_head m ns up' (get_or ns j 0) (Contains-get_or ns j 0 (omega arith)))
        | inr later ↦ lower k j ns n later (omega arith) (omega arith) (tail_ascends m ns up')
      ]

      apart : (g h : Group) → Contains (flat_map (groups_at dir) (take i numbers)) g → Contains (groups_at dir (get_or numbers i 0)) h → Apart g h
      apart g h in_g in_h =
          let one = of_numbers (take i numbers) g in_g in
          let two = of_number dir (get_or numbers i 0) h in_h in
          inr (one.0 ∙ sym two.0, inl (let less = lower i i numbers g.id one.1 (omega arith) below up in let at' = two.1 in omega arith))
