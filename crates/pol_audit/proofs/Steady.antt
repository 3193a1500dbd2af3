-- What a table says of a direction, number and protocol changes only where a prefix begins or has just ended.
use Rattle.std.proofs.Common.{◌≡◌, ℕ, ◌<◌, ◌≤◌, ◌&&◌, ◌||◌, ◌==◌, not, Bool, true, false, cond, nat_le, nat_lt, List, [], ◌∷◌, ◌++◌, Some, refl, sym, ap, subst, ◌∙◌, inl, inr, ◌⊎◌, arith}
use Rattle.std.specs.List.{Contains, find, flat_map, list_all}
use Rattle.std.specs.List.Sorted.{IsStrictlySortedBy}
use Rattle.std.specs.Ordering.{nat_cmp}
use Rattle.std.specs.declared.cmp.Ordering.TheVariants.{Less, Equal, Greater}
use Rattle.std.proofs.lemmas.Bool.{and_from, and_parts, cases_Bool, cases_lt, le-leb, leb-true, lt-ltb, le-ltb, ltb-true, eqb-true}
use Rattle.std.proofs.lemmas.List.Elements.{Contains-append_left, Contains-append_right}
use Rattle.pol_data.proofs.Members.{Contains-cases, Contains-here, Contains-later, In, In-from_Contains, Contains-from_In, every-in}
use Rattle.pol_ports.specs.declared.Direction.{Direction}
use Rattle.pol_ports.specs.declared.PortPrefix.{PortPrefix}
use Rattle.pol_ports.specs.declared.Proto.{Proto}
use Rattle.pol_ports.specs.PortPrefix.{end_of, prefix_holds}
use Rattle.pol_mapkey.specs.KeyProto.{key_proto, proto_covers}
use Rattle.pol_mapkey.specs.MapKey.{covers, covers_packet}
use Rattle.pol_mapkey.specs.Entries.{Entry, longest, reaches, read_map, word_of, all_cover}
use Rattle.pol_mapkey.proofs.Keys.{packet_from, packet_is}
use Rattle.pol_audit.specs.declared.group.Group.{Group}
use Rattle.pol_audit.specs.Cuts.{all_cuts, cuts_at, ends_of}
use Rattle.pol_audit.specs.Exact.{words_of}
use Rattle.pol_audit.proofs.Pieces.{Steady}

-- ---- equal tests find the same
module _ {X : Type 0} (p q : X → Bool) where
  find_agree : (xs : List X) → ((x : X) → Contains xs x → p x ≡ q x) → find p xs ≡ find q xs
  find_agree [] same = refl
  find_agree (x ∷ xs) same = λ i. cond (same x (Contains-here x xs) i) (Some x) (find_agree xs (λ y there. same y (Contains-later x xs y there)) i)

  all_agree : (xs : List X) → ((x : X) → Contains xs x → p x ≡ q x) → list_all p xs ≡ list_all q xs
  all_agree [] same = refl
  all_agree (x ∷ xs) same = λ i. same x (Contains-here x xs) i && all_agree xs (λ y there. same y (Contains-later x xs y there)) i

longest_agree : (entries : List Entry) (dir : Direction) (id : ℕ) (proto : Proto) (a b : ℕ)
    → ((e : Entry) → Contains entries e → reaches dir id proto a e ≡ reaches dir id proto b e) → longest entries dir id proto a ≡ longest entries dir id proto b
unfolding longest
longest_agree entries dir id proto a b same =
    find_agree (λ e. reaches dir id proto a e && all_cover (reaches dir id proto a) entries e.0) (λ e. reaches dir id proto b e && all_cover (reaches dir id proto b) entries e.0) entries
    (λ e there i. same e there i
    && all_agree (λ f. not (reaches dir id proto a f) || covers f.0 e.0) (λ f. not (reaches dir id proto b f) || covers f.0 e.0) entries (λ f in' j. not (same f in' j) || covers f.0 e.0) i)

-- ---- two ports between which no prefix begins or ends
le_agree : (x a b : ℕ) → a < b → (a < x → x ≤ b → ⊥) → nat_le x a ≡ nat_le x b
le_agree x a b less none =
    elim (cases_lt a x) [
      | inl above ↦ elim (cases_lt b x) [
        | inl far ↦ not_le x a above ∙ sym (not_le x b far)
        | inr near ↦ absurd (none above near)
      ]
      | inr below ↦ le-leb x a below ∙ sym (le-leb x b (omega arith))
    ]
  where
    not_le : (x a : ℕ) → a < x → nat_le x a ≡ false
    not_le x a above = elim (cases_Bool (nat_le x a)) [ inl t ↦ absurd (let le = leb-true x a t in omega arith) | inr f ↦ f ]

lt_agree : (x a b : ℕ) → a < b → (a < x → x ≤ b → ⊥) → nat_lt a x ≡ nat_lt b x
lt_agree x a b less none =
    elim (cases_lt a x) [
      | inl above ↦ elim (cases_lt b x) [
        | inl far ↦ lt-ltb a x above ∙ sym (lt-ltb b x far)
        | inr near ↦ absurd (none above near)
      ]
      | inr below ↦ le-ltb a x below ∙ sym (le-ltb b x (omega arith))
    ]

holds_agree : (p : PortPrefix) (a b : ℕ) → a < b → (a < p.bits → p.bits ≤ b → ⊥) → (a < end_of p → end_of p ≤ b → ⊥) → prefix_holds p a ≡ prefix_holds p b
holds_agree p a b less begin' end' = λ i. le_agree p.bits a b less begin' i && lt_agree (end_of p) a b less end' i

-- ---- the ports of an entry are among the cuts
module _ {X : Type 0} (f : X → List ℕ) where
  pub in_flat_map : (xs : List X) (x : X) (n : ℕ) → Contains xs x → Contains (f x) n → Contains (flat_map f xs) n
  in_flat_map xs x n there inside = Contains-from_In (flat_map f xs) n (each xs (In-from_Contains xs x there))
    where
      each : (ys : List X) → In x ys → In n (flat_map f ys)
      each [] there = elim there [ ]
      each (y ∷ ys) (inl same) = In-from_Contains (f y ++ flat_map f ys) n (Contains-append_left (f y) (flat_map f ys) n (subst (λ z. Contains (f z) n) (sym same) inside))
      each (y ∷ ys) (inr later) = In-from_Contains (f y ++ flat_map f ys) n (Contains-append_right (f y) (flat_map f ys) n (Contains-from_In (flat_map f ys) n (each ys later)))

begin_in : (p : PortPrefix) → Contains (ends_of p) p.bits
begin_in p = Contains-here p.bits (cond (nat_lt (end_of p) 65536) (end_of p ∷ []) [])

end_in : (p : PortPrefix) → end_of p < 65536 → Contains (ends_of p) (end_of p)
end_in p below =
    let at : Bool → Type 0 = λ b. Contains (p.bits ∷ cond b (end_of p ∷ []) []) (end_of p) in
    subst at (sym (lt-ltb (end_of p) 65536 below)) (Contains-later p.bits (end_of p ∷ []) (end_of p) (Contains-here (end_of p) []))

pub of_cuts : (proto : Proto) (e : Entry) (n : ℕ) → proto_covers e.0.proto (key_proto proto) ≡ true → Contains (ends_of e.0.port) n → Contains (cuts_at proto e) n
of_cuts proto e n for' there = let at : Bool → Type 0 = λ b. Contains (cond b (ends_of e.0.port) []) n in subst at (sym for') there

module _ (proto : Proto) (a b c d : List Entry) (n : ℕ) where
  abbrev cut : List Entry → List ℕ
  cut xs = flat_map (cuts_at proto) xs

  pub in_left : Contains (cut a) n → Contains (all_cuts proto a b c d) n
  in_left t =
      Contains-append_left ((cut a ++ cut b) ++ cut c) (cut d) n (Contains-append_left (cut a ++ cut b) (cut c) n (Contains-append_left (cut a) (cut b) n t))

  pub in_right : Contains (cut b) n → Contains (all_cuts proto a b c d) n
  in_right t =
      Contains-append_left ((cut a ++ cut b) ++ cut c) (cut d) n (Contains-append_left (cut a ++ cut b) (cut c) n (Contains-append_right (cut a) (cut b) n t))

  pub in_left_every : Contains (cut c) n → Contains (all_cuts proto a b c d) n
  in_left_every t = Contains-append_left ((cut a ++ cut b) ++ cut c) (cut d) n (Contains-append_right (cut a ++ cut b) (cut c) n t)

  pub in_right_every : Contains (cut d) n → Contains (all_cuts proto a b c d) n
  in_right_every t = Contains-append_right ((cut a ++ cut b) ++ cut c) (cut d) n t

-- ---- what a table says between two cuts
-- the ports where the prefixes of a table's entries begin and have just ended are among the cuts
abbrev pub HasCuts : Group → List Entry → List ℕ → Type 0
HasCuts g entries cuts = (e : Entry) → Contains entries e → e.0.dir ≡ g.dir → (e.0.id ≡ g.id) ⊎ (e.0.id ≡ 0) → proto_covers e.0.proto (key_proto g.proto) ≡ true
    → (n : ℕ) → Contains (ends_of e.0.port) n → Contains cuts n

module _ (g : Group) (entries : List Entry) (cuts : List ℕ) (has : HasCuts g entries cuts) (a b : ℕ) (less : a < b) (small : b < 65536)
    (none : (n : ℕ) → a < n → n ≤ b → Contains cuts n → ⊥) where
  -- either test true leads to the other
  to_other : (id : ℕ) → (id ≡ g.id) ⊎ (id ≡ 0) → (e : Entry) → Contains entries e → (x y : ℕ) → (e.0.dir ≡ g.dir → (e.0.id ≡ g.id) ⊎ (e.0.id ≡ 0) → proto_covers e.0.proto (key_proto g.proto) ≡ true → prefix_holds e.0.port x ≡ prefix_holds e.0.port y)
      → reaches g.dir id g.proto x e ≡ true → reaches g.dir id g.proto y e ≡ true
  to_other id either e there x y same t =
      let both = and_parts (e.0.id == id) (covers_packet e.0 g.dir g.proto x) t in
      let is = packet_is e.0 g.dir g.proto x both.1 in
      let ids = eqb-true e.0.id id both.0 in
      let number : (e.0.id ≡ g.id) ⊎ (e.0.id ≡ 0) = elim either [ inl s ↦ inl (ids ∙ s) | inr s ↦ inr (ids ∙ s) ] in
      let holds = same is.0 number is.1 in
      and_from (e.0.id == id) (covers_packet e.0 g.dir g.proto y) both.0 (packet_from e.0 g.dir g.proto y is.0 is.1 (sym holds ∙ is.2))

  agree : (p q : Bool) → (p ≡ true → q ≡ true) → (q ≡ true → p ≡ true) → p ≡ q
  agree true q to back = sym (to refl)
  agree false true to back = back refl
  agree false false to back = refl

  held : (e : Entry) → Contains entries e → e.0.dir ≡ g.dir → (e.0.id ≡ g.id) ⊎ (e.0.id ≡ 0) → proto_covers e.0.proto (key_proto g.proto) ≡ true → prefix_holds e.0.port a ≡ prefix_holds e.0.port b
  held e there dir number for' =
      holds_agree e.0.port a b less
      (λ above near. none e.0.port.bits above near (has e there dir number for' e.0.port.bits (begin_in e.0.port)))
      (λ above near. none (end_of e.0.port) above near (has e there dir number for' (end_of e.0.port) (end_in e.0.port (omega (arith, near, small)))))

  reach_agree : (id : ℕ) → (id ≡ g.id) ⊎ (id ≡ 0) → (e : Entry) → Contains entries e → reaches g.dir id g.proto a e ≡ reaches g.dir id g.proto b e
  reach_agree id either e there =
      agree (reaches g.dir id g.proto a e) (reaches g.dir id g.proto b e) (to_other id either e there a b (held e there))
      (to_other id either e there b a (λ dir number for'. sym (held e there dir number for')))

  pub read_agree : read_map entries g.dir g.id g.proto a ≡ read_map entries g.dir g.id g.proto b
  unfolding read_map
  read_agree =
      λ i. word_of (longest_agree entries g.dir g.id g.proto a b (reach_agree g.id (inl refl)) i) (longest_agree entries g.dir 0 g.proto a b (reach_agree 0 (inr refl)) i)

-- ---- from port to port
pub less_is : (x y : ℕ) → nat_cmp x y ≡ Less → x < y
less_is x y less = by (nat_lt x y) refl (x == y) less
  where
    by : (b : Bool) → nat_lt x y ≡ b → (e : Bool) → cond b Less (cond e Equal Greater) ≡ Less → x < y
    by true is e less = ltb-true x y is
    by false is true less = absurd (let wrong : ⊥ = cc in wrong)
    by false is false less = absurd (let wrong : ⊥ = cc in wrong)

-- the rest of a list that ascends is above its head
pub above_head : (x : ℕ) (xs : List ℕ) → IsStrictlySortedBy nat_cmp (x ∷ xs) → (y : ℕ) → Contains xs y → x < y
unfolding IsStrictlySortedBy
above_head x xs up y there = less_is x y (every-in (λ z. nat_cmp x z ≡ Less) xs up.0 y (In-from_Contains xs y there))

pub tail_ascends : (x : ℕ) (xs : List ℕ) → IsStrictlySortedBy nat_cmp (x ∷ xs) → IsStrictlySortedBy nat_cmp xs
unfolding IsStrictlySortedBy
tail_ascends x xs up = up.1

module _ (left right : List Entry) (g : Group) (cuts : List ℕ) (has_left : HasCuts g left cuts) (has_right : HasCuts g right cuts) (small : (n : ℕ) → Contains cuts n → n < 65536) where
  said_agree : (a b : ℕ) → a < b → b < 65536 → ((n : ℕ) → a < n → n ≤ b → Contains cuts n → ⊥) → words_of left right g b ≡ words_of left right g a
  said_agree a b less below none =
      let one = sym (read_agree g left cuts has_left a b less below none) in
      let two = sym (read_agree g right cuts has_right a b less below none) in
      λ i. (one i, two i)

  pub steady : (here : ℕ) (cs : List ℕ) → IsStrictlySortedBy nat_cmp (here ∷ cs) → ((n : ℕ) → here < n → Contains cuts n → Contains cs n) → ((n : ℕ) → Contains cs n → Contains cuts n)
      → Steady (words_of left right g) here cs
  steady here [] up all from =
      λ port low high. elim (cases_lt here port) [
        | inl above ↦ said_agree here port above high (λ n less le there. let none = all n less there in absurd (let below = none.1 in omega arith))
        | inr below ↦ ap (words_of left right g) (let e : port ≡ here = omega arith in e)
      ]
  steady here (c ∷ cs) up all from = (
    above_head here (c ∷ cs) up c (Contains-here c cs),
    small c (from c (Contains-here c cs)),
    λ port low high. elim (cases_lt here port) [
      | inl above ↦ said_agree here port above (let in' = small c (from c (Contains-here c cs)) in omega arith) (λ n less le there. elim (Contains-cases c cs n (all n less there)) [
        | inl is ↦ omega (arith, is)
        | inr later ↦ (let far = above_head c cs (tail_ascends here (c ∷ cs) up) n later in omega arith)
      ])
      | inr below ↦ ap (words_of left right g) (let e : port ≡ here = omega arith in e)
    ],
    steady c cs (tail_ascends here (c ∷ cs) up)
        (λ n less there. elim (Contains-cases c cs n (all n (let low = above_head here (c ∷ cs) up c (Contains-here c cs) in omega arith) there)) [
          | inl is ↦ absurd (omega (arith, is))
          | inr later ↦ later
        ])
        (λ n there. from n (Contains-later c cs n there)),
  )

-- an ascending list that has 0 begins with it
pub begins_with_0 : (xs : List ℕ) → IsStrictlySortedBy nat_cmp xs → Contains xs 0 → (rest : List ℕ) × (xs ≡ 0 ∷ rest)
begins_with_0 [] up there = absurd (let below = there.1 in omega arith)
begins_with_0 (x ∷ xs) up there = elim (Contains-cases x xs 0 there) [
  | inl is ↦ (xs, ap (λ n. n ∷ xs) is)
  | inr later ↦ absurd (let above = above_head x xs up 0 later in omega arith)
]
