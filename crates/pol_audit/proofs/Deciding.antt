-- Of the entries of a direction and number, in key order, the last that has a port has the longest key.
use Rattle.std.proofs.Common.{◌≡◌, ℕ, ◌+◌, ◌-◌, ◌%◌, ◌^◌, ◌<◌, ◌≤◌, ◌==◌, Bool, true, false, cond, List, [], ◌∷◌, get_or, Option, Some, None, MatchOption, refl, sym, ap, subst, ◌∙◌, inl, inr, ◌⊎◌, arith}
use Rattle.std.specs.List.{All, Contains}
use Rattle.std.specs.List.Sorted.{IsNonDecreasingBy, IsStrictlySortedBy}
use Rattle.std.specs.Ordering.{nat_cmp, ordering_reverse, ordering_then}
use Rattle.std.specs.declared.cmp.Ordering.{Ordering}
use Rattle.std.specs.declared.cmp.Ordering.TheVariants.{Less, Greater}
use Rattle.std.proofs.lemmas.Bool.{and_from, and_parts, both_ways, cases_Bool, cases_order, eq-eqb, eqb-true, false_from_ne_true}
use Rattle.std.proofs.lemmas.Cmp.{by_ranked, ranked}
use Rattle.std.proofs.lemmas.List.Elements.{Contains-get_or}
use Rattle.std.proofs.lemmas.List.Kept.{IsStrictlySortedBy-filter}
use Rattle.std.proofs.lemmas.Map.Keys.{Less-from_sorted}
use Rattle.std.proofs.lemmas.Nat.{pow_below}
use Rattle.pol_data.proofs.Members.{Contains-cases, Contains-filter, Contains-from_filter, Contains-here, Contains-later, In-from_Contains, every-in, passes-from_filter}
use Rattle.pol_ports.proofs.Containing.{contains_is}
use Rattle.pol_ports.proofs.Same.{same_direction-is}
use Rattle.pol_ports.specs.Direction.{direction_cmp, same_direction}
use Rattle.pol_ports.specs.PortPrefix.{prefix_holds}
use Rattle.pol_ports.specs.declared.Direction.{Direction}
use Rattle.pol_ports.specs.declared.Direction.TheVariants.{Ingress, Egress}
use Rattle.pol_ports.specs.declared.Proto.{Proto}
use Rattle.pol_mapkey.specs.declared.KeyProto.TheVariants.{Every}
use Rattle.pol_mapkey.specs.declared.MapKey.{MapKey}
use Rattle.pol_mapkey.specs.KeyProto.{key_proto, proto_covers, proto_place}
use Rattle.pol_mapkey.specs.MapKey.{covers, covers_packet, key_cmp}
use Rattle.pol_mapkey.specs.Entries.{Entry, EachKeyOnce, longest, reaches, read_map, word_of}
use Rattle.pol_mapkey.proofs.KeyOrder.{key_cmp_total}
use Rattle.pol_mapkey.proofs.Keys.{chain, covers-self, covers_is, packet_from, packet_is, proto_covers-cases}
use Rattle.pol_mapkey.proofs.Longest.{longest_is, longest_none, one_kind}
use Rattle.pol_audit.specs.declared.group.Group.{Group}
use Rattle.pol_audit.specs.Exact.{AreAmong, IsSplit, words_of}
use Rattle.pol_audit.specs.Extent.{part_of}
use Rattle.pol_audit.specs.Kinds.{PortsAscend, both_said, last_at, later, numbered, said_by, those_for}
use Rattle.pol_audit.specs.Tables.{IsTable, entry_order}
use Rattle.pol_mapkey.proofs.Words.{word_is}
use Rattle.pol_audit.proofs.Steady.{less_is}
use Rattle.pol_audit.proofs.Whole.{same_dir, twice}

-- ---- two keys of one direction and number in their order
past_direction : (dir : Direction) (o : Ordering) → ordering_then (direction_cmp dir dir) o ≡ Less → o ≡ Less
past_direction Ingress o less = less
past_direction Egress o less = less

first : (x y : ℕ) (o : Ordering) → ordering_then (nat_cmp x y) o ≡ Less → (x < y) ⊎ ((x ≡ y) × (o ≡ Less))
first x y o less =
    by_ranked (x < y) (x ≡ y) (y < x) (nat_cmp x y) (ranked x y (nat_cmp x y) refl)
    (λ _ below. inl below)
    (λ equal same. inr (same, sym (ap (λ r. ordering_then r o) equal) ∙ less))
    (λ more _. absurd (let wrong : Greater ≡ Less = sym (ap (λ r. ordering_then r o) more) ∙ less in cc))

abbrev Behind : MapKey → MapKey → Type 0
Behind a b =
    (proto_place a.proto < proto_place b.proto)
    ⊎ ((proto_place a.proto ≡ proto_place b.proto) × ((a.port.bits < b.port.bits) ⊎ ((a.port.bits ≡ b.port.bits) × (a.port.len < b.port.len))))

behind : (a b : MapKey) → a.dir ≡ b.dir → a.id ≡ b.id → key_cmp a b ≡ Less → Behind a b
behind a b dirs ids less =
    let ports : Ordering = ordering_then (nat_cmp a.port.bits b.port.bits) (nat_cmp a.port.len b.port.len) in
    let protos : Ordering = ordering_then (nat_cmp (proto_place a.proto) (proto_place b.proto)) ports in
    let rest = past_direction b.dir (ordering_then (nat_cmp a.id b.id) protos) (subst (λ d. ordering_then (direction_cmp d b.dir) (ordering_then (nat_cmp a.id b.id) protos) ≡ Less) dirs less) in
    elim (first a.id b.id protos rest) [
      | inl below ↦ absurd (omega (arith, below, ids))
      | inr own ↦ elim (first (proto_place a.proto) (proto_place b.proto) ports own.1) [
        | inl below ↦ inl below
        | inr same ↦ inr (
          same.0,
          elim (first a.port.bits b.port.bits (nat_cmp a.port.len b.port.len) same.1) [
            | inl below ↦ inl below
            | inr bits ↦ inr (bits.0, less_is a.port.len b.port.len bits.1)
          ],
        )
      ]
    ]

-- the later one doesn't cover the earlier one
no_later : (a b : MapKey) → key_cmp a b ≡ Less → covers b a ≡ true → ⊥
no_later a b less over =
    let c = covers_is b a over in
    let d = contains_is b.port a.port c.3 in
    let order = behind a b (sym c.0) (sym c.1) less in
    elim (proto_covers-cases b.proto a.proto c.2) [
      | inl every ↦ every_first every d.0 order
      | inr same ↦ later' (ap proto_place same) d.0 d.1 order
    ]
  where
    every_first : b.proto ≡ Every → b.port.bits ≤ a.port.bits → Behind a b → ⊥
    every_first every low (inl less') = let none : proto_place b.proto ≡ 0 = ap proto_place every in omega (arith, less', none)
    every_first every low (inr (same, inl less')) = omega (arith, low, less')
    every_first every low (inr (same, inr (bits, less'))) = let none = b.every_port every in omega (arith, less', none)

    later' : proto_place b.proto ≡ proto_place a.proto → b.port.bits ≤ a.port.bits → a.port.bits + 2 ^ (16 - a.port.len) ≤ b.port.bits + 2 ^ (16 - b.port.len) → Behind a b → ⊥
    later' protos low end (inl less') = omega (arith, less', protos)
    later' protos low end (inr (same, inl less')) = omega (arith, low, less')
    later' protos low end (inr (same, inr (bits, less'))) =
        let short = b.port.short in
        omega (arith, bits, end, pow_below (16 - b.port.len) (16 - a.port.len) (omega (arith, less', short)))

-- ---- entries of one direction and number, for the packets of a protocol
module _ (dir : Direction) (id : ℕ) (proto : Proto) where
  abbrev IsFor : Entry → Type 0
  IsFor e = (e.0.dir ≡ dir) × (e.0.id ≡ id) × (proto_covers e.0.proto (key_proto proto) ≡ true)

  -- their ports begin in order
  ports_rise : (a b : MapKey) → a.port.bits < 65536 → proto_covers a.proto (key_proto proto) ≡ true → proto_covers b.proto (key_proto proto) ≡ true → Behind a b → a.port.bits ≤ b.port.bits
  ports_rise a b small one two order = elim (proto_covers-cases a.proto (key_proto proto) one) [
    | inl every ↦ (let none = every_bits a every small in omega arith)
    | inr own ↦ elim order [
      | inl less ↦ absurd (elim (proto_covers-cases b.proto (key_proto proto) two) [
        | inl every ↦ (let none : proto_place b.proto ≡ 0 = ap proto_place every in omega arith)
        | inr same ↦ (let places : proto_place a.proto ≡ proto_place b.proto = ap proto_place (own ∙ sym same) in omega arith)
      ])
      | inr same ↦ elim same.1 [ inl less ↦ omega (arith, less) | inr equal ↦ (let e = equal.0 in omega arith) ]
    ]
  ]
    where
      every_bits : (k : MapKey) → k.proto ≡ Every → k.port.bits < 65536 → k.port.bits ≡ 0
      every_bits k every below =
          let none = k.every_port every in
          let size : 2 ^ (16 - k.port.len) ≡ 65536 = ap (λ l. 2 ^ (16 - l)) none in
          let clear : k.port.bits % 65536 ≡ 0 = sym (ap (λ m. k.port.bits % m) size) ∙ k.port.clear in
          omega arith

  pub rise : (es : List Entry) → IsTable es → ((e : Entry) → Contains es e → IsFor e × (e.0.port.bits < 65536)) → IsNonDecreasingBy (λ (e : Entry). e.0.port.bits) es
  rise es up all i j d le below = elim (cases_order i j) [
    | inl same ↦ subst (λ k. (get_or es i d).0.port.bits ≤ (get_or es k d).0.port.bits) same (omega arith)
    | inr order ↦ elim order [
      | inl less ↦
          (let a = get_or es i d in let b = get_or es j d in
          let of_a = all a (Contains-get_or es i d (omega arith)) in
          let of_b = all b (Contains-get_or es j d below) in
          ports_rise a.0 b.0 of_a.1 of_a.0.2 of_b.0.2 (behind a.0 b.0 (of_a.0.0 ∙ sym of_b.0.0) (of_a.0.1 ∙ sym of_b.0.1) (Less-from_sorted entry_order es i j d up less below)))
      | inr more ↦ absurd (omega arith)
    ]
  ]

  module _ (port : ℕ) where
    abbrev NoneHas : List Entry → Type 0
    NoneHas es = (e : Entry) → Contains es e → prefix_holds e.0.port port ≡ false

    abbrev IsWidestLast : List Entry → Entry → Type 0
    IsWidestLast es e = Contains es e × (prefix_holds e.0.port port ≡ true) × ((f : Entry) → Contains es f → prefix_holds f.0.port port ≡ true → covers f.0 e.0 ≡ true)

    wider : (x e : Entry) → IsFor x → IsFor e → entry_order x e ≡ Less → prefix_holds x.0.port port ≡ true → prefix_holds e.0.port port ≡ true → covers x.0 e.0 ≡ true
    wider x e of_x of_e less has_x has_e =
        elim (chain x.0 e.0 dir proto port (of_x.1 ∙ sym of_e.1) (packet_from x.0 dir proto port of_x.0 of_x.2 has_x) (packet_from e.0 dir proto port of_e.0 of_e.2 has_e)) [
          | inl over ↦ over
          | inr under ↦ absurd (no_later x.0 e.0 less under)
        ]

    -- the last that has the port lies under all that have it
    decided : (es : List Entry) → IsTable es → ((e : Entry) → Contains es e → IsFor e) → MatchOption (last_at port es) (NoneHas es) (IsWidestLast es)
    unfolding last_at IsStrictlySortedBy
    decided [] up all = λ e there. absurd (let below = there.1 in omega arith)
    decided (x ∷ xs) up all = step (last_at port xs) (decided xs up.1 (λ e there. all e (Contains-later x xs e there))) (prefix_holds x.0.port port) refl
      where
        step : (r : Option Entry) → MatchOption r (NoneHas xs) (IsWidestLast xs) → (b : Bool) → prefix_holds x.0.port port ≡ b
            → MatchOption (later (cond b (Some x) None) r) (NoneHas (x ∷ xs)) (IsWidestLast (x ∷ xs))
        step None none true is = (
          Contains-here x xs,
          is,
          λ f there has. elim (Contains-cases x xs f there) [
            | inl same ↦ (let P : Entry → Type 0 = λ z. covers z.0 x.0 ≡ true in subst P same (covers-self x.0))
            | inr later' ↦ absurd (both_ways (prefix_holds f.0.port port) (none f later') has)
          ],
        )
        step None none false is = λ e there. elim (Contains-cases x xs e there) [
          | inl same ↦ ap (λ (z : Entry). prefix_holds z.0.port port) (sym same) ∙ is
          | inr later' ↦ none e later'
        ]
        step (Some e) d b is = (
          Contains-later x xs e d.0,
          d.1,
          λ f there has. elim (Contains-cases x xs f there) [
            | inl same ↦
                (let P : Entry → Type 0 = λ z. covers z.0 e.0 ≡ true in
                let own : prefix_holds x.0.port port ≡ true = ap (λ (z : Entry). prefix_holds z.0.port port) same ∙ has in
                let less = every-in (λ y. entry_order x y ≡ Less) xs up.0 e (In-from_Contains xs e d.0) in
                subst P same (wider x e (all x (Contains-here x xs)) (all e (Contains-later x xs e d.0)) less own d.1))
            | inr later' ↦ d.2 f later' has
          ],
        )

-- ---- in a table
each_once : (table : List Entry) → IsTable table → EachKeyOnce table
each_once table up i j d less below same =
    let a = get_or table i d in let b = get_or table j d in
    let one : key_cmp a.0 b.0 ≡ Less = Less-from_sorted entry_order table i j d up less below in
    let two : key_cmp b.0 b.0 ≡ Less = subst (λ k. key_cmp k b.0 ≡ Less) same one in
    let three : Less ≡ Greater = sym two ∙ key_cmp_total.antisymm b.0 b.0 ∙ ap ordering_reverse two in
    cc

module _ (table : List Entry) (up : IsTable table) (dir : Direction) (id : ℕ) (proto : Proto) where
  abbrev of_part : Entry → Bool
  of_part e = same_direction e.0.dir dir

  abbrev of_number : Entry → Bool
  of_number e = e.0.id == id

  abbrev of_proto : Entry → Bool
  of_proto e = proto_covers e.0.proto (key_proto proto)

  abbrev those : List Entry
  those = those_for proto (numbered id (part_of dir table))

  those_up : IsTable those
  those_up =
      IsStrictlySortedBy-filter entry_order of_proto (numbered id (part_of dir table))
      (IsStrictlySortedBy-filter entry_order of_number (part_of dir table) (IsStrictlySortedBy-filter entry_order of_part table up))

  from_those : (e : Entry) → Contains those e → Contains table e × IsFor dir id proto e
  from_those e there =
      let one = Contains-from_filter of_proto (numbered id (part_of dir table)) e there in
      let two = Contains-from_filter of_number (part_of dir table) e one in (
        Contains-from_filter of_part table e two,
        (
          same_direction-is e.0.dir dir (passes-from_filter of_part table e two),
          eqb-true e.0.id id (passes-from_filter of_number (part_of dir table) e one),
          passes-from_filter of_proto (numbered id (part_of dir table)) e there,
        ),
      )

  into_those : (e : Entry) → Contains table e → IsFor dir id proto e → Contains those e
  into_those e there is =
      Contains-filter of_proto (numbered id (part_of dir table)) e is.2
      (Contains-filter of_number (part_of dir table) e (eq-eqb e.0.id id is.1)
      (Contains-filter of_part table e (ap (λ d. same_direction e.0.dir d) (sym is.0) ∙ same_dir e.0.dir) there))

  pub those_rise : ((e : Entry) → Contains table e → e.0.port.bits < 65536) → IsNonDecreasingBy (λ (e : Entry). e.0.port.bits) those
  those_rise small = rise dir id proto those those_up (λ e there. let is = from_those e there in (is.1, small e is.0))

  module _ (port : ℕ) where
    reached : (e : Entry) → reaches dir id proto port e ≡ true → IsFor dir id proto e × (prefix_holds e.0.port port ≡ true)
    reached e t =
        let both = and_parts (e.0.id == id) (covers_packet e.0 dir proto port) t in
        let is = packet_is e.0 dir proto port both.1 in
        ((is.0, eqb-true e.0.id id both.0, is.1), is.2)

    reaching : (e : Entry) → IsFor dir id proto e → prefix_holds e.0.port port ≡ true → reaches dir id proto port e ≡ true
    reaching e is has = and_from (e.0.id == id) (covers_packet e.0 dir proto port) (eq-eqb e.0.id id is.1) (packet_from e.0 dir proto port is.0 is.2 has)

    pub longest_last : longest table dir id proto port ≡ last_at port those
    longest_last = by (last_at port those) (decided dir id proto port those those_up (λ e there. (from_those e there).1))
      where
        by : (r : Option Entry) → MatchOption r (NoneHas dir id proto port those) (IsWidestLast dir id proto port those) → longest table dir id proto port ≡ r
        by None none = longest_none dir id proto port table (λ e there. false_from_ne_true (reaches dir id proto port e) (λ t.
            let is = reached e t in both_ways (prefix_holds e.0.port port) (none e (into_those e there is.0)) is.1))
        by (Some e) d =
            let from = from_those e d.0 in
            longest_is dir id proto port table e (one_kind table (each_once table up)) (
              from.0,
              reaching e from.1 d.1,
              λ f there t. let is = reached f t in d.2 f (into_those f there is.0) is.1,
            )

-- ---- what the entries of a number and those of 0 say is what the table says
nothing_at : (port : ℕ) → last_at port [] ≡ None
unfolding last_at
nothing_at port = refl

module _ (dir : Direction) (id : ℕ) (own every table : List Entry) (split : IsSplit dir id own every table) where
  every_is : (proto : Proto) (port : ℕ) → last_at port (those_for proto every) ≡ longest table dir 0 proto port
  every_is proto port = ap (λ es. last_at port (those_for proto es)) split.every_is ∙ sym (longest_last table split.table dir 0 proto port)

  own_is : (proto : Proto) (port : ℕ) (b : Bool) → (id == 0) ≡ b → word_of (last_at port (those_for proto own)) (longest table dir 0 proto port) ≡ word_of (longest table dir id proto port) (longest table dir 0 proto port)
  own_is proto port true is =
      let none : own ≡ [] = split.own_is ∙ ap (λ b. cond b [] (numbered id (part_of dir table))) is in
      ap (λ es. word_of (last_at port (those_for proto es)) (longest table dir 0 proto port)) none
      ∙ ap (λ x. word_of x (longest table dir 0 proto port)) (nothing_at port)
      ∙ twice (longest table dir 0 proto port)
      ∙ ap (λ n. word_of (longest table dir n proto port) (longest table dir 0 proto port)) (sym (eqb-true id 0 is))
  own_is proto port false is =
      let those' : own ≡ numbered id (part_of dir table) = split.own_is ∙ ap (λ b. cond b [] (numbered id (part_of dir table))) is in
      ap (λ x. word_of x (longest table dir 0 proto port)) (ap (λ es. last_at port (those_for proto es)) those' ∙ sym (longest_last table split.table dir id proto port))

  pub read_said : (proto : Proto) (port : ℕ) → said_by proto own every port ≡ read_map table dir id proto port
  unfolding read_map
  read_said proto port =
      word_is (last_at port (those_for proto own)) (last_at port (those_for proto every))
      ∙ ap (word_of (last_at port (those_for proto own))) (every_is proto port)
      ∙ own_is proto port (id == 0) refl

  -- the entries of the number and of 0 are among them
  pub among : AreAmong dir id table own every
  among e there at number = elim number [
    | inl same ↦ elim (cases_Bool (id == 0)) [
      | inl zero' ↦ inr (in_every e there at (same ∙ eqb-true id 0 zero'))
      | inr other ↦ inl (subst (λ es. Contains es e) (sym (split.own_is ∙ ap (λ b. cond b [] (numbered id (part_of dir table))) other)) (in_numbered id e there at same))
    ]
    | inr zero' ↦ inr (in_every e there at zero')
  ]
    where
      in_numbered : (n : ℕ) (f : Entry) → Contains table f → f.0.dir ≡ dir → f.0.id ≡ n → Contains (numbered n (part_of dir table)) f
      in_numbered n f in' at' same' =
          Contains-filter (λ (x : Entry). x.0.id == n) (part_of dir table) f (eq-eqb f.0.id n same')
          (Contains-filter (λ (x : Entry). same_direction x.0.dir dir) table f (ap (λ d. same_direction f.0.dir d) (sym at') ∙ same_dir f.0.dir) in')

      in_every : (f : Entry) → Contains table f → f.0.dir ≡ dir → f.0.id ≡ 0 → Contains every f
      in_every f in' at' zero'' = subst (λ es. Contains es f) (sym split.every_is) (in_numbered 0 f in' at' zero'')

-- so what two tables' entries say are the words of a group
pub said_words : (g : Group) (left right left_every right_every lefts rights : List Entry) → IsSplit g.dir g.id left left_every lefts → IsSplit g.dir g.id right right_every rights
    → both_said g.proto left right left_every right_every ≡ words_of lefts rights g
said_words g left right left_every right_every lefts rights one two =
    λ i port. (read_said g.dir g.id left left_every lefts one g.proto port i, read_said g.dir g.id right right_every rights two g.proto port i)

-- for each protocol the ports of a number's entries begin in order
pub ports_ascend : (dir : Direction) (table part : List Entry) → IsTable table → part ≡ part_of dir table → All (λ (e : Entry). e.0.port.bits < 65536) table → (n : ℕ) → PortsAscend (numbered n part)
ports_ascend dir table part up is small n proto =
    subst (λ es. IsNonDecreasingBy (λ (e : Entry). e.0.port.bits) (those_for proto (numbered n es))) (sym is) (those_rise table up dir n proto (λ e there. subst (λ (f : Entry). f.0.port.bits < 65536) there.2 (small there.0 e there.1)))
