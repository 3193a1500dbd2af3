-- The first range of some groups is that of all: a difference on the groups behind them exists, though it isn't made.
use Rattle.std.proofs.Common.{◌≡◌, ℕ, zero, suc, ◌+◌, ◌<◌, ◌≤◌, Bool, true, false, cond, nat_lt, List, [], ◌∷◌, ◌++◌, take, get_or, length, Option, Some, None, is_some, refl, sym, ap, subst, ◌∙◌, inl, inr, ◌↔◌, append_assoc, arith}
use Rattle.std.specs.List.{Contains, flat_map, slice_get}
use Rattle.std.specs.List.Sorted.{IsStrictlySortedBy}
use Rattle.std.specs.Ordering.{nat_cmp}
use Rattle.std.specs.declared.cmp.Ordering.TheVariants.{Less}
use Rattle.std.proofs.Math.Seq.{take-length}
use Rattle.std.proofs.lemmas.Bool.{cases_lt, ltb-true, true≢false}
use Rattle.std.proofs.lemmas.List.{append-nil, map-append}
use Rattle.std.proofs.lemmas.List.Elements.{All-head, All-tail, Contains-append_cases}
use Rattle.pol_data.proofs.Members.{Contains-cases, Contains-from_In, Contains-here, Contains-later, In, In-from_Contains, every-from_in}
use Rattle.pol_ports.specs.PortPrefix.{end_of}
use Rattle.pol_ports.specs.declared.Direction.{Direction}
use Rattle.pol_ports.specs.declared.Direction.TheVariants.{Ingress, Egress}
use Rattle.pol_ports.specs.declared.PortPrefix.{PortPrefix}
use Rattle.pol_ports.specs.declared.Proto.{Proto}
use Rattle.pol_ports.specs.declared.Proto.TheVariants.{Tcp, Udp, Sctp}
use Rattle.pol_mapkey.specs.Entries.{Entry}
use Rattle.pol_mapkey.specs.KeyProto.{key_proto, proto_covers}
use Rattle.pol_audit.specs.declared.difference.Difference.{Difference}
use Rattle.pol_audit.specs.declared.group.Group.{Group}
use Rattle.pol_audit.specs.Audit.{IsAudit, audit_from}
use Rattle.pol_audit.specs.declared.packet.Audit.{Audit}
use Rattle.pol_audit.specs.Cuts.{all_cuts, cuts_at, ends_of}
use Rattle.pol_audit.specs.Difference.{IsDifference}
use Rattle.pol_audit.specs.Exact.{AreNumbers, AreOf, Grown, groups_at, words_of}
use Rattle.pol_audit.specs.Extent.{numbers_in, part_of}
use Rattle.pol_audit.specs.First.{AreSmall, IsFirstIn, IsFirstOf}
use Rattle.pol_audit.specs.Ranges.{ranges_from}
use Rattle.pol_audit.proofs.Audited.{alike_has_none, from_first}
use Rattle.pol_audit.proofs.Groups.{both_sctp, group_exact, grown_more, grown_none, less_from, next_number, tcp_udp}
use Rattle.pol_audit.proofs.Parts.{numbers_are}
use Rattle.pol_audit.proofs.Shares.{ids, numbers_ascend, numbers_from, numbers_to}
use Rattle.pol_audit.proofs.Whole.{whole_difference}

-- ---- numbers one behind another

count_from : ℕ → ℕ → List ℕ
count_from a zero = []
count_from a (suc n) = a ∷ count_from (suc a) n

counted : (a n x : ℕ) → a ≤ x → x < a + n → Contains (count_from a n) x
unfolding count_from
counted a zero x from to = absurd (omega (arith, from, to))
counted a (suc n) x from to = elim (cases_lt a x) [
  | inl more ↦ Contains-later a (count_from (suc a) n) x (counted (suc a) n x (omega (arith, more)) (omega (arith, to)))
  | inr less ↦ (let same : a ≡ x = omega (arith, from, less) in subst (λ y. Contains (a ∷ count_from (suc a) n) y) same (Contains-here a (count_from (suc a) n)))
]

counted_within : (a n x : ℕ) → Contains (count_from a n) x → (a ≤ x) × (x < a + n)
unfolding count_from
counted_within a zero x there = absurd (let below = there.1 in omega arith)
counted_within a (suc n) x there = elim (Contains-cases a (count_from (suc a) n) x there) [
  | inl is ↦ (omega (arith, is), omega (arith, is))
  | inr later ↦ (let both = counted_within (suc a) n x later in (omega (arith, both.0), omega (arith, both.1)))
]

counted_ascends : (a n : ℕ) → IsStrictlySortedBy nat_cmp (count_from a n)
unfolding count_from IsStrictlySortedBy
counted_ascends a zero = tt
counted_ascends a (suc n) = (
  every-from_in (λ z. nat_cmp a z ≡ Less) (count_from (suc a) n) (λ z there.
      let above = (counted_within (suc a) n z (Contains-from_In (count_from (suc a) n) z there)).0 in less_from a z (omega (arith, above))),
  counted_ascends (suc a) n,
)

-- ---- cuts are ports

end_small : (bits end n : ℕ) (b : Bool) → bits < 65536 → nat_lt end 65536 ≡ b → Contains (bits ∷ cond b (end ∷ []) []) n → n < 65536
end_small bits end n true small is there = elim (Contains-cases bits (end ∷ []) n there) [
  | inl same ↦ omega (arith, small, same)
  | inr later ↦ elim (Contains-cases end [] n later) [
    | inl same ↦ (let below = ltb-true end 65536 is in omega (arith, below, same))
    | inr none ↦ absurd (let wrong = none.1 in omega arith)
  ]
]
end_small bits end n false small is there = elim (Contains-cases bits [] n there) [
  | inl same ↦ omega (arith, small, same)
  | inr none ↦ absurd (let wrong = none.1 in omega arith)
]

cut_small : (prefix : PortPrefix) (n : ℕ) (b : Bool) → prefix.bits < 65536 → Contains (cond b (ends_of prefix) []) n → n < 65536
cut_small prefix n true small there = end_small prefix.bits (end_of prefix) n (nat_lt (end_of prefix) 65536) small refl there
cut_small prefix n false small there = absurd (let wrong = there.1 in omega arith)

cuts_small : (proto : Proto) (entries : List Entry) (n : ℕ) → AreSmall entries → Contains (flat_map (cuts_at proto) entries) n → n < 65536
cuts_small proto [] n small there = absurd (let wrong = there.1 in omega arith)
cuts_small proto (e ∷ entries) n small there = elim (Contains-append_cases (cuts_at proto e) (flat_map (cuts_at proto) entries) n there) [
  | inl here ↦ cut_small e.0.port n (proto_covers e.0.proto (key_proto proto)) (All-head (λ (e : Entry). e.0.port.bits < 65536) e entries small) here
  | inr later ↦ cuts_small proto entries n (All-tail (λ (e : Entry). e.0.port.bits < 65536) e entries small) later
]

all_small : (proto : Proto) (left right : List Entry) (n : ℕ) → AreSmall left → AreSmall right → Contains (all_cuts proto left right [] []) n → n < 65536
all_small proto left right n small_left small_right there =
    elim (Contains-append_cases (flat_map (cuts_at proto) left) (flat_map (cuts_at proto) right) n
    (subst (λ (ns : List ℕ). Contains ns n) (append-nil _ ∙ append-nil _) there)) [
      | inl in_left ↦ cuts_small proto left n small_left in_left
      | inr in_right ↦ cuts_small proto right n small_right in_right
    ]

module _ (left right : List Entry) (small_left : AreSmall left) (small_right : AreSmall right) where
  -- ---- a difference there is

  -- on one group
  one_made : (g : Group) → AreOf left right (g ∷ []) (ranges_from g (words_of left right g) 0 (count_from 0 65536))
  one_made g =
      group_exact left right left right [] [] g (count_from 0 65536)
      (λ n there. counted 0 65536 n (omega arith) (all_small g.proto left right n small_left small_right there))
      (counted_ascends 0 65536) (λ n there. (counted_within 0 65536 n there).1)
      (λ e there is_dir is_id. inl there) (λ e there is_dir is_id. inl there)

  grown_one : (g : Group) (old : List Difference) → (new : List Difference) × Grown left right (g ∷ []) old new
  grown_one g old = let made = ranges_from g (words_of left right g) 0 (count_from 0 65536) in (old ++ made, (made, refl, one_made g))

  -- on one number
  number_made : (dir : Direction) (id : ℕ) (old : List Difference) → (new : List Difference) × Grown left right (groups_at dir id) old new
  number_made dir id old =
      let at : Proto → Group = λ proto. record { dir = dir; id = id; proto = proto } in
      let (a, one) = grown_one (at Tcp) old in
      let (b, two) = grown_one (at Udp) a in
      let (c, three) = grown_one (at Sctp) b in
      (c, grown_more left right _ _ _ _ _ (grown_more left right _ _ _ _ _ one two (tcp_udp dir id)) three (both_sctp dir id))

  -- on the numbers that are left
  rest_made : (dir : Direction) (numbers : List ℕ) → IsStrictlySortedBy nat_cmp numbers → (k i : ℕ) → i + k ≡ length numbers → (old now : List Difference)
      → Grown left right (flat_map (groups_at dir) (take i numbers)) old now
      → (new more : List Difference) × (new ≡ now ++ more) × Grown left right (flat_map (groups_at dir) numbers) old new
  rest_made dir numbers up zero i all old now begun =
      let ends : i ≡ length numbers = omega (arith, all) in
      (now, [], sym (append-nil now), subst (λ ns. Grown left right (flat_map (groups_at dir) ns) old now) (ap (λ j. take j numbers) ends ∙ take-length numbers) begun)
  rest_made dir numbers up (suc k) i all old now begun =
      let (next, made) = number_made dir (get_or numbers i 0) now in
      let further = next_number dir left right numbers i old now next up (omega (arith, all)) begun made in
      let (new, more, is, whole) = rest_made dir numbers up k (i + 1) (omega (arith, all)) old next further in
      (new, made.0 ++ more, is ∙ ap (λ ds. ds ++ more) made.1 ∙ append_assoc now made.0 more, whole)

-- ---- the head of a list

head_stays : (list more : List Difference) (d : Difference) → slice_get list 0 ≡ Some d → slice_get (list ++ more) 0 ≡ Some d
head_stays [] more d is = absurd (let wrong : None ≡ Some d = is in cc)
head_stays (x ∷ list) more d is = is

no_head : (list : List Difference) → slice_get list 0 ≡ None → list ≡ []
no_head [] is = refl
no_head (x ∷ list) is = absurd (let wrong : Some x ≡ None = is in cc)

-- ---- a direction

module _ (left right : List Entry) (dir : Direction) (numbers : List ℕ) (up : IsStrictlySortedBy nat_cmp numbers) where
  abbrev until : ℕ → List Group
  until i = flat_map (groups_at dir) (take i numbers)

  -- no packet of these groups differs
  abbrev Nothing : ℕ → Type 0
  Nothing i = AreOf left right (until i) []

  nothing_grown : (i : ℕ) → Nothing i → Grown left right (until i) [] []
  nothing_grown i none = ([], refl, none)

  -- the range of one number more is the first of all
  first_here : AreSmall left → AreSmall right → (i : ℕ) (d : Difference) → i < length numbers → Nothing i
      → IsFirstOf left right (groups_at dir (get_or numbers i 0)) (Some d) → IsFirstOf left right (flat_map (groups_at dir) numbers) (Some d)
  first_here small_left small_right i d below none found =
      let begun = next_number dir left right numbers i [] [] found.list up below (nothing_grown i none) (found.list, refl, found.are) in
      let (k, all) = left_over i (length numbers) below in
      let (new, more, is, (made, same, are)) = rest_made left right small_left small_right dir numbers up k (i + 1) all [] found.list begun in
      record {
        list = made;
        are = are;
        head = ap (λ (ds : List Difference). slice_get ds 0) (sym same ∙ is) ∙ head_stays found.list more d found.head;
      }
    where
      left_over : (i n : ℕ) → i < n → (k : ℕ) × (i + 1 + k ≡ n)
      left_over i zero less = absurd (omega (arith, less))
      left_over zero (suc n) less = (n, omega arith)
      left_over (suc i) (suc n) less = let (k, is) = left_over i n (omega (arith, less)) in (k, omega (arith, is))

  pub first_here_by : AreSmall left → AreSmall right → (i : ℕ) (first : Option Difference) → is_some first ≡ true → i < length numbers → Nothing i
      → IsFirstOf left right (groups_at dir (get_or numbers i 0)) first → IsFirstOf left right (flat_map (groups_at dir) numbers) first
  first_here_by small_left small_right i (Some d) some below none found = first_here small_left small_right i d below none found
  first_here_by small_left small_right i None some below none found = absurd (true≢false (sym some))

  -- one number more without a range
  nothing_here : (i : ℕ) → i < length numbers → Nothing i → IsFirstOf left right (groups_at dir (get_or numbers i 0)) None → Nothing (i + 1)
  nothing_here i below none found =
      let empty = no_head found.list found.head in
      let are = subst (λ ds. AreOf left right (groups_at dir (get_or numbers i 0)) ds) empty found.are in
      let (made, is, both) = next_number dir left right numbers i [] [] [] up below (nothing_grown i none) ([], refl, are) in
      subst (λ ds. AreOf left right (until (i + 1)) ds) (sym is) both

  pub nothing_here_by : (i : ℕ) (first : Option Difference) → is_some first ≡ false → i < length numbers → Nothing i
      → IsFirstOf left right (groups_at dir (get_or numbers i 0)) first → Nothing (i + 1)
  nothing_here_by i (Some d) some below none found = absurd (true≢false some)
  nothing_here_by i None some below none found = nothing_here i below none found

-- ---- both directions

module _ (left right : List Entry) where
  made_in : AreSmall left → AreSmall right → (dir : Direction) → (numbers : List ℕ) × AreNumbers left right dir numbers × (list : List Difference) × AreOf left right (flat_map (groups_at dir) numbers) list
  made_in small_left small_right dir =
      let lefts = part_of dir left in
      let rights = part_of dir right in
      let numbers = numbers_in (lefts ++ rights) in
      let up = numbers_ascend (lefts ++ rights) in
      let (new, more, is, (made, same, are)) = rest_made left right small_left small_right dir numbers up (length numbers) 0 (omega arith) [] [] (none_yet numbers) in
      (numbers, numbers_are dir left right lefts rights numbers refl refl (members lefts rights), made, are)
    where
      none_yet : (numbers : List ℕ) → Grown left right (flat_map (groups_at dir) (take 0 numbers)) [] []
      none_yet numbers = grown_none left right []

      members : (lefts rights : List Entry) (n : ℕ) → Contains (numbers_in (lefts ++ rights)) n ↔ Contains (((0 ∷ []) ++ ids lefts) ++ ids rights) n
      members lefts rights n =
          let joins : ((0 ∷ []) ++ ids lefts) ++ ids rights ≡ 0 ∷ ids (lefts ++ rights) = ap (λ ns. 0 ∷ ns) (sym (map-append (λ (e : Entry). e.0.id) lefts rights)) in (
            λ there. Contains-from_In (((0 ∷ []) ++ ids lefts) ++ ids rights) n (subst (In n) (sym joins) (numbers_to (lefts ++ rights) n (In-from_Contains (numbers_in (lefts ++ rights)) n there))),
            λ there. Contains-from_In (numbers_in (lefts ++ rights)) n (numbers_from (lefts ++ rights) n (subst (In n) joins (In-from_Contains (((0 ∷ []) ++ ids lefts) ++ ids rights) n there))),
          )

  abbrev Begins : Option Difference → Type 0
  Begins first = (list : List Difference) × IsDifference left right list × (slice_get list 0 ≡ first)

  -- the first range of ingress is that of all
  first_of_ingress : AreSmall left → AreSmall right → (d : Difference) → IsFirstIn left right Ingress (Some d) → Begins (Some d)
  first_of_ingress small_left small_right d first =
      let (numbers, are_out, list, are) = made_in small_left small_right Egress in
      let own = first.first_of in (
        own.list ++ list,
        whole_difference left right own.list (own.list ++ list) (first.numbers, first.are, (own.list, refl, own.are)) (numbers, are_out, (list, refl, are)),
        head_stays own.list list d own.head,
      )

  pub by_ingress : AreSmall left → AreSmall right → (first : Option Difference) → is_some first ≡ true → IsFirstIn left right Ingress first → Begins first
  by_ingress small_left small_right (Some d) some first = first_of_ingress small_left small_right d first
  by_ingress small_left small_right None some first = absurd (true≢false (sym some))

  -- where there is none, that of egress is
  first_of_egress : (first : Option Difference) → IsFirstIn left right Ingress None → IsFirstIn left right Egress first → Begins first
  first_of_egress first nothing found =
      let own = nothing.first_of in
      let empty = no_head own.list own.head in
      let are = subst (λ ds. AreOf left right (flat_map (groups_at Ingress) nothing.numbers) ds) empty own.are in
      let of = found.first_of in (
        of.list,
        whole_difference left right [] of.list (nothing.numbers, nothing.are, ([], refl, are)) (found.numbers, found.are, (of.list, refl, of.are)),
        of.head,
      )

  pub by_egress : (ingress first : Option Difference) → is_some ingress ≡ false → IsFirstIn left right Ingress ingress → IsFirstIn left right Egress first → Begins first
  by_egress (Some d) first some nothing found = absurd (true≢false some)
  by_egress None first some nothing found = first_of_egress first nothing found

  -- what an audit says
  audit_by : (first : Option Difference) → Begins first → IsAudit left right (audit_from first)
  audit_by None (list, is, head) = (alike_has_none left right list is).1 (no_head list head)
  audit_by (Some d) (list, is, head) = from_first left right list d head is

-- at the names that the function has for the tables
pub audit_at : (left right ls rs : List Entry) (first : Option Difference) (said : Audit) → ls ≡ left → rs ≡ right → said ≡ audit_from first
    → ((list : List Difference) × IsDifference ls rs list × (slice_get list 0 ≡ first)) → IsAudit left right said
audit_at left right ls rs first said left_is right_is said_is begins =
    subst (λ a. IsAudit left right a) (sym said_is)
    (subst (λ es. IsAudit es right (audit_from first)) left_is (subst (λ es. IsAudit ls es (audit_from first)) right_is (audit_by ls rs first begins)))
