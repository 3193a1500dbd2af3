-- Entries and ranges stand in the order of their places.
use Rattle.std.proofs.Common.{◌≡◌, ℕ, zero, suc, ◌+◌, ◌*◌, ◌^◌, ◌<◌, ◌≤◌, ◌==◌, ◌&&◌, ◌||◌, not, nat_lt, Bool, true, false, cond, List, [], ◌∷◌, filter, get_or, length, refl, sym, ap, subst, ◌∙◌, ◌⊎◌, inl, inr, arith}
use Rattle.std.specs.List.{All, AllByRecursion, Contains, list_any}
use Rattle.std.specs.List.Sorted.{IsNonDecreasingBy}
use Rattle.std.specs.Cmp.{nat_cmp_is}
use Rattle.std.specs.Ordering.{nat_cmp, ordering_then}
use Rattle.std.specs.declared.cmp.Ordering.{Ordering}
use Rattle.std.specs.declared.cmp.Ordering.TheVariants.{Less, Equal, Greater}
use Rattle.std.proofs.lemmas.Bool.{and_from, and_parts, cases_Bool, cases_lt, cases_order, eq-eqb, eqb-true}
use Rattle.std.proofs.lemmas.List.Elements.{Contains-get_or}
use Rattle.std.proofs.lemmas.Map.Keys.{Less-from_sorted}
use Rattle.pol_data.proofs.Members.{Contains-cases, Contains-here, Contains-later}
use Rattle.pol_ports.proofs.Same.{same_direction-is}
use Rattle.pol_ports.specs.declared.Direction.{Direction}
use Rattle.pol_ports.specs.declared.Direction.TheVariants.{Ingress, Egress}
use Rattle.pol_ports.specs.declared.Proto.{Proto}
use Rattle.pol_ports.specs.declared.Proto.TheVariants.{Tcp, Udp, Sctp}
use Rattle.pol_ports.specs.Direction.{direction_cmp, same_direction}
use Rattle.pol_ports.specs.PortPrefix.{prefix_cmp}
use Rattle.pol_mapkey.specs.Entries.{Entry}
use Rattle.pol_mapkey.specs.KeyProto.{key_proto_cmp}
use Rattle.pol_audit.specs.declared.difference.Difference.{Difference}
use Rattle.pol_audit.specs.Difference.{Ascend, IsBefore, least_number}
use Rattle.pol_audit.specs.Packets.{direction_place, packet_place}
use Rattle.pol_audit.specs.Tables.{IsTable, entry_order, is_at, stands}
use Rattle.pol_shut_ports.specs.Shut.{entry_place, group_place, number_place, place_of}

pub clash : (b : Bool) → b ≡ true → b ≡ false → ⊥
clash b t f = let wrong : true ≡ false = sym t ∙ f in cc

-- ---- lists that don't descend
module _ {X : Type 0} (key : X → ℕ) where
  abbrev Rises : List X → Type 0
  Rises [] = Unit {0}
  Rises (x ∷ xs) = AllByRecursion (λ y. key x ≤ key y) xs × Rises xs

  behind : (x : X) (xs : List X) (j : ℕ) (d : X) → AllByRecursion (λ y. key x ≤ key y) xs → j < length xs → key x ≤ key (get_or xs j d)
  behind x [] j d all below = absurd (omega arith)
  behind x (y ∷ ys) zero d all below = all.0
  behind x (y ∷ ys) (suc j) d all below = behind x ys j d all.1 (omega arith)

  rising : (xs : List X) → Rises xs → IsNonDecreasingBy key xs
  rising [] up i j d le below = absurd (omega arith)
  rising (x ∷ xs) up zero zero d le below = omega arith
  rising (x ∷ xs) up zero (suc j) d le below = behind x xs j d up.0 (omega arith)
  rising (x ∷ xs) up (suc i) zero d le below = absurd (omega arith)
  rising (x ∷ xs) up (suc i) (suc j) d le below = rising xs up.1 i j d (omega arith) (omega arith)

weaker_in : {X : Type 0} (P Q : X → Type 0) (xs : List X) → ((x : X) → Contains xs x → P x → Q x) → AllByRecursion P xs → AllByRecursion Q xs
weaker_in P Q [] f all = tt
weaker_in P Q (x ∷ xs) f all = (f x (Contains-here x xs) all.0, weaker_in P Q xs (λ y there. f y (Contains-later x xs y there)) all.1)

-- ---- places
pub proto_small : (proto : Proto) → packet_place proto < 4
proto_small Tcp = omega arith
proto_small Udp = omega arith
proto_small Sctp = omega arith

pub direction_small : (dir : Direction) → direction_place dir < 2
direction_small Ingress = omega arith
direction_small Egress = omega arith

pub direction_is : (a b : Direction) → direction_place a ≡ direction_place b → a ≡ b
direction_is Ingress Ingress e = refl
direction_is Ingress Egress e = absurd (omega arith)
direction_is Egress Ingress e = absurd (omega arith)
direction_is Egress Egress e = refl

pub proto_is : (a b : Proto) → packet_place a ≡ packet_place b → a ≡ b
proto_is Tcp Tcp e = refl
proto_is Tcp Udp e = absurd (omega arith)
proto_is Tcp Sctp e = absurd (omega arith)
proto_is Udp Tcp e = absurd (omega arith)
proto_is Udp Udp e = refl
proto_is Udp Sctp e = absurd (omega arith)
proto_is Sctp Tcp e = absurd (omega arith)
proto_is Sctp Udp e = absurd (omega arith)
proto_is Sctp Sctp e = refl

-- a place tells its direction and its number
pub number_place_parts : (a m b n : ℕ) → m < 4294967296 → n < 4294967296 → number_place a m ≡ number_place b n → (a ≡ b) × (m ≡ n)
number_place_parts a m b n less more same = (omega arith, omega arith)

pub group_place_parts : (a m p b n q : ℕ) → m < 4294967296 → p < 4 → n < 4294967296 → q < 4 → group_place a m p ≡ group_place b n q
    → (a ≡ b) × (m ≡ n) × (p ≡ q)
group_place_parts a m p b n q m_small p_small n_small q_small same =
    let both : (number_place a m ≡ number_place b n) × (p ≡ q) = four (number_place a m) p (number_place b n) q p_small q_small same in
    let parts = number_place_parts a m b n m_small n_small both.0 in
    (parts.0, parts.1, both.1)
  where
    four : (x p y q : ℕ) → p < 4 → q < 4 → x * 4 + p ≡ y * 4 + q → (x ≡ y) × (p ≡ q)
    four x p y q one two same = (omega arith, omega arith)

-- ---- entries
id_le : (x y : ℕ) (o : Ordering) → ordering_then (nat_cmp x y) o ≡ Less → x ≤ y
id_le x y o less = elim (cases_lt y x) [
  | inl below ↦ absurd (let more : Greater ≡ nat_cmp x y = nat_cmp_is x y Greater below in let wrong : Greater ≡ Less = ap (λ c. ordering_then c o) more ∙ less in let e : ⊥ = cc in e)
  | inr le ↦ le
]

places_rise_by : (a b : Direction) (x y : ℕ) (o : Ordering) → x < 4294967296 → ordering_then (direction_cmp a b) (ordering_then (nat_cmp x y) o) ≡ Less
    → number_place (direction_place a) x ≤ number_place (direction_place b) y
places_rise_by Ingress Ingress x y o small less = let le = id_le x y o less in omega arith
places_rise_by Ingress Egress x y o small less = omega arith
places_rise_by Egress Ingress x y o small less = absurd (let wrong : ⊥ = cc in wrong)
places_rise_by Egress Egress x y o small less = let le = id_le x y o less in omega arith

pub entries_rise : (entries : List Entry) → IsTable entries → ((e : Entry) → Contains entries e → e.0.id < 4294967296) → IsNonDecreasingBy entry_place entries
entries_rise entries up small i j d le below = elim (cases_order i j) [
  | inl same ↦ subst (λ k. entry_place (get_or entries i d) ≤ entry_place (get_or entries k d)) same (let e : entry_place (get_or entries i d) ≤ entry_place (get_or entries i d) = omega arith in e)
  | inr order ↦ elim order [
    | inl less ↦ (let a : Entry = get_or entries i d in let b : Entry = get_or entries j d in
        places_rise_by a.0.dir b.0.dir a.0.id b.0.id (ordering_then (key_proto_cmp a.0.proto b.0.proto) (prefix_cmp a.0.port b.0.port))
        (small a (Contains-get_or entries i d (omega arith))) (Less-from_sorted entry_order entries i j d up less below))
    | inr more ↦ absurd (omega arith)
  ]
]

-- a number stands exactly where its place has an entry
at_place : (dir : Direction) (id : ℕ) (e : Entry) → id < 4294967296 → e.0.id < 4294967296 → is_at dir id e ≡ (entry_place e == number_place (direction_place dir) id)
at_place dir id e small e_small =
    agree (is_at dir id e) (entry_place e == number_place (direction_place dir) id)
    (λ t.
    let both = and_parts (same_direction e.0.dir dir) (e.0.id == id) t in
    let dirs = same_direction-is e.0.dir dir both.0 in
    let ids = eqb-true e.0.id id both.1 in
    eq-eqb (entry_place e) (number_place (direction_place dir) id) (λ i. number_place (direction_place (dirs i)) (ids i)))
    (λ t.
    let parts = number_place_parts (direction_place e.0.dir) e.0.id (direction_place dir) id e_small small (eqb-true (entry_place e) (number_place (direction_place dir) id) t) in
    let dirs = direction_is e.0.dir dir parts.0 in
    and_from (same_direction e.0.dir dir) (e.0.id == id) (subst (λ d. same_direction d dir ≡ true) (sym dirs) (self dir)) (eq-eqb e.0.id id parts.1))
  where
    agree : (p q : Bool) → (p ≡ true → q ≡ true) → (q ≡ true → p ≡ true) → p ≡ q
    agree true q to back = sym (to refl)
    agree false true to back = back refl
    agree false false to back = refl

    self : (d : Direction) → same_direction d d ≡ true
    self Ingress = refl
    self Egress = refl

abbrev is_some_there : {X : Type 0} → List X → Bool
is_some_there [] = false
is_some_there (x ∷ xs) = true

any_filter : {X : Type 0} (p q : X → Bool) (xs : List X) → ((x : X) → Contains xs x → p x ≡ q x) → list_any p xs ≡ is_some_there (filter q xs)
any_filter p q [] same = refl
any_filter p q (x ∷ xs) same =
    (λ i. same x (Contains-here x xs) i || any_filter p q xs (λ y there. same y (Contains-later x xs y there)) i)
    ∙ by (q x)
  where
    by : (b : Bool) → (b || is_some_there (filter q xs)) ≡ is_some_there (cond b (x ∷ filter q xs) (filter q xs))
    by true = refl
    by false = refl

not_none : {X : Type 0} (xs : List X) → is_some_there xs ≡ not (length xs == 0)
not_none [] = refl
not_none (x ∷ xs) = let e : (length (x ∷ xs) == 0) ≡ false = no (length (x ∷ xs) == 0) refl in sym (ap not e)
  where
    no : (b : Bool) → (length (x ∷ xs) == 0) ≡ b → b ≡ false
    no true is = absurd (let wrong = eqb-true (length (x ∷ xs)) 0 is in omega arith)
    no false is = refl

pub stands_at : (dir : Direction) (id : ℕ) (entries : List Entry) → id < 4294967296 → ((e : Entry) → Contains entries e → e.0.id < 4294967296)
    → stands dir id entries ≡ not (length (filter (λ (e : Entry). entry_place e == number_place (direction_place dir) id) entries) == 0)
stands_at dir id entries small all =
    any_filter (is_at dir id) (λ e. entry_place e == number_place (direction_place dir) id) entries (λ e there. at_place dir id e small (all e there))
    ∙ not_none (filter (λ (e : Entry). entry_place e == number_place (direction_place dir) id) entries)

-- ---- ranges
before_le : (d e : Difference) → least_number d.numbers < 4294967296 → IsBefore d e → place_of d ≤ place_of e
before_le d e small (inl less) = let p = proto_small d.proto in omega arith
before_le d e small (inr rest) = elim rest.1 [
  | inl less ↦ (let p = proto_small d.proto in let same = ap direction_place rest.0 in omega arith)
  | inr more ↦ elim more.1 [
    | inl less ↦ (let same = ap direction_place rest.0 in let number = more.0 in omega arith)
    | inr last ↦ (let same = ap direction_place rest.0 in let number = more.0 in let p = ap packet_place last.0 in omega arith)
  ]
]

rises : (list : List Difference) → Ascend list → ((d : Difference) → Contains list d → least_number d.numbers < 4294967296) → Rises place_of list
unfolding Ascend
rises [] up small = tt
rises (d ∷ list) up small = (
  weaker_in (IsBefore d) (λ e. place_of d ≤ place_of e) list (λ e there before. before_le d e (small d (Contains-here d list)) before) up.0,
  rises list up.1 (λ e there. small e (Contains-later d list e there)),
)

pub ranges_rise : (list : List Difference) → Ascend list → ((d : Difference) → Contains list d → least_number d.numbers < 4294967296) → IsNonDecreasingBy place_of list
ranges_rise list up small = rising place_of list (rises list up small)
