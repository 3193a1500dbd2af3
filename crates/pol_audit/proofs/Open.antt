-- The last entry that has a port, while entries are taken up and left.
use Rattle.std.proofs.Common.{◌≡◌, ℕ, zero, suc, ◌+◌, ◌-◌, ◌<◌, ◌≤◌, not, nat_le, Bool, true, false, cond, List, [], ◌∷◌, ◌++◌, take, drop, get_or, length, Option, Some, None, option_map, map, refl, sym, ap, subst, ◌∙◌, append_assoc, inl, inr, arith}
use Rattle.std.specs.List.{Contains, slice_get}
use Rattle.std.specs.List.Sorted.{IsNonDecreasingBy, IsStrictlySortedBy}
use Rattle.std.proofs.lemmas.Bool.{both_ways, cases_lt, false_from_ne_true, le-leb, leb-true}
use Rattle.std.specs.Ordering.{nat_cmp}
use Rattle.std.proofs.lemmas.List.{append-nil, get_or-drop, get_or_default, length-append, length-drop, map-append, take_all, take_more, take-append-drop}
use Rattle.std.proofs.lemmas.List.Sorted.{IsNonDecreasingBy-drop}
use Rattle.std.proofs.lemmas.Map.Keys.{Less-from_sorted}
use Rattle.std.proofs.lemmas.List.Elements.{Contains-append_cases, Contains-append_left, Contains-append_right}
use Rattle.std.proofs.lemmas.Option.{get_or_from_slice_get, slice_get_cases}
use Rattle.pol_data.proofs.Members.{Contains-cases, Contains-here, Contains-later}
use Rattle.pol_ports.specs.PortPrefix.{prefix_holds}
use Rattle.pol_ports.proofs.Containing.{holds_from, holds_is}
use Rattle.pol_mapkey.specs.declared.Kind.{Kind}
use Rattle.pol_mapkey.specs.Entries.{Entry}
use Rattle.pol_audit.specs.Kinds.{begins_by, has_ended, kind_at, last_at, later}
use Rattle.pol_audit.proofs.Steady.{less_is}

later_none : (x : Option Entry) → later None x ≡ x
later_none None = refl
later_none (Some e) = refl

later_assoc : (a b c : Option Entry) → later (later a b) c ≡ later a (later b c)
later_assoc a b None = refl
later_assoc a b (Some e) = refl

abbrev here : ℕ → Entry → Option Entry
here q e = cond (prefix_holds e.0.port q) (Some e) None

pub last_at-append : (q : ℕ) (xs ys : List Entry) → last_at q (xs ++ ys) ≡ later (last_at q xs) (last_at q ys)
unfolding last_at
last_at-append q [] ys = sym (later_none (last_at q ys))
last_at-append q (x ∷ xs) ys = ap (later (here q x)) (last_at-append q xs ys) ∙ sym (later_assoc (here q x) (last_at q xs) (last_at q ys))

-- where no entry has the port there is none
pub last_at-none : (q : ℕ) (es : List Entry) → ((e : Entry) → Contains es e → prefix_holds e.0.port q ≡ false) → last_at q es ≡ None
unfolding last_at
last_at-none q [] none = refl
last_at-none q (e ∷ es) none =
    ap (later (here q e)) (last_at-none q es (λ f there. none f (Contains-later e es f there)))
    ∙ ap (λ b. cond b (Some e) None) (none e (Contains-here e es))

last_at-one : (q : ℕ) (e : Entry) (b : Bool) → prefix_holds e.0.port q ≡ b → last_at q (e ∷ []) ≡ cond b (Some e) None
unfolding last_at
last_at-one q e b is = ap (λ c. cond c (Some e) None) is

last_at-nil : (q : ℕ) → last_at q [] ≡ None
unfolding last_at
last_at-nil q = refl

-- ---- entries are taken up
-- what was taken up is the same on both sides
pub taken_same : (q : ℕ) (held held' seen seen' taken : List Entry) → held' ≡ held ++ taken → seen' ≡ seen ++ taken → last_at q held ≡ last_at q seen → last_at q held' ≡ last_at q seen'
taken_same q held held' seen seen' taken one two same =
    ap (last_at q) one ∙ last_at-append q held taken ∙ ap (λ x. later x (last_at q taken)) same ∙ sym (last_at-append q seen taken) ∙ sym (ap (last_at q) two)

-- what begins behind a port hasn't it
not_before : (port : ℕ) (e : Entry) → port < e.0.port.bits → prefix_holds e.0.port port ≡ false
not_before port e above = false_from_ne_true (prefix_holds e.0.port port) (λ t. let is = holds_is e.0.port port t in let low = is.0 in omega arith)

behind : (x y : ℕ) → nat_le x y ≡ false → y < x
behind x y f = elim (cases_lt y x) [ inl below ↦ below | inr le ↦ absurd (both_ways (nat_le x y) f (le-leb x y le)) ]

late : (port : ℕ) (es : List Entry) → IsNonDecreasingBy (λ (e : Entry). e.0.port.bits) es → begins_by port (slice_get es 0) ≡ false → last_at port es ≡ None
late port [] up none = last_at-nil port
late port (x ∷ xs) up none =
    last_at-none port (x ∷ xs) (λ e there.
    let first = behind x.0.port.bits port none in
    let rest = up 0 there.0 e (omega arith) there.1 in
    let at = ap (λ (f : Entry). f.0.port.bits) there.2 in
    not_before port e (omega arith))

-- once all that begin by a port are taken up, the others haven't it
pub all_taken : (port next : ℕ) (es : List Entry) → IsNonDecreasingBy (λ (e : Entry). e.0.port.bits) (drop next es) → begins_by port (slice_get (drop next es) 0) ≡ false → last_at port (take next es) ≡ last_at port es
all_taken port next es up none =
    sym (ap (last_at port) (sym (take-append-drop next es)) ∙ last_at-append port (take next es) (drop next es) ∙ ap (later (last_at port (take next es))) (late port (drop next es) up none))

-- ---- entries are left
split_last : (es : List Entry) (x : Entry) → length es - 1 < length es → slice_get es (length es - 1) ≡ Some x → es ≡ take (length es - 1) es ++ x ∷ []
split_last es x some at =
    sym (take_all (length es - 1 + 1) es (omega arith))
    ∙ take_more es (length es - 1) x some ∙ ap (λ y. take (length es - 1) es ++ y ∷ []) (get_or_from_slice_get es (length es - 1) x x at)

-- the one that is left has the port no more, nor a later one
past : (port q : ℕ) (x : Entry) → x.0.port.bits ≤ port → port ≤ q → not (prefix_holds x.0.port port) ≡ true → prefix_holds x.0.port q ≡ false
past port q x low le off =
    false_from_ne_true (prefix_holds x.0.port q) (λ t.
    let is = holds_is x.0.port q t in let high = is.1 in
    let has : prefix_holds x.0.port port ≡ true = holds_from x.0.port port low (omega arith) in
    let wrong : false ≡ true = sym (ap not has) ∙ off in cc)

module _ (port : ℕ) (es : List Entry) where
  abbrev rest : List Entry
  rest = take (length es - 1) es

  pub left_same : has_ended port (slice_get es (length es - 1)) ≡ true → ((e : Entry) → Contains es e → e.0.port.bits ≤ port) → (q : ℕ) → port ≤ q → last_at q rest ≡ last_at q es
  left_same ended low q le = elim (slice_get_cases es (length es - 1)).1 [
    | inl found ↦
        (let x = found.0 in
        let split = split_last es x found.1 found.2 in
        let off : not (prefix_holds x.0.port port) ≡ true = ap (has_ended port) (sym found.2) ∙ ended in
        let there : Contains es x = subst (λ ys. Contains ys x) (sym split) (Contains-append_right rest (x ∷ []) x (Contains-here x [])) in
        let none = last_at-one q x false (past port q x (low x there) le off) in
        sym (ap (last_at q) split ∙ last_at-append q rest (x ∷ []) ∙ ap (later (last_at q rest)) none))
    | inr none ↦ absurd (let wrong : false ≡ true = ap (has_ended port) (sym none.1) ∙ ended in let e : ⊥ = cc in e)
  ]

  pub left_length : has_ended port (slice_get es (length es - 1)) ≡ true → length rest + 1 ≡ length es
  left_length ended = elim (slice_get_cases es (length es - 1)).1 [
    | inl found ↦ (let all = ap length (split_last es found.0 found.1 found.2) in let parts = length-append rest (found.0 ∷ []) in omega arith)
    | inr none ↦ absurd (let wrong : false ≡ true = ap (has_ended port) (sym none.1) ∙ ended in let e : ⊥ = cc in e)
  ]

  -- the last entry is the one that has the port
  pub last_has : has_ended port (slice_get es (length es - 1)) ≡ false → slice_get es (length es - 1) ≡ last_at port es
  last_has off = elim (slice_get_cases es (length es - 1)).1 [
    | inl found ↦
        (let x = found.0 in
        let split = split_last es x found.1 found.2 in
        let has : not (prefix_holds x.0.port port) ≡ false = ap (has_ended port) (sym found.2) ∙ off in
        let one = last_at-one port x true (is_true (prefix_holds x.0.port port) has) in
        found.2 ∙ sym (ap (last_at port) split ∙ last_at-append port rest (x ∷ []) ∙ ap (later (last_at port rest)) one))
    | inr none ↦ none.1 ∙ sym (nothing es none.0)
  ]
    where
      is_true : (b : Bool) → not b ≡ false → b ≡ true
      is_true true f = refl
      is_true false f = let wrong : true ≡ false = f in absurd (let e : ⊥ = cc in e)

      nothing : (xs : List Entry) → length xs ≤ length xs - 1 → last_at port xs ≡ None
      nothing [] le = last_at-nil port
      nothing (x ∷ xs) le = absurd (omega arith)

pub in_taken : (n : ℕ) (es : List Entry) (e : Entry) → Contains (take n es) e → Contains es e
in_taken n es e there = subst (λ xs. Contains xs e) (take-append-drop n es) (Contains-append_left (take n es) (drop n es) e there)

-- ---- from port to port
-- what was taken up behind a place, all of it from entries that begin by the port
abbrev pub Taken : ℕ → ℕ → ℕ → List Entry → List Entry → List Entry → Type 0
Taken port place next es old held = (taken : List Entry) × (held ≡ old ++ taken) × (take next es ≡ take place es ++ taken) × ((e : Entry) → Contains taken e → e.0.port.bits ≤ port)

pub taken_none : (port place : ℕ) (es old : List Entry) → Taken port place place es old old
taken_none port place es old = ([], sym (append-nil old), sym (append-nil (take place es)), λ e there. absurd (let below = there.1 in omega arith))

pub taken_some : (port next : ℕ) (es : List Entry) → begins_by port (slice_get (drop next es) 0) ≡ true → next < length es
taken_some port next es begins = elim (slice_get_cases (drop next es) 0).1 [
  | inl found ↦ (let below = found.1 in let long = length-drop next es in omega arith)
  | inr none ↦ absurd (let wrong : false ≡ true = ap (begins_by port) (sym none.1) ∙ begins in let e : ⊥ = cc in e)
]

taken_low : (port next : ℕ) (es : List Entry) → begins_by port (slice_get (drop next es) 0) ≡ true → (d : Entry) → (get_or es next d).0.port.bits ≤ port
taken_low port next es begins d = elim (slice_get_cases (drop next es) 0).1 [
  | inl found ↦
      (let x = found.0 in
      let low : x.0.port.bits ≤ port = leb-true x.0.port.bits port (ap (begins_by port) (sym found.2) ∙ begins) in
      let at : get_or es next d ≡ x =
      ap (λ k. get_or es k d) (let e : next ≡ next + 0 = omega arith in e) ∙ sym (get_or-drop next es 0 d) ∙ get_or_default (drop next es) 0 d x found.1 ∙ found.3 in
      subst (λ (y : Entry). y.0.port.bits ≤ port) (sym at) low)
  | inr none ↦ absurd (let wrong : false ≡ true = ap (begins_by port) (sym none.1) ∙ begins in let e : ⊥ = cc in e)
]

pub taken_more : (port place next : ℕ) (es old held held' : List Entry) (d : Entry) → Taken port place next es old held → begins_by port (slice_get (drop next es) 0) ≡ true
    → held' ≡ held ++ get_or es next d ∷ [] → Taken port place (next + 1) es old held'
taken_more port place next es old held held' d (taken, is, seen, low) begins made =
    let e = get_or es next d in (
      taken ++ e ∷ [],
      made ∙ ap (λ xs. xs ++ e ∷ []) is ∙ append_assoc old taken (e ∷ []),
      take_more es next d (taken_some port next es begins) ∙ ap (λ xs. xs ++ e ∷ []) seen ∙ append_assoc (take place es) taken (e ∷ []),
      λ f there. elim (Contains-append_cases taken (e ∷ []) f there) [
        | inl in' ↦ low f in'
        | inr one ↦ elim (Contains-cases e [] f one) [
          | inl same ↦ subst (λ (y : Entry). y.0.port.bits ≤ port) same (taken_low port next es begins d)
          | inr none ↦ absurd (let below = none.1 in omega arith)
        ]
      ],
    )

-- what is held is all that may still have a port
pub record IsHeld (es held : List Entry) (next floor : ℕ) : Type 0 where
  pub within : next ≤ length es
  pub low : (e : Entry) → Contains held e → e.0.port.bits ≤ floor
  pub same : (q : ℕ) → floor ≤ q → last_at q held ≡ last_at q (take next es)

pub held_first : (es : List Entry) → IsHeld es [] 0 0
held_first es = record {
  within = omega arith;
  low = λ e there. absurd (let below = there.1 in omega arith);
  same = λ q le. refl;
}

module _ (es held held' : List Entry) (next next' floor port : ℕ) (is : IsHeld es held next floor) (le : floor ≤ port) (taken : Taken port next next' es held held') where
  pub low_then : (e : Entry) → Contains held' e → e.0.port.bits ≤ port
  low_then e there = elim (Contains-append_cases held taken.0 e (subst (λ xs. Contains xs e) taken.1 there)) [
    | inl old ↦ (let low = is.low e old in omega arith)
    | inr new ↦ taken.3 e new
  ]

  pub held_then : (held'' : List Entry) → next' ≤ length es → ((e : Entry) → Contains held'' e → e.0.port.bits ≤ port)
      → ((q : ℕ) → port ≤ q → last_at q held'' ≡ last_at q held') → IsHeld es held'' next' port
  held_then held'' within low same = record {
    within = within;
    low = low;
    same = λ q more. same q more ∙ taken_same q held held' (take next es) (take next' es) taken.0 taken.1 taken.2 (is.same q (omega arith));
  }

-- the kind of the last entry that is held
pub kind_held : (es held : List Entry) (next port : ℕ) (kind : Option Kind) → IsNonDecreasingBy (λ (e : Entry). e.0.port.bits) es → IsHeld es held next port
    → begins_by port (slice_get (drop next es) 0) ≡ false → slice_get held (length held - 1) ≡ last_at port held
    → kind ≡ option_map (λ e. e.1) (slice_get held (length held - 1)) → kind ≡ kind_at es port
kind_held es held next port kind up is none last made =
    made ∙ ap (option_map (λ (e : Entry). e.1)) (last ∙ is.same port (omega arith) ∙ all_taken port next es (IsNonDecreasingBy-drop (λ (e : Entry). e.0.port.bits) next es up) none)

-- the port before one of these, or 0
abbrev pub port_before : List ℕ → ℕ → ℕ
port_before ports i = get_or (0 ∷ ports) i 0

pub before_rises : (ports : List ℕ) (i : ℕ) → IsStrictlySortedBy nat_cmp ports → i < length ports → port_before ports i ≤ get_or ports i 0
before_rises ports zero up below = omega arith
before_rises ports (suc i) up below = let less = less_is (get_or ports i 0) (get_or ports (suc i) 0) (Less-from_sorted nat_cmp ports i (suc i) 0 up (omega arith) below) in omega arith

pub before_next : (ports : List ℕ) (i : ℕ) → get_or ports i 0 ≡ port_before ports (i + 1)
before_next ports i = ap (λ k. get_or (0 ∷ ports) k 0) (let e : suc i ≡ i + 1 = omega arith in e)

pub mapped_more : {Y : Type 0} (f : ℕ → Y) (ports : List ℕ) (i : ℕ) (ys ys' : List Y) (y : Y) → i < length ports → ys ≡ map f (take i ports) → ys' ≡ ys ++ y ∷ [] → y ≡ f (get_or ports i 0)
    → ys' ≡ map f (take (i + 1) ports)
mapped_more f ports i ys ys' y below before made is =
    made ∙ (λ k. before k ++ is k ∷ []) ∙ sym (ap (map f) (take_more ports i 0 below) ∙ map-append f (take i ports) (get_or ports i 0 ∷ []))
