-- The longest key: there is one wherever some key covers the packet, and only one.
use Rattle.std.proofs.Common.{◌≡◌, ℕ, Bool, true, false, not, ◌&&◌, ◌||◌, ◌==◌, List, [], ◌∷◌, get_or, Option, Some, None, refl, sym, ◌∙◌, ap, subst, inl, inr, ◌⊎◌, ◌↔◌, arith, MatchOption}
use Rattle.std.specs.List.{Contains, find}
use Rattle.std.proofs.lemmas.Bool.{and_parts, and_from, eqb-true, cases_Bool, cases_order, or_cases, or_left, or_right, not-true, not_from_false, both_ways}
use Rattle.std.proofs.lemmas.List.{get_or_default}
use Rattle.pol_ports.specs.declared.Direction.{Direction}
use Rattle.pol_ports.specs.declared.Proto.{Proto}
use Rattle.pol_data.proofs.Members.{Contains-here, Contains-later, Contains-cases, find-gives, list_all-from_in, list_all-in}
use Rattle.pol_mapkey.specs.MapKey.{covers, covers_packet}
use Rattle.pol_mapkey.specs.Entries.{Entry, reaches, all_cover, longest, EachKeyOnce}
use Rattle.pol_mapkey.proofs.Keys.{chain, covers-self, covers-both, covers-three}

-- no entry reaches the packet
abbrev pub NoneReaches : List Entry → Direction → ℕ → Proto → ℕ → Type 0
NoneReaches entries dir id proto port = (e : Entry) → Contains entries e → reaches dir id proto port e ≡ false

-- the entry reaches the packet, and the keys of all entries that do cover its key
abbrev pub IsLongest : List Entry → Direction → ℕ → Proto → ℕ → Entry → Type 0
IsLongest entries dir id proto port e =
    Contains entries e × (reaches dir id proto port e ≡ true)
    × ((f : Entry) → Contains entries f → reaches dir id proto port f ≡ true → covers f.0 e.0 ≡ true)

-- entries of equal keys are equal
abbrev pub OneKindAKey : List Entry → Type 0
OneKindAKey entries = (e f : Entry) → Contains entries e → Contains entries f → e.0 ≡ f.0 → e ≡ f

-- where each key stands once, entries of equal keys are equal
pub one_kind : (entries : List Entry) → EachKeyOnce entries → OneKindAKey entries
one_kind entries once e f (i, i_in, at_i) (j, j_in, at_j) same =
    let e_is : get_or entries i e ≡ e = at_i in
    let f_is : get_or entries j e ≡ f = get_or_default entries j e f j_in ∙ at_j in
    elim (cases_order i j) [
      | inl k ↦ sym e_is ∙ ap (λ n. get_or entries n e) k ∙ f_is
      | inr o ↦ elim o [
        | inl l ↦ absurd (once i j e l j_in (ap (λ (x : Entry). x.0) e_is ∙ same ∙ sym (ap (λ (x : Entry). x.0) f_is)))
        | inr g ↦ absurd (once j i e g i_in (ap (λ (x : Entry). x.0) f_is ∙ sym same ∙ sym (ap (λ (x : Entry). x.0) e_is)))
      ]
    ]

module _ (dir : Direction) (id : ℕ) (proto : Proto) (port : ℕ) where
  reaching_pair : (e f : Entry) → reaches dir id proto port e ≡ true → reaches dir id proto port f ≡ true
      → (covers e.0 f.0 ≡ true) ⊎ (covers f.0 e.0 ≡ true)
  reaching_pair e f s t =
      let x = and_parts (e.0.id == id) (covers_packet e.0 dir proto port) s in
      let y = and_parts (f.0.id == id) (covers_packet f.0 dir proto port) t in
      chain e.0 f.0 dir proto port (eqb-true e.0.id id x.0 ∙ sym (eqb-true f.0.id id y.0)) x.1 y.1

  -- one of the entries that reach the packet is covered by all of them
  some_longest : (entries : List Entry) → NoneReaches entries dir id proto port ⊎ ((e : Entry) × IsLongest entries dir id proto port e)
  some_longest [] = inl (λ e has. absurd (let below = has.1 in omega arith))
  some_longest (y ∷ xs) =
      elim (cases_Bool (reaches dir id proto port y)) [
        | inl t ↦ elim (some_longest xs) [
          | inl none ↦ inr (
            y,
            (
              Contains-here y xs,
              t,
              λ f has s. elim (Contains-cases y xs f has) [
                | inl same ↦ (let P : Entry → Type 0 = λ z. covers z.0 y.0 ≡ true in subst P same (covers-self y.0))
                | inr later ↦ absurd (both_ways (reaches dir id proto port f) (none f later) s)
              ],
            ),
          )
          | inr some ↦ elim (reaching_pair y some.0 t some.1.1) [
            | inl wider ↦ inr (
              some.0,
              (
                Contains-later y xs some.0 some.1.0,
                some.1.1,
                λ f has s. elim (Contains-cases y xs f has) [
                  | inl same ↦ (let P : Entry → Type 0 = λ z. covers z.0 some.0.0 ≡ true in subst P same wider)
                  | inr later ↦ some.1.2 f later s
                ],
              ),
            )
            | inr narrower ↦ inr (
              y,
              (
                Contains-here y xs,
                t,
                λ f has s. elim (Contains-cases y xs f has) [
                  | inl same ↦ (let P : Entry → Type 0 = λ z. covers z.0 y.0 ≡ true in subst P same (covers-self y.0))
                  | inr later ↦ covers-three f.0 some.0.0 y.0 (some.1.2 f later s) narrower
                ],
              ),
            )
          ]
        ]
        | inr n ↦ elim (some_longest xs) [
          | inl none ↦ inl (λ e has. elim (Contains-cases y xs e has) [
            | inl same ↦ ap (reaches dir id proto port) (sym same) ∙ n
            | inr later ↦ none e later
          ])
          | inr some ↦ inr (
            some.0,
            (
              Contains-later y xs some.0 some.1.0,
              some.1.1,
              λ f has s. elim (Contains-cases y xs f has) [
                | inl same ↦ absurd (both_ways (reaches dir id proto port f) (ap (reaches dir id proto port) (sym same) ∙ n) s)
                | inr later ↦ some.1.2 f later s
              ],
            ),
          )
        ]
      ]

  -- what the definition tests of an entry
  longest_test : List Entry → Entry → Bool
  longest_test entries e = reaches dir id proto port e && all_cover (reaches dir id proto port) entries e.0

  test_is : (entries : List Entry) (e : Entry) → Contains entries e → longest_test entries e ≡ true → IsLongest entries dir id proto port e
  unfolding longest_test
  test_is entries e has t =
      let both = and_parts (reaches dir id proto port e) (all_cover (reaches dir id proto port) entries e.0) t in (
        has,
        both.0,
        λ f in_f s.
            elim (or_cases (not (reaches dir id proto port f)) (covers f.0 e.0)
            (list_all-in (λ g. not (reaches dir id proto port g) || covers g.0 e.0) entries both.1 f in_f)) [
              | inl no' ↦ absurd (both_ways (reaches dir id proto port f) (not-true (reaches dir id proto port f) no') s)
              | inr yes' ↦ yes'
            ],
      )

  test_from : (entries : List Entry) (e : Entry) → IsLongest entries dir id proto port e → longest_test entries e ≡ true
  unfolding longest_test
  test_from entries e longest' =
      and_from (reaches dir id proto port e) (all_cover (reaches dir id proto port) entries e.0) longest'.1
      (list_all-from_in (λ g. not (reaches dir id proto port g) || covers g.0 e.0) entries (λ f in_f.
      elim (cases_Bool (reaches dir id proto port f)) [
        | inl t ↦ or_right (not (reaches dir id proto port f)) (covers f.0 e.0) (longest'.2 f in_f t)
        | inr n ↦ or_left (not (reaches dir id proto port f)) (covers f.0 e.0) (not_from_false (reaches dir id proto port f) n)
      ]))

  -- what `longest` gives
  pub longest_gives : (entries : List Entry) → MatchOption (longest entries dir id proto port) (NoneReaches entries dir id proto port) (IsLongest entries dir id proto port)
  unfolding longest longest_test
  longest_gives entries = gives entries (find (longest_test entries) entries) (find-gives (longest_test entries) entries)
    where
      gives : (entries : List Entry) (r : Option Entry)
          → MatchOption r ((e : Entry) → Contains entries e → longest_test entries e ≡ false) (λ e. Contains entries e × (longest_test entries e ≡ true))
          → MatchOption r (NoneReaches entries dir id proto port) (IsLongest entries dir id proto port)
      gives entries None h = elim (some_longest entries) [
        | inl none ↦ none
        | inr some ↦ absurd (both_ways (longest_test entries some.0) (h some.0 some.1.0) (test_from entries some.0 some.1))
      ]
      gives entries (Some e) h = test_is entries e h.0 h.1

  -- an entry that all others cover is the longest, and where no entry reaches the packet there is none
  pub longest_is : (entries : List Entry) (e : Entry) → OneKindAKey entries → IsLongest entries dir id proto port e
      → longest entries dir id proto port ≡ Some e
  longest_is entries e one is = only (longest entries dir id proto port) (longest_gives entries)
    where
      only : (r : Option Entry) → MatchOption r (NoneReaches entries dir id proto port) (IsLongest entries dir id proto port) → r ≡ Some e
      only None none = absurd (both_ways (reaches dir id proto port e) (none e is.0) is.1)
      only (Some f) is' = ap Some (one f e is'.0 is.0 (covers-both f.0 e.0 (is.2 f is'.0 is'.1) (is'.2 e is.0 is.1)))

  pub longest_none : (entries : List Entry) → NoneReaches entries dir id proto port → longest entries dir id proto port ≡ None
  longest_none entries none = only (longest entries dir id proto port) (longest_gives entries)
    where
      only : (r : Option Entry) → MatchOption r (NoneReaches entries dir id proto port) (IsLongest entries dir id proto port) → r ≡ None
      only None none' = refl
      only (Some f) is' = absurd (both_ways (reaches dir id proto port f) (none f is'.0) is'.1)

  -- lists with the same entries have one longest
  pub longest_same : (xs ys : List Entry) → OneKindAKey xs → ((e : Entry) → Contains xs e ↔ Contains ys e)
      → longest xs dir id proto port ≡ longest ys dir id proto port
  longest_same xs ys one same = by_first (longest xs dir id proto port) (longest_gives xs)
    where
      by_first : (r : Option Entry) → MatchOption r (NoneReaches xs dir id proto port) (IsLongest xs dir id proto port)
          → r ≡ longest ys dir id proto port
      by_first None none = sym (longest_none ys (λ e has. none e ((same e).1 has)))
      by_first (Some e) is =
          let one' : OneKindAKey ys = λ f g in_f in_g k. one f g ((same f).1 in_f) ((same g).1 in_g) k in
          sym (longest_is ys e one' ((same e).0 is.0, is.1, λ f has t. is.2 f ((same f).1 has) t))
