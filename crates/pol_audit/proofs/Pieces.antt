-- The ranges of a group tell the whole difference on its packets, where nothing changes between the ports.
use Rattle.std.proofs.Common.{◌≡◌, ◌≢◌, ℕ, ◌-◌, ◌<◌, ◌≤◌, ◌&&◌, Bool, true, false, cond, List, [], ◌∷◌, ◌++◌, refl, sym, ap, subst, ◌∙◌, inl, inr, arith}
use Rattle.std.specs.List.{Contains}
use Rattle.std.proofs.lemmas.Bool.{and_parts, cases_Bool, cases_lt}
use Rattle.std.proofs.lemmas.List.Elements.{Contains-append_left, Contains-append_right, Contains-append_cases}
use Rattle.pol_data.proofs.Members.{Contains-cases, Contains-here}
use Rattle.pol_mapkey.specs.declared.Word.{Word}
use Rattle.pol_mapkey.specs.declared.Word.TheVariants.{Allowed, DeniedByRule, DeniedByDefault}
use Rattle.pol_mapkey.specs.Entries.{Entry}
use Rattle.pol_audit.specs.declared.difference.Difference.{Difference}
use Rattle.pol_audit.specs.declared.group.Group.{Group}
use Rattle.pol_audit.specs.Difference.{Ascend}
use Rattle.pol_audit.specs.Exact.{AreOf, Found, IsOf, Tells, words_of}
use Rattle.pol_audit.specs.Ranges.{numbers_of, piece, ranges_from, same_word, same_words}
use Rattle.pol_audit.proofs.Orders.{ascend-append, ascend-none, ascend-one, before_within}
use Rattle.pol_audit.proofs.Walk.{ranges_end, ranges_next, ranges_same}

pub same_word-is : (a b : Word) → same_word a b ≡ true → a ≡ b
same_word-is Allowed Allowed t = refl
same_word-is Allowed DeniedByRule t = absurd (let wrong : ⊥ = cc in wrong)
same_word-is Allowed DeniedByDefault t = absurd (let wrong : ⊥ = cc in wrong)
same_word-is DeniedByRule Allowed t = absurd (let wrong : ⊥ = cc in wrong)
same_word-is DeniedByRule DeniedByRule t = refl
same_word-is DeniedByRule DeniedByDefault t = absurd (let wrong : ⊥ = cc in wrong)
same_word-is DeniedByDefault Allowed t = absurd (let wrong : ⊥ = cc in wrong)
same_word-is DeniedByDefault DeniedByRule t = absurd (let wrong : ⊥ = cc in wrong)
same_word-is DeniedByDefault DeniedByDefault t = refl

pub same_word-self : (a : Word) → same_word a a ≡ true
same_word-self Allowed = refl
same_word-self DeniedByRule = refl
same_word-self DeniedByDefault = refl

same_words-is : (a b : Word × Word) → same_words a b ≡ true → a ≡ b
same_words-is a b t =
    let both = and_parts (same_word a.0 b.0) (same_word a.1 b.1) t in
    let one = same_word-is a.0 b.0 both.0 in let two = same_word-is a.1 b.1 both.1 in λ i. (one i, two i)

pub same_words-self : (a : Word × Word) → same_words a a ≡ true
same_words-self a = ap (λ b. b && same_word a.1 a.1) (same_word-self a.0) ∙ same_word-self a.1

clash : (b : Bool) → b ≡ true → b ≡ false → ⊥
clash b t f = let wrong : true ≡ false = sym t ∙ f in cc

-- nothing changes from here to the next of these ports, and so on
abbrev pub Steady : (ℕ → Word × Word) → ℕ → List ℕ → Type 0
Steady said here [] = (port : ℕ) → here ≤ port → port < 65536 → said port ≡ said here
Steady said here (c ∷ cs) = (here < c) × (c < 65536) × ((port : ℕ) → here ≤ port → port < c → said port ≡ said here) × Steady said c cs

module _ (left right : List Entry) (group : Group) where
  abbrev said : ℕ → Word × Word
  said = words_of left right group

  -- the difference on the group's packets from a port to another
  record Between (start last : ℕ) (list : List Difference) : Type 0 where
    each : (d : Difference) → Contains list d → Tells left right group d × (start ≤ d.first) × (d.last ≤ last)
    whole : (port : ℕ) → start ≤ port → port ≤ last → (said port).0 ≢ (said port).1 → Found group port list
    ascend : Ascend list

  abbrev the_range : ℕ → ℕ → Difference
  the_range first last =
      record { dir = group.dir; numbers = numbers_of group.id; proto = group.proto; first = first; last = last; left = (said first).0; right = (said first).1 }

  one_piece : (b : Bool) (first last : ℕ) → first ≤ last → last < 65536 → ((port : ℕ) → first ≤ port → port ≤ last → said port ≡ said first)
      → same_word (said first).0 (said first).1 ≡ b → Between first last (cond b [] (the_range first last ∷ []))
  one_piece true first last low high steady same =
      record {
        each = λ d there. absurd (let below = there.1 in omega arith);
        whole = λ port from to differ. absurd (differ (ap (λ w. w.0) (steady port from to) ∙ same_word-is (said first).0 (said first).1 same ∙ sym (ap (λ w. w.1) (steady port from to))));
        ascend = ascend-none;
      }
  one_piece false first last low high steady differ =
      let of : IsOf group (the_range first last) = record { dir = refl; numbers = refl; proto = refl } in
      let tells : Tells left right group (the_range first last) = record {
        of = of;
        ordered = low;
        ports = high;
        said = steady;
        differ = λ same. clash (same_word (said first).0 (said first).1) (subst (λ w. same_word (said first).0 w ≡ true) same (same_word-self (said first).0)) differ;
      } in
      let P : Difference → Type 0 = λ d. Tells left right group d × (first ≤ d.first) × (d.last ≤ last) in
      record {
        each = λ d there. elim (Contains-cases (the_range first last) [] d there) [
          | inl is ↦ subst P is (tells, (let e : first ≤ first = omega arith in e), (let e : last ≤ last = omega arith in e))
          | inr none ↦ absurd (let below = none.1 in omega arith)
        ];
        whole = λ port from to _. (the_range first last, Contains-here (the_range first last) [], of, from, to);
        ascend = ascend-one (the_range first last);
      }

  piece_between : (first last : ℕ) → first ≤ last → last < 65536 → ((port : ℕ) → first ≤ port → port ≤ last → said port ≡ said first)
      → Between first last (piece group first last (said first))
  piece_between first last low high steady = one_piece (same_word (said first).0 (said first).1) first last low high steady refl

  -- two stretches, with other words on the second's first port
  both_between : (first middle last : ℕ) (xs ys : List Difference) → first < middle → middle ≤ last → Between first (middle - 1) xs → Between middle last ys
      → ((port : ℕ) → first ≤ port → port < middle → said port ≡ said first) → same_words (said first) (said middle) ≡ false → Between first last (xs ++ ys)
  both_between first middle last xs ys low high front back steady other =
      record {
        each = λ d there. elim (Contains-append_cases xs ys d there) [
          | inl in' ↦ (let is = front.each d in' in (is.0, is.1, (let to = is.2 in let e : d.last ≤ last = omega arith in e)))
          | inr in' ↦ (let is = back.each d in' in (is.0, (let from = is.1 in let e : first ≤ d.first = omega arith in e), is.2))
        ];
        whole = λ port from to differ. elim (cases_lt port middle) [
          | inl below ↦ (let found = front.whole port from (let e : port ≤ middle - 1 = omega arith in e) differ in (found.0, Contains-append_left xs ys found.0 found.1, found.2, found.3, found.4))
          | inr above ↦ (let found = back.whole port above to differ in (found.0, Contains-append_right xs ys found.0 found.1, found.2, found.3, found.4))
        ];
        ascend = ascend-append xs ys front.ascend back.ascend (λ d e in_d in_e.
            let one = front.each d in_d in let two = back.each e in_e in
            before_within group d e one.0.of two.0.of (
              (let to = one.2 in let from = two.1 in let le : d.last < e.first = omega arith in le),
              λ touch same_left same_right.
                  let at : e.first ≡ middle = (let to = one.2 in let from = two.1 in omega arith) in
                  let first_said : said d.first ≡ (d.left, d.right) = one.0.said d.first (omega arith) one.0.ordered in
                  let next_said : said e.first ≡ (e.left, e.right) = two.0.said e.first (omega arith) two.0.ordered in
                  let start_is : said d.first ≡ said first = steady d.first one.1 (let to = one.2 in let ord = one.0.ordered in omega arith) in
                  let all : said first ≡ said middle = sym start_is ∙ first_said ∙ (λ i. (same_left i, same_right i)) ∙ sym next_said ∙ ap said at in
                  clash (same_words (said first) (said middle)) (subst (λ w. same_words (said first) w ≡ true) all (same_words-self (said first))) other,
            ));
      }

  -- from a port on, where what is said there is said up to another one, and nothing changes between the ports behind that
  ranges_between : (first here : ℕ) (cs : List ℕ) → first ≤ here → here < 65536 → ((port : ℕ) → first ≤ port → port ≤ here → said port ≡ said first)
      → Steady said here cs → Between first 65535 (ranges_from group said first cs)
  ranges_between first here [] low high steady rest =
      subst (Between first 65535) (sym (ranges_end group said first))
      (piece_between first 65535 (omega arith) (omega arith) (λ port from to. elim (cases_lt port here) [
        | inl below ↦ steady port from (omega arith)
        | inr above ↦ rest port above (omega arith) ∙ steady here low (omega arith)
      ]))
  ranges_between first here (c ∷ cs) low high steady rest =
      let before : (port : ℕ) → first ≤ port → port < c → said port ≡ said first = λ port from to. elim (cases_lt port here) [
        | inl below ↦ steady port from (omega arith)
        | inr above ↦ rest.2 port above to ∙ steady here low (omega arith)
      ] in
      elim (cases_Bool (same_words (said first) (said c))) [
        | inl same ↦ subst (Between first 65535) (sym (ranges_same group said first c cs same))
            (ranges_between first c cs (let less = rest.0 in omega arith) rest.1 (λ port from to. elim (cases_lt port c) [
              | inl below ↦ before port from below
              | inr above ↦ ap said (let e : port ≡ c = omega arith in e) ∙ sym (same_words-is (said first) (said c) same)
            ]) rest.3)
        | inr other ↦ subst (Between first 65535) (sym (ranges_next group said first c cs other))
            (both_between first c 65535 (piece group first (c - 1) (said first)) (ranges_from group said c cs)
            (let less = rest.0 in omega arith) (let small = rest.1 in omega arith)
            (piece_between first (c - 1) (let less = rest.0 in omega arith) (let small = rest.1 in let less = rest.0 in omega arith) (λ port from to. before port from (let less = rest.0 in omega arith)))
            (ranges_between c c cs (omega arith) rest.1 (λ port from to. ap said (let e : port ≡ c = omega arith in e)) rest.3)
            before other)
      ]

  -- so from port 0 on they tell the whole difference on the group's packets
  pub ranges_exact : (cs : List ℕ) → Steady said 0 cs → AreOf left right (group ∷ []) (ranges_from group said 0 cs)
  ranges_exact cs steady =
      let all = ranges_between 0 0 cs (omega arith) (omega arith) (λ port from to. ap said (let e : port ≡ 0 = omega arith in e)) steady in
      record {
        each = λ d there. (group, Contains-here group [], (all.each d there).0);
        whole = λ g there port below. elim (Contains-cases group [] g there) [
          | inl is ↦ (let P : Group → Type 0 = λ h. (words_of left right h port).0 ≢ (words_of left right h port).1 → Found h port (ranges_from group said 0 cs) in
              subst P is (all.whole port (omega arith) (omega arith)))
          | inr none ↦ absurd (let less = none.1 in omega arith)
        ];
        ascend = all.ascend;
      }
