-- Numbers under the headings of the peers that select them, and what a peer's selector is tried for.
use Rattle.std.proofs.Common.{if◌then◌else◌, ◌≡◌, ℕ, ◌+◌, ◌*◌, ◌==◌, ◌<◌, ◌≤◌, ◌^◌, ◌&&◌, ◌||◌, not, Bool, true, false, cond, List, [], ◌∷◌, filter, length, take, slice_get, get_or, Some, refl, sym, ap, subst, ◌∙◌, inl, inr, arith}
use Rattle.std.specs.List.Sorted.{IsStrictlySortedBy}
use Rattle.std.specs.Ordering.{nat_cmp}
use Rattle.std.proofs.lemmas.Bool.{eq-eqb, eqb-true, false_from_ne_true, or_cases, or_left, or_right}
use Rattle.std.proofs.lemmas.List.Folds.{list_any_more}
use Rattle.std.proofs.lemmas.List.Kept.{IsStrictlySortedBy-filter}
use Rattle.pol_set_changes.specs.Ids.{has}
use Rattle.pol_headings.specs.declared.heading.Heading.{Heading}
use Rattle.pol_headings.specs.Filed.{Drawers, is_filed}
use Rattle.pol_headings.specs.Heading.{heading_of, same_heading}
use Rattle.pol_headings.specs.Tried.{is_among}
use Rattle.pol_headings.proofs.Equality.{same_heading-Decides}
use Rattle.pol_ident.specs.Look.{selects_held}
use Rattle.pol_model.specs.declared.row.IdentityRow.{IdentityRow}
use Rattle.pol_model.specs.Selects.{set_at}
use Rattle.pol_model.proofs.AscendingStates.{RowsAscend}
use Rattle.pol_rule.specs.declared.policy.Peer.{Peer}
use Rattle.pol_selcache.specs.ByHeading.{AreFiled, AreSmall, AreThoseFor, IsFiledToo}
use Rattle.pol_selcache.specs.Held.{steps_of}
use Rattle.pol_selcache.specs.Live.{is_label_peer, rows_without}
use Rattle.pol_selcache.specs.Moving.{Moving}
use Rattle.pol_selcache.specs.Tried.{HasAllAt}
use Rattle.pol_selcache.proofs.Numbers.{has-append, has-filter, same_numbers}
use Rattle.pol_selcache.proofs.RowSets.{has-held, has-set_without, rows_without_ascend, set_sorted}
use Rattle.pol_selcache.proofs.Untried.{take_next}

-- two truths that imply one another
same_truth : (a b : Bool) → (a ≡ true → b ≡ true) → (b ≡ true → a ≡ true) → a ≡ b
same_truth true b to back = sym (to refl)
same_truth false true to back = back refl
same_truth false false to back = refl

-- ---- one number, under one heading after another
same_swap : (a b : Heading) → same_heading a b ≡ same_heading b a
same_swap a b =
    same_truth (same_heading a b) (same_heading b a)
    (λ is. (same_heading-Decides b a).1 (sym ((same_heading-Decides a b).0 is)))
    (λ is. (same_heading-Decides a b).1 (sym ((same_heading-Decides b a).0 is)))

joined : (was a b here : Bool) → ((was || (a && here)) || (b && here)) ≡ (was || ((a || b) && here))
joined true a b here = refl
joined false true b true = refl
joined false true true false = refl
joined false true false false = refl
joined false false b here = refl

pub more-filed : (was : Bool) (headings : List Heading) (i : ℕ) (own : Heading) (number : ℕ) (heading : Heading) (n : ℕ) → i < length headings → own ≡ get_or headings i own
    → ((was || (is_among (take i headings) heading && (number == n))) || (same_heading own heading && (number == n))) ≡ (was || (is_among (take (i + 1) headings) heading && (number == n)))
more-filed was headings i own number heading n within is =
    joined was (is_among (take i headings) heading) (same_heading own heading) (number == n)
    ∙ ap (λ b. was || (b && (number == n)))
    (ap (λ b. is_among (take i headings) heading || b) (same_swap own heading ∙ ap (same_heading heading) is)
    ∙ sym (list_any_more (same_heading heading) headings i own within))

-- under the headings of all peers that select it
module _ (rows : List IdentityRow) (number : ℕ) (headings : List Heading) (old new : Drawers) (all : HasAllAt rows headings number)
    (filed : (heading : Heading) (n : ℕ) → is_filed new heading n ≡ (is_filed old heading n || (is_among headings heading && (number == n)))) (small : number < 2 ^ 32) where
  weaker : (was among same : Bool) → (was || (among && same)) ≡ true → (was || same) ≡ true
  weaker true among same there = refl
  weaker false true same there = there
  weaker false false same there = absurd (let wrong : ⊥ = cc in wrong)

  pub filed_too : IsFiledToo rows number old new
  filed_too = record {
    own = λ p selected. filed (heading_of p) number ∙ or_right (is_filed old (heading_of p) number) _ (λ i. all p selected i && eq-eqb number number refl i);
    kept = λ heading n before. filed heading n ∙ or_left (is_filed old heading n) _ before;
    only = λ heading n there. weaker (is_filed old heading n) (is_among headings heading) (number == n) (sym (filed heading n) ∙ there);
    small = small;
  }

-- ---- one number after another
pub none_filed : (rows : List IdentityRow) (filing : Drawers) → filing ≡ [] → AreFiled rows [] filing
none_filed rows filing is = subst (AreFiled rows []) (sym is) (record {
  all = λ n p there selected. absurd (let wrong : ⊥ = cc in wrong);
  only = λ heading n there. absurd (let wrong : ⊥ = cc in wrong);
})

pub none_small : (filing : Drawers) → filing ≡ [] → AreSmall filing
none_small filing is = subst AreSmall (sym is) (λ heading n there. absurd (let wrong : ⊥ = cc in wrong))

module _ (rows : List IdentityRow) (numbers : List ℕ) (i number : ℕ) (old new : Drawers) (at : slice_get numbers i ≡ Some number) (too : IsFiledToo rows number old new) where
  pub one_more_filed : AreFiled rows (take i numbers) old → AreFiled rows (take (i + 1) numbers) new
  one_more_filed filed = subst (λ done. AreFiled rows done new) (sym (take_next numbers i number at)) (record {
    all = λ n p there selected.
        elim (or_cases (has n (take i numbers)) (has n (number ∷ [])) (sym (has-append n (take i numbers) (number ∷ [])) ∙ there)) [
          | inl before ↦ too.kept (heading_of p) n (filed.all n p before selected)
          | inr here ↦
              let same : number ≡ n = eqb-true number n (alone (number == n) here) in
              subst (λ m. is_filed new (heading_of p) m ≡ true) same (too.own p (subst (λ m. selects_held rows p m ≡ true) (sym same) selected))
        ];
    only = λ heading n there.
        has-append n (take i numbers) (number ∷ [])
        ∙ elim (or_cases (is_filed old heading n) (number == n) (too.only heading n there)) [
          | inl before ↦ or_left (has n (take i numbers)) (has n (number ∷ [])) (filed.only heading n before)
          | inr here ↦ or_right (has n (take i numbers)) (has n (number ∷ [])) (or_left (number == n) false here)
        ];
  })
    where
      alone : (b : Bool) → (b || false) ≡ true → b ≡ true
      alone true there = refl
      alone false there = there

  pub one_more_small : AreSmall old → AreSmall new
  one_more_small small = λ heading n there.
      elim (or_cases (is_filed old heading n) (number == n) (too.only heading n there)) [
        | inl before ↦ small heading n before
        | inr here ↦ subst (λ m. m < 2 ^ 32) (eqb-true number n here) too.small
      ]

-- ---- those that a peer's selector is tried for
pub all_tried : (rows : List IdentityRow) (p : Peer) (numbers few : List ℕ) → IsStrictlySortedBy nat_cmp numbers → few ≡ numbers → AreThoseFor rows p numbers few
all_tried rows p numbers few ascend is = subst (AreThoseFor rows p numbers) (sym is) (record {
  ascend = ascend;
  all = λ n there selected. there;
  only = λ n there. there;
})

pub filed_tried : (rows : List IdentityRow) (p : Peer) (numbers few : List ℕ) (filing : Drawers) → AreFiled rows numbers filing → IsStrictlySortedBy nat_cmp few
    → ((n : ℕ) → has n few ≡ is_filed filing (heading_of p) n) → AreThoseFor rows p numbers few
filed_tried rows p numbers few filing filed ascend members = record {
  ascend = ascend;
  all = λ n there selected. members n ∙ filed.all n p there selected;
  only = λ n there. filed.only (heading_of p) n (sym (members n) ∙ there);
}

-- what the peer's set has of the numbers, it has of those
module _ (rows : List IdentityRow) (p : Peer) (numbers few : List ℕ) (ascend : RowsAscend rows) (those : AreThoseFor rows p numbers few) where
  kept_alike : (n : ℕ) (selected : Bool) → has n (set_at rows p) ≡ selected → (not (has n few) && selected) ≡ (not (has n numbers) && selected)
  kept_alike n true is =
      ap (λ b. not b && true)
      (same_truth (has n few) (has n numbers) (those.only n) (λ there. those.all n there (has-held p n rows ascend ∙ is)))
  kept_alike n false is = none (not (has n few)) ∙ sym (none (not (has n numbers)))
    where
      none : (b : Bool) → (b && false) ≡ false
      none true = refl
      none false = refl

  pub same_set : set_at (rows_without few rows) p ≡ set_at (rows_without numbers rows) p
  same_set =
      same_numbers _ _
      (set_sorted p (rows_without few rows) (rows_without_ascend few rows ascend))
      (set_sorted p (rows_without numbers rows) (rows_without_ascend numbers rows ascend))
      (λ n. has-set_without p n few rows ∙ kept_alike n (has n (set_at rows p)) refl ∙ sym (has-set_without p n numbers rows))

  pub fewer : IsStrictlySortedBy nat_cmp numbers → length few ≤ length numbers
  fewer sorted =
      subst (λ xs. length xs ≤ length numbers) (sym are) (shorter (λ n. has n few) numbers)
    where
      both : (a b : Bool) → (a ≡ true → b ≡ true) → a ≡ (a && b)
      both true b to = sym (to refl)
      both false b to = refl

      are : few ≡ filter (λ n. has n few) numbers
      are =
          same_numbers few (filter (λ n. has n few) numbers) those.ascend (IsStrictlySortedBy-filter nat_cmp (λ n. has n few) numbers sorted)
          (λ n. both (has n few) (has n numbers) (those.only n) ∙ sym (has-filter (λ m. has m few) n numbers))

      shorter : (test : ℕ → Bool) (xs : List ℕ) → length (filter test xs) ≤ length xs
      shorter test [] = omega arith
      shorter test (x ∷ xs) = by (test x) (shorter test xs)
        where
          by : (b : Bool) → length (filter test xs) ≤ length xs → length (cond b (x ∷ filter test xs) (filter test xs)) ≤ length (x ∷ xs)
          by true rest = omega arith
          by false rest = omega arith

-- fewer of them take fewer steps
pub fewer_steps : (p : Peer) (few all : ℕ) → few ≤ all → steps_of p * few ≤ steps_of p * all
fewer_steps p few all less = by (is_label_peer p)
  where
    by : (b : Bool) → (if b then 1 else 0) * few ≤ (if b then 1 else 0) * all
    by true = omega arith
    by false = omega arith

-- and so for those that come and go
module _ (rows : List IdentityRow) (p : Peer) (come gone some_come some_gone set : List ℕ) (moving : Moving rows come gone p set)
    (those_come : AreThoseFor rows p come some_come) (those_gone : AreThoseFor rows p gone some_gone) where
  pub moving_some : Moving rows some_come some_gone p set
  moving_some = record {
    rows_ascend = moving.rows_ascend;
    come_ascend = those_come.ascend;
    gone_ascend = those_gone.ascend;
    apart = λ n there. false_from_ne_true (has n some_gone) (λ goes. let no : true ≡ false = sym (those_gone.only n goes) ∙ moving.apart n (those_come.only n there) in cc);
    exact = moving.exact ∙ sym (same_set rows p come some_come moving.rows_ascend those_come);
  }
