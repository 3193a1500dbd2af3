-- A selector amidst others: what changes where it changes, and where it goes.
use Rattle.std.proofs.Common.{◌≡◌, ℕ, ◌==◌, ◌-◌, ◌<◌, ◌&&◌, ◌||◌, not, Bool, true, false, cond, nat_lt, List, [], ◌∷◌, ◌++◌, map, filter, find, Some, None, option_map, refl, sym, ap, ◌∙◌, subst, arith}
use Rattle.std.specs.List.{AllByRecursion, IsDistinct, list_any}
use Rattle.std.proofs.lemmas.Bool.{and_parts, and_right, cond-true, cond-false, eqb-true, false_from_ne_true, ne_eqb, lt-ltb}
use Rattle.pol_headings.specs.declared.heading.Heading.{Heading}
use Rattle.pol_headings.specs.Heading.{heading_of, same_heading}
use Rattle.pol_model.specs.Ascending.{Ascends}
use Rattle.pol_rule.specs.contracts.policy.PeerPartialEq.TheImpl as peers
use Rattle.pol_rule.specs.declared.policy.Peer.{Peer}
use Rattle.pol_rule.proofs.Equality.{peer_eq-Decides}
use Rattle.pol_selectors.specs.Filed.{stands_under}
use Rattle.pol_selectors.specs.Live.{Live, number_of, one_less, where_number, without_reference}
use Rattle.pol_selectors.proofs.LiveLists.{AllAbove, AllReferenced, above_stay, all_stay, elsewhere, numbers, there}

in_middle : {X : Type 0} (P : X → Type 0) (f : Live → X) (front : List Live) (l : Live) (back : List Live) → AllByRecursion P (map f (front ++ l ∷ back)) → P (f l)
in_middle P f [] l back all = all.0
in_middle P f (s ∷ front) l back all = in_middle P f front l back all.1

pub mid_all : (P : Live → Type 0) (front : List Live) (l : Live) (back : List Live) → AllByRecursion P (front ++ l ∷ back) → P l
mid_all P [] l back all = all.0
mid_all P (s ∷ front) l back all = mid_all P front l back all.1

pub all_but : (P : Live → Type 0) (front : List Live) (l w : Live) (back : List Live) → AllByRecursion P (front ++ l ∷ back) → P w → AllByRecursion P (front ++ w ∷ back)
all_but P [] l w back all here = (here, all.1)
all_but P (s ∷ front) l w back all here = (all.0, all_but P front l w back all.1 here)

-- ---- it changes
pub changed_there : (front : List Live) (l : Live) (back : List Live) (change : Live → Live) → Ascends (numbers (front ++ l ∷ back)) → map (where_number l.number change) (front ++ l ∷ back) ≡ front ++ change l ∷ back
changed_there [] l back change ascend = λ k. there l.number change l refl k ∷ above_stay l.number change back ascend.0 k
changed_there (s ∷ front) l back change ascend =
    let less : s.number < l.number = in_middle (λ n. s.number < n) (λ t. t.number) front l back ascend.0 in
    λ k. elsewhere l.number change s (λ same. omega arith) k ∷ changed_there front l back change ascend.1 k

-- ---- it goes
pub gone_there : (front : List Live) (l : Live) (back : List Live) → Ascends (numbers (front ++ l ∷ back)) → AllReferenced (front ++ l ∷ back) → l.references ≡ 1 → without_reference l.number (front ++ l ∷ back) ≡ front ++ back
gone_there front l back ascend referenced last =
    ap (filter (λ s. nat_lt 0 s.references)) (changed_there front l back one_less ascend) ∙ by front referenced
  where
    by : (own : List Live) → AllReferenced (own ++ l ∷ back) → filter (λ s. nat_lt 0 s.references) (own ++ one_less l ∷ back) ≡ own ++ back
    by [] some =
        cond-false (nat_lt 0 (one_less l).references) (one_less l ∷ filter (λ s. nat_lt 0 s.references) back) (filter (λ s. nat_lt 0 s.references) back) (ap (λ r. nat_lt 0 (r - 1)) last)
        ∙ all_stay back some.1
    by (s ∷ own) some =
        cond-true (nat_lt 0 s.references) (s ∷ filter (λ t. nat_lt 0 t.references) (own ++ one_less l ∷ back)) (filter (λ t. nat_lt 0 t.references) (own ++ one_less l ∷ back)) (lt-ltb 0 s.references some.0)
        ∙ ap (λ rest. s ∷ rest) (by own some.1)

-- what stands under headings
none_stands : (heading : Heading) (n : ℕ) (live : List Live) → AllAbove n live → list_any (stands_under heading n) live ≡ false
none_stands heading n [] above = refl
none_stands heading n (s ∷ live) above =
    ap (λ b. b || list_any (stands_under heading n) live) (and_right (same_heading (heading_of s.peer) heading) (s.number == n) (ne_eqb s.number n (λ same. let more = above.0 in omega arith)))
    ∙ none_stands heading n live above.1

module _ (l : Live) (heading : Heading) (number : ℕ) where
  own_stands : (s : Live) → stands_under heading number s ≡ true → s.number ≡ number
  own_stands s is = eqb-true s.number number (and_parts (same_heading (heading_of s.peer) heading) (s.number == number) is).1

  pub stands_gone : (front back : List Live) → Ascends (numbers (front ++ l ∷ back))
      → list_any (stands_under heading number) (front ++ back) ≡ (list_any (stands_under heading number) (front ++ l ∷ back) && not (stands_under heading number l))
  stands_gone [] back ascend = by (stands_under heading number l) refl
    where
      sides : (b : Bool) → b ≡ ((false || b) && true)
      sides true = refl
      sides false = refl

      by : (b : Bool) → stands_under heading number l ≡ b → list_any (stands_under heading number) back ≡ ((stands_under heading number l || list_any (stands_under heading number) back) && not (stands_under heading number l))
      by true is =
          let none : list_any (stands_under heading number) back ≡ false = none_stands heading number back (subst (λ m. AllAbove m back) (own_stands l is) ascend.0) in
          rw (is, none) refl
      by false is = rw is (sides (list_any (stands_under heading number) back))
  stands_gone (s ∷ front) back ascend =
      ap (λ b. stands_under heading number s || b) (stands_gone front back ascend.1) ∙ by (stands_under heading number l) refl
    where
      sides : (a b : Bool) → (a || (b && true)) ≡ ((a || b) && true)
      sides true true = refl
      sides true false = refl
      sides false true = refl
      sides false false = refl

      nothing : (b : Bool) → (false || (b && false)) ≡ ((false || b) && false)
      nothing true = refl
      nothing false = refl

      by : (b : Bool) → stands_under heading number l ≡ b
          → (stands_under heading number s || (list_any (stands_under heading number) (front ++ l ∷ back) && not (stands_under heading number l))) ≡ ((stands_under heading number s || list_any (stands_under heading number) (front ++ l ∷ back)) && not (stands_under heading number l))
      by true is =
          let less : s.number < l.number = in_middle (λ n. s.number < n) (λ t. t.number) front l back ascend.0 in
          let own = own_stands l is in
          let other : stands_under heading number s ≡ false = and_right (same_heading (heading_of s.peer) heading) (s.number == number) (ne_eqb s.number number (λ same. omega arith)) in
          rw (is, other) (nothing (list_any (stands_under heading number) (front ++ l ∷ back)))
      by false is = rw is (sides (stands_under heading number s) (list_any (stands_under heading number) (front ++ l ∷ back)))

-- ---- numbers by peer
unlike : (p q : Peer) → peers.ghosts.eq p q ≡ false → peers.ghosts.eq q p ≡ false
unlike p q other = false_from_ne_true (peers.ghosts.eq q p) (λ same. let back : peers.ghosts.eq p q ≡ true = (peer_eq-Decides p q).1 (sym ((peer_eq-Decides q p).0 same)) in let no : true ≡ false = sym back ∙ other in cc)

-- none of these has the peer
none_of : (p : Peer) (live : List Live) → AllByRecursion (λ q. peers.ghosts.eq p q ≡ false) (map (λ s. s.peer) live) → number_of p live ≡ None
none_of p [] apart = refl
none_of p (s ∷ live) apart =
    ap (option_map (λ (t : Live). t.number)) (cond-false (peers.ghosts.eq p s.peer) (Some s) (find (λ t. peers.ghosts.eq p t.peer) live) apart.0) ∙ none_of p live apart.1

-- another peer's selector makes no difference
passed : (p : Peer) (s : Live) (live : List Live) → peers.ghosts.eq p s.peer ≡ false → number_of p (s ∷ live) ≡ number_of p live
passed p s live other = ap (option_map (λ (t : Live). t.number)) (cond-false (peers.ghosts.eq p s.peer) (Some s) (find (λ t. peers.ghosts.eq p t.peer) live) other)

first_or : (p : Peer) (s : Live) (live others : List Live) → number_of p live ≡ number_of p others → number_of p (s ∷ live) ≡ number_of p (s ∷ others)
first_or p s live others same =
    elim (peers.ghosts.eq p s.peer) as (λ b. option_map (λ (t : Live). t.number) (cond b (Some s) (find (λ t. peers.ghosts.eq p t.peer) live)) ≡ option_map (λ (t : Live). t.number) (cond b (Some s) (find (λ t. peers.ghosts.eq p t.peer) others))) [
      | true ↦ refl
      | false ↦ same
    ]

own_gone : (front : List Live) (l : Live) (back : List Live) → IsDistinct peers.ghosts.eq (map (λ s. s.peer) (front ++ l ∷ back)) → number_of l.peer (front ++ back) ≡ None
unfolding IsDistinct
own_gone [] l back apart = none_of l.peer back apart.0
own_gone (s ∷ front) l back apart =
    passed l.peer s (front ++ back) (unlike s.peer l.peer (in_middle (λ q. peers.ghosts.eq s.peer q ≡ false) (λ t. t.peer) front l back apart.0))
    ∙ own_gone front l back apart.1

other_stay : (front : List Live) (l : Live) (back : List Live) (p : Peer) → peers.ghosts.eq p l.peer ≡ false → number_of p (front ++ back) ≡ number_of p (front ++ l ∷ back)
other_stay [] l back p other = sym (passed p l back other)
other_stay (s ∷ front) l back p other = first_or p s (front ++ back) (front ++ l ∷ back) (other_stay front l back p other)

own_pushed : (live : List Live) (l : Live) → number_of l.peer live ≡ None → number_of l.peer (live ++ l ∷ []) ≡ Some l.number
own_pushed [] l new = ap (option_map (λ (t : Live). t.number)) (cond-true (peers.ghosts.eq l.peer l.peer) (Some l) None ((peer_eq-Decides l.peer l.peer).1 refl))
own_pushed (s ∷ live) l new = by (peers.ghosts.eq l.peer s.peer) refl (own_pushed live l)
  where
    by : (b : Bool) → peers.ghosts.eq l.peer s.peer ≡ b → (number_of l.peer live ≡ None → number_of l.peer (live ++ l ∷ []) ≡ Some l.number) → number_of l.peer (s ∷ live ++ l ∷ []) ≡ Some l.number
    by true is rest = absurd (let found : number_of l.peer (s ∷ live) ≡ Some s.number = ap (option_map (λ (t : Live). t.number)) (cond-true (peers.ghosts.eq l.peer s.peer) (Some s) (find (λ t. peers.ghosts.eq l.peer t.peer) live) is) in let wrong : ⊥ = cc in wrong)
    by false is rest = passed l.peer s (live ++ l ∷ []) is ∙ rest (sym (passed l.peer s live is) ∙ new)

no_more : (live : List Live) → live ++ [] ≡ live
no_more [] = refl
no_more (s ∷ live) = ap (λ rest. s ∷ rest) (no_more live)

pub number_gone : (front : List Live) (l : Live) (back : List Live) → IsDistinct peers.ghosts.eq (map (λ s. s.peer) (front ++ l ∷ back)) → (p : Peer)
    → number_of p (front ++ back) ≡ cond (peers.ghosts.eq l.peer p) None (number_of p (front ++ l ∷ back))
number_gone front l back apart p = by (peers.ghosts.eq l.peer p) refl
  where
    by : (b : Bool) → peers.ghosts.eq l.peer p ≡ b → number_of p (front ++ back) ≡ cond b None (number_of p (front ++ l ∷ back))
    by true is = subst (λ q. number_of q (front ++ back) ≡ None) ((peer_eq-Decides l.peer p).0 is) (own_gone front l back apart)
    by false is = other_stay front l back p (unlike l.peer p is)

pub number_pushed : (live : List Live) (l : Live) → number_of l.peer live ≡ None → (p : Peer) → number_of p (live ++ l ∷ []) ≡ cond (peers.ghosts.eq l.peer p) (Some l.number) (number_of p live)
number_pushed live l new p = by (peers.ghosts.eq l.peer p) refl
  where
    by : (b : Bool) → peers.ghosts.eq l.peer p ≡ b → number_of p (live ++ l ∷ []) ≡ cond b (Some l.number) (number_of p live)
    by true is = subst (λ q. number_of q (live ++ l ∷ []) ≡ Some l.number) ((peer_eq-Decides l.peer p).0 is) (own_pushed live l new)
    by false is = sym (other_stay live l [] p (unlike l.peer p is)) ∙ ap (number_of p) (no_more live)

unlike_first : (p : Peer) (s : Live) (live : List Live) → number_of p (s ∷ live) ≡ None → peers.ghosts.eq p s.peer ≡ false
unlike_first p s live none = by (peers.ghosts.eq p s.peer) refl
  where
    by : (b : Bool) → peers.ghosts.eq p s.peer ≡ b → b ≡ false
    by true is = absurd (let found : number_of p (s ∷ live) ≡ Some s.number = ap (option_map (λ (t : Live). t.number)) (cond-true (peers.ghosts.eq p s.peer) (Some s) (find (λ t. peers.ghosts.eq p t.peer) live) is) in let wrong : ⊥ = cc in wrong)
    by false is = refl

more : (p : Peer) (live : List Live) (l : Live) → AllByRecursion (λ q. peers.ghosts.eq p q ≡ false) (map (λ s. s.peer) live) → peers.ghosts.eq p l.peer ≡ false → AllByRecursion (λ q. peers.ghosts.eq p q ≡ false) (map (λ s. s.peer) (live ++ l ∷ []))
more p [] l all last = (last, tt)
more p (s ∷ live) l all last = (all.0, more p live l all.1 last)

pub apart_pushed : (live : List Live) (l : Live) → IsDistinct peers.ghosts.eq (map (λ s. s.peer) live) → number_of l.peer live ≡ None → IsDistinct peers.ghosts.eq (map (λ s. s.peer) (live ++ l ∷ []))
unfolding IsDistinct
apart_pushed [] l apart new = (tt, tt)
apart_pushed (s ∷ live) l apart new =
    let other = unlike_first l.peer s live new in
    (more s.peer live l apart.0 (unlike l.peer s.peer other), apart_pushed live l apart.1 (sym (passed l.peer s live other) ∙ new))
