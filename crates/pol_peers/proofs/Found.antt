-- How many references a peer has, after a selector gains or loses one or is new.
use Rattle.std.proofs.Common.{◌≡◌, ℕ, ◌+◌, ◌==◌, ◌<◌, Bool, true, false, cond, nat_lt, List, [], ◌∷◌, ◌++◌, map, filter, find, Option, Some, None, option_map, refl, sym, ap, ◌∙◌, subst, arith}
use Rattle.std.specs.List.{AllByRecursion, IsDistinct, list_any}
use Rattle.std.specs.Option.{option_map_or}
use Rattle.std.proofs.lemmas.Bool.{both_ways, cond-false, cond-true, eqb-true, eq-eqb, false_from_ne_true, ltb-false, or_parts}
use Rattle.std.proofs.lemmas.List.Sums.{sum_by-cons}
use Rattle.pol_data.proofs.Members.{every-in}
use Rattle.pol_model_laws.proofs.Keyed.{one_of_number}
use Rattle.pol_model_laws.proofs.Membership.{find-In, find-none, list_any-In}
use Rattle.pol_model_laws.proofs.PrefixHolders.{same_tests}
use Rattle.pol_rule.specs.contracts.policy.PeerPartialEq.TheImpl as peers
use Rattle.pol_rule.specs.declared.policy.Peer.{Peer}
use Rattle.pol_rule.proofs.Equality.{peer_eq-Decides}
use Rattle.pol_selcache.specs.Live.{Live, AreLive, is_live, number_of, one_less, one_more, where_number, with_reference, without_reference}
use Rattle.pol_peers.specs.References.{references_of, times_in}

abbrev pub is_of : Peer → Live → Bool
is_of p s = peers.ghosts.eq p s.peer

abbrev pub refs : Option Live → ℕ
refs o = option_map_or (λ s. s.references) o 0

pub one_time : (q p : Peer) → times_in q (p ∷ []) ≡ cond (peers.ghosts.eq q p) 1 0
one_time q p = sum_by-cons (λ r. cond (peers.ghosts.eq q r) 1 0) p [] ∙ omega arith

peer_is : (p q : Peer) → peers.ghosts.eq p q ≡ true → p ≡ q
peer_is p q same = (peer_eq-Decides p q).0 same

pub peer_itself : (p : Peer) → peers.ghosts.eq p p ≡ true
peer_itself p = (peer_eq-Decides p p).1 refl

-- the selector of a peer's number
pub found_of : (p : Peer) (live : List Live) (number : ℕ) → number_of p live ≡ Some number → (s : Live) × (find (is_of p) live ≡ Some s) × (s.number ≡ number)
found_of p live number is = by (find (is_of p) live) refl is
  where
    by : (o : Option Live) → find (is_of p) live ≡ o → option_map (λ s. s.number) o ≡ Some number → (s : Live) × (find (is_of p) live ≡ Some s) × (s.number ≡ number)
    by None at is = absurd cc
    by (Some s) at is = (s, at, cc)

pub found_none : (p : Peer) (live : List Live) → number_of p live ≡ None → list_any (is_of p) live ≡ false
found_none p live is = by (find (is_of p) live) refl is
  where
    by : (o : Option Live) → find (is_of p) live ≡ o → option_map (λ s. s.number) o ≡ None → list_any (is_of p) live ≡ false
    by None at is = find-none (is_of p) live at
    by (Some s) at is = absurd cc

pub number_lives : (p : Peer) (live : List Live) (number : ℕ) → number_of p live ≡ Some number → is_live number live ≡ true
number_lives p live number is =
    let one = found_of p live number is in
    list_any-In (λ s. s.number == number) one.0 live (find-In (is_of p) one.0 live one.1).0 (eq-eqb one.0.number number one.2)

-- ---- a change of one selector that leaves its peer
module _ (number : ℕ) (change : Live → Live) (keeps : (s : Live) → (change s).peer ≡ s.peer) where
  peer_kept : (s : Live) → (where_number number change s).peer ≡ s.peer
  peer_kept s = by (s.number == number)
    where
      by : (b : Bool) → (cond b (change s) s).peer ≡ s.peer
      by true = keeps s
      by false = refl

  pub found_changed : (q : Peer) (live : List Live) → find (is_of q) (map (where_number number change) live) ≡ option_map (where_number number change) (find (is_of q) live)
  found_changed q [] = refl
  found_changed q (s ∷ live) =
      ap (λ p. cond (peers.ghosts.eq q p) (Some (where_number number change s)) (find (is_of q) (map (where_number number change) live))) (peer_kept s)
      ∙ by (is_of q s) (found_changed q live)
    where
      by : (b : Bool) → find (is_of q) (map (where_number number change) live) ≡ option_map (where_number number change) (find (is_of q) live)
          → cond b (Some (where_number number change s)) (find (is_of q) (map (where_number number change) live)) ≡ option_map (where_number number change) (cond b (Some s) (find (is_of q) live))
      by true rest = refl
      by false rest = rest

  pub peers_kept : (live : List Live) → map (λ s. s.peer) (map (where_number number change) live) ≡ map (λ s. s.peer) live
  peers_kept [] = refl
  peers_kept (s ∷ live) = λ i. peer_kept s i ∷ peers_kept live i

module _ (live : List Live) (are : AreLive live) (p : Peer) (number : ℕ) (is : number_of p live ≡ Some number) where
  -- a selector has the number exactly where it is the peer's
  its_number : (q : Peer) (t : Live) → find (is_of q) live ≡ Some t → (t.number == number) ≡ peers.ghosts.eq q p
  its_number q t found =
      let one = found_of p live number is in
      let s = one.0 in
      let at = find-In (is_of p) s live one.1 in
      let here = find-In (is_of q) t live found in
      same_tests (t.number == number) (peers.ghosts.eq q p)
      (λ same.
      let both = one_of_number (λ s. s.number) t s live are.numbers here.0 at.0 (eqb-true t.number number same ∙ sym one.2) in
      let own : q ≡ p = peer_is q t.peer here.1 ∙ ap (λ s. s.peer) both ∙ sym (peer_is p s.peer at.1) in
      subst (λ r. peers.ghosts.eq q r ≡ true) own (peer_itself q))
      (λ same.
      let both : Some t ≡ Some s = sym found ∙ ap (λ r. find (is_of r) live) (peer_is q p same) ∙ one.1 in
      let own : t ≡ s = cc in
      eq-eqb t.number number (ap (λ s. s.number) own ∙ one.2))

  -- another peer's selector isn't found
  not_its : (q : Peer) → find (is_of q) live ≡ None → peers.ghosts.eq q p ≡ false
  not_its q none =
      false_from_ne_true (peers.ghosts.eq q p) (λ same.
      let one = found_of p live number is in
      some_is_none one.0 (sym one.1 ∙ ap (λ r. find (is_of r) live) (sym (peer_is q p same)) ∙ none))
    where
      some_is_none : (s : Live) → Some s ≡ None → ⊥
      some_is_none s e = cc

  -- one reference more
  more : (b : Bool) (s : Live) → (cond b (one_more s) s).references ≡ s.references + cond b 1 0
  more true s = refl
  more false s = omega arith

  pub references_more : (q : Peer) → references_of q (with_reference number live) ≡ references_of q live + times_in q (p ∷ [])
  references_more q =
      ap refs (found_changed number one_more (λ s. refl) q live)
      ∙ by (find (is_of q) live) refl
      ∙ ap (λ n. references_of q live + n) (sym (one_time q p))
    where
      by : (o : Option Live) → find (is_of q) live ≡ o → refs (option_map (where_number number one_more) o) ≡ refs o + cond (peers.ghosts.eq q p) 1 0
      by None none = ap (λ b. 0 + cond b 1 0) (sym (not_its q none))
      by (Some t) found = more (t.number == number) t ∙ ap (λ b. t.references + cond b 1 0) (its_number q t found)

  -- and one less
  less : (b : Bool) (s : Live) → 0 < s.references → s.references ≡ (cond b (one_less s) s).references + cond b 1 0
  less true s some = omega (arith, some)
  less false s some = omega arith

  some_references : (q : Peer) (t : Live) → find (is_of q) live ≡ Some t → 0 < t.references
  some_references q t found = every-in (λ s. 0 < s.references) live are.referenced t (find-In (is_of q) t live found).0

  lowered : (q : Peer) → references_of q live ≡ references_of q (map (where_number number one_less) live) + times_in q (p ∷ [])
  lowered q =
      by (find (is_of q) live) refl
      ∙ ap (λ n. refs (option_map (where_number number one_less) (find (is_of q) live)) + n) (sym (one_time q p))
      ∙ ap (λ o. refs o + times_in q (p ∷ [])) (sym (found_changed number one_less (λ s. refl) q live))
    where
      by : (o : Option Live) → find (is_of q) live ≡ o → refs o ≡ refs (option_map (where_number number one_less) o) + cond (peers.ghosts.eq q p) 1 0
      by None none = ap (λ b. 0 + cond b 1 0) (sym (not_its q none))
      by (Some t) found = less (t.number == number) t (some_references q t found) ∙ ap (λ b. (where_number number one_less t).references + cond b 1 0) (its_number q t found)

-- ---- a selector without references isn't missed
pub unlike_none : (q : Peer) (s : Live) (live : List Live) → peers.ghosts.eq q s.peer ≡ true → AllByRecursion (λ r. peers.ghosts.eq s.peer r ≡ false) (map (λ t. t.peer) live) → find (is_of q) live ≡ None
unlike_none q s [] same unlike = refl
unlike_none q s (t ∷ live) same unlike =
    cond-false (is_of q t) (Some t) (find (is_of q) live) (ap (λ p. peers.ghosts.eq p t.peer) (peer_is q s.peer same) ∙ unlike.0)
    ∙ unlike_none q s live same unlike.1

pub references_left : (q : Peer) (live : List Live) → IsDistinct peers.ghosts.eq (map (λ s. s.peer) live) → references_of q (filter (λ s. nat_lt 0 s.references) live) ≡ references_of q live
unfolding IsDistinct
references_left q [] apart = refl
references_left q (s ∷ live) apart = by (references_left q live apart.1) (nat_lt 0 s.references) refl (is_of q s) refl
  where
    none_left : (n : ℕ) → nat_lt 0 n ≡ false → 0 ≡ n
    none_left n none = omega (arith, ltb-false 0 n none)

    by : references_of q (filter (λ s. nat_lt 0 s.references) live) ≡ references_of q live
        → (b : Bool) → nat_lt 0 s.references ≡ b → (c : Bool) → is_of q s ≡ c
        → refs (find (is_of q) (cond b (s ∷ filter (λ s. nat_lt 0 s.references) live) (filter (λ s. nat_lt 0 s.references) live))) ≡ refs (cond c (Some s) (find (is_of q) live))
    by rest true some true same = ap refs (cond-true (is_of q s) (Some s) _ same)
    by rest true some false other = ap refs (cond-false (is_of q s) (Some s) _ other) ∙ rest
    by rest false none true same = rest ∙ ap refs (unlike_none q s live same apart.0) ∙ none_left s.references none
    by rest false none false other = rest

pub references_less : (live : List Live) → AreLive live → (p : Peer) (number : ℕ) → number_of p live ≡ Some number → (q : Peer)
    → references_of q live ≡ references_of q (without_reference number live) + times_in q (p ∷ [])
references_less live are p number is q =
    lowered live are p number is q
    ∙ ap (λ n. n + times_in q (p ∷ []))
    (sym (references_left q (map (where_number number one_less) live) (subst (IsDistinct peers.ghosts.eq) (sym (peers_kept number one_less (λ s. refl) live)) are.apart)))

-- ---- a new selector
pub references_new : (live : List Live) (new : Live) → new.references ≡ 1 → list_any (is_of new.peer) live ≡ false → (q : Peer)
    → references_of q (live ++ new ∷ []) ≡ references_of q live + times_in q (new.peer ∷ [])
references_new live new one none q = pushed live none ∙ ap (λ n. references_of q live + n) (sym (one_time q new.peer))
  where
    last : (b : Bool) → refs (cond b (Some new) None) ≡ 0 + cond b 1 0
    last true = one
    last false = refl

    nothing : (b : Bool) (n : ℕ) → b ≡ false → n ≡ n + cond b 1 0
    nothing b n is = rw is (omega arith)

    pushed : (others : List Live) → list_any (is_of new.peer) others ≡ false → refs (find (is_of q) (others ++ new ∷ [])) ≡ refs (find (is_of q) others) + cond (peers.ghosts.eq q new.peer) 1 0
    pushed [] none = last (peers.ghosts.eq q new.peer)
    pushed (s ∷ others) none = by (is_of q s) refl (pushed others parts.1)
      where
        parts : (is_of new.peer s ≡ false) × (list_any (is_of new.peer) others ≡ false)
        parts = or_parts (is_of new.peer s) (list_any (is_of new.peer) others) none

        other_peer : is_of q s ≡ true → peers.ghosts.eq q new.peer ≡ false
        other_peer same =
            false_from_ne_true (peers.ghosts.eq q new.peer) (λ own.
            both_ways (is_of new.peer s) parts.0 (subst (λ r. is_of r s ≡ true) (peer_is q new.peer own) same))

        by : (b : Bool) → is_of q s ≡ b → refs (find (is_of q) (others ++ new ∷ [])) ≡ refs (find (is_of q) others) + cond (peers.ghosts.eq q new.peer) 1 0
            → refs (cond b (Some s) (find (is_of q) (others ++ new ∷ []))) ≡ refs (cond b (Some s) (find (is_of q) others)) + cond (peers.ghosts.eq q new.peer) 1 0
        by true same rest = nothing (peers.ghosts.eq q new.peer) s.references (other_peer same)
        by false other rest = rest
