-- Changes of the live selectors, by their places, and that what lives keeps together.
use Rattle.std.proofs.Common.{zero, suc, ◌≡◌, ℕ, ◌+◌, ◌-◌, ◌==◌, ◌<◌, ◌||◌, Bool, true, false, cond, nat_lt, List, [], ◌∷◌, ◌++◌, map, filter, slice_get, Some, refl, sym, ap, ◌∙◌, subst, inl, inr, arith}
use Rattle.std.specs.List.{AllByRecursion, IsDistinct}
use Rattle.std.proofs.lemmas.Bool.{cond-true, cond-false, eq-eqb, ne_eqb, lt-ltb, ltb-true}
use Rattle.pol_data.proofs.Members.{In}
use Rattle.pol_model.specs.Ascending.{Ascends}
use Rattle.pol_model.proofs.Ascents.{filter_ascends}
use Rattle.pol_model_laws.proofs.Keyed.{found_by_number}
use Rattle.pol_rule.specs.contracts.policy.PeerPartialEq.TheImpl as peers
use Rattle.pol_selectors.specs.Live.{Live, AreLive, is_live, selector_of, where_number, with_reference, with_set, without_reference}

abbrev pub numbers : List Live → List ℕ
numbers live = map (λ s. s.number) live

abbrev pub AllAbove : ℕ → List Live → Type 0
AllAbove n live = AllByRecursion (λ m. n < m) (numbers live)

abbrev pub AllReferenced : List Live → Type 0
AllReferenced live = AllByRecursion (λ s. 0 < s.references) live

-- ---- what a change of one number leaves
module _ (n : ℕ) (change : Live → Live) where
  pub there : (s : Live) → s.number ≡ n → where_number n change s ≡ change s
  there s same = cond-true (s.number == n) (change s) s (eq-eqb s.number n same)

  pub elsewhere : (s : Live) → (s.number ≡ n → ⊥) → where_number n change s ≡ s
  elsewhere s other = cond-false (s.number == n) (change s) s (ne_eqb s.number n other)

  pub above_stay : (live : List Live) → AllAbove n live → map (where_number n change) live ≡ live
  above_stay [] above = refl
  above_stay (s ∷ live) above =
      λ i. elsewhere s (λ same. let more = above.0 in omega arith) i ∷ above_stay live above.1 i

  -- where it changes neither numbers nor peers
  module _ (keeps_number : (s : Live) → (change s).number ≡ s.number) (keeps_peer : (s : Live) → (change s).peer ≡ s.peer) where
    pub number_kept : (s : Live) → (where_number n change s).number ≡ s.number
    number_kept s = elim (s.number == n) as (λ b. (cond b (change s) s).number ≡ s.number) [ true ↦ keeps_number s | false ↦ refl ]

    pub peer_kept : (s : Live) → (where_number n change s).peer ≡ s.peer
    peer_kept s = elim (s.number == n) as (λ b. (cond b (change s) s).peer ≡ s.peer) [ true ↦ keeps_peer s | false ↦ refl ]

    pub numbers_kept : (live : List Live) → numbers (map (where_number n change) live) ≡ numbers live
    numbers_kept [] = refl
    numbers_kept (s ∷ live) = λ i. number_kept s i ∷ numbers_kept live i

    pub peers_kept : (live : List Live) → map (λ s. s.peer) (map (where_number n change) live) ≡ map (λ s. s.peer) live
    peers_kept [] = refl
    peers_kept (s ∷ live) = λ i. peer_kept s i ∷ peers_kept live i

    pub live_kept : (live : List Live) → (number : ℕ) → is_live number (map (where_number n change) live) ≡ is_live number live
    live_kept [] number = refl
    live_kept (s ∷ live) number = λ i. (number_kept s i == number) || live_kept live number i

  -- and leaves each a reference
  pub references_kept : ((s : Live) → 0 < s.references → 0 < (change s).references) → (live : List Live) → AllReferenced live → AllReferenced (map (where_number n change) live)
  references_kept keeps [] referenced = tt
  references_kept keeps (s ∷ live) referenced = (one (s.number == n), references_kept keeps live referenced.1)
    where
      one : (b : Bool) → 0 < (cond b (change s) s).references
      one true = keeps s referenced.0
      one false = referenced.0

-- ---- what lives keeps together
pub reference_keeps : (n : ℕ) (live : List Live) → AreLive live → AreLive (with_reference n live)
reference_keeps n live are =
    let change : Live → Live = λ s. record s { references = s.references + 1 } in
    record {
      numbers = subst Ascends (sym (numbers_kept n change (λ s. refl) (λ s. refl) live)) are.numbers;
      referenced = references_kept n change (λ s more. omega arith) live are.referenced;
      apart = subst (IsDistinct peers.ghosts.eq) (sym (peers_kept n change (λ s. refl) (λ s. refl) live)) are.apart;
    }

pub set_keeps : (n : ℕ) (set : List ℕ) (live : List Live) → AreLive live → AreLive (with_set n set live)
set_keeps n set live are =
    let change : Live → Live = λ s. record s { set = set } in
    record {
      numbers = subst Ascends (sym (numbers_kept n change (λ s. refl) (λ s. refl) live)) are.numbers;
      referenced = references_kept n change (λ s more. more) live are.referenced;
      apart = subst (IsDistinct peers.ghosts.eq) (sym (peers_kept n change (λ s. refl) (λ s. refl) live)) are.apart;
    }

-- those that pass a test
apart_filter : (p : Live → Bool) (live : List Live) → IsDistinct peers.ghosts.eq (map (λ s. s.peer) live) → IsDistinct peers.ghosts.eq (map (λ s. s.peer) (filter p live))
unfolding IsDistinct
apart_filter p [] apart = tt
apart_filter p (s ∷ live) apart =
    elim (p s) as (λ b. IsDistinct peers.ghosts.eq (map (λ t. t.peer) (cond b (s ∷ filter p live) (filter p live)))) [
      | true ↦ (unlike_filter live apart.0, apart_filter p live apart.1)
      | false ↦ apart_filter p live apart.1
    ]
  where
    unlike_filter : (others : List Live) → AllByRecursion (λ q. peers.ghosts.eq s.peer q ≡ false) (map (λ t. t.peer) others) → AllByRecursion (λ q. peers.ghosts.eq s.peer q ≡ false) (map (λ t. t.peer) (filter p others))
    unlike_filter [] unlike = tt
    unlike_filter (t ∷ others) unlike =
        elim (p t) as (λ b. AllByRecursion (λ q. peers.ghosts.eq s.peer q ≡ false) (map (λ u. u.peer) (cond b (t ∷ filter p others) (filter p others)))) [
          | true ↦ (unlike.0, unlike_filter others unlike.1)
          | false ↦ unlike_filter others unlike.1
        ]

some_left : (live : List Live) → AllReferenced (filter (λ s. nat_lt 0 s.references) live)
some_left [] = tt
some_left (s ∷ live) = by (nat_lt 0 s.references) refl (some_left live)
  where
    by : (b : Bool) → nat_lt 0 s.references ≡ b → AllReferenced (filter (λ t. nat_lt 0 t.references) live) → AllReferenced (cond b (s ∷ filter (λ t. nat_lt 0 t.references) live) (filter (λ t. nat_lt 0 t.references) live))
    by true is rest = (ltb-true 0 s.references is, rest)
    by false is rest = rest

pub unreference_keeps : (n : ℕ) (live : List Live) → AreLive live → AreLive (without_reference n live)
unreference_keeps n live are =
    let change : Live → Live = λ s. record s { references = s.references - 1 } in
    let fewer : List Live = map (where_number n change) live in
    record {
      numbers = filter_ascends (λ s. s.number) (λ s. nat_lt 0 s.references) fewer (subst Ascends (sym (numbers_kept n change (λ s. refl) (λ s. refl) live)) are.numbers);
      referenced = some_left fewer;
      apart = apart_filter (λ s. nat_lt 0 s.references) fewer (subst (IsDistinct peers.ghosts.eq) (sym (peers_kept n change (λ s. refl) (λ s. refl) live)) are.apart);
    }

-- those that all have references stay
pub all_stay : (live : List Live) → AllReferenced live → filter (λ s. nat_lt 0 s.references) live ≡ live
all_stay [] referenced = refl
all_stay (s ∷ live) referenced =
    cond-true (nat_lt 0 s.references) _ _ (lt-ltb 0 s.references referenced.0) ∙ ap (λ rest. s ∷ rest) (all_stay live referenced.1)

-- one more, above the others
pub pushed_ascend : (live : List Live) (new : Live) → Ascends (numbers live) → AllByRecursion (λ s. s.number < new.number) live → Ascends (numbers (live ++ new ∷ []))
pushed_ascend [] new ascend below = (tt, tt)
pushed_ascend (s ∷ live) new ascend below = (more live ascend.0, pushed_ascend live new ascend.1 below.1)
  where
    more : (others : List Live) → AllAbove s.number others → AllAbove s.number (others ++ new ∷ [])
    more [] above = (below.0, tt)
    more (t ∷ others) above = (above.0, more others above.1)

-- ---- the selector at a place
pub In-at : (live : List Live) (i : ℕ) (s : Live) → slice_get live i ≡ Some s → In s live
In-at [] i s at = absurd (let wrong : ⊥ = cc in wrong)
In-at (t ∷ live) zero s at = inl (let same : t ≡ s = cc in same)
In-at (t ∷ live) (suc i) s at = inr (In-at live i s at)

pub found_at : (live : List Live) (i : ℕ) (s : Live) → Ascends (numbers live) → slice_get live i ≡ Some s → selector_of s.number live ≡ Some s
found_at live i s ascend at = found_by_number (λ t. t.number) s live ascend (In-at live i s at)
