-- The net change of a set's changes is the difference of the set after them and before them.
use Rattle.std.proofs.Common.{◌≡◌, ℕ, ◌==◌, Bool, true, false, not, ◌&&◌, ◌||◌, cond, ◌+◌, nat_lt, List, [], ◌∷◌, ◌++◌, refl, sym, ap, subst, ◌∙◌, arith}
use Rattle.std.proofs.lemmas.Bool.{lt-ltb, le-ltb}
use Rattle.std.proofs.lemmas.List.Sums.{sum_by-append}
use Rattle.pol_sets.specs.declared.sets.Move.{Move}
use Rattle.pol_set_changes.specs.declared.change.SetChange.{SetChange}
use Rattle.pol_set_changes.specs.Ids.{has, without, union}
use Rattle.pol_set_changes.specs.Net.{times, surplus, came, went, net, move_of, joined, moved, after_all}
use Rattle.pol_set_changes.specs.Sets.{Fits, AllFit, IsMove, NetIsExact, NetsJoin, DifferencesLead}
use Rattle.pol_sets.proofs.IdLemmas.{Ascends, same_ids, has-without, has-union, without-ascends, union-ascends, has_of_all, all_have}
use Rattle.pol_set_changes.proofs.Surplus.{has-surplus, surplus-ascends, times_once}

-- ---- two moves in turn are one
joined_bits : (a b c : Bool) → ((not (not c && b) && (not a && b)) || (not (not b && a) && (not b && c))) ≡ (not a && c)
joined_bits true true true = refl
joined_bits true true false = refl
joined_bits true false true = refl
joined_bits true false false = refl
joined_bits false true true = refl
joined_bits false true false = refl
joined_bits false false true = refl
joined_bits false false false = refl

or_swapped : (a b : Bool) → (a || b) ≡ (b || a)
or_swapped true true = refl
or_swapped true false = refl
or_swapped false true = refl
or_swapped false false = refl

-- what is new from the first to the last is what was new in the middle and stayed, and what came after it
module _ (first middle last : List ℕ) (ascend_first : Ascends first) (ascend_middle : Ascends middle) (ascend_last : Ascends last) where
  abbrev stayed : List ℕ
  stayed = without (without middle first) (without middle last)

  abbrev came_later : List ℕ
  came_later = without (without last middle) (without first middle)

  joined_has : (id : ℕ) → (has id stayed || has id came_later) ≡ has id (without last first)
  joined_has id =
      (λ i. has-without id (without middle first) (without middle last) i || has-without id (without last middle) (without first middle) i)
      ∙ (λ i. (not (has-without id middle last i) && has-without id middle first i) || (not (has-without id first middle i) && has-without id last middle i))
      ∙ joined_bits (has id first) (has id middle) (has id last)
      ∙ sym (has-without id last first)

  joined_new : union stayed came_later ≡ without last first
  joined_new =
      same_ids (union stayed came_later) (without last first)
      (union-ascends stayed came_later (without-ascends (without middle first) (without middle last) (without-ascends middle first ascend_middle)))
      (without-ascends last first ascend_last)
      (λ id. has-union id stayed came_later ∙ joined_has id)

  joined_back : union came_later stayed ≡ without last first
  joined_back =
      same_ids (union came_later stayed) (without last first)
      (union-ascends came_later stayed (without-ascends (without last middle) (without first middle) (without-ascends last middle ascend_last)))
      (without-ascends last first ascend_last)
      (λ id. has-union id came_later stayed ∙ or_swapped (has id came_later) (has id stayed) ∙ joined_has id)

joined_move : (first middle last : List ℕ) (older newer : Move) → Ascends first → Ascends middle → Ascends last
    → IsMove first middle older → IsMove middle last newer → IsMove first last (joined older newer)
joined_move first middle last older newer ascend_first ascend_middle ascend_last one other =
    let gained : union (without older.gained newer.lost) (without newer.gained older.lost) ≡ union (without (without middle first) (without middle last)) (without (without last middle) (without first middle)) =
    λ i. union (without (one.gained i) (other.lost i)) (without (other.gained i) (one.lost i)) in
    let lost : union (without older.lost newer.gained) (without newer.lost older.gained) ≡ union (without (without first middle) (without last middle)) (without (without middle last) (without middle first)) =
    λ i. union (without (one.lost i) (other.gained i)) (without (other.lost i) (one.gained i)) in
    record {
      gained = gained ∙ joined_new first middle last ascend_first ascend_middle ascend_last;
      lost = lost ∙ joined_back last middle first ascend_last ascend_middle ascend_first;
    }

-- ---- a move that fits
has-moved : (id : ℕ) (ids : List ℕ) (m : Move) → has id (moved ids m) ≡ ((not (has id m.lost) && has id ids) || has id m.gained)
has-moved id ids m = has-union id (without ids m.lost) m.gained ∙ ap (λ b. b || has id m.gained) (has-without id ids m.lost)

moved-ascends : (ids : List ℕ) (m : Move) → Ascends ids → Ascends (moved ids m)
moved-ascends ids m ascend = union-ascends (without ids m.lost) m.gained (without-ascends ids m.lost ascend)

-- ---- what came and what went balance the set before and after
-- 1 where it is there
abbrev one_if : Bool → ℕ
one_if b = cond b 1 0

moved_bits : (old lost gained : Bool) → (gained ≡ true → old ≡ false) → (lost ≡ true → old ≡ true) → one_if gained + one_if old ≡ one_if lost + one_if ((not lost && old) || gained)
moved_bits true true true new there = let wrong : true ≡ false = new refl in cc
moved_bits true true false new there = refl
moved_bits true false true new there = let wrong : true ≡ false = new refl in cc
moved_bits true false false new there = refl
moved_bits false true gained new there = let wrong : false ≡ true = there refl in cc
moved_bits false false true new there = refl
moved_bits false false false new there = refl

fits_balance : (id : ℕ) (ids : List ℕ) (m : Move) → Fits ids m → times id m.gained + one_if (has id ids) ≡ times id m.lost + one_if (has id (moved ids m))
fits_balance id ids m fits =
    rw (times_once id m.gained fits.gained_ascend, times_once id m.lost fits.lost_ascend, has-moved id ids m)
    (moved_bits (has id ids) (has id m.lost) (has id m.gained)
    (has_of_all (λ own. has own ids ≡ false) m.gained fits.gained_new id)
    (has_of_all (λ own. has own ids ≡ true) m.lost fits.lost_old id))

times-append : (id : ℕ) (xs ys : List ℕ) → times id (xs ++ ys) ≡ times id xs + times id ys
times-append id xs ys = sum_by-append (λ own. cond (own == id) 1 0) xs ys

sums_balance : (came more went less first middle last : ℕ) → more + first ≡ less + middle → came + middle ≡ went + last → (came + more) + first ≡ (went + less) + last
sums_balance came more went less first middle last older newer = omega arith

balance : (id : ℕ) (ids : List ℕ) (cs : List SetChange) → AllFit ids cs → times id (came cs) + one_if (has id ids) ≡ times id (went cs) + one_if (has id (after_all ids cs))
balance id ids [] fit = refl
balance id ids (c ∷ older) fit =
    rw (times-append id c.gained (came older), times-append id c.lost (went older))
    (sums_balance (times id c.gained) (times id (came older)) (times id c.lost) (times id (went older)) (one_if (has id ids)) (one_if (has id (after_all ids older))) (one_if (has id (after_all ids (c ∷ older))))
    (balance id ids older fit.1) (fits_balance id (after_all ids older) (move_of c) fit.0))

more_bits : (old new : Bool) (came went : ℕ) → came + one_if old ≡ went + one_if new → nat_lt went came ≡ (not old && new)
more_bits true true came went same = le-ltb went came (omega arith)
more_bits true false came went same = le-ltb went came (omega arith)
more_bits false true came went same = lt-ltb went came (omega arith)
more_bits false false came went same = le-ltb went came (omega arith)

-- ---- the net change
pub after-ascends : (ids : List ℕ) (cs : List SetChange) → Ascends ids → Ascends (after_all ids cs)
after-ascends ids [] ascend = ascend
after-ascends ids (c ∷ older) ascend = moved-ascends (after_all ids older) (move_of c) (after-ascends ids older ascend)

surplus_is : (first last came_ids went_ids : List ℕ) → Ascends last → ((id : ℕ) → times id came_ids + one_if (has id first) ≡ times id went_ids + one_if (has id last)) → surplus came_ids went_ids ≡ without last first
surplus_is first last came_ids went_ids ascend each =
    same_ids (surplus came_ids went_ids) (without last first) (surplus-ascends came_ids went_ids) (without-ascends last first ascend) (λ id.
    has-surplus id came_ids went_ids
    ∙ more_bits (has id first) (has id last) (times id came_ids) (times id went_ids) (each id)
    ∙ sym (has-without id last first))

pub net_is_exact : NetIsExact
net_is_exact selector ids cs ascend fit = record {
  gained = surplus_is ids (after_all ids cs) (came cs) (went cs) (after-ascends ids cs ascend) (λ id. balance id ids cs fit);
  lost = surplus_is (after_all ids cs) ids (went cs) (came cs) ascend (λ id. sym (balance id ids cs fit));
}

-- ---- two stretches of changes
pub after-append : (ids : List ℕ) (newer older : List SetChange) → after_all ids (newer ++ older) ≡ after_all (after_all ids older) newer
after-append ids [] older = refl
after-append ids (c ∷ newer) older = ap (λ own. moved own (move_of c)) (after-append ids newer older)

pub fit-append : (ids : List ℕ) (newer older : List SetChange) → AllFit ids (newer ++ older) → AllFit ids older × AllFit (after_all ids older) newer
fit-append ids [] older fit = (fit, tt)
fit-append ids (c ∷ newer) older fit =
    let rest = fit-append ids newer older fit.1 in
    (rest.0, (subst (λ own. Fits own (move_of c)) (after-append ids newer older) fit.0, rest.1))

same_move : (a b : Move) → a.selector ≡ b.selector → a.gained ≡ b.gained → a.lost ≡ b.lost → a ≡ b
same_move a b selectors gained lost = λ i. record { selector = selectors i; gained = gained i; lost = lost i }

pub nets_join : NetsJoin
nets_join selector ids newer older ascend fit =
    let parts = fit-append ids newer older fit in
    let middle = after_all ids older in
    let ascend_middle = after-ascends ids older ascend in
    let whole = net_is_exact selector ids (newer ++ older) ascend fit in
    let both = joined_move ids middle (after_all middle newer) (net selector older) (net selector newer) ascend ascend_middle (after-ascends middle newer ascend_middle)
    (net_is_exact selector ids older ascend parts.0) (net_is_exact selector middle newer ascend_middle parts.1) in
    let last = after-append ids newer older in
    same_move (net selector (newer ++ older)) (joined (net selector older) (net selector newer))
    refl
    (whole.gained ∙ ap (λ own. without own ids) last ∙ sym both.gained)
    (whole.lost ∙ ap (λ own. without ids own) last ∙ sym both.lost)

-- ---- the difference of two sets
gained_new_bits : (old new : Bool) → (not old && new) ≡ true → old ≡ false
gained_new_bits true new is = sym is
gained_new_bits false new is = refl

lost_old_bits : (old new : Bool) → (not new && old) ≡ true → old ≡ true
lost_old_bits old true is = cc
lost_old_bits old false is = is

leads_bits : (old new : Bool) → ((not (not new && old) && old) || (not old && new)) ≡ new
leads_bits true true = refl
leads_bits true false = refl
leads_bits false true = refl
leads_bits false false = refl

pub differences_lead : DifferencesLead
differences_lead old new m ascend_old ascend_new is =
    let gained : (id : ℕ) → has id m.gained ≡ (not (has id old) && has id new) = λ id. ap (has id) is.gained ∙ has-without id new old in
    let lost : (id : ℕ) → has id m.lost ≡ (not (has id new) && has id old) = λ id. ap (has id) is.lost ∙ has-without id old new in (
      record {
        gained_ascend = subst Ascends (sym is.gained) (without-ascends new old ascend_new);
        lost_ascend = subst Ascends (sym is.lost) (without-ascends old new ascend_old);
        gained_new = all_have (λ id. has id old ≡ false) m.gained (λ id there. gained_new_bits (has id old) (has id new) (sym (gained id) ∙ there));
        lost_old = all_have (λ id. has id old ≡ true) m.lost (λ id there. lost_old_bits (has id old) (has id new) (sym (lost id) ∙ there));
      },
      same_ids (moved old m) new (moved-ascends old m ascend_old) ascend_new (λ id.
          has-moved id old m ∙ (λ i. (not (lost id i) && has id old) || gained id i) ∙ leads_bits (has id old) (has id new)),
    )
