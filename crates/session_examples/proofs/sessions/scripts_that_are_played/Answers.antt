use Rattle.std.proofs.Common.{◌≡◌, ℕ, zero, suc, ◌<◌, List, [], ◌∷◌, length, slice_get, Some, refl, ap, subst, ◌∙◌, arith}
use Rattle.std.specs.List.{AllByRecursion}
use Rattle.pol_history.specs.Grows.{PassState, nothing_yet}
use Rattle.pol_history.specs.declared.event.HistoryEvent.{HistoryEvent}
use Rattle.pol_history.proofs.Lists.{no_element}
use Rattle.pol_run_laws.proofs.Places.{element_at}
use Rattle.session_examples.specs.Stopped.{new_pass}
use Rattle.session_examples.proofs.sessions.scripts_that_are_played.Goals as goal

one_seat : (i j : ℕ) (one other : PassState) → slice_get (new_pass ∷ []) i ≡ Some one → slice_get (new_pass ∷ []) j ≡ Some other
    → one.number ≡ other.number → i ≡ j
one_seat zero zero one other first second same = refl
one_seat zero (suc j) one other first second same = absurd (no_element other second)
one_seat (suc i) j one other first second same = absurd (no_element one first)

pub returns-clause-idle : goal.returns-clause-idle
returns-clause-idle c = record {
  handed_out = 1 ∷ [];
  seats = new_pass ∷ [];
  new = record { some = omega arith; new = (refl, tt); those = refl; apart = one_seat };
  as_many = refl;
  after = new_pass ∷ [];
  are = refl;
  k = 0;
  seat = new_pass;
  there = refl;
  seen = refl;
}

pub returns-clause-seen_by_none : goal.returns-clause-seen_by_none
returns-clause-seen_by_none c = λ it.
    let new = subst (λ (seats : List PassState). AllByRecursion (λ seat. seat.has ≡ nothing_yet) seats) it.are it.new.new in
    let has = element_at (λ (seat : PassState). seat.has ≡ nothing_yet) it.after it.k it.seat new it.there in
    let wrong : 1 ≡ 0 = ap (λ (h : List HistoryEvent). length h) (it.seen ∙ ap (λ has. has.history) has) in omega (arith, wrong)

pub returns-clause-by_none : goal.returns-clause-by_none
returns-clause-by_none c = λ it. let some : 0 < length it.seats = it.new.some in omega (arith, some, it.as_many)

pub returns-clause-told_of_no_phase : goal.returns-clause-told_of_no_phase
returns-clause-told_of_no_phase c = λ it. it.are
