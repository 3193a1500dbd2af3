-- A worker that takes hints, one after another.
use Rattle.std.proofs.Common.{◌≡◌, ℕ, List, [], ◌∷◌, ◌++◌, ◌+◌, refl, sym, ap, ◌∙◌, subst, append_assoc, append-nil}
use Rattle.std.specs.List.{AllByRecursion}
use mathlib.Core.List.{IsPrefix}
use Rattle.pol_hints.specs.declared.turn.Turn.TheVariants.{Taken}
use Rattle.pol_hints.specs.History.{hints_put}
use Rattle.pol_hints.specs.Passes.{Adds, IsOnly, Pass, Sees}
use Rattle.pol_hints.specs.Serving.{Serves, StopsServing, TakesEach, Waits}
use Rattle.pol_hints.proofs.Beginnings.{begins_further, begins_itself}
use Rattle.pol_hints.proofs.Histories.{put-append}

-- a pass that keeps its share stays the only one
still_only : (before after : Pass) → after.share ≡ before.share → IsOnly before → IsOnly after
still_only before after same all = ap (λ s. s.part) same ∙ all ∙ sym (ap (λ s. s.of) same)

pub waits_none : (pass : Pass) → Waits pass pass
waits_none pass = record { past = begins_itself pass.seen; own = refl; share = refl; only = λ all. refl }

-- it saw more, made no turn, and then a turn; it made no turn, and saw more once more
add_behind : (a b c : Pass) (slot : ℕ) → Waits a b → Adds (Taken slot) b c → Adds (Taken slot) a c
add_behind a b c slot waits it = record {
  so_far = it.so_far;
  past = begins_further a.seen b.seen it.so_far waits.past it.past;
  last = it.last;
  own = it.own ∙ ap (λ (k : ℕ). k + 1) waits.own;
  only = λ all. it.only (still_only a b waits.share all) ∙ waits.only all;
}

wait_more : (a b c : Pass) → Waits a b → Waits b c → Waits a c
wait_more a b c one other = record {
  past = begins_further a.seen b.seen c.seen one.past other.past;
  own = other.own ∙ one.own;
  share = other.share ∙ one.share;
  only = λ all. other.only (still_only a b one.share all) ∙ one.only all;
}

wait_takes : (slots : List ℕ) (a b c : Pass) → Waits a b → TakesEach slots b c → TakesEach slots a c
wait_takes [] a b c waits it = wait_more a b c waits it
wait_takes (slot ∷ slots) a b c waits it = (it.0, add_behind a b it.0 slot waits it.1, it.2 ∙ waits.share, it.3)

takes_both : (xs ys : List ℕ) (a b c : Pass) → TakesEach xs a b → TakesEach ys b c → TakesEach (xs ++ ys) a c
takes_both [] ys a b c it next = wait_takes ys a b c it next
takes_both (x ∷ xs) ys a b c it next = (it.0, it.1, it.2, takes_both xs ys it.0 b c it.3 next)

all_both : (F : ℕ → Type 0) (xs ys : List ℕ) → AllByRecursion F xs → AllByRecursion F ys → AllByRecursion F (xs ++ ys)
all_both F [] ys it more = more
all_both F (x ∷ xs) ys it more = (it.0, all_both F xs ys it.1 more)

pub serves_none : (F : ℕ → Type 0) (pass : Pass) → Serves F pass pass
serves_none F pass = record { taken = []; takes = waits_none pass; each = tt }

module _ (F : ℕ → Type 0) (a b : Pass) (same : b.share ≡ a.share) where
  -- a hint was taken, and its job was run
  pub serves_one : (slot : ℕ) → Adds (Taken slot) a b → F slot → Serves F a b
  serves_one slot it ran = record { taken = slot ∷ []; takes = (b, it, same, waits_none b); each = (ran, tt) }

  -- a hint was taken, and there was no memory for its job
  pub stops_at : (slot : ℕ) → Adds (Taken slot) a b → StopsServing F a b
  stops_at slot it = record { done = []; last = slot; takes = (b, it, same, waits_none b); each = tt }

  -- there was no hint
  pub serves_wait : (So : List ℕ → Type 0) → Sees So a b → Serves F a b
  serves_wait So sees = record { taken = []; takes = record { past = sees.past; own = sees.own; share = same; only = sees.only }; each = tt }

module _ (F : ℕ → Type 0) (a b c : Pass) (it : Serves F a b) where
  pub serves_both : Serves F b c → Serves F a c
  serves_both next = record { taken = it.taken ++ next.taken; takes = takes_both it.taken next.taken a b c it.takes next.takes; each = all_both F it.taken next.taken it.each next.each }

  pub stops_behind : StopsServing F b c → StopsServing F a c
  stops_behind next = record {
    done = it.taken ++ next.done;
    last = next.last;
    takes = subst (λ (l : List ℕ). TakesEach l a c) (sym (append_assoc it.taken next.done (next.last ∷ []))) (takes_both it.taken (next.done ++ next.last ∷ []) a b c it.takes next.takes);
    each = all_both F it.taken next.done it.each next.each;
  }

-- ---- what follows of the history

pub takes_go_on : (slots : List ℕ) (a b : Pass) → TakesEach slots a b → IsPrefix a.seen b.seen
takes_go_on [] a b it = it.past
takes_go_on (slot ∷ slots) a b it =
    let first = begins_further a.seen it.1.so_far it.0.seen it.1.past (Taken slot ∷ [], sym it.1.last) in
    begins_further a.seen it.0.seen b.seen first (takes_go_on slots it.0 b it.3)

pub takes_put_none : (slots : List ℕ) (a b : Pass) → TakesEach slots a b → IsOnly a → hints_put b.seen ≡ hints_put a.seen
takes_put_none [] a b it all = ap hints_put (it.only all)
takes_put_none (slot ∷ slots) a b it all =
    takes_put_none slots it.0 b it.3 (still_only a it.0 it.2 all)
    ∙ ap hints_put it.1.last ∙ put-append it.1.so_far (Taken slot ∷ []) ∙ append-nil (hints_put it.1.so_far) ∙ ap hints_put (it.1.only all)

pub takes_keep : (slots : List ℕ) (a b : Pass) → TakesEach slots a b → b.share ≡ a.share
takes_keep [] a b it = it.share
takes_keep (slot ∷ slots) a b it = takes_keep slots it.0 b it.3 ∙ it.2

-- what follows of a worker's
module _ (F : ℕ → Type 0) (a b : Pass) where
  pub serves_on : Serves F a b → IsPrefix a.seen b.seen × (b.share ≡ a.share) × (IsOnly a → hints_put b.seen ≡ hints_put a.seen)
  serves_on it = (takes_go_on it.taken a b it.takes, takes_keep it.taken a b it.takes, takes_put_none it.taken a b it.takes)

  pub stops_on : StopsServing F a b → IsPrefix a.seen b.seen × (b.share ≡ a.share) × (IsOnly a → hints_put b.seen ≡ hints_put a.seen)
  stops_on it = let slots = it.done ++ it.last ∷ [] in (takes_go_on slots a b it.takes, takes_keep slots a b it.takes, takes_put_none slots a b it.takes)
