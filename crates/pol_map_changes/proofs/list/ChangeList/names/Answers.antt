-- The search ends at the key, or no change is of it.
use Rattle.std.proofs.Common.{rules, Ok, Err, sym, subst}
use Rattle.std.proofs.lemmas.List.Sorted.{answers_always}
use Rattle.pol_map_changes.specs.Changes.{IsAscending, key_of}
use Rattle.pol_map_changes.proofs.Searching.{searched}
use Rattle.pol_map_changes.proofs.list.ChangeList.names.Goals as goal

pub returns-in-Ok : goal.returns-in-Ok
returns-in-Ok c =
    let by_key = c.in-Ok.ensures.position key_of (answers_always _ _ _ (λ f a r g called. search rules)) in
    let up : IsAscending c.deref.result.now = subst IsAscending (sym c.deref.ensures.value) c.self.invariant in
    rw (← c.self.view_is, ← c.deref.ensures.value) (searched c.deref.result.now up c.args.key.now (Ok c.in-Ok.field-0) c.in-Ok.ensures.bound by_key)

pub returns-in-Err : goal.returns-in-Err
returns-in-Err c =
    let by_key = c.in-Err.ensures.position key_of (answers_always _ _ _ (λ f a r g called. search rules)) in
    let up : IsAscending c.deref.result.now = subst IsAscending (sym c.deref.ensures.value) c.self.invariant in
    rw (← c.self.view_is, ← c.deref.ensures.value) (searched c.deref.result.now up c.args.key.now (Err c.in-Err.field-0) c.in-Err.ensures.bound by_key)
