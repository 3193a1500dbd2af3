use Rattle.std.proofs.Common.{rules, Ok, Err, sym, subst}
use Rattle.std.proofs.lemmas.List.Sorted.{answers_always}
use Rattle.pol_mapkey.specs.Entries.{Entry}
use Rattle.pol_distill.specs.Sorted.{IsTable}
use Rattle.pol_distill.proofs.Searches.{searched, there}
use Rattle.pol_distill.proofs.table.MapTable.find.Goals as goal

pub returns-in-Ok-clause-kind : goal.returns-in-Ok-clause-kind
returns-in-Ok-clause-kind c =
    let by_key = c.in-Ok.ensures.position (λ (e : Entry). e.0) (answers_always _ _ _ (λ f a r g called. search rules)) in
    let up : IsTable c.deref.result.now = subst IsTable (sym c.deref.ensures.value) c.self.invariant in
    let at = searched c.deref.result.now up c.args.key.now (Ok c.in-Ok.place) c.in-Ok.ensures.bound by_key in
    rw (← c.self.view_is, ← c.deref.ensures.value)
    (there c.deref.result.now c.in-Ok.place c.args.key.now c.index.result.now at.0 at.1 (rw c.deref.ensures.value c.index.ensures))

pub returns-in-Err-clause-kind : goal.returns-in-Err-clause-kind
returns-in-Err-clause-kind c =
    let by_key = c.in-Err.ensures.position (λ (e : Entry). e.0) (answers_always _ _ _ (λ f a r g called. search rules)) in
    let up : IsTable c.deref.result.now = subst IsTable (sym c.deref.ensures.value) c.self.invariant in
    rw (← c.self.view_is, ← c.deref.ensures.value) (searched c.deref.result.now up c.args.key.now (Err c.in-Err.field-0) c.in-Err.ensures.bound by_key)
