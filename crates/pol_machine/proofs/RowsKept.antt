-- What rows and takes keep for a longer history.
use Rattle.std.proofs.Common.{◌≡◌, ℕ, ◌⊎◌, inl, inr, List, Option, None, Some, IfSome, refl, sym, ap, ◌∙◌, subst, arith, bytes_eq}
use Rattle.std.proofs.lemmas.Option.{same_Some}
use mathlib.Core.List.{IsPrefix}
use Rattle.pol_model.specs.declared.options.Options.{Options}
use Rattle.pol_model.specs.declared.request.Request.{Request}
use Rattle.pol_model.specs.declared.request.Request.TheVariants.{AddEndpoint, RemoveEndpoint, AddIdentity, RemoveIdentity, Apply, Remove, SetMode}
use Rattle.pol_slot_map.specs.declared.follow.Followed.{Followed}
use Rattle.pol_slot_map.proofs.Keeping.{follows-later}
use Rattle.pol_history.specs.declared.event.EndpointId.{EndpointId}
use Rattle.pol_history.specs.declared.event.HistoryEvent.{HistoryEvent}
use Rattle.pol_history.specs.declared.event.LastReport.{LastReport}
use Rattle.pol_history.proofs.Beginnings.{prefix_trans}
use Rattle.pol_history.proofs.Lists.{no_element}
use Rattle.pol_history.proofs.Own.{revision-prefix, size-prefix}
use Rattle.pol_taken.specs.declared.taken.Taken.{Taken}
use Rattle.pol_machine.specs.Parts.{SameTakes, TakesOf}
use Rattle.pol_machine.specs.Rows.{RowsOf, SameRows, new_row, rows_after}
use Rattle.pol_machine.specs.Stands.{GoesFrom, IsKeptRow, IsKeptWork, IsTakenFor, TellsFull, over_limit}
use Rattle.pol_machine.specs.declared.row.MachineRow.{MachineRow}
use Rattle.pol_machine.proofs.Choices.{if_either}

-- ---- the same rows and takes

pub rows_same : (rows later : RowsOf) → SameRows rows later → later ≡ rows
rows_same rows later same = λ i. λ name. same name i

pub takes_same : (takes later : TakesOf) → SameTakes takes later → later ≡ takes
takes_same takes later same = λ i. λ slot. same slot i

-- ---- for a longer history

pub work_later : (options : Options) (old new : List HistoryEvent) (name : List ℕ) (added : ℕ) (work : Option Followed) → IsPrefix old new
    → IfSome work (IsKeptWork options old name added) → IfSome work (IsKeptWork options new name added)
work_later options old new name added None begins is = tt
work_later options old new name added (Some f) begins is = record { follows = follows-later options old new f begins is.follows; id = is.id }

-- the size of a map that was reported is the same
full_later : (options : Options) (old new : List HistoryEvent) (id : EndpointId) (report : Option LastReport) (full : Option ℕ) → IsPrefix old new
    → TellsFull options old id report full → TellsFull options new id report full
full_later options old new id None full begins is = is
full_later options old new id (Some report) full begins is = (
  (let more = revision-prefix old new begins in omega (arith, is.0, more)),
  is.1 ∙ ap (over_limit options.map_max) (sym (size-prefix options old new id report.revision begins is.0)),
)

-- what is told of it stays so with the report
pub full_same : (options : Options) (history : List HistoryEvent) (name : List ℕ) (row now : MachineRow) → now.added ≡ row.added → now.report ≡ row.report
    → now.full ≡ row.full → TellsFull options history (record { name = name; added = row.added }) row.report row.full
    → TellsFull options history (record { name = name; added = now.added }) now.report now.full
full_same options history name row now added report full is =
    subst (λ (f : Option ℕ). TellsFull options history (record { name = name; added = now.added }) now.report f) (sym full)
    (subst (λ (r : Option LastReport). TellsFull options history (record { name = name; added = now.added }) r row.full) (sym report)
    (subst (λ (n : ℕ). TellsFull options history (record { name = name; added = n }) row.report row.full) (sym added) is))

pub row_later : (options : Options) (old new : List HistoryEvent) (name : List ℕ) (row : MachineRow) → IsPrefix old new → IsKeptRow options old name row
    → IsKeptRow options new name row
row_later options old new name row begins is = record {
  shown = is.shown;
  work = work_later options old new name row.added row.work begins is.work;
  full = full_later options old new (record { name = name; added = row.added }) row.report row.full begins is.full;
}

-- an endpoint that has just come
new_kept : (options : Options) (history : List HistoryEvent) (name : List ℕ) (revision : ℕ) → IsKeptRow options history name (new_row revision)
new_kept options history name revision = record { shown = refl; work = tt; full = refl }

-- the row is one that was there before, or of an endpoint that has just come
abbrev pub IsOldOrNew : RowsOf → List ℕ → MachineRow → Type 0
IsOldOrNew rows name row = ((revision : ℕ) × (row ≡ new_row revision)) ⊎ (rows name ≡ Some row)

abbrev pub AreOldOrNew : RowsOf → RowsOf → List ℕ → Type 0
AreOldOrNew rows later name = (row : MachineRow) → later name ≡ Some row → IsOldOrNew rows name row

pub works_later : (options : Options) (old new : List HistoryEvent) (rows later : RowsOf) → IsPrefix old new → ((name : List ℕ) → AreOldOrNew rows later name)
    → ((name : List ℕ) (row : MachineRow) → rows name ≡ Some row → IsKeptRow options old name row)
    → (name : List ℕ) (row : MachineRow) → later name ≡ Some row → IsKeptRow options new name row
works_later options old new rows later begins are works name row there =
    elim (are name row there) as (λ _. IsKeptRow options new name row) [
      | inl fresh ↦ subst (λ (r : MachineRow). IsKeptRow options new name r) (sym fresh.1) (new_kept options new name fresh.0)
      | inr was ↦ row_later options old new name row begins (works name row was)
    ]

pub take_later : (options : Options) (old new : List HistoryEvent) (rows later : RowsOf) (slot : ℕ) (taken : Taken) → IsPrefix old new
    → ((row : MachineRow) → later taken.endpoint.name ≡ Some row → row.added ≡ taken.endpoint.added → IsOldOrNew rows taken.endpoint.name row)
    → IsTakenFor options old rows slot taken → IsTakenFor options new later slot taken
take_later options old new rows later slot taken begins are is = record {
  before = is.before;
  begins = prefix_trans is.before old new is.begins begins;
  revision = is.revision;
  is = is.is;
  made = is.made;
  goes = λ row there added.
      elim (are row there added) as (λ _. IfSome row.work (GoesFrom options is.before taken)) [
        | inl fresh ↦ subst (λ (r : MachineRow). IfSome r.work (GoesFrom options is.before taken)) (sym fresh.1) tt
        | inr was ↦ is.goes row was added
      ];
}

-- ---- rows after a request

pub found_after : (revision : ℕ) (request : Request) (rows : RowsOf) (name : List ℕ) → AreOldOrNew rows (rows_after revision request rows) name
found_after revision (AddEndpoint added labels address) rows name row there =
    elim (if_either (bytes_eq added name) (Some (new_row revision)) (rows name) (Some row) there) as (λ _. IsOldOrNew rows name row) [
      | inl new ↦ inl (revision, sym (same_Some (new_row revision) row new.1))
      | inr was ↦ inr was.1
    ]
found_after revision (RemoveEndpoint gone) rows name row there =
    elim (if_either (bytes_eq gone name) None (rows name) (Some row) there) as (λ _. IsOldOrNew rows name row) [
      | inl none ↦ absurd (no_element row none.1)
      | inr was ↦ inr was.1
    ]
found_after revision (AddIdentity added labels) rows name row there = inr there
found_after revision (RemoveIdentity gone) rows name row there = inr there
found_after revision (Apply policy) rows name row there = inr there
found_after revision (Remove key) rows name row there = inr there
found_after revision (SetMode mode) rows name row there = inr there
