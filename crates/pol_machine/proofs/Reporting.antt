-- A row is finished where its map was made and reported.
use Rattle.std.proofs.Common.{◌≡◌, ℕ, ◌==◌, Bool, true, false, cond, inl, inr, Option, Some, Result, Ok, Err, refl, sym, ap, ◌∙◌, subst}
use Rattle.std.proofs.lemmas.Bool.Decides.{eqb_tells}
use Rattle.pol_slot_map.specs.declared.follow.Followed.{Followed}
use Rattle.pol_history.specs.declared.machine.Reply.{Reply}
use Rattle.pol_history.specs.declared.machine.Reply.TheVariants as reply
use Rattle.pol_history.specs.Machine.{is_reported}
use Rattle.pol_taken.specs.declared.taken.Taken.{Taken}
use Rattle.pol_machine.specs.Parts.{FinishesRow, Follows, IsMadeOf, Reports, TakesOf, taken_in, with_slot}
use Rattle.pol_machine.specs.declared.row.MachineRow.{MachineRow}

module _ (limit commits : ℕ) (taken : Taken) (old : MachineRow) (not_reported : is_reported taken.revision old.report ≡ false) (made : Followed) (is : IsMadeOf old.work taken made) where
  abbrev mid : MachineRow
  mid = record old { work = Some made }

  reported_so : {E : Type 0} (new : MachineRow) (result : Result Reply E) → Reports limit commits taken mid made new result → FinishesRow limit commits taken old new result
  reported_so new (Ok (reply.Published revision)) was = record {
    not_reported = not_reported;
    same = was.0;
    made = made;
    is = is;
    fits = was.1;
    publishes = record { shown = was.2.shown; is = was.2.is; work = was.2.work; follows = was.2.follows; row = was.2.row };
  }
  reported_so new (Ok (reply.Full revision count)) was = record {
    not_reported = not_reported;
    same = was.0;
    made = made;
    is = is;
    over = was.1;
    all = was.2;
    row = was.3;
  }
  reported_so new (Ok (reply.Committed done)) was = absurd was
  reported_so new (Ok (reply.Refused refused)) was = absurd was
  reported_so new (Ok (reply.Took r)) was = absurd was
  reported_so new (Ok reply.Gone) was = absurd was
  reported_so new (Ok reply.Idle) was = absurd was
  reported_so new (Ok (reply.Already r)) was = absurd was
  reported_so new (Ok (reply.Verdict r word)) was = absurd was
  reported_so new (Ok (reply.NoEndpoint r)) was = absurd was
  reported_so new (Ok (reply.NotYet r)) was = absurd was
  reported_so new (Err error) was = record {
    added = ap (λ (r : MachineRow). r.added) was;
    report = ap (λ (r : MachineRow). r.report) was;
    map = ap (λ (r : MachineRow). r.map) was;
    work = inr (made, ap (λ (r : MachineRow). r.work) was, is.went);
    full = ap (λ (r : MachineRow). r.full) was;
  }

-- where the map was made before
pub reported_row : {E : Type 0} (limit commits : ℕ) (taken again : Taken) → again ≡ taken → (old : MachineRow) (work : Option Followed)
    → is_reported taken.revision old.report ≡ false → {F : Type 0} (followed : Result (Unit {0}) F) (done : Unit {0}) → followed ≡ Ok done
    → Follows old.work taken work followed → (new : MachineRow) (result : Result Reply E)
    → ((made : Followed) → work ≡ Some made → Reports limit commits again (record old { work = work }) made new result)
    → FinishesRow limit commits taken old new result
reported_row {E} limit commits taken again same old work not_reported {F} followed done is follows new result reports =
    let both : Follows {E = F} old.work taken work (Ok done) = subst (λ (r : Result (Unit {0}) F). Follows old.work taken work r) is follows in
    let told : Reports limit commits taken (record old { work = Some both.0 }) both.0 new result =
    subst (λ (t : Taken). Reports limit commits t (record old { work = Some both.0 }) both.0 new result) same
    (subst (λ (w : Option Followed). Reports limit commits again (record old { work = w }) both.0 new result) both.1 (reports both.0 both.1)) in
    reported_so limit commits taken old not_reported both.0 both.2 new result told

-- ---- a slot's place after a write

turned : (a b : ℕ) → (a == b) ≡ (b == a)
turned a b =
    elim (eqb_tells a b) [
      | inl same ↦ same.0 ∙ sym (elim (eqb_tells b a) [ inl other ↦ other.0 | inr other ↦ absurd (other.1 (sym same.1)) ])
      | inr differ ↦ differ.0 ∙ sym (elim (eqb_tells b a) [ inl other ↦ absurd (differ.1 (sym other.1)) | inr other ↦ other.0 ])
    ]

of_test : (test : Bool) (now : Option Taken) (was : Option (Option Taken)) → taken_in (cond test (Some now) was) ≡ cond test now (taken_in was)
of_test true now was = refl
of_test false now was = refl

pub written_slot : (slot other : ℕ) (now : Option Taken) (takes : TakesOf) (was found : Option (Option Taken)) → found ≡ cond (slot == other) (Some now) was
    → taken_in was ≡ takes other → taken_in found ≡ with_slot slot now takes other
written_slot slot other now takes was found is same =
    ap taken_in is
    ∙ of_test (slot == other) now was
    ∙ (λ i. cond (turned slot other i) now (same i))
