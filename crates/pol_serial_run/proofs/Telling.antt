-- What a machine says is told by the answer to the line.
use Rattle.std.proofs.Common.{◌≡◌, ℕ, List, IfOk, OnOk, Option, None, Some, Result, Ok, Err, refl, sym, ap, ◌∙◌, subst}
use Rattle.pol_answer.specs.declared.answer.Answer.{Answer}
use Rattle.pol_answer.specs.declared.answer.Answer.TheVariants as answer
use Rattle.pol_history.specs.declared.machine.Reply.TheVariants as reply
use Rattle.pol_history.specs.Commits.{revision_of, state_now}
use Rattle.pol_history.specs.Look.{Looked, NoEndpoint, NotYet, Found, look}
use Rattle.pol_history.specs.Machine.{Machine, reply_found}
use Rattle.pol_machine.specs.Serial.{IsExplained, IsSaid}
use Rattle.pol_machine.specs.declared.asked.Asked.TheVariants.{Sync, Look, Explain}
use Rattle.pol_machine.specs.declared.asked.SerialAnswer.{SerialAnswer}
use Rattle.pol_machine.specs.declared.asked.SerialAnswer.TheVariants.{Replied, Synced, Traced}
use Rattle.pol_model.specs.Explain.{explain_of}
use Rattle.pol_model.specs.declared.answer.Trace.{Trace}
use Rattle.pol_model.specs.declared.options.Options.{Options}
use Rattle.pol_model.specs.declared.request.Query.{Query}
use Rattle.pol_run.specs.Serial.{answer_with_trace, trace_answer}
use Rattle.pol_serial_run.specs.Asking.{IsToldAs, told_of}
use Rattle.pol_serial_run.specs.SerialRun.{IsSyncAnswer, answer_looked}
use Rattle.pol_serial_run.proofs.Commits.{revision_now}

some_same : {X : Type 0} (x y : X) → Some x ≡ Some y → x ≡ y
some_same x y same = cc

looked_told : (looked : Looked) → told_of (Replied (reply_found looked)) ≡ Some (answer_looked looked)
looked_told (NoEndpoint revision) = refl
looked_told (NotYet revision) = refl
looked_told (Found revision word) = refl

module _ (options : Options) (m : Machine) where
  pub look_told : (query : Query) (told : Answer) → IsToldAs (IsSaid options m (Look query)) told → told ≡ answer_looked (look options m.history query)
  look_told query told is =
      some_same told (answer_looked (look options m.history query)) (sym is.tells ∙ ap told_of is.holds ∙ looked_told (look options m.history query))

  explained_told : (query : Query) (trace : Option Trace) (said : SerialAnswer) (told : Answer) → IsExplained options m.history query trace said
      → told_of said ≡ Some told → told ≡ answer_with_trace (state_now options m.history) trace
  explained_told query None said told is tells =
      some_same told (answer.NoEndpoint (state_now options m.history).revision)
      (sym tells ∙ ap told_of is ∙ ap (λ (n : ℕ). Some (answer.NoEndpoint n)) (sym (revision_now options m.history)))
  explained_told query (Some trace) said told is tells =
      some_same told (answer.Traced (state_now options m.history).revision trace)
      (sym tells ∙ ap told_of is ∙ ap (λ (n : ℕ). Some (answer.Traced n trace)) (sym (revision_now options m.history)))

  pub trace_told : (query : Query) (told : Answer) → IsToldAs (IsSaid options m (Explain query)) told
      → told ≡ trace_answer options (state_now options m.history) query
  trace_told query told is = explained_told query (explain_of options (state_now options m.history) query) is.said told is.holds is.tells

  synced_told : (said : SerialAnswer) (told : Answer) → IsSaid options m Sync said → told_of said ≡ Some told → IsSyncAnswer options m told
  synced_told (Replied said) told is tells = absurd is
  synced_told (Synced revision full) told is tells =
      subst (λ (a : Answer). IsSyncAnswer options m a) (some_same (answer.Synced revision full) told tells) is
  synced_told (Traced revision trace) told is tells = absurd is

  pub sync_told : (told : Answer) → IsToldAs (IsSaid options m Sync) told → IsSyncAnswer options m told
  sync_told told is = synced_told is.said told is.holds is.tells

pub weaker : (E : Type 0) (P Q : Answer → Type 0) (result : Result Answer E) → ((told : Answer) → P told → Q told) → IfOk result P → IfOk result Q
weaker E P Q (Ok told) more is = more told is
weaker E P Q (Err error) more is = tt
