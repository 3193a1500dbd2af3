-- What is explained in the present state is what the definition says.
use Rattle.std.proofs.Common.{◌≡◌, ℕ, Option, None, Some, option_map, sym, ap, ◌∙◌, subst}
use Rattle.pol_history.specs.declared.machine.Reply.TheVariants as reply
use Rattle.pol_history.specs.Commits.{state_now}
use Rattle.pol_history.specs.Machine.{Machine}
use Rattle.pol_model.specs.Endpoints.{endpoint_of}
use Rattle.pol_model.specs.Explain.{explain_for, explain_of}
use Rattle.pol_model.specs.State.{State}
use Rattle.pol_model.specs.declared.answer.Trace.{Trace}
use Rattle.pol_model.specs.declared.options.Options.{Options}
use Rattle.pol_model.specs.declared.request.Query.{Query}
use Rattle.pol_repo.specs.Repository.{state_in}
use Rattle.pol_machine.specs.Serial.{IsExplained, IsSaid}
use Rattle.pol_machine.specs.Stands.{Kept, StandsFor, options_of}
use Rattle.pol_machine.specs.declared.asked.Asked.TheVariants.{Explain}
use Rattle.pol_machine.specs.declared.asked.SerialAnswer.TheVariants.{Replied, Traced}
use Rattle.pol_repo_history.proofs.AtHistory.{revision_at, state_at}

module _ (k : Kept) (m : Machine) (stands : StandsFor k m) (query : Query) where
  abbrev options : Options
  options = options_of k

  explains : explain_of options (state_now options m.history) query ≡ explain_of k.repo.options (state_in k.repo) query
  explains = ap (λ (s : State). explain_of options s query) (sym (state_at options m.history k.repo stands.at))

  pub traced : (revision : ℕ) (trace : Trace) → revision ≡ (state_in k.repo).revision → explain_of k.repo.options (state_in k.repo) query ≡ Some trace
      → IsSaid options m (Explain query) (Traced revision trace)
  traced revision trace is some =
      subst (λ (o : Option Trace). IsExplained options m.history query o (Traced revision trace)) (sym (explains ∙ some))
      (ap (λ (n : ℕ). Traced n trace) (is ∙ revision_at options m.history k.repo stands.at))

  pub absent : (revision : ℕ) → revision ≡ (state_in k.repo).revision → endpoint_of query.endpoint (state_in k.repo).endpoints ≡ None
      → IsSaid options m (Explain query) (Replied (reply.NoEndpoint revision))
  absent revision is none =
      subst (λ (o : Option Trace). IsExplained options m.history query o (Replied (reply.NoEndpoint revision)))
      (sym (explains ∙ ap (option_map (explain_for k.repo.options (state_in k.repo) query)) none))
      (ap (λ (n : ℕ). Replied (reply.NoEndpoint n)) (is ∙ revision_at options m.history k.repo stands.at))
