-- The verdict and the explanation of a state, from its parts and the leave for the local host.
use Rattle.std.proofs.Common.{◌≡◌, ℕ, Bool, List}
use Rattle.pol_mapkey.specs.declared.Word.{Word}
use Rattle.pol_model.specs.declared.answer.Trace.{Trace}
use Rattle.pol_model.specs.declared.options.Mode.{Mode}
use Rattle.pol_model.specs.declared.options.Options.{Options}
use Rattle.pol_model.specs.declared.request.Query.{Query}
use Rattle.pol_model.specs.declared.row.Endpoint.{Endpoint}
use Rattle.pol_model.specs.declared.row.IdentityRow.{IdentityRow}
use Rattle.pol_model.specs.declared.row.Stamped.{Stamped}
use Rattle.pol_model.specs.Explain.{explain_for}
use Rattle.pol_model.specs.Remote.{remote_number, verdict_for}
use Rattle.pol_model.specs.State.{State}
use Rattle.pol_judge.specs.Parts.{parts_of, trace_of, word_of}

module _ (localhost : Bool) (options : Options) (s : State) (mode : Mode) (policies : List Stamped) (rows : List IdentityRow) (number : ℕ) (query : Query) (endpoint : Endpoint)
    (localhost_is : localhost ≡ options.localhost) (mode_is : mode ≡ s.mode) (policies_are : policies ≡ s.policies) (rows_are : rows ≡ s.identities)
    (number_is : number ≡ remote_number s query.remote) where
  pub word_told : word_of localhost (parts_of mode policies rows) query endpoint number ≡ verdict_for options s query endpoint
  word_told =
      let word : Bool → Mode → List Stamped → List IdentityRow → ℕ → Word = λ l m ps rs n. word_of l (parts_of m ps rs) query endpoint n in
      λ i. word (localhost_is i) (mode_is i) (policies_are i) (rows_are i) (number_is i)

  pub trace_told : trace_of localhost (parts_of mode policies rows) query endpoint number ≡ explain_for options s query endpoint
  trace_told =
      let trace : Bool → Mode → List Stamped → List IdentityRow → ℕ → Trace = λ l m ps rs n. trace_of l (parts_of m ps rs) query endpoint n in
      λ i. trace (localhost_is i) (mode_is i) (policies_are i) (rows_are i) (number_is i)
