use Rattle.std.proofs.Common.{◌≡◌, option_map, sym, ap, ◌∙◌}
use Rattle.std.proofs.lemmas.Option.{same_Some}
use Rattle.pol_model.specs.declared.answer.Trace.{Trace}
use Rattle.pol_model.specs.Explain.{explain_for}
use Rattle.pol_model.specs.Remote.{remote_number}
use Rattle.pol_model.specs.Verdict.{verdict_of}
use Rattle.pol_model.specs.After.{state_of}
use Rattle.pol_model_laws.proofs.KeepsAll.{state_keeps}
use Rattle.pol_repo.proofs.Sides.{address_is_number}
use Rattle.pol_repo.proofs.laws.law_of_addresses.Goals as goal

pub returns : goal.returns
returns c = record {
  anywhere = λ options s endpoint dir address proto port keeps within. address_is_number options s endpoint dir address proto port keeps within;
  in_each_state = λ options requests endpoint dir address proto port fine within.
      address_is_number options (state_of options requests) endpoint dir address proto port (state_keeps options requests fine) within;
  explained = λ options s query address endpoint trace keeps within remote live told.
      let is : explain_for options s query endpoint ≡ trace = same_Some (explain_for options s query endpoint) trace (sym (ap (option_map (explain_for options s query)) live) ∙ told) in
      ap (λ (t : Trace). t.word) (sym is)
      ∙ ap (λ r. verdict_of options s endpoint query.dir (remote_number s r) query.proto query.port) remote
      ∙ sym (address_is_number options s endpoint query.dir address query.proto query.port keeps within);
}
