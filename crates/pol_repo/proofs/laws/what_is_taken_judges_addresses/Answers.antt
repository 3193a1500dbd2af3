use Rattle.std.proofs.Common.{sym, ap, ◌∙◌}
use Rattle.std.specs.Arc.{arc_value}
use Rattle.pol_mapkey.specs.Entries.{read_map}
use Rattle.pol_model.specs.After.{state_of}
use Rattle.pol_model.specs.Verdict.{verdict_of}
use Rattle.pol_model_laws.proofs.KeepsAll.{state_keeps}
use Rattle.pol_model_laws.proofs.Positive.{rows_positive}
use Rattle.pol_distill.proofs.MapLaw.{read_is_verdict}
use Rattle.pol_prefixes.specs.AddressTable.{number_in}
use Rattle.pol_taken.proofs.Agreed.{taken_map}
use Rattle.pol_repo.proofs.Sides.{address_is_number}
use Rattle.pol_repo.proofs.laws.what_is_taken_judges_addresses.Goals as goal

pub returns : goal.returns
returns c options requests slot taken dir address proto port good is within small =
    let number = number_in address (arc_value taken.addresses) in
    ap (λ entries. read_map entries dir number proto port) (taken_map options requests slot taken good is)
    ∙ read_is_verdict options (state_of options requests) taken.endpoint dir number proto port (rows_positive options requests) small
    ∙ ap (λ n. verdict_of options (state_of options requests) taken.endpoint dir n proto port) (is.addresses address)
    ∙ sym (address_is_number options (state_of options requests) taken.endpoint dir address proto port (state_keeps options requests good) within)
