use Rattle.pol_model_laws.proofs.Worked.{endpoint_number, inside_number, longest_number, outside_number}
use Rattle.pol_model_laws.proofs.map_laws.numbers_of_addresses.Goals as goal

pub returns : goal.returns
returns c = record {
  endpoint = endpoint_number;
  inside = inside_number;
  longest = longest_number;
  outside = outside_number;
}
