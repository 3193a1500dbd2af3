use Rattle.std.specs.Arc.{arc_value}
use Rattle.pol_prefixes.proofs.Telling.{number_told}
use Rattle.pol_prefixes.proofs.addresses.Addresses.new.Goals as goal

pub returns : goal.returns
returns c = record {
  numbers = λ rows is address.
      number_told (record { endpoints = c.in_ok-endpoints.endpoints.entries; prefixes = arc_value c.args.prefixes })
      c.args.endpoints.now rows c.in_ok-endpoints.ensures is address;
}
