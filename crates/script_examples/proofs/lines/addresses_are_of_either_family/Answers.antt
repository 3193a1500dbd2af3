use Rattle.std.proofs.Common.{refl}
use Rattle.pol_addr.specs.Address.{read_addr, read_v4, read_v6}
use Rattle.std.specs.Net.Reader.{read_ipv4, read_ipv6, read_number, read_octet, read_segment, read_segments}
use Rattle.script_examples.proofs.lines.addresses_are_of_either_family.Goals as goal

pub returns-clause-ipv4 : goal.returns-clause-ipv4
unfolding read_addr read_v4 read_v6 read_ipv4 read_ipv6 read_octet read_number read_segment read_segments
returns-clause-ipv4 c = refl

pub returns-clause-ipv6 : goal.returns-clause-ipv6
unfolding read_addr read_v4 read_v6 read_ipv4 read_ipv6 read_octet read_number read_segment read_segments
returns-clause-ipv6 c = refl

pub returns-clause-eight_groups : goal.returns-clause-eight_groups
unfolding read_addr read_v4 read_v6 read_ipv4 read_ipv6 read_octet read_number read_segment read_segments
returns-clause-eight_groups c = refl

pub returns-clause-zeros : goal.returns-clause-zeros
unfolding read_addr read_v4 read_v6 read_ipv4 read_ipv6 read_octet read_number read_segment read_segments
returns-clause-zeros c = refl

pub returns-clause-nothing : goal.returns-clause-nothing
unfolding read_addr read_v4 read_v6 read_ipv4 read_ipv6 read_octet read_number read_segment read_segments
returns-clause-nothing c = refl

pub returns-clause-query : goal.returns-clause-query
unfolding read_addr read_v4 read_v6 read_ipv4 read_ipv6 read_octet read_number read_segment read_segments
returns-clause-query c = refl

pub returns-clause-none : goal.returns-clause-none
unfolding read_addr read_v4 read_v6 read_ipv4 read_ipv6 read_octet read_number read_segment read_segments
returns-clause-none c = refl

pub returns-clause-of_a_query : goal.returns-clause-of_a_query
unfolding read_addr read_v4 read_v6 read_ipv4 read_ipv6 read_octet read_number read_segment read_segments
returns-clause-of_a_query c = refl
