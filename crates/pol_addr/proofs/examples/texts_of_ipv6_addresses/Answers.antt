use Rattle.std.proofs.Common.{refl}
use Rattle.std.specs.Net.Reader.{read_ipv4, read_ipv6, read_number, read_octet, read_segment, read_segments}
use Rattle.pol_addr.specs.Address.{read_addr, read_v4, read_v6}
use Rattle.pol_addr.proofs.examples.texts_of_ipv6_addresses.Goals as goal

pub returns-clause-eight : goal.returns-clause-eight
unfolding read_addr read_v4 read_v6 read_ipv4 read_ipv6 read_octet read_number read_segment read_segments
returns-clause-eight c = refl

pub returns-clause-inside : goal.returns-clause-inside
unfolding read_addr read_v4 read_v6 read_ipv4 read_ipv6 read_octet read_number read_segment read_segments
returns-clause-inside c = refl

pub returns-clause-one_group : goal.returns-clause-one_group
unfolding read_addr read_v4 read_v6 read_ipv4 read_ipv6 read_octet read_number read_segment read_segments
returns-clause-one_group c = refl

pub returns-clause-before : goal.returns-clause-before
unfolding read_addr read_v4 read_v6 read_ipv4 read_ipv6 read_octet read_number read_segment read_segments
returns-clause-before c = refl

pub returns-clause-behind : goal.returns-clause-behind
unfolding read_addr read_v4 read_v6 read_ipv4 read_ipv6 read_octet read_number read_segment read_segments
returns-clause-behind c = refl

pub returns-clause-alone : goal.returns-clause-alone
unfolding read_addr read_v4 read_v6 read_ipv4 read_ipv6 read_octet read_number read_segment read_segments
returns-clause-alone c = refl

pub returns-clause-upper : goal.returns-clause-upper
unfolding read_addr read_v4 read_v6 read_ipv4 read_ipv6 read_octet read_number read_segment read_segments
returns-clause-upper c = refl

pub returns-clause-zeros : goal.returns-clause-zeros
unfolding read_addr read_v4 read_v6 read_ipv4 read_ipv6 read_octet read_number read_segment read_segments
returns-clause-zeros c = refl
