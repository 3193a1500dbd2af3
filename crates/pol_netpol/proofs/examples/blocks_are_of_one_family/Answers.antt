-- They compute.
use Rattle.std.proofs.Common.{refl}
use Rattle.std.specs.Net.Reader.{read_ipv4, read_ipv6, read_number, read_octet, read_segment, read_segments}
use Rattle.pol_addr.specs.Address.{read_addr, read_v4, read_v6}
use Rattle.pol_addr.specs.Cidr.{network}
use Rattle.pol_addr.specs.Prefix.{covers, read_len, read_prefix}
use Rattle.pol_netpol.proofs.examples.blocks_are_of_one_family.Goals as goal

pub returns-clause-within : goal.returns-clause-within
unfolding network covers read_len read_prefix read_addr read_v4 read_v6 read_ipv4 read_ipv6 read_octet read_number read_segment read_segments
returns-clause-within c = refl

pub returns-clause-excepted : goal.returns-clause-excepted
unfolding network covers read_len read_prefix read_addr read_v4 read_v6 read_ipv4 read_ipv6 read_octet read_number read_segment read_segments
returns-clause-excepted c = refl

pub returns-clause-ipv6_world : goal.returns-clause-ipv6_world
unfolding network covers read_len read_prefix read_addr read_v4 read_v6 read_ipv4 read_ipv6 read_octet read_number read_segment read_segments
returns-clause-ipv6_world c = refl

pub returns-clause-not_ipv4 : goal.returns-clause-not_ipv4
unfolding network covers read_len read_prefix read_addr read_v4 read_v6 read_ipv4 read_ipv6 read_octet read_number read_segment read_segments
returns-clause-not_ipv4 c = refl

pub returns-clause-not_ipv6 : goal.returns-clause-not_ipv6
unfolding network covers read_len read_prefix read_addr read_v4 read_v6 read_ipv4 read_ipv6 read_octet read_number read_segment read_segments
returns-clause-not_ipv6 c = refl

pub returns-clause-same_family : goal.returns-clause-same_family
unfolding network covers read_len read_prefix read_addr read_v4 read_v6 read_ipv4 read_ipv6 read_octet read_number read_segment read_segments
returns-clause-same_family c = refl

pub returns-clause-except_of_ipv6 : goal.returns-clause-except_of_ipv6
unfolding network covers read_len read_prefix read_addr read_v4 read_v6 read_ipv4 read_ipv6 read_octet read_number read_segment read_segments
returns-clause-except_of_ipv6 c = refl

pub returns-clause-except_of_ipv4 : goal.returns-clause-except_of_ipv4
unfolding network covers read_len read_prefix read_addr read_v4 read_v6 read_ipv4 read_ipv6 read_octet read_number read_segment read_segments
returns-clause-except_of_ipv4 c = refl

pub returns-clause-bad_text : goal.returns-clause-bad_text
unfolding network covers read_len read_prefix read_addr read_v4 read_v6 read_ipv4 read_ipv6 read_octet read_number read_segment read_segments
returns-clause-bad_text c = refl
