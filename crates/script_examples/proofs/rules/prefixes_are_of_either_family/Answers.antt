use Rattle.std.proofs.Common.{refl}
use Rattle.pol_addr.specs.Address.{read_addr, read_v4, read_v6}
use Rattle.pol_addr.specs.Cidr.{network}
use Rattle.pol_addr.specs.Prefix.{covers, read_len, read_prefix}
use Rattle.std.specs.Net.Reader.{read_ipv4, read_ipv6, read_number, read_octet, read_segment, read_segments}
use Rattle.script_examples.proofs.rules.prefixes_are_of_either_family.Goals as goal

pub returns-clause-ipv4 : goal.returns-clause-ipv4
unfolding network covers read_len read_prefix read_addr read_v4 read_v6 read_ipv4 read_ipv6 read_octet read_number read_segment read_segments
returns-clause-ipv4 c = refl

pub returns-clause-ipv6 : goal.returns-clause-ipv6
unfolding network covers read_len read_prefix read_addr read_v4 read_v6 read_ipv4 read_ipv6 read_octet read_number read_segment read_segments
returns-clause-ipv6 c = refl

pub returns-clause-bare : goal.returns-clause-bare
unfolding network covers read_len read_prefix read_addr read_v4 read_v6 read_ipv4 read_ipv6 read_octet read_number read_segment read_segments
returns-clause-bare c = refl

pub returns-clause-host_bits : goal.returns-clause-host_bits
unfolding network covers read_len read_prefix read_addr read_v4 read_v6 read_ipv4 read_ipv6 read_octet read_number read_segment read_segments
returns-clause-host_bits c = refl

pub returns-clause-too_long : goal.returns-clause-too_long
unfolding network covers read_len read_prefix read_addr read_v4 read_v6 read_ipv4 read_ipv6 read_octet read_number read_segment read_segments
returns-clause-too_long c = refl
