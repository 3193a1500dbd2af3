use Rattle.std.proofs.Common.{refl}
use Rattle.pol_addr.specs.Address.{read_addr, read_v4, read_v6}
use Rattle.pol_addr.specs.Cidr.{network}
use Rattle.pol_addr.specs.Prefix.{covers, read_len, read_prefix}
use Rattle.std.specs.Net.Reader.{read_ipv4, read_ipv6, read_number, read_octet, read_segment, read_segments}
use Rattle.script_examples.proofs.rules.exceptions_lie_inside.Goals as goal

pub returns-clause-outside : goal.returns-clause-outside
unfolding network covers read_len read_prefix read_addr read_v4 read_v6 read_ipv4 read_ipv6 read_octet read_number read_segment read_segments
returns-clause-outside c = refl

pub returns-clause-wider : goal.returns-clause-wider
unfolding network covers read_len read_prefix read_addr read_v4 read_v6 read_ipv4 read_ipv6 read_octet read_number read_segment read_segments
returns-clause-wider c = refl

pub returns-clause-itself : goal.returns-clause-itself
unfolding network covers read_len read_prefix read_addr read_v4 read_v6 read_ipv4 read_ipv6 read_octet read_number read_segment read_segments
returns-clause-itself c = refl

pub returns-clause-inside : goal.returns-clause-inside
unfolding network covers read_len read_prefix read_addr read_v4 read_v6 read_ipv4 read_ipv6 read_octet read_number read_segment read_segments
returns-clause-inside c = refl

pub returns-clause-wider_ipv6 : goal.returns-clause-wider_ipv6
unfolding network covers read_len read_prefix read_addr read_v4 read_v6 read_ipv4 read_ipv6 read_octet read_number read_segment read_segments
returns-clause-wider_ipv6 c = refl

pub returns-clause-of_ipv6 : goal.returns-clause-of_ipv6
unfolding network covers read_len read_prefix read_addr read_v4 read_v6 read_ipv4 read_ipv6 read_octet read_number read_segment read_segments
returns-clause-of_ipv6 c = refl

pub returns-clause-of_ipv4 : goal.returns-clause-of_ipv4
unfolding network covers read_len read_prefix read_addr read_v4 read_v6 read_ipv4 read_ipv6 read_octet read_number read_segment read_segments
returns-clause-of_ipv4 c = refl

pub returns-clause-inside_ipv6 : goal.returns-clause-inside_ipv6
unfolding network covers read_len read_prefix read_addr read_v4 read_v6 read_ipv4 read_ipv6 read_octet read_number read_segment read_segments
returns-clause-inside_ipv6 c = refl

pub returns-clause-host_bits : goal.returns-clause-host_bits
unfolding network covers read_len read_prefix read_addr read_v4 read_v6 read_ipv4 read_ipv6 read_octet read_number read_segment read_segments
returns-clause-host_bits c = refl

pub returns-clause-bad_ipv6 : goal.returns-clause-bad_ipv6
unfolding network covers read_len read_prefix read_addr read_v4 read_v6 read_ipv4 read_ipv6 read_octet read_number read_segment read_segments
returns-clause-bad_ipv6 c = refl

pub returns-clause-bad : goal.returns-clause-bad
unfolding network covers read_len read_prefix read_addr read_v4 read_v6 read_ipv4 read_ipv6 read_octet read_number read_segment read_segments
returns-clause-bad c = refl
