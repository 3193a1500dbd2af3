use Rattle.std.proofs.Common.{refl}
use Rattle.std.specs.Net.Reader.{read_ipv4, read_ipv6, read_number, read_octet, read_segment, read_segments}
use Rattle.pol_addr.specs.Prefix.{read_len, read_prefix}
use Rattle.pol_addr.specs.Cidr.{network}
use Rattle.pol_addr.specs.Address.{read_addr, read_v4, read_v6}
use Rattle.pol_addr.proofs.examples.texts_of_prefixes.Goals as goal

pub returns-clause-host_bits : goal.returns-clause-host_bits
unfolding read_prefix read_len network read_addr read_v4 read_v6 read_ipv4 read_ipv6 read_octet read_number read_segment read_segments
returns-clause-host_bits c = refl

pub returns-clause-host_bits_of_65 : goal.returns-clause-host_bits_of_65
unfolding read_prefix read_len network read_addr read_v4 read_v6 read_ipv4 read_ipv6 read_octet read_number read_segment read_segments
returns-clause-host_bits_of_65 c = refl

pub returns-clause-bare : goal.returns-clause-bare
unfolding read_prefix read_len network read_addr read_v4 read_v6 read_ipv4 read_ipv6 read_octet read_number read_segment read_segments
returns-clause-bare c = refl

pub returns-clause-bare_ipv4 : goal.returns-clause-bare_ipv4
unfolding read_prefix read_len network read_addr read_v4 read_v6 read_ipv4 read_ipv6 read_octet read_number read_segment read_segments
returns-clause-bare_ipv4 c = refl

pub returns-clause-world : goal.returns-clause-world
unfolding read_prefix read_len network read_addr read_v4 read_v6 read_ipv4 read_ipv6 read_octet read_number read_segment read_segments
returns-clause-world c = refl

pub returns-clause-world_ipv4 : goal.returns-clause-world_ipv4
unfolding read_prefix read_len network read_addr read_v4 read_v6 read_ipv4 read_ipv6 read_octet read_number read_segment read_segments
returns-clause-world_ipv4 c = refl

pub returns-clause-too_long : goal.returns-clause-too_long
unfolding read_prefix read_len network read_addr read_v4 read_v6 read_ipv4 read_ipv6 read_octet read_number read_segment read_segments
returns-clause-too_long c = refl

pub returns-clause-too_long_ipv4 : goal.returns-clause-too_long_ipv4
unfolding read_prefix read_len network read_addr read_v4 read_v6 read_ipv4 read_ipv6 read_octet read_number read_segment read_segments
returns-clause-too_long_ipv4 c = refl

pub returns-clause-leading_zero : goal.returns-clause-leading_zero
unfolding read_prefix read_len network read_addr read_v4 read_v6 read_ipv4 read_ipv6 read_octet read_number read_segment read_segments
returns-clause-leading_zero c = refl
