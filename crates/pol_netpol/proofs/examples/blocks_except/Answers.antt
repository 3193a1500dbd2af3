-- They compute.
use Rattle.std.proofs.Common.{refl}
use Rattle.std.specs.Net.Reader.{read_ipv4, read_ipv6, read_number, read_octet, read_segment, read_segments}
use Rattle.pol_addr.specs.Address.{read_addr, read_v4, read_v6}
use Rattle.pol_addr.specs.Cidr.{network}
use Rattle.pol_addr.specs.Prefix.{covers, read_len, read_prefix}
use Rattle.pol_netpol.proofs.examples.blocks_except.Goals as goal

pub returns-clause-within : goal.returns-clause-within
unfolding network covers read_len read_prefix read_addr read_v4 read_v6 read_ipv4 read_ipv6 read_octet read_number read_segment read_segments
returns-clause-within c = refl

pub returns-clause-excepted : goal.returns-clause-excepted
unfolding network covers read_len read_prefix read_addr read_v4 read_v6 read_ipv4 read_ipv6 read_octet read_number read_segment read_segments
returns-clause-excepted c = refl
