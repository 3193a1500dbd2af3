use Rattle.std.proofs.Common.{refl}
use Rattle.std.specs.Net.Reader.{read_ipv4, read_ipv6, read_number, read_octet, read_segment, read_segments}
use Rattle.pol_addr.specs.Address.{read_addr, read_v4, read_v6}
use Rattle.pol_addr.proofs.examples.texts_of_no_address.Goals as goal

pub returns-clause-for_none : goal.returns-clause-for_none
unfolding read_addr read_v4 read_v6 read_ipv4 read_ipv6 read_octet read_number read_segment read_segments
returns-clause-for_none c = refl

pub returns-clause-twice : goal.returns-clause-twice
unfolding read_addr read_v4 read_v6 read_ipv4 read_ipv6 read_octet read_number read_segment read_segments
returns-clause-twice c = refl

pub returns-clause-nine : goal.returns-clause-nine
unfolding read_addr read_v4 read_v6 read_ipv4 read_ipv6 read_octet read_number read_segment read_segments
returns-clause-nine c = refl

pub returns-clause-seven : goal.returns-clause-seven
unfolding read_addr read_v4 read_v6 read_ipv4 read_ipv6 read_octet read_number read_segment read_segments
returns-clause-seven c = refl

pub returns-clause-five_digits : goal.returns-clause-five_digits
unfolding read_addr read_v4 read_v6 read_ipv4 read_ipv6 read_octet read_number read_segment read_segments
returns-clause-five_digits c = refl

pub returns-clause-three_colons : goal.returns-clause-three_colons
unfolding read_addr read_v4 read_v6 read_ipv4 read_ipv6 read_octet read_number read_segment read_segments
returns-clause-three_colons c = refl

pub returns-clause-dotted : goal.returns-clause-dotted
unfolding read_addr read_v4 read_v6 read_ipv4 read_ipv6 read_octet read_number read_segment read_segments
returns-clause-dotted c = refl

pub returns-clause-zone : goal.returns-clause-zone
unfolding read_addr read_v4 read_v6 read_ipv4 read_ipv6 read_octet read_number read_segment read_segments
returns-clause-zone c = refl

pub returns-clause-leading_zero : goal.returns-clause-leading_zero
unfolding read_addr read_v4 read_v6 read_ipv4 read_ipv6 read_octet read_number read_segment read_segments
returns-clause-leading_zero c = refl

pub returns-clause-nothing : goal.returns-clause-nothing
unfolding read_addr read_v4 read_v6 read_ipv4 read_ipv6 read_octet read_number read_segment read_segments
returns-clause-nothing c = refl
