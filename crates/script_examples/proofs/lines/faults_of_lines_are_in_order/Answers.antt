use Rattle.std.proofs.Common.{refl}
use Rattle.pol_addr.specs.Address.{read_addr, read_v4, read_v6}
use Rattle.std.specs.Net.Reader.{read_ipv4, read_ipv6, read_number, read_octet, read_segment, read_segments}
use Rattle.script_examples.proofs.lines.faults_of_lines_are_in_order.Goals as goal

pub returns-clause-no_operation : goal.returns-clause-no_operation
unfolding read_addr read_v4 read_v6 read_ipv4 read_ipv6 read_octet read_number read_segment read_segments
returns-clause-no_operation c = refl

pub returns-clause-another_operation : goal.returns-clause-another_operation
unfolding read_addr read_v4 read_v6 read_ipv4 read_ipv6 read_octet read_number read_segment read_segments
returns-clause-another_operation c = refl

pub returns-clause-address_before_session : goal.returns-clause-address_before_session
unfolding read_addr read_v4 read_v6 read_ipv4 read_ipv6 read_octet read_number read_segment read_segments
returns-clause-address_before_session c = refl

pub returns-clause-session_before_names : goal.returns-clause-session_before_names
unfolding read_addr read_v4 read_v6 read_ipv4 read_ipv6 read_octet read_number read_segment read_segments
returns-clause-session_before_names c = refl

pub returns-clause-names_before_labels : goal.returns-clause-names_before_labels
unfolding read_addr read_v4 read_v6 read_ipv4 read_ipv6 read_octet read_number read_segment read_segments
returns-clause-names_before_labels c = refl

pub returns-clause-labels_before_address : goal.returns-clause-labels_before_address
unfolding read_addr read_v4 read_v6 read_ipv4 read_ipv6 read_octet read_number read_segment read_segments
returns-clause-labels_before_address c = refl

pub returns-clause-bad_label_before_twice : goal.returns-clause-bad_label_before_twice
unfolding read_addr read_v4 read_v6 read_ipv4 read_ipv6 read_octet read_number read_segment read_segments
returns-clause-bad_label_before_twice c = refl

pub returns-clause-twice : goal.returns-clause-twice
unfolding read_addr read_v4 read_v6 read_ipv4 read_ipv6 read_octet read_number read_segment read_segments
returns-clause-twice c = refl

pub returns-clause-bad_address : goal.returns-clause-bad_address
unfolding read_addr read_v4 read_v6 read_ipv4 read_ipv6 read_octet read_number read_segment read_segments
returns-clause-bad_address c = refl

pub returns-clause-null_is_absent : goal.returns-clause-null_is_absent
unfolding read_addr read_v4 read_v6 read_ipv4 read_ipv6 read_octet read_number read_segment read_segments
returns-clause-null_is_absent c = refl

pub returns-clause-phase_has_no_session : goal.returns-clause-phase_has_no_session
unfolding read_addr read_v4 read_v6 read_ipv4 read_ipv6 read_octet read_number read_segment read_segments
returns-clause-phase_has_no_session c = refl
