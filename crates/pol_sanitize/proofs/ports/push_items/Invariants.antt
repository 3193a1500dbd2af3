use Rattle.std.proofs.Common.{◌≡◌, ◌||◌, ◌++◌, drop}
use Rattle.std.specs.List.{list_any}
use Rattle.pol_sanitize.specs.Ports.{all_items, is_bad_port, is_bad_protocol, ports_of}
use Rattle.pol_sanitize.proofs.ports.push_items.Given as goal

abbrev pub invariant-loop-item : goal.invariant-loop-item
invariant-loop-item l = record {
  specs : l.specs.items ++ ports_of (drop l.item-index l.items) ≡ l.initial.specs.items ++ ports_of l.items;
  bad : list_any is_bad_port (all_items (drop l.item-index l.items)) ≡ list_any is_bad_port (all_items l.items);
  unknown : (l.unknown || list_any is_bad_protocol (all_items (drop l.item-index l.items))) ≡ list_any is_bad_protocol (all_items l.items);
}
