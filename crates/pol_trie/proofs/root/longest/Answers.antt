use Rattle.std.proofs.Common.{◌≡◌, ◌<◌, ◌^◌, Some, sym, arith}
use Rattle.std.specs.Map.{lookup}
use Rattle.pol_trie.specs.Roots.{policy_of}
use Rattle.pol_trie.proofs.RootCalls.{same_root, kinds_in, none_in}
use Rattle.pol_trie.proofs.Reading.{found_longest, missed_longest}
use Rattle.pol_trie.proofs.root.longest.Goals as goal

pub returns-in-Some-clause-kind : goal.returns-in-Some-clause-kind
returns-in-Some-clause-kind g c =
    let es = c.args.roots.now.entries in
    let root = c.args.root in
    let s = c.in-Some.keys.now in
    let there : lookup (same_root root) es ≡ Some s = sym c.in-Some.ensures in
    let below : c.args.port < 2 ^ 16 = omega (arith, c.ranges.port.fits) in
    found_longest (policy_of es) root.dir root.id c.args.proto c.args.port s (kinds_in es c.requires root s there) below c.longest.result c.longest.ensures.kind

pub returns-in-None-clause-kind : goal.returns-in-None-clause-kind
returns-in-None-clause-kind g c =
    let es = c.args.roots.now.entries in
    let root = c.args.root in
    missed_longest (policy_of es) root.dir root.id c.args.proto c.args.port (none_in es c.requires root (sym c.in-None.ensures))
