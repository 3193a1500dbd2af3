use Rattle.std.proofs.Common.{◌==◌, ◌&&◌, ◌||◌, cond, ◌++◌, ◌∷◌, [], Some, ◌∙◌}
use Rattle.std.specs.Map.{lookup}
use Rattle.pol_headings.specs.Filed.{is_filed}
use Rattle.pol_headings.specs.Heading.{same_heading}
use Rattle.pol_rule.specs.contracts.policy.PeerPartialEq.TheImpl as peers
use Rattle.pol_selectors.specs.Inside.{live_in, live_of}
use Rattle.pol_selectors.proofs.Kept.{table_pushed}
use Rattle.pol_selectors.proofs.known.add_row.Goals as goal

pub returns-clause-table : goal.returns-clause-table
returns-clause-table c =
    let n = c.args.number in
    table_pushed c.args.known.now.entries c.put_known.new.known.entries c.args.spots.now.items c.put_behind.new.spots.items c.args.filing.now c.file.new.self n c.args.row c.requires.table
    (c.put_behind.ensures.live ∙ (λ k. live_in (c.reserve-2.ensures.items k) ++ live_of n c.args.row ∷ []))
    c.put_behind.ensures.ascend c.requires.referenced c.requires.new
    (λ p. c.put_known.ensures p ∙ (λ k. cond (peers.ghosts.eq (c.in_ok-peer.ensures.equal k) p) (Some n) (lookup (peers.ghosts.eq p) (c.reserve.ensures.entries k))))
    (λ other m. c.in_ok-file.ensures.ok other m ∙ (λ k. is_filed c.args.filing.now other m || (same_heading (c.of.ensures k) other && (n == m))))
