use Rattle.std.proofs.Common.{◌≡◌, cond, List, Some, None, slice_get, sym, subst, ◌∙◌}
use Rattle.std.specs.Map.{lookup}
use Rattle.pol_headings.specs.Heading.{heading_of}
use Rattle.pol_model.specs.Ascending.{Ascends}
use Rattle.pol_rule.specs.contracts.policy.PeerPartialEq.TheImpl as peers
use Rattle.pol_rule.specs.declared.policy.Peer.{Peer}
use Rattle.pol_selectors.specs.declared.spots.Row.{Row}
use Rattle.pol_selectors.specs.declared.spots.Spot.{Spot}
use Rattle.pol_selectors.specs.Filed.{IsUnfiled}
use Rattle.pol_selectors.proofs.Kept.{table_gone}
use Rattle.pol_selectors.proofs.Placed.{own_row, put_gone, put_numbers}
use Rattle.pol_selectors.proofs.known.take_out.Goals as goal

pub sweep-requires : goal.sweep-requires
sweep-requires c = record { ascend = subst Ascends (sym (put_numbers _ _ _ _ c.put_none.ensures)) c.requires.table.ascend }

pub returns-clause-table : goal.returns-clause-table
returns-clause-table c =
    let n = c.args.number in
    let i = c.args.place in
    let spots = c.args.spots.now.items in
    let at = c.requires.place.there in
    let own = own_row n i spots at c.row_at-row.result.now
    (subst (λ (read : List Spot). (spot : Spot) → slice_get read i ≡ Some spot → spot.row ≡ Some c.row_at-row.result.now) c.deref.ensures.value c.row_at-row.ensures) in
    table_gone n i spots c.put_none.new.spots.items at c.requires.table.live c.put_none.ensures
    c.args.known.now.entries c.forget.new.known.entries c.args.filing.now c.forget.new.filing c.sweep.new.spots.items c.requires.table c.requires.place.last
    (subst (λ (row : Row). (p : Peer) → lookup (peers.ghosts.eq p) c.forget.new.known.entries ≡ cond (peers.ghosts.eq row.peer p) None (lookup (peers.ghosts.eq p) c.args.known.now.entries)) (sym own) c.forget.ensures.known)
    (subst (λ (row : Row). IsUnfiled (heading_of row.peer) n c.args.filing.now c.forget.new.filing) (sym own) c.forget.ensures.unfiled)
    c.sweep.ensures.live c.sweep.ensures.ascend

pub returns-clause-live : goal.returns-clause-live
returns-clause-live c =
    c.sweep.ensures.live ∙ put_gone c.args.number c.args.place c.args.spots.now.items c.put_none.new.spots.items c.requires.place.there c.requires.table.live.numbers c.requires.table.live.referenced c.requires.place.last c.put_none.ensures
