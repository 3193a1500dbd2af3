use Rattle.std.proofs.Common.{◌≡◌, ◌≢◌, Some, find, sym, ◌∙◌, subst}
use Rattle.std.proofs.lemmas.Bool.{both_ways}
use Rattle.pol_data.proofs.Every.{every-contained}
use Rattle.pol_rule.specs.contracts.policy.PeerPartialEq.TheImpl as peers
use Rattle.pol_rule.proofs.Equality.{peer_eq-Decides}
use Rattle.pol_sets.specs.Sets.{is_row_of}
use Rattle.pol_entry_changes.specs.PeerRow.{IsFirstRow}
use Rattle.pol_entry_changes.specs.declared.rows.PlacedRow.{PlacedRow}
use Rattle.pol_entry_changes.proofs.Moving.{taken_more}
use Rattle.pol_entry_changes.proofs.moved_rows.row_among.Goals as goal

pub returns-then-eq-clause-found : goal.returns-then-eq-clause-found
returns-then-eq-clause-found c = λ rows first.
    let one = c.one-item.result in
    let same = sym c.peer.ensures.peer ∙ (peer_eq-Decides c.peer.result.now c.args.peer.now).0 (sym c.eq.ensures ∙ c.if-eq.true) in
    subst (λ p. find (is_row_of p) rows ≡ Some one.row.now) same
    (every-contained (IsFirstRow rows) c.args.few.now one first (c.loop-one.one-index, c.loop-one-test.true, sym c.one-item.is))

pub loop-one-preserved : goal.loop-one-preserved
loop-one-preserved c =
    taken_more (λ (one : PlacedRow). one.row.now.peer ≢ c.args.peer.now) c.args.few.now c.loop-one.one-index c.one-item.result c.loop-one-test.true c.one-item.is c.loop-one.invariant
    (λ same. both_ways (peers.ghosts.eq c.peer.result.now c.args.peer.now) (sym c.eq.ensures ∙ c.if-eq.false) ((peer_eq-Decides c.peer.result.now c.args.peer.now).1 (c.peer.ensures.peer ∙ same)))
