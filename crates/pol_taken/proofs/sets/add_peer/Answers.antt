use Rattle.std.proofs.Common.{sym, ◌∙◌, ap, false, ◌≡◌, subst}
use Rattle.pol_taken.specs.PeerRows.{AreRowsFor, has_selector}
use Rattle.pol_taken.proofs.Adding.{on_ok, row_comes, row_stays}
use Rattle.pol_taken.proofs.sets.add_peer.Goals as goal

pub returns-then-has : goal.returns-then-has
returns-then-has c = record {
  added = λ listed was.
      row_stays c.args.cache.now.live c.selector_of.ensures.sound.live listed c.args.peer.now c.in-Some.selector c.args.rows.now
      (sym c.in-Some.ensures.number) (sym c.if-has.ensures.has) was;
}

pub returns : goal.returns
returns c =
    let row = c.in_ok-row_of.field-0 in
    let new : has_selector row.selector c.args.rows.now ≡ false = ap (λ n. has_selector n c.args.rows.now) c.in_ok-row_of.ensures.selector ∙ sym c.if-has.ensures.has in
    record {
      added = on_ok c.push.result (λ is listed was.
          subst (AreRowsFor c.args.cache.now.live _) (sym is)
          (row_comes c.args.cache.now.live c.selector_of.ensures.sound.live listed c.args.peer.now row c.args.rows.now
          c.in_ok-row_of.ensures.peer c.in_ok-row_of.ensures.live new was)) c.push.ensures.pushed;
    }
