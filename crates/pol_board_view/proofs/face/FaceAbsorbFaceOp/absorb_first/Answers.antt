use Rattle.std.proofs.Common.{◌≡◌, ℕ, ◌+◌, ◌∷◌, [], ◌++◌, List, length, arith, ap, sym, ◌∙◌, subst}
use Rattle.std.proofs.lemmas.Bool.Decides.{nat_tests}
use mathlib.Core.List.{IsPrefix}
use Rattle.pol_history.specs.declared.event.HistoryEvent.{HistoryEvent}
use Rattle.pol_history.specs.Commits.{revision_of}
use Rattle.pol_history.specs.Content.{content_of}
use Rattle.pol_history.specs.Legal.{IsLegal}
use Rattle.pol_history.proofs.Own.{revision-few}
use Rattle.pol_board_view.specs.Rows.{Holds}
use Rattle.pol_board_view.proofs.Fitting.{have_room}
use Rattle.pol_board_view.proofs.Telling.{counted-after, one_more}
use Rattle.pol_board_view.proofs.face.FaceAbsorbFaceOp.absorb_first.Goals as goal

pub take_in-requires : goal.take_in-requires
take_in-requires g c =
    let n : length c.operation.inside.seen ≡ length c.self.inside.seen + 1 = grind (arith, nat_tests, c.len.ensures.length, c.len-else-len-eq0.ensures.length, c.len-else-len-gt-EVENTS.ensures.length, c.len-else-len-gt-EVENTS-2.ensures.length, c.if-len-eq0.false, c.if-len.false, c.if-len-gt-EVENTS.false) in
    let few = revision-few c.self.inside.seen in
    let options = g.N.NodeName.options in
    let h = c.self.inside.seen in
    let p : IsPrefix h c.operation.inside.seen = c.if-not-begins.ensures in
    let last = one_more h c.operation.inside.seen p n in
    let legal = subst (IsLegal options) last.1 c.len-else-len-eq0.ensures.legal in
    record {
      count = omega (arith, few, n, c.self.invariant.0, c.len-else-len-eq0.ensures.length, c.if-len-gt-EVENTS.false);
      room = have_room options h last.0 c.self.invariant.2 legal c.self.inside.rows c.self.invariant.1 c.operation.inside.change (c.operation.invariant.tells h last.0 last.1);
    }

pub overflow_add-self : goal.overflow_add-self
overflow_add-self g c =
    let n : length c.operation.inside.seen ≡ length c.self.inside.seen + 1 = grind (arith, nat_tests, c.len.ensures.length, c.len-else-len-eq0.ensures.length, c.len-else-len-gt-EVENTS.ensures.length, c.len-else-len-gt-EVENTS-2.ensures.length, c.if-len-eq0.false, c.if-len.false, c.if-len-gt-EVENTS.false) in
    let few = revision-few c.self.inside.seen in
    omega (arith, few, n, c.self.invariant.0, c.len-else-len-eq0.ensures.length, c.if-len-gt-EVENTS.false, c.commits_of.ensures.few)

pub invariant_of-self-2 : goal.invariant_of-self-2
invariant_of-self-2 g c =
    let n : length c.operation.inside.seen ≡ length c.self.inside.seen + 1 = grind (arith, nat_tests, c.len.ensures.length, c.len-else-len-eq0.ensures.length, c.len-else-len-gt-EVENTS.ensures.length, c.len-else-len-gt-EVENTS-2.ensures.length, c.if-len-eq0.false, c.if-len.false, c.if-len-gt-EVENTS.false) in
    let options = g.N.NodeName.options in
    let h = c.self.inside.seen in
    let p : IsPrefix h c.operation.inside.seen = c.if-not-begins.ensures in
    let last = one_more h c.operation.inside.seen p n in
    let tells = c.operation.invariant.tells h last.0 last.1 in
    let new : c.again.result ≡ h ++ last.0 ∷ [] = c.again.ensures.same ∙ last.1 in (
      ap (λ (k : ℕ). c.self.inside.commits + k) c.commits_of.ensures.count
          ∙ counted-after options h c.self.inside.commits c.operation.inside.change last.0 c.self.invariant.0 tells
          ∙ ap revision_of (sym new),
      subst (λ (l : List HistoryEvent). Holds c.take_in.new.rows (content_of options l).live) (sym new)
          (c.in-Ok.ensures.ok options h last.0 c.self.invariant.0 tells c.self.invariant.1),
      c.self.invariant.2,
    )
