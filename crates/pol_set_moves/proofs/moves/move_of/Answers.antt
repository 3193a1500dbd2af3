use Rattle.std.proofs.Common.{Some, sym, ◌∙◌, arith}
use Rattle.pol_set_changes.proofs.Chained.{stays_unchanged}
use Rattle.pol_set_moves.proofs.moves.move_of.Goals as goal

pub returns-then-unchanged_since-revision : goal.returns-then-unchanged_since-revision
returns-then-unchanged_since-revision c =
    (λ i. Some (record { selector = c.args.selector; gained = c.new.ensures i; lost = c.new-then-unchanged_since-revision.ensures i }))
    ∙ sym (stays_unchanged c.args.cache.now.log c.args.selector c.args.revision c.unchanged_since.ensures.sound.log (omega (arith, c.unchanged_since.ensures.unchanged, c.if-unchanged_since-revision.true)))
