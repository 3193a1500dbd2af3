use Rattle.std.proofs.Common.{◌≡◌, ℕ, ◌≤◌, Bool, Some, ap, ◌∙◌}
use Rattle.pol_model.specs.declared.options.Mode.{Mode}
use Rattle.pol_model.specs.declared.options.Options.{Options}
use Rattle.pol_board_view.specs.Room.{IsLimited}
use Rattle.pol_board.proofs.Counting.{none_counted, one_pass_more}
use Rattle.pol_board.proofs.board.Board.with_readers.Goals as goal

limited : (options : Options) (mode : Mode) (localhost : Bool) (most : ℕ) → options ≡ record { mode = mode; localhost = localhost; map_max = Some most }
    → most ≤ 65536 → IsLimited options
limited options mode localhost most are low = record { limit = most; is = ap (λ (o : Options). o.map_max) are; low = low }

pub new-requires-clause-limit : goal.new-requires-clause-limit
new-requires-clause-limit g c =
    limited g.N.NodeName.options c.args.mode c.args.localhost c.args.map_max c.requires.options c.requires.limit

pub new-requires-2-clause-limit : goal.new-requires-2-clause-limit
new-requires-2-clause-limit g c =
    limited g.N.NodeName.options c.args.mode c.args.localhost c.args.map_max c.requires.options c.requires.limit

pub loop-number-preserved : goal.loop-number-preserved
loop-number-preserved g c =
    c.in-Ok-push.ensures.items ∙ one_pass_more c.loop-number.number c.loop-number.passes.items c.new-in-loop-number.result c.loop-number.invariant c.new-in-loop-number.ensures

pub open-requires-clause-counted : goal.open-requires-clause-counted
open-requires-clause-counted g c = none_counted c.args.places c.in-Ok.counts.items c.named-book.result.1 c.in-Ok.ensures c.named-book.ensures
