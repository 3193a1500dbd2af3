use Rattle.pol_connection_maps.proofs.Numbered.{none_stays, stay_more}
use Rattle.pol_connection_maps.proofs.stays.numbers_that_stay.Goals as goal

pub loop-own-init : goal.loop-own-init
loop-own-init c = λ old new _ _. none_stays old new c.new-still.result c.new-still.ensures.empty

pub loop-own-preserved : goal.loop-own-preserved
loop-own-preserved c = λ old new was now.
    stay_more old new _ _ c.loop-own.still c.insert.new.self c.in_ok-insert.ensures.updates.0 (λ same. c.stays.ensures same old new was now) (c.loop-own.invariant old new was now)
