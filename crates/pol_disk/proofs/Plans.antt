-- One list of calls after another.
use Rattle.std.proofs.Common.{inl, inr, List, [], ◌∷◌, ◌++◌, subst}
use Rattle.pol_disk.specs.Calls.{Asked, Runs, StopsIn}

module _ {D : Type 0} (does fails : D → Asked → D → Type 0) where
  pub runs_on : (calls more : List Asked) (old between new : D) → Runs does fails old calls between → Runs does fails between more new → Runs does fails old (calls ++ more) new
  runs_on [] more old between new first then = subst (λ (d : D). Runs does fails d more new) first then
  runs_on (call ∷ calls) more old between new first then = (first.0, first.1, runs_on calls more first.0 between new first.2 then)

  pub stops_later : (calls more : List Asked) (old between new : D) → Runs does fails old calls between → StopsIn does fails between more new → StopsIn does fails old (calls ++ more) new
  stops_later [] more old between new first then = subst (λ (d : D). StopsIn does fails d more new) first then
  stops_later (call ∷ calls) more old between new first then = inr (first.0, first.1, stops_later calls more first.0 between new first.2 then)

  pub stops_before : (calls more : List Asked) (old new : D) → StopsIn does fails old calls new → StopsIn does fails old (calls ++ more) new
  stops_before [] more old new stops = absurd stops
  stops_before (call ∷ calls) more old new (inl here) = inl here
  stops_before (call ∷ calls) more old new (inr later) = inr (later.0, later.1, stops_before calls more later.0 new later.2)
