use Rattle.std.proofs.Common.{take}
use Rattle.pol_model.specs.declared.options.Options.{Options}
use Rattle.pol_model.specs.After.{state_of}
use Rattle.pol_model_laws.specs.WithoutFaults.{WithoutFaults}
use Rattle.pol_connection_lists.specs.Names.{AreLabelsIn}
use Rattle.pol_connection_lists.proofs.named.labels_after.Given as goal

-- the labels of the requests so far
abbrev pub invariant-loop-request : goal.invariant-loop-request
invariant-loop-request l = (options : Options) → WithoutFaults options (take l.request-index l.journal) → AreLabelsIn (state_of options (take l.request-index l.journal)) l.held
