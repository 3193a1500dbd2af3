use Rattle.std.proofs.Common.{ap, codes, None, refl}
use Rattle.pol_model_laws.specs.Examples.{app}
use Rattle.pol_model_laws.proofs.FoundRows.{exhausted-exactly}
use Rattle.pol_model.specs.Fault.{fault_if}
use Rattle.pol_model.specs.declared.answer.Fault.TheVariants as fault
use Rattle.model_examples.proofs.Numbers.{not_exhausted}
use Rattle.model_examples.proofs.faults.cluster_numbers_run_out.Goals as goal

pub returns-clause-identity : goal.returns-clause-identity
returns-clause-identity c options rows ascend none all =
    ap (λ full. fault_if full fault.IdentitiesExhausted None) ((exhausted-exactly (app (codes "b")) rows ascend).1 (none, all))

pub returns-clause-endpoint : goal.returns-clause-endpoint
returns-clause-endpoint c options rows ascend none all =
    ap (λ full. fault_if full fault.IdentitiesExhausted None) ((exhausted-exactly (app (codes "b")) rows ascend).1 (none, all))

pub returns-clause-one_left : goal.returns-clause-one_left
returns-clause-one_left c options rows number ascend from to free =
    ap (λ full. fault_if full fault.IdentitiesExhausted None) (not_exhausted (app (codes "b")) rows number ascend from to free)

pub returns-clause-shared : goal.returns-clause-shared
returns-clause-shared c options rows = refl

pub returns-clause-init : goal.returns-clause-init
returns-clause-init c options rows = refl
