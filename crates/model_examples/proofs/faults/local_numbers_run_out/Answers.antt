use Rattle.std.proofs.Common.{refl}
use Rattle.model_examples.proofs.faults.local_numbers_run_out.Goals as goal

pub returns-clause-none_left : goal.returns-clause-none_left
returns-clause-none_left c options rows held none = rw (held, none) refl

pub returns-clause-one_left : goal.returns-clause-one_left
returns-clause-one_left c options rows held none = rw (held, none) refl

pub returns-clause-two_wanted : goal.returns-clause-two_wanted
returns-clause-two_wanted c options rows held none nor = rw (held, none, nor) refl

pub returns-clause-twice : goal.returns-clause-twice
returns-clause-twice c options rows held none = rw (held, none) refl

pub returns-clause-held : goal.returns-clause-held
returns-clause-held c options rows number held some = rw (held, some) refl

pub returns-clause-everywhere : goal.returns-clause-everywhere
returns-clause-everywhere c options rows held = rw (held) refl
