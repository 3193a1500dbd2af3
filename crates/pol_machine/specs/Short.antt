-- A question whose lists are short.
use Rattle.std.specs.Prelude.{⊤}
use Rattle.pol_model.specs.Sizes.{IsShort}
use Rattle.pol_machine.specs.declared.asked.Asked.{Asked}
use Rattle.pol_machine.specs.declared.asked.Asked.TheVariants.{Commit, Sync, Look, Explain}

-- a commit's request has lists of fewer than 2 ^ 32 items
abbrev pub IsShortAsked : Asked → Type 0
IsShortAsked (Commit request) = IsShort request
IsShortAsked Sync = ⊤
IsShortAsked (Look query) = ⊤
IsShortAsked (Explain query) = ⊤
