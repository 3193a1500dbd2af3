use Rattle.std.proofs.Common.{◌≡◌, drop}
use Rattle.pol_model.specs.Prefixes.{prefixes_released}
use Rattle.pol_prefixes.specs.Tables.{IsTableOf}
use Rattle.pol_prefixes.proofs.release.release_prefixes.Given as goal

-- what is left makes the same of the rows
abbrev pub invariant-loop-prefix : goal.invariant-loop-prefix
invariant-loop-prefix l = record {
  rows : prefixes_released (drop l.prefix-index l.prefixes) l.identities ≡ prefixes_released l.prefixes l.initial.identities;
  table : IsTableOf l.identities l.table;
}
