use Rattle.std.proofs.Common.{◌≡◌, ◌++◌, drop, take}
use Rattle.std.specs.List.{AllByRecursion}
use Rattle.pol_addr.specs.Cidr.{IsPrefix}
use Rattle.pol_model.specs.Prefixes.{prefixes_held}
use Rattle.pol_prefixes.specs.Coming.{all_coming}
use Rattle.pol_prefixes.specs.Tables.{IsTableOf}
use Rattle.pol_prefixes.proofs.hold.hold_each.Given as goal

-- the first prefixes are held; their numbers and those that the others will bring are all
abbrev pub invariant-loop-i : goal.invariant-loop-i
invariant-loop-i l = record {
  held : l.identities ≡ prefixes_held (take l.i l.prefixes) l.initial.identities;
  come : l.come.items ++ all_coming (drop l.i l.prefixes) l.identities ≡ l.initial.come.items ++ all_coming l.prefixes l.initial.identities;
  table : IsTableOf l.identities l.table;
  within : AllByRecursion IsPrefix (take l.i l.prefixes);
}
