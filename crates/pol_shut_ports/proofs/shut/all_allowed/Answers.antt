use Rattle.std.proofs.Common.{◌≡◌, sym, subst, rules}
use Rattle.pol_audit.specs.Tables.{IsTable}
use Rattle.pol_shut_ports.specs.Shut.{all_allowed}
use Rattle.pol_shut_ports.proofs.Open.{all_is_table}
use Rattle.pol_shut_ports.proofs.shut.all_allowed.Goals as goal

pub from_vec-requires : goal.from_vec-requires
from_vec-requires c =
    let is : c.push-2.new.self.items ≡ all_allowed = search rules in
    subst IsTable (sym is) all_is_table
