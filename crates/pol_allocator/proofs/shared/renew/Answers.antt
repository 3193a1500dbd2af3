use Rattle.pol_prefixes.proofs.Results.{if_ok}
use Rattle.std.proofs.Common.{subst, sym}
use Rattle.pol_allocator.specs.Sharing.{IsRenewedAt}
use Rattle.pol_allocator.proofs.Sharing.{renewed_with, renewed_without}
use Rattle.pol_allocator.proofs.shared.renew.Goals as goal

pub returns-in-Some : goal.returns-in-Some
returns-in-Some c =
    let rows = c.args.identities.now in
    record {
      ok = if_ok c.insert.result
          (λ x is. subst (IsRenewedAt c.args.prefix rows c.args.table.now) (sym is) (renewed_with c.args.prefix rows c.args.table.now c.in-Some.number c.in-Some.ensures.number))
          c.insert.ensures.ok;
    }

pub returns-in-None : goal.returns-in-None
returns-in-None c =
    let rows = c.args.identities.now in
    record {
      ok = subst (IsRenewedAt c.args.prefix rows c.args.table.now) (sym c.remove.ensures.rest) (renewed_without c.args.prefix rows c.args.table.now c.in-None.ensures.number);
    }
