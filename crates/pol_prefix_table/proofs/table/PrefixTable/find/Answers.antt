use Rattle.std.proofs.Common.{subst, IfSome, IsNone, ◌↔◌}
use Rattle.pol_addr.specs.declared.address.Addr.TheVariants.{V4, V6}
use Rattle.pol_prefix_table.specs.Table.{IsLongestMatch, NoneMatches, joined}
use Rattle.pol_prefix_table.proofs.Joined.{found_in_all, get4, get6, none_in_all}
use Rattle.pol_prefix_table.proofs.Scan.{is_look_up}
use Rattle.pol_prefix_table.proofs.table.PrefixTable.find.Goals as goal

pub returns-in-V4-clause-found : goal.returns-in-V4-clause-found
returns-in-V4-clause-found c =
    let v4 = c.self.inside.v4 in
    let v6 = c.self.inside.v6 in
    let addr = V4 c.in-V4.bits in
    rw c.in-V4.is
    (subst (λ m. IfSome c.find.result (IsLongestMatch m addr)) c.self.view_is
    (found_in_all v4 (joined v4 v6) addr (λ p own. get4 v4 v6 c.self.invariant.0 c.self.invariant.1 p own) c.find.result c.find.ensures.found))

pub returns-in-V4-clause-none : goal.returns-in-V4-clause-none
returns-in-V4-clause-none c =
    let v4 = c.self.inside.v4 in
    let v6 = c.self.inside.v6 in
    let addr = V4 c.in-V4.bits in
    rw c.in-V4.is
    (subst (λ m. IsNone c.find.result ↔ NoneMatches m addr) c.self.view_is
    (none_in_all v4 (joined v4 v6) addr (λ p own. get4 v4 v6 c.self.invariant.0 c.self.invariant.1 p own) c.find.result c.find.ensures.none))

pub returns-in-V4-clause-scan : goal.returns-in-V4-clause-scan
returns-in-V4-clause-scan c = is_look_up c.args.addr c.args.self.now c.find.result (returns-in-V4-clause-found c) (returns-in-V4-clause-none c)

pub returns-in-V6-clause-found : goal.returns-in-V6-clause-found
returns-in-V6-clause-found c =
    let v4 = c.self.inside.v4 in
    let v6 = c.self.inside.v6 in
    let addr = V6 c.in-V6.bits in
    rw c.in-V6.is
    (subst (λ m. IfSome c.find-in-V6.result (IsLongestMatch m addr)) c.self.view_is
    (found_in_all v6 (joined v4 v6) addr (λ p own. get6 v4 v6 c.self.invariant.0 c.self.invariant.1 p own) c.find-in-V6.result c.find-in-V6.ensures.found))

pub returns-in-V6-clause-none : goal.returns-in-V6-clause-none
returns-in-V6-clause-none c =
    let v4 = c.self.inside.v4 in
    let v6 = c.self.inside.v6 in
    let addr = V6 c.in-V6.bits in
    rw c.in-V6.is
    (subst (λ m. IsNone c.find-in-V6.result ↔ NoneMatches m addr) c.self.view_is
    (none_in_all v6 (joined v4 v6) addr (λ p own. get6 v4 v6 c.self.invariant.0 c.self.invariant.1 p own) c.find-in-V6.result c.find-in-V6.ensures.none))

pub returns-in-V6-clause-scan : goal.returns-in-V6-clause-scan
returns-in-V6-clause-scan c = is_look_up c.args.addr c.args.self.now c.find-in-V6.result (returns-in-V6-clause-found c) (returns-in-V6-clause-none c)
