use Rattle.std.proofs.Common.{◌≡◌, ◌<◌, ◌≤◌, List, length, max, ap, sym, subst, ◌∙◌, arith}
use Rattle.std.proofs.lemmas.List.{length-map}
use Rattle.std.specs.List.{AllByRecursion}
use Rattle.pol_set_changes.specs.Log.{Log, newest}
use Rattle.pol_selcache.specs.Cache.{Cache, IsSound}
use Rattle.pol_selcache.specs.Live.{Live, AreExact, rows_without}
use Rattle.pol_selcache.specs.Moving.{Moving}
use Rattle.pol_selcache.specs.Plan.{Plan, Planned, changed, changes_for}
use Rattle.pol_selcache.specs.Planned.{planned_in, planned_of}
use Rattle.pol_selcache.proofs.RowSets.{rows_without_ascend}
use Rattle.pol_selcache.proofs.Planning.{Given, changes_same, exact_afterwards, moving_each}
use Rattle.pol_selcache.proofs.cache.SelectorCache.plan.Goals as goal

pub plan_all-requires : goal.plan_all-requires
plan_all-requires g c =
    let rows = c.args.identities.now in
    let given : Given c.args.revision c.args.come.now c.args.gone.now c.in_ok-come.come c.in_ok-gone.gone rows c.args.self.now = record {
      may = c.requires.may;
      keeps = c.fits_together.ensures.sound;
      sound = subst IsSound c.self.view_is c.self.invariant;
      come_members = c.in_ok-come.ensures.members;
      come_ascend = c.in_ok-come.ensures.set.ascends;
      gone_members = c.in_ok-gone.ensures.members;
      gone_ascend = c.in_ok-gone.ensures.set.ascends;
    } in
    record {
      moving = subst (λ (cache : Cache). AllByRecursion (λ (s : Live). Moving rows c.in_ok-come.come c.in_ok-gone.gone s.peer s.set) cache.live) (sym c.self.view_is)
          (moving_each _ _ _ _ _ _ _ given);
    }

pub returns-clause-plan : goal.returns-clause-plan
returns-clause-plan g c =
    let rows = c.args.identities.now in
    let given : Given c.args.revision c.args.come.now c.args.gone.now c.in_ok-come.come c.in_ok-gone.gone rows c.args.self.now = record {
      may = c.requires.may;
      keeps = c.fits_together.ensures.sound;
      sound = subst IsSound c.self.view_is c.self.invariant;
      come_members = c.in_ok-come.ensures.members;
      come_ascend = c.in_ok-come.ensures.set.ascends;
      gone_members = c.in_ok-gone.ensures.members;
      gone_ascend = c.in_ok-gone.ensures.set.ascends;
    } in
    let give : List Planned → Plan = λ changes. record { revision = c.args.revision; changes = changes } in
    ap give (c.in_ok-changes.ensures.changes
    ∙ ap (λ (cache : Cache). changes_for (rows_without c.in_ok-gone.gone rows) cache.live) c.self.view_is
    ∙ changes_same _ _ _ _ _ _ _ given)

pub returns-clause-exact : goal.returns-clause-exact
returns-clause-exact g c =
    let rows = c.args.identities.now in
    let given : Given c.args.revision c.args.come.now c.args.gone.now c.in_ok-come.come c.in_ok-gone.gone rows c.args.self.now = record {
      may = c.requires.may;
      keeps = c.fits_together.ensures.sound;
      sound = subst IsSound c.self.view_is c.self.invariant;
      come_members = c.in_ok-come.ensures.members;
      come_ascend = c.in_ok-come.ensures.set.ascends;
      gone_members = c.in_ok-gone.ensures.members;
      gone_ascend = c.in_ok-gone.ensures.set.ascends;
    } in
    let same = c.in_ok-changes.ensures.changes
    ∙ ap (λ (cache : Cache). changes_for (rows_without c.in_ok-gone.gone rows) cache.live) c.self.view_is
    ∙ changes_same _ _ _ _ _ _ _ given in
    subst (λ (changes : List Planned). AreExact (rows_without c.args.gone.now rows) (changed changes c.args.self.now.live)) (sym same) (exact_afterwards _ _ _ _ _ _ _ given)

pub returns-clause-fits : goal.returns-clause-fits
returns-clause-fits g c =
    let rows = c.args.identities.now in
    let room_is = c.in_ok-reserve.ensures.ok in
    let count : length (planned_in c.in_ok-changes.changes.items) ≡ c.len.result =
    length-map c.in_ok-changes.changes.items planned_of ∙ sym (c.len.ensures ∙ c.in_ok-changes.changes.ok.0) in
    record {
      newer = subst (λ (log : Log). newest log < c.args.revision) (sym room_is) (subst (λ (cache : Cache). newest cache.log < c.args.revision) (sym c.self.view_is) c.requires.may.newer);
      room = subst (λ (log : Log). length (planned_in c.in_ok-changes.changes.items) ≤ log.spare) (sym room_is) (omega arith);
      rows = rows_without c.in_ok-gone.gone rows;
      ascend = rows_without_ascend c.in_ok-gone.gone rows c.fits_together.ensures.sound.numbers;
      changes = c.in_ok-changes.ensures.changes;
    }

pub returns-clause-reserved : goal.returns-clause-reserved
returns-clause-reserved g c =
    let count : length (planned_in c.in_ok-changes.changes.items) ≡ c.len.result =
    length-map c.in_ok-changes.changes.items planned_of ∙ sym (c.len.ensures ∙ c.in_ok-changes.changes.ok.0) in
    ap (λ (log : Log). log.spare) c.in_ok-reserve.ensures.ok
    ∙ (λ i. max (c.self.view_is i).log.spare (sym count i))
