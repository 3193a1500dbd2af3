use Rattle.std.proofs.Common.{◌≤◌, ◌-◌, ◌∙◌, ap, sym, subst, arith}
use Rattle.pol_arena.specs.Twin.{after_push}
use Rattle.pol_set_changes.specs.Log.{Log, recorded, newest}
use Rattle.pol_set_changes.specs.Nodes.{log_of}
use Rattle.pol_set_changes.proofs.Recording.{log_after, kept_after}
use Rattle.pol_set_changes.proofs.log.ChangeLog.record.Goals as goal

pub invariant_of-self : goal.invariant_of-self
invariant_of-self c =
    let P : Log → Type 0 = λ l. newest l ≤ c.args.change.revision in
    let spare = ap (λ l. l.spare) c.self.view_is in
    rw (c.push.ensures.twin, c.make_place-self-inside.ensures.nodes, c.make_place-self-inside.ensures.horizon, c.chain_of.ensures, c.min-self-inside.ensures)
    (kept_after c.self.inside.nodes c.self.inside.count c.self.inside.horizon c.self.inside.latest c.self.inside.spare c.self.invariant c.args.change c.push.result (subst P (sym c.self.view_is) c.requires.in_order) (omega arith))

pub returns-clause-log : goal.returns-clause-log
returns-clause-log c =
    let made = c.make_place-self-inside.ensures in
    let twin = c.push.ensures.twin ∙ (λ i. after_push (made.nodes i) (c.chain_of.ensures i) c.args.change c.push.result) in
    (λ i. log_of (twin i) (made.horizon i) (c.self.inside.spare - 1))
    ∙ log_after c.self.inside.nodes c.self.inside.count c.self.inside.horizon c.self.inside.latest c.self.inside.spare c.self.invariant c.args.change c.push.result
    ∙ ap (λ l. recorded l c.args.change) c.self.view_is

pub returns-clause-sound : goal.returns-clause-sound
returns-clause-sound c = (invariant_of-self c).sound
