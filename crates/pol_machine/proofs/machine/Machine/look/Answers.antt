use Rattle.std.proofs.Common.{◌≡◌, ℕ, ◌<◌, ◌^◌, ap, subst, ◌∙◌, arith}
use Rattle.pol_history.specs.declared.machine.Event.TheVariants as step
use Rattle.pol_history.specs.Machine.{Machine, reply_found, step_of}
use Rattle.pol_history.specs.LookIn.{look_row}
use Rattle.pol_machine.specs.Rows.{live_held}
use Rattle.pol_machine.specs.Stands.{Kept, Stands, Stored, kept_of, options_in}
use Rattle.pol_machine.proofs.Looking.{looked}
use Rattle.pol_machine.proofs.machine.Machine.look.Goals as goal

pub returns-clause-found : goal.returns-clause-found
returns-clause-found g c =
    let i = c.self.inside in
    let query = c.args.query.now in
    let k : Kept = kept_of (record { limit = i.limit; repo = i.repo; rows = i.rows.entries; takes = i.takes.entries }) in
    let port : query.port < 2 ^ 16 = omega (arith, c.port_of-port.ensures, c.port_of-port.type_inv) in
    subst (λ (s : Stored). (m : Machine) → Stands s m → c.look.result ≡ (step_of (options_in s) m (step.Look query)).0) c.self.view_is
    (λ m stands.
    c.look.ensures.found
    ∙ ap (λ (n : ℕ). reply_found (look_row n query (live_held k.rows query.endpoint))) c.revision-commits.ensures.revision
    ∙ ap reply_found (looked k m stands query port))
