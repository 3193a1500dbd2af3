use Rattle.std.proofs.Common.{◌-◌, ℕ, List, [], ◌∷◌, length, sym, ◌∙◌, ap, subst, arith, rules}
use Rattle.pol_disk.specs.Images.{Torn, overwritten}
use Rattle.pol_disk.specs.Calls.{StopsIn, Writes, Syncs}
use Rattle.pol_disk.proofs.Moments.{joined, widened}
use Rattle.pol_disk.proofs.Plans.{stops_later}
use Rattle.pol_record_log.specs.Steps.{IsAppended, before_gate, calls_of_append}
use Rattle.pol_record_log.proofs.Gates.{gate_size, length-staged, torn_behind, torn_gate, written_behind, written_gate}
use Rattle.pol_record_log.proofs.steps.append.Goals as goal

pub write_synced-requires-2-clause-place : goal.write_synced-requires-2-clause-place
write_synced-requires-2-clause-place g c =
    let d = g.D.Disk in
    let seen = d.seen c.args.disk.now in
    let end = c.len-end.result in
    let front = before_gate seen in
    let behind = c.args.behind.now in
    let size = gate_size seen end c.requires.closed (search rules) in
    let staged = c.in_ok-write_synced.ensures.ok.read ∙ ap (λ (b : List ℕ). overwritten b end behind) c.requires.closed ∙ written_behind front behind end size.0 size.1 in
    omega (arith, ap length staged, length-staged front behind end size.0 size.1)

pub write_synced-requires-2-clause-settled : goal.write_synced-requires-2-clause-settled
write_synced-requires-2-clause-settled g c = λ f now. c.in_ok-write_synced.ensures.ok.only f now ∙ sym c.in_ok-write_synced.ensures.ok.read

pub returns-in_err-write_synced-clause-any_moment : goal.returns-in_err-write_synced-clause-any_moment
returns-in_err-write_synced-clause-any_moment g c =
    let d = g.D.Disk in
    let seen = d.seen c.args.disk.now in
    let end = c.len-end.result in
    let front = before_gate seen in
    let behind = c.args.behind.now in
    let size = gate_size seen end c.requires.closed (search rules) in
    let first = widened d.moment d.left_since c.args.disk.now c.write_synced.new.disk _ (IsAppended front behind) c.write_synced.ensures.any_moment
    (λ f torn. torn_behind front behind end size.0 size.1 _ f (subst (λ (b : List ℕ). Torn end (length behind) b f) c.requires.closed torn)) in
    first

pub returns-in_err-write_synced-2-clause-any_moment : goal.returns-in_err-write_synced-2-clause-any_moment
returns-in_err-write_synced-2-clause-any_moment g c =
    let d = g.D.Disk in
    let seen = d.seen c.args.disk.now in
    let end = c.len-end.result in
    let front = before_gate seen in
    let behind = c.args.behind.now in
    let size = gate_size seen end c.requires.closed (search rules) in
    let staged = c.in_ok-write_synced.ensures.ok.read ∙ ap (λ (b : List ℕ). overwritten b end behind) c.requires.closed ∙ written_behind front behind end size.0 size.1 in
    let first = widened d.moment d.left_since c.args.disk.now c.write_synced.new.disk _ (IsAppended front behind) c.write_synced.ensures.any_moment
    (λ f torn. torn_behind front behind end size.0 size.1 _ f (subst (λ (b : List ℕ). Torn end (length behind) b f) c.requires.closed torn)) in
    let second = widened d.moment d.left_since c.write_synced.new.disk c.write_synced-2.new.disk _ (IsAppended front behind) c.write_synced-2.ensures.any_moment
    (λ f torn. torn_gate front behind end size.0 size.1 f (subst (λ (b : List ℕ). Torn (end - 1) 1 b f) staged torn)) in
    joined d.moment d.left_since _ _ _ _ first second

pub returns-clause-any_moment : goal.returns-clause-any_moment
returns-clause-any_moment g c =
    let d = g.D.Disk in
    let seen = d.seen c.args.disk.now in
    let end = c.len-end.result in
    let front = before_gate seen in
    let behind = c.args.behind.now in
    let size = gate_size seen end c.requires.closed (search rules) in
    let staged = c.in_ok-write_synced.ensures.ok.read ∙ ap (λ (b : List ℕ). overwritten b end behind) c.requires.closed ∙ written_behind front behind end size.0 size.1 in
    let first = widened d.moment d.left_since c.args.disk.now c.write_synced.new.disk _ (IsAppended front behind) c.write_synced.ensures.any_moment
    (λ f torn. torn_behind front behind end size.0 size.1 _ f (subst (λ (b : List ℕ). Torn end (length behind) b f) c.requires.closed torn)) in
    let second = widened d.moment d.left_since c.write_synced.new.disk c.write_synced-2.new.disk _ (IsAppended front behind) c.write_synced-2.ensures.any_moment
    (λ f torn. torn_gate front behind end size.0 size.1 f (subst (λ (b : List ℕ). Torn (end - 1) 1 b f) staged torn)) in
    joined d.moment d.left_since _ _ _ _ first second

pub returns-clause-ok : goal.returns-clause-ok
returns-clause-ok g c =
    let d = g.D.Disk in
    let seen = d.seen c.args.disk.now in
    let end = c.len-end.result in
    let front = before_gate seen in
    let behind = c.args.behind.now in
    let size = gate_size seen end c.requires.closed (search rules) in
    let staged = c.in_ok-write_synced.ensures.ok.read ∙ ap (λ (b : List ℕ). overwritten b end behind) c.requires.closed ∙ written_behind front behind end size.0 size.1 in
    let open_is = ap (λ (b : List ℕ). overwritten b (end - 1) (1 ∷ [])) staged ∙ written_gate front behind end size.0 size.1 in
    record {
      read = c.in_ok-write_synced-2.ensures.ok.read ∙ open_is;
      only = λ f now. c.in_ok-write_synced-2.ensures.ok.only f now ∙ open_is;
    }

pub returns-in_err-write_synced-2-clause-calls : goal.returns-in_err-write_synced-2-clause-calls
returns-in_err-write_synced-2-clause-calls g c =
    let d = g.D.Disk in
    let end = c.len-end.result in
    let behind = c.args.behind.now in
    let stops : StopsIn d.does d.fails c.args.disk.now (calls_of_append end behind) c.write_synced-2.new.disk =
    stops_later d.does d.fails (Writes end behind ∷ Syncs ∷ []) (Writes (end - 1) (1 ∷ []) ∷ Syncs ∷ []) c.args.disk.now c.write_synced.new.disk c.write_synced-2.new.disk
    c.in_ok-write_synced.ensures.calls c.in_err-write_synced-2.ensures.calls in
    rw (← c.len-end.ensures) (search (stops, rules))
