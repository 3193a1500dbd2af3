use Rattle.std.proofs.Common.{◌≡◌, ◌==◌, ℕ, List, [], length, true, false, refl, sym, ◌∙◌, subst}
use Rattle.policyd_kept.proofs.Newlines.{no_bytes, open_line}
use Rattle.policyd_kept.proofs.Serving.{serving_as}
use Rattle.policyd_kept.proofs.serve.answer_last.Goals as goal

pub returns-then-is_empty-clause-serves : goal.returns-then-is_empty-clause-serves
returns-then-is_empty-clause-serves g c story serving =
    let d = g.D.Disk in
    let old = c.args.course.now in
    let none = subst (λ (line : List ℕ). (length line == 0) ≡ true) c.as_slice-line.ensures.value (sym c.is_empty.ensures ∙ c.if-is_empty.true) in
    serving_as d.moment d.left_since d.seen d.may_leave story old.begun.items old (g.K.Sink.written c.args.sink.now) c.args.disk.now c.args.machine.now serving old refl refl refl []
    (no_bytes old.begun.items none)

pub returns-in-Ok-clause-serves : goal.returns-in-Ok-clause-serves
returns-in-Ok-clause-serves g c story serving =
    let old = c.args.course.now in
    let some = subst (λ (line : List ℕ). (length line == 0) ≡ false) c.as_slice-line.ensures.value (sym c.is_empty.ensures ∙ c.if-is_empty.false) in
    c.in-Ok.ensures.serves story old.begun.items [] (open_line old.begun.items some c.requires.ready.one_line) serving

pub returns-in-Err-clause-serves : goal.returns-in-Err-clause-serves
returns-in-Err-clause-serves g c story serving =
    let old = c.args.course.now in
    let some = subst (λ (line : List ℕ). (length line == 0) ≡ false) c.as_slice-line.ensures.value (sym c.is_empty.ensures ∙ c.if-is_empty.false) in
    c.in-Err.ensures.serves story old.begun.items [] (open_line old.begun.items some c.requires.ready.one_line) serving
