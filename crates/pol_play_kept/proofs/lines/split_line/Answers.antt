use Rattle.std.proofs.Common.{◌≡◌, ◌-◌, ◌+◌, suc, length, take, drop, ap, ◌∙◌, sym, arith, add-one, length-drop}
use Rattle.std.proofs.lemmas.List.{take_all}
use Rattle.pol_script.proofs.Cuts.{cut_at, uncut}
use Rattle.pol_play_kept.proofs.lines.split_line.Goals as goal

pub returns-in-Some-clause-line : goal.returns-in-Some-clause-line
returns-in-Some-clause-line c =
    let bytes = c.args.bytes.now in
    let end = c.in-Some.end in
    let first = c.in-Some.ensures in
    let rest : take (length bytes - (end + 1)) (drop (end + 1) bytes) ≡ drop (suc end) bytes =
    take_all _ _ (omega (arith, length-drop (end + 1) bytes)) ∙ ap (λ n. drop n bytes) (add-one end) in
    rw rest (cut_at bytes end first.0.high first.1 (λ k below at. first.0.before k (omega arith) below at))

pub returns-else-is_empty-clause-line : goal.returns-else-is_empty-clause-line
returns-else-is_empty-clause-line c =
    let bytes = c.args.bytes.now in
    let nothing : length bytes - length bytes ≡ 0 = omega arith in
    let some = sym c.is_empty.ensures ∙ c.if-is_empty.false in
    rw nothing (uncut bytes some (λ k below at. c.in-None.ensures k (omega arith) below at))
