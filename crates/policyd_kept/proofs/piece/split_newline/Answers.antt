use Rattle.std.proofs.Common.{◌≡◌, ◌-◌, ◌+◌, suc, length, take, drop, ap, ◌∙◌, arith, add-one, length-drop}
use Rattle.std.proofs.lemmas.List.{take_all}
use Rattle.policyd_kept.proofs.Newlines.{all_one, front_one, parts_at}
use Rattle.policyd_kept.proofs.piece.split_newline.Goals as goal

pub returns-in-Some-clause-parts : goal.returns-in-Some-clause-parts
returns-in-Some-clause-parts c =
    let bytes = c.args.bytes.now in
    let end = c.in-Some.end in
    let first = c.in-Some.ensures in
    let rest : take (length bytes - (end + 1)) (drop (end + 1) bytes) ≡ drop (suc end) bytes =
    take_all _ _ (omega (arith, length-drop (end + 1) bytes)) ∙ ap (λ n. drop n bytes) (add-one end) in
    rw rest (parts_at bytes end first.0.high first.1)

pub returns-in-Some-clause-front : goal.returns-in-Some-clause-front
returns-in-Some-clause-front c =
    let first = c.in-Some.ensures in
    front_one c.args.bytes.now c.in-Some.end first.0.high (λ k below at. first.0.before k (omega arith) below at)

pub returns-in-None-clause-none : goal.returns-in-None-clause-none
returns-in-None-clause-none c = all_one c.args.bytes.now (λ k below at. c.in-None.ensures k (omega arith) below at)
