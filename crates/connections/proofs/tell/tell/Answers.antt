use Rattle.std.proofs.Common.{List, ℕ, Bor, option_map, ap, sym, ◌∙◌}
use Rattle.std.proofs.lemmas.Result.{IfOk-weaker}
use Rattle.pol_compare.specs.Parts.{parts_of}
use Rattle.connections.proofs.Telling.{one_part, one_part_ended, two_parts, two_parts_ended}
use Rattle.connections.proofs.tell.tell.Goals as goal

pub returns-in-None-clause-text : goal.returns-in-None-clause-text
returns-in-None-clause-text c =
    let none = sym c.parts_of.ensures.back ∙ ap (option_map (λ (b : Bor (List ℕ)). b.now)) c.in-None.is in
    IfOk-weaker c.one_script.result _ _
    (λ told is. one_part c.args.asked (parts_of c.args.input.now) _ c.parts_of.ensures.front none told.text.items is) c.one_script.ensures.text

pub returns-in-None-clause-status : goal.returns-in-None-clause-status
returns-in-None-clause-status c =
    let none = sym c.parts_of.ensures.back ∙ ap (option_map (λ (b : Bor (List ℕ)). b.now)) c.in-None.is in
    IfOk-weaker c.one_script.result _ _
    (λ told is. one_part_ended c.args.asked (parts_of c.args.input.now) _ c.parts_of.ensures.front none _ is) c.one_script.ensures.status

pub returns-in-Some-clause-text : goal.returns-in-Some-clause-text
returns-in-Some-clause-text c =
    let some = sym c.parts_of.ensures.back ∙ ap (option_map (λ (b : Bor (List ℕ)). b.now)) c.in-Some.is in
    IfOk-weaker c.two_scripts.result _ _
    (λ told is. two_parts c.args.asked (parts_of c.args.input.now) _ c.parts_of.ensures.front _ some told.text.items is) c.two_scripts.ensures.text

pub returns-in-Some-clause-status : goal.returns-in-Some-clause-status
returns-in-Some-clause-status c =
    let some = sym c.parts_of.ensures.back ∙ ap (option_map (λ (b : Bor (List ℕ)). b.now)) c.in-Some.is in
    IfOk-weaker c.two_scripts.result _ _
    (λ told is. two_parts_ended c.args.asked (parts_of c.args.input.now) _ c.parts_of.ensures.front _ some _ is) c.two_scripts.ensures.status
