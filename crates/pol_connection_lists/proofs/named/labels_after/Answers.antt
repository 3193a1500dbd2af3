use Rattle.std.proofs.Common.{◌<◌, ◌≡◌, ◌+◌, ◌++◌, [], ◌∷◌, List, length, take, refl, sym, ap, subst, ◌∙◌, arith}
use Rattle.std.proofs.lemmas.List.{take_all, take_more}
use Rattle.pol_model.specs.declared.request.Request.{Request}
use Rattle.pol_model.specs.After.{start, state_of}
use Rattle.pol_model_laws.specs.WithoutFaults.{WithoutFaults}
use Rattle.pol_connection_lists.specs.Names.{AreLabelsIn}
use Rattle.pol_connection_lists.proofs.Held.{held_more, none_held}
use Rattle.pol_connection_lists.proofs.named.labels_after.Goals as goal

pub loop-request-init : goal.loop-request-init
loop-request-init c = λ options good. none_held (start options) c.new-held.result c.new-held.ensures.empty refl

pub loop-request-preserved : goal.loop-request-preserved
loop-request-preserved c = λ options good.
    let all = c.args.journal.now in
    let i = c.loop-request.request-index in
    let item = c.request-item.result in
    let within : i < length all = omega arith in
    let more : take (i + 1) all ≡ take i all ++ item ∷ [] = take_more all i item within ∙ ap (λ q. take i all ++ q ∷ []) (sym c.request-item.is) in
    subst (λ (requests : List Request). AreLabelsIn (state_of options requests) c.follow.new.held) (sym more)
    (held_more options (take i all) item c.loop-request.held c.follow.new.held (c.loop-request.invariant options) c.in_ok-follow.ensures
    (subst (WithoutFaults options) more good))

pub returns : goal.returns
returns c = λ options good.
    let all = c.args.journal.now in
    let i = c.loop-request.request-index in
    let whole : take i all ≡ all = take_all i all (omega arith) in
    subst (λ (requests : List Request). AreLabelsIn (state_of options requests) c.loop-request.held) whole
    (c.loop-request.invariant options (subst (WithoutFaults options) (sym whole) good))
