use Rattle.std.proofs.Common.{◌≡◌, ◌+◌, ◌<◌, ◌++◌, [], ◌∷◌, drop, length, take, sym, ap, ◌∙◌, arith}
use Rattle.std.proofs.lemmas.List.{drop_more, take_more}
use Rattle.pol_addr.specs.Cidr.{IsPrefix}
use Rattle.pol_data.proofs.Every.{every-append}
use Rattle.pol_model.specs.Prefixes.{prefix_held, prefixes_held, prefixes_released}
use Rattle.pol_prefixes.specs.Coming.{all_coming}
use Rattle.pol_prefixes.proofs.Come.{come_more}
use Rattle.pol_prefixes.proofs.Undoing.{first_undone, held-push}
use Rattle.pol_prefixes.proofs.hold.hold_each.Goals as goal

pub returns-in-Err-clause-err : goal.returns-in-Err-clause-err
returns-in-Err-clause-err c =
    let old = c.args.identities.now in
    let first = take c.loop-i.i c.args.prefixes.now in
    c.release_prefixes.ensures.rows
    ∙ ap (prefixes_released first) (c.in-Err.ensures.err ∙ c.loop-i.invariant.held)
    ∙ first_undone c.loop-i.i c.args.prefixes.now old c.requires.keeps c.loop-i.invariant.within c.requires.room

pub loop-i-preserved : goal.loop-i-preserved
loop-i-preserved c =
    let old = c.args.identities.now in
    let rows = c.loop-i.identities in
    let all = c.args.prefixes.now in
    let i = c.loop-i.i in
    let p = c.index-prefixes-i.result in
    let within : i < length all = omega arith in
    let taken : take (i + 1) all ≡ take i all ++ p ∷ [] = take_more all i p within ∙ ap (λ q. take i all ++ q ∷ []) (sym c.index-prefixes-i.is) in
    let left : drop i all ≡ p ∷ drop (i + 1) all = drop_more all i p within ∙ ap (λ q. q ∷ drop (i + 1) all) (sym c.index-prefixes-i.is) in
    record {
      held = c.in-Ok.ensures.ok ∙ ap (prefix_held p) c.loop-i.invariant.held ∙ sym (held-push (take i all) p old) ∙ ap (λ ps. prefixes_held ps old) (sym taken);
      come = rw c.in-Ok.ensures.ok (come_more p (drop (i + 1) all) rows c.loop-i.come.items _ _ c.in-Ok.ensures.come (ap (λ ps. c.loop-i.come.items ++ all_coming ps rows) (sym left) ∙ c.loop-i.invariant.come));
      table = c.hold_next.ensures.table;
      within = rw taken (every-append IsPrefix (take i all) (p ∷ []) c.loop-i.invariant.within (c.in-Ok.ensures.within, tt));
    }
