use Rattle.std.proofs.Common.{◌≡◌, ap, get_or, ◌∙◌}
use Rattle.std.proofs.lemmas.List.{get_or-map}
use Rattle.pol_mapkey.specs.Entries.{word_of_kinds}
use Rattle.pol_audit.specs.Kinds.{kind_at, said_by, those_for}
use Rattle.pol_audit.proofs.Open.{mapped_more}
use Rattle.pol_audit.proofs.kinds.words_of.Goals as goal

pub loop-i-preserved : goal.loop-i-preserved
loop-i-preserved g c =
    let ports = c.args.ports.now in
    let i = c.loop-i.i in
    let own = kind_at (those_for c.args.proto c.args.own.now) in
    let every = kind_at (those_for c.args.proto c.args.every.now) in
    let own_at : c.index.result.now ≡ own (get_or ports i 0) =
    c.index.ensures ∙ ap (λ kinds. get_or kinds i c.index.result.now) c.in_ok-own_kinds.ensures.kinds ∙ get_or-map own ports i 0 _ c.loop-i-test.true in
    let every_at : c.index-in-loop-i.result.now ≡ every (get_or ports i 0) =
    c.index-in-loop-i.ensures ∙ ap (λ kinds. get_or kinds i c.index-in-loop-i.result.now) c.in_ok-every_kinds.ensures.kinds ∙ get_or-map every ports i 0 _ c.loop-i-test.true in
    mapped_more (said_by c.args.proto c.args.own.now c.args.every.now) ports i c.loop-i.words.items c.push.new.self.items c.«of».result c.loop-i-test.true
    c.loop-i.invariant c.in_ok-push.ensures.items (c.«of».ensures.kinds ∙ (λ j. word_of_kinds (own_at j) (every_at j)))
