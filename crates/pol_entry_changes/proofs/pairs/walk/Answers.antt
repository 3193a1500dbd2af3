use Rattle.std.proofs.Common.{List, ◌≡◌, ◌+◌, ◌∷◌, [], ◌++◌, OnOk, drop, take, refl, sym, ◌∙◌, ap, subst}
use Rattle.std.specs.List.{flat_map}
use Rattle.std.proofs.lemmas.List.{take_all, take_more}
use Rattle.pol_sets.specs.Sets.{set_given}
use Rattle.pol_sets.specs.declared.sets.SetRow.{SetRow}
use Rattle.pol_entry_changes.specs.Balance.{Between}
use Rattle.pol_entry_changes.specs.Given.{given_by}
use Rattle.pol_entry_changes.specs.declared.staying.Moved.{Moved}
use Rattle.pol_entry_changes.proofs.SideBySide.{one_more, walk_ended, walk_newer, walk_pairs}
use Rattle.pol_entry_changes.proofs.pairs.walk.Goals as goal

pub pair-requires-clause-stays : goal.pair-requires-clause-stays
pair-requires-clause-stays c = λ other there stands.
    c.requires.stays c.one-item.result other (c.loop-one.one-index, c.loop-one-test.true, sym c.one-item.is) there stands

pub loop-one-preserved : goal.loop-one-preserved
loop-one-preserved c =
    let was = given_by (set_given c.args.was.now) c.args.dir in
    let is = given_by (set_given c.args.is.now.rows) c.args.dir in
    let i = c.loop-one.one-index in
    let olds = c.args.old.now in
    let news = c.args.new.now in
    let one = c.one-item.result in
    let mid : Moved = record { come = c.push_newer.new.come; gone = c.loop-one.out.gone } in
    let newer = walk_newer (flat_map was (take i olds)) (flat_map is news) (flat_map is (drop c.loop-one.at news)) (flat_map is (drop c.in_ok-at.at news))
    c.args.out.now c.loop-one.out mid c.loop-one.invariant.1 (subst (λ (rows : List SetRow). c.push_newer.new.come.items ++ flat_map (given_by (set_given rows) c.args.dir) (drop c.in_ok-at.at news) ≡ c.loop-one.out.come.items ++ flat_map (given_by (set_given rows) c.args.dir) (drop c.loop-one.at news)) c.rows.ensures c.in_ok-at.ensures.left) refl in
    let paired = walk_pairs (flat_map was (take i olds)) (was one) (flat_map is news) (flat_map is (drop c.in_ok-at.at news)) (flat_map is (drop c.in_ok-at-2.at news))
    c.args.out.now mid c.pair.new.out newer c.in_ok-at-2.ensures.left in
    let gone : flat_map was (take i olds) ++ was one ≡ flat_map was (take (i + 1) olds) =
    sym (one_more was (take i olds) one) ∙ ap (flat_map was) (sym (take_more olds i one c.loop-one-test.true ∙ ap (λ f. take i olds ++ f ∷ []) (sym c.one-item.is))) in
    (c.in_ok-at-2.ensures.within, subst (λ es. Between es (flat_map is news) (flat_map is (drop c.in_ok-at-2.at news)) c.args.out.now c.pair.new.out) gone paired)

pub returns : goal.returns
returns c =
    let was = given_by (set_given c.args.was.now) c.args.dir in
    let is = given_by (set_given c.args.is.now.rows) c.args.dir in
    let gone = take_all c.loop-one.one-index c.args.old.now c.loop-one-test.false in
    let new : Moved = record { come = c.push_filters.new.out; gone = c.loop-one.out.gone } in
    walk_ended (flat_map was c.args.old.now) (flat_map is c.args.new.now) (flat_map is (drop c.loop-one.at c.args.new.now)) c.args.out.now c.loop-one.out new
    (subst (λ fs. Between (flat_map was fs) (flat_map is c.args.new.now) (flat_map is (drop c.loop-one.at c.args.new.now)) c.args.out.now c.loop-one.out) gone c.loop-one.invariant.1)
    refl c.push_filters.result (subst (λ fs. OnOk c.push_filters.result (c.push_filters.new.out.items ≡ c.loop-one.out.come.items ++ flat_map is fs)) c.split_at.ensures.back
    (subst (λ (rows : List SetRow). OnOk c.push_filters.result (c.push_filters.new.out.items ≡ c.loop-one.out.come.items ++ flat_map (given_by (set_given rows) c.args.dir) c.split_at.result.1.now)) c.rows-2.ensures c.push_filters.ensures))
