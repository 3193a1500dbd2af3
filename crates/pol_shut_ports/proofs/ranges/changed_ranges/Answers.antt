use Rattle.std.proofs.Common.{◌<◌, ◌↔◌, ℕ, [], ◌∷◌, ◌++◌, List, length, map, ap, sym, subst, ◌∙◌}
use Rattle.std.specs.List.{Contains, flat_map}
use Rattle.std.proofs.lemmas.List.{length-map}
use Rattle.pol_data.proofs.Members.{Contains-later}
use Rattle.pol_shut_ports.specs.Pairs.{changed_at, ends_of}
use Rattle.pol_shut_ports.proofs.Between.{changed_agree, from_0, if_ok}
use Rattle.pol_shut_ports.proofs.ranges.changed_ranges.Goals as goal

pub ranges_of-requires-clause-first : goal.ranges_of-requires-clause-first
ranges_of-requires-clause-first c =
    let f = changed_at c.args.halves c.args.sent_before.now c.args.received_before.now c.args.sent.now c.args.received.now in
    let cuts : List ℕ = ((flat_map ends_of c.args.sent_before.now ++ flat_map ends_of c.args.received_before.now) ++ flat_map ends_of c.args.sent.now) ++ flat_map ends_of c.args.received.now in
    let made_0 = c.in_ok-cuts.ensures in
    let made_1 = c.in_ok-push_cuts.ensures ∙ ap (λ xs. xs ++ flat_map ends_of c.args.sent_before.now) made_0 in
    let made_2 = c.in_ok-push_cuts-2.ensures ∙ ap (λ xs. xs ++ flat_map ends_of c.args.received_before.now) made_1 in
    let made_3 = c.in_ok-push_cuts-3.ensures ∙ ap (λ xs. xs ++ flat_map ends_of c.args.sent.now) made_2 in
    let made_4 = c.in_ok-push_cuts-4.ensures ∙ ap (λ xs. xs ++ flat_map ends_of c.args.received.now) made_3 in
    let made = c.in_order-ports.ensures in
    let ports = c.in_order-ports.result.items in
    let are = λ (n : ℕ). subst (λ xs. Contains ports n ↔ Contains xs n) made_4 (made.members n) in
    let small = λ (n : ℕ) (there : Contains cuts n). c.are_ports.ensures n (subst (λ ps. Contains ps n) (sym c.deref.ensures.value) ((are n).1 (Contains-later 0 cuts n there))) in
    let start = from_0 f cuts small (λ a b less below none. changed_agree a b less below c.args.halves c.args.sent_before.now c.args.received_before.now c.args.sent.now c.args.received.now none) ports made.ascend are in
    (start.0, c.deref-3.ensures.value ∙ start.1)

pub ranges_of-requires-clause-words : goal.ranges_of-requires-clause-words
ranges_of-requires-clause-words c =
    let f = changed_at c.args.halves c.args.sent_before.now c.args.received_before.now c.args.sent.now c.args.received.now in
    let words = c.deref-4.ensures.value ∙ c.in_ok-words.ensures ∙ ap (map f) (c.deref-2.ensures.value ∙ sym c.deref-3.ensures.value) in
    ap length words ∙ length-map c.deref-3.result.now f

pub returns : goal.returns
returns c =
    let f = changed_at c.args.halves c.args.sent_before.now c.args.received_before.now c.args.sent.now c.args.received.now in
    let cuts : List ℕ = ((flat_map ends_of c.args.sent_before.now ++ flat_map ends_of c.args.received_before.now) ++ flat_map ends_of c.args.sent.now) ++ flat_map ends_of c.args.received.now in
    let made_0 = c.in_ok-cuts.ensures in
    let made_1 = c.in_ok-push_cuts.ensures ∙ ap (λ xs. xs ++ flat_map ends_of c.args.sent_before.now) made_0 in
    let made_2 = c.in_ok-push_cuts-2.ensures ∙ ap (λ xs. xs ++ flat_map ends_of c.args.received_before.now) made_1 in
    let made_3 = c.in_ok-push_cuts-3.ensures ∙ ap (λ xs. xs ++ flat_map ends_of c.args.sent.now) made_2 in
    let made_4 = c.in_ok-push_cuts-4.ensures ∙ ap (λ xs. xs ++ flat_map ends_of c.args.received.now) made_3 in
    let made = c.in_order-ports.ensures in
    let ports = c.in_order-ports.result.items in
    let are = λ (n : ℕ). subst (λ xs. Contains ports n ↔ Contains xs n) made_4 (made.members n) in
    let small = λ (n : ℕ) (there : Contains cuts n). c.are_ports.ensures n (subst (λ ps. Contains ps n) (sym c.deref.ensures.value) ((are n).1 (Contains-later 0 cuts n there))) in
    let start = from_0 f cuts small (λ a b less below none. changed_agree a b less below c.args.halves c.args.sent_before.now c.args.received_before.now c.args.sent.now c.args.received.now none) ports made.ascend are in
    let words = c.deref-4.ensures.value ∙ c.in_ok-words.ensures ∙ ap (map f) (c.deref-2.ensures.value ∙ sym c.deref-3.ensures.value) in
    if_ok c.ranges_of.result _ _ c.ranges_of.ensures (λ done all. all f start.0 (c.deref-3.ensures.value ∙ start.1) words start.2)
