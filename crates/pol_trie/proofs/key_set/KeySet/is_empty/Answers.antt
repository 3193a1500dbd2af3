use Rattle.std.proofs.Common.{◌≡◌, true, false, not, Option, Some, None, is_some, refl, sym, ap, ◌∙◌}
use Rattle.std.proofs.lemmas.Bool.{both_ways}
use Rattle.std.specs.FinMap as map
use Rattle.pol_mapkey.specs.declared.Kind.{Kind}
use Rattle.pol_trie.proofs.KeyKinds.{no_kinds}
use Rattle.pol_trie.proofs.key_set.KeySet.is_empty.Goals as goal
use Rattle.pol_trie.proofs.key_set.KeySet.is_empty.Goals.{then-is_none, else-is_none, then-is_empty, else-is_empty}

none_of : (o : Option Kind) → is_some o ≡ false → o ≡ None
none_of None e = refl
none_of (Some k) e = absurd (cc)

pub returns-then-is_empty-2-clause-empty : goal.returns-then-is_empty-2-clause-empty
returns-then-is_empty-2-clause-empty c = λ last.
    let s = c.args.self.now in
    let udp : (c.if-is_none.value ≡ true) × (s.udp ≡ map.empty) =
    elim c.if-is_empty.branch [
      | then-is_empty w ↦ (w.if-is_empty.true, w.is_empty-then-is_empty.ensures.empty (sym w.value-is ∙ c.if-is_empty-2.true))
      | else-is_empty w ↦ absurd (both_ways _ (w.value-is ∙ w.if-is_empty.false) c.if-is_empty-2.true)
    ] in
    let tcp : (s.every ≡ None) × (s.tcp ≡ map.empty) =
    elim c.if-is_none.branch [
      | then-is_none w ↦ (none_of s.every (c.is_none.ensures ∙ ap not w.if-is_none.true), w.is_empty.ensures.empty (sym w.value-is ∙ udp.0))
      | else-is_none w ↦ absurd (both_ways _ (w.value-is ∙ w.if-is_none.false) udp.0)
    ] in
    no_kinds s tcp.0 tcp.1 udp.1 (c.is_empty-then-is_empty-2.ensures.empty last)
