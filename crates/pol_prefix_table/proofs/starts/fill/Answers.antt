use Rattle.std.proofs.Common.{sym, ap, subst, ◌∙◌, slice_get, length, arith}
use Rattle.std.proofs.lemmas.Nat.{one_shl}
use Rattle.pol_prefix_table.specs.Starts.{HasReached, beginning}
use Rattle.pol_prefix_table.proofs.StartLists.{starts_pushed, length_pushed}
use Rattle.pol_prefix_table.proofs.starts.fill.Goals as goal

pub prefix_at-requires-clause-small : goal.prefix_at-requires-clause-small
prefix_at-requires-clause-small g c = omega (arith, c.loop-place-test.true, one_shl c.args.bits 32 (omega (arith, c.requires.few)))

pub of-requires-clause-small : goal.of-requires-clause-small
of-requires-clause-small g c = omega (arith, c.loop-place-test.true, one_shl c.args.bits 32 (omega (arith, c.requires.few)))

pub of-requires-clause-to : goal.of-requires-clause-to
of-requires-clause-to g c = c.start_over-start.ensures.to ∙ c.prefix_at.ensures.value

pub returns-in_err-push : goal.returns-in_err-push
returns-in_err-push g c = record {
  len = c.args.bits;
  short = c.requires.few;
  each = λ i r is. c.loop-place.invariant.each i r (ap (λ xs. slice_get xs i) (sym c.in_err-push.ensures.items) ∙ is);
}

pub returns : goal.returns
returns g c = record { len = c.args.bits; short = c.requires.few; each = c.loop-place.invariant.each }

pub loop-place-preserved : goal.loop-place-preserved
loop-place-preserved g c =
    let same = c.of.ensures in
    let family = g.B.Bits.family in
    let items = c.loop-place.starts.items in
    let to = ap (λ r. r.to) same ∙ c.start_over-start.ensures.to ∙ c.prefix_at.ensures.value ∙ ap (beginning family c.args.bits) (sym c.loop-place.invariant.length) in
    let reached = subst (HasReached c.args.trie.now) (sym same) c.start_over-start.ensures.reached in
    record {
      each = λ i r is. starts_pushed family c.args.trie.now c.args.bits items c.of.result c.loop-place.invariant.each reached to i r (ap (λ xs. slice_get xs i) (sym c.in_ok-push.ensures.items) ∙ is);
      length = omega (arith, ap length c.in_ok-push.ensures.items, length_pushed items c.of.result, c.loop-place.invariant.length);
    }
