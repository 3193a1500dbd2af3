use Rattle.std.proofs.Common.{◌≡◌, ◌<◌, ◌≤◌, Some, refl, sym, ap, subst, ◌∙◌, length, slice_get, arith}
use Rattle.std.proofs.lemmas.Option.{slice_get_read}
use Rattle.std.specs.List.Sorted.{IsNonDecreasingBy, IsPartitionPoint}
use Rattle.pol_addr.specs.Address.{bits_of, family_of}
use Rattle.pol_prefix_table.specs.declared.walk.Reached.{Reached}
use Rattle.pol_prefix_table.proofs.StartLists.{too_long, all_done, rest_outside, starts_rise, first_done, first_behind, done_written, behind_written, outside_written, length_written}
use Rattle.pol_prefix_table.proofs.starts.renew.Goals as goal

pub returns-then-len-gt-START_BITS : goal.returns-then-len-gt-START_BITS
returns-then-len-gt-START_BITS g c =
    too_long g.B.Bits.family c.args.trie.now c.args.over.now c.args.starts.now.items (omega (arith, c.if-len-gt-START_BITS.true, c.len.ensures.value)) c.requires.outside

pub of-requires : goal.of-requires
of-requires g c = ap family_of c.network.ensures.value ∙ c.requires.family

pub starts_below-i-requires : goal.starts_below-i-requires
starts_below-i-requires g c =
    record { rise = subst (IsNonDecreasingBy (λ (r : Reached). bits_of r.to.addr)) (sym c.as_slice.ensures.value) (starts_rise c.args.starts.now.items c.requires.outside) }

pub loop-i-init : goal.loop-i-init
loop-i-init g c =
    let over = c.args.over.now in
    let items = c.args.starts.now.items in
    let bound = bits_of (g.B.Bits.seen c.of.result) in
    let same : bound ≡ bits_of over.addr = ap bits_of (c.of.ensures ∙ c.network.ensures.value) in
    let point = subst (λ xs. IsPartitionPoint (λ r. bits_of r.to.addr < bound) (λ r. bound ≤ bits_of r.to.addr) xs c.starts_below-i.result) c.as_slice.ensures.value c.starts_below-i.ensures in
    record {
      done = first_done g.B.Bits.family c.args.trie.now over bound same items c.starts_below-i.result point c.requires.outside;
      behind = first_behind over bound same items c.starts_below-i.result point;
      outside = c.requires.outside;
      length = refl;
    }

pub renew_one-requires-clause-outside : goal.renew_one-requires-clause-outside
renew_one-requires-clause-outside g c =
    let items = c.loop-i.starts.items in
    let inside : c.loop-i.i < length items = omega (arith, c.loop-i.invariant.length, c.loop-i-test.true, c.len-i-end.ensures) in
    let was : slice_get items c.loop-i.i ≡ Some c.index_mut.result.now = slice_get_read items (length items) c.loop-i.i c.index_mut.result.now refl inside c.index_mut.ensures.value in
    (c.loop-i.invariant.outside.each c.loop-i.i c.index_mut.result.now was).0

pub returns-then-not-renew_one : goal.returns-then-not-renew_one
returns-then-not-renew_one g c =
    let items = c.loop-i.starts.items in
    let over = c.args.over.now in
    let old = c.index_mut.result.now in
    let inside : c.loop-i.i < length items = omega (arith, c.loop-i.invariant.length, c.loop-i-test.true, c.len-i-end.ensures) in
    let was : slice_get items c.loop-i.i ≡ Some old = slice_get_read items (length items) c.loop-i.i old refl inside c.index_mut.ensures.value in
    rest_outside g.B.Bits.family c.args.trie.now over items c.loop-i.i old c.renew_one.new.start c.loop-i.invariant.outside was c.renew_one.ensures.to c.renew_one.ensures.reached c.loop-i.invariant.done (c.loop-i.invariant.behind c.loop-i.i old (omega arith) was) (sym c.renew_one.ensures.covered ∙ c.if-not-renew_one.true)

pub loop-i-preserved : goal.loop-i-preserved
loop-i-preserved g c =
    let items = c.loop-i.starts.items in
    let over = c.args.over.now in
    let inside : c.loop-i.i < length items = omega (arith, c.loop-i.invariant.length, c.loop-i-test.true, c.len-i-end.ensures) in
    let was : slice_get items c.loop-i.i ≡ Some c.index_mut.result.now = slice_get_read items (length items) c.loop-i.i c.index_mut.result.now refl inside c.index_mut.ensures.value in
    let made = c.renew_one.new.start in
    let reached = c.renew_one.ensures.reached in
    record {
      done = done_written c.args.trie.now items c.loop-i.i made reached c.loop-i.invariant.done;
      behind = behind_written (bits_of over.addr) items c.loop-i.i made c.loop-i.invariant.behind;
      outside = outside_written g.B.Bits.family c.args.trie.now over items c.loop-i.i c.index_mut.result.now made c.loop-i.invariant.outside was c.renew_one.ensures.to reached;
      length = omega (arith, length_written items c.loop-i.i made, c.loop-i.invariant.length);
    }

pub returns : goal.returns
returns g c =
    all_done g.B.Bits.family c.args.trie.now c.args.over.now c.loop-i.starts.items c.loop-i.i (omega (arith, c.loop-i.invariant.length, c.loop-i-test.false, c.len-i-end.ensures)) c.loop-i.invariant.outside c.loop-i.invariant.done
