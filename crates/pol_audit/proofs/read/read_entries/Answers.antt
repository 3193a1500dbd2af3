use Rattle.std.proofs.Common.{List, [], ◌∷◌, ◌++◌, length, sym, ap, subst, ◌∙◌, length-append, arith}
use Rattle.pol_mapkey.specs.Entries.{Entry}
use Rattle.pol_audit.specs.Tables.{IsTable}
use Rattle.pol_audit.specs.Text.{AreKept, text_of}
use Rattle.pol_audit.proofs.Reading.{no_entries_are_table, no_entries_kept, one_kept, one_less, one_read}
use Rattle.pol_audit.proofs.read.read_entries.Goals as goal

pub loop-rest-init : goal.loop-rest-init
loop-rest-init c =
    let none = c.new-table.ensures.items in
    let many = ap length none in
    record {
      split = ap (λ (es : List Entry). text_of es ++ c.args.text.now) (sym none);
      table = subst IsTable (sym none) no_entries_are_table;
      kept = subst AreKept (sym none) no_entries_kept;
      count = omega arith;
    }

pub loop-rest-preserved : goal.loop-rest-preserved
loop-rest-preserved c =
    let inv = c.loop-rest.invariant in
    let made = c.in_ok-push-in-Some.ensures.items in
    let table = c.loop-rest.table.items in
    let new = c.push.new.self.items in
    let entry = c.in-Some.entry in
    let before = inv.count in
    let less = one_less c.loop-rest.rest.now c.in-Some.behind.now entry c.in-Some.ensures.some in
    let more = ap length made ∙ length-append table (entry ∷ []) in
    record {
      split = one_read c.args.text.now c.loop-rest.rest.now c.in-Some.behind.now table new entry inv.split c.in-Some.ensures.some made;
      table = subst IsTable (ap (λ (es : List Entry). es ++ entry ∷ []) c.deref.ensures.value ∙ sym made) c.in-Some.ensures.table;
      kept = one_kept table new entry inv.kept c.in-Some.ensures.kept made;
      count = omega arith;
    }

pub returns-clause-kept : goal.returns-clause-kept
returns-clause-kept c = subst AreKept (sym c.from_vec.ensures) c.loop-rest.invariant.kept
