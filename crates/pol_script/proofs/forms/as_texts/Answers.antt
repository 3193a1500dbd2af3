use Rattle.std.proofs.Common.{true, false, sym}
use Rattle.serde_json.specs.View.{view}
use Rattle.pol_script.proofs.Turns.{texts_read}
use Rattle.pol_script.proofs.forms.as_texts.Goals as goal

pub returns-then-are_texts : goal.returns-then-are_texts
returns-then-are_texts c =
    sym (texts_read (view c.args.value.now) c.in_ok-as_array.field-0.now.items c.as_slice-items.result.now c.are_texts.result true
    c.in_ok-as_array.ensures c.as_slice-items.ensures.value c.are_texts.ensures c.if-are_texts.true)

pub returns-else-are_texts : goal.returns-else-are_texts
returns-else-are_texts c =
    sym (texts_read (view c.args.value.now) c.in_ok-as_array.field-0.now.items c.as_slice-items.result.now c.are_texts.result false
    c.in_ok-as_array.ensures c.as_slice-items.ensures.value c.are_texts.ensures c.if-are_texts.false)
