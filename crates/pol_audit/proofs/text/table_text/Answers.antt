use Rattle.std.proofs.Common.{◌<◌, sym, subst}
use Rattle.std.specs.List.{Contains}
use Rattle.std.proofs.lemmas.List.Elements.{All-contains}
use Rattle.pol_mapkey.specs.Entries.{Entry}
use Rattle.pol_audit.proofs.text.table_text.Goals as goal

pub returns-clause-kept : goal.returns-clause-kept
returns-clause-kept c = λ e there. (
  All-contains (λ (e : Entry). e.0.id < 4294967296) c.as_slice-2.result.now e c.are_numbered.ensures (subst (λ es. Contains es e) (sym c.as_slice-2.ensures.entries) there),
  All-contains (λ (e : Entry). e.0.port.bits < 65536) c.as_slice.result.now e c.are_entries.ensures (subst (λ es. Contains es e) (sym c.as_slice.ensures.entries) there),
)
