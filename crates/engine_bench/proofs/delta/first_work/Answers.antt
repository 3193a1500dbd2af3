use Rattle.std.proofs.Common.{IfOk, sym, subst, ◌∙◌}
use Rattle.std.proofs.lemmas.Result.{IfOk-weaker}
use Rattle.std.specs.Arc.{arc_value}
use Rattle.pol_filters.specs.declared.filter.Filters.{Filters}
use Rattle.pol_distill.specs.Sorted.{HaveSets}
use Rattle.pol_kept_map.specs.Work.{IsWorkOf}
use Rattle.engine_bench.specs.Turns.{IsAt, ten}
use Rattle.engine_bench.proofs.Turning.{arrives}
use Rattle.engine_bench.proofs.delta.first_work.Goals as goal

pub returns : goal.returns
returns c =
    let rows = c.in_ok-sets.sets in
    let own = arc_value c.in_ok-try_clone.field-0 in
    let have : HaveSets rows own = subst (HaveSets rows) (c.deref.ensures ∙ sym c.in_ok-try_clone.ensures) (c.have_sets.ensures.0 c.if-not-have_sets.false) in
    subst (λ (filters : Filters). IfOk c.from_scratch.result (IsAt ten filters)) c.in_ok-try_clone.ensures
    (IfOk-weaker c.from_scratch.result (IsWorkOf own rows) (IsAt ten own) (λ work of. arrives rows ten c.in_ok-sets.ensures.rows own work have of) c.from_scratch.ensures.work)
