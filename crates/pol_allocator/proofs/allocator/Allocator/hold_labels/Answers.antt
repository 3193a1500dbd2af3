use Rattle.std.proofs.Common.{◌<◌, List, IfSome, if◌then◌else◌, ◌∷◌, [], is_some, ap, sym, subst, ◌∙◌}
use Rattle.std.proofs.lemmas.Bool.{false_from_ne_true}
use Rattle.std.specs.Arc.{arc_value}
use Rattle.pol_set_changes.specs.Log.{newest}
use Rattle.pol_model.specs.declared.row.IdentityRow.{IdentityRow}
use Rattle.pol_model.specs.Fault.{is_exhausted}
use Rattle.pol_model.specs.Identities.{is_local, released}
use Rattle.pol_model_laws.specs.Holding.{has_row}
use Rattle.pol_model_laws.proofs.HoldingLaws.{held_has}
use Rattle.pol_model_laws.proofs.RowLaws.{labels_undone}
use Rattle.pol_selcache.specs.Cache.{Cache, MayPlan}
use Rattle.pol_selcache.specs.Live.{AreExact}
use Rattle.pol_prefix_table.specs.Table.{PrefixMap}
use Rattle.pol_prefixes.specs.Tables.{IsTableOf}
use Rattle.pol_prefixes.proofs.Numbers.{number_of_labelled}
use Rattle.pol_allocator.specs.Held.{Held}
use Rattle.pol_allocator.proofs.Coming.{labels_may_come, number_not_local}
use Rattle.pol_allocator.proofs.Sharing.{each_some}
use Rattle.pol_allocator.proofs.allocator.Allocator.hold_labels.Goals as goal

pub plan_taken-requires : goal.plan_taken-requires
plan_taken-requires g c =
    let rows = c.self.inside.identities in
    let cache = c.self.inside.selectors in
    let newer = subst (λ (held : Held). newest held.cache.log < c.args.revision) (sym c.self.view_is) c.requires.settled.newer in
    let exact = subst (λ (held : Held). AreExact held.rows held.cache.live) (sym c.self.view_is) c.requires.settled.exact in
    record {
      may = subst (λ (taken : List IdentityRow). MayPlan c.args.revision (if c.is_none-is_new.result then c.in_ok-number.number ∷ [] else []) [] taken cache) (sym c.in_ok-number.ensures.ok)
          (labels_may_come c.args.labels.now rows c.self.invariant.0.numbers c.in_ok-number.number c.args.revision cache c.is_none-is_new.result c.in_ok-number.ensures.number
          (sym (ap is_some c.number_of.ensures.number) ∙ c.is_none-is_new.ensures) newer exact);
    }

pub invariant_of-self : goal.invariant_of-self
invariant_of-self g c = (
  c.acquire.ensures.sound,
  subst (λ rows. IsTableOf rows c.self.inside.prefixes) (sym c.in_err-number.ensures.err) c.self.invariant.1,
  subst (λ rows. IfSome c.self.inside.shared (λ table. IsTableOf rows (arc_value table))) (sym c.in_err-number.ensures.err) c.self.invariant.2,
)

pub invariant_of-self-2 : goal.invariant_of-self-2
invariant_of-self-2 g c =
    let rows = c.self.inside.identities in
    let labels = c.args.labels.now in
    let held : (table : PrefixMap) → IsTableOf rows table → IsTableOf c.acquire.new.self table =
    λ table is. subst (λ rows. IsTableOf rows table) (sym c.in_ok-number.ensures.ok) (λ own. is own ∙ sym (number_of_labelled labels own rows)) in (
      c.acquire.ensures.sound,
      held c.self.inside.prefixes c.self.invariant.1,
      each_some c.self.inside.shared (λ table. held (arc_value table)) c.self.invariant.2,
    )

pub release-requires : goal.release-requires
release-requires g c =
    let rows = c.self.inside.identities in
    let labels = c.args.labels.now in
    let left = ap (λ (held : Held). held.rows) c.in-Err.ensures.err ∙ c.in_ok-number.ensures.ok in
    let free = false_from_ne_true (is_exhausted labels rows) (λ full. let wrong = c.in_ok-number.ensures.exhausted.1 full in absurd cc) in
    record {
      held = (λ i. has_row (c.in_ok-number.ensures.number i) (left i)) ∙ held_has _ _ rows;
      not_local = ap is_local c.in_ok-number.ensures.number ∙ number_not_local labels rows free;
    }

pub returns-in-Err-clause-err : goal.returns-in-Err-clause-err
returns-in-Err-clause-err g c =
    let rows = c.self.inside.identities in
    let labels = c.args.labels.now in
    let left = ap (λ (held : Held). held.rows) c.in-Err.ensures.err ∙ c.in_ok-number.ensures.ok in
    let sets = ap (λ (held : Held). held.cache) c.in-Err.ensures.err in
    let free = false_from_ne_true (is_exhausted labels rows) (λ full. let wrong = c.in_ok-number.ensures.exhausted.1 full in absurd cc) in
    let undone = (λ i. released (c.in_ok-number.ensures.number i) (left i))
    ∙ labels_undone labels rows c.self.invariant.0 c.as_slice-ordered.ensures.ordered c.requires.allowed free in
    let give : List IdentityRow → Cache → Held = λ r cache. record { rows = r; cache = cache } in
    c.release.ensures.released ∙ (λ i. give (undone i) (sets i)) ∙ c.self.view_is
