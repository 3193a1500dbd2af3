use Rattle.std.proofs.Common.{◌≡◌, slice_get, Some, sym, ap, ◌∙◌, subst, arith}
use Rattle.pol_model.specs.Policies.{is_of_key, removed}
use Rattle.pol_tables.specs.Numbered.{place_of}
use Rattle.pol_tables.specs.Tables.{PolicyTable}
use Rattle.pol_tables.proofs.Places.{found_at, place_within, removed_at}
use Rattle.pol_tables.proofs.ByKey.{stands-gone}
use Rattle.pol_tables.proofs.policies.Policies.take.Goals as goal

pub take-requires : goal.take-requires
take-requires c =
    let old = c.self.inside in
    let below = place_within (is_of_key c.args.key.now) old.rows.list c.args.place
    (subst (λ (t : PolicyTable). place_of (is_of_key c.args.key.now) t.list ≡ Some c.args.place) (sym c.self.view_is) c.requires.place) in
    record { within = omega (arith, below, c.self.invariant.long) }

pub invariant_of-self : goal.invariant_of-self
invariant_of-self c =
    let old = c.self.inside in
    rw (c.take-2.ensures.list, c.take.ensures.list)
    (stands-gone c.args.key.now old.rows.list old.arrivals.list old.next old.by_key.entries c.swap_remove.new.self.entries c.args.place c.self.invariant
    (subst (λ (t : PolicyTable). place_of (is_of_key c.args.key.now) t.list ≡ Some c.args.place) (sym c.self.view_is) c.requires.place)
    c.swap_remove.ensures.updates.0)

pub returns-clause-list : goal.returns-clause-list
returns-clause-list c =
    let old = c.self.inside in
    c.take-2.ensures.list
    ∙ removed_at (is_of_key c.args.key.now) old.rows.list c.args.place
    (subst (λ (t : PolicyTable). place_of (is_of_key c.args.key.now) t.list ≡ Some c.args.place) (sym c.self.view_is) c.requires.place) (c.self.invariant.once c.args.key.now)
    ∙ ap (λ (t : PolicyTable). removed c.args.key.now t.list) c.self.view_is

pub returns-clause-taken : goal.returns-clause-taken
returns-clause-taken c =
    sym (found_at (is_of_key c.args.key.now) c.args.self.now.list c.args.place c.requires.place)
    ∙ ap (λ (t : PolicyTable). slice_get t.list c.args.place) (sym c.self.view_is)
    ∙ c.take-2.ensures.taken
