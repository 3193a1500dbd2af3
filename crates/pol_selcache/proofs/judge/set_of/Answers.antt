use Rattle.std.proofs.Common.{◌≡◌, ◌*◌, filter, length, map, sym, subst, ap, ◌∙◌, arith}
use Rattle.std.proofs.lemmas.List.{length-map}
use Rattle.std.specs.List.Sorted.{IsStrictlySortedBy}
use Rattle.std.specs.Ordering.{nat_cmp}
use Rattle.pol_headings.specs.declared.heading.Heading.{Heading}
use Rattle.pol_headings.specs.Stands.{stands_under}
use Rattle.pol_ident.specs.Look.{selects_held}
use Rattle.pol_model.specs.declared.row.IdentityRow.{IdentityRow}
use Rattle.pol_model.specs.Selects.{set_at}
use Rattle.pol_selcache.specs.Held.{rows_judged, steps_of}
use Rattle.pol_selcache.proofs.RowSets.{judged_selected, set_sorted}
use Rattle.pol_selcache.proofs.judge.set_of.Goals as goal

pub in_blocks-requires : goal.in_blocks-requires
in_blocks-requires g c =
    let rows = c.args.identities.now in
    let p = c.args.peer.now in
    let numbers = c.as_slice.ensures.value ∙ c.in_ok-numbers.ensures.numbers ∙ ap (λ (h : Heading). map (λ (row : IdentityRow). row.number) (filter (stands_under h) rows)) c.judged_under-heading.ensures in
    let is : c.in_ok-own.own.items ≡ set_at rows p =
    c.in_ok-own.ensures.selected ∙ ap (filter (selects_held rows p)) numbers ∙ judged_selected rows p c.numbers_under.ensures.sound.numbers in
    record { ascending = subst (IsStrictlySortedBy nat_cmp) (sym is) (set_sorted p rows c.numbers_under.ensures.sound.numbers) }

pub returns-clause-set : goal.returns-clause-set
returns-clause-set g c =
    let rows = c.args.identities.now in
    let p = c.args.peer.now in
    let numbers = c.as_slice.ensures.value ∙ c.in_ok-numbers.ensures.numbers ∙ ap (λ (h : Heading). map (λ (row : IdentityRow). row.number) (filter (stands_under h) rows)) c.judged_under-heading.ensures in
    c.in_ok-set.ensures.same ∙ c.in_ok-own.ensures.selected ∙ ap (filter (selects_held rows p)) numbers ∙ judged_selected rows p c.numbers_under.ensures.sound.numbers

pub returns-clause-cost : goal.returns-clause-cost
returns-clause-cost g c =
    let rows = c.args.identities.now in
    let p = c.args.peer.now in
    let numbers = c.as_slice.ensures.value ∙ c.in_ok-numbers.ensures.numbers ∙ ap (λ (h : Heading). map (λ (row : IdentityRow). row.number) (filter (stands_under h) rows)) c.judged_under-heading.ensures in
    let count = ap (λ n. steps_of p * n) (ap length numbers ∙ length-map (rows_judged rows p) (λ (row : IdentityRow). row.number)) in
    omega (arith, c.selected.ensures.cost, count)

pub returns-in_err-own-clause-cost : goal.returns-in_err-own-clause-cost
returns-in_err-own-clause-cost g c =
    let rows = c.args.identities.now in
    let p = c.args.peer.now in
    let numbers = c.as_slice.ensures.value ∙ c.in_ok-numbers.ensures.numbers ∙ ap (λ (h : Heading). map (λ (row : IdentityRow). row.number) (filter (stands_under h) rows)) c.judged_under-heading.ensures in
    let count = ap (λ n. steps_of p * n) (ap length numbers ∙ length-map (rows_judged rows p) (λ (row : IdentityRow). row.number)) in
    omega (arith, c.selected.ensures.cost, count)
