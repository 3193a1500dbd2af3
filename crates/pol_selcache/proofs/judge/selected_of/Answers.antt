use Rattle.std.proofs.Common.{sym, subst, ◌∙◌}
use Rattle.std.specs.List.Sorted.{IsStrictlySortedBy}
use Rattle.std.specs.Ordering.{nat_cmp}
use Rattle.std.proofs.lemmas.List.Kept.{IsStrictlySortedBy-filter}
use Rattle.pol_ident.specs.Look.{selects_held}
use Rattle.pol_selcache.proofs.judge.selected_of.Goals as goal

pub from_ascending-requires : goal.from_ascending-requires
from_ascending-requires g c =
    let up = subst (IsStrictlySortedBy nat_cmp) (sym (c.as_slice.ensures.value ∙ c.in_ok-several.ensures.ids)) c.only.ensures.set.ascends in
    record { ascending = subst (IsStrictlySortedBy nat_cmp) (sym c.in_ok-own.ensures.selected) (IsStrictlySortedBy-filter nat_cmp (selects_held c.args.identities.now c.args.peer.now) _ up) }
