use Rattle.std.proofs.Common.{◌<◌, ◌^◌, ap, sym, subst, ◌∙◌}
use Rattle.std.specs.List.Sorted.{IsStrictlySortedBy}
use Rattle.std.specs.Ordering.{nat_cmp}
use Rattle.pol_set_changes.specs.Ids.{has}
use Rattle.pol_data.proofs.Members.{All-from_Contains, In-from_Contains}
use Rattle.pol_headings.specs.Filed.{is_filed}
use Rattle.pol_selcache.proofs.Numbers.{has-In, strict_from_ascends}
use Rattle.pol_selcache.proofs.by_heading.filed_for.Goals as goal

pub narrowed-requires : goal.narrowed-requires
narrowed-requires c =
    let items = c.in_ok-filed.filed.items in
    rw c.deref.ensures.value
    (record { fits = All-from_Contains (λ n. n < 2 ^ 32) items (λ n there. c.requires.small _ n (sym (c.in_ok-filed.ensures.members n) ∙ has-In n items (In-from_Contains items n there))) })

pub from_ascending-requires : goal.from_ascending-requires
from_ascending-requires c =
    record { ascending = subst (IsStrictlySortedBy nat_cmp) (sym (c.in_ok-few.ensures ∙ c.deref.ensures.value)) (strict_from_ascends _ c.in_ok-filed.ensures.ascend) }

pub returns-clause-members : goal.returns-clause-members
returns-clause-members c = λ n.
    ap (has n) (c.from_ascending.ensures ∙ c.in_ok-few.ensures ∙ c.deref.ensures.value)
    ∙ c.in_ok-filed.ensures.members n
    ∙ ap (λ h. is_filed c.args.filing.now h n) c.of.ensures

pub returns-clause-ascend : goal.returns-clause-ascend
returns-clause-ascend c = subst (IsStrictlySortedBy nat_cmp) (sym (c.from_ascending.ensures ∙ c.in_ok-few.ensures ∙ c.deref.ensures.value)) (strict_from_ascends _ c.in_ok-filed.ensures.ascend)
