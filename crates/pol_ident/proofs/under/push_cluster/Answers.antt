use Rattle.std.proofs.Common.{◌≡◌, ◌++◌, OnOk, sym, ap, subst, ◌∙◌}
use Rattle.std.proofs.lemmas.List.{append-nil}
use Rattle.pol_model.specs.declared.limits.TheConstants.{CLUSTER_FIRST}
use Rattle.pol_ident.proofs.StandUnder.{all-where, none-where}
use Rattle.pol_ident.proofs.under.push_cluster.Goals as goal

-- no label set has a prefix
pub returns-in-Prefix : goal.returns-in-Prefix
returns-in-Prefix c =
    rw c.in-Prefix.is (sym (append-nil c.args.numbers.now.items) ∙ ap (λ ns. c.args.numbers.now.items ++ ns) (sym (none-where CLUSTER_FIRST c.args.cluster.now)))

pub returns-in-Any : goal.returns-in-Any
returns-in-Any c =
    rw c.in-Any.is
    (subst (λ ns. OnOk c.push_numbers.result (c.push_numbers.new.numbers.items ≡ c.args.numbers.now.items ++ ns)) (sym (all-where CLUSTER_FIRST c.args.cluster.now)) c.push_numbers.ensures)
