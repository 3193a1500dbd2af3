-- What a log tells since a revision is how the set differs.
use Rattle.std.proofs.Common.{◌≡◌, ℕ, ◌≤◌, ◌==◌, Bool, true, false, cond, nat_lt, List, [], ◌∷◌, ◌++◌, filter, Some, None, refl, sym, ap, subst, ◌∙◌, inl, inr, arith}
use Rattle.std.proofs.lemmas.Bool.{cases_lt, lt-ltb, le-ltb, le-leb, lt-leb}
use Rattle.std.proofs.lemmas.Option.{same_Some}
use Rattle.pol_sets.specs.declared.sets.Move.{Move}
use Rattle.pol_set_changes.specs.declared.change.SetChange.{SetChange}
use Rattle.pol_set_changes.specs.Log.{is_later_of, newest_of, InOrder}
use Rattle.pol_set_changes.specs.Net.{net, after_all}
use Rattle.pol_set_changes.specs.Recorded.{horizon_of, changes_of, changes_until, SinceTellsDifference}
use Rattle.pol_set_changes.specs.Sets.{AllFit, IsMove}
use Rattle.pol_set_changes.proofs.LogLemmas.{none_later, kept_changes_tell}
use Rattle.pol_set_changes.proofs.NetLemmas.{after-ascends, after-append, fit-append, net_is_exact}

later_first : (b : Bool) (c : SetChange) (all later until : List SetChange) → all ≡ later ++ until → cond b (c ∷ all) all ≡ cond b (c ∷ later) later ++ until
later_first true c all later until same = ap (λ ds. c ∷ ds) same
later_first false c all later until same = same

-- the later changes come first, and then the others
split_at : (selector revision horizon : ℕ) (cs : List SetChange) → InOrder horizon cs → changes_of selector cs ≡ filter (is_later_of selector revision) cs ++ changes_until selector revision cs
split_at selector revision horizon [] order = refl
split_at selector revision horizon (c ∷ cs) order =
    let rest = split_at selector revision horizon cs order.1 in
    elim (cases_lt revision c.revision) [
      | inl later ↦ rw (lt-ltb revision c.revision later, lt-leb c.revision revision later) (later_first (c.selector == selector) c (changes_of selector cs) (filter (is_later_of selector revision) cs) (changes_until selector revision cs) rest)
      | inr past ↦
          let next : newest_of horizon cs ≤ c.revision = order.0 in
          let none : filter (is_later_of selector revision) cs ≡ [] = none_later selector revision horizon cs order.1 (omega arith) in
          let same : changes_of selector cs ≡ changes_until selector revision cs = rest ∙ ap (λ fs. fs ++ changes_until selector revision cs) none in
          rw (le-ltb revision c.revision past, le-leb c.revision revision past, none)
          (ap (λ ds. cond (c.selector == selector) (c ∷ ds) ds) same)
    ]

told_move : (b : Bool) (n m : Move) → cond b None (Some n) ≡ Some m → n ≡ m
told_move true n m is = cc
told_move false n m is = same_Some n m is

pub since_tells_difference : SinceTellsDifference
since_tells_difference log all start selector revision m keeps order ascend fit is =
    let newer = filter (is_later_of selector revision) all in
    let older = changes_until selector revision all in
    let then = after_all start older in
    let told : net selector newer ≡ m = told_move (nat_lt revision (horizon_of all)) (net selector newer) m (sym (kept_changes_tell log all keeps order selector revision) ∙ is) in
    let split = split_at selector revision 0 all order in
    let parts = fit-append start newer older (subst (λ cs. AllFit start cs) split fit) in
    let exact : IsMove then (after_all then newer) (net selector newer) = net_is_exact selector then newer (after-ascends start older ascend) parts.1 in
    let now : after_all start (changes_of selector all) ≡ after_all then newer = ap (after_all start) split ∙ after-append start newer older in
    rw now (subst (λ n. IsMove then (after_all then newer) n) told exact)
