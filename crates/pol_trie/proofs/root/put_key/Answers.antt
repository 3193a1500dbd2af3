use Rattle.std.proofs.Common.{◌≡◌, ◌&&◌, cond, if◌then◌else◌, Some, None, is_some, is_none, refl, sym, ap, ◌∙◌}
use Rattle.std.specs.Map.{lookup}
use Rattle.pol_ports.specs.PortPrefix.{same_prefix}
use Rattle.pol_mapkey.specs.KeyProto.{same_key_proto}
use Rattle.pol_trie.specs.Roots.{root_of}
use Rattle.pol_trie.proofs.RootCalls.{same_root, kinds_of, kinds_in, none_in, policy_of-same, policy_of-put, on_err, fresh_is, unchanged}
use Rattle.pol_trie.proofs.root.put_key.Goals as goal

pub returns-in_err-had-in-Some-clause-err : goal.returns-in_err-had-in-Some-clause-err
returns-in_err-had-in-Some-clause-err c =
    let es = c.args.roots.now.entries in
    let s = c.in-Some.keys.now in
    let w = c.set.new.self in
    let root = root_of c.args.key.now in
    let there : lookup (same_root root) es ≡ Some s = sym c.in-Some.ensures.value in
    let h = c.get_mut.follows.holds w in
    on_err _
    (policy_of-same es (c.get_mut.follows.lender w).entries c.requires h.4
    (λ q. (h.3 (ap is_some there)).0 q ∙ unchanged es root s w there c.in_err-had-in-Some.ensures.err q))

pub returns-in_err-had-in-Some-clause-absent : goal.returns-in_err-had-in-Some-clause-absent
returns-in_err-had-in-Some-clause-absent c =
    let key = c.args.key.now in
    on_err _ (kinds_in c.args.roots.now.entries c.requires (root_of key) c.in-Some.keys.now (sym c.in-Some.ensures.value) key refl refl ∙ c.in_err-had-in-Some.ensures.absent)

pub returns-in_err-set-in-None-clause-absent : goal.returns-in_err-set-in-None-clause-absent
returns-in_err-set-in-None-clause-absent c =
    let key = c.args.key.now in
    on_err _ (none_in c.args.roots.now.entries c.requires (root_of key) (sym c.in-None.ensures.value) key refl refl)

pub returns-in_err-insert-in-None-clause-absent : goal.returns-in_err-insert-in-None-clause-absent
returns-in_err-insert-in-None-clause-absent c =
    let key = c.args.key.now in
    on_err _ (none_in c.args.roots.now.entries c.requires (root_of key) (sym c.in-None.ensures.value) key refl refl)

pub returns-in_ok-had-in-Some-clause-ok : goal.returns-in_ok-had-in-Some-clause-ok
returns-in_ok-had-in-Some-clause-ok c =
    let es = c.args.roots.now.entries in
    let key = c.args.key.now in
    let s = c.in-Some.keys.now in
    let w = c.set.new.self in
    let there : lookup (same_root (root_of key)) es ≡ Some s = sym c.in-Some.ensures.value in
    let h = c.get_mut.follows.holds w in
    policy_of-put es (c.get_mut.follows.lender w).entries c.requires h.4 key (Some w) (h.3 (ap is_some there)).0 c.args.kind
    (λ p q. c.in_ok-had-in-Some.ensures.ok p q ∙ ap (λ x. if same_key_proto key.proto p && same_prefix key.port q then Some c.args.kind else kinds_of x p q) (sym there))

pub returns-in_ok-had-in-Some-clause-fresh : goal.returns-in_ok-had-in-Some-clause-fresh
returns-in_ok-had-in-Some-clause-fresh c =
    let key = c.args.key.now in
    let there = kinds_in c.args.roots.now.entries c.requires (root_of key) c.in-Some.keys.now (sym c.in-Some.ensures.value) key refl refl in
    fresh_is c.in_ok-had-in-Some.had c.is_none.result c.is_none.ensures ∙ ap is_none (c.in_ok-had-in-Some.ensures.had ∙ sym there)

pub returns-in_ok-insert-in-None-clause-ok : goal.returns-in_ok-insert-in-None-clause-ok
returns-in_ok-insert-in-None-clause-ok c =
    let es = c.args.roots.now.entries in
    let key = c.args.key.now in
    let w = c.set-in-None.new.self in
    let none : lookup (same_root (root_of key)) es ≡ None = sym c.in-None.ensures.value in
    policy_of-put es c.insert.new.self.entries c.requires c.insert.ensures.unique key (Some w)
    (λ r. c.in_ok-insert-in-None.ensures.updates.0 r ∙ ap (λ m. cond (same_root (root_of key) r) (Some w) (lookup (same_root r) m.entries)) c.get_mut.follows.holds-at-none)
    c.args.kind
    (λ p q. c.in_ok-set-in-None.ensures.ok p q
    ∙ ap (λ x. if same_key_proto key.proto p && same_prefix key.port q then Some c.args.kind else x) (c.new-keys.ensures p q)
    ∙ ap (λ x. if same_key_proto key.proto p && same_prefix key.port q then Some c.args.kind else kinds_of x p q) (sym none))

pub returns-in_ok-insert-in-None-clause-fresh : goal.returns-in_ok-insert-in-None-clause-fresh
returns-in_ok-insert-in-None-clause-fresh c =
    let key = c.args.key.now in
    ap is_none (sym (none_in c.args.roots.now.entries c.requires (root_of key) (sym c.in-None.ensures.value) key refl refl))
