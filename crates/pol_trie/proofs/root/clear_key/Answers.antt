use Rattle.std.proofs.Common.{◌≡◌, ◌&&◌, cond, if◌then◌else◌, Some, None, is_some, refl, sym, ap, ◌∙◌}
use Rattle.std.specs.Map.{lookup}
use Rattle.pol_ports.specs.PortPrefix.{same_prefix}
use Rattle.pol_mapkey.specs.KeyProto.{same_key_proto}
use Rattle.pol_trie.specs.Roots.{root_of, policy_of}
use Rattle.pol_trie.proofs.RootCalls.{same_root, kinds_of, kinds_in, none_in, policy_of-taken, still_absent, none_taken, taken_after}
use Rattle.pol_trie.proofs.root.clear_key.Goals as goal

pub returns-in_default-clause-there : goal.returns-in_default-clause-there
returns-in_default-clause-there c =
    let key = c.args.key.now in
    ap is_some (sym (none_in c.args.roots.now.entries c.requires (root_of key) (sym c.in_default.ensures.value) key refl refl))

pub returns-in_default-clause-rest : goal.returns-in_default-clause-rest
returns-in_default-clause-rest c =
    let es = c.args.roots.now.entries in
    let key = c.args.key.now in
    let none : lookup (same_root (root_of key)) es ≡ None = sym c.in_default.ensures.value in
    ap (λ m. policy_of m.entries) c.get_mut.follows.holds-at-none
    ∙ policy_of-taken es es c.requires c.requires key None (still_absent es (root_of key) none) (λ p q. none_taken _ none (same_key_proto key.proto p && same_prefix key.port q) p q)

pub returns-then-is_empty-clause-there : goal.returns-then-is_empty-clause-there
returns-then-is_empty-clause-there c =
    let key = c.args.key.now in
    let there = kinds_in c.args.roots.now.entries c.requires (root_of key) c.in-Some.keys.now (sym c.in-Some.ensures.value) key refl refl in
    c.is_some-there.ensures ∙ ap is_some (c.get.ensures ∙ sym there)

pub returns-else-is_empty-clause-there : goal.returns-else-is_empty-clause-there
returns-else-is_empty-clause-there c =
    let key = c.args.key.now in
    let there = kinds_in c.args.roots.now.entries c.requires (root_of key) c.in-Some.keys.now (sym c.in-Some.ensures.value) key refl refl in
    c.is_some-there.ensures ∙ ap is_some (c.get.ensures ∙ sym there)

pub returns-then-is_empty-clause-rest : goal.returns-then-is_empty-clause-rest
returns-then-is_empty-clause-rest c =
    let es = c.args.roots.now.entries in
    let key = c.args.key.now in
    let root = root_of key in
    let s = c.in-Some.keys.now in
    let w = c.clear.new.self in
    let there : lookup (same_root root) es ≡ Some s = sym c.in-Some.ensures.value in
    let h = c.get_mut.follows.holds w in
    policy_of-taken es c.swap_remove.new.self.entries c.requires c.swap_remove.ensures.unique key None
    (λ r. c.swap_remove.ensures.updates.0 r ∙ ap (cond (same_root root r) None) ((h.3 (ap is_some there)).0 r) ∙ taken_after (same_root root r) (Some w) (lookup (same_root r) es))
    (λ p q. sym (c.is_empty.ensures.empty c.if-is_empty.true p q) ∙ c.clear.ensures p q
    ∙ ap (λ x. if same_key_proto key.proto p && same_prefix key.port q then None else kinds_of x p q) (sym there))

pub returns-else-is_empty-clause-rest : goal.returns-else-is_empty-clause-rest
returns-else-is_empty-clause-rest c =
    let es = c.args.roots.now.entries in
    let key = c.args.key.now in
    let s = c.in-Some.keys.now in
    let w = c.clear.new.self in
    let there : lookup (same_root (root_of key)) es ≡ Some s = sym c.in-Some.ensures.value in
    let h = c.get_mut.follows.holds w in
    policy_of-taken es (c.get_mut.follows.lender w).entries c.requires h.4 key (Some w) (h.3 (ap is_some there)).0
    (λ p q. c.clear.ensures p q ∙ ap (λ x. if same_key_proto key.proto p && same_prefix key.port q then None else kinds_of x p q) (sym there))
