use Rattle.std.proofs.Common.{◌≡◌, false, Option, Some, None, is_some, refl, sym, ◌∙◌}
use Rattle.pol_trie.specs.Roots.{policy_of}
use Rattle.pol_trie.specs.declared.key_set.KeySet.{KeySet}
use Rattle.pol_trie.specs.declared.root.Root.{Root}
use Rattle.pol_trie.proofs.RootCalls.{none_in}
use Rattle.pol_trie.proofs.Reading.{missed_longest}
use Rattle.pol_trie.proofs.root.longest_of_zero.Goals as goal

not_there : (o : Option KeySet) → is_some o ≡ false → o ≡ None
not_there None e = refl
not_there (Some s) e = cc

pub returns-else-has-clause-kind : goal.returns-else-has-clause-kind
returns-else-has-clause-kind g c =
    let es = c.args.roots.now.entries in
    let root : Root = record { dir = c.args.dir; id = 0 } in
    missed_longest (policy_of es) root.dir root.id c.args.proto c.args.port
    (none_in es c.requires.unique root (not_there _ (sym (c.requires.zeros c.args.dir) ∙ sym c.has.ensures ∙ c.if-has.false)))
