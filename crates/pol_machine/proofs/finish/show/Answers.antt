-- The changes are made in the map that is published, or in an empty one.
use Rattle.std.proofs.Common.{ap, refl, sym, ◌∙◌}
use Rattle.pol_map_changes.specs.Changes.{changed}
use Rattle.pol_machine.specs.Rows.{trie_of}
use Rattle.pol_machine.proofs.Counting.{few_changes}
use Rattle.pol_machine.proofs.finish.show.Goals as goal

pub change-requires : goal.change-requires
change-requires c = record {
  few =
      few_changes c.args.changes.now c.fits_together.ensures.ascending c.in-Some.shown.trie (trie_of c.args.map.now) (ap trie_of (sym c.in-Some.is))
      c.requires.few.before c.requires.few.after;
}

pub change-requires-in-None : goal.change-requires-in-None
change-requires-in-None c = record {
  few =
      few_changes c.args.changes.now c.fits_together.ensures.ascending c.new-trie.result (trie_of c.args.map.now) (c.new-trie.ensures ∙ ap trie_of (sym c.in-None.is))
      c.requires.few.before c.requires.few.after;
}

pub returns-in_ok-change-in-Some-clause-ok : goal.returns-in_ok-change-in-Some-clause-ok
returns-in_ok-change-in-Some-clause-ok c = (
  record { revision = c.args.taken.now.revision; trie = c.change.new.self; addresses = c.in_ok-addresses.addresses },
  refl,
  record {
    revision = refl;
    trie = c.in_ok-change-in-Some.ensures.ok ∙ ap (λ map. changed c.args.changes.now (trie_of map)) (sym c.in-Some.is);
    addresses = c.in_ok-addresses.ensures.cases;
  },
)

pub returns-in_ok-change-in-None-clause-ok : goal.returns-in_ok-change-in-None-clause-ok
returns-in_ok-change-in-None-clause-ok c = (
  record { revision = c.args.taken.now.revision; trie = c.change-in-None.new.self; addresses = c.in_ok-addresses.addresses },
  refl,
  record {
    revision = refl;
    trie = c.in_ok-change-in-None.ensures.ok ∙ ap (changed c.args.changes.now) c.new-trie.ensures ∙ ap (λ map. changed c.args.changes.now (trie_of map)) (sym c.in-None.is);
    addresses = c.in_ok-addresses.ensures.cases;
  },
)
