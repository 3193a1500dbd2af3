use Rattle.std.proofs.Common.{option_map, ap, ◌∙◌}
use Rattle.pol_model.specs.Remote.{longest_at}
use Rattle.pol_prefixes.proofs.Tables.{longest_found}
use Rattle.pol_allocator.specs.Held.{Held}
use Rattle.pol_allocator.proofs.allocator.Allocator.number_at.Goals as goal

pub returns : goal.returns
returns c = record {
  longest = c.find.ensures.scan ∙ longest_found c.self.inside.identities c.self.inside.prefixes c.args.address c.self.invariant.1
      ∙ ap (λ (held : Held). option_map (λ found. found.1) (longest_at c.args.address held.rows)) c.self.view_is;
}
