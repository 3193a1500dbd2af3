use Rattle.std.proofs.Common.{sym, ◌∙◌}
use Rattle.pol_model.specs.Policies.{is_of_key}
use Rattle.pol_tables.proofs.Places.{found_at, nobody, none_found, place_within}
use Rattle.pol_tables.proofs.policies.Policies.find.Goals as goal

pub at-requires : goal.at-requires
at-requires c = record { within = place_within (is_of_key c.args.key.now) c.args.self.now.list c.in-Some.place (sym c.in-Some.ensures.place) }

pub returns-in-Some : goal.returns-in-Some
returns-in-Some c = record { found = sym c.at.ensures.at ∙ found_at (is_of_key c.args.key.now) c.args.self.now.list c.in-Some.place (sym c.in-Some.ensures.place) }

pub returns-in-None : goal.returns-in-None
returns-in-None c = record { found = sym (none_found (is_of_key c.args.key.now) c.args.self.now.list (nobody (is_of_key c.args.key.now) c.args.self.now.list (sym c.in-None.ensures.place))) }
