use Rattle.std.proofs.Common.{◌≡◌, ◌||◌, ap, ◌∙◌}
use Rattle.pol_headings.specs.Inside.{stands_in_octets}
use Rattle.pol_headings.specs.Tried.{is_among, is_filed_as}
use Rattle.pol_headings.specs.declared.heading.Heading.{Heading}
use Rattle.pol_headings.proofs.Added.{joined}
use Rattle.pol_headings.proofs.Selected.{has_all, has_heading}
use Rattle.pol_headings.proofs.headings.Headings.add_all_of.Goals as goal

added : (c : goal.In_ok-add_prefix) → (other : Heading) → is_among c.add_prefix.new.self other ≡ (is_among c.args.self.now other || is_filed_as c.args.labels.now c.args.prefix.now other)
added c other =
    let old = is_among c.args.self.now other in
    c.in_ok-add_prefix.ensures other
    ∙ ap (λ b. b || stands_in_octets c.args.prefix.now other)
    (c.in_ok-add_labels.ensures other
    ∙ ap (λ labels. is_among c.add.new.self other || has_heading labels other) c.as_slice.ensures.labels
    ∙ ap (λ b. b || has_heading c.args.labels.now other) (c.in_ok-add.ensures other))
    ∙ joined old c.args.labels.now c.args.prefix.now other

pub returns-clause-added : goal.returns-clause-added
returns-clause-added = added

pub returns-clause-all : goal.returns-clause-all
returns-clause-all c = has_all c.args.labels.now c.args.prefix.now c.args.self.now c.add_prefix.new.self (added c)
