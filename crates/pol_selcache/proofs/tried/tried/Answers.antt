use Rattle.std.proofs.Common.{◌≡◌, true, sym, ◌∙◌}
use Rattle.pol_set_changes.specs.Ids.{has}
use Rattle.pol_data.proofs.Members.{every-from_in}
use Rattle.pol_headings.specs.Heading.{heading_of}
use Rattle.pol_headings.specs.Tried.{is_among}
use Rattle.pol_selcache.specs.Live.{Live, is_live}
use Rattle.pol_selectors.proofs.Kept.{In_stands, stands_lives}
use Rattle.pol_selcache.proofs.Numbers.{has-In}
use Rattle.pol_selcache.proofs.tried.tried.Goals as goal

pub returns-clause-live : goal.returns-clause-live
returns-clause-live c =
    let items = c.in_ok-numbers.numbers.items in
    every-from_in (λ n. is_live n c.args.table.now ≡ true) items
    (λ n there. stands_lives c.args.headings.now n c.args.table.now (sym (c.in_ok-numbers.ensures.members n ∙ c.in_ok-filed.ensures n) ∙ has-In n items there))

pub returns-clause-all : goal.returns-clause-all
returns-clause-all c =
    every-from_in (λ (s : Live). is_among c.args.headings.now (heading_of s.peer) ≡ true → has s.number c.in_ok-numbers.numbers.items ≡ true) c.args.table.now
    (λ s there among. c.in_ok-numbers.ensures.members s.number ∙ c.in_ok-filed.ensures s.number ∙ In_stands c.args.headings.now s c.args.table.now there among)
