use Rattle.std.proofs.Common.{◌≡◌, ℕ, take}
use Rattle.pol_headings.specs.Filed.{has, is_filed_in}
use Rattle.pol_headings.proofs.filing.Filing.filed_under.Given as goal

abbrev pub invariant-loop-heading : goal.invariant-loop-heading
invariant-loop-heading l = (n : ℕ) → has n l.numbers.items ≡ is_filed_in l.self (take l.heading-index l.headings) n
