use Rattle.std.proofs.Common.{◌≡◌, ◌++◌, ◌∷◌, [], ap, ◌∙◌, arith}
use Rattle.pol_selectors.specs.Live.{Live, number_of}
use Rattle.pol_selectors.proofs.selectors.Selectors.push.Goals as goal

pub add_row-requires-clause-new : goal.add_row-requires-clause-new
add_row-requires-clause-new c =
    let peer = ap (λ (s : Live). s.peer) (c.in_ok-row.ensures.live 0) in
    (λ k. number_of (peer k) (c.self.view_is k)) ∙ c.requires.new

pub add_row-requires-clause-referenced : goal.add_row-requires-clause-referenced
add_row-requires-clause-referenced c =
    let one : c.in_ok-row.row.references ≡ 1 = ap (λ (s : Live). s.references) (c.in_ok-row.ensures.live 0) in
    omega arith

pub returns-clause-pushed : goal.returns-clause-pushed
returns-clause-pushed c = c.in_ok-add_row.ensures.live ∙ (λ k. c.self.view_is k ++ c.in_ok-row.ensures.live c.args.number k ∷ [])
