-- The places are the passes of a new board, and the last ones are handed out.
use Rattle.std.proofs.Common.{◌≡◌, ℕ, ◌+◌, List, drop, length, sym, ap, ◌∙◌, subst, arith}
use Rattle.std.proofs.lemmas.List.{length-drop}
use Rattle.std.specs.List.{AllByRecursion, slice_get}
use Rattle.pol_history.specs.Grows.{PassState, nothing_yet}
use Rattle.pol_board.specs.Counts.{new_passes}
use Rattle.pol_node.proofs.Places.{apart_behind, nothing_behind, places_long}
use Rattle.pol_node.proofs.node.Node.new.Goals as goal

-- those handed out, by what the places are
handed_out_are : (n : ℕ) (places rest : List PassState) → places ≡ new_passes n → rest ≡ drop 257 places → rest ≡ drop 257 (new_passes n)
handed_out_are n places rest are is = is ∙ ap (λ (passes : List PassState). drop 257 passes) are

count_behind : (n : ℕ) (rest : List PassState) → rest ≡ drop 257 (new_passes (257 + n)) → length rest ≡ n
count_behind n rest are =
    let long = places_long (257 + n) in
    let behind = length-drop 257 (new_passes (257 + n)) in
    omega (arith, ap length are, behind, long)

pub seated-requires : goal.seated-requires
seated-requires g c = let long = places_long (257 + c.args.config.passes) in record { enough = omega (arith, ap length c.requires.places, long) }

pub returns-clause-count : goal.returns-clause-count
returns-clause-count g c =
    count_behind c.args.config.passes c.in-Ok.seated.1.items
    (handed_out_are (257 + c.args.config.passes) c.args.places.items c.in-Ok.seated.1.items c.requires.places c.in-Ok.ensures.rest)

pub returns-clause-nothing : goal.returns-clause-nothing
returns-clause-nothing g c =
    let n = 257 + c.args.config.passes in
    let are = handed_out_are n c.args.places.items c.in-Ok.seated.1.items c.requires.places c.in-Ok.ensures.rest in
    subst (λ (passes : List PassState). AllByRecursion (λ pass. pass.has ≡ nothing_yet) passes) (sym are) (nothing_behind 257 n)

pub returns-clause-apart : goal.returns-clause-apart
returns-clause-apart g c = λ i j one other at_i at_j same.
    let n = 257 + c.args.config.passes in
    let are = handed_out_are n c.args.places.items c.in-Ok.seated.1.items c.requires.places c.in-Ok.ensures.rest in
    apart_behind 257 n i j one other (ap (λ (passes : List PassState). slice_get passes i) (sym are) ∙ at_i) (ap (λ (passes : List PassState). slice_get passes j) (sym are) ∙ at_j) same
