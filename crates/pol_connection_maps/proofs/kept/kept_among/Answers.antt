use Rattle.std.proofs.Common.{◌<◌, ◌++◌, ◌+◌, drop, length, sym, ap, ◌∙◌, arith}
use Rattle.std.specs.Option.{option_copied}
use Rattle.pol_connection_maps.specs.Lists.{kept_ends, seen_of}
use Rattle.pol_connection_maps.specs.Stays.{HasItsMap}
use Rattle.pol_connection_maps.proofs.Firsts.{not_kept, one_kept, split_at}
use Rattle.pol_connection_maps.proofs.Lookup.{every_at}
use Rattle.pol_connection_maps.proofs.Standing.{found_stands}
use Rattle.pol_connection_maps.proofs.kept.kept_among.Goals as goal
use Rattle.pol_connection_maps.proofs.kept.kept_among.Goals.{in-Some+in_ok-push, in_default}

pub new-requires : goal.new-requires
new-requires c =
    let before = c.requires.before in
    let maps = c.requires.their.maps in
    let end = c.end-item.result in
    let found = sym (ap (λ n. seen_of n before) c.name.ensures) ∙ sym (c.first_named.ensures before c.requires.are) ∙ ap option_copied c.in-Some.is in
    λ same. c.is_as_it_was-same.ensures same maps (found_stands maps.before before end.name _ c.requires.their.was found)
    (every_at (HasItsMap maps.after) c.args.after.now c.loop-end.end-index end c.requires.their.is (omega (arith, c.loop-end-test.true)) c.end-item.is)
    c.requires.their.stay

pub loop-end-preserved : goal.loop-end-preserved
loop-end-preserved c = λ before are.
    let all = c.args.after.now in
    let i = c.loop-end.end-index in
    let end = c.end-item.result in
    let within : i < length all = omega (arith, c.loop-end-test.true) in
    let split = split_at all i end within c.end-item.is in
    let so_far = c.loop-end.invariant before are in
    let found = sym (ap (λ n. seen_of n before) c.name.ensures) ∙ sym (c.first_named.ensures before are) in
    elim c.match-first_named.branch [
      | in-Some+in_ok-push w ↦
          ap (λ k. k.items ++ kept_ends c.args.halves before (drop (i + 1) all)) w.kept-is
          ∙ one_kept c.args.halves before all i end c.loop-end.kept.items split so_far _ _ _ (found ∙ ap option_copied w.in-Some.is) w.new.ensures w.in_ok-push.ensures.items
      | in_default w ↦
          ap (λ k. k.items ++ kept_ends c.args.halves before (drop (i + 1) all)) w.kept-is
          ∙ not_kept c.args.halves before all i end c.loop-end.kept.items split so_far (found ∙ ap option_copied w.in_default.is)
    ]
