use Rattle.std.proofs.Common.{◌≡◌, arith}
use Rattle.std.specs.FinMap as finite
use Rattle.pol_mapkey.specs.MapKey.{key_cmp}
use Rattle.pol_mapkey.specs.declared.Kind.{Kind}
use Rattle.pol_board_view.proofs.row.show_first.Goals as goal

pub apply_to-requires : goal.apply_to-requires
apply_to-requires c =
    let room = c.requires.room c.as_slice.ensures.ascending in
    let none : finite.len c.new-trie.result ≡ 0 = rw c.new-trie.ensures (finite.len-empty key_cmp Kind) in
    record { few = omega (arith, room, none) }
