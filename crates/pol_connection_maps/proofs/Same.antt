-- Lists of entries that pass the test of sameness are one list.
use Rattle.std.proofs.Common.{◌≡◌, ◌&&◌, Bool, true, List, ap, rules}
use Rattle.std.specs.Bool.{Decides}
use Rattle.std.specs.Cmp.Lexicographic.{pointwise, pointwise_decides}
use Rattle.std.proofs.lemmas.Bool.Decides.{Decides-and, Decides-like}
use Rattle.pol_mapkey.specs.declared.Kind.{Kind}
use Rattle.pol_mapkey.specs.Entries.{Entry}
use Rattle.pol_mapkey.specs.contracts.KindPartialEq.TheImpl as kind
use Rattle.pol_mapkey.specs.contracts.MapKeyPartialEq.TheImpl as map_key
use Rattle.pol_mapkey.proofs.Equality.{map_key_eq-Decides}

kind_eq-Decides : (j k : Kind) → Decides (kind.ghosts.eq j k) (j ≡ k)
kind_eq-Decides j k = search rules

abbrev pub same_entry : Entry → Entry → Bool
same_entry a b = map_key.ghosts.eq a.0 b.0 && kind.ghosts.eq a.1 b.1

same_entry-Decides : (a b : Entry) → Decides (same_entry a b) (a ≡ b)
same_entry-Decides a b =
    Decides-like _ (λ both i. (both.0 i, both.1 i)) (λ e. (ap (λ (x : Entry). x.0) e, ap (λ (x : Entry). x.1) e))
    (Decides-and _ _ (map_key_eq-Decides a.0 b.0) (kind_eq-Decides a.1 b.1))

pub same_lists : (xs ys : List Entry) → pointwise same_entry xs ys ≡ true → xs ≡ ys
same_lists xs ys same = (pointwise_decides same_entry-Decides xs ys).0 same
