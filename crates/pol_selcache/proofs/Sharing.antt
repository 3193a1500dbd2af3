-- A set that was made of these, where it was made of equal ones.
use Rattle.std.proofs.Common.{◌≡◌, ℕ, ◌&&◌, ◌||◌, not, true, nat_eq, List, ◌∙◌}
use Rattle.std.specs.Cmp.Lexicographic.{bytes_decides, pointwise}
use Rattle.std.proofs.lemmas.Bool.{and_parts}
use Rattle.pol_set_changes.specs.Ids.{has}
use Rattle.pol_selcache.specs.Made.{IsMadeOf, Made, is_of}

pub made_of : (was gained lost : List ℕ) (made : Made) → is_of was gained lost made ≡ true → (set : List ℕ) → IsMadeOf made.was made.gained made.lost set → IsMadeOf was gained lost set
made_of was gained lost made same set is =
    let outer = and_parts (pointwise nat_eq made.was was && pointwise nat_eq made.gained gained) (pointwise nat_eq made.lost lost) same in
    let inner = and_parts (pointwise nat_eq made.was was) (pointwise nat_eq made.gained gained) outer.0 in
    let was_is : made.was ≡ was = (bytes_decides made.was was).0 inner.0 in
    let gained_is : made.gained ≡ gained = (bytes_decides made.gained gained).0 inner.1 in
    let lost_is : made.lost ≡ lost = (bytes_decides made.lost lost).0 outer.1 in
    made_as made.was was made.gained gained made.lost lost was_is gained_is lost_is set is
  where
    made_as : (a b c d e f : List ℕ) → a ≡ b → c ≡ d → e ≡ f → (s : List ℕ) → IsMadeOf a c e s → IsMadeOf b d f s
    made_as a b c d e f ab cd ef s made = record {
      members = λ n. made.members n ∙ (λ i. (has n (ab i) && not (has n (ef i))) || has n (cd i));
      set = made.set;
    }
