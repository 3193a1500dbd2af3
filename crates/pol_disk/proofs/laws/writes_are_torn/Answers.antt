use Rattle.std.proofs.Common.{◌≡◌, ℕ, List, slice_index, refl, ap, arith}
use Rattle.pol_disk.proofs.laws.writes_are_torn.Goals as goal

pub returns : goal.returns
returns c = record {
  written = refl;
  appended = refl;
  any_bytes = record { before = refl; after = refl; no_shorter = omega arith; no_longer = omega arith };
  part_of_the_end = record { before = refl; after = refl; no_shorter = omega arith; no_longer = omega arith };
  before_it = λ torn. let firsts : 7 ≡ 1 = ap (λ (bytes : List ℕ). slice_index bytes 0) torn.before in omega (arith, firsts);
  behind_it = λ torn. let firsts : 7 ≡ 2 = ap (λ (bytes : List ℕ). slice_index bytes 0) torn.after in omega (arith, firsts);
  shorter = λ torn. let shorter = torn.no_shorter in omega (arith, shorter);
  longer = λ torn. let longer = torn.no_longer in omega (arith, longer);
}
