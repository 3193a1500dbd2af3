-- A reference is hashed as the heading that it refers to, and found where that is. Look-ups by reference stand on this.
use Rattle.std.specs.Prelude.{◌≡◌, IsTrue}
use Rattle.std.proofs.Common.{refl, ◌∙◌}
use Rattle.pol_headings.specs.contracts.heading.HeadingEq.TheImpl.Laws.{laws-law}
use Rattle.pol_headings.specs.contracts.heading.HeadingHash.TheImpl as headings
use Rattle.pol_headings.specs.contracts.heading.HeadingHash.TheImpl.Laws.{respects_eq-law}
use Rattle.pol_headings.specs.contracts.heading_ref.HeadingRefHash.TheImpl as refs
use Rattle.pol_headings.specs.declared.heading.Heading.{Heading}
use Rattle.pol_headings.specs.declared.heading_ref.HeadingRef.{HeadingRef}
use Rattle.pol_headings.specs.declared.heading_ref.HeadingRef.TheVariants as by
use Rattle.pol_headings.specs.Heading.{heading_by, same_heading}

hash_by : (q : HeadingRef) → refs.ghosts.hash_input q ≡ headings.ghosts.hash_input (heading_by q)
hash_by (by.Label key value) = refl
hash_by (by.Prefix prefix) = refl
hash_by by.Any = refl

pub hashed_alike : (q : HeadingRef) (k : Heading) → IsTrue (same_heading (heading_by q) k) → refs.ghosts.hash_input q ≡ headings.ghosts.hash_input k
hashed_alike q k same = hash_by q ∙ respects_eq-law (heading_by q) k same

pub found_alike : (q : HeadingRef) (x y : Heading) → IsTrue (same_heading (heading_by q) x) → same_heading (heading_by q) y ≡ same_heading x y
found_alike q x y = laws-law.congr (heading_by q) x y
