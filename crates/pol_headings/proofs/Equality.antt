-- Headings are the same exactly where they are equal.
use Rattle.std.proofs.Common.{◌≡◌, true, refl}
use Rattle.std.specs.Bool.{Decides}
use Rattle.std.specs.Cmp.Lexicographic.{bytes_decides}
use Rattle.std.proofs.lemmas.Bool.Decides.{Decides-like, Decides-and}
use Rattle.pol_addr.proofs.Equality.{prefix_eq-Decides}
use Rattle.pol_headings.specs.Heading.{same_heading}
use Rattle.pol_headings.specs.declared.heading.Heading.{Heading}
use Rattle.pol_headings.specs.declared.heading.Heading.TheVariants as is

pub same_heading-Decides : (a b : Heading) → Decides (same_heading a b) (a ≡ b)
same_heading-Decides (is.Label k v) (is.Label l w) =
    Decides-like _ (λ e i. is.Label (e.0 i) (e.1 i)) (λ e. (cc, cc)) (Decides-and _ _ (bytes_decides k l) (bytes_decides v w))
same_heading-Decides (is.Label k v) (is.Prefix q) = (λ e. cc, λ e. cc)
same_heading-Decides (is.Label k v) is.Any = (λ e. cc, λ e. cc)
same_heading-Decides (is.Prefix p) (is.Label l w) = (λ e. cc, λ e. cc)
same_heading-Decides (is.Prefix p) (is.Prefix q) = Decides-like _ (λ e i. is.Prefix (e i)) (λ e. cc) (prefix_eq-Decides p q)
same_heading-Decides (is.Prefix p) is.Any = (λ e. cc, λ e. cc)
same_heading-Decides is.Any (is.Label l w) = (λ e. cc, λ e. cc)
same_heading-Decides is.Any (is.Prefix q) = (λ e. cc, λ e. cc)
same_heading-Decides is.Any is.Any = (λ e. refl, λ e. refl)

pub same_heading-is : (a b : Heading) → same_heading a b ≡ true → a ≡ b
same_heading-is a b = (same_heading-Decides a b).0

pub same_heading-self : (a : Heading) → same_heading a a ≡ true
same_heading-self a = (same_heading-Decides a a).1 refl
