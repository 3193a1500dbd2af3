-- Lists of ranges in order.
use Rattle.std.proofs.Common.{◌≡◌, ℕ, ◌==◌, Bool, true, false, cond, List, [], ◌∷◌, ◌++◌, refl, sym, ap, subst, ◌∙◌, inl, inr, arith}
use Rattle.std.specs.List.{Contains}
use Rattle.std.proofs.lemmas.Bool.{eqb-true}
use Rattle.std.proofs.lemmas.List.Elements.{Contains-append_left, Contains-append_right, Contains-append_cases}
use Rattle.pol_data.proofs.Every.{every-append}
use Rattle.pol_data.proofs.Members.{Contains-from_In, Contains-here, Contains-later, every-from_in}
use Rattle.pol_ports.specs.declared.Direction.{Direction}
use Rattle.pol_ports.specs.declared.Proto.{Proto}
use Rattle.pol_audit.specs.declared.difference.Difference.{Difference}
use Rattle.pol_audit.specs.declared.difference.Numbers.TheVariants.{EveryOther, One}
use Rattle.pol_audit.specs.declared.group.Group.{Group}
use Rattle.pol_audit.specs.Difference.{Ascend, IsBefore, IsBelow, least_number}
use Rattle.pol_audit.specs.Exact.{AreOf, IsOf}
use Rattle.pol_audit.specs.Packets.{ComesBefore}
use Rattle.pol_audit.specs.Ranges.{numbers_of}
use Rattle.pol_mapkey.specs.Entries.{Entry}

pub ascend-append : (xs ys : List Difference) → Ascend xs → Ascend ys → ((d e : Difference) → Contains xs d → Contains ys e → IsBefore d e) → Ascend (xs ++ ys)
unfolding Ascend
ascend-append [] ys front back apart = back
ascend-append (x ∷ xs) ys front back apart = (
  every-append (IsBefore x) xs ys front.0 (every-from_in (IsBefore x) ys (λ e there. apart x e (Contains-here x xs) (Contains-from_In ys e there))),
  ascend-append xs ys front.1 back (λ d e in_d in_e. apart d e (Contains-later x xs d in_d) in_e),
)

pub ascend-none : Ascend []
unfolding Ascend
ascend-none = tt

pub ascend-one : (d : Difference) → Ascend (d ∷ [])
unfolding Ascend
ascend-one d = (tt, tt)

pub number_back : (id : ℕ) → least_number (numbers_of id) ≡ id
number_back id = back (id == 0) refl
  where
    back : (b : Bool) → (id == 0) ≡ b → least_number (cond b EveryOther (One id)) ≡ id
    back true is = sym (eqb-true id 0 is)
    back false is = refl

-- groups in order
abbrev pub Apart : Group → Group → Type 0
Apart g h = ComesBefore g.dir g.id g.proto h.dir h.id h.proto ⊥

-- the number of a range of a group
least_is : (g : Group) (d : Difference) → IsOf g d → least_number d.numbers ≡ g.id
least_is g d of = ap least_number of.numbers ∙ number_back g.id

same_group : (dir dir' : Direction) (id id' : ℕ) (proto proto' : Proto) (P : Type 0) → dir ≡ dir' → id ≡ id' → proto ≡ proto' → P → ComesBefore dir id proto dir' id' proto' P
same_group dir dir' id id' proto proto' P one two three p = inr (one, inr (two, inr (three, p)))

-- two ranges of one group
pub before_within : (g : Group) (d e : Difference) → IsOf g d → IsOf g e → IsBelow d e → IsBefore d e
before_within g d e of_d of_e below =
    same_group d.dir e.dir (least_number d.numbers) (least_number e.numbers) d.proto e.proto (IsBelow d e)
    (of_d.dir ∙ sym of_e.dir) (least_is g d of_d ∙ sym (least_is g e of_e)) (of_d.proto ∙ sym of_e.proto) below

weaker : (dir dir' : Direction) (id id' : ℕ) (proto proto' : Proto) (P : Type 0) → ComesBefore dir id proto dir' id' proto' ⊥ → ComesBefore dir id proto dir' id' proto' P
weaker dir dir' id id' proto proto' P (inl less) = inl less
weaker dir dir' id id' proto proto' P (inr (one, inl less)) = inr (one, inl less)
weaker dir dir' id id' proto proto' P (inr (one, inr (two, inl less))) = inr (one, inr (two, inl less))
weaker dir dir' id id' proto proto' P (inr (one, inr (two, inr (three, never)))) = absurd never

-- two ranges of two groups
pub before_apart : (g h : Group) (d e : Difference) → IsOf g d → IsOf h e → Apart g h → IsBefore d e
before_apart g h d e of_d of_e apart =
    let P : Direction → ℕ → Proto → Type 0 = λ dir id proto. ComesBefore dir id proto e.dir (least_number e.numbers) e.proto (IsBelow d e) in
    let Q : Direction → ℕ → Proto → Type 0 = λ dir id proto. ComesBefore g.dir g.id g.proto dir id proto (IsBelow d e) in
    let at : Q e.dir (least_number e.numbers) e.proto =
    subst (λ dir. Q dir (least_number e.numbers) e.proto) (sym of_e.dir)
    (subst (λ id. Q h.dir id e.proto) (sym (least_is h e of_e))
    (subst (λ proto. Q h.dir h.id proto) (sym of_e.proto) (weaker g.dir h.dir g.id h.id g.proto h.proto (IsBelow d e) apart))) in
    subst (λ dir. P dir (least_number d.numbers) d.proto) (sym of_d.dir)
    (subst (λ id. P g.dir id d.proto) (sym (least_is g d of_d))
    (subst (λ proto. P g.dir g.id proto) (sym of_d.proto) at))

module _ (left right : List Entry) where
  pub none_of : AreOf left right [] []
  none_of = record {
    each = λ d there. absurd (let below = there.1 in omega arith);
    whole = λ g there. absurd (let below = there.1 in omega arith);
    ascend = ascend-none;
  }

  -- the difference on some groups, and on others behind them
  pub joined : (gs hs : List Group) (xs ys : List Difference) → AreOf left right gs xs → AreOf left right hs ys
      → ((g h : Group) → Contains gs g → Contains hs h → Apart g h) → AreOf left right (gs ++ hs) (xs ++ ys)
  joined gs hs xs ys front back apart =
      record {
        each = λ d there. elim (Contains-append_cases xs ys d there) [
          | inl in' ↦ (let found = front.each d in' in (found.0, Contains-append_left gs hs found.0 found.1, found.2))
          | inr in' ↦ (let found = back.each d in' in (found.0, Contains-append_right gs hs found.0 found.1, found.2))
        ];
        whole = λ g there port below differ. elim (Contains-append_cases gs hs g there) [
          | inl in' ↦ (let found = front.whole g in' port below differ in (found.0, Contains-append_left xs ys found.0 found.1, found.2, found.3, found.4))
          | inr in' ↦ (let found = back.whole g in' port below differ in (found.0, Contains-append_right xs ys found.0 found.1, found.2, found.3, found.4))
        ];
        ascend = ascend-append xs ys front.ascend back.ascend (λ d e in_d in_e.
            let one = front.each d in_d in let two = back.each e in_e in
            before_apart one.0 two.0 d e one.2.of two.2.of (apart one.0 two.0 one.1 two.1));
      }
