-- The tests of sameness are true exactly where both are one.
use Rattle.std.proofs.Common.{◌≡◌, ◌&&◌, not, Bool, true, false, Option, None, Some, refl, sym, ap, subst, ◌∙◌}
use Rattle.std.proofs.lemmas.Bool.{and_from, and_parts}
use Rattle.pol_mapkey.specs.declared.Word.{Word}
use Rattle.pol_mapkey.specs.declared.Word.TheVariants.{Allowed, DeniedByRule, DeniedByDefault}
use Rattle.pol_port_ranges.specs.declared.said.Halves.{Halves}
use Rattle.pol_port_ranges.specs.declared.said.PortSaid.{PortSaid}
use Rattle.pol_port_ranges.specs.Said.{changes, differ, is_open, same_before, same_halves, same_said, same_word}

pub clash : (b : Bool) → b ≡ true → b ≡ false → ⊥
clash b t f = let wrong : true ≡ false = sym t ∙ f in cc

same_word-is : (a b : Word) → same_word a b ≡ true → a ≡ b
same_word-is Allowed Allowed t = refl
same_word-is Allowed DeniedByRule t = absurd (let wrong : ⊥ = cc in wrong)
same_word-is Allowed DeniedByDefault t = absurd (let wrong : ⊥ = cc in wrong)
same_word-is DeniedByRule Allowed t = absurd (let wrong : ⊥ = cc in wrong)
same_word-is DeniedByRule DeniedByRule t = refl
same_word-is DeniedByRule DeniedByDefault t = absurd (let wrong : ⊥ = cc in wrong)
same_word-is DeniedByDefault Allowed t = absurd (let wrong : ⊥ = cc in wrong)
same_word-is DeniedByDefault DeniedByRule t = absurd (let wrong : ⊥ = cc in wrong)
same_word-is DeniedByDefault DeniedByDefault t = refl

same_word-self : (a : Word) → same_word a a ≡ true
same_word-self Allowed = refl
same_word-self DeniedByRule = refl
same_word-self DeniedByDefault = refl

same_halves-is : (a b : Halves) → same_halves a b ≡ true → a ≡ b
same_halves-is a b t =
    let both = and_parts (same_word a.sent b.sent) (same_word a.received b.received) t in
    let one = same_word-is a.sent b.sent both.0 in
    let two = same_word-is a.received b.received both.1 in
    λ i. record { sent = one i; received = two i }

same_halves-self : (a : Halves) → same_halves a a ≡ true
same_halves-self a = and_from (same_word a.sent a.sent) (same_word a.received a.received) (same_word-self a.sent) (same_word-self a.received)

same_before-is : (a b : Option Halves) → same_before a b ≡ true → a ≡ b
same_before-is None None t = refl
same_before-is None (Some b) t = absurd (let wrong : ⊥ = cc in wrong)
same_before-is (Some a) None t = absurd (let wrong : ⊥ = cc in wrong)
same_before-is (Some a) (Some b) t = ap Some (same_halves-is a b t)

same_before-self : (a : Option Halves) → same_before a a ≡ true
same_before-self None = refl
same_before-self (Some a) = same_halves-self a

not-differ-is : (a b : Bool) → not (differ a b) ≡ true → a ≡ b
not-differ-is true true t = refl
not-differ-is true false t = absurd (let wrong : ⊥ = cc in wrong)
not-differ-is false true t = absurd (let wrong : ⊥ = cc in wrong)
not-differ-is false false t = refl

not-differ-self : (a : Bool) → not (differ a a) ≡ true
not-differ-self true = refl
not-differ-self false = refl

pub same_said-is : (a b : PortSaid) → same_said a b ≡ true → a ≡ b
same_said-is a b t =
    let first = and_parts (not (differ a.halves b.halves)) (same_halves a.after b.after && same_before a.before b.before) t in
    let both = and_parts (same_halves a.after b.after) (same_before a.before b.before) first.1 in
    let one = same_before-is a.before b.before both.1 in
    let two = same_halves-is a.after b.after both.0 in
    let three = not-differ-is a.halves b.halves first.0 in
    λ i. record { before = one i; after = two i; halves = three i }

pub same_said-self : (a : PortSaid) → same_said a a ≡ true
same_said-self a =
    and_from (not (differ a.halves a.halves)) (same_halves a.after a.after && same_before a.before a.before) (not-differ-self a.halves)
    (and_from (same_halves a.after a.after) (same_before a.before a.before) (same_halves-self a.after) (same_before-self a.before))

-- ---- where the connection opens or shuts, a half has another word
differ_self : (b : Bool) → differ b b ≡ true → ⊥
differ_self true t = cc
differ_self false t = cc

pub changes-half : (before after : Halves) → changes false before after ≡ true → changes true before after ≡ true
changes-half before after t = by (same_halves before after) refl
  where
    by : (b : Bool) → same_halves before after ≡ b → not b ≡ true
    by true is = absurd (differ_self (is_open after) (subst (λ h. differ (is_open h) (is_open after) ≡ true) (same_halves-is before after is) t))
    by false is = refl
