-- The difference on all groups is the whole difference: a number that stands in neither table reads as 0 does.
use Rattle.std.proofs.Common.{◌≡◌, ℕ, zero, suc, ◌<◌, ◌==◌, ◌||◌, not, Bool, true, false, cond, IsTrue, List, [], ◌++◌, Option, Some, None, refl, sym, ap, subst, ◌∙◌, inl, inr, ◌⊎◌, arith}
use Rattle.std.specs.List.{Contains, flat_map}
use Rattle.std.proofs.lemmas.Bool.{and_from, and_parts, cases_Bool, eq-eqb, eqb-true, false_from_ne_true, or_cases, or_parts}
use Rattle.std.proofs.lemmas.List.Elements.{Contains-append_cases, Contains-append_left, Contains-append_right}
use Rattle.pol_data.proofs.Members.{In-from_Contains, list_any-none_in}
use Rattle.pol_ports.specs.declared.Direction.{Direction}
use Rattle.pol_ports.specs.declared.Direction.TheVariants.{Ingress, Egress}
use Rattle.pol_ports.specs.declared.Proto.{Proto}
use Rattle.pol_ports.specs.Direction.{same_direction}
use Rattle.pol_mapkey.specs.declared.Kind.TheVariants.{Allow, Deny}
use Rattle.pol_mapkey.specs.declared.Word.{Word}
use Rattle.pol_mapkey.specs.MapKey.{covers_packet}
use Rattle.pol_mapkey.specs.Entries.{Entry, longest, reaches, read_map, word_of}
use Rattle.pol_mapkey.proofs.Keys.{packet_is}
use Rattle.pol_mapkey.proofs.Longest.{longest_none}
use Rattle.pol_audit.specs.declared.difference.Difference.{Difference}
use Rattle.pol_audit.specs.declared.difference.Numbers.TheVariants.{EveryOther, One}
use Rattle.pol_audit.specs.declared.group.Group.{Group}
use Rattle.pol_audit.specs.Difference.{IsDifference, IsNamed, IsTold, has_number}
use Rattle.pol_audit.specs.Exact.{AreNumbers, AreOf, GrownIn, Tells, groups_at, words_of}
use Rattle.pol_audit.specs.Packets.{direction_place, words}
use Rattle.pol_audit.specs.Ranges.{numbers_of}
use Rattle.pol_audit.specs.Tables.{is_at, stands}
use Rattle.pol_audit.proofs.Groups.{has_numbers, of_numbers}
use Rattle.pol_audit.proofs.Orders.{Apart, joined}

-- ---- a number that doesn't stand in a table reads as 0 does
pub same_dir : (dir : Direction) → same_direction dir dir ≡ true
same_dir Ingress = refl
same_dir Egress = refl

pub twice : (x : Option Entry) → word_of None x ≡ word_of x x
twice None = refl
twice (Some (key, Allow)) = refl
twice (Some (key, Deny)) = refl

reads_as_0 : (entries : List Entry) (dir : Direction) (id : ℕ) (proto : Proto) (port : ℕ) → stands dir id entries ≡ false → read_map entries dir id proto port ≡ read_map entries dir 0 proto port
unfolding read_map
reads_as_0 entries dir id proto port none =
    ap (λ own. word_of own (longest entries dir 0 proto port)) (longest_none dir id proto port entries nothing) ∙ twice (longest entries dir 0 proto port)
  where
    nothing : (e : Entry) → Contains entries e → reaches dir id proto port e ≡ false
    nothing e there = false_from_ne_true (reaches dir id proto port e) (λ t.
        let both = and_parts (e.0.id == id) (covers_packet e.0 dir proto port) t in
        let is = packet_is e.0 dir proto port both.1 in
        let at : is_at dir id e ≡ true = and_from (same_direction e.0.dir dir) (e.0.id == id) (ap (λ d. same_direction e.0.dir d) (sym is.0) ∙ same_dir e.0.dir) both.0 in
        let off = list_any-none_in (is_at dir id) entries none e (In-from_Contains entries e there) in
        let wrong : true ≡ false = sym at ∙ off in cc)

module _ (left right : List Entry) where
  either : Direction → ℕ → Bool
  either dir id = stands dir id left || stands dir id right

  words_as_0 : (dir : Direction) (id : ℕ) (proto : Proto) (port : ℕ) → (stands dir id left || stands dir id right) ≡ false → words left right dir id proto port ≡ words left right dir 0 proto port
  words_as_0 dir id proto port none =
      let both = or_parts (stands dir id left) (stands dir id right) none in
      let one = reads_as_0 left dir id proto port both.0 in
      let two = reads_as_0 right dir id proto port both.1 in
      λ i. (one i, two i)

  -- the words of a number among those of a group are the group's
  group_words : (g : Group) (b : Bool) (id port : ℕ) → (g.id == 0) ≡ b → IsTrue (has_number left right g.dir (cond b EveryOther (One g.id)) id) → words left right g.dir id g.proto port ≡ words left right g.dir g.id g.proto port
  group_words g true id port is has =
      let zero' = eqb-true g.id 0 is in
      elim (or_cases (id == 0) (not (stands g.dir id left || stands g.dir id right)) has) [
        | inl same ↦ ap (λ n. words left right g.dir n g.proto port) (eqb-true id 0 same ∙ sym zero')
        | inr other ↦ words_as_0 g.dir id g.proto port (not_true (stands g.dir id left || stands g.dir id right) other) ∙ ap (λ n. words left right g.dir n g.proto port) (sym zero')
      ]
    where
      not_true : (b : Bool) → not b ≡ true → b ≡ false
      not_true true t = let wrong : false ≡ true = t in absurd (let e : ⊥ = cc in e)
      not_true false t = refl
  group_words g false id port is has = ap (λ n. words left right g.dir n g.proto port) (eqb-true id g.id has)

  named : (dir : Direction) (id : ℕ) (b : Bool) → (id == 0) ≡ b → (id ≡ 0) ⊎ IsTrue (stands dir id left || stands dir id right) → IsNamed left right dir (cond b EveryOther (One id))
  named dir id true is there = tt
  named dir id false is (inl zero') = absurd (let wrong : true ≡ false = sym (eq-eqb id 0 zero') ∙ is in let e : ⊥ = cc in e)
  named dir id false is (inr stands') = (positive id is, stands')
    where
      positive : (n : ℕ) → (n == 0) ≡ false → 0 < n
      positive zero f = absurd (let wrong : true ≡ false = f in let e : ⊥ = cc in e)
      positive (suc n) f = omega arith

  -- a range of a group tells what is so
  told : (g : Group) (d : Difference) → (g.id ≡ 0) ⊎ IsTrue (stands g.dir g.id left || stands g.dir g.id right) → Tells left right g d → IsTold left right d
  told g d stands' tells =
      record {
        ordered = tells.ordered;
        ports = tells.ports;
        named = subst (λ dir. IsNamed left right dir d.numbers) (sym tells.of.dir) (subst (λ ns. IsNamed left right g.dir ns) (sym tells.of.numbers) (named g.dir g.id (g.id == 0) refl stands'));
        said = λ dir id proto port lies.
            let dirs : dir ≡ g.dir = sym lies.direction ∙ tells.of.dir in
            let protos : proto ≡ g.proto = sym lies.protocol ∙ tells.of.proto in
            let has : IsTrue (has_number left right g.dir (numbers_of g.id) id) = subst (λ e. IsTrue (has_number left right e (numbers_of g.id) id)) dirs (subst (λ ns. IsTrue (has_number left right dir ns id)) tells.of.numbers lies.number) in
            ap (λ e. words left right e id proto port) dirs ∙ ap (λ p. words left right g.dir id p port) protos
            ∙ group_words g (g.id == 0) id port refl has ∙ tells.said port lies.from lies.to;
        differ = tells.differ;
      }

  -- the number that a number reads as
  find_group : (dir : Direction) (numbers : List ℕ) → AreNumbers left right dir numbers → (id : ℕ)
      → (n : ℕ) × Contains numbers n × IsTrue (has_number left right dir (numbers_of n) id) × ((proto : Proto) (port : ℕ) → words left right dir id proto port ≡ words left right dir n proto port)
  find_group dir numbers are id =
      elim (cases_Bool (stands dir id left || stands dir id right)) [
        | inl there ↦ (id, (are id).1 (inr there), own id, λ proto port. refl)
        | inr none ↦ (0, (are 0).1 (inl refl), or_right' (id == 0) (not (stands dir id left || stands dir id right)) (ap not none), λ proto port. words_as_0 dir id proto port none)
      ]
    where
      or_right' : (a b : Bool) → b ≡ true → (a || b) ≡ true
      or_right' true b t = refl
      or_right' false b t = t

      by : (n : ℕ) (b : Bool) → (n == 0) ≡ b → IsTrue (has_number left right dir (cond b EveryOther (One n)) n)
      by n true is = ap (λ b. b || not (stands dir n left || stands dir n right)) is
      by n false is = eq-eqb n n refl

      own : (n : ℕ) → IsTrue (has_number left right dir (numbers_of n) n)
      own n = by n (n == 0) refl

  -- ---- both directions
  module _ (ingress egress : List ℕ) (are_in : AreNumbers left right Ingress ingress) (are_out : AreNumbers left right Egress egress) where
    abbrev groups : List Group
    groups = flat_map (groups_at Ingress) ingress ++ flat_map (groups_at Egress) egress

    apart : (g h : Group) → Contains (flat_map (groups_at Ingress) ingress) g → Contains (flat_map (groups_at Egress) egress) h → Apart g h
    apart g h in_g in_h =
        let one = of_numbers Ingress ingress g in_g in
        let two = of_numbers Egress egress h in_h in
        inl (subst (λ d. direction_place d < direction_place h.dir) (sym one.0) (subst (λ d. 0 < direction_place d) (sym two.0) (omega arith)))

    stands_in : (g : Group) → Contains groups g → (g.id ≡ 0) ⊎ IsTrue (stands g.dir g.id left || stands g.dir g.id right)
    stands_in g there = elim (Contains-append_cases (flat_map (groups_at Ingress) ingress) (flat_map (groups_at Egress) egress) g there) [
      | inl here ↦ (let is = of_numbers Ingress ingress g here in subst (λ d. (g.id ≡ 0) ⊎ IsTrue (stands d g.id left || stands d g.id right)) (sym is.0) ((are_in g.id).0 is.1))
      | inr here ↦ (let is = of_numbers Egress egress g here in subst (λ d. (g.id ≡ 0) ⊎ IsTrue (stands d g.id left || stands d g.id right)) (sym is.0) ((are_out g.id).0 is.1))
    ]

    find_in : (dir : Direction) (numbers : List ℕ) (id : ℕ) (proto : Proto) → AreNumbers left right dir numbers
        → ((g : Group) → Contains (flat_map (groups_at dir) numbers) g → Contains groups g)
        → (g : Group) × Contains groups g × (g.dir ≡ dir) × (g.proto ≡ proto) × IsTrue (has_number left right dir (numbers_of g.id) id) × ((port : ℕ) → words left right dir id proto port ≡ words_of left right g port)
    find_in dir numbers id proto are within =
        let found = find_group dir numbers are id in
        (record { dir = dir; id = found.0; proto = proto }, within _ (has_numbers dir numbers found.0 proto found.1), refl, refl, found.2, λ port. found.3 proto port)

    group_of : (dir : Direction) (id : ℕ) (proto : Proto)
        → (g : Group) × Contains groups g × (g.dir ≡ dir) × (g.proto ≡ proto) × IsTrue (has_number left right dir (numbers_of g.id) id) × ((port : ℕ) → words left right dir id proto port ≡ words_of left right g port)
    group_of Ingress id proto = find_in Ingress ingress id proto are_in (λ g there. Contains-append_left (flat_map (groups_at Ingress) ingress) (flat_map (groups_at Egress) egress) g there)
    group_of Egress id proto = find_in Egress egress id proto are_out (λ g there. Contains-append_right (flat_map (groups_at Ingress) ingress) (flat_map (groups_at Egress) egress) g there)

    difference : (list : List Difference) → AreOf left right groups list → IsDifference left right list
    difference list are =
        record {
          told = λ d there. let found = are.each d there in told found.0 d (stands_in found.0 found.1) found.2;
          whole = λ dir id proto port small differ.
              let own = group_of dir id proto in
              let same = own.5 port in
              let found = are.whole own.0 own.1 port small (λ e. differ (ap (λ (w : Word × Word). w.0) same ∙ e ∙ sym (ap (λ (w : Word × Word). w.1) same))) in (
                found.0,
                found.1,
                record {
                  direction = found.2.dir ∙ own.2;
                  number = subst (λ ns. IsTrue (has_number left right dir ns id)) (sym found.2.numbers) own.4;
                  protocol = found.2.proto ∙ own.3;
                  from = found.3;
                  to = found.4;
                },
              );
          ascend = are.ascend;
        }

  pub whole_difference : (middle new : List Difference) → GrownIn left right Ingress [] middle → GrownIn left right Egress middle new → IsDifference left right new
  whole_difference middle new (ingress, are_in, (made, is, front)) (egress, are_out, (more, is', back)) =
      subst (IsDifference left right) (sym (is' ∙ ap (λ xs. xs ++ more) is))
      (difference ingress egress are_in are_out (made ++ more)
      (joined left right (flat_map (groups_at Ingress) ingress) (flat_map (groups_at Egress) egress) made more front back (apart ingress egress are_in are_out)))

-- at the names that the function has for the tables and lists
pub whole_of : (left right ls rs : List Entry) (none middle new list : List Difference) → ls ≡ left → rs ≡ right → none ≡ [] → list ≡ new
    → GrownIn ls rs Ingress none middle → GrownIn ls rs Egress middle new → IsDifference left right list
whole_of left right ls rs none middle new list left_is right_is none_is list_is one two =
    subst (λ xs. IsDifference left right xs) (sym list_is)
    (subst (λ es. IsDifference es right new) left_is
    (subst (λ es. IsDifference ls es new) right_is
    (whole_difference ls rs middle new (subst (λ xs. GrownIn ls rs Ingress xs middle) none_is one) two)))
