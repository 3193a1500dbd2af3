-- The ranges that are found for a packet say what the map says of it.
use Rattle.std.proofs.Common.{◌≡◌, ◌≢◌, ℕ, ◌+◌, ◌^◌, ◌<◌, ◌≤◌, ◌==◌, ◌&&◌, ◌||◌, not, nat_le, Bool, true, false, cond, List, [], ◌∷◌, IsTrue, filter, refl, sym, ap, subst, ◌∙◌, ◌⊎◌, inl, inr, arith}
use Rattle.std.specs.List.{All, Contains}
use Rattle.std.proofs.lemmas.Bool.{and_from, and_parts, cases_lt, eq-eqb, eqb-true, le-leb, leb-true}
use Rattle.pol_data.proofs.Members.{Contains-cases, Contains-filter, Contains-from_filter, Contains-here, Contains-later, passes-from_filter}
use Rattle.pol_ports.specs.declared.Direction.{Direction}
use Rattle.pol_ports.specs.declared.Direction.TheVariants.{Ingress, Egress}
use Rattle.pol_ports.specs.declared.Proto.{Proto}
use Rattle.pol_ports.specs.Direction.{same_direction}
use Rattle.pol_mapkey.specs.declared.Word.{Word}
use Rattle.pol_mapkey.specs.declared.Word.TheVariants.{Allowed, DeniedByRule, DeniedByDefault}
use Rattle.pol_mapkey.specs.Entries.{Entry, read_map}
use Rattle.pol_audit.specs.declared.difference.Difference.{Difference}
use Rattle.pol_audit.specs.declared.difference.Numbers.{Numbers}
use Rattle.pol_audit.specs.declared.difference.Numbers.TheVariants.{EveryOther, One}
use Rattle.pol_audit.specs.Difference.{IsDifference, IsNamed, LiesIn, has_number, least_number}
use Rattle.pol_audit.specs.Packets.{direction_place, packet_place, words}
use Rattle.pol_audit.specs.Tables.{is_at, stands}
use Rattle.pol_shut_ports.specs.Shut.{all_allowed, group_place, number_in, place_of, shut_at, shuts, word_in}
use Rattle.pol_shut_ports.proofs.Open.{reads_allowed}
use Rattle.pol_shut_ports.proofs.Places.{clash, direction_is, group_place_parts, proto_is, proto_small}

-- what stands in the map is a number of its entries
stands_in : (dir : Direction) (n : ℕ) (e : Entry) (es : List Entry) (b : Bool) → is_at dir n e ≡ b → e.0.id < 4294967296 → (stands dir n es ≡ true → n < 4294967296)
    → (b || stands dir n es) ≡ true → n < 4294967296
stands_in dir n e es true is low rest t = let ids = eqb-true e.0.id n (and_parts (same_direction e.0.dir dir) (e.0.id == n) is).1 in omega arith
stands_in dir n e es false is low rest t = rest t

stands_small : (dir : Direction) (n : ℕ) (table : List Entry) → ((e : Entry) → Contains table e → e.0.id < 4294967296) → stands dir n table ≡ true → n < 4294967296
stands_small dir n [] small t = absurd (let wrong : ⊥ = cc in wrong)
stands_small dir n (e ∷ es) small t =
    stands_in dir n e es (is_at dir n e) refl (small e (Contains-here e es)) (stands_small dir n es (λ f there. small f (Contains-later e es f there))) t

-- the map that allows all has no other number than 0
no_other : (dir : Direction) (n : ℕ) → 0 < n → stands dir n all_allowed ≡ false
no_other dir n some = by (0 == n) refl
  where
    neither : (d : Direction) → (0 == n) ≡ false → stands d n all_allowed ≡ false
    neither Ingress is = λ i. is i || (false || false)
    neither Egress is = λ i. false || (is i || false)

    by : (b : Bool) → (0 == n) ≡ b → stands dir n all_allowed ≡ false
    by true is = absurd (let wrong = eqb-true 0 n is in omega arith)
    by false is = neither dir is

module _ (table : List Entry) (list : List Difference) (is : IsDifference all_allowed table list) (small : (e : Entry) → Contains table e → e.0.id < 4294967296) where
  -- the numbers of ranges have 32 bits
  pub numbers_small : (d : Difference) → Contains list d → least_number d.numbers < 4294967296
  numbers_small d there = by d.numbers (is.told d there).named
    where
      by : (n : Numbers) → IsNamed all_allowed table d.dir n → least_number n < 4294967296
      by EveryOther named = omega arith
      by (One n) named = either (stands d.dir n all_allowed) refl named.1
        where
          either : (b : Bool) → stands d.dir n all_allowed ≡ b → IsTrue (b || stands d.dir n table) → n < 4294967296
          either true there t = absurd (clash (stands d.dir n all_allowed) there (no_other d.dir n named.0))
          either false there t = stands_small d.dir n table small t

  module _ (dir : Direction) (id : ℕ) (low : id < 4294967296) (proto : Proto) where
    abbrev group : ℕ
    group = group_place (direction_place dir) (number_in table dir id) (packet_place proto)

    number_low : number_in table dir id < 4294967296
    number_low = by (stands dir id table)
      where
        by : (b : Bool) → cond b id 0 < 4294967296
        by true = low
        by false = omega arith

    -- the number is among those of a range exactly where the range's least number is the one that stands for it
    is_number : (n : Numbers) → IsNamed all_allowed table dir n → least_number n ≡ number_in table dir id → IsTrue (has_number all_allowed table dir n id)
    is_number EveryOther named same = by (stands dir id table) refl same
      where
        by : (b : Bool) → stands dir id table ≡ b → 0 ≡ cond b id 0 → IsTrue ((id == 0) || not (stands dir id all_allowed || stands dir id table))
        by true there zero = λ i. eq-eqb id 0 (sym zero) i || not (stands dir id all_allowed || stands dir id table)
        by false there zero = other (id == 0) refl
          where
            other : (c : Bool) → (id == 0) ≡ c → IsTrue (c || not (stands dir id all_allowed || stands dir id table))
            other true t = refl
            other false f =
                let some : 0 < id = elim (cases_lt 0 id) [ inl more ↦ more | inr none ↦ absurd (clash (id == 0) (eq-eqb id 0 (omega arith)) f) ] in
                λ i. not (no_other dir id some i || there i)
    is_number (One n) named same = by (stands dir id table) refl same
      where
        by : (b : Bool) → stands dir id table ≡ b → n ≡ cond b id 0 → IsTrue (id == n)
        by true there same = eq-eqb id n (sym same)
        by false there same = absurd (let some = named.0 in omega arith)

    from_number : (n : Numbers) → IsNamed all_allowed table dir n → IsTrue (has_number all_allowed table dir n id) → least_number n ≡ number_in table dir id
    from_number EveryOther named t = by (stands dir id table) refl
      where
        by : (b : Bool) → stands dir id table ≡ b → 0 ≡ cond b id 0
        by true there = zero (id == 0) refl t
          where
            always : (b : Bool) → not (b || true) ≡ false
            always true = refl
            always false = refl

            zero : (c : Bool) → (id == 0) ≡ c → IsTrue (c || not (stands dir id all_allowed || stands dir id table)) → 0 ≡ id
            zero true is _ = sym (eqb-true id 0 is)
            zero false is t = absurd (let off : not (stands dir id all_allowed || stands dir id table) ≡ false = (λ i. not (stands dir id all_allowed || there i)) ∙ always (stands dir id all_allowed) in clash (not (stands dir id all_allowed || stands dir id table)) t off)
        by false there = refl
    from_number (One n) named t =
        let same : id ≡ n = eqb-true id n t in
        let there : stands dir id table ≡ true = subst (λ k. stands dir k table ≡ true) (sym same) (in_table (stands dir n all_allowed) refl named.1) in
        sym same ∙ sym (ap (λ b. cond b id 0) there)
      where
        in_table : (b : Bool) → stands dir n all_allowed ≡ b → IsTrue (b || stands dir n table) → stands dir n table ≡ true
        in_table true there t = absurd (clash (stands dir n all_allowed) there (no_other dir n named.0))
        in_table false there t = t

    -- a range of the group has each packet of its ports
    of_group : (d : Difference) → Contains list d → place_of d ≡ group → (port : ℕ) → d.first ≤ port → port ≤ d.last → LiesIn all_allowed table d dir id proto port
    of_group d there same port from to =
        let parts = group_place_parts (direction_place d.dir) (least_number d.numbers) (packet_place d.proto) (direction_place dir) (number_in table dir id) (packet_place proto)
        (numbers_small d there) (proto_small d.proto) number_low (proto_small proto) same in
        let dirs = direction_is d.dir dir parts.0 in
        record {
          direction = dirs;
          number = is_number d.numbers (subst (λ x. IsNamed all_allowed table x d.numbers) dirs (is.told d there).named) parts.1;
          protocol = proto_is d.proto proto parts.2;
          from = from;
          to = to;
        }

    -- a range that has a packet is of its group
    to_group : (d : Difference) → Contains list d → (port : ℕ) → LiesIn all_allowed table d dir id proto port → place_of d ≡ group
    to_group d there port lies =
        let number = from_number d.numbers (subst (λ x. IsNamed all_allowed table x d.numbers) lies.direction (is.told d there).named) lies.number in
        λ i. group_place (direction_place (lies.direction i)) (number i) (packet_place (lies.protocol i))

    abbrev found : List Difference
    found = shut_at table list dir id proto

    -- what is told of a port by the ranges that are found
    told_by : (ds : List Difference) → ((d : Difference) → Contains ds d → Contains found d) → (port : ℕ)
        → (((d : Difference) → Contains ds d → shuts d port ≡ false) → read_map table dir id proto port ≡ Allowed)
        → word_in ds port ≡ read_map table dir id proto port
    told_by [] within port none = sym (none (λ d there. absurd (let below = there.1 in omega arith)))
    told_by (d ∷ ds) within port none =
        by (shuts d port) refl (λ others. told_by ds (λ e there. within e (Contains-later d ds e there)) port others)
      where
        by : (b : Bool) → shuts d port ≡ b
            → ((((e : Difference) → Contains ds e → shuts e port ≡ false) → read_map table dir id proto port ≡ Allowed) → word_in ds port ≡ read_map table dir id proto port)
            → cond b d.right (word_in ds port) ≡ read_map table dir id proto port
        by true is_shut rest =
            let both = and_parts (nat_le d.first port) (nat_le port d.last) is_shut in
            let at = within d (Contains-here d ds) in
            let there = Contains-from_filter (λ e. place_of e == group) list d at in
            let same = eqb-true (place_of d) group (passes-from_filter (λ e. place_of e == group) list d at) in
            let lies = of_group d there same port (leb-true d.first port both.0) (leb-true port d.last both.1) in
            sym (ap (λ w. w.1) ((is.told d there).said dir id proto port lies))
        by false is_open rest = rest (λ others. none (λ e there. elim (Contains-cases d ds e there) [
          | inl same ↦ subst (λ x. shuts x port ≡ false) same is_open
          | inr later ↦ others e later
        ]))

    -- where no range has the port, the map allows it
    allowed : (port : ℕ) → port < 65536 → ((d : Difference) → Contains found d → shuts d port ≡ false) → read_map table dir id proto port ≡ Allowed
    allowed port below none = by (read_map table dir id proto port) refl
      where
        shut : (w : Word) → read_map table dir id proto port ≡ w → w ≢ Allowed → ⊥
        shut w read differ =
            let found_there = is.whole dir id proto port below (λ same. differ (sym read ∙ sym same ∙ reads_allowed dir id proto port below)) in
            let d = found_there.0 in
            let there = found_there.1 in
            let lies = found_there.2 in
            let at = Contains-filter (λ e. place_of e == group) list d (eq-eqb (place_of d) group (to_group d there port lies)) there in
            clash (shuts d port) (and_from (nat_le d.first port) (nat_le port d.last) (le-leb d.first port lies.from) (le-leb port d.last lies.to)) (none d at)

        by : (w : Word) → read_map table dir id proto port ≡ w → read_map table dir id proto port ≡ Allowed
        by Allowed read = read
        by DeniedByRule read = absurd (shut DeniedByRule read (λ same. (let wrong : ⊥ = cc in wrong)))
        by DeniedByDefault read = absurd (shut DeniedByDefault read (λ same. (let wrong : ⊥ = cc in wrong)))

    pub says : (port : ℕ) → port < 65536 → word_in found port ≡ read_map table dir id proto port
    says port below = told_by found (λ d there. there) port (allowed port below)
