-- The connections from an end are those from each end that is alike, and the list is made of them.
use Rattle.std.proofs.Common.{◌≡◌, ℕ, Bool, true, false, cond, ◌<◌, List, [], ◌∷◌, ◌++◌, map, filter, ◌+◌, get_or, length, take, Option, refl, sym, ap, subst, append-nil, ◌∙◌, if◌then◌else◌}
use Rattle.std.specs.List.{AllByRecursion, flat_map, slice_get}
use Rattle.std.proofs.lemmas.List.{length-map, map-append, take_more}
use Rattle.pol_data.proofs.Every.{every-append, every-weaker}
use Rattle.pol_ports.specs.declared.Proto.{Proto}
use Rattle.pol_ports.specs.declared.Proto.TheVariants.{Tcp, Udp, Sctp}
use Rattle.pol_mapkey.specs.Entries.{Entry}
use Rattle.pol_port_ranges.specs.declared.said.PortSaid.{PortSaid}
use Rattle.pol_port_ranges.specs.declared.said.Range.{Range}
use Rattle.pol_port_ranges.specs.Ranges.{ranges}
use Rattle.pol_connections.specs.declared.end.Connection.{Connection}
use Rattle.pol_connections.specs.declared.end.EndName.{EndName}
use Rattle.pol_connection_maps.specs.declared.told.ProtoRange.{ProtoRange}
use Rattle.pol_connection_maps.specs.Lists.{connection_of, pair_list, proto_list}
use Rattle.pol_connection_maps.specs.Seen.{Kept, Seen}
use Rattle.pol_connection_maps.specs.Telling.{AreAlike, AreOfKinds, FindsKind, IsOfKind, Telling, connection_to, ends_in, pair_ports, ports_between, proto_ports, reached, targets, targets_at, telling_alone, telling_changed, told_from, told_list}
use Rattle.pol_connection_maps.proofs.Lookup.{every_at, kept_at, last_at}

-- ---- a pair
module _ (from to : EndName) where
  abbrev lines : List ProtoRange → List Connection
  lines ports = map (connection_to from) (map (reached to) ports)

  lines-append : (xs ys : List ProtoRange) → lines (xs ++ ys) ≡ lines xs ++ lines ys
  lines-append [] ys = refl
  lines-append (x ∷ xs) ys = ap (λ ls. connection_to from (reached to x) ∷ ls) (lines-append xs ys)

  proto_lines_of : (proto : Proto) (made : List Range) → lines (map (λ range. record { proto = proto; range = range }) made) ≡ map (connection_of from to proto) made
  proto_lines_of proto [] = refl
  proto_lines_of proto (range ∷ made) = ap (λ ls. connection_of from to proto range ∷ ls) (proto_lines_of proto made)

  module _ (said : Proto → ℕ → PortSaid) where
    proto_lines : (proto : Proto) (rest : List ProtoRange) (more : List Connection) → lines rest ≡ more → lines (proto_ports said proto ++ rest) ≡ proto_list said from to proto ++ more
    proto_lines proto rest more same = lines-append (proto_ports said proto) rest ∙ (λ i. proto_lines_of proto (ranges (said proto)) i ++ same i)

    pair_lines : lines (pair_ports said) ≡ pair_list said from to
    pair_lines =
        proto_lines Tcp (proto_ports said Udp ++ (proto_ports said Sctp ++ [])) (proto_list said from to Udp ++ (proto_list said from to Sctp ++ []))
        (proto_lines Udp (proto_ports said Sctp ++ []) (proto_list said from to Sctp ++ []) (proto_lines Sctp [] [] refl))

-- ---- from an end
module _ {E : Type 0} (t : Telling E) where
  abbrev pair : E → E → List Connection
  pair from to = pair_list (t.said from to) (t.name from) (t.name to)

  from_targets : (ends : List E) (from : E) → map (connection_to (t.name from)) (targets t ends from) ≡ told_from t ends from
  from_targets [] from = refl
  from_targets (e ∷ es) from = map-append (connection_to (t.name from)) (targets_at t from e) (targets t es from) ∙ by (from_targets es from) (t.asked from e)
    where
      by : map (connection_to (t.name from)) (targets t es from) ≡ told_from t es from → (b : Bool) → map (connection_to (t.name from)) (map (reached (t.name e)) (if b then pair_ports (t.said from e) else [])) ++ map (connection_to (t.name from)) (targets t es from)
          ≡ flat_map (pair from) (cond b (e ∷ filter (t.asked from) es) (filter (t.asked from) es))
      by rest true = λ i. pair_lines (t.name from) (t.name e) (t.said from e) i ++ rest i
      by rest false = rest

  by_targets : (ends fs : List E) → flat_map (λ from. map (connection_to (t.name from)) (targets t ends from)) fs ≡ flat_map (told_from t ends) fs
  by_targets ends [] = refl
  by_targets ends (f ∷ fs) = λ i. from_targets ends f i ++ by_targets ends fs i

  pub list_by_targets : (ends : List E) → flat_map (λ from. map (connection_to (t.name from)) (targets t ends from)) ends ≡ told_list t ends
  list_by_targets ends = by_targets ends ends

  -- ---- from ends that are alike
  pub same_targets : (one other : E) → AreAlike t one other → (ends : List E) → targets t ends one ≡ targets t ends other
  same_targets one other alike [] = refl
  same_targets one other alike (e ∷ es) = λ i. map (reached (t.name e)) (alike.from e i) ++ same_targets one other alike es i

  pub itself : (one : E) → AreAlike t one one
  itself one = record { from = λ _. refl; to = λ _. refl }

  -- ---- kinds
  pub more_kinds : (stands : E → Type 0) (old new : List E) (ends : List (E × ℕ)) (end : E) (kind : ℕ) → AreOfKinds t old ends → FindsKind t stands old new end kind → AreOfKinds t new (ends ++ (end, kind) ∷ [])
  more_kinds stands old new ends end kind so_far finds =
      every-append (λ (one : E × ℕ). IsOfKind t new one.0 one.1) ends ((end, kind) ∷ [])
      (every-weaker (λ (one : E × ℕ). IsOfKind t old one.0 one.1) (λ (one : E × ℕ). IsOfKind t new one.0 one.1) later ends so_far)
      (finds.found, tt)
    where
      later : (one : E × ℕ) → IsOfKind t old one.0 one.1 → IsOfKind t new one.0 one.1
      later one is = record {
        first = is.first;
        at = ap (λ xs. slice_get xs one.1) finds.grown ∙ kept_at old finds.more one.1 is.first is.at;
        alike = is.alike;
      }

  pub more_ends : (all : List E) (i : ℕ) (end : E) (kind : ℕ) (old new : List (E × ℕ)) → new ≡ old ++ (end, kind) ∷ [] → ends_in old ≡ take i all → i < length all → end ≡ get_or all i end → ends_in new ≡ take (i + 1) all
  more_ends all i end kind old new pushed so_far within is =
      ap ends_in pushed ∙ map-append (λ (one : E × ℕ). one.0) old ((end, kind) ∷ [])
      ∙ (λ j. so_far j ++ is j ∷ []) ∙ sym (take_more all i end within)

  pub new_kind : (stands : E → Type 0) {R : Type 0} (seen : R → E) (old new : List R) (r : R) (kind : ℕ) → new ≡ old ++ r ∷ [] → kind ≡ length old
      → AllByRecursion stands (map seen old) → stands (seen r) → FindsKind t stands (map seen old) (map seen new) (seen r) kind
  new_kind stands seen old new r kind pushed is firsts own =
      let grown : map seen new ≡ map seen old ++ seen r ∷ [] = ap (map seen) pushed ∙ map-append seen old (r ∷ []) in
      let place : kind ≡ length (map seen old) = is ∙ sym (length-map old seen) in
      record {
        more = seen r ∷ [];
        grown = grown;
        found = record { first = seen r; at = (λ i. slice_get (grown i) (place i)) ∙ last_at (map seen old) (seen r); alike = itself (seen r) };
        stand = subst (AllByRecursion stands) (sym grown) (every-append stands (map seen old) (seen r ∷ []) firsts (own, tt));
      }

  -- a kind that is known already
  pub old_kind : (stands : E → Type 0) (firsts : List E) (end : E) (kind : ℕ) → AllByRecursion stands firsts → IsOfKind t firsts end kind → FindsKind t stands firsts firsts end kind
  old_kind stands firsts end kind all is = record { more = []; grown = sym (append-nil firsts); found = is; stand = all }

  pub kind_at : (firsts : List E) (ends : List (E × ℕ)) (i : ℕ) (one : E × ℕ) → AreOfKinds t firsts ends → i < length ends → one ≡ get_or ends i one → IsOfKind t firsts one.0 one.1
  kind_at firsts ends i one are within is = every_at (λ (one : E × ℕ). IsOfKind t firsts one.0 one.1) ends i one are within is

-- ---- ends that are alike
pub alike_alone : (x y : Seen) → (x.number ≡ y.number) × (x.entries ≡ y.entries) → AreAlike telling_alone x y
alike_alone x y same = record {
  from = λ end i. ports_between telling_alone (record { name = x.name; number = same.0 i; entries = same.1 i }) end;
  to = λ end i. ports_between telling_alone end (record { name = x.name; number = same.0 i; entries = same.1 i });
}

-- an end by that name, of these numbers and entries
abbrev kept_of : Kept → Bool → ℕ → Option (List Entry) → ℕ → Option (List Entry) → Kept
kept_of end halves m before n after = record {
  before = record { name = end.before.name; number = m; entries = before };
  after = record { name = end.after.name; number = n; entries = after };
  halves = halves;
}

pub alike_changed : (x y : Kept) → (x.before.number ≡ y.before.number) × (x.before.entries ≡ y.before.entries) → (x.after.number ≡ y.after.number) × (x.after.entries ≡ y.after.entries)
    → x.halves ≡ y.halves → AreAlike telling_changed x y
alike_changed x y was is told = record {
  from = λ end i. ports_between telling_changed (kept_of x (told i) (was.0 i) (was.1 i) (is.0 i) (is.1 i)) end;
  to = λ end i. ports_between telling_changed end (kept_of x (told i) (was.0 i) (was.1 i) (is.0 i) (is.1 i));
}
