-- A text that is cut byte by byte.
use Rattle.std.proofs.Common.{◌≡◌, ◌≤◌, ℕ, ◌==◌, ◌&&◌, nat_eq, Bool, true, false, cond, List, [], ◌∷◌, ◌++◌, count_by, take, drop, length, Option, Some, None, IfSome, refl, ap, sym, subst, ◌∙◌, append_assoc, length-append, arith}
use Rattle.std.specs.Prelude.{if◌then◌else◌}
use Rattle.std.specs.List.{starts_with}
use Rattle.std.proofs.lemmas.List.{append-nil, take-append-drop}
use Rattle.std.proofs.lemmas.List.Sums.{sum_by-append}
use Rattle.pol_mapkey.specs.Entries.{Entry}
use Rattle.pol_audit.proofs.Lengths.{lines_counted}
use Rattle.pol_audit.specs.Text.{AreKept, text_of}
use Rattle.pol_compare.specs.Parts.{IsFew, Parts, divider, parts_from, with_byte}

-- the parts with these bytes in front
abbrev pub in_front : List ℕ → Parts → Parts
in_front bytes parts = record { front = bytes ++ parts.front; back = parts.back }

-- whether bytes, of which the first begins a line or doesn't, begin with the divider
abbrev pub divides : Bool → List ℕ → Bool
divides begins bytes = begins && starts_with nat_eq bytes divider

-- one byte more stands before the divider
pub one_more : (parts : Parts) (begins : Bool) (front more rest bytes : List ℕ) (byte : ℕ) → parts ≡ in_front front (parts_from begins rest)
    → rest ≡ byte ∷ bytes → divides begins rest ≡ false → more ≡ front ++ byte ∷ [] → parts ≡ in_front more (parts_from (byte == 10) bytes)
one_more parts begins front more rest bytes byte so_far is passed grown =
    let behind = parts_from (byte == 10) bytes in
    let stopped : Parts = record { front = []; back = Some (drop 2 bytes) } in
    let no : divides begins (byte ∷ bytes) ≡ false = sym (ap (divides begins) is) ∙ passed in
    let goes : parts_from begins (byte ∷ bytes) ≡ with_byte byte behind = ap (λ (b : Bool). if b then stopped else with_byte byte behind) no in
    let joined : front ++ (byte ∷ behind.front) ≡ more ++ behind.front =
    sym (append_assoc front (byte ∷ []) behind.front) ∙ ap (λ (xs : List ℕ). xs ++ behind.front) (sym grown) in
    so_far
    ∙ ap (λ (xs : List ℕ). in_front front (parts_from begins xs)) is
    ∙ ap (in_front front) goes
    ∙ ap (λ (xs : List ℕ). let parts : Parts = record { front = xs; back = behind.back } in parts) joined

-- the divider begins here
pub here : (parts : Parts) (begins : Bool) (front rest bytes : List ℕ) (byte : ℕ) → parts ≡ in_front front (parts_from begins rest)
    → rest ≡ byte ∷ bytes → divides begins rest ≡ true → parts ≡ record { front = front; back = Some (drop 2 bytes) }
here parts begins front rest bytes byte so_far is stops =
    let behind = parts_from (byte == 10) bytes in
    let stopped : Parts = record { front = []; back = Some (drop 2 bytes) } in
    let yes_ : divides begins (byte ∷ bytes) ≡ true = sym (ap (divides begins) is) ∙ stops in
    let goes : parts_from begins (byte ∷ bytes) ≡ stopped = ap (λ (b : Bool). if b then stopped else with_byte byte behind) yes_ in
    so_far
    ∙ ap (λ (xs : List ℕ). in_front front (parts_from begins xs)) is
    ∙ ap (in_front front) goes
    ∙ ap (λ (xs : List ℕ). let parts : Parts = record { front = xs; back = Some (drop 2 bytes) } in parts) (append-nil front)

-- no divider is there
pub nowhere : (parts : Parts) (begins : Bool) (front rest : List ℕ) → parts ≡ in_front front (parts_from begins rest) → rest ≡ []
    → parts ≡ record { front = front; back = None }
nowhere parts begins front rest so_far is =
    so_far
    ∙ ap (λ (xs : List ℕ). in_front front (parts_from begins xs)) is
    ∙ ap (λ (xs : List ℕ). let parts : Parts = record { front = xs; back = None } in parts) (append-nil front)

-- ---- what the parts have of the text
pub record IsCutInto (text : List ℕ) (parts : Parts) : Type 0 where
  pub behind : List ℕ
  pub front : text ≡ parts.front ++ behind
  pub back : IfSome parts.back (λ b. (before : List ℕ) × (text ≡ before ++ b))

either_cut : (b : Bool) (text : List ℕ) (one other : Parts) → IsCutInto text one → IsCutInto text other → IsCutInto text (if b then one else other)
either_cut true text one other is is' = is
either_cut false text one other is is' = is'

byte_cut : (byte : ℕ) (bytes : List ℕ) (parts : Parts) → IsCutInto bytes parts → IsCutInto (byte ∷ bytes) (with_byte byte parts)
byte_cut byte bytes parts is = record {
  behind = is.behind;
  front = ap (λ (xs : List ℕ). byte ∷ xs) is.front;
  back = weaker parts.back is.back;
}
  where
    weaker : (o : Option (List ℕ)) → IfSome o (λ b. (before : List ℕ) × (bytes ≡ before ++ b))
        → IfSome o (λ b. (before : List ℕ) × (byte ∷ bytes ≡ before ++ b))
    weaker None none = tt
    weaker (Some b) (before, same) = (byte ∷ before, ap (λ (xs : List ℕ). byte ∷ xs) same)

pub is_cut : (begins : Bool) (text : List ℕ) → IsCutInto text (parts_from begins text)
is_cut begins [] = record { behind = []; front = refl; back = tt }
is_cut begins (byte ∷ bytes) =
    either_cut (divides begins (byte ∷ bytes)) (byte ∷ bytes) (record { front = []; back = Some (drop 2 bytes) })
    (with_byte byte (parts_from (byte == 10) bytes))
    (record {
      behind = byte ∷ bytes;
      front = refl;
      back = (byte ∷ take 2 bytes, ap (λ (xs : List ℕ). byte ∷ xs) (sym (take-append-drop 2 bytes)));
    })
    (byte_cut byte bytes (parts_from (byte == 10) bytes) (is_cut (byte == 10) bytes))

-- ---- a part of few bytes and lines has few
part_few : (text before part behind : List ℕ) → text ≡ (before ++ part) ++ behind → IsFew text → IsFew part
part_few text before part behind is few =
    let bytes : length text ≡ length ((before ++ part) ++ behind) = ap (λ (xs : List ℕ). length xs) is in
    let lines : count_by (λ byte. byte == 10) text ≡ count_by (λ byte. byte == 10) ((before ++ part) ++ behind) =
    ap (λ (xs : List ℕ). count_by (λ byte. byte == 10) xs) is in
    let one = length-append (before ++ part) behind in
    let two = length-append before part in
    let three = sum_by-append (λ (byte : ℕ). cond (byte == 10) 1 0) (before ++ part) behind in
    let four = sum_by-append (λ (byte : ℕ). cond (byte == 10) 1 0) before part in
    let short = few.short in
    let many = few.few in
    record { short = omega arith; few = omega arith }

pub front_few : (text front : List ℕ) (parts : Parts) → IsCutInto text parts → front ≡ parts.front → IsFew text → IsFew front
front_few text front parts is same few = subst IsFew (sym same) (part_few text [] parts.front is.behind is.front few)

pub back_few : (text back : List ℕ) (parts : Parts) → IsCutInto text parts → Some back ≡ parts.back → IsFew text → IsFew back
back_few text back parts is same few =
    let told = subst (λ (o : Option (List ℕ)). IfSome o (λ b. (before : List ℕ) × (text ≡ before ++ b))) (sym same) is.back in
    part_few text told.0 back [] (told.1 ∙ sym (append-nil (told.0 ++ back))) few

-- and the table of such a text has few entries
pub few_entries : (table : List Entry) (text : List ℕ) → AreKept table → text_of table ≡ text → IsFew text → length table ≤ 1000000
few_entries table text kept is few =
    let lines = lines_counted table kept in
    let same : count_by (λ byte. byte == 10) (text_of table) ≡ count_by (λ byte. byte == 10) text = ap (λ (xs : List ℕ). count_by (λ byte. byte == 10) xs) is in
    let many = few.few in
    omega arith
