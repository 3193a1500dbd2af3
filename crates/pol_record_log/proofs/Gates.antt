-- What a crash leaves in each of the two steps of an append.
use Rattle.std.proofs.Common.{◌≡◌, inl, inr, ℕ, ◌+◌, ◌-◌, ◌≤◌, List, [], ◌∷◌, ◌++◌, length, get_or, take, drop, sym, ◌∙◌, ap, arith, length-append}
use Rattle.std.proofs.lemmas.List.{append-nil, append_assoc, take_at, drop_at, take_all, drop_all, drop_more, take-append-drop}
use Rattle.pol_disk.specs.Images.{Torn, overwritten}
use Rattle.pol_record_log.specs.Steps.{EndsClosed, IsAppended, before_gate}

module _ (front behind : List ℕ) (end : ℕ) (some : 1 ≤ end) (size : length front ≡ end - 1) where
  abbrev gate : ℕ
  gate = end - 1

  abbrev closed : List ℕ
  closed = front ++ 0 ∷ []

  length-closed : length closed ≡ end
  length-closed = length-append front (0 ∷ []) ∙ omega (arith, size, some)

  staged_split : front ++ 0 ∷ behind ≡ closed ++ behind
  staged_split = sym (append_assoc front (0 ∷ []) behind)

  pub length-staged : length (front ++ 0 ∷ behind) ≡ end + length behind
  length-staged = length-append front (0 ∷ behind) ∙ omega (arith, size, some)

  -- the closed gate stands in each outcome of the first write
  pub torn_behind : (n : ℕ) (c : List ℕ) → Torn end n closed c → IsAppended front behind c
  torn_behind n c torn =
      let kept : take end c ≡ closed = torn.before ∙ take_all _ _ (omega (arith, length-closed)) in
      let rest = drop end c in
      inl (rest, sym (take-append-drop end c) ∙ ap (λ (l : List ℕ). l ++ rest) kept ∙ append_assoc front (0 ∷ []) rest)

  pub written_behind : overwritten closed end behind ≡ front ++ 0 ∷ behind
  written_behind =
      ap (λ (l : List ℕ). (l ++ behind) ++ drop (end + length behind) closed) (take_all end closed (omega (arith, length-closed)))
      ∙ ap (λ (l : List ℕ). (closed ++ behind) ++ l) (drop_all (end + length behind) closed (omega (arith, length-closed)))
      ∙ append-nil (closed ++ behind)
      ∙ sym staged_split

  back : drop (gate + 1) (front ++ 0 ∷ behind) ≡ behind
  back = ap (drop (gate + 1)) staged_split ∙ drop_at closed behind (gate + 1) (length-closed ∙ omega (arith, some))

  -- the record stands whole in each outcome of the second write
  pub torn_gate : (c : List ℕ) → Torn (end - 1) 1 (front ++ 0 ∷ behind) c → IsAppended front behind c
  torn_gate c torn =
      let byte = get_or c gate 0 in
      let rest : drop gate c ≡ byte ∷ behind = drop_more c gate 0 (omega (arith, torn.no_shorter, length-staged, some)) ∙ ap (λ (l : List ℕ). byte ∷ l) (torn.after ∙ back) in
      inr (byte, sym (take-append-drop gate c) ∙ ap (λ (l : List ℕ). l ++ drop gate c) (torn.before ∙ take_at front (0 ∷ behind) gate size) ∙ ap (λ (l : List ℕ). front ++ l) rest)

  pub written_gate : overwritten (front ++ 0 ∷ behind) (end - 1) (1 ∷ []) ≡ front ++ 1 ∷ behind
  written_gate =
      ap (λ (l : List ℕ). (l ++ 1 ∷ []) ++ drop (gate + 1) (front ++ 0 ∷ behind)) (take_at front (0 ∷ behind) gate size)
      ∙ ap (λ (l : List ℕ). (front ++ 1 ∷ []) ++ l) back
      ∙ append_assoc front (1 ∷ []) behind

-- the bytes end in a closed gate, so there are some, and as many before it as the length says
pub gate_size : (bytes : List ℕ) (end : ℕ) → EndsClosed bytes → end ≡ length bytes → (1 ≤ end) × (length (before_gate bytes) ≡ end - 1)
gate_size bytes end closed is =
    let long : length bytes ≡ length (before_gate bytes) + 1 = ap length closed ∙ length-append (before_gate bytes) (0 ∷ []) in
    (omega arith, omega arith)

-- one byte over at most one
pub one_byte : (old c : List ℕ) → length old ≤ 1 → Torn 0 1 old c → length c ≤ 1
one_byte old c short torn = omega (arith, torn.no_longer)

pub written_first : (old : List ℕ) → length old ≤ 1 → overwritten old 0 (0 ∷ []) ≡ 0 ∷ []
written_first old short = ap (λ (l : List ℕ). 0 ∷ l) (drop_all 1 old short)
