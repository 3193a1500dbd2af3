-- Numbers of which each is carried once, and the history that they give, from the short account.
use Rattle.std.proofs.Common.{◌≡◌, ◌≢◌, ℕ, suc, ◌+◌, ◌-◌, ◌<◌, ◌≤◌, ◌==◌, inl, inr, cond, List, [], ◌∷◌, length, slice_get, Contains, Some, Ok, refl, ap, sym, ◌∙◌, subst, arith}
use Rattle.std.specs.Prelude.{count_by}
use Rattle.std.specs.List.{AllByRecursion}
use Rattle.std.proofs.lemmas.Bool.{cases_eq, eq-eqb, ne_eqb}
use Rattle.std.proofs.lemmas.List.Sums.{sum_by-cons}
use Rattle.pol_model.specs.declared.options.Options.{Options}
use Rattle.pol_model.specs.declared.request.Request.{Request}
use Rattle.pol_data.proofs.Members.{Contains-here, Contains-later}
use Rattle.pol_answer.specs.declared.answer.Answer.TheVariants as answer
use Rattle.pol_script.specs.declared.command.Command.TheVariants as command
use Rattle.pol_run.specs.Spots.{Line, Reading, spots_of}
use Rattle.pol_run.specs.History.{Commit, commits_of, history_of}
use Rattle.pol_run.specs.Run.{NumbersDiffer, IsNumbered}
use Rattle.pol_run.specs.ByIndex.{ComesBefore}
use Rattle.pol_run.specs.InShort.{IsRunInShort}
use Rattle.pol_run.proofs.Lists.{every_contained, every_weaker}
use Rattle.pol_run.proofs.Counting.{requests_all, request_kth}
use Rattle.pol_run.proofs.ByIndex.{known_before}
use Rattle.pol_run.proofs.ByIndexCommits.{IsOkLine, every_ok_line, commits_counted, numbers_counted}

-- ---- counts of a number

-- how many commits carry it
abbrev carriers : ℕ → List Commit → ℕ
carriers k cs = count_by (λ (c : Commit). c.number == k) cs

carriers_more : (k : ℕ) (c : Commit) (cs : List Commit) → carriers k (c ∷ cs) ≡ cond (c.number == k) 1 0 + carriers k cs
carriers_more k c cs = sum_by-cons (λ (x : Commit). cond (x.number == k) 1 0) c cs

carrier : (k : ℕ) (c : Commit) (cs : List Commit) → c.number ≡ k → carriers k (c ∷ cs) ≡ 1 + carriers k cs
carrier k c cs is = carriers_more k c cs ∙ (let test = eq-eqb c.number k is in simp test refl)

other_carrier : (k : ℕ) (c : Commit) (cs : List Commit) → c.number ≢ k → carriers k (c ∷ cs) ≡ carriers k cs
other_carrier k c cs differs =
    carriers_more k c cs ∙ (let test = ne_eqb c.number k differs in simp test (omega arith))

none_carries : (k : ℕ) (cs : List Commit) → carriers k cs ≡ 0 → AllByRecursion (λ (c : Commit). k ≢ c.number) cs
none_carries k [] none = tt
none_carries k (c ∷ cs) none =
    elim (cases_eq c.number k) [
      | inl is ↦ absurd (omega (arith, none, carrier k c cs is))
      | inr differs ↦ ((λ same. differs (sym same)), none_carries k cs (omega (arith, none, other_carrier k c cs differs)))
    ]

some_carries : (k : ℕ) (cs : List Commit) → 1 ≤ carriers k cs → (c : Commit) × Contains cs c × (c.number ≡ k)
some_carries k [] some = absurd (omega (arith, some))
some_carries k (c ∷ cs) some =
    elim (cases_eq c.number k) [
      | inl is ↦ (c, Contains-here c cs, is)
      | inr differs ↦
          let later = some_carries k cs (omega (arith, some, other_carrier k c cs differs)) in
          (later.0, Contains-later c cs later.0 later.1, later.2)
    ]

fewer_carry : (k : ℕ) (c : Commit) (cs : List Commit) → carriers k cs ≤ carriers k (c ∷ cs)
fewer_carry k c cs = omega (arith, carriers_more k c cs)

-- where no number is carried twice, they differ
differ_from_once : (cs : List Commit) → ((c : Commit) → Contains cs c → carriers c.number cs ≤ 1) → NumbersDiffer cs
differ_from_once [] once = tt
differ_from_once (c ∷ cs) once = (
  none_carries c.number cs (let here = once c (Contains-here c cs) in omega (arith, here, carrier c.number c cs refl)),
  differ_from_once cs (λ x listed. let there = once x (Contains-later c cs x listed) in omega (arith, there, fewer_carry x.number c cs)),
)

-- ---- lists that agree at each index

some_request : (a b : Request) → Some a ≡ Some b → a ≡ b
some_request a b same = cc

same_requests : (xs ys : List Request) → length xs ≡ length ys → ((i : ℕ) → i < length xs → slice_get xs i ≡ slice_get ys i) → xs ≡ ys
same_requests [] [] long agree = refl
same_requests [] (y ∷ ys) long agree = absurd (omega (arith, long))
same_requests (x ∷ xs) [] long agree = absurd (omega (arith, long))
same_requests (x ∷ xs) (y ∷ ys) long agree =
    let first : x ≡ y = some_request x y (agree 0 (omega arith)) in
    let others : xs ≡ ys = same_requests xs ys (omega (arith, long)) (λ i within. agree (suc i) (omega (arith, within))) in
    cc

-- ---- the commits of a run in short

module _ (options : Options) (lines : List Line) (short : IsRunInShort options lines) where
  short_length : length short.history ≡ length (commits_of (spots_of lines))
  short_length = short.size ∙ sym (commits_counted lines)

  short_range : AllByRecursion (λ (c : Commit). (1 ≤ c.number) × (c.number ≤ length (commits_of (spots_of lines)))) (commits_of (spots_of lines))
  short_range =
      every_weaker (IsOkLine lines) (λ (c : Commit). (1 ≤ c.number) × (c.number ≤ length (commits_of (spots_of lines))))
      (λ c ok.
      let reading : Reading = Ok (command.Commit ok.session c.request) in
      let kth = short.each c.spot.index reading (answer.Committed c.number ok.identity) ok.line in
      let reached = short.none_ahead c.spot.index reading (answer.Committed c.number ok.identity) c.number ok.line refl in
      (kth.from_one, (omega (arith, reached.made, short_length))))
      (commits_of (spots_of lines)) (every_ok_line lines)

  short_once : (c : Commit) → Contains (commits_of (spots_of lines)) c → carriers c.number (commits_of (spots_of lines)) ≤ 1
  short_once c listed =
      let range = every_contained (λ (x : Commit). (1 ≤ x.number) × (x.number ≤ length (commits_of (spots_of lines)))) (commits_of (spots_of lines)) c short_range listed in
      omega (arith, numbers_counted c.number lines, short.once c.number range.0 (omega (arith, range.1, short_length)))

  -- they are numbered
  pub short_numbered : IsNumbered (commits_of (spots_of lines))
  short_numbered = record {
    from_one = short_range;
    each_once = differ_from_once (commits_of (spots_of lines)) short_once;
    ascending = λ a b has_a has_b before.
        let ok_a = every_contained (IsOkLine lines) (commits_of (spots_of lines)) a (every_ok_line lines) has_a in
        let ok_b = every_contained (IsOkLine lines) (commits_of (spots_of lines)) b (every_ok_line lines) has_b in
        short.ascend a.spot.index b.spot.index ok_a.session ok_b.session a.request b.request a.number b.number ok_a.identity ok_b.identity ok_a.line ok_b.line
        (subst (λ (r : Reading). ComesBefore lines a.spot.index r b.spot.index (Ok (command.Commit ok_b.session b.request))) ok_a.reads
        (subst (λ (r : Reading). ComesBefore lines a.spot.index a.spot.reading b.spot.index r) ok_b.reads
        (known_before lines a.spot b.spot ok_a.spot ok_b.spot before)));
  }

  kth_request : (k : ℕ) → 1 ≤ k → k ≤ length short.history → slice_get short.history (k - 1) ≡ slice_get (history_of (spots_of lines)) (k - 1)
  kth_request k positive most =
      let once : 1 ≤ carriers k (commits_of (spots_of lines)) = omega (arith, numbers_counted k lines, short.once k positive most) in
      let found = some_carries k (commits_of (spots_of lines)) once in
      let c = found.0 in
      let ok = every_contained (IsOkLine lines) (commits_of (spots_of lines)) c (every_ok_line lines) found.1 in
      let kth = short.each c.spot.index (Ok (command.Commit ok.session c.request)) (answer.Committed c.number ok.identity) ok.line in
      ap (λ (n : ℕ). slice_get short.history (n - 1)) (sym found.2) ∙ kth.kth
      ∙ sym (request_kth (commits_of (spots_of lines)) c short_numbered.from_one short_numbered.each_once found.1)
      ∙ ap (λ (n : ℕ). slice_get (history_of (spots_of lines)) (n - 1)) found.2

  -- the history is that of the `ok` lines
  pub short_history : short.history ≡ history_of (spots_of lines)
  short_history =
      same_requests short.history (history_of (spots_of lines))
      (short_length ∙ sym (requests_all (commits_of (spots_of lines)) short_numbered.from_one short_numbered.each_once))
      (λ i within.
      let at : suc i - 1 ≡ i = omega arith in
      ap (λ (n : ℕ). slice_get short.history n) (sym at) ∙ kth_request (suc i) (omega arith) (omega (arith, within))
      ∙ ap (λ (n : ℕ). slice_get (history_of (spots_of lines)) n) at)
