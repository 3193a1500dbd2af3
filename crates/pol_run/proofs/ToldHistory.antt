-- The history of a run is the one that is read from the bytes of its output.
use Rattle.std.proofs.Common.{◌≡◌, ℕ, zero, suc, ◌+◌, ◌^◌, ◌<◌, ◌≤◌, Bool, true, false, cond, ◌&&◌, ◌==◌, nat_eq, List, [], ◌∷◌, ◌++◌, codes, length, map, filter, zip, filter_map, bytes_eq, Option, None, Some, Ok, inl, inr, refl, sym, ap, ap₂, ◌∙◌, subst, arith, append_assoc, append-nil, eq-eqb, ne_eqb, eqb-true, lt-ltb, ltb-true}
use Rattle.std.specs.Cmp.Lexicographic.{bytes_decides}
use Rattle.std.specs.Fmt.{decimal}
use Rattle.std.specs.List.{AllByRecursion, cons_option, list_all, starts_with}
use Rattle.std.proofs.lemmas.Bool.{cases_eq}
use Rattle.std.proofs.lemmas.Fmt.{decimal_injective}
use Rattle.std.proofs.lemmas.List.{length-map}
use Rattle.pol_answer.proofs.Cutting.{decimal_digits}
use Rattle.pol_answer.specs.Shown.{is_read_identity, is_u64}
use Rattle.pol_answer.specs.Text.{answer_words, identity_text}
use Rattle.pol_answer.specs.declared.answer.Answer.{Answer}
use Rattle.pol_answer.specs.declared.answer.Answer.TheVariants as answer
use Rattle.pol_json.specs.Texts.{is_digit}
use Rattle.pol_mapkey.specs.declared.Word.TheVariants.{Allowed, DeniedByRule, DeniedByDefault}
use Rattle.pol_model.specs.declared.options.Options.{Options}
use Rattle.pol_model.specs.declared.request.Request.{Request}
use Rattle.pol_script.proofs.ScriptLaws.{both_parts}
use Rattle.pol_script.specs.Lines.{lines_of}
use Rattle.pol_script.specs.Reading.{reading_of}
use Rattle.pol_script.specs.declared.command.Command.TheVariants as command
use Rattle.pol_run.specs.History.{Commit, commit_at, commits_of, history_of, requests_numbered, requests_to}
use Rattle.pol_run.specs.Run.{IsRunOf, readings_of}
use Rattle.pol_run.specs.Spots.{Reading, phase_after, spots_from, spots_of}
use Rattle.pol_run.specs.Told.{history_told, is_ok_line, request_told, requests_told, tells_commit}
use Rattle.pol_run.proofs.Indices.{spot_at}
use Rattle.pol_run.proofs.Lists.{every_weaker}
use Rattle.pol_run.proofs.RunsTell.{commits_few, run_tells}
use Rattle.pol_run.proofs.TextHistory.{words_again}

-- ---- an `ok` line begins with its number alone

no_space : (c : ℕ) (b : Bool) → is_digit c ≡ true → nat_eq 32 c ≡ b → b ≡ false
no_space c false digit is = refl
no_space c true digit is =
    let same : 32 ≡ c = eqb-true 32 c is in
    let none : is_digit 32 ≡ true = subst (λ n. is_digit n ≡ true) (sym same) digit in absurd cc

no_digit : (c : ℕ) (b : Bool) → is_digit c ≡ true → nat_eq c 32 ≡ b → b ≡ false
no_digit c false digit is = refl
no_digit c true digit is =
    let same : c ≡ 32 = eqb-true c 32 is in
    let none : is_digit 32 ≡ true = subst (λ n. is_digit n ≡ true) same digit in absurd cc

-- digits that a space ends are begun by the same digits alone
digits_first : (a b s : List ℕ) → list_all is_digit a ≡ true → list_all is_digit b ≡ true → starts_with nat_eq (a ++ 32 ∷ s) (b ++ 32 ∷ []) ≡ bytes_eq b a
digits_first [] [] s one two = refl
digits_first (c ∷ a) [] s one two =
    let space : nat_eq 32 c ≡ false = no_space c (nat_eq 32 c) (both_parts (is_digit c) (list_all is_digit a) one).0 refl in rw space refl
digits_first [] (d ∷ b) s one two =
    let space : nat_eq d 32 ≡ false = no_digit d (nat_eq d 32) (both_parts (is_digit d) (list_all is_digit b) two).0 refl in rw space refl
digits_first (c ∷ a) (d ∷ b) s one two =
    ap (λ (others : Bool). nat_eq d c && others)
    (digits_first a b s (both_parts (is_digit c) (list_all is_digit a) one).1 (both_parts (is_digit d) (list_all is_digit b) two).1)

same_digits : (k r : ℕ) → k < 2 ^ 64 → r < 2 ^ 64 → (b : Bool) → bytes_eq (decimal k) (decimal r) ≡ b → b ≡ (r == k)
same_digits k r small fits true is =
    let same : k ≡ r = decimal_injective k r small fits ((bytes_decides (decimal k) (decimal r)).0 is) in sym (eq-eqb r k (sym same))
same_digits k r small fits false is =
    sym (ne_eqb r k (λ same.
    let here : bytes_eq (decimal k) (decimal r) ≡ true = (bytes_decides (decimal k) (decimal r)).1 (ap decimal (sym same)) in
    let both : true ≡ false = sym here ∙ is in absurd cc))

-- what follows the number of an `ok` line, and the space that is put behind the line
identity_ends : (identity : Option ℕ) → (s : List ℕ) × (identity_text identity ++ codes " " ≡ 32 ∷ s)
identity_ends None = ([], refl)
identity_ends (Some number) = ((codes "identity " ++ decimal number) ++ codes " ", refl)

ok_line : (k r : ℕ) (identity : Option ℕ) → k < 2 ^ 64 → r < 2 ^ 64 → is_ok_line k (answer_words (answer.Committed r identity)) ≡ (r == k)
ok_line k r identity small fits =
    let of = identity_ends identity in
    let text : answer_words (answer.Committed r identity) ++ codes " " ≡ codes "ok " ++ (decimal r ++ 32 ∷ of.0) =
    append_assoc (codes "ok " ++ decimal r) (identity_text identity) (codes " ") ∙ ap (λ rest. (codes "ok " ++ decimal r) ++ rest) of.1
    ∙ append_assoc (codes "ok ") (decimal r) (32 ∷ of.0) in
    ap₂ (λ (xs needle : List ℕ). starts_with nat_eq xs needle) text (append_assoc (codes "ok ") (decimal k) (codes " "))
    ∙ digits_first (decimal r) (decimal k) of.0 (decimal_digits r (lt-ltb r (2 ^ 64) fits)) (decimal_digits k (lt-ltb k (2 ^ 64) small))
    ∙ same_digits k r small fits (bytes_eq (decimal k) (decimal r)) refl

-- ---- the requests of a number

chosen : (b : Bool) (k : ℕ) (c : Commit) (cs : List Commit) (told : List Request) → told ≡ map (λ (x : Commit). x.request) (filter (λ (x : Commit). x.number == k) cs)
    → cons_option (cond b (Some c.request) None) told ≡ map (λ (x : Commit). x.request) (cond b (c ∷ filter (λ (x : Commit). x.number == k) cs) (filter (λ (x : Commit). x.number == k) cs))
chosen true k c cs told rest = ap (λ (others : List Request). c.request ∷ others) rest
chosen false k c cs told rest = rest

module _ (k : ℕ) (small : k < 2 ^ 64) (index phase : ℕ) (cs : List Commit) (told : List Request) (rest : told ≡ requests_numbered k cs) where
  commit_line : (session : ℕ) (request : Request) (a : Answer) → tells_commit a ≡ true
      → cons_option (request_told k (Ok (command.Commit session request), answer_words a)) told
      ≡ requests_numbered k (cons_option (commit_at (spot_at index phase (Ok (command.Commit session request)) a)) cs)
  commit_line session request (answer.Committed r identity) is =
      let fits = ltb-true r (2 ^ 64) (both_parts (is_u64 r) (is_read_identity identity) is).0 in
      let c : Commit = record { number = r; request = request; spot = spot_at index phase (Ok (command.Commit session request)) (answer.Committed r identity) } in
      ap (λ (b : Bool). cons_option (cond b (Some request) None) told) (ok_line k r identity small fits) ∙ chosen (r == k) k c cs told rest
  commit_line session request (answer.Verdict revision Allowed) is = rest
  commit_line session request (answer.Verdict revision DeniedByRule) is = rest
  commit_line session request (answer.Verdict revision DeniedByDefault) is = rest
  commit_line session request a is = rest

  one_line : (reading : Reading) (a : Answer) → tells_commit a ≡ true
      → cons_option (request_told k (reading, answer_words a)) told ≡ requests_numbered k (cons_option (commit_at (spot_at index phase reading a)) cs)
  one_line (Ok (command.Commit session request)) a is = commit_line session request a is
  one_line reading a is = rest

numbered_told : (k index phase : ℕ) (readings : List Reading) (answers : List Answer) → k < 2 ^ 64 → list_all tells_commit answers ≡ true
    → filter_map (request_told k) (zip readings (map answer_words answers)) ≡ requests_numbered k (commits_of (spots_from index phase (zip readings answers)))
numbered_told k index phase [] answers small all = refl
numbered_told k index phase (reading ∷ readings) [] small all = refl
numbered_told k index phase (reading ∷ readings) (a ∷ answers) small all =
    let parts = both_parts (tells_commit a) (list_all tells_commit answers) all in
    one_line k small index phase (commits_of (spots_from (index + 1) (phase_after phase reading) (zip readings answers)))
    (filter_map (request_told k) (zip readings (map answer_words answers)))
    (numbered_told k (index + 1) (phase_after phase reading) readings answers small parts.1) reading a parts.0

-- ---- the whole history

all_told : (n : ℕ) (readings : List Reading) (answers : List Answer) → n < 2 ^ 64 → list_all tells_commit answers ≡ true
    → requests_told n (zip readings (map answer_words answers)) ≡ requests_to n (commits_of (spots_of (zip readings answers)))
all_told zero readings answers small all = refl
all_told (suc n) readings answers small all =
    ap₂ (λ (a b : List Request). a ++ b) (all_told n readings answers (omega (arith, small)) all) (numbered_told (suc n) 0 1 readings answers small all)

none_numbered : (k : ℕ) (cs : List Commit) → AllByRecursion (λ c. c.number < k) cs → requests_numbered k cs ≡ []
none_numbered k [] below = refl
none_numbered k (c ∷ cs) below =
    let low = below.0 in
    let apart : (c.number == k) ≡ false = ne_eqb c.number k (omega (arith, low)) in
    simp apart (none_numbered k cs below.1)

-- no commit carries a number above their count
requests_over : (n : ℕ) (cs : List Commit) → AllByRecursion (λ c. (1 ≤ c.number) × (c.number ≤ length cs)) cs → length cs ≤ n → requests_to n cs ≡ requests_to (length cs) cs
requests_over zero cs within most = let none : 0 ≡ length cs = omega (arith, most) in ap (λ (k : ℕ). requests_to k cs) none
requests_over (suc n) cs within most =
    elim (cases_eq (length cs) (suc n)) [
      | inl same ↦ ap (λ (k : ℕ). requests_to k cs) (sym same)
      | inr apart ↦
          let fewer : length cs ≤ n = omega (arith, most, apart) in
          let none : requests_numbered (suc n) cs ≡ [] =
          none_numbered (suc n) cs (every_weaker (λ (c : Commit). (1 ≤ c.number) × (c.number ≤ length cs)) (λ (c : Commit). c.number < suc n)
          (λ c range. let most_of = range.1 in omega (arith, most_of, fewer)) cs within) in
          ap (λ (back : List Request). requests_to n cs ++ back) none ∙ append-nil (requests_to n cs) ∙ requests_over n cs within fewer
    ]

pub run_history_told : (options : Options) (script written : List ℕ) (ended : ℕ) (run : IsRunOf options script written ended) → length (lines_of script) < 2 ^ 64
    → history_of (spots_of (zip (readings_of script) run.answers)) ≡ history_told script written
run_history_told options script written ended run small =
    let readings = readings_of script in
    let cs = commits_of (spots_of (zip readings run.answers)) in
    let all = run_tells options script written ended run small in
    let lines : length readings ≡ length (lines_of script) = length-map (lines_of script) reading_of in
    let few = commits_few 0 1 readings run.answers in
    let words : lines_of written ≡ map answer_words run.answers = ap lines_of run.text ∙ words_again run.answers all in
    sym (requests_over (length (lines_of script)) cs run.run.numbered.from_one (omega (arith, few, lines)))
    ∙ sym (all_told (length (lines_of script)) readings run.answers small all)
    ∙ ap (λ (texts : List (List ℕ)). requests_told (length (lines_of script)) (zip readings texts)) (sym words)
