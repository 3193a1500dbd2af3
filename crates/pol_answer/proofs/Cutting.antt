-- Cutting a text: what stands before a byte, numbers, and lists of parts.
use Rattle.std.proofs.Common.{◌≡◌, ℕ, zero, suc, ◌^◌, ◌<◌, ◌≤◌, Bool, true, false, cond, not, ◌==◌, List, [], ◌∷◌, ◌++◌, length, drop, refl, sym, ap, ◌∙◌, arith, append_assoc, length-append, eq-eqb}
use Rattle.std.specs.Cmp.Derive.{both_true}
use Rattle.std.specs.Fmt.{decimal}
use Rattle.std.specs.List.{flat_map, list_all}
use Rattle.std.specs.Str.Parse.{AllDigits, digits_value}
use Rattle.std.proofs.lemmas.Bool.{ltb-true, le-leb}
use Rattle.std.proofs.lemmas.List.{append-nil}
use Rattle.std.proofs.lemmas.Fmt.{decimal_is_IsNumeral}
use Rattle.std.proofs.lemmas.Str.Parse.{digit_from_value}
use Rattle.pol_json.specs.Texts.{is_digit}
use Rattle.pol_script.proofs.ScriptLaws.{both_parts}
use Rattle.pol_answer.specs.Shown.{is_u64}

abbrev pub head : List ℕ → ℕ
head [] = 0
head (b ∷ bs) = b

-- ---- a part that ends at a byte

-- the text is over, or goes on with a byte that fails the test
abbrev pub stops : (ℕ → Bool) → List ℕ → Bool
stops test [] = true
stops test (b ∷ bs) = not (test b)

pub before : (ℕ → Bool) → List ℕ → List ℕ
before test [] = []
before test (b ∷ bs) = cond (test b) (b ∷ before test bs) []

pub after : (ℕ → Bool) → List ℕ → List ℕ
after test [] = []
after test (b ∷ bs) = cond (test b) (after test bs) (b ∷ bs)

stop_cond : (b : Bool) (x y : List ℕ) → not b ≡ true → cond b x y ≡ y
stop_cond true x y e = absurd cc
stop_cond false x y e = refl

before_stop : (test : ℕ → Bool) (s : List ℕ) → stops test s ≡ true → before test s ≡ []
unfolding before
before_stop test [] e = refl
before_stop test (b ∷ bs) e = stop_cond (test b) (b ∷ before test bs) [] e

after_stop : (test : ℕ → Bool) (s : List ℕ) → stops test s ≡ true → after test s ≡ s
unfolding after
after_stop test [] e = refl
after_stop test (b ∷ bs) e = stop_cond (test b) (after test bs) (b ∷ bs) e

pub before_is : (test : ℕ → Bool) (a s : List ℕ) → list_all test a ≡ true → stops test s ≡ true → before test (a ++ s) ≡ a
unfolding before
before_is test [] s all stop = before_stop test s stop
before_is test (b ∷ a) s all stop =
    let parts = both_parts (test b) (list_all test a) all in rw (parts.0, before_is test a s parts.1 stop) refl

pub after_is : (test : ℕ → Bool) (a s : List ℕ) → list_all test a ≡ true → stops test s ≡ true → after test (a ++ s) ≡ s
unfolding after
after_is test [] s all stop = after_stop test s stop
after_is test (b ∷ a) s all stop =
    let parts = both_parts (test b) (list_all test a) all in rw (parts.0, after_is test a s parts.1 stop) refl

-- ---- numbers

digits_all : (ds : List ℕ) → AllDigits 10 ds → list_all is_digit ds ≡ true
digits_all [] all = refl
digits_all (c ∷ cs) all =
    both_true (both_true (le-leb 48 c (omega (arith, digit_from_value c all.0))) (le-leb c 57 (omega (arith, digit_from_value c all.0)))) (digits_all cs all.1)

fits : (n : ℕ) → is_u64 n ≡ true → n < 2 ^ 64
fits n e = ltb-true n (2 ^ 64) e

pub decimal_digits : (n : ℕ) → is_u64 n ≡ true → list_all is_digit (decimal n) ≡ true
decimal_digits n small = digits_all (decimal n) (decimal_is_IsNumeral n (fits n small)).0.1

pub number : List ℕ → ℕ
number text = digits_value 10 (before is_digit text)

pub past_number : List ℕ → List ℕ
past_number text = after is_digit text

pub number_is : (n : ℕ) (s : List ℕ) → is_u64 n ≡ true → stops is_digit s ≡ true → number (decimal n ++ s) ≡ n
unfolding number
number_is n s small stop = ap (digits_value 10) (before_is is_digit (decimal n) s (decimal_digits n small) stop) ∙ (decimal_is_IsNumeral n (fits n small)).1

pub past_number_is : (n : ℕ) (s : List ℕ) → is_u64 n ≡ true → stops is_digit s ≡ true → past_number (decimal n ++ s) ≡ s
unfolding past_number
past_number_is n s small stop = after_is is_digit (decimal n) s (decimal_digits n small) stop

-- a number at the end of a text
pub last_number_is : (n : ℕ) → is_u64 n ≡ true → number (decimal n) ≡ n
last_number_is n small = ap number (sym (append-nil (decimal n))) ∙ number_is n [] small refl

-- ---- lists of parts, each behind a byte

abbrev pub Reader : Type 0 → Type 0
Reader A = List ℕ → A × List ℕ

pub more : {A : Type 0} → A → List A × List ℕ → List A × List ℕ
more x found = (x ∷ found.0, found.1)

pub read_list : {A : Type 0} → ℕ → Reader A → ℕ → Reader (List A)
read_list sign read zero text = ([], text)
read_list sign read (suc k) text =
    cond (head text == sign) (more (read (drop 1 text)).0 (read_list sign read k (read (drop 1 text)).1)) ([], text)

abbrev pub joined : {A : Type 0} → ℕ → (A → List ℕ) → List A → List ℕ
joined sign show xs = flat_map (λ x. sign ∷ show x) xs

-- what is read of a part that is followed by a fitting text
pub record Reads {A : Type 0} (sign : ℕ) (show : A → List ℕ) (read : Reader A) (ok : A → Bool) (Next : List ℕ → Type 0) : Type 0 where
  pub again : (x : A) (s : List ℕ) → ok x ≡ true → Next s → read (show x ++ s) ≡ (x, s)
  pub next : (s : List ℕ) → Next (sign ∷ s)

nothing_more : {A : Type 0} (sign : ℕ) (read : Reader A) (k : ℕ) (s : List ℕ) → (head s == sign) ≡ false → read_list sign read k s ≡ ([], s)
unfolding read_list
nothing_more sign read zero s other = refl
nothing_more sign read (suc k) s other = rw other refl

next_of : {A : Type 0} (sign : ℕ) (show : A → List ℕ) (read : Reader A) (ok : A → Bool) (Next : List ℕ → Type 0) (reads : Reads sign show read ok Next)
    (xs : List A) (s : List ℕ) → Next s → Next (joined sign show xs ++ s)
next_of sign show read ok Next reads [] s fits = fits
next_of sign show read ok Next reads (x ∷ xs) s fits = reads.next ((show x ++ joined sign show xs) ++ s)

one_more : {A : Type 0} (sign : ℕ) (read : Reader A) (k : ℕ) (x : A) (xs : List A) (text rest s : List ℕ) → read text ≡ (x, rest) → read_list sign read k rest ≡ (xs, s)
    → read_list sign read (suc k) (sign ∷ text) ≡ (x ∷ xs, s)
unfolding read_list more
one_more sign read k x xs text rest s here behind = rw (eq-eqb sign sign refl, here, behind) refl

pub list_is : {A : Type 0} (sign : ℕ) (show : A → List ℕ) (read : Reader A) (ok : A → Bool) (Next : List ℕ → Type 0) (reads : Reads sign show read ok Next)
    (xs : List A) (s : List ℕ) (k : ℕ) → length xs ≤ k → list_all ok xs ≡ true → Next s → (head s == sign) ≡ false
    → read_list sign read k (joined sign show xs ++ s) ≡ (xs, s)
list_is sign show read ok Next reads [] s k room all fits other = nothing_more sign read k s other
list_is sign show read ok Next reads (x ∷ xs) s zero room all fits other = absurd (omega arith)
list_is sign show read ok Next reads (x ∷ xs) s (suc k) room all fits other =
    let parts = both_parts (ok x) (list_all ok xs) all in
    let rest = joined sign show xs ++ s in
    let here : read ((show x ++ joined sign show xs) ++ s) ≡ (x, rest) =
    ap read (append_assoc (show x) (joined sign show xs) s) ∙ reads.again x rest parts.0 (next_of sign show read ok Next reads xs s fits) in
    one_more sign read k x xs ((show x ++ joined sign show xs) ++ s) rest s here
    (list_is sign show read ok Next reads xs s k (omega arith) parts.1 fits other)

-- a joined list has at least a byte for each part
pub long_enough : {A : Type 0} (sign : ℕ) (show : A → List ℕ) (xs : List A) → length xs ≤ length (joined sign show xs)
long_enough sign show [] = omega arith
long_enough sign show (x ∷ xs) = omega (arith, long_enough sign show xs, length-append (sign ∷ show x) (joined sign show xs))
