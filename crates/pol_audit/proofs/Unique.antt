-- A text is that of one table at most, and has one first bad line at most.
use Rattle.std.proofs.Common.{◌≡◌, ℕ, ◌+◌, List, [], ◌∷◌, ◌++◌, codes, length, IfOk, IfErr, Result, Ok, Err, refl, sym, ap, subst, ◌∙◌, inl, inr, append_assoc, length-append, arith}
use Rattle.std.specs.List.{Contains}
use Rattle.std.specs.declared.cmp.Ordering.TheVariants.{Less}
use Rattle.std.specs.List.Sorted.{IsStrictlySortedBy}
use Rattle.std.proofs.lemmas.List.{append-nil}
use Rattle.std.proofs.lemmas.List.Elements.{Contains-append_right}
use Rattle.pol_data.proofs.Members.{Contains-here, Contains-later, In, every-from_in, every-in}
use Rattle.pol_mapkey.specs.Entries.{Entry}
use Rattle.pol_audit.specs.Tables.{IsTable, entry_order}
use Rattle.pol_audit.specs.Text.{AreKept, IsBadLine, IsCause, IsReadAs, entry_words, line_of, text_of}
use Rattle.pol_audit.specs.declared.error.TableError.{TableError}
use Rattle.pol_audit.specs.declared.error.TableError.TheVariants.{Line, Memory}
use Rattle.pol_audit.proofs.Spelled.{line_tells}

-- a line has some byte
line_some : (e : Entry) (behind : List ℕ) → line_of e ++ behind ≡ [] → ⊥
line_some e behind is =
    let many = length-append (line_of e) behind in let own = length-append (entry_words e) (codes "\n") in
    let none : length (line_of e ++ behind) ≡ 0 = ap length is in omega arith

text_more : (e : Entry) (es : List Entry) (rest : List ℕ) → text_of (e ∷ es) ++ rest ≡ line_of e ++ (text_of es ++ rest)
text_more e es rest = append_assoc (line_of e) (text_of es) rest

-- ---- two tables
pub text_tells : (es fs : List Entry) → AreKept es → AreKept fs → text_of es ≡ text_of fs → es ≡ fs
text_tells [] [] kept kept' is = refl
text_tells [] (f ∷ fs) kept kept' is = absurd (line_some f (text_of fs) (sym is))
text_tells (e ∷ es) [] kept kept' is = absurd (line_some e (text_of es) is)
text_tells (e ∷ es) (f ∷ fs) kept kept' is =
    let both = line_tells e f (text_of es) (text_of fs) (kept e (Contains-here e es)) (kept' f (Contains-here f fs)) is in
    let rest = text_tells es fs (λ x there. kept x (Contains-later e es x there)) (λ x there. kept' x (Contains-later f fs x there)) both.1 in
    λ i. both.0 i ∷ rest i

-- two texts that go on: they are of the same entries, or what goes on behind the shorter is the other's next line
data Meets (es fs : List Entry) (a b : List ℕ) : Type 0 where
  together : es ≡ fs → a ≡ b → Meets es fs a b
  first_ends : (e : Entry) (more : List Entry) → fs ≡ es ++ e ∷ more → a ≡ line_of e ++ (text_of more ++ b) → Meets es fs a b
  second_ends : (e : Entry) (more : List Entry) → es ≡ fs ++ e ∷ more → b ≡ line_of e ++ (text_of more ++ a) → Meets es fs a b

one_more : (e f : Entry) (es fs : List Entry) (a b : List ℕ) → e ≡ f → Meets es fs a b → Meets (e ∷ es) (f ∷ fs) a b
one_more e f es fs a b is (together same rest) = together (λ i. is i ∷ same i) rest
one_more e f es fs a b is (first_ends x more same rest) = first_ends x more (λ i. sym is i ∷ same i) rest
one_more e f es fs a b is (second_ends x more same rest) = second_ends x more (λ i. is i ∷ same i) rest

meet : (es fs : List Entry) (a b : List ℕ) → AreKept es → AreKept fs → text_of es ++ a ≡ text_of fs ++ b → Meets es fs a b
meet [] [] a b kept kept' is = together refl is
meet [] (f ∷ fs) a b kept kept' is = first_ends f fs refl (is ∙ text_more f fs b)
meet (e ∷ es) [] a b kept kept' is = second_ends e es refl (sym is ∙ text_more e es a)
meet (e ∷ es) (f ∷ fs) a b kept kept' is =
    let both = line_tells e f (text_of es ++ a) (text_of fs ++ b) (kept e (Contains-here e es)) (kept' f (Contains-here f fs)) (sym (text_more e es a) ∙ is ∙ text_more f fs b) in
    one_more e f es fs a b both.0 (meet es fs a b (λ x there. kept x (Contains-later e es x there)) (λ x there. kept' x (Contains-later f fs x there)) both.1)

-- ---- tables
in_front : (xs ys : List Entry) (x z : Entry) → In z (xs ++ x ∷ []) → In z (xs ++ x ∷ ys)
in_front [] ys x z (inl is) = inl is
in_front [] ys x z (inr none) = elim none [ ]
in_front (w ∷ xs) ys x z (inl is) = inl is
in_front (w ∷ xs) ys x z (inr there) = inr (in_front xs ys x z there)

front_is_table : (xs ys : List Entry) (x : Entry) → IsTable (xs ++ x ∷ ys) → IsTable (xs ++ x ∷ [])
unfolding IsStrictlySortedBy
front_is_table [] ys x up = (tt, tt)
front_is_table (w ∷ xs) ys x up = (every-from_in (λ z. entry_order w z ≡ Less) (xs ++ x ∷ []) (λ z there. every-in (λ y. entry_order w y ≡ Less) (xs ++ x ∷ ys) up.0 z (in_front xs ys x z there)), front_is_table xs ys x up.1)

-- a line that goes on with a table isn't bad
goes_on : (text : List ℕ) (line : ℕ) (is : IsBadLine text line) (table more : List Entry) (e : Entry) (behind : List ℕ) → AreKept table → IsTable table
    → table ≡ is.front ++ e ∷ more → is.rest ≡ line_of e ++ behind → ⊥
goes_on text line is table more e behind kept up same rest =
    is.bad e behind (kept e (subst (λ es. Contains es e) (sym same) (Contains-append_right is.front (e ∷ more) e (Contains-here e more)))) (front_is_table is.front more e (subst IsTable same up)) rest

pub no_bad_line : (table : List Entry) (line : ℕ) → AreKept table → IsTable table → IsBadLine (text_of table) line → ⊥
no_bad_line table line kept up is = cases (meet is.front table is.rest [] is.kept kept (sym is.split ∙ sym (append-nil (text_of table))))
  where
    cases : Meets is.front table is.rest [] → ⊥
    cases (together same rest) = is.some rest
    cases (first_ends e more same rest) = goes_on (text_of table) line is table more e (text_of more ++ []) kept up same rest
    cases (second_ends e more same rest) = line_some e (text_of more ++ is.rest) (sym rest)

pub one_bad_line : (text : List ℕ) (m n : ℕ) → IsBadLine text m → IsBadLine text n → m ≡ n
one_bad_line text m n is is' = cases (meet is.front is'.front is.rest is'.rest is.kept is'.kept (sym is.split ∙ is'.split))
  where
    cases : Meets is.front is'.front is.rest is'.rest → m ≡ n
    cases (together same rest) = is.place ∙ ap (λ es. length es + 1) same ∙ sym is'.place
    cases (first_ends e more same rest) = absurd (goes_on text m is is'.front more e (text_of more ++ is'.rest) is'.kept is'.table same rest)
    cases (second_ends e more same rest) = absurd (goes_on text n is' is.front more e (text_of more ++ is.rest) is.kept is.table same rest)

-- what is read of the text of a table is that table
pub read_again : (text : List ℕ) (r : Result (List Entry) TableError) → IfOk r (λ table. text_of table ≡ text) → IfOk r AreKept → IfErr r (IsCause text)
    → (table : List Entry) → AreKept table → IsTable table → text ≡ text_of table → IsReadAs table r
read_again text (Ok read) is own cause table kept up written = text_tells read table own kept (is ∙ written)
read_again text (Err (Line line)) is own cause table kept up written = no_bad_line table line kept up (subst (λ bytes. IsBadLine bytes line) written cause)
read_again text (Err Memory) is own cause table kept up written = tt
