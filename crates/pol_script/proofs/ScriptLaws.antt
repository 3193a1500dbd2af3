-- The lines of a script are the cut that they should be.
use Rattle.std.proofs.Common.{◌≡◌, ◌≢◌, ℕ, Bool, true, false, cond, not, ◌&&◌, List, [], ◌∷◌, ◌++◌, IsTrue, refl, sym, ap, ◌∙◌, append_assoc}
use Rattle.std.specs.Cmp.Derive.{both_true}
use Rattle.std.specs.List.{flat_map, list_all}
use Rattle.std.proofs.lemmas.Bool.{eqb-true}
use Rattle.std.proofs.lemmas.List.{append-nil}
use Rattle.std.proofs.lemmas.List.Folds.{list_all-append}
use Rattle.pol_script.specs.Lines.{newline, last_line, lines_from, lines_of, ended, is_newline, is_one_line}

pub both_parts : (a b : Bool) → (a && b) ≡ true → (a ≡ true) × (b ≡ true)
both_parts true b e = (refl, e)
both_parts false b e = absurd cc

not_true : (b : Bool) → not b ≡ true → b ≡ false
not_true true e = absurd cc
not_true false e = refl

pub is_other : (byte : ℕ) (b : Bool) → is_newline byte ≡ b → byte ≢ newline → is_newline byte ≡ false
is_other byte true e other = absurd (other (eqb-true byte newline e))
is_other byte false e other = e

-- ---- a script that ends with a newline

whole_step : (byte : ℕ) (bytes begun : List ℕ) (b : Bool) → is_newline byte ≡ b
    → ((front : List ℕ) → flat_map ended (lines_from front (ended bytes)) ≡ front ++ ended bytes)
    → flat_map ended (cond b (begun ∷ lines_from [] (ended bytes)) (lines_from (begun ++ byte ∷ []) (ended bytes))) ≡ begun ++ byte ∷ ended bytes
whole_step byte bytes begun true e rest =
    ap (λ lines. ended begun ++ lines) (rest []) ∙ append_assoc begun (newline ∷ []) (ended bytes) ∙ ap (λ b. begun ++ b ∷ ended bytes) (sym (eqb-true byte newline e))
whole_step byte bytes begun false e rest = rest (begun ++ byte ∷ []) ∙ append_assoc begun (byte ∷ []) (ended bytes)

whole_from : (bytes begun : List ℕ) → flat_map ended (lines_from begun (ended bytes)) ≡ begun ++ ended bytes
whole_from [] begun = append-nil (ended begun)
whole_from (byte ∷ bytes) begun = whole_step byte bytes begun (is_newline byte) refl (whole_from bytes)

pub whole : (bytes : List ℕ) → flat_map ended (lines_of (ended bytes)) ≡ ended bytes
whole bytes = whole_from bytes []

-- ---- a last piece without a newline

last_pushed : (begun : List ℕ) (byte : ℕ) → last_line (begun ++ byte ∷ []) ≡ (begun ++ byte ∷ []) ∷ []
last_pushed [] byte = refl
last_pushed (first ∷ begun) byte = refl

open_step : (begun bytes closed : List ℕ) (byte : ℕ) (b : Bool) → ((front : List ℕ) → lines_from front bytes ≡ lines_from front closed)
    → cond b (begun ∷ lines_from [] bytes) (lines_from (begun ++ byte ∷ []) bytes) ≡ cond b (begun ∷ lines_from [] closed) (lines_from (begun ++ byte ∷ []) closed)
open_step begun bytes closed byte true rest = ap (λ lines. begun ∷ lines) (rest [])
open_step begun bytes closed byte false rest = rest (begun ++ byte ∷ [])

open_from : (bytes begun : List ℕ) (byte : ℕ) → is_newline byte ≡ false → lines_from begun (bytes ++ byte ∷ []) ≡ lines_from begun (ended (bytes ++ byte ∷ []))
open_from [] begun byte other = rw other (last_pushed begun byte)
open_from (first ∷ bytes) begun byte other =
    open_step begun (bytes ++ byte ∷ []) (ended (bytes ++ byte ∷ [])) first (is_newline first) (λ front. open_from bytes front byte other)

pub open_end : (bytes : List ℕ) (byte : ℕ) → byte ≢ newline → lines_of (bytes ++ byte ∷ []) ≡ lines_of (ended (bytes ++ byte ∷ []))
open_end bytes byte other = open_from bytes [] byte (is_other byte (is_newline byte) refl other)

-- ---- no line holds a newline

apart_last : (begun : List ℕ) → is_one_line begun ≡ true → list_all is_one_line (last_line begun) ≡ true
apart_last [] one = refl
apart_last (byte ∷ begun) one = both_true one refl

apart_step : (byte : ℕ) (bytes begun : List ℕ) (b : Bool) → is_newline byte ≡ b → is_one_line begun ≡ true
    → ((front : List ℕ) → is_one_line front ≡ true → list_all is_one_line (lines_from front bytes) ≡ true)
    → list_all is_one_line (cond b (begun ∷ lines_from [] bytes) (lines_from (begun ++ byte ∷ []) bytes)) ≡ true
apart_step byte bytes begun true e one rest = both_true one (rest [] refl)
apart_step byte bytes begun false e one rest =
    let last : not (is_newline byte) ≡ true = rw e refl in
    rest (begun ++ byte ∷ []) (list_all-append (λ b. not (is_newline b)) begun (byte ∷ []) ∙ both_true one (both_true last refl))

apart_from : (bytes begun : List ℕ) → is_one_line begun ≡ true → list_all is_one_line (lines_from begun bytes) ≡ true
apart_from [] begun one = apart_last begun one
apart_from (byte ∷ bytes) begun one = apart_step byte bytes begun (is_newline byte) refl one (apart_from bytes)

pub apart : (bytes : List ℕ) → IsTrue (list_all is_one_line (lines_of bytes))
apart bytes = apart_from bytes [] refl

-- ---- lines that were ended are read again

again_from : (line rest begun : List ℕ) → is_one_line line ≡ true → lines_from begun (line ++ newline ∷ rest) ≡ (begun ++ line) ∷ lines_from [] rest
again_from [] rest begun one = ap (λ line. line ∷ lines_from [] rest) (sym (append-nil begun))
again_from (byte ∷ line) rest begun one =
    let parts = both_parts (not (is_newline byte)) (is_one_line line) one in
    let other = not_true (is_newline byte) parts.0 in
    rw other (again_from line rest (begun ++ byte ∷ []) parts.1) ∙ ap (λ front. front ∷ lines_from [] rest) (append_assoc begun (byte ∷ []) line)

pub again : (lines : List (List ℕ)) → IsTrue (list_all is_one_line lines) → lines_of (flat_map ended lines) ≡ lines
again [] one = refl
again (line ∷ lines) one =
    let parts = both_parts (is_one_line line) (list_all is_one_line lines) one in
    ap lines_of (append_assoc line (newline ∷ []) (flat_map ended lines)) ∙ again_from line (flat_map ended lines) [] parts.0 ∙ ap (λ rest. line ∷ rest) (again lines parts.1)
