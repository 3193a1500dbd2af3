-- What a call of a table does to what its keys give.
use Rattle.std.proofs.Common.{◌≡◌, ℕ, Bool, true, false, cond, Option, Some, refl, sym, ◌∙◌, ap}
use Rattle.std.specs.BTreeMap.{BTreeMap, get, is_at}
use Rattle.std.specs.Cmp.{unsigned_tied}
use Rattle.std.specs.Option.{unwrap_or}
use Rattle.std.specs.Ordering.{nat_cmp}
use Rattle.proof_forms.specs.Maps.{count_at, put_at}

unwrapped : (b : Bool) (count : ℕ) (old : Option ℕ) → unwrap_or (cond b (Some count) old) 0 ≡ cond b count (unwrap_or old 0)
unwrapped true count old = refl
unwrapped false count old = refl

pub put_is : (old new : BTreeMap ℕ ℕ) (number count : ℕ)
    → ((n : ℕ) → get nat_cmp new n ≡ cond (is_at (nat_cmp number) n) (Some count) (get nat_cmp old n))
    → (n : ℕ) → count_at new n ≡ put_at (count_at old) number count n
put_is old new number count updates n =
    ap (λ o. unwrap_or o 0) (updates n) ∙ unwrapped (is_at (nat_cmp number) n) count (get nat_cmp old n)
    ∙ ap (λ b. cond b count (count_at old n)) (unsigned_tied number n)

-- a count that is there, and is written where it stands
pub written_is : (old new : BTreeMap ℕ ℕ) (number was now : ℕ) (f : ℕ → ℕ) → get nat_cmp old number ≡ Some was → now ≡ f was
    → ((n : ℕ) → get nat_cmp new n ≡ cond (is_at (nat_cmp number) n) (Some now) (get nat_cmp old n))
    → (n : ℕ) → count_at new n ≡ put_at (count_at old) number (f (count_at old number)) n
written_is old new number was now f there made updates n =
    put_is old new number now updates n ∙ ap (λ count. put_at (count_at old) number count n) (made ∙ ap f (sym (ap (λ o. unwrap_or o 0) there)))
