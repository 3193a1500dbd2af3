-- Histories, turn by turn.
use Rattle.std.proofs.Common.{◌≡◌, ℕ, suc, List, [], ◌∷◌, ◌++◌, drop, length, refl, sym, ap, ◌∙◌, subst, append_assoc, append-nil}
use mathlib.Core.List.{IsPrefix}
use Rattle.pol_hints.specs.declared.turn.Turn.{Turn}
use Rattle.pol_hints.specs.declared.turn.Turn.TheVariants.{Put, Taken}
use Rattle.pol_hints.specs.History.{IsHistory, MayCome, MayComeFrom, hints_put, hints_taken, puts, waiting, waiting_after, waiting_from}

waiting_from-append : (hints : List ℕ) (a b : List Turn) → waiting_from hints (a ++ b) ≡ waiting_from (waiting_from hints a) b
waiting_from-append hints [] b = refl
waiting_from-append hints (turn ∷ a) b = waiting_from-append (waiting_after hints turn) a b

-- the hints that wait after one turn more
pub waiting_more : (history : List Turn) (turn : Turn) → waiting (history ++ turn ∷ []) ≡ waiting_after (waiting history) turn
waiting_more history turn = waiting_from-append [] history (turn ∷ [])

may_more : (hints : List ℕ) (a : List Turn) (turn : Turn) → MayComeFrom hints a → MayCome (waiting_from hints a) turn → MayComeFrom hints (a ++ turn ∷ [])
may_more hints [] turn it next = (next, tt)
may_more hints (first ∷ a) turn it next = (it.0, may_more (waiting_after hints first) a turn it.1 next)

-- a history goes on by a turn that may come
pub history_more : (history : List Turn) (turn : Turn) → IsHistory history → MayCome (waiting history) turn → IsHistory (history ++ turn ∷ [])
history_more history turn it next = may_more [] history turn it next

begun_from : (hints : List ℕ) (a b : List Turn) → MayComeFrom hints (a ++ b) → MayComeFrom hints a
begun_from hints [] b it = tt
begun_from hints (turn ∷ a) b it = (it.0, begun_from (waiting_after hints turn) a b it.1)

-- a beginning of a history is one
pub begun : (v whole : List Turn) → IsPrefix v whole → IsHistory whole → IsHistory v
begun v whole begins it = begun_from [] v begins.0 (subst IsHistory (sym begins.1) it)

pub taken_first : (hints : List ℕ) (turns : List Turn) → MayComeFrom hints turns → hints_taken turns ++ waiting_from hints turns ≡ hints ++ hints_put turns
taken_first hints [] it = sym (append-nil hints)
taken_first hints (Put slot ∷ turns) it = taken_first (hints ++ slot ∷ []) turns it.1 ∙ append_assoc hints (slot ∷ []) (hints_put turns)
taken_first hints (Taken slot ∷ turns) it = ap (λ l. slot ∷ l) (taken_first (drop 1 hints) turns it.1) ∙ ap (λ l. l ++ hints_put turns) (sym it.0)

pub put-append : (a b : List Turn) → hints_put (a ++ b) ≡ hints_put a ++ hints_put b
put-append [] b = refl
put-append (Put slot ∷ a) b = ap (λ l. slot ∷ l) (put-append a b)
put-append (Taken slot ∷ a) b = put-append a b

pub taken-append : (a b : List Turn) → hints_taken (a ++ b) ≡ hints_taken a ++ hints_taken b
taken-append [] b = refl
taken-append (Put slot ∷ a) b = taken-append a b
taken-append (Taken slot ∷ a) b = ap (λ l. slot ∷ l) (taken-append a b)

-- ---- several hints at once

may_puts : (hints : List ℕ) (slots : List ℕ) → MayComeFrom hints (puts slots)
may_puts hints [] = tt
may_puts hints (slot ∷ slots) = (tt, may_puts (hints ++ slot ∷ []) slots)

may_both : (hints : List ℕ) (a b : List Turn) → MayComeFrom hints a → MayComeFrom (waiting_from hints a) b → MayComeFrom hints (a ++ b)
may_both hints [] b it next = next
may_both hints (turn ∷ a) b it next = (it.0, may_both (waiting_after hints turn) a b it.1 next)

-- a history goes on by hints that are put
pub history_puts : (history : List Turn) (slots : List ℕ) → IsHistory history → IsHistory (history ++ puts slots)
history_puts history slots it = may_both [] history (puts slots) it (may_puts (waiting history) slots)

waiting_from_puts : (hints slots : List ℕ) → waiting_from hints (puts slots) ≡ hints ++ slots
waiting_from_puts hints [] = sym (append-nil hints)
waiting_from_puts hints (slot ∷ slots) = waiting_from_puts (hints ++ slot ∷ []) slots ∙ append_assoc hints (slot ∷ []) slots

-- they wait behind the others
pub waiting_puts : (history : List Turn) (slots : List ℕ) → waiting (history ++ puts slots) ≡ waiting history ++ slots
waiting_puts history slots = waiting_from-append [] history (puts slots) ∙ waiting_from_puts (waiting history) slots

pub length-puts : (slots : List ℕ) → length (puts slots) ≡ length slots
length-puts [] = refl
length-puts (slot ∷ slots) = ap (λ (k : ℕ). suc k) (length-puts slots)

pub put_puts : (slots : List ℕ) → hints_put (puts slots) ≡ slots
put_puts [] = refl
put_puts (slot ∷ slots) = ap (λ l. slot ∷ l) (put_puts slots)

pub taken_puts : (slots : List ℕ) → hints_taken (puts slots) ≡ []
taken_puts [] = refl
taken_puts (slot ∷ slots) = taken_puts slots

-- a history goes on by the first hint that waits, which is taken
pub history_taken : (history : List Turn) (slot : ℕ) (rest : List ℕ) → waiting history ≡ slot ∷ rest → IsHistory history → IsHistory (history ++ Taken slot ∷ [])
history_taken history slot rest is it = history_more history (Taken slot) it (is ∙ ap (λ (l : List ℕ). slot ∷ drop 1 l) (sym is))

pub waiting_taken : (history : List Turn) (slot : ℕ) (rest : List ℕ) → waiting history ≡ slot ∷ rest → waiting (history ++ Taken slot ∷ []) ≡ rest
waiting_taken history slot rest is = waiting_more history (Taken slot) ∙ ap (drop 1) is
