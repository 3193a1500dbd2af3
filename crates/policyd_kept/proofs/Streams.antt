-- What several reads or writes did to known bytes.
use Rattle.std.proofs.Common.{◌≡◌, ℕ, List, [], ◌++◌, Option, None, Some, IfSome, refl, sym, ap, ◌∙◌, append-nil, append_assoc}
use Rattle.std.specs.Io.KnownBytes.{Appends, Consumes, IsAtEnd, Keeps}

pub appends_none : (a : Option (List ℕ)) → Appends a a []
appends_none None = tt
appends_none (Some xs) = sym (append-nil xs)

pub appends_more : (a b c : Option (List ℕ)) (xs ys : List ℕ) → Appends a b xs → Appends b c ys → Appends a c (xs ++ ys)
appends_more None b c xs ys before now = tt
appends_more (Some p) None c xs ys before now = absurd before
appends_more (Some p) (Some q) None xs ys before now = absurd now
appends_more (Some p) (Some q) (Some r) xs ys before now = now ∙ ap (λ (front : List ℕ). front ++ ys) before ∙ append_assoc p xs ys

pub consumes_none : (a : Option (List ℕ)) → Consumes a a []
consumes_none None = tt
consumes_none (Some xs) = refl

pub consumes_more : (a b c : Option (List ℕ)) (xs ys : List ℕ) → Consumes a b xs → Consumes b c ys → Consumes a c (xs ++ ys)
consumes_more None b c xs ys before now = tt
consumes_more (Some p) None c xs ys before now = absurd before
consumes_more (Some p) (Some q) None xs ys before now = absurd now
consumes_more (Some p) (Some q) (Some r) xs ys before now = before ∙ ap (λ (rest : List ℕ). xs ++ rest) now ∙ sym (append_assoc xs ys r)

pub consumes_kept : (a b c : Option (List ℕ)) (xs : List ℕ) → Consumes a b xs → Keeps b c → Consumes a c xs
consumes_kept None b c xs before kept = tt
consumes_kept (Some p) None c xs before kept = absurd before
consumes_kept (Some p) (Some q) None xs before kept = absurd kept
consumes_kept (Some p) (Some q) (Some r) xs before kept = before ∙ ap (λ (rest : List ℕ). xs ++ rest) (sym kept)

-- the bytes that are left, and none where they aren't known
abbrev pub tail_of : Option (List ℕ) → List ℕ
tail_of None = []
tail_of (Some bytes) = bytes

-- those that were taken and those that are left were all
pub all_were : (a b : Option (List ℕ)) (taken : List ℕ) → Consumes a b taken → IfSome a (λ bytes. taken ++ tail_of b ≡ bytes)
all_were None b taken consumed = tt
all_were (Some p) None taken consumed = absurd consumed
all_were (Some p) (Some q) taken consumed = sym consumed

pub none_left : (b : Option (List ℕ)) → IsAtEnd b → tail_of b ≡ []
none_left None end = refl
none_left (Some q) end = end
