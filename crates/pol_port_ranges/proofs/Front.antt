-- Ports of which the same is said, in front of the ranges of those behind them; and the walk from port to port.
use Rattle.std.proofs.Common.{◌≡◌, ℕ, zero, suc, ◌+◌, ◌-◌, ◌<◌, ◌≤◌, ◌==◌, Bool, true, false, cond, List, [], ◌∷◌, ◌++◌, refl, sym, ap, ◌∙◌, inl, inr, arith, eq-eqb}
use Rattle.std.proofs.lemmas.Bool.{and_from, and_parts, cases_Bool, cases_lt, eqb-true}
use Rattle.pol_port_ranges.specs.declared.said.Range.{Range}
use Rattle.pol_port_ranges.specs.declared.said.PortSaid.{PortSaid}
use Rattle.pol_port_ranges.specs.Said.{is_told, same_said}
use Rattle.pol_port_ranges.specs.Ranges.{goes_on, in_front, joined, range, ranges_from}
use Rattle.pol_port_ranges.specs.Walk.{IsSteady, piece, walk}
use Rattle.pol_port_ranges.proofs.Same.{clash, same_said-is, same_said-self}

pub from_none : (f : ℕ → PortSaid) (port : ℕ) → ranges_from zero port f ≡ []
unfolding ranges_from
from_none f port = refl

pub from_more : (f : ℕ → PortSaid) (count port : ℕ) → ranges_from (suc count) port f ≡ in_front port port (f port) (ranges_from count (port + 1) f)
unfolding ranges_from
from_more f count port = refl

-- ---- one port more in front of ports of which the same is said
goes_self : (first last : ℕ) (said : PortSaid) → goes_on first said (range (first + 1) last said) ≡ true
goes_self first last said = and_from (first + 1 == first + 1) (same_said said said) (eq-eqb (first + 1) (first + 1) refl) (same_said-self said)

module _ (first : ℕ) (said : PortSaid) where
  joins_next : (last : ℕ) (others : List Range) → joined first first said (range (first + 1) last said ∷ others) ≡ range first last said ∷ others
  joins_next last others = ap (λ b. cond b (range first last said ∷ others) (range first first said ∷ range (first + 1) last said ∷ others)) (goes_self first last said)

  joins_either : (b : Bool) (last : ℕ) (next : Range) (others : List Range)
      → joined first first said (cond b (range (first + 1) next.last said ∷ others) (range (first + 1) last said ∷ next ∷ others))
      ≡ cond b (range first next.last said ∷ others) (range first last said ∷ next ∷ others)
  joins_either true last next others = joins_next next.last others
  joins_either false last next others = joins_next last (next ∷ others)

  joins_joined : (last : ℕ) (rest : List Range) → joined first first said (joined (first + 1) last said rest) ≡ joined first last said rest
  joins_joined last [] = joins_next last []
  joins_joined last (next ∷ others) = joins_either (goes_on last said next) last next others

  joins_by : (b : Bool) (last : ℕ) (rest : List Range)
      → cond b (joined first first said (cond b (joined (first + 1) last said rest) rest)) (cond b (joined (first + 1) last said rest) rest)
      ≡ cond b (joined first last said rest) rest
  joins_by true last rest = joins_joined last rest
  joins_by false last rest = refl

  joins : (last : ℕ) (rest : List Range) → in_front first first said (in_front (first + 1) last said rest) ≡ in_front first last said rest
  joins last rest = joins_by (is_told said) last rest

-- so ports of which the same is said are put in front at once
pub stretch : (f : ℕ → PortSaid) (total count len port : ℕ) → total ≡ len + 1 + count → ((q : ℕ) → port ≤ q → q ≤ port + len → f q ≡ f port)
    → ranges_from total port f ≡ in_front port (port + len) (f port) (ranges_from count (port + len + 1) f)
stretch f zero count len port is same = absurd (omega arith)
stretch f (suc total) count zero port is same =
    let a : total ≡ count = omega arith in
    let b : port ≡ port + zero = omega arith in
    from_more f total port ∙ (λ i. in_front port (b i) (f port) (ranges_from (a i) (b i + 1) f))
stretch f (suc total) count (suc len) port is same =
    let e : port + 1 + len ≡ port + suc len = omega arith in
    let next : f (port + 1) ≡ f port = same (port + 1) (omega arith) (omega arith) in
    let rest = stretch f total count len (port + 1) (omega arith) (λ q low high. same q (omega arith) (omega arith) ∙ sym next) in
    from_more f total port
    ∙ ap (in_front port port (f port)) (rest ∙ (λ i. in_front (port + 1) (e i) (next i) (ranges_from count (e i + 1) f)))
    ∙ joins port (f port) (port + suc len) (ranges_from count (port + suc len + 1) f)

-- ---- where ranges start
abbrev pub StartFrom : ℕ → List Range → Type 0
StartFrom port [] = Unit {0}
StartFrom port (r ∷ others) = port ≤ r.first

pub start_earlier : (a b : ℕ) (rs : List Range) → a ≤ b → StartFrom b rs → StartFrom a rs
start_earlier a b [] le from = tt
start_earlier a b (r ∷ rs) le from = omega arith

start_joined : (first last : ℕ) (said : PortSaid) (rest : List Range) → StartFrom first (joined first last said rest)
start_joined first last said [] = let e : first ≤ first = omega arith in e
start_joined first last said (next ∷ others) = by (goes_on last said next)
  where
    by : (b : Bool) → StartFrom first (cond b (range first next.last said ∷ others) (range first last said ∷ next ∷ others))
    by true = let e : first ≤ first = omega arith in e
    by false = let e : first ≤ first = omega arith in e

start_in_front : (port : ℕ) (said : PortSaid) (rest : List Range) → StartFrom (port + 1) rest → StartFrom port (in_front port port said rest)
start_in_front port said rest from = by (is_told said)
  where
    by : (b : Bool) → StartFrom port (cond b (joined port port said rest) rest)
    by true = start_joined port port said rest
    by false = start_earlier port (port + 1) rest (omega arith) from

pub starts : (f : ℕ → PortSaid) (count port : ℕ) → StartFrom port (ranges_from count port f)
starts f zero port = rw (from_none f port) tt
starts f (suc count) port = rw (from_more f count port) (start_in_front port (f port) (ranges_from count (port + 1) f) (starts f count (port + 1)))

-- ---- ranges that don't go on
-- the first of the ranges doesn't go on where these ports end
abbrev StopsAt : ℕ → PortSaid → List Range → Type 0
StopsAt last said [] = Unit {0}
StopsAt last said (next ∷ others) = goes_on last said next ≡ false

stopped_joined : (first last : ℕ) (said : PortSaid) (rest : List Range) → StopsAt last said rest → joined first last said rest ≡ range first last said ∷ rest
stopped_joined first last said [] stops = refl
stopped_joined first last said (next ∷ others) stops = ap (λ b. cond b (range first next.last said ∷ others) (range first last said ∷ next ∷ others)) stops

stopped : (first last : ℕ) (said : PortSaid) (rest : List Range) → StopsAt last said rest → in_front first last said rest ≡ piece first last said ++ rest
stopped first last said rest stops = by (is_told said)
  where
    by : (b : Bool) → cond b (joined first last said rest) rest ≡ cond b (range first last said ∷ []) [] ++ rest
    by true = stopped_joined first last said rest stops
    by false = refl

not_on : (last : ℕ) (said : PortSaid) (next : Range) → (next.first ≡ last + 1 → same_said said next.said ≡ true → ⊥) → goes_on last said next ≡ false
not_on last said next none =
    elim (cases_Bool (goes_on last said next)) [
      | inl t ↦ absurd (let both = and_parts (next.first == last + 1) (same_said said next.said) t in none (eqb-true next.first (last + 1) both.0) both.1)
      | inr f ↦ f
    ]

stops_above : (last : ℕ) (said : PortSaid) (rest : List Range) → StartFrom (last + 2) rest → StopsAt last said rest
stops_above last said [] from = tt
stops_above last said (next ∷ others) from = not_on last said next (λ is _. omega arith)

stops_joined : (last : ℕ) (said next_said : PortSaid) (rest : List Range) → same_said said next_said ≡ false → StopsAt last said (joined (last + 1) (last + 1) next_said rest)
stops_joined last said next_said [] other = not_on last said (range (last + 1) (last + 1) next_said) (λ _ same. clash (same_said said next_said) same other)
stops_joined last said next_said (next ∷ others) other = by (goes_on (last + 1) next_said next)
  where
    by : (b : Bool) → StopsAt last said (cond b (range (last + 1) next.last next_said ∷ others) (range (last + 1) (last + 1) next_said ∷ next ∷ others))
    by true = not_on last said (range (last + 1) next.last next_said) (λ _ same. clash (same_said said next_said) same other)
    by false = not_on last said (range (last + 1) (last + 1) next_said) (λ _ same. clash (same_said said next_said) same other)

stops_in_front : (last : ℕ) (said next_said : PortSaid) (rest : List Range) → same_said said next_said ≡ false → StartFrom (last + 2) rest
    → StopsAt last said (in_front (last + 1) (last + 1) next_said rest)
stops_in_front last said next_said rest other from = by (is_told next_said)
  where
    by : (b : Bool) → StopsAt last said (cond b (joined (last + 1) (last + 1) next_said rest) rest)
    by true = stops_joined last said next_said rest other
    by false = stops_above last said rest from

-- ---- the walk
module _ (f : ℕ → PortSaid) where
  walk_end : (first : ℕ) → walk f first [] ≡ piece first 65535 (f first)
  unfolding walk
  walk_end first = refl

  chosen : (b : Bool) (first port : ℕ) (ports : List ℕ) → same_said (f first) (f port) ≡ b
      → walk f first (port ∷ ports) ≡ cond b (walk f first ports) (piece first (port - 1) (f first) ++ walk f port ports)
  unfolding walk
  chosen b first port ports is = ap (λ c. cond c (walk f first ports) (piece first (port - 1) (f first) ++ walk f port ports)) is

  pub walk_on : (first : ℕ) → walk f first [] ≡ piece first 65535 (f first)
  walk_on first = walk_end first

  pub walk_same : (first port : ℕ) (ports : List ℕ) → same_said (f first) (f port) ≡ true → walk f first (port ∷ ports) ≡ walk f first ports
  walk_same first port ports is = chosen true first port ports is

  pub walk_next : (first port : ℕ) (ports : List ℕ) → same_said (f first) (f port) ≡ false
      → walk f first (port ∷ ports) ≡ piece first (port - 1) (f first) ++ walk f port ports
  walk_next first port ports is = chosen false first port ports is

  -- ports up to one where something else is said, in front of the ranges from there on
  turned : (total count first last : ℕ) → first ≤ last → total ≡ last - first + 1 + suc count → same_said (f first) (f (last + 1)) ≡ false
      → ((q : ℕ) → first ≤ q → q ≤ last → f q ≡ f first) → ranges_from total first f ≡ piece first last (f first) ++ ranges_from (suc count) (last + 1) f
  turned total count first last low is other same =
      let e : first + (last - first) ≡ last = omega arith in
      stretch f total (suc count) (last - first) first is (λ q from to. same q from (omega arith))
      ∙ (λ i. in_front first (e i) (f first) (ranges_from (suc count) (e i + 1) f))
      ∙ ap (in_front first last (f first)) (from_more f count (last + 1))
      ∙ stopped first last (f first) (in_front (last + 1) (last + 1) (f (last + 1)) (ranges_from count (last + 1 + 1) f))
      (stops_in_front last (f first) (f (last + 1)) (ranges_from count (last + 1 + 1) f) other (start_earlier (last + 2) (last + 1 + 1) (ranges_from count (last + 1 + 1) f) (omega arith) (starts f count (last + 1 + 1))))
      ∙ ap (λ xs. piece first last (f first) ++ xs) (sym (from_more f count (last + 1)))

  small : (c : ℕ) (cs : List ℕ) → IsSteady f c cs → c < 65536
  small c [] s = s.0
  small c (d ∷ ds) s = let up : c < d = s.0 in let rest : d < 65536 = small d ds s.2 in omega arith

  differs : (first here total c : ℕ) (cs : List ℕ) → first ≤ here → total + first ≡ 65536 → here < c → c < 65536
      → ((q : ℕ) → first ≤ q → q < c → f q ≡ f first) → same_said (f first) (f c) ≡ false
      → walk f c cs ≡ ranges_from (65536 - c) c f → walk f first (c ∷ cs) ≡ ranges_from total first f
  differs first here total c cs low is less high before other rest =
      let e : c - 1 + 1 ≡ c = omega arith in
      let n : suc (65535 - c) ≡ 65536 - c = omega arith in
      walk_next first c cs other
      ∙ ap (λ xs. piece first (c - 1) (f first) ++ xs) rest
      ∙ sym (turned total (65535 - c) first (c - 1) (omega arith) (omega arith) (rw e other) (λ q from to. before q from (omega arith))
      ∙ (λ i. piece first (c - 1) (f first) ++ ranges_from (n i) (e i) f))

  -- what the walk gives, from a port on of which the same is said as of those up to another one
  pub walked : (first here total : ℕ) (cs : List ℕ) → first ≤ here → total + first ≡ 65536 → ((q : ℕ) → first ≤ q → q ≤ here → f q ≡ f first)
      → IsSteady f here cs → walk f first cs ≡ ranges_from total first f
  walked first here total [] low is same steady =
      let below : here < 65536 = steady.0 in
      let e : first + (65535 - first) ≡ 65535 = omega arith in
      walk_end first
      ∙ sym (stretch f total zero (65535 - first) first (omega arith) (λ q from to. elim (cases_lt here q) [
        | inl above ↦ steady.1 q (omega arith) (omega arith) ∙ same here low (omega arith)
        | inr before ↦ same q from before
      ])
      ∙ (λ i. in_front first (e i) (f first) (ranges_from zero (e i + 1) f))
      ∙ ap (in_front first 65535 (f first)) (from_none f (65535 + 1)))
  walked first here total (c ∷ cs) low is same steady =
      let less : here < c = steady.0 in
      let before : (q : ℕ) → first ≤ q → q < c → f q ≡ f first = λ q from to. elim (cases_lt here q) [
        | inl above ↦ steady.1 q (omega arith) to ∙ same here low (omega arith)
        | inr near ↦ same q from near
      ] in
      elim (cases_Bool (same_said (f first) (f c))) [
        | inl t ↦ walk_same first c cs t ∙ walked first c total cs (omega arith) is (λ q from to. elim (cases_lt q c) [
          | inl under ↦ before q from under
          | inr at ↦ ap f (let e : q ≡ c = omega arith in e) ∙ sym (same_said-is (f first) (f c) t)
        ]) steady.2
        | inr other ↦ (let high = small c cs steady.2 in
            differs first here total c cs low is less high before other
            (walked c c (65536 - c) cs (omega arith) (omega arith) (λ q from to. ap f (let k : q ≡ c = omega arith in k)) steady.2))
      ]
