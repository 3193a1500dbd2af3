-- A JSON value has no more nodes than its text has bytes.
use Rattle.std.proofs.Common.{◌≡◌, ℕ, zero, suc, ◌+◌, ◌≤◌, Bool, true, false, List, [], ◌∷◌, length, Option, Some, None, option_and_then, refl, arith}
use Rattle.std.specs.Prelude.{⊤}
use Rattle.json.specs.Token.{Token, begin_object, end_object, begin_array, end_array, key, string, number, boolean, null, bad}
use Rattle.json.specs.Json as json
use Rattle.json.specs.Json.{Json, Items, Members, Parse, parse_map, after_end_array, read_key, items_step, members_step, items, members, value_with, value, if_last}
use Rattle.json.specs.Lex.{Lexeme, token, comma, colon, Class, quote, backslash, operator, space, other, class, Mode, between, in_word, in_string, in_escape, lex_byte, lex, Place, fresh, after_value, after_comma, after_key, begins_colon, if_allowed, may_begin, may_close, place_token, punctuate, tokens}
use Rattle.json.proofs.Grammar.{after_end_array-shorter, read_key-shorter}

-- ---- tokens are no more than bytes

module _ (x n : ℕ) (xs : List ℕ) (k : Mode → List Lexeme) (few : (next : Mode) → length (k next) ≤ n) where
  byte_few : (m : Mode) (c : Class) → length (lex_byte m c x xs k) ≤ suc n
  byte_few between quote = omega (arith, few in_string)
  byte_few between backslash = omega (arith, few in_word)
  byte_few between operator = omega (arith, few between)
  byte_few between space = omega (arith, few between)
  byte_few between other = omega (arith, few in_word)
  byte_few in_word quote = omega (arith, few in_word)
  byte_few in_word backslash = omega (arith, few in_word)
  byte_few in_word operator = omega (arith, few between)
  byte_few in_word space = omega (arith, few between)
  byte_few in_word other = omega (arith, few in_word)
  byte_few in_string quote = omega (arith, few between)
  byte_few in_string backslash = omega (arith, few in_escape)
  byte_few in_string operator = omega (arith, few in_string)
  byte_few in_string space = omega (arith, few in_string)
  byte_few in_string other = omega (arith, few in_string)
  byte_few in_escape quote = omega (arith, few in_string)
  byte_few in_escape backslash = omega (arith, few in_string)
  byte_few in_escape operator = omega (arith, few in_string)
  byte_few in_escape space = omega (arith, few in_string)
  byte_few in_escape other = omega (arith, few in_string)

lexemes_few : (m : Mode) (xs : List ℕ) → length (lex m xs) ≤ length xs
unfolding lex
lexemes_few m [] = omega arith
lexemes_few m (x ∷ xs) = byte_few x (length xs) xs (λ next. lex next xs) (λ next. lexemes_few next xs) m (class x)

module _ (n : ℕ) (k : Place → List Token) (few : (next : Place) → length (k next) ≤ suc n) where
  allowed_few : (b : Bool) (t : Token) (next : Place) → length (if_allowed b t k next) ≤ suc (suc n)
  allowed_few true t next = omega (arith, few next)
  allowed_few false t next = omega arith

  token_few : (p : Place) (t : Token) (before_colon : Bool) → length (place_token p t before_colon k) ≤ suc (suc n)
  token_few p begin_object before_colon = allowed_few (may_begin p) begin_object fresh
  token_few p end_object before_colon = allowed_few (may_close p) end_object after_value
  token_few p begin_array before_colon = allowed_few (may_begin p) begin_array fresh
  token_few p end_array before_colon = allowed_few (may_close p) end_array after_value
  token_few p (key s) before_colon = omega arith
  token_few p (string s) true = allowed_few (may_begin p) (key s) after_key
  token_few p (string s) false = allowed_few (may_begin p) (string s) after_value
  token_few p (number s) before_colon = allowed_few (may_begin p) (number s) after_value
  token_few p (boolean b) before_colon = allowed_few (may_begin p) (boolean b) after_value
  token_few p null before_colon = allowed_few (may_begin p) null after_value
  token_few p bad before_colon = omega arith

placed_few : (p : Place) (ls : List Lexeme) → length (punctuate p ls) ≤ suc (length ls)
unfolding punctuate
placed_few fresh [] = omega arith
placed_few after_value [] = omega arith
placed_few after_comma [] = omega arith
placed_few after_key [] = omega arith
placed_few fresh (token t ∷ ls) = token_few (length ls) (λ next. punctuate next ls) (λ next. placed_few next ls) fresh t (begins_colon ls)
placed_few after_value (token t ∷ ls) = token_few (length ls) (λ next. punctuate next ls) (λ next. placed_few next ls) after_value t (begins_colon ls)
placed_few after_comma (token t ∷ ls) = token_few (length ls) (λ next. punctuate next ls) (λ next. placed_few next ls) after_comma t (begins_colon ls)
placed_few after_key (token t ∷ ls) = token_few (length ls) (λ next. punctuate next ls) (λ next. placed_few next ls) after_key t (begins_colon ls)
placed_few fresh (comma ∷ ls) = omega arith
placed_few after_value (comma ∷ ls) = omega (arith, placed_few after_comma ls)
placed_few after_comma (comma ∷ ls) = omega arith
placed_few after_key (comma ∷ ls) = omega arith
placed_few fresh (colon ∷ ls) = omega arith
placed_few after_value (colon ∷ ls) = omega arith
placed_few after_comma (colon ∷ ls) = omega arith
placed_few after_key (colon ∷ ls) = omega (arith, placed_few fresh ls)

tokens_few : (text : List ℕ) → length (tokens text) ≤ length text + 1
tokens_few text = omega (arith, placed_few fresh (lex between text), lexemes_few between text)

-- ---- nodes are no more than tokens

abbrev mutual
  pub nodes : Json → ℕ
  nodes json.null = 1
  nodes (json.boolean b) = 1
  nodes (json.number s) = 1
  nodes (json.string s) = 1
  nodes (json.array js) = 2 + items_nodes js
  nodes (json.object ms) = 2 + members_nodes ms

  pub items_nodes : Items → ℕ
  items_nodes json.no_items = 0
  items_nodes (json.item j js) = nodes j + items_nodes js

  pub members_nodes : Members → ℕ
  members_nodes json.no_members = 0
  members_nodes (json.member k j ms) = 1 + nodes j + members_nodes ms

-- with the bracket that closes them
abbrev closed_items : Items → ℕ
closed_items js = items_nodes js + 1

abbrev closed_members : Members → ℕ
closed_members ms = members_nodes ms + 1

-- what was read, and the tokens that are left, are so many at most
abbrev AtMost : {A : Type 0} → (A → ℕ) → ℕ → Option (A × List Token) → Type 0
AtMost f n None = ⊤
AtMost f n (Some p) = f p.0 + length p.1 ≤ n

abbrev Within : {A : Type 0} → (A → ℕ) → Parse A → Type 0
Within f p = (ts : List Token) → AtMost f (length ts) (p ts)

mapped : {A B : Type 0} (f : A → ℕ) (g : B → ℕ) (m n : ℕ) (h : A → B) → ((a : A) (left : ℕ) → f a + left ≤ m → g (h a) + left ≤ n)
    → (o : Option (A × List Token)) → AtMost f m o → AtMost g n (parse_map h o)
mapped f g m n h step None x = tt
mapped f g m n h step (Some p) x = step p.0 (length p.1) x

and_more : {B : Type 0} (g : B → ℕ) (own m n : ℕ) (h : Json → B → B) → ((j : Json) (b : B) → g (h j b) ≡ own + nodes j + g b) → own + m ≤ n → (more : Parse B)
    → Within g more → (o : Option (Json × List Token)) → AtMost nodes m o → AtMost g n (option_and_then (λ q. parse_map (h q.0) (more q.1)) o)
and_more g own m n h is room more within None x = tt
and_more g own m n h is room more within (Some q) x =
    mapped g g (length q.1) n (h q.0) (λ b left y. omega (arith, is q.0 b, x, y, room)) (more q.1) (within q.1)

module _ (p : Parse Json) (within : Within nodes p) where
  item_turn : (more : Parse Items) → Within closed_items more → (ts : List Token) (o : Option (List Token)) → after_end_array ts ≡ o
      → AtMost closed_items (length ts) (items_step p more ts o)
  item_turn more again ts (Some r) is = omega (arith, after_end_array-shorter ts r is)
  item_turn more again ts None is = and_more closed_items 0 (length ts) (length ts) json.item (λ j b. omega arith) (omega arith) more again (p ts) (within ts)

  Within-items : (n : ℕ) → Within closed_items (items p n)
  unfolding items
  Within-items zero ts = tt
  Within-items (suc n) ts = item_turn (items p n) (Within-items n) ts (after_end_array ts) refl

  member_turn : (more : Parse Members) → Within closed_members more → (ts : List Token) (o : Option (Option (List ℕ) × List Token)) → read_key ts ≡ o
      → AtMost closed_members (length ts) (option_and_then (λ q. members_step p more q.0 q.1) o)
  member_turn more again ts None is = tt
  member_turn more again ts (Some (None, s)) is = omega (arith, read_key-shorter ts None s is)
  member_turn more again ts (Some (Some k, s)) is =
      let shorter = read_key-shorter ts (Some k) s is in
      and_more closed_members 1 (length s) (length ts) (json.member k) (λ j b. omega arith) (omega (arith, shorter)) more again (p s) (within s)

  Within-members : (n : ℕ) → Within closed_members (members p n)
  unfolding members
  Within-members zero ts = tt
  Within-members (suc n) ts = member_turn (members p n) (Within-members n) ts (read_key ts) refl

one_level : (a : Parse Items) (o : Parse Members) → Within closed_items a → Within closed_members o → Within nodes (value_with a o)
one_level a o p q [] = tt
one_level a o p q (begin_object ∷ ts) = mapped closed_members nodes (length ts) (suc (length ts)) json.object (λ ms left x. omega (arith, x)) (o ts) (q ts)
one_level a o p q (end_object ∷ ts) = tt
one_level a o p q (begin_array ∷ ts) = mapped closed_items nodes (length ts) (suc (length ts)) json.array (λ js left x. omega (arith, x)) (a ts) (p ts)
one_level a o p q (end_array ∷ ts) = tt
one_level a o p q (key s ∷ ts) = tt
one_level a o p q (string s ∷ ts) = omega arith
one_level a o p q (number s ∷ ts) = omega arith
one_level a o p q (boolean b ∷ ts) = omega arith
one_level a o p q (null ∷ ts) = omega arith
one_level a o p q (bad ∷ ts) = tt

pub Within-value : (depth : ℕ) → Within nodes (value depth)
unfolding value
Within-value zero = one_level (λ ts. None) (λ ts. None) (λ ts. tt) (λ ts. tt)
Within-value (suc depth) =
    one_level (λ ts. items (value depth) (length ts) ts) (λ ts. members (value depth) (length ts) ts)
    (λ ts. Within-items (value depth) (Within-value depth) (length ts) ts) (λ ts. Within-members (value depth) (Within-value depth) (length ts) ts)

abbrev pub AtMostOf : {A : Type 0} → (A → ℕ) → ℕ → Option A → Type 0
AtMostOf f n None = ⊤
AtMostOf f n (Some a) = f a ≤ n

last_within : (n : ℕ) (o : Option (Json × List Token)) → AtMost nodes n o → AtMostOf nodes n (option_and_then (λ p. if_last p.0 p.1) o)
last_within n None x = tt
last_within n (Some (j, [])) x = omega (arith, x)
last_within n (Some (j, t ∷ rest)) x = tt

more_room : {A : Type 0} (f : A → ℕ) (m n : ℕ) (o : Option A) → m ≤ n → AtMostOf f m o → AtMostOf f n o
more_room f m n None room x = tt
more_room f m n (Some a) room x = omega (arith, x, room)

-- the value of a text has no more nodes than the text has bytes, and one
pub text_nodes : (depth : ℕ) (text : List ℕ) → AtMostOf nodes (length text + 1) (option_and_then (λ p. if_last p.0 p.1) (value depth (tokens text)))
text_nodes depth text =
    let o = value depth (tokens text) in
    more_room nodes (length (tokens text)) (length text + 1) (option_and_then (λ p. if_last p.0 p.1) o) (tokens_few text)
    (last_within (length (tokens text)) o (Within-value depth (tokens text)))
