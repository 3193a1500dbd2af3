-- What several writes in a row did to the known bytes of a sink.
use Rattle.std.proofs.Common.{◌≡◌, ◌<◌, ℕ, List, [], ◌++◌, length, take, drop, Option, Some, None, arith, refl}
use Rattle.std.proofs.lemmas.Grind.{common_steps}
use Rattle.std.specs.Io.KnownBytes.{Appends, Keeps}
use Rattle.pol_streams.specs.Bytes.{AppendsPart}

-- of these bytes the front was appended, and the rest is to be written
pub record Sent (old now : Option (List ℕ)) (bytes rest : List ℕ) : Type 0 where
  pub front : List ℕ
  pub joined : bytes ≡ front ++ rest
  pub appended : Appends old now front

-- no write appended anything
appends_none : (a : Option (List ℕ)) → Appends a a []
appends_none None = tt
appends_none (Some xs) = grind (arith, common_steps)

-- one more write
appends_more : (a b c : Option (List ℕ)) (xs ys : List ℕ) → Appends a b xs → Appends b c ys → Appends a c (xs ++ ys)
appends_more None b c xs ys before now = tt
appends_more (Some p) None c xs ys before now = absurd before
appends_more (Some p) (Some q) None xs ys before now = absurd now
appends_more (Some p) (Some q) (Some r) xs ys before now = grind (arith, common_steps)

-- a write that failed
appends_kept : (a b c : Option (List ℕ)) (xs : List ℕ) → Appends a b xs → Keeps b c → Appends a c xs
appends_kept None b c xs before kept = tt
appends_kept (Some p) None c xs before kept = absurd before
appends_kept (Some p) (Some q) None xs before kept = absurd kept
appends_kept (Some p) (Some q) (Some r) xs before kept = grind (arith, common_steps)

pub sent_start : (a : Option (List ℕ)) (bytes : List ℕ) → Sent a a bytes bytes
sent_start a bytes = record { front = []; joined = refl; appended = appends_none a }

-- one more write took the first n bytes of the rest, and this is behind them
pub sent_more : (a b c : Option (List ℕ)) (bytes rest behind : List ℕ) (n : ℕ) → Sent a b bytes rest → Appends b c (take n rest) → behind ≡ drop n rest → Sent a c bytes behind
sent_more a b c bytes rest behind n before now cut = record {
  front = before.front ++ take n rest;
  joined = grind (arith, common_steps, before.joined, cut);
  appended = appends_more a b c before.front (take n rest) before.appended now;
}

pub sent_part : (a b c : Option (List ℕ)) (bytes rest : List ℕ) → Sent a b bytes rest → Keeps b c → 0 < length rest → AppendsPart a c bytes
sent_part a b c bytes rest before kept left =
    let whole : take (length before.front) bytes ≡ before.front = grind (arith, common_steps, before.joined) in
    record {
      count = length before.front;
      not_all = grind (arith, common_steps, before.joined);
      appended = rw whole (appends_kept a b c before.front before.appended kept);
    }

pub sent_all : (a b : Option (List ℕ)) (bytes rest : List ℕ) → Sent a b bytes rest → length rest ≡ 0 → Appends a b bytes
sent_all a b bytes rest before none =
    let whole : before.front ≡ bytes = grind (arith, common_steps, before.joined) in
    rw (← whole) before.appended
