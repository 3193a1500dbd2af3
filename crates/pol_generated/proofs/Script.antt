-- The generated script, line by line.
use Rattle.std.proofs.Common.{◌≡◌, ℕ, ◌+◌, ◌*◌, ◌/◌, ◌%◌, ◌^◌, ◌<◌, ◌==◌, Bool, true, false, cond, codes, [], ◌∷◌, ◌++◌, map, Ok, arith}
use Rattle.std.proofs.Math.Nat.{mod-lt}
use Rattle.std.specs.List.{flat_map, range_with_len}
use Rattle.pol_gen.specs.Draws.{after, drawn, next}
use Rattle.pol_gen.specs.Generated as text
use Rattle.pol_script.specs.declared.command.Command.TheVariants as command
use Rattle.pol_script.specs.Lines.{lines_of}
use Rattle.pol_script.specs.Reading.{reading_of}
use Rattle.pol_generated.specs.Asked as asked
use Rattle.pol_generated.proofs.ApplyLine.{apply_reads}
use Rattle.pol_generated.proofs.EndpointLine.{endpoint_reads}
use Rattle.pol_generated.proofs.LinesRead.{Reads, nothing, both, each, all_read}
use Rattle.pol_generated.proofs.SyncLine.{sync_reads}
use Rattle.pol_generated.proofs.VerdictLine.{verdict_reads}

-- a draw is below its bound
pub below : (others x bound : ℕ) → 0 < bound → drawn others x bound < bound
below others x bound some = mod-lt (next (after others x) / 2 ^ 33) {m = bound} some

endpoint_line : (x i : ℕ) → i < 32 → Reads (text.endpoint_line i x) (asked.endpoint_command i x ∷ [])
endpoint_line x i low = endpoint_reads i (drawn 0 x 8) (omega (arith, low)) (omega (arith, below 0 x 8 (omega arith)))

verdict_line : (x i : ℕ) → i < 32 → Reads (text.verdict_line i x) (asked.verdict_command i x ∷ [])
verdict_line x i low =
    verdict_reads i (drawn 0 x 32 + 1) (drawn 1 x 1124 + 1) (omega (arith, low))
    (omega (arith, below 0 x 32 (omega arith))) (omega (arith, below 1 x 1124 (omega arith)))

apply_line : (x : ℕ) → Reads (text.apply_line x) (asked.apply_command x ∷ [])
apply_line x =
    let first = drawn 3 x 1024 + 1 in
    apply_reads (drawn 0 x 64) (drawn 1 x 8) (drawn 2 x 8) first (first + drawn 4 x 100) (drawn 5 x 4) (record {
      name_drawn = below 0 x 64 (omega arith);
      app_drawn = below 1 x 8 (omega arith);
      from_drawn = below 2 x 8 (omega arith);
      some = omega arith;
      low = omega (arith, below 3 x 1024 (omega arith));
      high = omega (arith, below 3 x 1024 (omega arith), below 4 x 100 (omega arith));
    })

endpoints : (x : ℕ) → Reads (text.endpoints x) (asked.endpoints x)
endpoints x =
    each (λ i. text.endpoint_line i (after i x)) (λ i. asked.endpoint_command i (after i x) ∷ []) 32 0 32 (omega arith) (λ i low. endpoint_line (after i x) i low)

check : (x : ℕ) → Reads (text.check x) (asked.check x)
check x =
    both (codes "{\"op\":\"sync\"}\n") (flat_map (λ i. text.verdict_line i (after (2 * i) x)) (range_with_len 0 32))
    (command.Sync 1 ∷ []) (flat_map (λ i. asked.verdict_command i (after (2 * i) x) ∷ []) (range_with_len 0 32)) sync_reads
    (each (λ i. text.verdict_line i (after (2 * i) x)) (λ i. asked.verdict_command i (after (2 * i) x) ∷ []) 32 0 32 (omega arith)
    (λ i low. verdict_line (after (2 * i) x) i low))

check_where : (b : Bool) (x : ℕ) → Reads (cond b (text.check x) []) (cond b (asked.check x) [])
check_where true x = check x
check_where false x = nothing

no_check_where : (b : Bool) (x : ℕ) → Reads (cond b [] (text.check x)) (cond b [] (asked.check x))
no_check_where true x = nothing
no_check_where false x = check x

round_lines : (n round : ℕ) → Reads (text.round_lines n round) (asked.round_commands n round)
round_lines n round =
    both (text.apply_line (after (text.draws_before round) n)) (text.check_behind n round)
    (asked.apply_command (after (text.draws_before round) n) ∷ []) (asked.check_behind n round) (apply_line (after (text.draws_before round) n))
    (check_where ((round + 1) % 10 == 0) (after (text.draws_before round + 6) n))

whole : (n : ℕ) → Reads (text.generated n) (asked.asked n)
whole n =
    both (text.endpoints n ++ flat_map (text.round_lines n) (range_with_len 0 n)) (text.last_check n)
    (asked.endpoints n ++ flat_map (asked.round_commands n) (range_with_len 0 n)) (asked.last_check n)
    (both (text.endpoints n) (flat_map (text.round_lines n) (range_with_len 0 n)) (asked.endpoints n) (flat_map (asked.round_commands n) (range_with_len 0 n))
    (endpoints n) (each (text.round_lines n) (asked.round_commands n) n 0 n (omega arith) (λ round low. round_lines n round)))
    (no_check_where (n % 10 == 0) (after (text.draws_before n) n))

pub lines_are_read : (n : ℕ) → map reading_of (lines_of (text.generated n)) ≡ map Ok (asked.asked n)
lines_are_read n = all_read (text.generated n) (asked.asked n) (whole n)
