use Rattle.std.proofs.Common.{◌≡◌, ℕ, ◌+◌, ◌*◌, List, [], ◌++◌, length, take, slice_index, refl, sym, ap, ◌∙◌, arith, append_assoc}
use Rattle.std.proofs.Math.Seq.{take-length}
use Rattle.gadget_bits.specs.Bits.{bits_filled, halves_filled}
use Rattle.gadget_bits.specs.Stage.{halves_cells}
use Rattle.chip_sha_round.specs.Filled.{head_filled, tail_filled}
use Rattle.chip_sha_round.specs.Sheet.{row_of_round, round_filled}
use Rattle.chip_sha_round.proofs.fill.fill_columns.Goals as goal

-- the front of a row, some columns further
next : (at m : ℕ) (row before front columns part : List ℕ) → take (at + length columns) row ≡ take at before ++ columns → columns ≡ part → at + length part ≡ m → take at before ≡ front → take m row ≡ front ++ part
next at m row before front columns part put is place so_far =
    let long : at + length columns ≡ m = ap (λ (xs : List ℕ). at + length xs) is ∙ place in
    ap (λ (k : ℕ). take k row) (sym long) ∙ put ∙ (λ i. so_far i ++ is i)

bits_long : (w : ℕ) → length (bits_filled w) ≡ 32
unfolding bits_filled
bits_long w = refl

tail_long : (t : ℕ) (state words : List ℕ) → length (tail_filled t state words) ≡ 19
unfolding tail_filled
tail_long t state words = refl

-- nine parts and a tail, joined from either side
joined : (h a b c d e f g i t : List ℕ) → ((((((((h ++ a) ++ b) ++ c) ++ d) ++ e) ++ f) ++ g) ++ i) ++ t ≡ h ++ (a ++ (b ++ (c ++ (d ++ (e ++ (f ++ (g ++ (i ++ t))))))))
joined h a b c d e f g i t = simp append_assoc refl

pub returns : goal.returns
unfolding row_of_round round_filled tail_filled halves_filled
returns c =
    let state = c.args.state.now in
    let words = c.args.words.now in
    let head : List ℕ = head_filled c.args.time c.args.t in
    let s1 = next 0 5 c.put.new.columns c.args.row.now [] c.head.result head c.put.ensures.so_far c.head.ensures refl refl in
    let f1 : List ℕ = head in
    let s2 = next 5 37 c.put-2.new.columns c.put.new.columns f1 c.bits_of.result (bits_filled (slice_index state 0)) c.put-2.ensures.so_far c.bits_of.ensures (omega (arith, bits_long (slice_index state 0))) s1 in
    let f2 : List ℕ = f1 ++ bits_filled (slice_index state 0) in
    let s3 = next 37 69 c.put-3.new.columns c.put-2.new.columns f2 c.bits_of-2.result (bits_filled (slice_index state 1)) c.put-3.ensures.so_far c.bits_of-2.ensures (omega (arith, bits_long (slice_index state 1))) s2 in
    let f3 : List ℕ = f2 ++ bits_filled (slice_index state 1) in
    let s4 = next 69 101 c.put-4.new.columns c.put-3.new.columns f3 c.bits_of-3.result (bits_filled (slice_index state 2)) c.put-4.ensures.so_far c.bits_of-3.ensures (omega (arith, bits_long (slice_index state 2))) s3 in
    let f4 : List ℕ = f3 ++ bits_filled (slice_index state 2) in
    let s5 = next 101 133 c.put-5.new.columns c.put-4.new.columns f4 c.bits_of-4.result (bits_filled (slice_index state 4)) c.put-5.ensures.so_far c.bits_of-4.ensures (omega (arith, bits_long (slice_index state 4))) s4 in
    let f5 : List ℕ = f4 ++ bits_filled (slice_index state 4) in
    let s6 = next 133 165 c.put-6.new.columns c.put-5.new.columns f5 c.bits_of-5.result (bits_filled (slice_index state 5)) c.put-6.ensures.so_far c.bits_of-5.ensures (omega (arith, bits_long (slice_index state 5))) s5 in
    let f6 : List ℕ = f5 ++ bits_filled (slice_index state 5) in
    let s7 = next 165 197 c.put-7.new.columns c.put-6.new.columns f6 c.bits_of-6.result (bits_filled (slice_index state 6)) c.put-7.ensures.so_far c.bits_of-6.ensures (omega (arith, bits_long (slice_index state 6))) s6 in
    let f7 : List ℕ = f6 ++ bits_filled (slice_index state 6) in
    let s8 = next 197 229 c.put-8.new.columns c.put-7.new.columns f7 c.bits_of-7.result (bits_filled (slice_index words (c.args.t + 1))) c.put-8.ensures.so_far c.bits_of-7.ensures (omega (arith, bits_long (slice_index words (c.args.t + 1)))) s7 in
    let f8 : List ℕ = f7 ++ bits_filled (slice_index words (c.args.t + 1)) in
    let s9 = next 229 261 c.put-9.new.columns c.put-8.new.columns f8 c.bits_of-8.result (bits_filled (slice_index words (c.args.t + 14))) c.put-9.ensures.so_far c.bits_of-8.ensures (omega (arith, bits_long (slice_index words (c.args.t + 14)))) s8 in
    let f9 : List ℕ = f8 ++ bits_filled (slice_index words (c.args.t + 14)) in
    let tail = tail_filled c.args.t state words in
    let long : 261 + 2 * length c.tail.result ≡ 299 = ap (λ xs. 261 + 2 * length xs) c.tail.ensures ∙ omega (arith, tail_long c.args.t state words) in
    let s10 : take 299 c.put_halves.new.row ≡ f9 ++ halves_cells tail = ap (λ (k : ℕ). take k c.put_halves.new.row) (sym long) ∙ c.put_halves.ensures.so_far ∙ (λ i. s9 i ++ halves_cells (c.tail.ensures i)) in
    let wide : length c.put_halves.new.row ≡ 299 = omega (arith, c.put_halves.ensures.long, c.put-9.ensures.long, c.put-8.ensures.long, c.put-7.ensures.long, c.put-6.ensures.long, c.put-5.ensures.long, c.put-4.ensures.long, c.put-3.ensures.long, c.put-2.ensures.long, c.put.ensures.long, c.requires.wide) in
    let whole : take 299 c.put_halves.new.row ≡ c.put_halves.new.row = ap (λ (k : ℕ). take k c.put_halves.new.row) (sym wide) ∙ take-length c.put_halves.new.row in
    sym whole ∙ s10 ∙ joined head (bits_filled (slice_index state 0)) (bits_filled (slice_index state 1)) (bits_filled (slice_index state 2)) (bits_filled (slice_index state 4)) (bits_filled (slice_index state 5)) (bits_filled (slice_index state 6)) (bits_filled (slice_index words (c.args.t + 1))) (bits_filled (slice_index words (c.args.t + 14))) (halves_cells tail)
