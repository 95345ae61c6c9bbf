use Rattle.std.proofs.Common.{◌≡◌, ℕ, ◌+◌, ◌*◌, List, [], ◌∷◌, ◌++◌, flat_map, length, map, take, drop, refl, sym, ap, ◌∙◌, arith, slice_index, append_assoc, append-nil, lit≤}
use Rattle.std.specs.List.{range_with_len, slice_index_or}
use Rattle.std.proofs.Math.Seq.{take-length}
use Rattle.std.proofs.lemmas.List.{length-drop, length-map, length-take-le}
use Rattle.vm_field.specs.Limbs.{limbs_from, list_of}
use Rattle.vm_word.specs.Word.{limbs_of, word_of_limbs}
use Rattle.sha_words.specs.Sha256.{compress, rounds, schedule, sums_of}
use Rattle.sha_words.proofs.RoundLemmas.{compress-rounds, length-rounds}
use Rattle.sha_words.proofs.ScheduleLemmas.{length-schedule}
use Rattle.gadget_time.specs.Access.{access_at, gap_cells, gap_of}
use Rattle.gadget_bits.specs.Bits.{halves_filled}
use Rattle.gadget_bits.specs.Record.{old_of, olds_of, state_of, block_of}
use Rattle.gadget_bits.specs.Stage.{halves_cells}
use Rattle.chip_sha_main.specs.Sheet.{cells_of_main, main_columns, last_of, schedule_of}
use Rattle.chip_sha_main.proofs.Puts.{part_by, access_is}
use Rattle.chip_sha_main.proofs.fill.fill_block.Goals as goal

-- the parts, joined from either side
joined : (h a m o n f z g r w : List ℕ) → ((((((((h ++ a) ++ m) ++ o) ++ n) ++ f) ++ z) ++ g) ++ r) ++ w ≡ h ++ (a ++ (m ++ (o ++ (n ++ (f ++ (z ++ (g ++ (r ++ w))))))))
joined h a m o n f z g r w = simp append_assoc refl

two : (a b x : List ℕ) → (a ++ (b ++ [])) ++ x ≡ a ++ (b ++ x)
two a b x = ap (λ (y : List ℕ). (a ++ y) ++ x) (append-nil b) ∙ append_assoc a b x

length-sums : (state working : List ℕ) → length (sums_of state working) ≡ 8
unfolding sums_of
length-sums state working = refl

pub returns : goal.returns
unfolding cells_of_main main_columns last_of
returns c =
    let done = c.args.done.now in
    let olds = olds_of done in
    let accesses = done.accesses in
    let long : length olds ≡ 26 = length-map accesses old_of ∙ c.requires.accesses in
    let before = c.state-before.ensures in
    let message = c.block-message.ensures in
    let words : c.schedule-words.result ≡ schedule_of done = c.schedule-words.ensures ∙ ap (λ (b : List ℕ). schedule b 80) message in
    let last : c.rounds_to-last.result ≡ rounds (state_of done) (schedule_of done) 64 = c.rounds_to-last.ensures ∙ (λ i. rounds (before i) (words i) 64) in
    let sums : c.compress.result ≡ sums_of (state_of done) (rounds (state_of done) (schedule_of done) 64) = c.compress.ensures ∙ (λ i. compress (before i) (message i)) ∙ compress-rounds (state_of done) (block_of done) 80 (lit≤ tt) in
    let later : take 16 (drop 64 c.schedule-words.result) ≡ map (λ i. slice_index (schedule_of done) (64 + i)) (range_with_len 0 16) = ap (λ (ws : List ℕ). take 16 (drop 64 ws)) words ∙ part_by (schedule_of done) 64 16 0 (omega (arith, length-schedule (block_of done) 80)) in
    let first_olds : take 2 (drop 0 olds) ≡ slice_index_or olds 0 [] ∷ slice_index_or olds 1 [] ∷ [] = part_by olds 0 2 [] (omega (arith, long)) in
    let first_accesses : take 2 (drop 0 accesses) ≡ access_at accesses 0 ∷ access_at accesses 1 ∷ [] = part_by accesses 0 2 (access_at [] 0) (omega (arith, c.requires.accesses)) ∙ (λ i. sym (access_is accesses 0) i ∷ sym (access_is accesses 1) i ∷ []) in
    let h : List ℕ = done.instr.rd ∷ done.instr.rs1 ∷ [] in
    let a : List ℕ = list_of (limbs_from (slice_index_or olds 0 [])) ++ (list_of (limbs_from (slice_index_or olds 1 [])) ++ []) in
    let m : List ℕ = flat_map list_of (map limbs_from (take 16 (drop 2 olds))) in
    let o : List ℕ = flat_map list_of (map limbs_from (take 8 (drop 18 olds))) in
    let n : List ℕ = flat_map list_of (map (λ n. limbs_from (limbs_of n)) (sums_of (state_of done) (rounds (state_of done) (schedule_of done) 64))) in
    let f : List ℕ = halves_cells (map halves_filled (rounds (state_of done) (schedule_of done) 64)) in
    let z : List ℕ = halves_cells (map halves_filled (map (λ i. slice_index (schedule_of done) (64 + i)) (range_with_len 0 16))) in
    let g : List ℕ = gap_cells (gap_of (access_at accesses 0)) ++ (gap_cells (gap_of (access_at accesses 1)) ++ []) in
    let r : List ℕ = flat_map gap_cells (map gap_of (take 16 (drop 2 accesses))) in
    let w : List ℕ = flat_map gap_cells (map gap_of (take 8 (drop 18 accesses))) in
    let rd = c.of_u16.ensures in
    let rs1 = c.of_u16-2.ensures in
    let s0 : take 2 c.put.new.columns ≡ h = c.put.ensures.so_far ∙ (λ i. rd i ∷ rs1 i ∷ []) in
    let s1 : take 10 c.put_olds.new.rest ≡ h ++ a = c.put_olds.ensures.front ∙ (λ i. s0 i ++ flat_map list_of (map limbs_from (first_olds i))) in
    let s2 : take 74 c.put_olds-2.new.rest ≡ (h ++ a) ++ m = c.put_olds-2.ensures.front ∙ ap (λ (xs : List ℕ). xs ++ m) s1 in
    let s3 : take 106 c.put_olds-3.new.rest ≡ ((h ++ a) ++ m) ++ o = c.put_olds-3.ensures.front ∙ ap (λ (xs : List ℕ). xs ++ o) s2 in
    let eight : length (state_of done) ≡ 8 = length-map (take 8 (drop 18 olds)) word_of_limbs ∙ length-take-le 8 (drop 18 olds) (omega (arith, length-drop 18 olds, long)) in
    let len4 : 106 + 4 * length c.compress.result ≡ 138 = ap (λ (xs : List ℕ). 106 + 4 * length xs) sums ∙ omega (arith, length-sums (state_of done) (rounds (state_of done) (schedule_of done) 64)) in
    let len5 : 138 + 2 * length c.rounds_to-last.result ≡ 154 = ap (λ (xs : List ℕ). 138 + 2 * length xs) last ∙ omega (arith, length-rounds (state_of done) (schedule_of done) 64 eight) in
    let len6 : 154 + 2 * length (take 16 (drop 64 c.schedule-words.result)) ≡ 186 = ap (λ (xs : List ℕ). 154 + 2 * length xs) later in
    let s4 : take 138 c.put_words.new.rest ≡ (((h ++ a) ++ m) ++ o) ++ n
    = ap (λ (k : ℕ). take k c.put_words.new.rest) (sym len4) ∙ c.put_words.ensures.front ∙ (λ i. s3 i ++ flat_map list_of (map (λ n. limbs_from (limbs_of n)) (sums i))) in
    let s5 : take 154 c.put_halves.new.rest ≡ ((((h ++ a) ++ m) ++ o) ++ n) ++ f
    = ap (λ (k : ℕ). take k c.put_halves.new.rest) (sym len5) ∙ c.put_halves.ensures.front ∙ (λ i. s4 i ++ halves_cells (map halves_filled (last i))) in
    let s6 : take 186 c.put_halves-2.new.rest ≡ (((((h ++ a) ++ m) ++ o) ++ n) ++ f) ++ z
    = ap (λ (k : ℕ). take k c.put_halves-2.new.rest) (sym len6) ∙ c.put_halves-2.ensures.front ∙ (λ i. s5 i ++ halves_cells (map halves_filled (later i))) in
    let s7 : take 192 c.put_gaps.new.rest ≡ ((((((h ++ a) ++ m) ++ o) ++ n) ++ f) ++ z) ++ g = c.put_gaps.ensures.front ∙ (λ i. s6 i ++ flat_map gap_cells (map gap_of (first_accesses i))) in
    let s8 : take 240 c.put_gaps-2.new.rest ≡ (((((((h ++ a) ++ m) ++ o) ++ n) ++ f) ++ z) ++ g) ++ r = c.put_gaps-2.ensures.front ∙ ap (λ (xs : List ℕ). xs ++ r) s7 in
    let s9 : take 264 c.put_gaps-3.new.rest ≡ ((((((((h ++ a) ++ m) ++ o) ++ n) ++ f) ++ z) ++ g) ++ r) ++ w = c.put_gaps-3.ensures.front ∙ ap (λ (xs : List ℕ). xs ++ w) s8 in
    let wide : length c.put_gaps-3.new.rest ≡ 264 = omega (
      arith,
      c.put_gaps-3.ensures.long,
      c.put_gaps-2.ensures.long,
      c.put_gaps.ensures.long,
      c.put_halves-2.ensures.long,
      c.put_halves.ensures.long,
      c.put_words.ensures.long,
      c.put_olds-3.ensures.long,
      c.put_olds-2.ensures.long,
      c.put_olds.ensures.long,
      c.put.ensures.long,
      c.requires.wide,
    ) in
    let whole : take 264 c.put_gaps-3.new.rest ≡ c.put_gaps-3.new.rest = ap (λ (k : ℕ). take k c.put_gaps-3.new.rest) (sym wide) ∙ take-length c.put_gaps-3.new.rest in
    let back : List ℕ = gap_cells (gap_of (access_at accesses 0)) ++ (gap_cells (gap_of (access_at accesses 1)) ++ (r ++ w)) in
    sym whole ∙ s9 ∙ joined h a m o n f z g r w
    ∙ ap (λ (y : List ℕ). h ++ (a ++ (m ++ (o ++ (n ++ (f ++ (z ++ y))))))) (two (gap_cells (gap_of (access_at accesses 0))) (gap_cells (gap_of (access_at accesses 1))) (r ++ w))
    ∙ ap (λ (y : List ℕ). h ++ y) (two (list_of (limbs_from (slice_index_or olds 0 []))) (list_of (limbs_from (slice_index_or olds 1 []))) (m ++ (o ++ (n ++ (f ++ (z ++ back))))))
