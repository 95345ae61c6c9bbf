-- The row of a record: it holds, its lookups are good, and it says the record.
use Rattle.std.proofs.Common.{◌≡◌, ◌≢◌, ℕ, zero, suc, ◌+◌, ◌-◌, ◌*◌, ◌/◌, ◌%◌, ◌^◌, ◌<◌, ◌≤◌, List, [], ◌∷◌, ◌++◌, length, map, flat_map, slice_index, Option, Some, refl, sym, ap, subst, ◌∙◌, arith, lit<, lit≤}
use Rattle.std.specs.List.{AllByRecursion}
use Rattle.std.proofs.lemmas.List.{length-map}
use Rattle.vm_field.specs.Field.{field_add}
use Rattle.vm_field.specs.declared.limbs.Limbs.{Limbs}
use Rattle.vm_field.specs.Limbs.{limbs_from, list_of}
use Rattle.vm_field.proofs.LimbLemmas.{list_of-from}
use Rattle.vm_word.specs.Word.{word_of_limbs, limbs_of}
use Rattle.vm_word.proofs.WordLemmas.{word_of_limbs-limbs_of}
use Rattle.vm_isa.specs.Words.{IsBytes, IsWord}
use Rattle.vm_isa.specs.declared.instr.VmInstr.{VmInstr}
use Rattle.vm_isa.specs.declared.access.TimedAccess.{TimedAccess}
use Rattle.vm_isa.specs.Instr.{InRange, numbers_of}
use Rattle.air_core.specs.declared.event.Event.{Event}
use Rattle.air_core.specs.First.{bit}
use Rattle.air_core.specs.Sheet.{AllZero}
use Rattle.air_core.specs.Lookups.{GoodEvent}
use Rattle.air_core.specs.ListLemmas.{all_append}
use Rattle.air_core.specs.PathLaws.{good_free}
use Rattle.gadget_time.specs.Told.{MadeByAll}
use Rattle.gadget_bits.specs.declared.halves.Halves.{Halves}
use Rattle.gadget_bits.specs.Bits.{HalvesOf, halves_filled}
use Rattle.gadget_bits.specs.Sum.{AllHalves, half_carry}
use Rattle.gadget_bits.proofs.BitLaws.{halves_filled_are}
use Rattle.gadget_bits.proofs.SumLaws.{carry_is}
use Rattle.air_core.specs.Ring.{field}
use Rattle.gadget_limbs.specs.Ranges.{range_lines}
use Rattle.gadget_limbs.proofs.RangeLaws.{good_ranges}
use Rattle.gadget_time.specs.Access.{gap_of}
use Rattle.chip_sha_main.specs.Main.{MainRow, Long, main_touches, main_numbers, word_field, word_halves, carry_bits, sum_bits, main_ranges, chain_lines}
use Rattle.chip_sha_main.specs.lemmas.Numbers.{word, AllBytes, added, word_halves_of, split_halves}
use Rattle.chip_sha_main.specs.lemmas.Means.{reads_new, writes_new}
use Rattle.chip_sha_main.specs.lemmas.Steps.{word_is}
use Rattle.gadget_bits.specs.Record.{old_of}
use Rattle.gadget_bits.proofs.ShaRecord.{PlacedAs, AllPlaced}
use Rattle.chip_sha_main.specs.lemmas.Made.{somes, made_both, InTime, register_made, run_made}

-- sums that are right have carries of 0 and 1

bit_small : (k : ℕ) → k ≤ 1 → bit field k ≡ 0
unfolding bit
bit_small zero low = refl
bit_small (suc zero) low = refl
bit_small (suc (suc k)) low = absurd (omega arith)

record Carries (xl xh fl fh yl yh : ℕ) : Type 0 where
  k : ℕ
  j : ℕ
  k_small : k ≤ 1
  j_small : j ≤ 1
  low : field_add xl fl ≡ yl + 65536 * k
  high : field_add (field_add xh fh) k ≡ yh + 65536 * j

carries : (xl xh fl fh yl yh : ℕ) → xl < 65536 → xh < 65536 → fl < 65536 → fh < 65536 → yl < 65536 → yh < 65536 → yl + 65536 * yh ≡ (xl + 65536 * xh + (fl + 65536 * fh)) % 2 ^ 32
    → Carries xl xh fl fh yl yh
carries xl xh fl fh yl yh a b c d e f h =
    let k : ℕ = (xl + fl) / 65536 in
    let j : ℕ = (xh + fh + k) / 65536 in
    record { k = k; j = j; k_small = omega arith; j_small = omega arith; low = omega arith; high = omega arith }

one_fits : (x : Limbs ℕ) (f : Halves ℕ) (y : Limbs ℕ) (n : ℕ) → IsBytes (list_of x) → HalvesOf f n → IsBytes (list_of y) → word y ≡ (word x + n) % 2 ^ 32 → AllZero (carry_bits field x f y)
unfolding carry_bits
one_fits x f y n bx hf by is =
    let sx = split_halves (word_halves field x) (word x) (word_halves_of x bx) in
    let sf = split_halves f n hf in
    let sy = split_halves (word_halves field y) (word y) (word_halves_of y by) in
    let c = carries (word_halves field x).lo (word_halves field x).hi f.lo f.hi (word_halves field y).lo (word_halves field y).hi sx.1 sx.2 sf.1 sf.2 sy.1 sy.2
    (sym sy.0 ∙ is ∙ (λ i. (sx.0 i + sf.0 i) % 2 ^ 32)) in
    let low = carry_is (field_add (word_halves field x).lo f.lo) (word_halves field y).lo c.k sy.1 (omega (arith, c.k_small)) c.low in
    let high = carry_is (field_add (field_add (word_halves field x).hi f.hi) c.k) (word_halves field y).hi c.j sy.2 (omega (arith, c.j_small)) c.high in (
      ap (bit field) low ∙ bit_small c.k c.k_small,
      (ap (λ (k : ℕ). bit field (half_carry field (field_add (field_add (word_halves field x).hi f.hi) k) (word_halves field y).hi)) low ∙ ap (bit field) high ∙ bit_small c.j c.j_small, tt),
    )

sums_fit : (xs : List (Limbs ℕ)) (fs : List (Halves ℕ)) (ys : List (Limbs ℕ)) (ns : List ℕ) → AllBytes xs → AllHalves fs ns → AllBytes ys → map word ys ≡ added (map word xs) ns → AllZero (sum_bits field xs fs ys)
unfolding sum_bits
sums_fit [] fs ys ns bx hf by e = tt
sums_fit (x ∷ xs) [] ys ns bx hf by e = tt
sums_fit (x ∷ xs) (f ∷ fs) [] ns bx hf by e = tt
sums_fit (x ∷ xs) (f ∷ fs) (y ∷ ys) [] bx hf by e = absurd hf
sums_fit (x ∷ xs) (f ∷ fs) (y ∷ ys) (n ∷ ns) bx hf by e =
    let head : word y ≡ (word x + n) % 2 ^ 32 = cc in
    let tail : map word ys ≡ added (map word xs) ns = cc in
    all_append (λ (v : ℕ). v ≡ 0) (carry_bits field x f y) (sum_bits field xs fs ys) (one_fits x f y n bx.0 hf.0 by.0 head) (sums_fit xs fs ys ns bx.1 hf.1 by.1 tail)

-- lists of words

pub bytes_from : (xs : List (List ℕ)) → AllByRecursion IsWord xs → AllBytes (map limbs_from xs)
bytes_from [] w = tt
bytes_from (x ∷ xs) w =
    let here : IsWord x = w.0 in
    (subst IsBytes (sym (list_of-from x here.four)) here.bytes, bytes_from xs w.1)

pub words_from : (xs : List (List ℕ)) → AllByRecursion IsWord xs → map word (map limbs_from xs) ≡ map word_of_limbs xs
words_from [] w = refl
words_from (x ∷ xs) w =
    let here : IsWord x = w.0 in
    let head : word (limbs_from x) ≡ word_of_limbs x = ap word_of_limbs (list_of-from x here.four) in
    let tail = words_from xs w.1 in
    λ i. head i ∷ tail i

pub lists_from : (xs : List (List ℕ)) → AllByRecursion IsWord xs → map list_of (map limbs_from xs) ≡ xs
lists_from [] w = refl
lists_from (x ∷ xs) w =
    let here : IsWord x = w.0 in
    let head = list_of-from x here.four in
    let tail = lists_from xs w.1 in
    λ i. head i ∷ tail i

-- the columns of a word
abbrev pub limbs_filled : ℕ → Limbs ℕ
limbs_filled n = limbs_from (limbs_of n)

limbs_bytes : (n : ℕ) → IsBytes (list_of (limbs_filled n))
unfolding list_of limbs_from
limbs_bytes n = (omega arith, (omega arith, (omega arith, (omega arith, tt))))

pub filled_bytes : (ns : List ℕ) → AllBytes (map limbs_filled ns)
filled_bytes [] = tt
filled_bytes (n ∷ ns) = (limbs_bytes n, filled_bytes ns)

word_filled : (n : ℕ) → n < 2 ^ 32 → word (limbs_filled n) ≡ n
unfolding list_of limbs_from
word_filled n low = word_of_limbs-limbs_of n low

words_filled : (ns : List ℕ) → AllByRecursion (λ n. n < 2 ^ 32) ns → map word (map limbs_filled ns) ≡ ns
words_filled [] low = refl
words_filled (n ∷ ns) low =
    let head = word_filled n low.0 in
    let tail = words_filled ns low.1 in
    λ i. head i ∷ tail i

pub halves_all : (ns : List ℕ) → AllByRecursion (λ n. n < 2 ^ 32) ns → AllHalves (map halves_filled ns) ns
halves_all [] low = tt
halves_all (n ∷ ns) low = (halves_filled_are n low.0, halves_all ns low.1)

-- the columns, from the parts of a record

abbrev pub columns_of : (pc time rd rs1 : ℕ) (first second : TimedAccess) (reads writes : List TimedAccess) (sums last rest : List ℕ) → MainRow ℕ
columns_of pc time rd rs1 first second reads writes sums last rest = record {
  pc = pc;
  time = time;
  flag = 1;
  rd = rd;
  rs1 = rs1;
  base = limbs_from first.access.old;
  block = limbs_from second.access.old;
  message = map limbs_from (map old_of reads);
  old = map limbs_from (map old_of writes);
  new = map limbs_filled sums;
  working = map halves_filled last;
  rest = map halves_filled rest;
  first = gap_of first;
  second = gap_of second;
  reads = map gap_of reads;
  writes = map gap_of writes;
}

pub words_of_times : (hi : ℕ) (xs : List TimedAccess) → AllByRecursion (InTime hi) xs → AllByRecursion IsWord (map old_of xs)
words_of_times hi [] t = tt
words_of_times hi (x ∷ xs) t = let here : InTime hi x = t.0 in (here.word, words_of_times hi xs t.1)

map_somes : (xs ys : List TimedAccess) → somes (xs ++ ys) ≡ somes xs ++ somes ys
map_somes [] ys = refl
map_somes (x ∷ xs) ys = ap (λ (os : List (Option TimedAccess)). Some x ∷ os) (map_somes xs ys)

word_is_of : (w : Limbs ℕ) → IsBytes (list_of w) → w.x3 < 32 → word_field field w ≡ word w
word_is_of w b top = (word_is w b top).0

-- the parts of a record of a SHA block
pub record Filling (hi : ℕ) (i : VmInstr) (time : ℕ) (first second : TimedAccess) (reads writes : List TimedAccess) (sums last rest : List ℕ) : Type 0 where
  pub range : InRange i
  pub op : i.op ≡ 40
  pub top : hi ≤ 13
  pub ends : time + 26 ≤ 2 ^ (16 + hi)
  pub sixteen : length reads ≡ 16
  pub eight_writes : length writes ≡ 8
  pub first_in : InTime hi first
  pub second_in : InTime hi second
  pub reads_in : AllByRecursion (InTime hi) reads
  pub writes_in : AllByRecursion (InTime hi) writes
  pub new : ℕ → List ℕ → List ℕ
  pub keep : (s : ℕ) (x : List ℕ) → s < 18 → new s x ≡ x
  pub put : (s : ℕ) (x : List ℕ) → 18 ≤ s → new s x ≡ limbs_of (slice_index sums (s - 18))
  pub base_low : word_of_limbs first.access.old < 2 ^ 29
  pub block_low : word_of_limbs second.access.old < 2 ^ 29
  pub first_is : PlacedAs first time 0 1 (4 * i.rd) (new 0 first.access.old)
  pub second_is : PlacedAs second time 1 1 (4 * i.rs1) (new 1 second.access.old)
  pub reads_are : AllPlaced new time 2 (word_of_limbs second.access.old) 0 reads
  pub writes_are : AllPlaced new time 18 (word_of_limbs first.access.old) 0 writes
  pub sums_are : sums ≡ added (map word_of_limbs (map old_of writes)) last
  pub sums_low : AllByRecursion (λ n. n < 2 ^ 32) sums
  pub last_low : AllByRecursion (λ n. n < 2 ^ 32) last
  pub rest_low : AllByRecursion (λ n. n < 2 ^ 32) rest
  pub eight_sums : length sums ≡ 8
  pub eight_last : length last ≡ 8
  pub sixteen_rest : length rest ≡ 16

module _ (hi : ℕ) (i : VmInstr) (time : ℕ) (first second : TimedAccess) (reads writes_list : List TimedAccess) (sums last rest : List ℕ) (f : Filling hi i time first second reads writes_list sums last rest) where
  abbrev pub R : MainRow ℕ
  R = columns_of i.pc time i.rd i.rs1 first second reads writes_list sums last rest

  pub long : Long R
  long = record {
    message = length-map (map old_of reads) limbs_from ∙ length-map reads old_of ∙ f.sixteen;
    old = length-map (map old_of writes_list) limbs_from ∙ length-map writes_list old_of ∙ f.eight_writes;
    new = length-map sums limbs_filled ∙ f.eight_sums;
    working = length-map last halves_filled ∙ f.eight_last;
    rest = length-map rest halves_filled ∙ f.sixteen_rest;
    reads = length-map reads gap_of ∙ f.sixteen;
    writes = length-map writes_list gap_of ∙ f.eight_writes;
  }

  word_first : (a : TimedAccess) → InTime hi a → word_of_limbs a.access.old < 2 ^ 29 → (word_field field (limbs_from a.access.old) ≡ word_of_limbs a.access.old) × ((limbs_from a.access.old).x3 < 32) × IsBytes (list_of (limbs_from a.access.old))
  unfolding limbs_from list_of
  word_first a t low =
      let w = t.word in
      let bytes : IsBytes (list_of (limbs_from a.access.old)) = subst IsBytes (sym (list_of-from a.access.old w.four)) w.bytes in
      let top : slice_index a.access.old 3 < 32 = omega (arith, low) in
      (word_is_of (limbs_from a.access.old) bytes top, top, bytes)

  pub made_all : MadeByAll hi time (main_touches field R) (somes (first ∷ second ∷ (reads ++ writes_list)))
  unfolding main_touches
  made_all =
      let base = word_first first f.first_in f.base_low in
      let block = word_first second f.second_in f.block_low in
      let places : somes (reads ++ writes_list) ≡ somes reads ++ somes writes_list = map_somes reads writes_list in
      let read = run_made hi time f.new 2 (word_of_limbs second.access.old) (word_field field (limbs_from second.access.old)) 0 reads (map limbs_from (map old_of reads)) block.0 f.block_low (omega (arith, f.sixteen))
      (length-map (map old_of reads) limbs_from ∙ length-map reads old_of) f.reads_are
      (reads_new f.new 2 (map limbs_from (map old_of reads)) (omega (arith, long.message)) f.keep) f.reads_in in
      let written = run_made hi time f.new 18 (word_of_limbs first.access.old) (word_field field (limbs_from first.access.old)) 0 writes_list (map limbs_filled sums) base.0 f.base_low (omega (arith, f.eight_writes))
      (omega (arith, long.new, f.eight_writes)) f.writes_are
      (writes_new f.new sums 0 (map limbs_from (map old_of writes_list)) (map limbs_filled sums) (omega (arith, long.new, long.old)) f.put
      (λ j low. ap (slice_index sums) (omega arith) ∙ ap (λ (ns : List ℕ). slice_index ns j) (sym (words_filled sums f.sums_low))) (filled_bytes sums)) f.writes_in in (
        register_made hi time 0 i.rd i.rd first (f.new 0 first.access.old) f.first_is (f.keep 0 first.access.old (lit< tt)) refl f.range.rd f.first_in,
        (
          register_made hi time 1 i.rs1 i.rs1 second (f.new 1 second.access.old) f.second_is (f.keep 1 second.access.old (lit< tt)) refl f.range.rs1 f.second_in,
          subst (MadeByAll hi time _) (sym places) (made_both hi time _ _ (somes reads) (somes writes_list) read written),
        ),
      )

  pub numbers : i.pc ∷ i.op ∷ main_numbers field R ≡ numbers_of i
  unfolding main_numbers numbers_of
  numbers =
      let fixed = f.range.sha f.op in
      sym (rw (fixed.0, fixed.1, fixed.2, fixed.3, fixed.4) refl)

  pub sums_zero : AllZero (sum_bits field R.old R.working R.new)
  sums_zero =
      let olds = words_of_times hi writes_list f.writes_in in
      sums_fit R.old R.working R.new last (bytes_from (map old_of writes_list) olds) (halves_all last f.last_low) (filled_bytes sums)
      (words_filled sums f.sums_low ∙ f.sums_are ∙ ap (λ (xs : List ℕ). added xs last) (sym (words_from (map old_of writes_list) olds)))

  limbs_low : (ws : List (Limbs ℕ)) → AllBytes ws → AllByRecursion (λ x. x < 2 ^ 8) (flat_map list_of ws)
  unfolding list_of
  limbs_low [] b = tt
  limbs_low (w ∷ ws) b = (b.0.0, (b.0.1.0, (b.0.1.1.0, (b.0.1.1.1.0, limbs_low ws b.1))))

  main_ranges_good : AllByRecursion (λ e. e.count ≢ 0 → GoodEvent e) (main_ranges field R)
  unfolding main_ranges
  main_ranges_good =
      let base = word_first first f.first_in f.base_low in
      let block = word_first second f.second_in f.block_low in
      let P : Event → Type 0 = λ e. e.count ≢ 0 → GoodEvent e in
      all_append P (range_lines field 1 5 ((limbs_from first.access.old).x3 ∷ (limbs_from second.access.old).x3 ∷ [])) (range_lines field 1 8 (flat_map list_of (map limbs_filled sums)))
      (good_ranges 1 5 ((limbs_from first.access.old).x3 ∷ (limbs_from second.access.old).x3 ∷ []) (lit≤ tt) (base.1, (block.1, tt)))
      (good_ranges 1 8 (flat_map list_of (map limbs_filled sums)) (lit≤ tt) (limbs_low (map limbs_filled sums) (filled_bytes sums)))

  chain_good : AllByRecursion (λ e. e.count ≢ 0 → GoodEvent e) (chain_lines field R)
  unfolding chain_lines
  chain_good = (λ n. good_free _ (omega arith) (omega arith) (omega arith) (omega arith), (λ n. good_free _ (omega arith) (omega arith) (omega arith) (omega arith), tt))

  pub others_good : AllByRecursion (λ e. e.count ≢ 0 → GoodEvent e) (main_ranges field R ++ chain_lines field R)
  others_good = all_append (λ (e : Event). e.count ≢ 0 → GoodEvent e) (main_ranges field R) (chain_lines field R) main_ranges_good chain_good
