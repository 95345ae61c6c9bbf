-- From a record to its row: the parts that the laws of filled columns ask for.
use Rattle.std.proofs.Common.{◌≡◌, ℕ, ◌+◌, ◌-◌, ◌^◌, ◌<◌, ◌≤◌, List, [], ◌∷◌, ◌++◌, length, map, take, drop, slice_index, refl, sym, ap, subst, ◌∙◌, arith, lit≤, mod-lt, pow_pos}
use Rattle.std.specs.List.{AllByRecursion, range_with_len, slice_index_or}
use Rattle.std.proofs.lemmas.List.{length-map, map-append}
use Rattle.std.proofs.Math.Seq.{take-length}
use Rattle.vm_field.specs.Limbs.{limbs_from}
use Rattle.vm_word.specs.Word.{word_of_limbs, limbs_of}
use Rattle.vm_isa.specs.Words.{IsWord}
use Rattle.vm_isa.specs.declared.access.TimedAccess.{TimedAccess}
use Rattle.vm_isa.specs.declared.record.StepRecord.{StepRecord}
use Rattle.vm_isa.specs.Means.{compressed, new_at, word_at, Fillable}
use Rattle.vm_isa.proofs.ShaShape.{all_range}
use Rattle.sha_words.specs.Sha256.{sums_of}
use Rattle.sha_words.proofs.RoundLemmas.{compress-rounds, length-rounds, rounds-lt}
use Rattle.sha_words.proofs.ScheduleLemmas.{schedule-lt}
use Rattle.air_core.specs.ListLemmas.{all_left, all_right}
use Rattle.gadget_time.specs.Access.{access_at, gap_of}
use Rattle.gadget_bits.specs.Bits.{halves_filled}
use Rattle.gadget_bits.specs.Record.{old_of, olds_of, state_of, block_of}
use Rattle.gadget_bits.proofs.RecordWords.{state_low, block_bytes, ends_26}
use Rattle.gadget_bits.proofs.ShaMeans.{keeps, writes}
use Rattle.gadget_bits.proofs.ShaRecord.{AllPlaced, Shape, shape}
use Rattle.chip_sha_main.specs.Main.{MainRow, Long}
use Rattle.chip_sha_main.specs.Sheet.{main_columns, last_of, schedule_of}
use Rattle.chip_sha_main.specs.lemmas.Numbers.{added, eight, sums_eight}
use Rattle.chip_sha_main.specs.lemmas.Means.{take_first, drop_first}
use Rattle.chip_sha_main.specs.lemmas.Made.{InTime}
use Rattle.chip_sha_main.specs.lemmas.Filled.{Filling, columns_of, limbs_filled, long}

in_times : (hi time first b a : ℕ) (new : ℕ → List ℕ → List ℕ) (xs : List TimedAccess) → first + a + length xs ≤ 26 → time + 26 ≤ 2 ^ (16 + hi) → AllPlaced new time first b a xs → AllByRecursion (λ x. IsWord x.access.old) xs → AllByRecursion (λ x. x.before < x.time) xs
    → AllByRecursion (InTime hi) xs
in_times hi time first b a new [] few ends p w e = tt
in_times hi time first b a new (x ∷ xs) few ends p w e =
    let here : x.time ≡ time + (first + a) = p.0.time_is in
    (record { word = w.0; before = e.0; ends = omega (arith, here, few, ends) }, in_times hi time first b (a + 1) new xs (omega arith) ends p.1 w.1 e.1)

length_map_old : (xs : List TimedAccess) → length (map old_of xs) ≡ length xs
length_map_old xs = length-map xs old_of

length_map_words : (xs : List (List ℕ)) → length (map word_of_limbs xs) ≡ length xs
length_map_words xs = length-map xs word_of_limbs

take_eight : {X : Type 0} (xs : List X) → length xs ≡ 8 → take 8 xs ≡ xs
take_eight xs long = ap (λ (k : ℕ). take k xs) (sym long) ∙ take-length xs

-- the record by its parts

module _ (hi : ℕ) (top : hi ≤ 13) (done : StepRecord) (f : Fillable (16 + hi) done) (op : done.instr.op ≡ 40) where
  pub the_shape : Shape done f.given
  the_shape = shape (16 + hi) done f op

  abbrev pub first : TimedAccess
  first = the_shape.parts.first

  abbrev pub second : TimedAccess
  second = the_shape.parts.second

  abbrev pub reads : List TimedAccess
  reads = the_shape.parts.reads

  abbrev pub writes_list : List TimedAccess
  writes_list = the_shape.parts.writes

  abbrev pub sums : List ℕ
  sums = sums_of (state_of done) (last_of done)

  abbrev pub rest : List ℕ
  rest = map (λ i. slice_index (schedule_of done) (64 + i)) (range_with_len 0 16)

  olds_are : olds_of done ≡ first.access.old ∷ second.access.old ∷ (map old_of reads ++ map old_of writes_list)
  olds_are = ap (map old_of) the_shape.parts.are ∙ ap (λ (xs : List (List ℕ)). first.access.old ∷ second.access.old ∷ xs) (map-append old_of reads writes_list)

  long_reads : length (map old_of reads) ≡ 16
  long_reads = length_map_old reads ∙ the_shape.parts.sixteen

  long_writes : length (map old_of writes_list) ≡ 8
  long_writes = length_map_old writes_list ∙ the_shape.parts.eight

  pub message_is : take 16 (drop 2 (olds_of done)) ≡ map old_of reads
  message_is = ap (λ (xs : List (List ℕ)). take 16 (drop 2 xs)) olds_are ∙ take_first 16 (map old_of reads) (map old_of writes_list) long_reads

  pub state_is : take 8 (drop 18 (olds_of done)) ≡ map old_of writes_list
  state_is =
      ap (λ (xs : List (List ℕ)). take 8 (drop 18 xs)) olds_are ∙ ap (take 8) (drop_first 16 (map old_of reads) (map old_of writes_list) long_reads)
      ∙ take_eight (map old_of writes_list) long_writes

  pub columns_are : main_columns done ≡ columns_of done.instr.pc done.time done.instr.rd done.instr.rs1 first second reads writes_list sums (last_of done) rest
  unfolding main_columns
  columns_are =
      let accesses = the_shape.parts.are in
      let read_accesses : take 16 (drop 2 done.accesses) ≡ reads = ap (λ (xs : List TimedAccess). take 16 (drop 2 xs)) accesses ∙ take_first 16 reads writes_list the_shape.parts.sixteen in
      let write_accesses : take 8 (drop 18 done.accesses) ≡ writes_list =
      ap (λ (xs : List TimedAccess). take 8 (drop 18 xs)) accesses ∙ ap (take 8) (drop_first 16 reads writes_list the_shape.parts.sixteen) ∙ take_eight writes_list the_shape.parts.eight in
      let message = message_is in
      let state = state_is in
      λ i. record {
        pc = done.instr.pc;
        time = done.time;
        flag = 1;
        rd = done.instr.rd;
        rs1 = done.instr.rs1;
        base = limbs_from (slice_index_or (olds_are i) 0 []);
        block = limbs_from (slice_index_or (olds_are i) 1 []);
        message = map limbs_from (message i);
        old = map limbs_from (state i);
        new = map limbs_filled sums;
        working = map halves_filled (last_of done);
        rest = map halves_filled rest;
        first = gap_of (access_at (accesses i) 0);
        second = gap_of (access_at (accesses i) 1);
        reads = map gap_of (read_accesses i);
        writes = map gap_of (write_accesses i);
      }

  pub words_all : AllByRecursion (λ a. IsWord a.access.old) (first ∷ second ∷ (reads ++ writes_list))
  words_all = subst (AllByRecursion (λ (a : TimedAccess). IsWord a.access.old)) the_shape.parts.are f.words

  earlier_all : AllByRecursion (λ a. a.before < a.time) (first ∷ second ∷ (reads ++ writes_list))
  earlier_all = subst (AllByRecursion (λ (a : TimedAccess). a.before < a.time)) the_shape.parts.are f.earlier

  pub long_state : length (state_of done) ≡ 8
  long_state = length_map_words _ ∙ ap (λ (xs : List (List ℕ)). length xs) state_is ∙ long_writes

  pub long_last : length (last_of done) ≡ 8
  unfolding last_of
  long_last = length-rounds (state_of done) (schedule_of done) 64 long_state

  last_low : (j : ℕ) → slice_index (last_of done) j < 2 ^ 32
  unfolding last_of
  last_low j = rounds-lt (state_of done) (schedule_of done) 64 j (state_low hi done f)

  pub last_all : AllByRecursion (λ n. n < 2 ^ 32) (last_of done)
  last_all = subst (AllByRecursion (λ (n : ℕ). n < 2 ^ 32)) (sym (eight (last_of done) long_last))
      (last_low 0, (last_low 1, (last_low 2, (last_low 3, (last_low 4, (last_low 5, (last_low 6, (last_low 7, tt))))))))

  pub sums_all : (AllByRecursion (λ n. n < 2 ^ 32) sums) × (length sums ≡ 8)
  unfolding sums_of
  sums_all = ((mod-lt _ (pow_pos 32), (mod-lt _ (pow_pos 32), (mod-lt _ (pow_pos 32), (mod-lt _ (pow_pos 32), (mod-lt _ (pow_pos 32), (mod-lt _ (pow_pos 32), (mod-lt _ (pow_pos 32), (mod-lt _ (pow_pos 32), tt)))))))), refl)

  pub rest_all : AllByRecursion (λ n. n < 2 ^ 32) rest
  rest_all = all_range (λ n. n < 2 ^ 32) (λ i. slice_index (schedule_of done) (64 + i)) 0 16 (λ j low high. schedule-lt (block_of done) 80 (64 + j) (block_bytes hi done f))

  compressed_is : compressed (map old_of done.accesses) ≡ sums
  unfolding compressed last_of
  compressed_is = compress-rounds (state_of done) (block_of done) 80 (lit≤ tt)

  first_word : word_at (map old_of done.accesses) 0 ≡ word_of_limbs first.access.old
  unfolding word_at
  first_word = ap (λ (xs : List (List ℕ)). word_of_limbs (slice_index_or xs 0 [])) olds_are

  second_word : word_at (map old_of done.accesses) 1 ≡ word_of_limbs second.access.old
  unfolding word_at
  second_word = ap (λ (xs : List (List ℕ)). word_of_limbs (slice_index_or xs 1 [])) olds_are

  pub filling : Filling hi done.instr done.time first second reads writes_list sums (last_of done) rest
  filling =
      let s = the_shape in
      let i = done.instr in
      let olds : List (List ℕ) = map old_of done.accesses in
      let new = new_at i olds f.given in
      let reads_are : AllPlaced new done.time 2 (word_of_limbs second.access.old) 0 reads = subst (λ (c : ℕ). AllPlaced new done.time 2 c 0 reads) second_word s.reads_are in
      let writes_are : AllPlaced new done.time 18 (word_of_limbs first.access.old) 0 writes_list = subst (λ (b : ℕ). AllPlaced new done.time 18 b 0 writes_list) first_word s.writes_are in
      let w = words_all in
      let e = earlier_all in
      record {
        range = f.in_range;
        op = op;
        top = top;
        ends = (ends_26 hi done f op);
        sixteen = s.parts.sixteen;
        eight_writes = s.parts.eight;
        first_in = record { word = w.0; before = e.0; ends = omega (arith, s.first_is.time_is, (ends_26 hi done f op)) };
        second_in = record { word = w.1.0; before = e.1.0; ends = omega (arith, s.second_is.time_is, (ends_26 hi done f op)) };
        reads_in = in_times hi done.time 2 _ 0 new reads (omega (arith, s.parts.sixteen)) (ends_26 hi done f op) reads_are (all_left (λ (a : TimedAccess). IsWord a.access.old) reads writes_list w.1.1) (all_left (λ (a : TimedAccess). a.before < a.time) reads writes_list e.1.1);
        writes_in = in_times hi done.time 18 _ 0 new writes_list (omega (arith, s.parts.eight)) (ends_26 hi done f op) writes_are (all_right (λ (a : TimedAccess). IsWord a.access.old) reads writes_list w.1.1) (all_right (λ (a : TimedAccess). a.before < a.time) reads writes_list e.1.1);
        new = new;
        keep = λ k x low. keeps i olds f.given x k op low;
        put = λ k x high. writes i olds f.given x k op high ∙ ap (λ (ns : List ℕ). limbs_of (slice_index ns (k - 18))) compressed_is;
        base_low = omega (arith, s.base, first_word);
        block_low = omega (arith, s.block, second_word);
        first_is = s.first_is;
        second_is = s.second_is;
        reads_are = reads_are;
        writes_are = writes_are;
        sums_are = sym (sums_eight (state_of done) (last_of done) long_state) ∙ ap (added (state_of done)) (sym (eight (last_of done) long_last))
            ∙ ap (λ (xs : List (List ℕ)). added (map word_of_limbs xs) (last_of done)) state_is;
        sums_low = sums_all.0;
        last_low = last_all;
        rest_low = rest_all;
        eight_sums = sums_all.1;
        eight_last = long_last;
        sixteen_rest = refl;
      }

  -- the row

  abbrev pub R : MainRow ℕ
  R = columns_of done.instr.pc done.time done.instr.rd done.instr.rs1 first second reads writes_list sums (last_of done) rest

  pub row_long : Long R
  row_long = long hi done.instr done.time first second reads writes_list sums (last_of done) rest filling
