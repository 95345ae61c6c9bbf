-- The accesses of a valid row, and its meaning where the new state is the sums.
use Rattle.std.proofs.Common.{◌≡◌, ◌≢◌, ℕ, ◌+◌, ◌*◌, ◌^◌, ◌<◌, ◌≤◌, List, [], ◌∷◌, ◌++◌, map, flat_map, slice_index, Some, refl, sym, ap, ◌∙◌, arith, lit<, lit≤, append-nil}
use Rattle.std.specs.List.{AllByRecursion}
use Rattle.std.proofs.lemmas.List.{map-append}
use Rattle.vm_field.specs.Field.{field_add, field_mul}
use Rattle.vm_field.specs.declared.limbs.Limbs.{Limbs}
use Rattle.vm_field.specs.Limbs.{list_of}
use Rattle.vm_word.specs.Arithmetic.{word_sum}
use Rattle.vm_isa.specs.Words.{IsBytes}
use Rattle.vm_isa.specs.declared.instr.VmInstr.{VmInstr}
use Rattle.vm_isa.specs.Instr.{InRange, numbers_of}
use Rattle.vm_isa.specs.Means.{accessed_by, compressed, means_of, memory_from, new_at, sha_places, word_at}
use Rattle.sha_words.specs.Sha256.{rounds, sums_of}
use Rattle.sha_words.proofs.RoundLemmas.{compress-rounds}
use Rattle.air_core.specs.declared.event.Event.{Event}
use Rattle.air_core.specs.Lookups.{GoodEvent}
use Rattle.air_core.specs.ListLemmas.{all_append, all_left, all_right}
use Rattle.air_core.specs.Ring.{field}
use Rattle.air_core.specs.Step.{Touched, Rising, NewBytes, IsMeaning, accessed}
use Rattle.gadget_limbs.specs.Ranges.{range_lines}
use Rattle.gadget_limbs.proofs.RangeLaws.{ranges_good}
use Rattle.gadget_bits.proofs.ShaMeans.{accessed_both, keeps, means_sha, writes}
use Rattle.gadget_time.specs.declared.touch.Touch.{Touch}
use Rattle.gadget_time.specs.Told.{touched, touched_of}
use Rattle.gadget_time.specs.Laws.{CountsSmall}
use Rattle.gadget_time.specs.Access.{register_touch}
use Rattle.chip_sha_main.specs.Main.{MainRow, Long, main_touches, main_numbers, run_touches, word_field, main_ranges, chain_lines}
use Rattle.chip_sha_main.specs.lemmas.Runs.{Even, run_counts, run_slots, touched_all, run_rises, reads_bytes, writes_bytes, run_olds, run_means, run_bytes}
use Rattle.chip_sha_main.specs.lemmas.Numbers.{word, AllBytes, schedule_of, block_of}
use Rattle.chip_sha_main.specs.lemmas.Means.{reads_new, writes_new, compressed_is, length_olds, length_lists}

-- the accesses of a valid row
abbrev pub main_accesses : MainRow ℕ → List Touched
main_accesses r =
    touched (register_touch field r.flag 0 r.rd r.base r.base r.first)
    ∷ touched (register_touch field r.flag 1 r.rs1 r.block r.block r.second)
    ∷ (map touched (run_touches field r.flag 2 (word_field field r.block) 0 r.message r.message r.reads)
    ++ (map touched (run_touches field r.flag 18 (word_field field r.base) 0 r.old r.new r.writes) ++ []))

-- what the range lookups say
bytes_of : (ws : List (Limbs ℕ)) → AllByRecursion (λ x. x < 2 ^ 8) (flat_map list_of ws) → AllBytes ws
unfolding list_of
bytes_of [] h = tt
bytes_of (w ∷ ws) h = ((h.0, (h.1.0, (h.1.1.0, (h.1.1.1.0, tt)))), bytes_of ws h.1.1.1.1)

pub record RangesGood (r : MainRow ℕ) : Type 0 where
  pub base : r.base.x3 < 32
  pub block : r.block.x3 < 32
  pub new : AllBytes r.new

pub main_ranges_good : (r : MainRow ℕ) → r.flag ≢ 0 → AllByRecursion (λ e. e.count ≢ 0 → GoodEvent e) (main_ranges field r ++ chain_lines field r) → RangesGood r
unfolding main_ranges
main_ranges_good r some good =
    let P : Event → Type 0 = λ e. e.count ≢ 0 → GoodEvent e in
    let tops = range_lines field r.flag 5 (r.base.x3 ∷ r.block.x3 ∷ []) in
    let limbs = range_lines field r.flag 8 (flat_map list_of r.new) in
    let ranges = all_left P (tops ++ limbs) (chain_lines field r) good in
    let two = ranges_good r.flag 5 (r.base.x3 ∷ r.block.x3 ∷ []) some (all_left P tops limbs ranges) in
    let all = ranges_good r.flag 8 (flat_map list_of r.new) some (all_right P tops limbs ranges) in
    record { base = two.0; block = two.1.0; new = bytes_of r.new all }

-- the program row

pub record IsMain (r : MainRow ℕ) (i : VmInstr) : Type 0 where
  pub pc : r.pc ≡ i.pc
  pub op : i.op ≡ 40
  pub rd : r.rd ≡ i.rd
  pub rs1 : r.rs1 ≡ i.rs1

-- numbers of a program row with this opcode
pub is_main : (r : MainRow ℕ) (i : VmInstr) → r.pc ∷ 40 ∷ main_numbers field r ≡ numbers_of i → IsMain r i
unfolding main_numbers numbers_of
is_main r i e = record { pc = cc; op = sym (let same : 40 ≡ i.op = cc in same); rd = cc; rs1 = cc }

-- the accesses

counts_all : (r : MainRow ℕ) → AllByRecursion (λ t. t.count ≡ r.flag) (main_touches field r)
unfolding main_touches
counts_all r = (refl, (refl, all_append (λ t. t.count ≡ r.flag) _ _ (run_counts r.flag 2 (word_field field r.block) 0 r.message r.message r.reads) (run_counts r.flag 18 (word_field field r.base) 0 r.old r.new r.writes)))

all_to : (P Q : Touch ℕ → Type 0) (ts : List (Touch ℕ)) → ((t : Touch ℕ) → P t → Q t) → AllByRecursion P ts → AllByRecursion Q ts
all_to P Q [] f h = tt
all_to P Q (t ∷ ts) f h = (f t h.0, all_to P Q ts f h.1)

pub counts_none : (r : MainRow ℕ) → r.flag ≡ 0 → AllByRecursion (λ t. t.count ≡ 0) (main_touches field r)
counts_none r v = all_to (λ t. t.count ≡ r.flag) (λ t. t.count ≡ 0) (main_touches field r) (λ t e. e ∙ v) (counts_all r)

counts_one : (r : MainRow ℕ) → r.flag ≡ 1 → AllByRecursion (λ t. t.count ≡ 1) (main_touches field r)
counts_one r v = all_to (λ t. t.count ≡ r.flag) (λ t. t.count ≡ 1) (main_touches field r) (λ t e. e ∙ v) (counts_all r)

pub counts_small : (r : MainRow ℕ) → r.flag ≡ 1 → CountsSmall (main_touches field r)
counts_small r v = all_to (λ t. t.count ≡ r.flag) (λ t. t.count ≤ 1) (main_touches field r) (λ t e. omega (arith, e, v)) (counts_all r)

pub slots_low : (r : MainRow ℕ) → Long r → AllByRecursion (λ t. t.slot < 26) (main_touches field r)
unfolding main_touches
slots_low r l = (
  lit< tt,
  (
    lit< tt,
    all_append (λ t. t.slot < 26) _ _
        (run_slots 26 r.flag 2 (word_field field r.block) 0 r.message r.message r.reads (omega (arith, l.message)))
        (run_slots 26 r.flag 18 (word_field field r.base) 0 r.old r.new r.writes (omega (arith, l.old))),
  ),
)

pub are_touched : (r : MainRow ℕ) → r.flag ≡ 1 → touched_of (main_touches field r) ≡ main_accesses r
unfolding main_touches
are_touched r v =
    let reads : List (Touch ℕ) = run_touches field r.flag 2 (word_field field r.block) 0 r.message r.message r.reads in
    let writes : List (Touch ℕ) = run_touches field r.flag 18 (word_field field r.base) 0 r.old r.new r.writes in
    let split : map touched (reads ++ writes) ≡ map touched reads ++ (map touched writes ++ []) = map-append touched reads writes ∙ ap (λ (ts : List Touched). map touched reads ++ ts) (sym (append-nil (map touched writes))) in
    touched_all (main_touches field r) (counts_one r v)
    ∙ ap (λ (ts : List Touched). touched (register_touch field r.flag 0 r.rd r.base r.base r.first) ∷ touched (register_touch field r.flag 1 r.rs1 r.block r.block r.second) ∷ ts) split

even_reads : (r : MainRow ℕ) → Long r → Even r.message r.message r.reads
even_reads r l = record { news = refl; gaps = omega (arith, l.message, l.reads) }

even_writes : (r : MainRow ℕ) → Long r → Even r.old r.new r.writes
even_writes r l = record { news = omega (arith, l.old, l.new); gaps = omega (arith, l.old, l.writes) }

pub rising : (r : MainRow ℕ) → Long r → Rising 0 26 (main_accesses r)
rising r l = (
  lit≤ tt,
  lit< tt,
  (
    lit≤ tt,
    lit< tt,
    run_rises 2 26 r.flag 2 (word_field field r.block) 0 r.message r.message r.reads _ (even_reads r l) (lit≤ tt) (omega (arith, l.message)) (λ k high low.
        run_rises k 26 r.flag 18 (word_field field r.base) 0 r.old r.new r.writes [] (even_writes r l) (omega (arith, l.message)) (omega (arith, l.old)) (λ m top under. tt)),
  ),
)

pub new_bytes : (r : MainRow ℕ) → AllBytes r.new → NewBytes (main_accesses r)
new_bytes r bytes = λ b. (
  b,
  λ c. (
    c,
    reads_bytes r.flag 2 (word_field field r.block) 0 r.message r.reads _ (writes_bytes r.flag 18 (word_field field r.base) 0 r.old r.new r.writes [] bytes tt),
  ),
)

-- the meaning

-- the old words of a row
abbrev pub olds_of : MainRow ℕ → List (List ℕ)
olds_of r = list_of r.base ∷ list_of r.block ∷ (map list_of r.message ++ (map list_of r.old ++ []))

olds_are : (r : MainRow ℕ) → Long r → map (λ a. a.old) (main_accesses r) ≡ olds_of r
olds_are r l =
    let reads = map touched (run_touches field r.flag 2 (word_field field r.block) 0 r.message r.message r.reads) in
    let writes = map touched (run_touches field r.flag 18 (word_field field r.base) 0 r.old r.new r.writes) in
    let one = run_olds r.flag 2 (word_field field r.block) 0 r.message r.message r.reads (even_reads r l) in
    let two = run_olds r.flag 18 (word_field field r.base) 0 r.old r.new r.writes (even_writes r l) in
    let split : map (λ a. a.old) (reads ++ (writes ++ [])) ≡ map list_of r.message ++ (map list_of r.old ++ [])
    = map-append (λ (a : Touched). a.old) reads (writes ++ []) ∙ (λ i. one i ++ map-append (λ (a : Touched). a.old) writes [] i) ∙ ap (λ (ws : List (List ℕ)). map list_of r.message ++ (ws ++ [])) two in
    λ i. list_of r.base ∷ list_of r.block ∷ split i

-- the words that are read are bytes
pub record OldBytes (r : MainRow ℕ) : Type 0 where
  pub base : IsBytes (list_of r.base)
  pub block : IsBytes (list_of r.block)
  pub message : AllBytes r.message
  pub old : AllBytes r.old

pub old_bytes : (r : MainRow ℕ) → Long r → AllByRecursion (λ a. IsBytes a.old) (main_accesses r) → OldBytes r
old_bytes r l h =
    let reads = map touched (run_touches field r.flag 2 (word_field field r.block) 0 r.message r.message r.reads) in
    let writes = map touched (run_touches field r.flag 18 (word_field field r.base) 0 r.old r.new r.writes) in
    let second = all_right (λ (a : Touched). IsBytes a.old) reads (writes ++ []) h.1.1 in
    record {
      base = h.0;
      block = h.1.0;
      message = run_bytes r.flag 2 (word_field field r.block) 0 r.message r.message r.reads (even_reads r l) (all_left (λ (a : Touched). IsBytes a.old) reads (writes ++ []) h.1.1);
      old = run_bytes r.flag 18 (word_field field r.base) 0 r.old r.new r.writes (even_writes r l) (all_left (λ (a : Touched). IsBytes a.old) writes [] second);
    }

-- a word below 2 ^ 29 as a field element
pub word_is : (w : Limbs ℕ) → IsBytes (list_of w) → w.x3 < 32 → (word_field field w ≡ word w) × (word w < 2 ^ 29)
unfolding word_field list_of
word_is w b top = (omega (arith, b.0, b.1.0, b.1.1.0), omega (arith, b.0, b.1.0, b.1.1.0))

pointer : (x y : ℕ) → x ≡ y → y < 32 → field_mul 4 x ≡ 4 * y
pointer x y e h = omega arith

step_on : (x y : ℕ) → x ≡ y → y < 2 ^ 29 → field_add x 4 ≡ word_sum y 4
step_on x y e h = omega arith

-- the state that is written is the compressed one
pub compressed_new : (r : MainRow ℕ) → Long r → map word r.new ≡ sums_of (map word r.old) (rounds (map word r.old) (schedule_of r.message) 64) → compressed (olds_of r) ≡ map word r.new
compressed_new r l sums =
    compressed_is (list_of r.base) (list_of r.block) r.message r.old l.message l.old
    ∙ compress-rounds (map word r.old) (block_of r.message) 80 (lit≤ tt) ∙ sym sums

module _ (r : MainRow ℕ) (i : VmInstr) (given : List ℕ) (l : Long r) (is : IsMain r i) (range : InRange i) (old : OldBytes r) (g : RangesGood r) (C : compressed (olds_of r) ≡ map word r.new) where
  abbrev new : ℕ → List ℕ → List ℕ
  new = new_at i (olds_of r) given

  reads_are : accessed_by new (memory_from 2 (word r.block) 16) (map list_of r.message) ≡ map accessed (map touched (run_touches field r.flag 2 (word_field field r.block) 0 r.message r.message r.reads))
  reads_are =
      let at = word_is r.block old.block g.block in
      run_means new 2 (word r.block) r.flag (word_field field r.block) 0 16 r.message r.message r.reads (even_reads r l) l.message at.0 at.1 (lit≤ tt)
      (reads_new new 2 r.message (omega (arith, l.message)) (λ s x low. keeps i (olds_of r) given x s is.op low))

  writes_are : accessed_by new (memory_from 18 (word r.base) 8) (map list_of r.old) ≡ map accessed (map touched (run_touches field r.flag 18 (word_field field r.base) 0 r.old r.new r.writes))
  writes_are =
      let at = word_is r.base old.base g.base in
      run_means new 18 (word r.base) r.flag (word_field field r.base) 0 8 r.old r.new r.writes (even_writes r l) l.old at.0 at.1 (lit≤ tt)
      (writes_new new (compressed (olds_of r)) 0 r.old r.new (omega (arith, l.old, l.new)) (λ s x high. writes i (olds_of r) given x s is.op high)
      (λ j low. ap (λ (ws : List ℕ). slice_index ws (0 + j)) C ∙ ap (slice_index (map word r.new)) (omega arith)) g.new)

  accesses_are : accessed_by new (sha_places i (word r.base) (word r.block)) (olds_of r) ≡ map accessed (main_accesses r)
  unfolding accessed_by
  accesses_are =
      let reads = map touched (run_touches field r.flag 2 (word_field field r.block) 0 r.message r.message r.reads) in
      let writes = map touched (run_touches field r.flag 18 (word_field field r.base) 0 r.old r.new r.writes) in
      let rd = pointer r.rd i.rd is.rd range.rd in
      let rs1 = pointer r.rs1 i.rs1 is.rs1 range.rs1 in
      let first : record { slot = 0; space = 1; pointer = 4 * i.rd; old = list_of r.base; new = new 0 (list_of r.base) } ≡ accessed (touched (register_touch field r.flag 0 r.rd r.base r.base r.first))
      = λ k. record { slot = 0; space = 1; pointer = sym rd k; old = list_of r.base; new = keeps i (olds_of r) given (list_of r.base) 0 is.op (lit< tt) k } in
      let second : record { slot = 1; space = 1; pointer = 4 * i.rs1; old = list_of r.block; new = new 1 (list_of r.block) } ≡ accessed (touched (register_touch field r.flag 1 r.rs1 r.block r.block r.second))
      = λ k. record { slot = 1; space = 1; pointer = sym rs1 k; old = list_of r.block; new = keeps i (olds_of r) given (list_of r.block) 1 is.op (lit< tt) k } in
      let left : accessed_by new (memory_from 2 (word r.block) 16 ++ memory_from 18 (word r.base) 8) (map list_of r.message ++ (map list_of r.old ++ []))
      ≡ map accessed reads ++ map accessed writes
      = ap (λ (ws : List (List ℕ)). accessed_by new (memory_from 2 (word r.block) 16 ++ memory_from 18 (word r.base) 8) (map list_of r.message ++ ws)) (append-nil (map list_of r.old))
      ∙ accessed_both new 2 (word r.block) 18 (word r.base) 8 0 16 (map list_of r.message) (map list_of r.old) (length_lists r.message ∙ l.message)
      ∙ (λ k. reads_are k ++ writes_are k) in
      let right : map accessed reads ++ map accessed writes ≡ map accessed (reads ++ (writes ++ []))
      = sym (map-append accessed reads writes) ∙ ap (λ (ts : List Touched). map accessed (reads ++ ts)) (sym (append-nil writes)) in
      let rest = left ∙ right in
      λ k. first k ∷ second k ∷ rest k

  pub row_means : IsMeaning i (main_accesses r) (field_add r.pc 4)
  unfolding word_at
  row_means =
      let base = word_is r.base old.base g.base in
      let block = word_is r.block old.block g.block in
      let means = means_sha i (olds_of r) given (word r.base) (word r.block) is.op refl refl base.1 block.1 (length_olds (list_of r.base) (list_of r.block) r.message r.old l.message l.old) in
      let next = step_on r.pc i.pc is.pc range.low in (
        given,
        ap (λ (olds : List (List ℕ)). means_of i olds given) (olds_are r l) ∙ means ∙ (λ k. Some (record { accesses = accesses_are k; next = sym next k })),
      )
