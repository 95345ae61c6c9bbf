-- The run of the sample program: 8 steps, 2,000 rounds of 13, and 3 steps more.
use Rattle.std.proofs.Common.{◌≡◌, ℕ, zero, suc, ◌+◌, ◌-◌, ◌*◌, ◌%◌, ◌^◌, ◌<◌, ◌≤◌, ◌==◌, nat_lt, Bool, true, false, not, if◌then◌else◌, List, ◌∷◌, replicate, Option, None, bit_and, bit_xor, refl, ap, ◌∙◌, subst, arith, lit<}
use Rattle.std.proofs.lemmas.Bool.Decides.{nat_tests}
use Rattle.std.proofs.lemmas.Nat.{and_le_r}
use Rattle.std.proofs.lemmas.Nat.Bits.{bit_at_and}
use Rattle.std.specs.Int.{bit_at}
use Rattle.byteorder.specs.Endian.{little_bytes}
use Rattle.vm_word.specs.Arithmetic.{word_sum, word_difference, low_product, quotient, shifted_right}
use Rattle.vm_word.specs.Operations.{word_of_test}
use Rattle.vm_word.specs.declared.operation.BranchKind.TheVariants.{Bne}
use Rattle.rv_decode.specs.declared.instr.Instr.TheVariants.{Branch}
use Rattle.elf_image.specs.Loaded.{Loaded}
use Rattle.rv_run.specs.declared.outcome.Cause.{Cause}
use Rattle.rv_run.specs.Machine.{Machine, start}
use Rattle.rv_run.specs.Memory.{number_at, with_bytes}
use Rattle.rv_run.specs.Step.{goes, step_by, unless, at_address, at_target, branch_taken, jumps, goes_on, put, make_public}
use Rattle.rv_run.specs.Run.{Goes, Ends}
use Rattle.rv_run.proofs.Runs.{goes_more}
use Rattle.vm_vectors.specs.ElfFile.{text_image}
use Rattle.vm_vectors.specs.Laws.{SampleEnds}
use Rattle.vm_vectors.specs.Sample.{AreWordsOf, low_part, sample_of, sample_base}
use Rattle.vm_vectors.proofs.SampleText.{instr_at, fetched}

-- ---- the address of a round

masked_bit : (x i : ℕ) → bit_at 252 i ≡ 0 → bit_at (bit_and x 252) i ≡ 0
masked_bit x i h = omega (arith, bit_at_and x 252 i, h)

masked_even : (x : ℕ) → bit_and x 252 % 4 ≡ 0
masked_even x = omega (arith, masked_bit x 0 refl, masked_bit x 1 refl)

address_free : (a : ℕ) → a % 4 ≡ 0 → a < 2 ^ 29 → at_address 4 a ≡ None
address_free a even low = grind (arith, nat_tests)

round_free : (x : ℕ) → at_address 4 (word_sum (word_sum (bit_and x 252) 0x2000) 0) ≡ None
round_free x =
    let even = masked_even x in
    let low : bit_and x 252 ≤ 252 = and_le_r x 252 in
    let a : ℕ = word_sum (word_sum (bit_and x 252) 0x2000) 0 in
    let aligned : a % 4 ≡ 0 = omega (arith, even, low) in
    let small : a < 2 ^ 29 = omega (arith, even, low) in
    address_free a aligned small

-- ---- the state in the rounds: what changes there

record Going : Type 0 where
  x5 : ℕ
  x9 : ℕ
  x10 : ℕ
  x11 : ℕ
  x12 : ℕ
  x13 : ℕ
  x14 : ℕ
  x15 : ℕ
  memory : ℕ → ℕ

-- a branch by what its test comes to
branch_step : (m : Machine) (offset : ℕ) (taken : Bool) → branch_taken m Bne 9 0 ≡ taken
    → step_by m (Branch Bne 9 0 offset)
    ≡ unless m (if taken then at_target (word_sum m.pc offset) else None) (goes (if taken then jumps (word_sum m.pc offset) m else goes_on m))
branch_step m offset taken e = ap (λ (t : Bool). unless m (if t then at_target (word_sum m.pc offset) else None) (goes (if t then jumps (word_sum m.pc offset) m else goes_on m))) e

module _ (number : ℕ) (words hints : List ℕ) (are : AreWordsOf (sample_of number) words) where
  abbrev loaded : Loaded
  loaded = text_image sample_base words

  -- one step more
  step : (k : ℕ) → k < 25 → (n : ℕ) (m next : Machine) → Goes loaded hints n m → m.pc ≡ 0x1000 + 4 * k → step_by m (instr_at number k) ≡ goes next → Goes loaded hints (n + 1) next
  step k low n m next reached at does = goes_more loaded hints n m next reached (fetched number words are k low m at ∙ does)

  abbrev state : ℕ → Going → Machine
  state pc g = record {
    pc = pc;
    registers = 0 ∷ 0 ∷ 0 ∷ 0 ∷ 0 ∷ g.x5 ∷ 0x19660d ∷ 0x3c6ef35f ∷ 0x2000 ∷ g.x9 ∷ g.x10 ∷ g.x11 ∷ g.x12 ∷ g.x13 ∷ g.x14 ∷ g.x15 ∷ replicate 16 0;
    memory = g.memory;
    public_bytes = replicate 64 0;
    hints = hints;
  }

  -- a round but for its branch
  round : (n : ℕ) (g : Going) → Goes loaded hints n (state 0x1020 g) → (h : Going) × (h.x9 ≡ word_sum g.x9 (2 ^ 32 - 1)) × Goes loaded hints (n + 12) (state 0x1050 h)
  round n g reached =
      let a : Going = record g { x5 = low_product g.x5 0x19660d } in
      let b : Going = record a { x5 = word_sum a.x5 0x3c6ef35f } in
      let c : Going = record b { x10 = bit_and b.x5 252 } in
      let d : Going = record c { x10 = word_sum c.x10 0x2000 } in
      let e : Going = record d { x11 = number_at d.memory (word_sum d.x10 0) 4 } in
      let f : Going = record e { x11 = bit_xor e.x11 e.x5 } in
      let i : Going = record f { memory = with_bytes f.memory (word_sum f.x10 0) (little_bytes 4 f.x11) } in
      let j : Going = record i { x12 = shifted_right i.x5 16 } in
      let k : Going = record j { x13 = quotient j.x11 j.x12 } in
      let l : Going = record k { x14 = word_of_test (nat_lt k.x13 k.x12) } in
      let o : Going = record l { x15 = word_sum l.x15 l.x14 } in
      let p : Going = record o { x9 = word_sum o.x9 (2 ^ 32 - 1) } in
      let free = round_free b.x5 in
      let load = ap (λ (o : Option Cause). unless (state 0x1030 d) o (goes (state 0x1034 e))) free in
      let save = ap (λ (o : Option Cause). unless (state 0x1038 f) o (goes (state 0x103c i))) free in
      let r8 = step 8 (lit< tt) n (state 0x1020 g) (state 0x1024 a) reached refl refl in
      let r9 = step 9 (lit< tt) _ (state 0x1024 a) (state 0x1028 b) r8 refl refl in
      let r10 = step 10 (lit< tt) _ (state 0x1028 b) (state 0x102c c) r9 refl refl in
      let r11 = step 11 (lit< tt) _ (state 0x102c c) (state 0x1030 d) r10 refl refl in
      let r12 = step 12 (lit< tt) _ (state 0x1030 d) (state 0x1034 e) r11 refl load in
      let r13 = step 13 (lit< tt) _ (state 0x1034 e) (state 0x1038 f) r12 refl refl in
      let r14 = step 14 (lit< tt) _ (state 0x1038 f) (state 0x103c i) r13 refl save in
      let r15 = step 15 (lit< tt) _ (state 0x103c i) (state 0x1040 j) r14 refl refl in
      let r16 = step 16 (lit< tt) _ (state 0x1040 j) (state 0x1044 k) r15 refl refl in
      let r17 = step 17 (lit< tt) _ (state 0x1044 k) (state 0x1048 l) r16 refl refl in
      let r18 = step 18 (lit< tt) _ (state 0x1048 l) (state 0x104c o) r17 refl refl in
      let r19 = step 19 (lit< tt) _ (state 0x104c o) (state 0x1050 p) r18 refl refl in
      let twelve : n + 1 + 1 + 1 + 1 + 1 + 1 + 1 + 1 + 1 + 1 + 1 + 1 ≡ n + 12 = omega arith in
      (p, refl, subst (λ (q : ℕ). Goes loaded hints q (state 0x1050 p)) twelve r19)

  -- the steps before the rounds
  setup : (h : Going) × (h.x9 ≡ 2000) × Goes loaded hints 8 (state 0x1020 h)
  setup =
      let m0 : Machine = start loaded hints in
      let m1 : Machine = goes_on (put 5 (word_difference number (low_part number)) m0) in
      let m2 : Machine = goes_on (put 5 (word_sum (word_difference number (low_part number)) (low_part number)) m1) in
      let m3 : Machine = goes_on (put 6 0x196000 m2) in
      let m4 : Machine = goes_on (put 6 0x19660d m3) in
      let m5 : Machine = goes_on (put 7 0x3c6ef000 m4) in
      let m6 : Machine = goes_on (put 7 0x3c6ef35f m5) in
      let m7 : Machine = goes_on (put 8 0x2000 m6) in
      let h : Going = record {
        x5 = word_sum (word_difference number (low_part number)) (low_part number);
        x9 = 2000;
        x10 = 0;
        x11 = 0;
        x12 = 0;
        x13 = 0;
        x14 = 0;
        x15 = 0;
        memory = m0.memory;
      } in
      let r0 : Goes loaded hints 0 m0 = refl in
      let r1 = step 0 (lit< tt) 0 m0 m1 r0 refl refl in
      let r2 = step 1 (lit< tt) 1 m1 m2 r1 refl refl in
      let r3 = step 2 (lit< tt) 2 m2 m3 r2 refl refl in
      let r4 = step 3 (lit< tt) 3 m3 m4 r3 refl refl in
      let r5 = step 4 (lit< tt) 4 m4 m5 r4 refl refl in
      let r6 = step 5 (lit< tt) 5 m5 m6 r5 refl refl in
      let r7 = step 6 (lit< tt) 6 m6 m7 r6 refl refl in
      (h, refl, step 7 (lit< tt) 7 m7 (state 0x1020 h) r7 refl refl)

  -- the branch that ends a round
  branch : (taken : Bool) (h : Going) → not (h.x9 == 0) ≡ taken
      → step_by (state 0x1050 h) (Branch Bne 9 0 (2 ^ 32 - 48)) ≡ goes (if taken then state 0x1020 h else state 0x1054 h)
  branch true h e = branch_step (state 0x1050 h) (2 ^ 32 - 48) true e
  branch false h e = branch_step (state 0x1050 h) (2 ^ 32 - 48) false e

  -- the head of each round
  rounds : (k : ℕ) → k ≤ 1999 → (h : Going) × (h.x9 ≡ 2000 - k) × Goes loaded hints (8 + 13 * k) (state 0x1020 h)
  rounds zero low = setup
  rounds (suc k) low =
      let before = rounds k (omega arith) in
      let body = round (8 + 13 * k) before.0 before.2 in
      let left : body.0.x9 ≡ 2000 - suc k = omega (arith, body.1, before.1) in
      let more : not (body.0.x9 == 0) ≡ true = grind (arith, nat_tests) in
      let next = step 20 (lit< tt) _ (state 0x1050 body.0) (state 0x1020 body.0) body.2 refl (branch true body.0 more) in
      let thirteen : 8 + 13 * k + 12 + 1 ≡ 8 + 13 * suc k = omega arith in
      (body.0, left, subst (λ (q : ℕ). Goes loaded hints q (state 0x1020 body.0)) thirteen next)

  -- the last round, and what comes behind it
  last_round : (n total : ℕ) (g : Going) → g.x9 ≡ 1 → total ≡ n + 16 → Goes loaded hints n (state 0x1020 g)
      → (public_bytes : List ℕ) × Ends loaded hints total 0 public_bytes
  last_round n total g one sum reached =
      let body = round n g reached in
      let none : not (body.0.x9 == 0) ≡ false = grind (arith, nat_tests, body.1) in
      let h : Going = body.0 in
      let m0 : Machine = state 0x1054 h in
      let m1 : Machine = goes_on (make_public 0 h.x5 m0) in
      let m2 : Machine = goes_on (make_public 4 h.x11 m1) in
      let m3 : Machine = goes_on (make_public 8 h.x15 m2) in
      let r0 = step 20 (lit< tt) _ (state 0x1050 h) m0 body.2 refl (branch false h none) in
      let r1 = step 21 (lit< tt) _ m0 m1 r0 refl refl in
      let r2 = step 22 (lit< tt) _ m1 m2 r1 refl refl in
      let r3 = step 23 (lit< tt) _ m2 m3 r2 refl refl in
      let whole : n + 12 + 1 + 1 + 1 + 1 ≡ total = omega arith in (
        m3.public_bytes,
        record {
          last = m3;
          reached = subst (λ (q : ℕ). Goes loaded hints q m3) whole r3;
          ended = fetched number words are 24 (lit< tt) m3 refl;
          shown = refl;
        },
      )

  ends_after : (k total : ℕ) → k ≡ 1999 → total ≡ 26011 → (public_bytes : List ℕ) × Ends loaded hints total 0 public_bytes
  ends_after k total last sum =
      let before = rounds k (omega arith) in
      last_round (8 + 13 * k) total before.0 (omega (arith, before.1)) (omega arith) before.2

pub sample_ends : SampleEnds
sample_ends number words hints are = ends_after number words hints are 1999 26011 refl refl
