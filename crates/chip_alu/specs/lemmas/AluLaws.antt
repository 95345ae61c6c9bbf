-- The laws of the ALU's core.
use Rattle.std.proofs.Common.{◌≡◌, ◌≢◌, ℕ, zero, suc, ◌^◌, ◌<◌, ◌≤◌, true, nat_eq, List, [], ◌∷◌, length, slice_index, bit_xor, bit_or, bit_and, refl, sym, ap, subst, ◌∙◌, arith, lit≤}
use Rattle.std.specs.List.{AllByRecursion, list_any}
use Rattle.vm_field.specs.declared.limbs.Limbs.{Limbs}
use Rattle.vm_field.specs.Limbs.{list_of, limbs_from, LimbsBelow}
use Rattle.vm_field.proofs.LimbLemmas.{list_of-from, length-list_of}
use Rattle.vm_word.specs.Word.{word_of_limbs, limbs_of}
use Rattle.vm_word.specs.Arithmetic.{word_sum, word_difference}
use Rattle.vm_word.proofs.WordLemmas.{word_of_limbs-limbs_of}
use Rattle.vm_isa.specs.Words.{IsBytes}
use Rattle.vm_isa.specs.Results.{alu}
use Rattle.air_core.specs.declared.bus.TheConstants.{XOR}
use Rattle.air_core.specs.First.{bit}
use Rattle.air_core.specs.Flags.{one_hot, opcode_place}
use Rattle.air_core.specs.FlagLaws.{sum_none}
use Rattle.air_core.specs.ListLemmas.{all_left, all_right, all_append, by_zero_test, zero_test, below_at}
use Rattle.air_core.specs.Lookups.{GoodEvent}
use Rattle.air_core.specs.Ring.{field}
use Rattle.air_core.specs.Sheet.{AllZero, AllBelow, sent}
use Rattle.air_core.specs.lemmas.OneHot.{is_place}
use Rattle.gadget_limbs.specs.declared.lookup.OperationFlags.{OperationFlags}
use Rattle.gadget_limbs.specs.Laws.{flags_of}
use Rattle.gadget_limbs.specs.Lookup.{lookup_lines}
use Rattle.gadget_limbs.specs.Sum.{sum_constraints, carry_out, gated_bit}
use Rattle.gadget_limbs.proofs.LimbsLaws.{word_below, limbs_word, bytes_below}
use Rattle.gadget_limbs.proofs.SumLaw.{sum_law_word}
use Rattle.gadget_limbs.proofs.SumHolds.{sum_holds_word, sum_off}
use Rattle.gadget_limbs.proofs.WordLookups.{Says, EachLimb, IsBitwise, IsNumber, looked_right, right_looked, bits_word, word_bits, is_xor, is_or, is_and, sums, xors, ors, ands, four_bytes, each_byte}
use Rattle.adapter_regs.specs.Core.{Operands, CoreLaws, IsCoreAt, IsResult, IsResultOf, IsGoodCore, IsPlaced, IsLookup, no_operands}
use Rattle.vm_isa.specs.Results.{result}
use Rattle.chip_alu.specs.Alu.{alu_core, alu_opcodes, result_of, operation}

-- what the opcodes make of two words
record Results : Type 0 where
  add : (b c : ℕ) → result 1 b c ≡ word_sum b c
  sub : (b c : ℕ) → result 2 b c ≡ word_difference b c
  xor : (b c : ℕ) → result 3 b c ≡ bit_xor b c
  or : (b c : ℕ) → result 4 b c ≡ bit_or b c
  and : (b c : ℕ) → result 5 b c ≡ bit_and b c

results : Results
unfolding result alu
results = record { add = λ b c. refl; sub = λ b c. refl; xor = λ b c. refl; or = λ b c. refl; and = λ b c. refl }

difference : (a b c : ℕ) → a < 2 ^ 32 → b < 2 ^ 32 → c < 2 ^ 32 → b ≡ word_sum a c → a ≡ word_difference b c
difference a b c p q r e = omega arith

back_sum : (b c a : ℕ) → b < 2 ^ 32 → c < 2 ^ 32 → a ≡ word_difference b c → b ≡ word_sum a c
back_sum b c a p q e = omega arith

list_of_result : (own : List ℕ) → length own ≡ 4 → list_of (result_of field own) ≡ own
unfolding limbs_from
list_of_result own long = list_of-from own long

low_new : (xs : List ℕ) → AllBelow xs → LimbsBelow (result_of field xs)
low_new xs h = record { x0 = below_at xs 0 h; x1 = below_at xs 1 h; x2 = below_at xs 2 h; x3 = below_at xs 3 h }

-- ---- sound: the flags are those of one place

module _ (fs own : List ℕ) (b c : Limbs ℕ) (low : AllBelow own) (p : IsBytes (list_of b)) (q : IsBytes (list_of c)) where
  abbrev o : Operands ℕ
  o = record { flags = fs; left = b; right = c; own = own }

  abbrev a : Limbs ℕ
  a = result_of field own

  is_bits : (k op : ℕ) (f : ℕ → ℕ → ℕ) (g : OperationFlags ℕ) → fs ≡ one_hot 5 k → operation field (one_hot 5 k) ≡ g → g.valid ≡ 1 → Says g (λ x y z. x ≡ f y z) → IsBitwise f
      → ((x y : ℕ) → result op x y ≡ f x y) → AllByRecursion (λ e. e.count ≢ 0 → GoodEvent e) (lookup_lines field (operation field fs) a b c) → IsResult op o a
  is_bits k op f g e is v says bitwise same good =
      let each = looked_right g (λ x y z. x ≡ f y z) says v a b c (low_new own low) p q (subst (λ (h : OperationFlags ℕ). AllByRecursion (λ e. e.count ≢ 0 → GoodEvent e) (lookup_lines field h a b c)) (ap (operation field) e ∙ is) good) in
      let w = bits_word f bitwise a b c p q each in
      record { bytes = w.bytes; result_is = w.is ∙ sym (same (word_of_limbs (list_of b)) (word_of_limbs (list_of c))) }

  sum_bytes : (k : ℕ) → fs ≡ one_hot 5 k → operation field (one_hot 5 k) ≡ flags_of 1 0 0 0 → AllByRecursion (λ e. e.count ≢ 0 → GoodEvent e) (lookup_lines field (operation field fs) a b c) → IsBytes (list_of a)
  sum_bytes k e is good =
      four_bytes a b c (looked_right (flags_of 1 0 0 0) (λ x y z. x < 256) sums refl a b c (low_new own low) p q (subst (λ (h : OperationFlags ℕ). AllByRecursion (λ e. e.count ≢ 0 → GoodEvent e) (lookup_lines field h a b c)) (ap (operation field) e ∙ is) good))

  sound_at : (k : ℕ) → k < 5 → fs ≡ one_hot 5 k → AllZero (alu_core.parts.constraints o) → AllByRecursion (λ e. e.count ≢ 0 → GoodEvent e) (lookup_lines field (operation field fs) a b c)
      → IsResult (slice_index (1 ∷ 2 ∷ 3 ∷ 4 ∷ 5 ∷ []) k) o a
  sound_at zero low5 e zero_all good =
      let bytes = sum_bytes 0 e refl good in
      let gate : slice_index fs 0 ≡ 1 = ap (λ (xs : List ℕ). slice_index xs 0) e in
      let first = all_left (λ x. x ≡ 0) (sum_constraints field (slice_index fs 0) 0 (list_of b) (list_of c) (list_of a)) _ zero_all in
      record { bytes = bytes; result_is = sum_law_word b c a p q bytes (subst (λ (g : ℕ). AllZero (sum_constraints field g 0 (list_of b) (list_of c) (list_of a))) gate first) ∙ sym (results.add (word_of_limbs (list_of b)) (word_of_limbs (list_of c))) }
  sound_at (suc zero) low5 e zero_all good =
      let bytes = sum_bytes 1 e refl good in
      let gate : slice_index fs 1 ≡ 1 = ap (λ (xs : List ℕ). slice_index xs 1) e in
      let second = all_right (λ x. x ≡ 0) (sum_constraints field (slice_index fs 0) 0 (list_of b) (list_of c) (list_of a)) _ zero_all in
      let sum = sum_law_word a c b bytes q p (subst (λ (g : ℕ). AllZero (sum_constraints field g 0 (list_of a) (list_of c) (list_of b))) gate second) in
      record { bytes = bytes; result_is = difference _ _ _ (word_below a bytes) (word_below b p) (word_below c q) sum ∙ sym (results.sub (word_of_limbs (list_of b)) (word_of_limbs (list_of c))) }
  sound_at (suc (suc zero)) low5 e zero_all good = is_bits 2 3 bit_xor (flags_of 0 1 0 0) e refl refl xors is_xor results.xor good
  sound_at (suc (suc (suc zero))) low5 e zero_all good = is_bits 3 4 bit_or (flags_of 0 0 1 0) e refl refl ors is_or results.or good
  sound_at (suc (suc (suc (suc zero)))) low5 e zero_all good = is_bits 4 5 bit_and (flags_of 0 0 0 1) e refl refl ands is_and results.and good
  sound_at (suc (suc (suc (suc (suc k))))) low5 e zero_all good = absurd (omega arith)

  -- ---- complete: the limbs of the result

  small : (g : OperationFlags ℕ) → g.valid ≡ 1 → AllByRecursion (λ e. e.count ≤ 1) (lookup_lines field g a b c)
  small g v = (omega arith, (omega arith, (omega arith, (omega arith, tt))))

  filled_word : (op n : ℕ) → list_of a ≡ limbs_of (result op (word_of_limbs (list_of b)) (word_of_limbs (list_of c)))
      → result op (word_of_limbs (list_of b)) (word_of_limbs (list_of c)) ≡ n → n < 2 ^ 32 → IsNumber a n
  filled_word op n e is fits = record {
    bytes = subst IsBytes (sym e) (limbs_word (result op (word_of_limbs (list_of b)) (word_of_limbs (list_of c)))).bytes;
    is = ap word_of_limbs (e ∙ ap limbs_of is) ∙ word_of_limbs-limbs_of n fits;
  }

  good_at : (k : ℕ) (g : OperationFlags ℕ) (R : ℕ → ℕ → ℕ → Type 0) → fs ≡ one_hot 5 k → operation field (one_hot 5 k) ≡ g → g.valid ≡ 1 → Says g R → EachLimb R a b c
      → AllZero (sum_constraints field (slice_index fs 0) 0 (list_of b) (list_of c) (list_of a)) → AllZero (sum_constraints field (slice_index fs 1) 0 (list_of a) (list_of c) (list_of b)) → IsGoodCore alu_core o
  good_at k g R e is v says each first second =
      let same : g ≡ operation field fs = sym (ap (operation field) e ∙ is) in
      record {
        zero = all_append (λ x. x ≡ 0) _ _ first second;
        small = subst (λ (h : OperationFlags ℕ). AllByRecursion (λ e. e.count ≤ 1) (lookup_lines field h a b c)) same (small g v);
        good = subst (λ (h : OperationFlags ℕ). AllByRecursion (λ e. e.count ≢ 0 → GoodEvent e) (lookup_lines field h a b c)) same (right_looked g R says a b c (low_new own low) p q each);
      }

  off_at : (k n : ℕ) (x y z : Limbs ℕ) → fs ≡ one_hot 5 k → slice_index (one_hot 5 k) n ≡ 0 → AllZero (sum_constraints field (slice_index fs n) 0 (list_of x) (list_of y) (list_of z))
  off_at k n x y z e none =
      let gate : slice_index fs n ≡ 0 = ap (λ (xs : List ℕ). slice_index xs n) e ∙ none in
      rw gate (sum_off 0 (list_of x) (list_of y) (list_of z))

  bits_at : (k op : ℕ) (f : ℕ → ℕ → ℕ) (g : OperationFlags ℕ) → fs ≡ one_hot 5 k → operation field (one_hot 5 k) ≡ g → g.valid ≡ 1 → Says g (λ x y z. x ≡ f y z) → IsBitwise f
      → slice_index (one_hot 5 k) 0 ≡ 0 → slice_index (one_hot 5 k) 1 ≡ 0 → ((x y : ℕ) → result op x y ≡ f x y)
      → list_of a ≡ limbs_of (result op (word_of_limbs (list_of b)) (word_of_limbs (list_of c))) → IsGoodCore alu_core o
  bits_at k op f g e is v says bitwise no_sum no_difference same filled =
      good_at k g (λ x y z. x ≡ f y z) e is v says (word_bits f bitwise a b c p q (filled ∙ ap limbs_of (same (word_of_limbs (list_of b)) (word_of_limbs (list_of c)))))
      (off_at k 0 b c a e no_sum) (off_at k 1 a c b e no_difference)

  complete_at : (k : ℕ) → k < 5 → fs ≡ one_hot 5 k → list_of a ≡ limbs_of (result (slice_index (1 ∷ 2 ∷ 3 ∷ 4 ∷ 5 ∷ []) k) (word_of_limbs (list_of b)) (word_of_limbs (list_of c))) → IsGoodCore alu_core o
  complete_at zero low5 e filled =
      let w = filled_word 1 (word_sum (word_of_limbs (list_of b)) (word_of_limbs (list_of c))) filled (results.add _ _) (omega arith) in
      good_at 0 (flags_of 1 0 0 0) (λ x y z. x < 256) e refl refl sums (each_byte a b c w.bytes) (sum_holds_word (slice_index fs 0) b c a p q w.bytes w.is) (off_at 0 1 a c b e refl)
  complete_at (suc zero) low5 e filled =
      let w = filled_word 2 (word_difference (word_of_limbs (list_of b)) (word_of_limbs (list_of c))) filled (results.sub _ _) (omega arith) in
      good_at 1 (flags_of 1 0 0 0) (λ x y z. x < 256) e refl refl sums (each_byte a b c w.bytes) (off_at 1 0 b c a e refl)
      (sum_holds_word (slice_index fs 1) a c b w.bytes q p (back_sum _ _ _ (word_below b p) (word_below c q) w.is))
  complete_at (suc (suc zero)) low5 e filled = bits_at 2 3 bit_xor (flags_of 0 1 0 0) e refl refl xors is_xor refl refl results.xor filled
  complete_at (suc (suc (suc zero))) low5 e filled = bits_at 3 4 bit_or (flags_of 0 0 1 0) e refl refl ors is_or refl refl results.or filled
  complete_at (suc (suc (suc (suc zero)))) low5 e filled = bits_at 4 5 bit_and (flags_of 0 0 0 1) e refl refl ands is_and refl refl results.and filled
  complete_at (suc (suc (suc (suc (suc k))))) low5 e filled = absurd (omega arith)

-- ---- the laws

silent : (o : Operands ℕ) → AllZero o.flags → AllByRecursion (λ e. e.count ≡ 0) (alu_core.parts.lookups o)
silent o none = let v = sum_none o.flags none in (v, (v, (v, (v, tt))))

zeros : AllZero (alu_core.parts.constraints (no_operands alu_core))
unfolding sum_constraints carry_out gated_bit bit list_of limbs_from zero_test
zeros = by_zero_test (alu_core.parts.constraints (no_operands alu_core)) refl

complete : (op : ℕ) (o : Operands ℕ) (new : Limbs ℕ) → IsCoreAt alu_core (opcode_place alu_opcodes op) o → IsResultOf op o.left o.right new
    → slice_index alu_opcodes (opcode_place alu_opcodes op) ≡ op → o.own ≡ list_of new → IsGoodCore alu_core o
complete op o new at word is filled =
    complete_at o.flags o.own o.left o.right at.own_below at.left at.right (opcode_place alu_opcodes op) at.below at.flags
    (list_of_result o.own at.own_long ∙ filled ∙ word.is ∙ ap (λ (x : ℕ). limbs_of (result x (word_of_limbs (list_of o.left)) (word_of_limbs (list_of o.right)))) (sym is))

placed : (op : ℕ) (left right new : Limbs ℕ) → list_any (nat_eq op) alu_opcodes ≡ true → IsResultOf op left right new → IsPlaced alu_core op left right new
placed op left right new own word =
    let p = is_place alu_opcodes op own in
    record { below = p.below; opcode = p.is; long = length-list_of new; own_below = bytes_below (list_of new) word.bytes }

looks : (count : ℕ) (tuple : List ℕ) → IsLookup (sent XOR count tuple)
looks count tuple = record { low = lit≤ tt; high = lit≤ tt; side = refl }

pub alu_laws : CoreLaws alu_core
alu_laws = record {
  some = lit≤ tt;
  few_flags = lit≤ tt;
  narrow = lit≤ tt;
  registers = (refl, (refl, (refl, (refl, (refl, tt)))));
  products = λ e. absurd (cc);
  lookups = λ o. (looks _ _, (looks _ _, (looks _ _, (looks _ _, tt))));
  few_lookups = λ o. lit≤ tt;
  silent = silent;
  zeros = zeros;
  sound = λ k o at zero good. sound_at o.flags o.own o.left o.right at.own_below at.left at.right k at.below at.flags zero good;
  placed = λ op left right new own p q word. placed op left right new own word;
  complete = complete;
}
