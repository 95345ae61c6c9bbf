-- The laws of the core of shifts.
use Rattle.std.proofs.Common.{◌≡◌, ◌≢◌, ℕ, zero, suc, ◌+◌, ◌-◌, ◌*◌, ◌%◌, ◌<◌, ◌≤◌, Bool, true, false, nat_eq, if◌then◌else◌, List, [], ◌∷◌, ◌++◌, length, slice_index, refl, sym, ap, subst, ◌∙◌, inl, inr, arith, lit≤, length-append}
use Rattle.std.proofs.lemmas.Bool.{cases_eq, ne_eqb}
use Rattle.std.specs.Int.{from_bool}
use Rattle.std.specs.List.{AllByRecursion, list_any}
use Rattle.vm_field.specs.declared.limbs.Limbs.{Limbs}
use Rattle.vm_field.specs.Limbs.{list_of}
use Rattle.vm_word.specs.Arithmetic.{is_negative, shifted_left, shifted_right, shifted_right_signed}
use Rattle.vm_word.specs.Word.{limbs_of}
use Rattle.vm_isa.specs.Results.{result, alu}
use Rattle.vm_isa.specs.Words.{IsBytes}
use Rattle.air_core.specs.declared.bus.TheConstants.{XOR, RANGE}
use Rattle.air_core.specs.declared.event.Event.{Event}
use Rattle.air_core.specs.First.{bit}
use Rattle.air_core.specs.FlagLaws.{sum_none}
use Rattle.air_core.specs.Flags.{sum_from, one_hot, opcode_place}
use Rattle.air_core.specs.ListLemmas.{all_left, all_right, all_append, below_at, by_zero_test, zero_test}
use Rattle.air_core.specs.Lookups.{GoodEvent}
use Rattle.air_core.specs.Ring.{field}
use Rattle.air_core.specs.Sheet.{AllZero, sent}
use Rattle.air_core.specs.lemmas.Cells.{behind}
use Rattle.air_core.specs.lemmas.OneHot.{is_place}
use Rattle.air_core.proofs.LookupLemmas.{good_xor}
use Rattle.gadget_limbs.specs.Sign.{sign_constraints}
use Rattle.gadget_limbs.specs.SignLaws.{IsSign}
use Rattle.gadget_limbs.proofs.LimbsLaws.{bytes_below}
use Rattle.gadget_limbs.proofs.SignLaws.{sign_says, sign_meets, sign_of_word, top_byte, from_bool_small}
use Rattle.gadget_shift.specs.Shift.{shift_columns, amount_constraints, shift_lookups, left_limb, right_limb, selected, left_constraints, right_constraints, shift_filled}
use Rattle.gadget_shift.specs.Laws.{word, shifted_in, AreGood, ShiftMeets}
use Rattle.gadget_shift.proofs.ShiftHolds.{filled_holds, silent}
use Rattle.gadget_shift.proofs.ShiftSays.{looked_up, left_law, right_law}
use Rattle.adapter_regs.specs.Core.{Operands, CoreLaws, IsCoreAt, IsGoodCore, IsLookup, IsPlaced, IsResult, IsResultOf, no_operands}
use Rattle.chip_shift.specs.Shift.{sign_of, new_of, sign_fill, shift_constraints_of, shift_lookups_of, shift_core, shift_opcodes}

abbrev Zero : ℕ → Type 0
Zero x = x ≡ 0

abbrev MaySend : Event → Type 0
MaySend e = e.count ≢ 0 → GoodEvent e

-- what the row of the flag at a place writes: SRA has the sign bit come in
abbrev shifted_at : ℕ → ℕ → ℕ → ℕ → ℕ
shifted_at zero g x by = shifted_left x by
shifted_at (suc k) g x by = shifted_in g x by

-- the sign at a place
abbrev signed_at : ℕ → ℕ
signed_at k = from_bool (nat_eq k 2)

sign_in : (t : Bool) (x y : ℕ) → x + from_bool t * y ≡ (if t then x + y else x)
sign_in true x y = omega arith
sign_in false x y = omega arith

no_sign : (x y : ℕ) → x + 0 * y ≡ x
no_sign x y = omega arith

low_bits : (w : Limbs ℕ) → word w % 32 ≡ w.x0 % 32
unfolding list_of
low_bits w = omega arith

-- and that is the result of its opcode
result_is : (k g : ℕ) (b c : Limbs ℕ) → k < 3 → IsBytes (list_of b) → IsSign (signed_at k) b.x3 g → result (slice_index shift_opcodes k) (word b) (word c) ≡ shifted_at k g (word b) (c.x0 % 32)
unfolding result alu
result_is zero g b c low bb is = ap (shifted_left (word b)) (low_bits c)
result_is (suc zero) g b c low bb is = ap (shifted_right (word b)) (low_bits c) ∙ sym (ap (λ (s : ℕ). shifted_in s (word b) (c.x0 % 32)) (is.off refl) ∙ no_sign _ _)
result_is (suc (suc zero)) g b c low bb is =
    let sign : g ≡ from_bool (is_negative (word b)) = (is.on refl).1 ∙ sign_of_word b bb in
    ap (shifted_right_signed (word b)) (low_bits c) ∙ sym (ap (λ (s : ℕ). shifted_in s (word b) (c.x0 % 32)) sign ∙ sign_in (is_negative (word b)) _ _)
result_is (suc (suc (suc k))) g b c low bb is = absurd (omega arith)

-- ---- sound

record Row (flags own : List ℕ) (b : Limbs ℕ) : Type 0 where
  amount : AllZero (amount_constraints field (sum_from field 0 flags) (shift_columns field own))
  sign : AllZero (sign_constraints field (sign_of field own) (slice_index flags 2))
  left : AllZero (left_constraints field (slice_index flags 0) (shift_columns field own) b (new_of field own))
  right : AllZero (right_constraints field ((field.plus) (slice_index flags 1) (slice_index flags 2)) (sign_of field own) (shift_columns field own) b (new_of field own))

row : (flags own : List ℕ) (b : Limbs ℕ) → AllZero (shift_constraints_of field flags own b) → Row flags own b
unfolding shift_constraints_of
row flags own b h =
    let s = shift_columns field own in
    let amount = amount_constraints field (sum_from field 0 flags) s in
    let sign = sign_constraints field (sign_of field own) (slice_index flags 2) in
    let left = left_constraints field (slice_index flags 0) s b (new_of field own) in
    let h1 = all_right Zero amount _ h in
    let h2 = all_right Zero sign _ h1 in
    record { amount = all_left Zero amount _ h; sign = all_left Zero sign _ h1; left = all_left Zero left _ h2; right = all_right Zero left _ h2 }

sign_small : (k x g : ℕ) → k < 3 → x < 256 → IsSign (signed_at k) x g → g ≤ 1
sign_small zero x g low p is = omega (arith, is.off refl)
sign_small (suc zero) x g low p is = omega (arith, is.off refl)
sign_small (suc (suc zero)) x g low p is = omega (arith, (is.on refl).1, p)
sign_small (suc (suc (suc k))) x g low p is = absurd (omega arith)

first_byte : (c : Limbs ℕ) → IsBytes (list_of c) → c.x0 < 256
unfolding list_of
first_byte c h = h.0

shifted_later : (k g x by : ℕ) → (k ≡ 0 → ⊥) → shifted_at k g x by ≡ shifted_in g x by
shifted_later zero g x by other = absurd (other refl)
shifted_later (suc k) g x by other = refl

rest_long : (sign : ℕ) (new : Limbs ℕ) → length (sign ∷ list_of new) ≡ 5
unfolding list_of
rest_long sign new = refl

-- the sign and the new word, behind the columns of the shift
rest_back : (front : List ℕ) (sign : ℕ) (new : Limbs ℕ) (own : List ℕ) → length front ≡ 16 → own ≡ front ++ (sign ∷ list_of new) → (sign_of field own ≡ sign) × (new_of field own ≡ new)
unfolding list_of
rest_back front sign new own long e =
    let at : (i : ℕ) → slice_index own (16 + i) ≡ slice_index (sign ∷ list_of new) i = λ i. ap (λ (xs : List ℕ). slice_index xs (16 + i)) e ∙ behind front (sign ∷ list_of new) 16 i long in
    (at 0, rw (at 1, at 2, at 3, at 4) refl)

-- the flag at a place
record FlagAt (k : ℕ) : Type 0 where
  valid : sum_from field 0 (one_hot 3 k) ≡ 1
  signed : slice_index (one_hot 3 k) 2 ≡ signed_at k
  gate : slice_index (one_hot 3 k) 0 ≡ from_bool (nat_eq k 0)
  gates : field.plus (slice_index (one_hot 3 k) 1) (slice_index (one_hot 3 k) 2) ≡ 1 - from_bool (nat_eq k 0)

flag_at : (k : ℕ) → k < 3 → FlagAt k
flag_at zero low = record { valid = refl; signed = refl; gate = refl; gates = refl }
flag_at (suc zero) low = record { valid = refl; signed = refl; gate = refl; gates = refl }
flag_at (suc (suc zero)) low = record { valid = refl; signed = refl; gate = refl; gates = refl }
flag_at (suc (suc (suc k))) low = absurd (omega arith)

sound_at : (k : ℕ) (o : Operands ℕ) → IsCoreAt shift_core k o → AllZero (shift_constraints_of field (one_hot 3 k) o.own o.left) → AreGood (shift_lookups_of field (one_hot 3 k) o.own o.left o.right)
    → IsResult (slice_index shift_opcodes k) o (new_of field o.own)
unfolding shift_lookups_of
sound_at k o at zero_all good =
    let s = shift_columns field o.own in
    let c = o.right.x0 in
    let g = sign_of field o.own in
    let a = new_of field o.own in
    let f = flag_at k at.below in
    let r = row (one_hot 3 k) o.own o.left zero_all in
    let lines = shift_lookups field (sum_from field 0 (one_hot 3 k)) c s a in
    let looked = looked_up c o.own a (first_byte o.right at.right) at.own_below (subst (λ (v : ℕ). AllZero (amount_constraints field v s)) f.valid r.amount)
    (subst (λ (v : ℕ). AreGood (shift_lookups field v c s a)) f.valid (all_left MaySend lines _ good)) in
    let is : IsSign (signed_at k) o.left.x3 g = subst (λ (v : ℕ). IsSign v o.left.x3 g) f.signed (sign_says (slice_index (one_hot 3 k) 2) o.left.x3 g (below_at o.own 16 at.own_below) (record { zero = r.sign; good = λ n. ((all_right MaySend lines _ good).0 n).xor refl })) in
    let small = sign_small k o.left.x3 g at.below (top_byte o.left at.left) is in
    let word_is : word a ≡ shifted_at k g (word o.left) (c % 32) = elim (cases_eq k 0) [
      | inl first ↦
          let on : slice_index (one_hot 3 k) 0 ≡ 1 = f.gate ∙ rw first refl in
          rw first (left_law c s o.left a looked.shift at.left looked.bytes (subst (λ (v : ℕ). AllZero (left_constraints field v s o.left a)) on r.left))
      | inr other ↦
          let none : nat_eq k 0 ≡ false = ne_eqb k 0 other in
          let on : field.plus (slice_index (one_hot 3 k) 1) (slice_index (one_hot 3 k) 2) ≡ 1 = f.gates ∙ rw none refl in
          right_law c s o.left a looked.shift at.left looked.bytes g small (subst (λ (v : ℕ). AllZero (right_constraints field v g s o.left a)) on r.right) ∙ sym (shifted_later k g _ _ other)
    ] in
    record { bytes = looked.bytes; result_is = word_is ∙ sym (result_is k g o.left o.right at.below at.left is) }

-- ---- complete

is_sign : (k x : ℕ) → k < 3 → x < 256 → IsSign (signed_at k) x (sign_fill k x)
is_sign zero x low p = record { off = λ e. refl; on = λ e. absurd (omega arith) }
is_sign (suc zero) x low p = record { off = λ e. refl; on = λ e. absurd (omega arith) }
is_sign (suc (suc zero)) x low p = record { off = λ e. absurd (omega arith); on = λ e. (p, refl) }
is_sign (suc (suc (suc k))) x low p = absurd (omega arith)

sign_count : (k : ℕ) → signed_at k ≤ 1
sign_count k = from_bool_small (nat_eq k 2)

-- the new word under both gates
words_zero : (k : ℕ) (b a : Limbs ℕ) (c g : ℕ) (own : List ℕ) → k < 3 → g ≤ 1 → ShiftMeets (nat_eq k 0) c (shift_columns field own) b a → list_of a ≡ limbs_of (shifted_at k g (word b) (c % 32))
    → AllZero (left_constraints field (slice_index (one_hot 3 k) 0) (shift_columns field own) b a ++ right_constraints field (field.plus (slice_index (one_hot 3 k) 1) (slice_index (one_hot 3 k) 2)) g (shift_columns field own) b a)
words_zero zero b a c g own low bit m is = all_append Zero _ _ (m.to_left 1 refl is) (m.right_off g)
words_zero (suc zero) b a c g own low bit m is = all_append Zero _ _ m.left_off (m.to_right 1 g refl bit is)
words_zero (suc (suc zero)) b a c g own low bit m is = all_append Zero _ _ m.left_off (m.to_right 1 g refl bit is)
words_zero (suc (suc (suc k))) b a c g own low bit m is = absurd (omega arith)

complete_at : (k : ℕ) (o : Operands ℕ) (new : Limbs ℕ) → IsCoreAt shift_core k o → IsResultOf (slice_index shift_opcodes k) o.left o.right new
    → o.own ≡ shift_filled (nat_eq k 0) o.right.x0 o.left ++ (sign_fill k o.left.x3 ∷ list_of new) → IsGoodCore shift_core o
unfolding shift_constraints_of shift_lookups_of
complete_at k o new at is filled =
    let c = o.right.x0 in
    let b = o.left in
    let rest = sign_fill k b.x3 ∷ list_of new in
    let f = filled_holds (nat_eq k 0) c b new (first_byte o.right at.right) at.left is.bytes in
    let m : ShiftMeets (nat_eq k 0) c (shift_columns field o.own) b new = rw filled (f.meets rest) in
    let cells = rest_back (shift_filled (nat_eq k 0) c b) (sign_fill k b.x3) new o.own f.long filled in
    let flag = flag_at k at.below in
    let sign : IsSign (signed_at k) b.x3 (sign_fill k b.x3) = is_sign k b.x3 at.below (top_byte b at.left) in
    let small = sign_small k b.x3 (sign_fill k b.x3) at.below (top_byte b at.left) sign in
    let holds = sign_meets (signed_at k) b.x3 (sign_fill k b.x3) (sign_count k) sign in
    let word_is = is.is ∙ ap limbs_of (result_is k (sign_fill k b.x3) b o.right at.below at.left sign) in
    let words = words_zero k b new c (sign_fill k b.x3) o.own at.below small m word_is in
    record {
      zero = rw (at.flags, cells.0, cells.1, flag.valid, flag.signed) (all_append Zero (amount_constraints field 1 (shift_columns field o.own)) _ m.zero
          (all_append Zero (sign_constraints field (sign_fill k b.x3) (signed_at k)) _ holds.zero (rw flag.signed at words)));
      small = rw (at.flags, cells.0, cells.1, flag.valid, flag.signed) (all_append (λ e. e.count ≤ 1) (shift_lookups field 1 c (shift_columns field o.own) new) _ m.small (sign_count k, tt));
      good = rw (at.flags, cells.0, cells.1, flag.valid, flag.signed) (all_append MaySend (shift_lookups field 1 c (shift_columns field o.own) new) _ m.good (λ n. good_xor _ refl (holds.good n), tt));
    }

-- ---- the other laws

none_at : (xs : List ℕ) (i : ℕ) → AllZero xs → slice_index xs i ≡ 0
none_at [] i h = refl
none_at (x ∷ xs) zero h = h.0
none_at (x ∷ xs) (suc i) h = none_at xs i h.1

silent_row : (o : Operands ℕ) → AllZero o.flags → AllByRecursion (λ e. e.count ≡ 0) (shift_core.parts.lookups o)
unfolding shift_lookups_of
silent_row o none = all_append (λ e. e.count ≡ 0) (shift_lookups field (sum_from field 0 o.flags) o.right.x0 (shift_columns field o.own) (new_of field o.own)) _
    (silent (sum_from field 0 o.flags) o.right.x0 (shift_columns field o.own) (new_of field o.own) (sum_none o.flags none)) (none_at o.flags 2 none, tt)

zeros : AllZero (shift_core.parts.constraints (no_operands shift_core))
unfolding shift_constraints_of amount_constraints left_constraints right_constraints shift_columns list_of selected left_limb right_limb sign_constraints bit zero_test
zeros = by_zero_test (shift_core.parts.constraints (no_operands shift_core)) refl

placed : (op : ℕ) (left right new : Limbs ℕ) → list_any (nat_eq op) shift_opcodes ≡ true → IsBytes (list_of left) → IsBytes (list_of right) → IsResultOf op left right new → IsPlaced shift_core op left right new
placed op left right new own p q word =
    let place = is_place shift_opcodes op own in
    let k = opcode_place shift_opcodes op in
    let f = filled_holds (nat_eq k 0) right.x0 left new (first_byte right q) p word.bytes in
    let small = sign_small k left.x3 (sign_fill k left.x3) place.below (top_byte left p) (is_sign k left.x3 place.below (top_byte left p)) in
    record {
      below = place.below;
      opcode = place.is;
      long = omega (arith, length-append (shift_filled (nat_eq k 0) right.x0 left) (sign_fill k left.x3 ∷ list_of new), f.long, rest_long (sign_fill k left.x3) new);
      own_below = all_append (λ x. x < 2013265921) (shift_filled (nat_eq k 0) right.x0 left) _ f.below (omega (arith, small), bytes_below (list_of new) word.bytes);
    }

looks : (bus count : ℕ) (tuple : List ℕ) → 3 ≤ bus → bus ≤ 5 → IsLookup (sent bus count tuple)
looks bus count tuple low high = record { low = low; high = high; side = refl }

lookups_are : (o : Operands ℕ) → AllByRecursion IsLookup (shift_core.parts.lookups o)
unfolding shift_lookups_of shift_lookups list_of
lookups_are o =
    let r : (count : ℕ) (tuple : List ℕ) → IsLookup (sent RANGE count tuple) = λ count tuple. looks RANGE count tuple (lit≤ tt) (lit≤ tt) in
    (r _ _, (r _ _, (r _ _, (r _ _, (r _ _, (r _ _, (r _ _, (r _ _, (r _ _, (looks XOR _ _ (lit≤ tt) (lit≤ tt), tt))))))))))

lookups_few : (o : Operands ℕ) → length (shift_core.parts.lookups o) ≤ 240
unfolding shift_lookups_of shift_lookups list_of
lookups_few o = lit≤ tt

pub shift_laws : CoreLaws shift_core
shift_laws = record {
  some = lit≤ tt;
  few_flags = lit≤ tt;
  narrow = lit≤ tt;
  registers = (refl, (refl, (refl, tt)));
  products = λ e. absurd cc;
  lookups = lookups_are;
  few_lookups = lookups_few;
  silent = silent_row;
  zeros = zeros;
  sound = λ k o at zero_all good. sound_at k o at (subst (λ (fs : List ℕ). AllZero (shift_constraints_of field fs o.own o.left)) at.flags zero_all) (subst (λ (fs : List ℕ). AreGood (shift_lookups_of field fs o.own o.left o.right)) at.flags good);
  placed = placed;
  complete = λ op o new at word is filled. complete_at (opcode_place shift_opcodes op) o new at (subst (λ (n : ℕ). IsResultOf n o.left o.right new) (sym is) word) filled;
}
