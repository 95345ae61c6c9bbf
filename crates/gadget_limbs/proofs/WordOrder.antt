-- LT of words: what its columns say, and those that are filled.
use Rattle.std.proofs.Common.{◌≡◌, ℕ, ◌≤◌, Bool, true, false, List, length, refl, ap, ◌∙◌, arith, lit≤}
use Rattle.std.specs.Int.{from_bool}
use Rattle.vm_field.specs.declared.limbs.Limbs.{Limbs}
use Rattle.vm_field.specs.Limbs.{list_of}
use Rattle.vm_word.specs.Word.{word_of_limbs}
use Rattle.vm_isa.specs.Words.{IsBytes}
use Rattle.air_core.specs.ListLemmas.{below_at}
use Rattle.air_core.specs.Ring.{field, cell}
use Rattle.air_core.specs.Sheet.{AllBelow}
use Rattle.air_core.specs.lemmas.Cells.{cells_below}
use Rattle.gadget_limbs.specs.Less.{less_columns, less_cells, less_ranges, less_filled, marks_of}
use Rattle.gadget_limbs.specs.OrderLaws.{AreDigits, LessBelow, LessMeets, digits_of, word_less}
use Rattle.gadget_limbs.proofs.Ordering.{less_law}
use Rattle.gadget_limbs.proofs.OrderFilled.{less_holds}
use Rattle.gadget_limbs.proofs.OrderedWords.{words_are_ordered}

are_digits : (w : Limbs ℕ) → IsBytes (list_of w) → AreDigits (digits_of w)
unfolding list_of
are_digits w h = record { low = (h.0, (h.1.0, (h.1.1.0, tt))); top = h.1.1.1.0 }

are_below : (x : Limbs ℕ) (own : List ℕ) → AllBelow own → LessBelow (digits_of x) (less_columns 4 0 (cell field own))
are_below x own h = record {
  long = refl;
  left_top = below_at own 0 h;
  right_top = below_at own 1 h;
  marks = cells_below own h 2 4;
  less = below_at own 7 h;
}

bool_small : (b : Bool) → from_bool b ≤ 1
bool_small true = lit≤ tt
bool_small false = lit≤ tt

-- columns that meet LT say which word is below the other
pub word_order : (signed : Bool) (x y : Limbs ℕ) (own : List ℕ) → IsBytes (list_of x) → IsBytes (list_of y) → AllBelow own → LessMeets (from_bool signed) (digits_of x) (digits_of y) (less_columns 4 0 (cell field own))
    → cell field own 7 ≡ from_bool (word_less signed (word_of_limbs (list_of x)) (word_of_limbs (list_of y)))
word_order signed x y own p q below meets =
    less_law (from_bool signed) (digits_of x) (digits_of y) (less_columns 4 0 (cell field own)) (bool_small signed) (are_digits x p) (are_digits y q) refl (lit≤ tt) (are_below x own below) meets
    ∙ ap from_bool (words_are_ordered signed x y p q)

-- the columns that two words fill
abbrev pub filled_cells : ℕ → Limbs ℕ → Limbs ℕ → List ℕ
filled_cells signed x y = less_cells (less_filled signed (digits_of x) (digits_of y))

pub record FilledOrder (signed : ℕ) (x y : Limbs ℕ) : Type 0 where
  pub long : length (filled_cells signed x y) ≡ 8
  pub below : AllBelow (filled_cells signed x y)
  pub meets : LessMeets signed (digits_of x) (digits_of y) (less_columns 4 0 (cell field (filled_cells signed x y)))

pub filled_order : (signed : ℕ) (x y : Limbs ℕ) → signed ≤ 1 → IsBytes (list_of x) → IsBytes (list_of y) → FilledOrder signed x y
unfolding less_filled marks_of less_ranges
filled_order signed x y small p q =
    let both = less_holds signed (digits_of x) (digits_of y) small (are_digits x p) (are_digits y q) refl in
    let below = both.0 in
    record {
      long = refl;
      below = (below.left_top, (below.right_top, (below.marks.0, (below.marks.1.0, (below.marks.1.1.0, (below.marks.1.1.1.0, (omega (arith, both.1.ranges.1.1.0), (below.less, tt))))))));
      meets = both.1;
    }
