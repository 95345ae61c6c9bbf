-- From columns to the row and back.
use Rattle.std.proofs.Common.{◌≡◌, ℕ, zero, suc, ◌+◌, ◌*◌, List, [], ◌∷◌, ◌++◌, length, map, drop, flat_map, slice_index, refl, sym, ap, ◌∙◌, arith, append_assoc, length-append, append-nil}
use Rattle.std.specs.List.{range_with_len}
use Rattle.std.proofs.lemmas.List.{drop-drop, get_or-drop}
use Rattle.vm_field.specs.declared.limbs.Limbs.{Limbs}
use Rattle.vm_field.specs.Limbs.{limbs_by, list_of}
use Rattle.gadget_time.specs.declared.touch.Gap.{Gap}
use Rattle.gadget_bits.specs.declared.halves.Halves.{Halves}
use Rattle.gadget_bits.specs.Bits.{halves_at}
use Rattle.gadget_bits.specs.Stage.{cells_of, halves_cells}
use Rattle.gadget_time.specs.Access.{gap_by, gap_cells}
use Rattle.chip_sha_main.specs.Main.{MainRow, Long, main_row}
use Rattle.chip_sha_main.specs.Sheet.{cells_of_main}
use Rattle.chip_sha_main.specs.lemmas.Means.{drop_first}

-- things of some columns each, one after another

-- how a thing is read from a place, and its columns
record Reads (X : Type 0) (size : ℕ) (read : List ℕ → ℕ → X) (write : X → List ℕ) : Type 1 where
  from : (row : List ℕ) (at : ℕ) → read row at ≡ read (drop at row) 0
  back : (x : X) (rest : List ℕ) → read (write x ++ rest) 0 ≡ x
  long : (x : X) → length (write x) ≡ size

module _ {X : Type 0} (size : ℕ) (read : List ℕ → ℕ → X) (write : X → List ℕ) (r : Reads X size read write) where
  chunks : (row : List ℕ) (at a n : ℕ) (xs : List X) (rest : List ℕ) → drop (at + size * a) row ≡ flat_map write xs ++ rest → length xs ≡ n
      → map (λ i. read row (at + size * i)) (range_with_len a n) ≡ xs
  chunks row at a n [] rest e long = rw (← long) refl
  chunks row at a zero (x ∷ xs) rest e long = absurd (omega (arith, long))
  chunks row at a (suc n) (x ∷ xs) rest e long =
      let here : drop (at + size * a) row ≡ write x ++ (flat_map write xs ++ rest) = e ∙ append_assoc (write x) (flat_map write xs) rest in
      let head : read row (at + size * a) ≡ x = r.from row (at + size * a) ∙ ap (λ (zs : List ℕ). read zs 0) here ∙ r.back x (flat_map write xs ++ rest) in
      let place : at + size * a + size ≡ at + size * (a + 1) = omega arith in
      let next : drop (at + size * (a + 1)) row ≡ flat_map write xs ++ rest
      = ap (λ (k : ℕ). drop k row) (sym place) ∙ sym (drop-drop size (at + size * a) row) ∙ ap (drop size) here ∙ drop_first size (write x) (flat_map write xs ++ rest) (r.long x) in
      let tail = chunks row at (a + 1) n xs rest next (omega (arith, long)) in
      λ i. head i ∷ tail i

  length_chunks : (xs : List X) → length (flat_map write xs) ≡ size * length xs
  length_chunks [] = omega arith
  length_chunks (x ∷ xs) = omega (arith, length-append (write x) (flat_map write xs), r.long x, length_chunks xs)

abbrev limbs_in : List ℕ → ℕ → Limbs ℕ
limbs_in row at = limbs_by (slice_index row) at

abbrev halves_in : List ℕ → ℕ → Halves ℕ
halves_in row at = halves_at (slice_index row) at

abbrev gap_in : List ℕ → ℕ → Gap ℕ
gap_in row at = gap_by (slice_index row) at

limbs_from_drop : (row : List ℕ) (at : ℕ) → limbs_in row at ≡ limbs_in (drop at row) 0
limbs_from_drop row at =
    let e0 : slice_index row at ≡ slice_index (drop at row) 0 = ap (slice_index row) (omega arith) ∙ sym (get_or-drop at row 0 0) in
    let e1 = sym (get_or-drop at row 1 0) in
    let e2 = sym (get_or-drop at row 2 0) in
    let e3 = sym (get_or-drop at row 3 0) in
    λ i. record { x0 = e0 i; x1 = e1 i; x2 = e2 i; x3 = e3 i }

limbs_reads : Reads (Limbs ℕ) 4 limbs_in list_of
unfolding list_of
limbs_reads = record { from = limbs_from_drop; back = λ x rest. refl; long = λ x. refl }

halves_from_drop : (row : List ℕ) (at : ℕ) → halves_in row at ≡ halves_in (drop at row) 0
unfolding halves_at
halves_from_drop row at =
    let e0 : slice_index row at ≡ slice_index (drop at row) 0 = ap (slice_index row) (omega arith) ∙ sym (get_or-drop at row 0 0) in
    let e1 = sym (get_or-drop at row 1 0) in
    λ i. record { lo = e0 i; hi = e1 i }

halves_reads : Reads (Halves ℕ) 2 halves_in cells_of
unfolding halves_at
halves_reads = record { from = halves_from_drop; back = λ x rest. refl; long = λ x. refl }

gap_from_drop : (row : List ℕ) (at : ℕ) → gap_in row at ≡ gap_in (drop at row) 0
gap_from_drop row at =
    let e0 : slice_index row at ≡ slice_index (drop at row) 0 = ap (slice_index row) (omega arith) ∙ sym (get_or-drop at row 0 0) in
    let e1 = sym (get_or-drop at row 1 0) in
    let e2 = sym (get_or-drop at row 2 0) in
    λ i. record { before = e0 i; lo = e1 i; hi = e2 i }

gap_reads : Reads (Gap ℕ) 3 gap_in gap_cells
gap_reads = record { from = gap_from_drop; back = λ x rest. refl; long = λ x. refl }

-- the row

-- what stands behind a part
past : {X : Type 0} (size : ℕ) (read : List ℕ → ℕ → X) (write : X → List ℕ) → Reads X size read write → (row : List ℕ) (at next : ℕ) (xs : List X) (rest : List ℕ)
    → drop at row ≡ flat_map write xs ++ rest → next ≡ at + size * length xs → drop next row ≡ rest
past size read write r row at next xs rest e place =
    ap (λ (k : ℕ). drop k row) place ∙ sym (drop-drop (size * length xs) at row) ∙ ap (drop (size * length xs)) e ∙ drop_first (size * length xs) (flat_map write xs) rest (length_chunks size read write r xs)

-- a part that begins at a place
part : {X : Type 0} (size : ℕ) (read : List ℕ → ℕ → X) (write : X → List ℕ) → Reads X size read write → (row : List ℕ) (at n : ℕ) (xs : List X) (rest : List ℕ)
    → drop at row ≡ flat_map write xs ++ rest → length xs ≡ n → map (λ i. read row (at + size * i)) (range_with_len 0 n) ≡ xs
part size read write r row at n xs rest e long =
    let begin : at + size * 0 ≡ at = omega arith in
    chunks size read write r row at 0 n xs rest (ap (λ (k : ℕ). drop k row) begin ∙ e) long

pub main_back : (r : MainRow ℕ) → Long r → main_row r.pc r.time r.flag (slice_index (cells_of_main r)) ≡ r
unfolding main_row cells_of_main list_of
main_back r l =
    let row = cells_of_main r in
    let w = flat_map gap_cells r.writes in
    let g = gap_cells r.first ++ (gap_cells r.second ++ (flat_map gap_cells r.reads ++ w)) in
    let z = halves_cells r.rest ++ g in
    let f = halves_cells r.working ++ z in
    let y = flat_map list_of r.new ++ f in
    let x = flat_map list_of r.old ++ y in
    let d10 : drop 10 row ≡ flat_map list_of r.message ++ x = refl in
    let d74 : drop 74 row ≡ x = past 4 limbs_in list_of limbs_reads row 10 74 r.message x d10 (omega (arith, l.message)) in
    let d106 : drop 106 row ≡ y = past 4 limbs_in list_of limbs_reads row 74 106 r.old y d74 (omega (arith, l.old)) in
    let d138 : drop 138 row ≡ f = past 4 limbs_in list_of limbs_reads row 106 138 r.new f d106 (omega (arith, l.new)) in
    let d154 : drop 154 row ≡ z = past 2 halves_in cells_of halves_reads row 138 154 r.working z d138 (omega (arith, l.working)) in
    let d186 : drop 186 row ≡ g = past 2 halves_in cells_of halves_reads row 154 186 r.rest g d154 (omega (arith, l.rest)) in
    let d189 : drop 189 row ≡ gap_cells r.second ++ (flat_map gap_cells r.reads ++ w) = sym (drop-drop 3 186 row) ∙ ap (drop 3) d186 in
    let d192 : drop 192 row ≡ flat_map gap_cells r.reads ++ w = sym (drop-drop 6 186 row) ∙ ap (drop 6) d186 in
    let d240 : drop 240 row ≡ w = past 3 gap_in gap_cells gap_reads row 192 240 r.reads w d192 (omega (arith, l.reads)) in
    let message = part 4 limbs_in list_of limbs_reads row 10 16 r.message x d10 l.message in
    let old = part 4 limbs_in list_of limbs_reads row 74 8 r.old y d74 l.old in
    let new = part 4 limbs_in list_of limbs_reads row 106 8 r.new f d106 l.new in
    let working = part 2 halves_in cells_of halves_reads row 138 8 r.working z d138 l.working in
    let rest = part 2 halves_in cells_of halves_reads row 154 16 r.rest g d154 l.rest in
    let first : gap_in row 186 ≡ r.first = gap_from_drop row 186 ∙ ap (λ (zs : List ℕ). gap_in zs 0) d186 ∙ gap_reads.back r.first (gap_cells r.second ++ (flat_map gap_cells r.reads ++ w)) in
    let second : gap_in row 189 ≡ r.second = gap_from_drop row 189 ∙ ap (λ (zs : List ℕ). gap_in zs 0) d189 ∙ gap_reads.back r.second (flat_map gap_cells r.reads ++ w) in
    let reads = part 3 gap_in gap_cells gap_reads row 192 16 r.reads w d192 l.reads in
    let writes = part 3 gap_in gap_cells gap_reads row 240 8 r.writes [] (d240 ∙ sym (append-nil w)) l.writes in
    λ i. record {
      pc = r.pc;
      time = r.time;
      flag = r.flag;
      rd = r.rd;
      rs1 = r.rs1;
      base = r.base;
      block = r.block;
      message = message i;
      old = old i;
      new = new i;
      working = working i;
      rest = rest i;
      first = first i;
      second = second i;
      reads = reads i;
      writes = writes i;
    }

pub main_wide : (r : MainRow ℕ) → Long r → length (cells_of_main r) ≡ 264
unfolding cells_of_main list_of
main_wide r l =
    let w = flat_map gap_cells r.writes in
    let g = gap_cells r.first ++ (gap_cells r.second ++ (flat_map gap_cells r.reads ++ w)) in
    let z = halves_cells r.rest ++ g in
    let f = halves_cells r.working ++ z in
    let y = flat_map list_of r.new ++ f in
    let x = flat_map list_of r.old ++ y in
    omega (
      arith,
      length-append (flat_map list_of r.message) x,
      length-append (flat_map list_of r.old) y,
      length-append (flat_map list_of r.new) f,
      length-append (halves_cells r.working) z,
      length-append (halves_cells r.rest) g,
      length-append (flat_map gap_cells r.reads) w,
      length_chunks 4 limbs_in list_of limbs_reads r.message,
      length_chunks 4 limbs_in list_of limbs_reads r.old,
      length_chunks 4 limbs_in list_of limbs_reads r.new,
      length_chunks 2 halves_in cells_of halves_reads r.working,
      length_chunks 2 halves_in cells_of halves_reads r.rest,
      length_chunks 3 gap_in gap_cells gap_reads r.reads,
      length_chunks 3 gap_in gap_cells gap_reads r.writes,
      l.message,
      l.old,
      l.new,
      l.working,
      l.rest,
      l.reads,
      l.writes,
    )
