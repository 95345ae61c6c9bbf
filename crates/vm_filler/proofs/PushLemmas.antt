-- Counts of a program's rows, and entries that are put behind one another.
use Rattle.std.proofs.Common.{◌≡◌, ℕ, zero, suc, ◌+◌, ◌<◌, ◌≤◌, ◌==◌, Bool, true, false, cond, nat_eq, List, [], ◌∷◌, ◌++◌, length, get_or, set, slice_index, take, Option, Some, None, Contains, append_assoc, append-nil, refl, sym, ap, ◌∙◌, subst, arith, ⊎_elim}
use Rattle.std.specs.Prelude.{position}
use Rattle.std.specs.List.{AllByRecursion}
use Rattle.std.specs.Cmp.Lexicographic.{pointwise, same_text}
use Rattle.std.proofs.lemmas.Bool.{eq-eqb, ne_eqb, cases_eq}
use Rattle.std.proofs.lemmas.List.{get_or-set_same, get_or-set_other, take_more, get_or_default}
use Rattle.std.proofs.lemmas.Option.{slice_get_read}
use Rattle.vm_isa.specs.declared.instr.VmInstr.{VmInstr}
use Rattle.vm_isa.specs.declared.record.StepRecord.{StepRecord}
use Rattle.vm_isa.specs.Instr.{numbers_of}
use Rattle.vm_trace.specs.declared.count.CountEntry.{CountEntry}
use Rattle.vm_trace.specs.declared.count.CountList.{CountList}
use Rattle.vm_trace.specs.declared.count.CountList.TheVariants.{Program, Xor, Range, ShaConst}
use Rattle.vm_trace.specs.Contents.{Contents, with_count}
use Rattle.air_core.specs.Counts.{weight, once}
use Rattle.air_core.proofs.Counting.{weight-append}
use Rattle.vm_transpile.specs.Order.{RisesFrom}
use Rattle.vm_transpile.proofs.RowOrder.{found_place}
use Rattle.vm_filler.specs.Filling.{CountsRows, with_entries}
use Rattle.acceptance.specs.Events.{fixed_row}
use Rattle.vm_filler.specs.Uses.{entries_from, entries_of}
use Rattle.vm_filler.proofs.FixedRows.{program_places, program_at}

-- ---- records of rows

pub same_itself : (xs : List ℕ) → pointwise nat_eq xs xs ≡ true
same_itself [] = refl
same_itself (x ∷ xs) = rw (eq-eqb x x refl) (same_itself xs)

once_other : (xs ys : List ℕ) (b : Bool) → pointwise nat_eq xs ys ≡ b → (xs ≡ ys → ⊥) → once b ≡ 0
once_other xs ys true e differ = absurd (differ (same_text xs ys (sym e)))
once_other xs ys false e differ = refl

weight_most : (v : StepRecord → ℕ) → ((d : StepRecord) → v d ≤ 1) → (ds : List StepRecord) → weight v ds ≤ length ds
weight_most v most [] = omega arith
weight_most v most (d ∷ ds) = omega (arith, most d, weight_most v most ds)

once_most : (b : Bool) → once b ≤ 1
once_most true = omega arith
once_most false = omega arith

-- where a record's row stands
pub record StandsAt (program : List VmInstr) (d : StepRecord) (k : ℕ) : Type 0 where
  pub at : fixed_row program 1 k ≡ Some (numbers_of d.instr)
  pub low : k < length program
  pub found : position (λ (row : VmInstr). row.pc == d.instr.pc) program ≡ Some k

pub stands_at : (program : List VmInstr) → RisesFrom 0 program → (d : StepRecord) → Contains program d.instr → (k : ℕ) × StandsAt program d k
stands_at program rises d stands = (
  stands.0,
  record {
    at = program_at program stands.0 d.instr (slice_get_read program (length program) stands.0 d.instr refl stands.1 (sym stands.2));
    low = stands.1;
    found = found_place program d.instr.pc stands.0 d.instr rises stands.1 (ap (λ (i : VmInstr). i.pc) stands.2);
  },
)

pub counted_low : (program : List VmInstr) (ds : List StepRecord) (counts : List ℕ) (d : StepRecord) (k : ℕ) → StandsAt program d k → CountsRows program ds counts → slice_index counts k ≤ length ds
counted_low program ds counts d k stands counted =
    omega (arith, counted.at k (numbers_of d.instr) stands.at, weight_most (λ e. once (pointwise nat_eq (numbers_of e.instr) (numbers_of d.instr))) (λ e. once_most (pointwise nat_eq (numbers_of e.instr) (numbers_of d.instr))) ds)

-- a record more
pub counted_record : (program : List VmInstr) → RisesFrom 0 program → (ds : List StepRecord) (counts : List ℕ) (d : StepRecord) (k n : ℕ) → StandsAt program d k → length counts ≡ length program
    → n ≡ slice_index counts k + 1 → CountsRows program ds counts → CountsRows program (ds ++ d ∷ []) (set counts k n)
counted_record program rises ds counts d k n stands size is counted = record {
  at = λ place tuple at.
      let one = program_places program rises in
      let v : StepRecord → ℕ = λ e. once (pointwise nat_eq (numbers_of e.instr) tuple) in
      let joined : weight v (ds ++ d ∷ []) ≡ weight v ds + v d = omega (arith, weight-append v ds (d ∷ [])) in
      ⊎_elim
      (λ (same : place ≡ k).
      let at_k : fixed_row program 1 k ≡ Some tuple = subst (λ (p : ℕ). fixed_row program 1 p ≡ Some tuple) same at in
      let both : ◌≡◌ {A = Option (List ℕ)} (Some (numbers_of d.instr)) (Some tuple) = sym stands.at ∙ at_k in
      let tuples : numbers_of d.instr ≡ tuple = cc in
      let mine : v d ≡ 1 = ap (λ (t : List ℕ). once (pointwise nat_eq (numbers_of d.instr) t)) (sym tuples) ∙ ap once (same_itself (numbers_of d.instr)) in
      ap (λ (p : ℕ). slice_index (set counts k n) p) same ∙ get_or-set_same counts k n 0 (omega (arith, size, stands.low)) ∙ is ∙ omega (arith, counted.at k tuple at_k, joined, mine))
      (λ (differ : place ≡ k → ⊥).
      let tuples : numbers_of d.instr ≡ tuple → ⊥ = λ e. differ (one.same place k tuple at (stands.at ∙ ap (λ (t : List ℕ). Some t) e)) in
      let none : v d ≡ 0 = once_other (numbers_of d.instr) tuple (pointwise nat_eq (numbers_of d.instr) tuple) refl tuples in
      get_or-set_other counts k place n 0 differ ∙ omega (arith, counted.at place tuple at, joined, none))
      (cases_eq place k);
}

pub record_stands : (program : List VmInstr) (done : List StepRecord) (i : ℕ) (d : StepRecord) → AllByRecursion (λ e. Contains program e.instr) done → i < length done → d ≡ get_or done i d
    → Contains program d.instr
record_stands program [] i d h low is = absurd (omega (arith, low))
record_stands program (e ∷ done) zero d h low is = subst (λ (x : StepRecord). Contains program x.instr) (sym is) h.0
record_stands program (e ∷ done) (suc i) d h low is = record_stands program done i d h.1 (omega (arith, low)) is

pub taken_more : (done : List StepRecord) (i : ℕ) (d : StepRecord) → i < length done → d ≡ get_or done i d → take (i + 1) done ≡ take i done ++ d ∷ []
taken_more done i d low is = take_more done i d low ∙ ap (λ (x : StepRecord). take i done ++ x ∷ []) (sym is)

-- ---- entries

pub entries_append : (least : ℕ) (xs ys : List ℕ) → entries_from least (xs ++ ys) ≡ entries_from least xs ++ entries_from (least + length xs) ys
entries_append least [] ys = ap (λ (n : ℕ). entries_from n ys) (omega arith)
entries_append least (n ∷ xs) ys = by_count (nat_eq n 0) (entries_append (least + 1) xs ys ∙ ap (λ (k : ℕ). entries_from (least + 1) xs ++ entries_from k ys) (omega arith))
  where
    by_count : (b : Bool) → entries_from (least + 1) (xs ++ ys) ≡ entries_from (least + 1) xs ++ entries_from (least + length (n ∷ xs)) ys
        → cond b (entries_from (least + 1) (xs ++ ys)) (record { place = least; count = n } ∷ entries_from (least + 1) (xs ++ ys))
        ≡ cond b (entries_from (least + 1) xs) (record { place = least; count = n } ∷ entries_from (least + 1) xs) ++ entries_from (least + length (n ∷ xs)) ys
    by_count true rest = rest
    by_count false rest = ap (λ (t : List CountEntry). record { place = least; count = n } ∷ t) rest

taken_count : (xs : List ℕ) (k : ℕ) → k < length xs → length (take k xs) ≡ k
taken_count [] k low = absurd (omega (arith, low))
taken_count (x ∷ xs) zero low = refl
taken_count (x ∷ xs) (suc k) low = omega (arith, taken_count xs k (omega (arith, low)))

-- the entries of a place more
pub entries_more : (counts : List ℕ) (k n : ℕ) → k < length counts → n ≡ slice_index counts k → entries_of (take (k + 1) counts) ≡ entries_of (take k counts) ++ entries_from k (n ∷ [])
entries_more counts k n low is =
    ap entries_of (take_more counts k 0 low) ∙ entries_append 0 (take k counts) (slice_index counts k ∷ [])
    ∙ ap (λ (p : ℕ). entries_of (take k counts) ++ entries_from p (slice_index counts k ∷ [])) (omega (arith, taken_count counts k low))
    ∙ ap (λ (m : ℕ). entries_of (take k counts) ++ entries_from k (m ∷ [])) (sym is)

pub entry_none : (k n : ℕ) (es : List CountEntry) → n ≡ 0 → es ++ entries_from k (n ∷ []) ≡ es
entry_none k n es none =
    let z : nat_eq n 0 ≡ true = eq-eqb n 0 none in
    rw z (append-nil es)

pub entry_some : (k n : ℕ) (es : List CountEntry) → nat_eq n 0 ≡ false → es ++ entries_from k (n ∷ []) ≡ es ++ record { place = k; count = n } ∷ []
entry_some k n es some = rw some refl

pub with_entries_more : (c : Contents) (list : CountList) (es : List CountEntry) (e : CountEntry) → with_count (with_entries c list es) list e ≡ with_entries c list (es ++ e ∷ [])
with_entries_more c Program es e = ap (λ (t : List CountEntry). record { tables = c.tables; program = t; xor = c.xor; range = c.range; constants = c.constants }) (append_assoc c.program es (e ∷ []))
with_entries_more c Xor es e = ap (λ (t : List CountEntry). record { tables = c.tables; program = c.program; xor = t; range = c.range; constants = c.constants }) (append_assoc c.xor es (e ∷ []))
with_entries_more c Range es e = ap (λ (t : List CountEntry). record { tables = c.tables; program = c.program; xor = c.xor; range = t; constants = c.constants }) (append_assoc c.range es (e ∷ []))
with_entries_more c ShaConst es e = ap (λ (t : List CountEntry). record { tables = c.tables; program = c.program; xor = c.xor; range = c.range; constants = t }) (append_assoc c.constants es (e ∷ []))

-- the entry of a place is put, or there is none
pub push_some : (c d e : Contents) (list : CountList) (counts : List ℕ) (k n : ℕ) → k < length counts → n ≡ slice_index counts k → (n ≡ 0 → ⊥) → d ≡ with_entries c list (entries_of (take k counts))
    → e ≡ with_count d list (record { place = k; count = n }) → e ≡ with_entries c list (entries_of (take (k + 1) counts))
push_some c d e list counts k n low is some before put =
    put ∙ ap (λ (t : Contents). with_count t list (record { place = k; count = n })) before ∙ with_entries_more c list (entries_of (take k counts)) (record { place = k; count = n })
    ∙ ap (with_entries c list) (sym (entries_more counts k n low is ∙ entry_some k n (entries_of (take k counts)) (ne_eqb n 0 some)))

pub push_none : (c d : Contents) (list : CountList) (counts : List ℕ) (k n : ℕ) → k < length counts → n ≡ slice_index counts k → n ≡ 0 → d ≡ with_entries c list (entries_of (take k counts))
    → d ≡ with_entries c list (entries_of (take (k + 1) counts))
push_none c d list counts k n low is none before =
    before ∙ ap (with_entries c list) (sym (entries_more counts k n low is ∙ entry_none k n (entries_of (take k counts)) none))

-- a record's row is found at its place
pub counted_at : (program : List VmInstr) → RisesFrom 0 program → (done : List StepRecord) (i : ℕ) (d : StepRecord) (counts : List ℕ) (k read : ℕ) → i < length done → d ≡ get_or done i d
    → AllByRecursion (λ e. Contains program e.instr) done → position (λ (row : VmInstr). row.pc == d.instr.pc) program ≡ Some k → length counts ≡ length program → read ≡ get_or counts k read
    → CountsRows program (take i done) counts → CountsRows program (take (i + 1) done) (set counts k (read + 1))
counted_at program rises done i d counts k read low is stand found size value counted =
    let place = stands_at program rises d (record_stands program done i d stand low is) in
    let same : place.0 ≡ k = some_place place.0 k (sym place.1.found ∙ found) in
    let stands : StandsAt program d k = subst (StandsAt program d) same place.1 in
    subst (λ (ds : List StepRecord). CountsRows program ds (set counts k (read + 1))) (sym (taken_more done i d low is))
    (counted_record program rises (take i done) counts d k (read + 1) stands size
    (ap (λ (n : ℕ). n + 1) (value ∙ get_or_default counts k read 0 (omega (arith, size, stands.low)))) counted)
  where
    some_place : (a b : ℕ) → ◌≡◌ {A = Option ℕ} (Some a) (Some b) → a ≡ b
    some_place a b h = cc

pub never_absent : (program : List VmInstr) → RisesFrom 0 program → (done : List StepRecord) (i : ℕ) (d : StepRecord) → i < length done → d ≡ get_or done i d
    → AllByRecursion (λ e. Contains program e.instr) done → position (λ (row : VmInstr). row.pc == d.instr.pc) program ≡ None → ⊥
never_absent program rises done i d low is stand none =
    let place = stands_at program rises d (record_stands program done i d stand low is) in
    let h : ◌≡◌ {A = Option ℕ} (Some place.0) None = sym place.1.found ∙ none in absurd (cc)

pub count_room : (program : List VmInstr) → RisesFrom 0 program → (done : List StepRecord) (i : ℕ) (d : StepRecord) (counts : List ℕ) (k read : ℕ) → i < length done → d ≡ get_or done i d
    → AllByRecursion (λ e. Contains program e.instr) done → position (λ (row : VmInstr). row.pc == d.instr.pc) program ≡ Some k → length counts ≡ length program → read ≡ get_or counts k read
    → CountsRows program (take i done) counts → read ≤ length (take i done)
count_room program rises done i d counts k read low is stand found size value counted =
    let place = stands_at program rises d (record_stands program done i d stand low is) in
    let same : place.0 ≡ k = some_place place.0 k (sym place.1.found ∙ found) in
    let stands : StandsAt program d k = subst (StandsAt program d) same place.1 in
    omega (arith, value ∙ get_or_default counts k read 0 (omega (arith, size, stands.low)), counted_low program (take i done) counts d k stands counted)
  where
    some_place : (a b : ℕ) → ◌≡◌ {A = Option ℕ} (Some a) (Some b) → a ≡ b
    some_place a b h = cc
