-- What a record of a SHA block that fills rows is.
use Rattle.std.proofs.Common.{◌≡◌, ℕ, zero, suc, ◌+◌, ◌*◌, ◌^◌, ◌<◌, Bool, true, false, ◌&&◌, not, nat_eq, nat_lt, List, [], ◌∷◌, ◌++◌, length, map, take, drop, Some, None, refl, sym, ap, ◌∙◌, arith, if◌then◌else◌, take-append-drop, ltb-true}
use Rattle.std.specs.Prelude.{◌||◌}
use Rattle.std.specs.List.{range_with_len}
use Rattle.std.proofs.lemmas.Bool.{eqb-true}
use Rattle.std.proofs.lemmas.List.{length-take-le, length-drop, length-map, map-append}
use Rattle.vm_word.specs.Arithmetic.{word_sum}
use Rattle.vm_isa.specs.declared.instr.VmInstr.{VmInstr}
use Rattle.vm_isa.specs.declared.access.TimedAccess.{TimedAccess}
use Rattle.vm_isa.specs.declared.record.StepRecord.{StepRecord}
use Rattle.vm_isa.specs.Means.{Accessed, Meaning, Placed, accessed_by, bars_first, bars_second, is_refused, means_of, memory, memory_from, new_at, next_of, placed, placed_at, places_of, sha_places, word_at, is_high, Fillable}
use Rattle.gadget_bits.specs.Record.{old_of}
use Rattle.gadget_bits.proofs.ShaMeans.{accessed_both, next_sha, places_are}

-- the meaning

record Found (refused same : Bool) (m meaning : Meaning) : Type 0 where
  goes : refused ≡ false
  fits : same ≡ true
  is : m ≡ meaning

found : (refused same : Bool) (m meaning : Meaning) → (if not refused && same then Some m else None) ≡ Some meaning → Found refused same m meaning
found true same m meaning h = absurd (cc)
found false true m meaning h = record { goes = refl; fits = refl; is = cc }
found false false m meaning h = absurd (cc)

-- both words are low
low_by : (b c n : ℕ) (high_b high_c : Bool) → is_high b ≡ high_b → is_high c ≡ high_c → ((high_b && nat_lt 0 26) || (high_c && nat_lt 1 26)) ≡ false → (is_high b ≡ false) × (is_high c ≡ false)
low_by b c n true high_c eb ec h = absurd (cc)
low_by b c n false true eb ec h = absurd (cc)
low_by b c n false false eb ec h = (eb, ec)

not_high_by : (b : ℕ) (low : Bool) → nat_lt b 536870912 ≡ low → not low ≡ false → b < 2 ^ 29
not_high_by b true e h = ltb-true b 536870912 e
not_high_by b false e h = absurd (cc)

not_high : (b : ℕ) → is_high b ≡ false → b < 2 ^ 29
not_high b h = not_high_by b (nat_lt b 536870912) refl h

lows : (i : VmInstr) (olds : List (List ℕ)) → i.op ≡ 40 → length olds ≡ 26 → is_refused i olds ≡ false → (word_at olds 0 < 2 ^ 29) × (word_at olds 1 < 2 ^ 29)
unfolding is_refused bars_first bars_second
lows i olds op long h =
    let at : ((is_high (word_at olds 0) && nat_lt 0 26) || (is_high (word_at olds 1) && nat_lt 1 26)) ≡ false = rw (op, long) at h in
    let both = low_by (word_at olds 0) (word_at olds 1) 0 (is_high (word_at olds 0)) (is_high (word_at olds 1)) refl refl at in
    (not_high (word_at olds 0) both.0, not_high (word_at olds 1) both.1)

pub record ShaMeans (i : VmInstr) (olds : List (List ℕ)) (given : List ℕ) (meaning : Meaning) : Type 0 where
  pub long : length olds ≡ 26
  pub base : word_at olds 0 < 2 ^ 29
  pub block : word_at olds 1 < 2 ^ 29
  pub accesses : meaning.accesses ≡ accessed_by (new_at i olds given) (sha_places i (word_at olds 0) (word_at olds 1)) olds
  pub next : meaning.next ≡ word_sum i.pc 4

pub sha_means : (i : VmInstr) (olds : List (List ℕ)) (given : List ℕ) (meaning : Meaning) → i.op ≡ 40 → means_of i olds given ≡ Some meaning → ShaMeans i olds given meaning
unfolding means_of
sha_means i olds given meaning op h =
    let f = found (is_refused i olds) (nat_eq (length olds) (length (places_of i olds))) (record { accesses = accessed_by (new_at i olds given) (places_of i olds) olds; next = next_of i olds }) meaning h in
    let places = places_are i (word_at olds 0) (word_at olds 1) op in
    let long : length olds ≡ 26 = eqb-true (length olds) (length (places_of i olds)) f.fits ∙ ap length places in
    let low = lows i olds op long f.goes in
    record {
      long = long;
      base = low.0;
      block = low.1;
      accesses = sym (ap (λ (m : Meaning). m.accesses) f.is) ∙ ap (λ ps. accessed_by (new_at i olds given) ps olds) places;
      next = sym (ap (λ (m : Meaning). m.next) f.is) ∙ next_sha i olds op;
    }

-- the accesses, one after another

pub parts_same : {X : Type 0} (us vs xs ys : List X) → us ++ xs ≡ vs ++ ys → length us ≡ length vs → (us ≡ vs) × (xs ≡ ys)
parts_same [] [] xs ys h long = (refl, h)
parts_same [] (v ∷ vs) xs ys h long = absurd (omega (arith, long))
parts_same (u ∷ us) [] xs ys h long = absurd (omega (arith, long))
parts_same {X = X} (u ∷ us) (v ∷ vs) xs ys h long =
    let head : u ≡ v = cc in
    let tail : us ++ xs ≡ vs ++ ys = cc in
    let rest = parts_same us vs xs ys tail (omega (arith, long)) in
    ((λ i. head i ∷ rest.0 i), rest.1)

-- two reads of registers, sixteen reads, and eight writes
pub record Split (accesses : List TimedAccess) : Type 0 where
  pub first : TimedAccess
  pub second : TimedAccess
  pub reads : List TimedAccess
  pub writes : List TimedAccess
  pub are : accesses ≡ first ∷ second ∷ (reads ++ writes)
  pub sixteen : length reads ≡ 16
  pub eight : length writes ≡ 8

pub split : (accesses : List TimedAccess) → length accesses ≡ 26 → Split accesses
split [] long = absurd (omega (arith, long))
split (a ∷ []) long = absurd (omega (arith, long))
split (a ∷ b ∷ rest) long = record {
  first = a;
  second = b;
  reads = take 16 rest;
  writes = drop 16 rest;
  are = ap (λ (xs : List TimedAccess). a ∷ b ∷ xs) (sym (take-append-drop 16 rest));
  sixteen = length-take-le 16 rest (omega (arith, long));
  eight = omega (arith, long, length-drop 16 rest);
}

length_accessed : (new : ℕ → List ℕ → List ℕ) (first b a n : ℕ) (xs : List (List ℕ)) → length xs ≡ n
    → length (accessed_by new (map (λ j. memory (first + j) (word_sum b (4 * j))) (range_with_len a n)) xs) ≡ n
unfolding accessed_by
length_accessed new first b a n [] long = rw (← long) refl
length_accessed new first b a zero (x ∷ xs) long = absurd (omega (arith, long))
length_accessed new first b a (suc n) (x ∷ xs) long = ap (λ (k : ℕ). suc k) (length_accessed new first b (a + 1) n xs (omega (arith, long))) ∙ omega arith

-- one access of a record is this one
pub record PlacedAs (a : TimedAccess) (time slot space pointer : ℕ) (new : List ℕ) : Type 0 where
  pub time_is : a.time ≡ time + slot
  pub space_is : a.access.space ≡ space
  pub pointer_is : a.access.pointer ≡ pointer
  pub new_is : a.access.new ≡ new

placed_as : (a : TimedAccess) (time : ℕ) (x : Accessed) → placed a ≡ placed_at time x → PlacedAs a time x.slot x.space x.pointer x.new
placed_as a time x e = record {
  time_is = ap (λ (p : Placed). p.time) e;
  space_is = ap (λ (p : Placed). p.space) e;
  pointer_is = ap (λ (p : Placed). p.pointer) e;
  new_is = ap (λ (p : Placed). p.new) e;
}

-- accesses of words one after another
abbrev pub AllPlaced : (new : ℕ → List ℕ → List ℕ) (time first b a : ℕ) → List TimedAccess → Type 0
AllPlaced new time first b a [] = Unit {0}
AllPlaced new time first b a (x ∷ xs) = PlacedAs x time (first + a) 2 (word_sum b (4 * a)) (new (first + a) x.access.old) × AllPlaced new time first b (a + 1) xs

all_placed : (new : ℕ → List ℕ → List ℕ) (time first b a n : ℕ) (xs : List TimedAccess) → length xs ≡ n
    → map placed xs ≡ map (placed_at time) (accessed_by new (map (λ j. memory (first + j) (word_sum b (4 * j))) (range_with_len a n)) (map old_of xs)) → AllPlaced new time first b a xs
unfolding accessed_by
all_placed new time first b a n [] long h = tt
all_placed new time first b a zero (x ∷ xs) long h = absurd (omega (arith, long))
all_placed new time first b a (suc n) (x ∷ xs) long h =
    let here : Accessed = record { slot = first + a; space = 2; pointer = word_sum b (4 * a); old = x.access.old; new = new (first + a) x.access.old } in
    let head : placed x ≡ placed_at time here = cc in
    let tail : map placed xs ≡ map (placed_at time) (accessed_by new (map (λ j. memory (first + j) (word_sum b (4 * j))) (range_with_len (a + 1) n)) (map old_of xs)) = cc in
    (placed_as x time here head, all_placed new time first b (a + 1) n xs (omega (arith, long)) tail)

-- all of a record

pub record Shape (done : StepRecord) (given : List ℕ) : Type 0 where
  pub olds_long : length (map old_of done.accesses) ≡ 26
  pub parts : Split done.accesses
  pub base : word_at (map old_of done.accesses) 0 < 2 ^ 29
  pub block : word_at (map old_of done.accesses) 1 < 2 ^ 29
  pub next : done.next ≡ word_sum done.instr.pc 4
  pub first_is : PlacedAs parts.first done.time 0 1 (4 * done.instr.rd) (new_at done.instr (map old_of done.accesses) given 0 parts.first.access.old)
  pub second_is : PlacedAs parts.second done.time 1 1 (4 * done.instr.rs1) (new_at done.instr (map old_of done.accesses) given 1 parts.second.access.old)
  pub reads_are : AllPlaced (new_at done.instr (map old_of done.accesses) given) done.time 2 (word_at (map old_of done.accesses) 1) 0 parts.reads
  pub writes_are : AllPlaced (new_at done.instr (map old_of done.accesses) given) done.time 18 (word_at (map old_of done.accesses) 0) 0 parts.writes

pub shape : (bits : ℕ) (done : StepRecord) (f : Fillable bits done) → done.instr.op ≡ 40 → Shape done f.given
unfolding accessed_by
shape bits done f op =
    let i = done.instr in
    let olds : List (List ℕ) = map old_of done.accesses in
    let m = sha_means i olds f.given f.meaning op f.means in
    let new = new_at i olds f.given in
    let b : ℕ = word_at olds 0 in
    let c : ℕ = word_at olds 1 in
    let p = split done.accesses (omega (arith, m.long, length-map done.accesses old_of)) in
    let rest : List (List ℕ) = map old_of p.reads ++ map old_of p.writes in
    let olds_are : olds ≡ p.first.access.old ∷ p.second.access.old ∷ rest
    = ap (map old_of) p.are ∙ ap (λ (xs : List (List ℕ)). p.first.access.old ∷ p.second.access.old ∷ xs) (map-append old_of p.reads p.writes) in
    let one : Accessed = record { slot = 0; space = 1; pointer = 4 * i.rd; old = p.first.access.old; new = new 0 p.first.access.old } in
    let two : Accessed = record { slot = 1; space = 1; pointer = 4 * i.rs1; old = p.second.access.old; new = new 1 p.second.access.old } in
    let reads : List Accessed = accessed_by new (memory_from 2 c 16) (map old_of p.reads) in
    let writes : List Accessed = accessed_by new (memory_from 18 b 8) (map old_of p.writes) in
    let sixteen : length (map old_of p.reads) ≡ 16 = omega (arith, length-map p.reads old_of, p.sixteen) in
    let eight : length (map old_of p.writes) ≡ 8 = omega (arith, length-map p.writes old_of, p.eight) in
    let accessed_is : accessed_by new (sha_places i b c) olds ≡ one ∷ two ∷ (reads ++ writes)
    = ap (λ (xs : List (List ℕ)). accessed_by new (sha_places i b c) xs) olds_are
    ∙ ap (λ (xs : List Accessed). one ∷ two ∷ xs) (accessed_both new 2 c 18 b 8 0 16 (map old_of p.reads) (map old_of p.writes) sixteen) in
    let whole : placed p.first ∷ placed p.second ∷ (map placed p.reads ++ map placed p.writes)
    ≡ placed_at done.time one ∷ placed_at done.time two ∷ (map (placed_at done.time) reads ++ map (placed_at done.time) writes)
    = ap (λ (xs : List Placed). placed p.first ∷ placed p.second ∷ xs) (sym (map-append placed p.reads p.writes)) ∙ sym (ap (map placed) p.are) ∙ f.accesses ∙ ap (map (placed_at done.time)) (m.accesses ∙ accessed_is)
    ∙ ap (λ (xs : List Placed). placed_at done.time one ∷ placed_at done.time two ∷ xs) (map-append (placed_at done.time) reads writes) in
    let head : placed p.first ≡ placed_at done.time one = cc in
    let neck : placed p.second ≡ placed_at done.time two = cc in
    let tail : map placed p.reads ++ map placed p.writes ≡ map (placed_at done.time) reads ++ map (placed_at done.time) writes = cc in
    let long : length (map placed p.reads) ≡ length (map (placed_at done.time) reads)
    = omega (arith, length-map p.reads placed, length-map reads (placed_at done.time), p.sixteen, length_accessed new 2 c 0 16 (map old_of p.reads) sixteen) in
    let both = parts_same (map placed p.reads) (map (placed_at done.time) reads) (map placed p.writes) (map (placed_at done.time) writes) tail long in
    record {
      olds_long = m.long;
      parts = p;
      base = m.base;
      block = m.block;
      next = f.next ∙ m.next;
      first_is = placed_as p.first done.time one head;
      second_is = placed_as p.second done.time two neck;
      reads_are = all_placed new done.time 2 c 0 16 p.reads p.sixteen both.0;
      writes_are = all_placed new done.time 18 b 0 8 p.writes p.eight both.1;
    }
