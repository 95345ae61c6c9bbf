-- Segments, one more behind others.
use Rattle.std.proofs.Common.{◌≡◌, ℕ, ◌+◌, ◌<◌, Bool, true, false, List, [], ◌∷◌, ◌++◌, map, append_assoc, append-nil, refl, sym, ap, ◌∙◌, subst, arith}
use Rattle.std.specs.Prelude.{sum}
use Rattle.std.specs.List.{AllByRecursion, fold}
use Rattle.vm_field.specs.Field.{modulus}
use Rattle.vm_trace.specs.Canonical.{IsCanonicalSegment, Shape}
use Rattle.vm_trace.specs.File.{Segment}
use Rattle.vm_trace.specs.Limits.{Limits}
use Rattle.air_core.specs.System.{System}
use Rattle.acceptance.specs.Accepts.{AreLinked, OnlyLastEnds, last_pc, last_root, steps_in}
use Rattle.acceptance.specs.Events.{valid_rows}
use Rattle.acceptance.specs.Spelled.{HintEvent, SegmentSpells, Spell}
use Rattle.vm_prover.specs.Progress.{EndsBy}

pub linked_more : (pc : ℕ) (start : List ℕ) (ss : List Segment) (s : Segment) → AreLinked pc start ss → s.pc_start ≡ last_pc pc ss → s.start_root ≡ last_root start ss → AreLinked pc start (ss ++ s ∷ [])
linked_more pc start [] s linked at root = (at, root, tt)
linked_more pc start (t ∷ ss) s linked at root = (linked.0, linked.1, linked_more t.pc_end t.end_root ss s linked.2 at root)

pub last_pc_more : (pc : ℕ) (ss : List Segment) (s : Segment) → last_pc pc (ss ++ s ∷ []) ≡ s.pc_end
last_pc_more pc [] s = refl
last_pc_more pc (t ∷ ss) s = last_pc_more t.pc_end ss s

pub last_root_more : (start : List ℕ) (ss : List Segment) (s : Segment) → last_root start (ss ++ s ∷ []) ≡ s.end_root
last_root_more start [] s = refl
last_root_more start (t ∷ ss) s = last_root_more t.end_root ss s

-- the last pc is an element of the field
pub last_pc_low : (limits : Limits) (shape : Shape) (pc : ℕ) (ss : List Segment) → pc < modulus → AllByRecursion (IsCanonicalSegment limits shape) ss → last_pc pc ss < modulus
last_pc_low limits shape pc [] low are = low
last_pc_low limits shape pc (s ∷ ss) low are = last_pc_low limits shape s.pc_end ss are.0.pc_end are.1

only_last : (ss : List Segment) (s : Segment) → AllByRecursion (λ t. t.ends ≡ false) ss → s.ends ≡ true → OnlyLastEnds (ss ++ s ∷ [])
only_last [] s none ends = ends
only_last (t ∷ []) s none ends = (none.0, ends)
only_last (t ∷ u ∷ ss) s none ends = (none.0, only_last (u ∷ ss) s none.1 ends)

none_more : (ss : List Segment) (s : Segment) → AllByRecursion (λ t. t.ends ≡ false) ss → s.ends ≡ false → AllByRecursion (λ t. t.ends ≡ false) (ss ++ s ∷ [])
none_more [] s none ends = (ends, tt)
none_more (t ∷ ss) s none ends = (none.0, none_more ss s none.1 ends)

pub ends_more : (ended : Bool) (ss : List Segment) (s : Segment) → EndsBy false ss → s.ends ≡ ended → EndsBy ended (ss ++ s ∷ [])
ends_more true ss s none ends = only_last ss s none ends
ends_more false ss s none ends = none_more ss s none ends

pub rows_more : (x : System) (ss : List Segment) (s : Segment) (lengths : List ℕ) (n : ℕ) → map (valid_rows x) ss ≡ lengths → valid_rows x s ≡ n → map (valid_rows x) (ss ++ s ∷ []) ≡ lengths ++ n ∷ []
rows_more x [] s lengths n rows more = subst (λ (ls : List ℕ). valid_rows x s ∷ [] ≡ ls ++ n ∷ []) rows (ap (λ (k : ℕ). k ∷ []) more)
rows_more x (t ∷ ss) s [] n rows more = absurd (cc)
rows_more x (t ∷ ss) s (l ∷ lengths) n rows more =
    let first : valid_rows x t ≡ l = cc in
    let rest : map (valid_rows x) ss ≡ lengths = cc in
    rw first (ap (λ (ls : List ℕ). l ∷ ls) (rows_more x ss s lengths n rest more))

fold_more : (a : ℕ) (xs : List ℕ) → fold ◌+◌ a xs ≡ a + fold ◌+◌ 0 xs
fold_more a [] = omega arith
fold_more a (x ∷ xs) = omega (arith, fold_more (a + x) xs, fold_more (0 + x) xs)

sum_first : (x : ℕ) (xs : List ℕ) → sum (x ∷ xs) ≡ x + sum xs
sum_first x xs = omega (arith, fold_more (0 + x) xs)

pub sum_more : (lengths : List ℕ) (n : ℕ) → sum (lengths ++ n ∷ []) ≡ sum lengths + n
sum_more [] n = omega arith
sum_more (l ∷ lengths) n = omega (arith, sum_first l (lengths ++ n ∷ []), sum_first l lengths, sum_more lengths n)

pub spell_more : (x : System) (ss : List Segment) (s : Segment) (a b : List HintEvent) → Spell x ss a → SegmentSpells x s b → Spell x (ss ++ s ∷ []) (a ++ b)
spell_more x [] s a b spelled more = (b, [], more, ap (λ (es : List HintEvent). es ++ b) spelled ∙ sym (append-nil b), refl)
spell_more x (t ∷ ss) s a b (here, rest, spells, is, spelled) more =
    (here, rest ++ b, spells, ap (λ (es : List HintEvent). es ++ b) is ∙ append_assoc here rest b, spell_more x ss s rest b spelled more)

-- the steps of all segments
pub steps_are_sum : (x : System) (ss : List Segment) (lengths : List ℕ) → map (valid_rows x) ss ≡ lengths → steps_in x ss ≡ sum lengths
steps_are_sum x [] lengths rows = subst (λ (ls : List ℕ). 0 ≡ sum ls) rows refl
steps_are_sum x (s ∷ ss) [] rows = absurd (cc)
steps_are_sum x (s ∷ ss) (l ∷ lengths) rows =
    let first : valid_rows x s ≡ l = cc in
    let rest : map (valid_rows x) ss ≡ lengths = cc in
    omega (arith, first, steps_are_sum x ss lengths rest, sum_first l lengths)
