-- The hints that records take.
use Rattle.std.proofs.Common.{◌≡◌, ℕ, ◌%◌, Bool, true, false, nat_eq, List, [], ◌∷◌, ◌++◌, length, map, take, drop, append-nil, refl, sym, ap, ◌∙◌, subst, arith}
use Rattle.std.specs.Prelude.{slice_index_or, if◌then◌else◌}
use Rattle.std.proofs.lemmas.Bool.Decides.{nat_tests}
use Rattle.std.proofs.lemmas.Grind.{flat_map-append}
use Rattle.std.proofs.lemmas.List.{take-append-drop}
use Rattle.vm_isa.specs.declared.access.TimedAccess.{TimedAccess}
use Rattle.vm_isa.specs.declared.instr.VmInstr.{VmInstr}
use Rattle.vm_isa.specs.declared.record.StepRecord.{StepRecord}
use Rattle.vm_isa.specs.Hints.{hints_used, next_hint}
use Rattle.vm_isa.specs.Means.{Accessed, Placed, Meaning, placed, placed_at, places_by, accessed_by, new_at, word_at}
use Rattle.vm_isa.specs.Words.{IsBytes}
use Rattle.vm_isa.proofs.MeansLaws.{whole}
use Rattle.vm_isa.proofs.NextLaws.{meant}
use Rattle.vm_transpile.proofs.Kept.{all_take, all_drop}
use Rattle.vm_executor.proofs.StepLemmas.{placed_same}
use Rattle.vm_executor.specs.Machine.{Machine, Goes}
use Rattle.acceptance.specs.Spelled.{HintEvent, Word, hints_before, low_byte}
use Rattle.acceptance.proofs.Hints.{hint_places}
use Rattle.acceptance.proofs.Whole.{before_joined}
use Rattle.vm_filler.specs.Hints.{word_left, hint_of, hints_of}

-- the low bytes of bytes
low_same : (xs : List ℕ) → IsBytes xs → map low_byte xs ≡ xs
low_same [] h = refl
low_same (x ∷ xs) h = let first : x % 256 ≡ x = omega (arith, h.0) in rw (first, low_same xs h.1) refl

-- ---- the word of a HINT

-- accesses at their places have the words of their meaning
new_words : (time : ℕ) (xs : List TimedAccess) (ys : List Accessed) → map placed xs ≡ map (placed_at time) ys → map (λ a. a.access.new) xs ≡ map (λ a. a.new) ys
new_words time [] [] same = refl
new_words time [] (b ∷ ys) same = absurd (cc)
new_words time (a ∷ xs) [] same = absurd (cc)
new_words time (a ∷ xs) (b ∷ ys) same =
    let both = placed_same (placed a) (placed_at time b) (map placed xs) (map (placed_at time) ys) same in
    let first : a.access.new ≡ b.new = ap (λ (p : Placed). p.new) both.0 in
    rw first (ap (λ (words : List (List ℕ)). b.new ∷ words) (new_words time xs ys both.1))

hint_news : (i : VmInstr) (x y : List ℕ) (given : List ℕ) → i.op ≡ 37 → map (λ a. a.new) ((whole i (x ∷ y ∷ []) given).accesses) ≡ x ∷ given ∷ []
unfolding places_by accessed_by new_at
hint_news i x y given h = rw h refl

-- its second new word is what the host gave
second_given : (i : VmInstr) (olds : List (List ℕ)) (given : List ℕ) → i.op ≡ 37 → length olds ≡ 2 → slice_index_or (map (λ a. a.new) ((whole i olds given).accesses)) 1 [] ≡ given
second_given i [] given h two = absurd (omega (arith, two))
second_given i (x ∷ []) given h two = absurd (omega (arith, two))
second_given i (x ∷ y ∷ []) given h two = ap (λ (words : List (List ℕ)). slice_index_or words 1 []) (hint_news i x y given h)
second_given i (x ∷ y ∷ z ∷ more) given h two = absurd (omega (arith, two))

word_given : (program : List VmInstr) (s t : Machine) (d : StepRecord) → Goes program s t d → d.instr.op ≡ 37 → word_left d 1 ≡ take 4 s.hints
word_given program s t d goes h =
    let olds = map (λ a. a.access.old) d.accesses in
    let m = meant d.instr olds (next_hint s.hints) goes.meaning goes.means in
    let two : length olds ≡ 2 = m.long ∙ hint_places d.instr (word_at olds 0) (word_at olds 1) h in
    ap (λ (words : List (List ℕ)). slice_index_or words 1 []) (new_words d.time d.accesses goes.meaning.accesses goes.accesses ∙ ap (λ (x : Meaning). map (λ a. a.new) x.accesses) m.is)
    ∙ second_given d.instr olds (next_hint s.hints) h two

step_by : (program : List VmInstr) (s t : Machine) (d : StepRecord) (b : Bool) → nat_eq d.instr.op 37 ≡ b → Goes program s t d → IsBytes s.hints
    → hints_before (if b then Word (word_left d 1) ∷ [] else []) t.hints ≡ s.hints
step_by program s t d true is goes bytes =
    let op : d.instr.op ≡ 37 = grind (arith, nat_tests) in
    let word : word_left d 1 ≡ take 4 s.hints = word_given program s t d goes op in
    let used : hints_used d.instr.op ≡ 4 = rw is refl in
    let left : t.hints ≡ drop 4 s.hints = ap (λ (m : Machine). m.hints) goes.after ∙ ap (λ (n : ℕ). drop n s.hints) used in
    ap (λ (xs : List ℕ). map low_byte xs ++ t.hints) word
    ∙ ap (λ (xs : List ℕ). xs ++ t.hints) (low_same (take 4 s.hints) (all_take 4 s.hints bytes))
    ∙ ap (λ (xs : List ℕ). take 4 s.hints ++ xs) left
    ∙ take-append-drop 4 s.hints
step_by program s t d false is goes bytes =
    let used : hints_used d.instr.op ≡ 0 = rw is refl in
    ap (λ (m : Machine). m.hints) goes.after ∙ ap (λ (n : ℕ). drop n s.hints) used

-- a step's word stands before what it leaves
step_hints : (program : List VmInstr) (s t : Machine) (d : StepRecord) → Goes program s t d → IsBytes s.hints → hints_before (hint_of d) t.hints ≡ s.hints
step_hints program s t d goes bytes = step_by program s t d (nat_eq d.instr.op 37) refl goes bytes

pub hints_more : (program : List VmInstr) (s t : Machine) (done : List StepRecord) (d : StepRecord) → Goes program s t d → IsBytes s.hints → hints_before (hints_of (done ++ d ∷ [])) t.hints ≡ hints_before (hints_of done) s.hints
hints_more program s t done d goes bytes =
    ap (λ (es : List HintEvent). hints_before es t.hints) (flat_map-append hint_of done (d ∷ []) ∙ ap (λ (es : List HintEvent). hints_of done ++ es) (append-nil (hint_of d)))
    ∙ before_joined (hints_of done) (hint_of d) t.hints
    ∙ ap (hints_before (hints_of done)) (step_hints program s t d goes bytes)

-- what a step leaves is bytes
pub bytes_left : (program : List VmInstr) (s t : Machine) (d : StepRecord) → Goes program s t d → IsBytes s.hints → IsBytes t.hints
bytes_left program s t d goes bytes = subst IsBytes (sym (ap (λ (m : Machine). m.hints) goes.after)) (all_drop (hints_used d.instr.op) s.hints bytes)
