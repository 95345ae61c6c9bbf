-- A state has one step on blocks.
use Rattle.std.proofs.Common.{◌≡◌, ℕ, zero, suc, ◌<◌, ◌≤◌, List, [], ◌∷◌, ◌++◌, length, map, get_or, take, drop, Some, None, refl, sym, ap, ◌∙◌, subst, arith, length-take}
use Rattle.std.proofs.lemmas.List.{take_all}
use Rattle.vm_isa.specs.declared.instr.VmInstr.{VmInstr}
use Rattle.vm_isa.specs.declared.meaning.NextAccess.{NextAccess}
use Rattle.vm_isa.specs.declared.meaning.NextAccess.TheVariants.{NoMeaning, At, Done}
use Rattle.vm_isa.specs.Blocks.{Blocks, Meets, VmState, VmStep, after_accesses}
use Rattle.vm_isa.specs.Hints.{hints_after, next_hint}
use Rattle.vm_isa.specs.Means.{Accessed, Meaning, means_of, next_access_of, word_at}
use Rattle.vm_isa.proofs.NextLaws.{done_is_a_meaning, is_done, meant, no_meaning_is_final}
use Rattle.vm_transpile.specs.Order.{RisesFrom}
use Rattle.vm_transpile.proofs.Lookups.{finds}
use Rattle.vm_executor.proofs.ReadLemmas.{HasRead, none_read, read_more, read_forced, places_long}
use Rattle.vm_executor.proofs.WriteLemmas.{nth_at, prefix, some_meaning}

no_end : (i : VmInstr) (words : List (List ℕ)) (given : List ℕ) (m : Meaning) (k : ℕ) → means_of i words given ≡ Some m → next_access_of i (take k words) ≡ NoMeaning → ⊥
no_end i words given m k h none = let no : None ≡ Some m = sym (no_meaning_is_final i (take k words) none (drop k words) given) ∙ prefix i words given m k h in absurd (cc)

no_more : (i : VmInstr) (words : List (List ℕ)) (given : List ℕ) (m : Meaning) (k : ℕ) → means_of i words given ≡ Some m → k < length words → next_access_of i (take k words) ≡ Done → ⊥
no_more i words given m k h low done =
    let t = (done_is_a_meaning i (take k words) given).0 done in
    let short = (meant i (take k words) given t.0 t.1).long in
    let long = (meant i words given m h).long in
    omega (arith, long, short, places_long i (word_at (take k words) 0) (word_at (take k words) 1) (word_at words 0) (word_at words 1), length-take k words, low)

take_word : (xs : List (List ℕ)) (k : ℕ) → k < length xs → take (suc k) xs ≡ take k xs ++ get_or xs k [] ∷ []
take_word [] k h = absurd (omega arith)
take_word (x ∷ xs) zero h = refl
take_word (x ∷ xs) (suc k) h = ap (λ (ys : List (List ℕ)). x ∷ ys) (take_word xs k (omega arith))

-- the words of a meaning that can be done are read one after another
reads : (i : VmInstr) (blocks : Blocks) (olds : List (List ℕ)) (given : List ℕ) (m : Meaning) → means_of i olds given ≡ Some m → Meets blocks m.accesses → (k : ℕ) → k ≤ length olds → HasRead i blocks (take k olds)
reads i blocks olds given m h meets zero low = none_read i blocks
reads i blocks olds given m h meets (suc k) low = subst (HasRead i blocks) (sym (take_word olds k (omega arith))) (by_next (next_access_of i (take k olds)) refl (reads i blocks olds given m h meets k (omega arith)))
  where
    by_next : (n : NextAccess) → next_access_of i (take k olds) ≡ n → HasRead i blocks (take k olds) → HasRead i blocks (take k olds ++ get_or olds k [] ∷ [])
    by_next NoMeaning e rest = absurd (no_end i olds given m k h e)
    by_next Done e rest = absurd (no_more i olds given m k h (omega arith) e)
    by_next (At slot space pointer) e rest =
        let nth = nth_at blocks i olds given m k slot space pointer [] h meets (omega arith) e in
        read_more i blocks (take k olds) slot space pointer (get_or olds k []) rest e nth.1.on (sym nth.1.finds)

one_olds : (i : VmInstr) (blocks : Blocks) (olds others : List (List ℕ)) (given word : List ℕ) (m n : Meaning) → means_of i olds given ≡ Some m → Meets blocks m.accesses → means_of i others word ≡ Some n → Meets blocks n.accesses → others ≡ olds
one_olds i blocks olds others given word m n h meets g meet =
    let is = meant i olds given m h in
    let read = subst (HasRead i blocks) (take_all (length olds) olds (omega arith)) (reads i blocks olds given m h meets (length olds) (omega arith)) in
    read_forced i blocks olds others word n read (is_done i olds is.fits is.long) g meet

pub some_row : (x y : VmInstr) → (Some x) ≡ (Some y) → x ≡ y
some_row x y h = cc

-- two steps of a state lead to one state
pub one_step : (program : List VmInstr) (s t u : VmState) → RisesFrom 0 program → VmStep program s t → VmStep program s u → t ≡ u
one_step program s t u rises a b =
    let row : b.instr ≡ a.instr = some_row b.instr a.instr (sym (finds program s.pc b.instr rises (record { stands = b.stands; here = b.here })) ∙ finds program s.pc a.instr rises (record { stands = a.stands; here = a.here })) in
    let olds = map (λ (x : Accessed). x.old) a.meaning.accesses in
    let others = map (λ (x : Accessed). x.old) b.meaning.accesses in
    let hint = next_hint s.hints in
    let means : means_of a.instr others hint ≡ Some b.meaning = ap (λ (r : VmInstr). means_of r others hint) (sym row) ∙ b.means in
    let words = one_olds a.instr s.blocks olds others hint hint a.meaning b.meaning a.means a.meets means b.meets in
    let same : b.meaning ≡ a.meaning = some_meaning b.meaning a.meaning (sym means ∙ ap (λ (os : List (List ℕ)). means_of a.instr os hint) words ∙ a.means) in
    let make : Meaning → VmInstr → VmState = λ m r. record { pc = m.next; blocks = after_accesses s.blocks m.accesses; hints = hints_after r.op s.hints } in
    a.next ∙ ap (λ (m : Meaning). make m a.instr) (sym same) ∙ ap (make b.meaning) (sym row) ∙ sym b.next
