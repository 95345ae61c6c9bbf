-- The words that a step reads, one after another, before it writes.
use Rattle.std.proofs.Common.{◌≡◌, ℕ, zero, suc, ◌+◌, ◌<◌, ◌≤◌, Bool, true, false, nat_eq, List, [], ◌∷◌, ◌++◌, length, map, take, drop, Option, Some, None, refl, sym, ap, ◌∙◌, subst, arith, append_assoc, length-append, ⊎_elim, get_or}
use Rattle.std.proofs.Math.ListN.{get_or-append}
use Rattle.std.proofs.Math.Seq.{get_or-append_seam}
use Rattle.std.specs.Prelude.{slice_get}
use Rattle.std.specs.List.{AllByRecursion}
use Rattle.std.proofs.lemmas.Bool.{both_ways, cases_lt}
use Rattle.std.proofs.lemmas.List.{length-map, take_all, append-nil}
use Rattle.vm_isa.specs.declared.instr.VmInstr.{VmInstr}
use Rattle.vm_isa.specs.declared.meaning.NextAccess.TheVariants.{NoMeaning, At, Done}
use Rattle.vm_isa.specs.Blocks.{Blocks, Meets, is_block}
use Rattle.vm_isa.specs.Laws.{FindsItsWord}
use Rattle.vm_isa.specs.Opcodes.{is_load, is_store, is_branch, is_upper, is_register, JAL, JALR, HINT, REVEAL, SHA}
use Rattle.vm_isa.specs.Means.{Accessed, Meaning, at_place, is_refused, means_of, next_access_of, places_by, places_of, word_at}
use Rattle.vm_isa.proofs.MeetLaws.{met_words_stand, standing_words_are_met}
use Rattle.vm_isa.proofs.NextLaws.{done_is_a_meaning, meant, next_is_the_meanings, no_meaning_is_final}
use Rattle.vm_executor.specs.declared.block.Reached.{Reached}
use Rattle.vm_executor.specs.Memory.{Kept, IsReached, StaysReached}
use Rattle.vm_executor.specs.Read.{AreReached, IsNext}
use Rattle.vm_executor.proofs.KeepLemmas.{by_test}
use Rattle.vm_executor.proofs.MetWords.{old_words}

-- What was read so far: each meaning with these words finds them, and each that can be done has them.
pub record HasRead (i : VmInstr) (blocks : Blocks) (words : List (List ℕ)) : Type 0 where
  pub found : (more : List (List ℕ)) (given : List ℕ) (m : Meaning) → means_of i (words ++ more) given ≡ Some m → AllByRecursion (FindsItsWord blocks) (take (length words) m.accesses)
  pub forced : (olds : List (List ℕ)) (given : List ℕ) (m : Meaning) → means_of i olds given ≡ Some m → Meets blocks m.accesses → take (length words) olds ≡ words

pub none_read : (i : VmInstr) (blocks : Blocks) → HasRead i blocks []
none_read i blocks = record { found = λ more given m h. tt; forced = λ olds given m h meets. refl }

take_item : {X : Type 0} (xs : List X) (k : ℕ) (x : X) → slice_get xs k ≡ Some x → take (k + 1) xs ≡ take k xs ++ x ∷ []
take_item [] k x h = absurd (cc)
take_item (y ∷ xs) zero x h = let same : y ≡ x = cc in ap (λ z. z ∷ []) same
take_item (y ∷ xs) (suc k) x h = let next : suc k + 1 ≡ suc (k + 1) = omega arith in ap (λ (n : ℕ). take n (y ∷ xs)) next ∙ ap (λ zs. y ∷ zs) (take_item xs k x h)

get_map : (xs : List Accessed) (k : ℕ) (a : Accessed) → slice_get xs k ≡ Some a → slice_get (map (λ (b : Accessed). b.old) xs) k ≡ Some a.old
get_map [] k a h = absurd (cc)
get_map (x ∷ xs) zero a h = let same : x ≡ a = cc in ap (λ (b : Accessed). Some b.old) same
get_map (x ∷ xs) (suc k) a h = get_map xs k a h

get_middle : (xs ys : List (List ℕ)) (y : List ℕ) → slice_get (xs ++ y ∷ ys) (length xs) ≡ Some y
get_middle [] ys y = refl
get_middle (x ∷ xs) ys y = get_middle xs ys y

pub all_at_item : (blocks : Blocks) (xs : List Accessed) (k : ℕ) (a : Accessed) → slice_get xs k ≡ Some a → AllByRecursion (FindsItsWord blocks) xs → FindsItsWord blocks a
all_at_item blocks [] k a h all = absurd (cc)
all_at_item blocks (x ∷ xs) zero a h all = let same : x ≡ a = cc in subst (FindsItsWord blocks) same all.0
all_at_item blocks (x ∷ xs) (suc k) a h all = all_at_item blocks xs k a h all.1

all_more : (blocks : Blocks) (xs ys : List Accessed) → AllByRecursion (FindsItsWord blocks) xs → AllByRecursion (FindsItsWord blocks) ys → AllByRecursion (FindsItsWord blocks) (xs ++ ys)
all_more blocks [] ys h k = k
all_more blocks (x ∷ xs) ys h k = (h.0, all_more blocks xs ys h.1 k)

split_at : (words olds : List (List ℕ)) → take (length words) olds ≡ words → olds ≡ words ++ drop (length words) olds
split_at [] olds h = refl
split_at (w ∷ words) [] h = absurd (cc)
split_at (w ∷ words) (o ∷ olds) h = let first : o ≡ w = cc in let rest : take (length words) olds ≡ words = cc in ap (λ (x : List ℕ). x ∷ olds) first ∙ ap (λ (xs : List (List ℕ)). w ∷ xs) (split_at words olds rest)

some_one : (x y : List ℕ) → (Some x) ≡ (Some y) → x ≡ y
some_one x y h = cc

-- a word more, that of the next access
pub read_more : (i : VmInstr) (blocks : Blocks) (words : List (List ℕ)) (slot space pointer : ℕ) (word : List ℕ) → HasRead i blocks words → next_access_of i words ≡ At slot space pointer → is_block space pointer ≡ true → word ≡ blocks space pointer
    → HasRead i blocks (words ++ word ∷ [])
read_more i blocks words slot space pointer word read at on is = record {
  found = λ more given m h.
      let all : words ++ word ∷ [] ++ more ≡ words ++ word ∷ more = append_assoc words (word ∷ []) more in
      let means : means_of i (words ++ word ∷ more) given ≡ Some m = ap (λ (os : List (List ℕ)). means_of i os given) (sym all) ∙ h in
      let next = next_is_the_meanings i words (word ∷ more) given slot space pointer m at means in
      let a = next.0 in
      let old : a.old ≡ word = some_one a.old word (sym (get_map m.accesses (length words) a next.1) ∙ ap (λ (os : List (List ℕ)). slice_get os (length words)) (old_words i (words ++ word ∷ more) given m means) ∙ get_middle words more word) in
      let finds : FindsItsWord blocks a = (
        ap (λ (s : ℕ). is_block s a.pointer) next.3 ∙ ap (is_block space) next.4 ∙ on,
        ap (λ (s : ℕ). blocks s a.pointer) next.3 ∙ ap (blocks space) next.4 ∙ sym is ∙ sym old,
      ) in
      let size : length (words ++ word ∷ []) ≡ length words + 1 = length-append words (word ∷ []) in
      subst (AllByRecursion (FindsItsWord blocks)) (sym (ap (λ (n : ℕ). take n m.accesses) size ∙ take_item m.accesses (length words) a next.1))
      (all_more blocks (take (length words) m.accesses) (a ∷ []) (read.found (word ∷ more) given m means) (finds, tt));
  forced = λ olds given m h meets.
      let split = split_at words olds (read.forced olds given m h meets) in
      let means : means_of i (words ++ drop (length words) olds) given ≡ Some m = ap (λ (os : List (List ℕ)). means_of i os given) (sym split) ∙ h in
      let next = next_is_the_meanings i words (drop (length words) olds) given slot space pointer m at means in
      let a = next.0 in
      let finds = all_at_item blocks m.accesses (length words) a next.1 (met_words_stand blocks i olds given m h meets) in
      let old : a.old ≡ word = sym finds.1 ∙ ap (λ (s : ℕ). blocks s a.pointer) next.3 ∙ ap (blocks space) next.4 ∙ sym is in
      let there : slice_get olds (length words) ≡ Some word = ap (λ (os : List (List ℕ)). slice_get os (length words)) (sym (old_words i olds given m h)) ∙ get_map m.accesses (length words) a next.1 ∙ ap Some old in
      let size : length (words ++ word ∷ []) ≡ length words + 1 = length-append words (word ∷ []) in
      ap (λ (n : ℕ). take n olds) size ∙ take_item olds (length words) word there ∙ ap (λ (xs : List (List ℕ)). xs ++ word ∷ []) (read.forced olds given m h meets);
}

-- no meaning that can be done begins with these words
pub read_none : (i : VmInstr) (blocks : Blocks) (words olds : List (List ℕ)) (given : List ℕ) (m : Meaning) → HasRead i blocks words → next_access_of i words ≡ NoMeaning → means_of i olds given ≡ Some m → Meets blocks m.accesses → ⊥
read_none i blocks words olds given m read none h meets =
    let split = split_at words olds (read.forced olds given m h meets) in
    let no : None ≡ Some m = sym (no_meaning_is_final i words none (drop (length words) olds) given) ∙ ap (λ (os : List (List ℕ)). means_of i os given) (sym split) ∙ h in
    absurd (cc)

pub read_off : (i : VmInstr) (blocks : Blocks) (words olds : List (List ℕ)) (given : List ℕ) (m : Meaning) (slot space pointer : ℕ) → HasRead i blocks words → next_access_of i words ≡ At slot space pointer → is_block space pointer ≡ false
    → means_of i olds given ≡ Some m → Meets blocks m.accesses → ⊥
read_off i blocks words olds given m slot space pointer read at off h meets =
    let split = split_at words olds (read.forced olds given m h meets) in
    let means : means_of i (words ++ drop (length words) olds) given ≡ Some m = ap (λ (os : List (List ℕ)). means_of i os given) (sym split) ∙ h in
    let next = next_is_the_meanings i words (drop (length words) olds) given slot space pointer m at means in
    let a = next.0 in
    let finds = all_at_item blocks m.accesses (length words) a next.1 (met_words_stand blocks i olds given m h meets) in
    both_ways (is_block space pointer) off (ap (λ (s : ℕ). is_block s pointer) (sym next.3) ∙ ap (is_block a.space) (sym next.4) ∙ finds.0)

-- ---- the blocks that were reached

take_front : (xs : List (List ℕ)) (y : List ℕ) (k : ℕ) → k ≤ length xs → take k (xs ++ y ∷ []) ≡ take k xs
take_front xs y zero h = refl
take_front [] y (suc k) h = absurd (omega arith)
take_front (x ∷ xs) y (suc k) h = ap (λ (zs : List (List ℕ)). x ∷ zs) (take_front xs y k (omega arith))

pub reached_more : (i : VmInstr) (old new : Kept) (words : List (List ℕ)) (word : List ℕ) (blocks : List Reached) (block : Reached) → AreReached i old words blocks → StaysReached old new → next_access_of i words ≡ At block.slot block.space block.pointer → IsReached new block
    → AreReached i new (words ++ word ∷ []) (blocks ++ block ∷ [])
reached_more i old new words word blocks block reached stays next is = record {
  count = length-append blocks (block ∷ []) ∙ ap (λ (n : ℕ). n + 1) reached.count ∙ sym (length-append words (word ∷ []));
  each = λ number none h.
      let long = length-append blocks (block ∷ []) in
      ⊎_elim
      (λ (before : number < length blocks).
      let was = reached.each number none before in
      let same = get_or-append blocks (block ∷ []) none number before in
      subst (IsNext i new (words ++ word ∷ []) number) (sym same)
      (record {
        is = ap (next_access_of i) (take_front words word number (omega (arith, before, reached.count))) ∙ was.is;
        reached = record { on = was.reached.on; at = stays _ _ was.reached.at };
      }))
      (λ (last : length blocks ≤ number).
      let here : number ≡ length blocks = omega (arith, h, long, last) in
      let same : get_or (blocks ++ block ∷ []) number none ≡ block = ap (λ (n : ℕ). get_or (blocks ++ block ∷ []) n none) here ∙ get_or-append_seam blocks block [] none in
      subst (IsNext i new (words ++ word ∷ []) number) (sym same)
      (record {
        is = ap (next_access_of i) (take_front words word number (omega (arith, here, reached.count)) ∙ take_all number words (omega (arith, here, reached.count))) ∙ next;
        reached = is;
      }))
      (cases_lt number (length blocks));
}

-- ---- how many words there are

-- the number of an instruction's accesses doesn't depend on its words
pub places_long : (i : VmInstr) (b c d e : ℕ) → length (places_by i b c) ≡ length (places_by i d e)
unfolding places_by
places_long i b c d e =
    by_test (is_register i.op) (λ h. by_test i.use_imm (λ u. rw (h, u) refl) (λ u. rw (h, u) refl)) (λ a.
    by_test (is_load i.op) (λ h. by_test i.write (λ u. rw (a, h, u) refl) (λ u. rw (a, h, u) refl)) (λ l.
    by_test (is_store i.op) (λ h. rw (a, l, h) refl) (λ s.
    by_test (is_branch i.op) (λ h. rw (a, l, s, h) refl) (λ r.
    by_test (nat_eq i.op JAL) (λ h. by_test i.write (λ u. rw (a, l, s, r, h, u) refl) (λ u. rw (a, l, s, r, h, u) refl)) (λ j.
    by_test (is_upper i.op) (λ h. rw (a, l, s, r, j, h) refl) (λ p.
    by_test (nat_eq i.op JALR) (λ h. by_test i.write (λ u. rw (a, l, s, r, j, p, h, u) refl) (λ u. rw (a, l, s, r, j, p, h, u) refl)) (λ k.
    by_test (nat_eq i.op HINT) (λ h. rw (a, l, s, r, j, p, k, h) refl) (λ m.
    by_test (nat_eq i.op REVEAL) (λ h. rw (a, l, s, r, j, p, k, m, h) refl) (λ q.
    by_test (nat_eq i.op SHA) (λ h. rw (a, l, s, r, j, p, k, m, q, h) refl) (λ z. rw (a, l, s, r, j, p, k, m, q, z) refl))))))))))

places_few : (i : VmInstr) (b c : ℕ) → length (places_by i b c) ≤ 26
unfolding places_by
places_few i b c =
    by_test (is_register i.op) (λ h. by_test i.use_imm (λ u. rw (h, u) (omega arith)) (λ u. rw (h, u) (omega arith))) (λ a.
    by_test (is_load i.op) (λ h. by_test i.write (λ u. rw (a, h, u) (omega arith)) (λ u. rw (a, h, u) (omega arith))) (λ l.
    by_test (is_store i.op) (λ h. rw (a, l, h) (omega arith)) (λ s.
    by_test (is_branch i.op) (λ h. rw (a, l, s, h) (omega arith)) (λ r.
    by_test (nat_eq i.op JAL) (λ h. by_test i.write (λ u. rw (a, l, s, r, h, u) (omega arith)) (λ u. rw (a, l, s, r, h, u) (omega arith))) (λ j.
    by_test (is_upper i.op) (λ h. rw (a, l, s, r, j, h) (omega arith)) (λ p.
    by_test (nat_eq i.op JALR) (λ h. by_test i.write (λ u. rw (a, l, s, r, j, p, h, u) (omega arith)) (λ u. rw (a, l, s, r, j, p, h, u) (omega arith))) (λ k.
    by_test (nat_eq i.op HINT) (λ h. rw (a, l, s, r, j, p, k, h) (omega arith)) (λ m.
    by_test (nat_eq i.op REVEAL) (λ h. rw (a, l, s, r, j, p, k, m, h) (omega arith)) (λ q.
    by_test (nat_eq i.op SHA) (λ h. rw (a, l, s, r, j, p, k, m, q, h) (omega arith)) (λ z. rw (a, l, s, r, j, p, k, m, q, z) (omega arith)))))))))))

within_by : {X : Type 0} (xs : List X) (k : ℕ) (x : X) → slice_get xs k ≡ Some x → k < length xs
within_by [] k x h = absurd (cc)
within_by (y ∷ xs) zero x h = omega arith
within_by (y ∷ xs) (suc k) x h = omega (arith, within_by xs k x h)

pub at_few : (i : VmInstr) (words : List (List ℕ)) (slot space pointer : ℕ) → next_access_of i words ≡ At slot space pointer → length words < 26
unfolding next_access_of
at_few i words slot space pointer h =
    by_test (is_refused i words)
    (λ r. absurd (let no : NoMeaning ≡ At slot space pointer = rw r at h in cc))
    (λ r. omega (arith, go (slice_get (places_of i words) (length words)) refl (rw r at h), places_few i (word_at words 0) (word_at words 1)))
  where
    go : (o : Option _) → slice_get (places_of i words) (length words) ≡ o → at_place o (nat_eq (length words) (length (places_of i words))) ≡ At slot space pointer → length words < length (places_of i words)
    go None e f = absurd (ends (nat_eq (length words) (length (places_of i words))) f)
      where
        ends : (b : Bool) → at_place None b ≡ At slot space pointer → ⊥
        ends true g = cc
        ends false g = cc
    go (Some p) e f = within_by (places_of i words) (length words) p e

-- ---- all words

done_long : (i : VmInstr) (words : List (List ℕ)) → next_access_of i words ≡ Done → length words ≡ length (places_of i words)
done_long i words h = let t = (done_is_a_meaning i words []).0 h in (meant i words [] t.0 t.1).long

pub read_forced : (i : VmInstr) (blocks : Blocks) (words olds : List (List ℕ)) (given : List ℕ) (m : Meaning) → HasRead i blocks words → next_access_of i words ≡ Done → means_of i olds given ≡ Some m → Meets blocks m.accesses → olds ≡ words
read_forced i blocks words olds given m read done h meets =
    let taken = read.forced olds given m h meets in
    let long : length olds ≡ length words = (meant i olds given m h).long ∙ places_long i (word_at olds 0) (word_at olds 1) (word_at words 0) (word_at words 1) ∙ sym (done_long i words done) in
    sym (take_all (length words) olds (omega (arith, long))) ∙ taken

pub read_meets : (i : VmInstr) (blocks : Blocks) (words : List (List ℕ)) (given : List ℕ) (m : Meaning) → HasRead i blocks words → means_of i words given ≡ Some m → Meets blocks m.accesses
read_meets i blocks words given m read h =
    let whole : means_of i (words ++ []) given ≡ Some m = ap (λ (os : List (List ℕ)). means_of i os given) (append-nil words) ∙ h in
    let long : length m.accesses ≡ length words = sym (length-map m.accesses (λ (a : Accessed). a.old)) ∙ ap length (old_words i words given m h) in
    standing_words_are_met blocks i words given m h (subst (AllByRecursion (FindsItsWord blocks)) (take_all (length words) m.accesses (omega (arith, long))) (read.found [] given m whole))

pub words_few : (i : VmInstr) (words : List (List ℕ)) → next_access_of i words ≡ Done → length words ≤ 26
words_few i words done = omega (arith, done_long i words done, places_few i (word_at words 0) (word_at words 1))
