-- The accesses of a step, one after another.
use Rattle.std.proofs.Common.{◌≡◌, ℕ, zero, suc, ◌+◌, ◌<◌, ◌≤◌, ◌&&◌, Bool, true, false, cond, nat_eq, List, [], ◌∷◌, ◌++◌, length, map, get_or, take, drop, Some, refl, sym, ap, ◌∙◌, subst, arith, length-take}
use Rattle.std.specs.Prelude.{slice_get}
use Rattle.std.proofs.lemmas.Bool.{and_from, and_parts, eq-eqb, eqb-true}
use Rattle.std.proofs.lemmas.Bool.Decides.{nat_tests}
use Rattle.std.proofs.lemmas.List.{length-map, map-append, take_all}
use Rattle.vm_isa.specs.declared.access.TimedAccess.{TimedAccess}
use Rattle.vm_isa.specs.declared.instr.VmInstr.{VmInstr}
use Rattle.vm_isa.specs.declared.meaning.NextAccess.TheVariants.{At, Done}
use Rattle.vm_isa.specs.Blocks.{Blocks, Meets, after_accesses, is_block, with_block}
use Rattle.vm_isa.specs.Laws.{SlotsRise}
use Rattle.vm_isa.specs.Means.{Accessed, HasNew, Meaning, means_of, next_access_of, placed, placed_at, Placed}
use Rattle.vm_isa.specs.Slots.{slots_of}
use Rattle.vm_isa.proofs.MeetLaws.{met_words_stand}
use Rattle.vm_isa.proofs.NextLaws.{done_is_a_meaning, next_is_the_meanings}
use Rattle.vm_isa.proofs.SlotRises.{meaning_rises}
use Rattle.vm_executor.specs.Pages.{Times}
use Rattle.vm_executor.specs.Machine.{Befores, times_after, with_time}
use Rattle.vm_executor.specs.Memory.{Kept, now_of, times_of, PutBlock}
use Rattle.vm_executor.specs.declared.block.Reached.{Reached}
use Rattle.vm_executor.specs.Read.{AreReached}
use Rattle.vm_executor.specs.Write.{ArePlanned, AreAt, AreMade, IsPlanned, after_timed}
use Rattle.vm_executor.proofs.MetWords.{old_words}
use Rattle.vm_executor.proofs.ReadLemmas.{all_at_item, words_few}
use Rattle.vm_executor.proofs.StepLemmas.{placed_same}

times-more : (times : Times) (xs : List TimedAccess) (a : TimedAccess) → times_after times (xs ++ a ∷ []) ≡ with_time (times_after times xs) a.access.space a.access.pointer a.time
times-more times [] a = refl
times-more times (x ∷ xs) a = times-more (with_time times x.access.space x.access.pointer x.time) xs a

befores-more : (times : Times) (xs : List TimedAccess) (a : TimedAccess) → Befores times xs → a.before ≡ times_after times xs a.access.space a.access.pointer → Befores times (xs ++ a ∷ [])
befores-more times [] a h e = (e, tt)
befores-more times (x ∷ xs) a h e = (h.0, befores-more (with_time times x.access.space x.access.pointer x.time) xs a h.1 e)

-- ---- the plan

planned_more : (time : ℕ) (xs : List Accessed) (a : Accessed) (times : Times) (done : List TimedAccess) (d : TimedAccess) → ArePlanned time xs times done → placed d ≡ placed_at time a → d.before ≡ times_after times done d.access.space d.access.pointer
    → ArePlanned time (xs ++ a ∷ []) times (done ++ d ∷ [])
planned_more time xs a times done d planned same before = record {
  placed_so = map-append placed done (d ∷ []) ∙ ap (λ (ps : List Placed). ps ++ placed d ∷ []) planned.placed_so ∙ ap (λ (p : Placed). map (placed_at time) xs ++ p ∷ []) same ∙ sym (map-append (placed_at time) xs (a ∷ []));
  before = befores-more times done d planned.before before;
}

-- the time of a place after one access more
pub time_there : (times : Times) (xs : List TimedAccess) (a : TimedAccess) (s p last : ℕ) → times_after times xs s p ≡ last → a.access.space ≡ s → a.access.pointer ≡ p → times_after times (xs ++ a ∷ []) s p ≡ a.time
time_there times xs a s p last h space pointer =
    ap (λ (t : Times). t s p) (times-more times xs a) ∙ ap (λ (b : Bool). cond b a.time (times_after times xs s p)) (and_from (nat_eq s a.access.space) (nat_eq p a.access.pointer) (eq-eqb s a.access.space (sym space)) (eq-eqb p a.access.pointer (sym pointer)))

pub time_elsewhere : (times : Times) (xs : List TimedAccess) (a : TimedAccess) (s p last : ℕ) → times_after times xs s p ≡ last → (a.access.space ≡ s → a.access.pointer ≡ p → ⊥) → times_after times (xs ++ a ∷ []) s p ≡ last
time_elsewhere times xs a s p last h other =
    ap (λ (t : Times). t s p) (times-more times xs a) ∙ ap (λ (b : Bool). cond b a.time (times_after times xs s p)) (off (nat_eq s a.access.space && nat_eq p a.access.pointer) refl) ∙ h
  where
    off : (b : Bool) → (nat_eq s a.access.space && nat_eq p a.access.pointer) ≡ b → b ≡ false
    off false e = refl
    off true e = let parts = and_parts (nat_eq s a.access.space) (nat_eq p a.access.pointer) e in absurd (other (sym (eqb-true s a.access.space parts.0)) (sym (eqb-true p a.access.pointer parts.1)))

-- ---- the access of a number

-- it is the next one after the words before it
pub record IsNth (blocks : Blocks) (m : Meaning) (k slot space pointer : ℕ) (word : List ℕ) (a : Accessed) : Type 0 where
  pub stands : slice_get m.accesses k ≡ Some a
  pub slot_is : a.slot ≡ slot
  pub space_is : a.space ≡ space
  pub pointer_is : a.pointer ≡ pointer
  pub old_is : a.old ≡ word
  pub on : is_block space pointer ≡ true
  pub finds : blocks space pointer ≡ word
  pub low : slot < 26

pub take_drop : (xs : List (List ℕ)) (k : ℕ) → take k xs ++ drop k xs ≡ xs
take_drop xs zero = refl
take_drop [] (suc k) = refl
take_drop (x ∷ xs) (suc k) = ap (λ (ys : List (List ℕ)). x ∷ ys) (take_drop xs k)

pub prefix : (i : VmInstr) (words : List (List ℕ)) (given : List ℕ) (m : Meaning) (k : ℕ) → means_of i words given ≡ Some m → means_of i (take k words ++ drop k words) given ≡ Some m
prefix i words given m k h = ap (λ (os : List (List ℕ)). means_of i os given) (take_drop words k) ∙ h

nth_old : (xs : List Accessed) (k : ℕ) (a : Accessed) (d : List ℕ) → slice_get xs k ≡ Some a → get_or (map (λ (b : Accessed). b.old) xs) k d ≡ a.old
nth_old [] k a d h = absurd (cc)
nth_old (x ∷ xs) zero a d h = let same : x ≡ a = cc in ap (λ (b : Accessed). b.old) same
nth_old (x ∷ xs) (suc k) a d h = nth_old xs k a d h

nth_slot : (from slots : ℕ) (xs : List Accessed) (k : ℕ) (a : Accessed) → slice_get xs k ≡ Some a → SlotsRise from slots xs → a.slot < slots
nth_slot from slots [] k a h rise = absurd (cc)
nth_slot from slots (x ∷ xs) zero a h rise = let same : x ≡ a = cc in subst (λ (b : Accessed). b.slot < slots) same rise.1
nth_slot from slots (x ∷ xs) (suc k) a h rise = nth_slot (x.slot + 1) slots xs k a h rise.2

slots_few : (op : ℕ) → slots_of op ≤ 26
slots_few op = grind (arith, nat_tests)

pub nth_at : (blocks : Blocks) (i : VmInstr) (words : List (List ℕ)) (given : List ℕ) (m : Meaning) (k slot space pointer : ℕ) (d : List ℕ) → means_of i words given ≡ Some m → Meets blocks m.accesses → k < length words
    → next_access_of i (take k words) ≡ At slot space pointer → (a : Accessed) × IsNth blocks m k slot space pointer (get_or words k d) a
nth_at blocks i words given m k slot space pointer d h meets low at =
    let size : length (take k words) ≡ k = length-take k words ∙ omega (arith, low) in
    let next = next_is_the_meanings i (take k words) (drop k words) given slot space pointer m at (prefix i words given m k h) in
    let a = next.0 in
    let stands : slice_get m.accesses k ≡ Some a = ap (slice_get m.accesses) (sym size) ∙ next.1 in
    let finds = all_at_item blocks m.accesses k a stands (met_words_stand blocks i words given m h meets) in (
      a,
      record {
        stands = stands;
        slot_is = next.2;
        space_is = next.3;
        pointer_is = next.4;
        old_is = sym (nth_old m.accesses k a d stands) ∙ ap (λ (os : List (List ℕ)). get_or os k d) (old_words i words given m h);
        on = ap (λ (s : ℕ). is_block s pointer) (sym next.3) ∙ ap (is_block a.space) (sym next.4) ∙ finds.0;
        finds = ap (λ (s : ℕ). blocks s pointer) (sym next.3) ∙ ap (blocks a.space) (sym next.4) ∙ finds.1 ∙ sym (nth_old m.accesses k a d stands) ∙ ap (λ (os : List (List ℕ)). get_or os k d) (old_words i words given m h);
        low = omega (arith, nth_slot 0 (slots_of i.op) m.accesses k a stands (meaning_rises i words given m h), slots_few i.op, next.2);
      },
    )

pub some_meaning : (x y : Meaning) → (Some x) ≡ (Some y) → x ≡ y
some_meaning x y h = cc

-- its new word
pub nth_new : (i : VmInstr) (words : List (List ℕ)) (given : List ℕ) (m other : Meaning) (k : ℕ) (a : Accessed) (word : List ℕ) → means_of i words given ≡ Some m → means_of i words given ≡ Some other → HasNew other k word → slice_get m.accesses k ≡ Some a → a.new ≡ word
nth_new i words given m other k a word h g has stands =
    let same : other ≡ m = some_meaning other m (sym g ∙ h) in
    go m.accesses k stands (subst (λ (x : Meaning). HasNew x k word) same has)
  where
    go : (xs : List Accessed) (k : ℕ) → slice_get xs k ≡ Some a → slice_get (map (λ (b : Accessed). b.new) xs) k ≡ Some word → a.new ≡ word
    go [] k f e = absurd (cc)
    go (x ∷ xs) zero f e = let one : x ≡ a = cc in let two : x.new ≡ word = cc in ap (λ (b : Accessed). b.new) (sym one) ∙ two
    go (x ∷ xs) (suc k) f e = go xs k f e

pub take_next : (xs : List Accessed) (k : ℕ) (a : Accessed) → slice_get xs k ≡ Some a → take (k + 1) xs ≡ take k xs ++ a ∷ []
take_next [] k a h = absurd (cc)
take_next (y ∷ xs) zero a h = let same : y ≡ a = cc in ap (λ z. z ∷ []) same
take_next (y ∷ xs) (suc k) a h = let next : suc k + 1 ≡ suc (k + 1) = omega arith in ap (λ (n : ℕ). take n (y ∷ xs)) next ∙ ap (λ zs. y ∷ zs) (take_next xs k a h)

-- all of them
meaning_long : (i : VmInstr) (words : List (List ℕ)) (given : List ℕ) (m : Meaning) → means_of i words given ≡ Some m → length m.accesses ≡ length words
meaning_long i words given m h = sym (length-map m.accesses (λ (a : Accessed). a.old)) ∙ ap length (old_words i words given m h)

pub planned_all : (i : VmInstr) (words : List (List ℕ)) (given : List ℕ) (m : Meaning) (time n : ℕ) (times : Times) (done : List TimedAccess) → means_of i words given ≡ Some m → length words ≤ n → ArePlanned time (take n m.accesses) times done → ArePlanned time m.accesses times done
planned_all i words given m time n times done h all planned =
    subst (λ (xs : List Accessed). ArePlanned time xs times done) (take_all n m.accesses (omega (arith, all, meaning_long i words given m h))) planned

-- the meaning of these words, and its access of a number
pub record Met (i : VmInstr) (blocks : Blocks) (words : List (List ℕ)) (given : List ℕ) (k slot space pointer : ℕ) : Type 0 where
  pub meaning : Meaning
  pub means : means_of i words given ≡ Some meaning
  pub access : Accessed
  pub is : IsNth blocks meaning k slot space pointer (get_or words k []) access

pub met : (i : VmInstr) (blocks : Blocks) (words : List (List ℕ)) (given : List ℕ) (k slot space pointer : ℕ) → next_access_of i words ≡ Done → ((word : List ℕ) (m : Meaning) → means_of i words word ≡ Some m → Meets blocks m.accesses)
    → k < length words → next_access_of i (take k words) ≡ At slot space pointer → Met i blocks words given k slot space pointer
met i blocks words given k slot space pointer done meets low at =
    let t = (done_is_a_meaning i words given).0 done in
    let nth = nth_at blocks i words given t.0 k slot space pointer [] t.1 (meets given t.0 t.1) low at in
    record { meaning = t.0; means = t.1; access = nth.0; is = nth.1 }

pub planned_next : (i : VmInstr) (blocks : Blocks) (words : List (List ℕ)) (given : List ℕ) (k slot space pointer time : ℕ) (word : List ℕ) (before : ℕ) (times : Times) (done : List TimedAccess) (m : Meaning)
    → Met i blocks words given k slot space pointer → means_of i words given ≡ Some m → (other : Meaning) → means_of i words given ≡ Some other → HasNew other k word
    → ArePlanned time (take k m.accesses) times done → before ≡ times_after times done space pointer
    → ArePlanned time (take (k + 1) m.accesses) times (done ++ record { access = record { space = space; pointer = pointer; old = get_or words k []; new = word }; time = time + slot; before = before } ∷ [])
planned_next i blocks words given k slot space pointer time word before times done m there h other g has planned at =
    let one : there.meaning ≡ m = some_meaning there.meaning m (sym there.means ∙ h) in
    let a = there.access in
    let is = there.is in
    let stands : slice_get m.accesses k ≡ Some a = ap (λ (x : Meaning). slice_get x.accesses k) (sym one) ∙ is.stands in
    let fresh : a.new ≡ word = nth_new i words given m other k a word h g has stands in
    let make : ℕ → ℕ → ℕ → List ℕ → List ℕ → Placed = λ t s p o n. record { time = t; space = s; pointer = p; old = o; new = n } in
    let same = ap (λ (n : ℕ). make (time + n) space pointer (get_or words k []) word) (sym is.slot_is) ∙ ap (λ (s : ℕ). make (time + a.slot) s pointer (get_or words k []) word) (sym is.space_is)
    ∙ ap (λ (p : ℕ). make (time + a.slot) a.space p (get_or words k []) word) (sym is.pointer_is) ∙ ap (λ (o : List ℕ). make (time + a.slot) a.space a.pointer o word) (sym is.old_is)
    ∙ ap (make (time + a.slot) a.space a.pointer a.old) (sym fresh) in
    subst (λ (xs : List Accessed). ArePlanned time xs times (done ++ record { access = record { space = space; pointer = pointer; old = get_or words k []; new = word }; time = time + slot; before = before } ∷ [])) (sym (take_next m.accesses k a stands))
    (planned_more time (take k m.accesses) a times done _ planned same at)

-- ---- the plan is made

placed_nth : (time : ℕ) (xs : List Accessed) (done : List TimedAccess) (k : ℕ) (a : Accessed) (d : TimedAccess) → map placed done ≡ map (placed_at time) xs → slice_get xs k ≡ Some a → placed (get_or done k d) ≡ placed_at time a
placed_nth time [] done k a d same stands = absurd (cc)
placed_nth time (x ∷ xs) [] k a d same stands = absurd (cc)
placed_nth time (x ∷ xs) (y ∷ done) zero a d same stands = let one : x ≡ a = cc in let here : placed y ≡ placed_at time x = cc in here ∙ ap (placed_at time) one
placed_nth time (x ∷ xs) (y ∷ done) (suc k) a d same stands = let rest : map placed done ≡ map (placed_at time) xs = cc in placed_nth time xs done k a d rest stands

-- each planned access is of the block that was reached for it
pub planned_at : (i : VmInstr) (kept : Kept) (words : List (List ℕ)) (given : List ℕ) (time : ℕ) (blocks : List Reached) (done : List TimedAccess) → next_access_of i words ≡ Done → ((word : List ℕ) (m : Meaning) → means_of i words word ≡ Some m → Meets (now_of kept) m.accesses)
    → AreReached i kept words blocks → 1 ≤ time → IsPlanned i words given time (times_of kept) done → AreAt kept blocks done
planned_at i kept words given time blocks done whole meets reached begun planned =
    let t = (done_is_a_meaning i words given).0 whole in
    let m = t.0 in
    let so = (planned m t.1).placed_so in
    let long : length done ≡ length m.accesses = sym (length-map done placed) ∙ ap length so ∙ length-map m.accesses (placed_at time) in
    record {
      count = reached.count ∙ sym (long ∙ meaning_long i words given m t.1);
      few = omega (arith, words_few i words whole, long, meaning_long i words given m t.1);
      each = λ k none no_access low.
          let block = get_or blocks k none in
          let next = reached.each k none low in
          let there = nth_at (now_of kept) i words given m k block.slot block.space block.pointer [] t.1 (meets given m t.1) (omega (arith, low, reached.count)) next.is in
          let a = there.0 in
          let same = placed_nth time m.accesses done k a no_access so there.1.stands in (
            next.reached,
            record {
              space_is = ap (λ (x : Placed). x.space) same ∙ there.1.space_is;
              pointer_is = ap (λ (x : Placed). x.pointer) same ∙ there.1.pointer_is;
              begun = (let at : (get_or done k no_access).time ≡ time + a.slot = ap (λ (x : Placed). x.time) same in omega (arith, at, begun));
            },
          );
    }

timed-more : (blocks : Blocks) (xs : List TimedAccess) (a : TimedAccess) → after_timed blocks (xs ++ a ∷ []) ≡ with_block (after_timed blocks xs) a.access.space a.access.pointer a.access.new
timed-more blocks [] a = refl
timed-more blocks (x ∷ xs) a = timed-more (with_block blocks x.access.space x.access.pointer x.access.new) xs a

-- an access more
pub made_more : (old mid new : Kept) (done : List TimedAccess) (a : TimedAccess) (s p : ℕ) → AreMade old mid done → a.access.space ≡ s → a.access.pointer ≡ p → PutBlock mid new s p a.access.new a.time → AreMade old new (done ++ a ∷ [])
made_more old mid new done a s p made space pointer put = record {
  now = put.now ∙ ap (λ (b : Blocks). with_block b s p a.access.new) made.now ∙ ap (λ (n : ℕ). with_block (after_timed (now_of old) done) n p a.access.new) (sym space)
      ∙ ap (λ (n : ℕ). with_block (after_timed (now_of old) done) a.access.space n a.access.new) (sym pointer) ∙ sym (timed-more (now_of old) done a);
  began = put.began ∙ made.began;
  times = put.times ∙ ap (λ (t : Times). with_time t s p a.time) made.times ∙ ap (λ (n : ℕ). with_time (times_after (times_of old) done) n p a.time) (sym space)
      ∙ ap (λ (n : ℕ). with_time (times_after (times_of old) done) a.access.space n a.time) (sym pointer) ∙ sym (times-more (times_of old) done a);
}

pub take_one : (xs : List TimedAccess) (k : ℕ) (a : TimedAccess) → slice_get xs k ≡ Some a → take (k + 1) xs ≡ take k xs ++ a ∷ []
take_one [] k a h = absurd (cc)
take_one (y ∷ xs) zero a h = let same : y ≡ a = cc in ap (λ z. z ∷ []) same
take_one (y ∷ xs) (suc k) a h = let next : suc k + 1 ≡ suc (k + 1) = omega arith in ap (λ (n : ℕ). take n (y ∷ xs)) next ∙ ap (λ zs. y ∷ zs) (take_one xs k a h)

pub get_is : (xs : List TimedAccess) (k : ℕ) (a d : TimedAccess) → slice_get xs k ≡ Some a → get_or xs k d ≡ a
get_is [] k a d h = absurd (cc)
get_is (y ∷ xs) zero a d h = let same : y ≡ a = cc in same
get_is (y ∷ xs) (suc k) a d h = get_is xs k a d h

pub get_some : (xs : List TimedAccess) (k : ℕ) → k < length xs → (a : TimedAccess) × (slice_get xs k ≡ Some a)
get_some [] k h = absurd (omega arith)
get_some (y ∷ xs) zero h = (y, refl)
get_some (y ∷ xs) (suc k) h = get_some xs k (omega arith)

-- what planned accesses leave, the meaning leaves
pub timed_is : (time : ℕ) (done : List TimedAccess) (xs : List Accessed) (blocks : Blocks) → map placed done ≡ map (placed_at time) xs → after_timed blocks done ≡ after_accesses blocks xs
unfolding after_accesses
timed_is time [] [] blocks same = refl
timed_is time [] (x ∷ xs) blocks same = absurd (cc)
timed_is time (a ∷ done) [] blocks same = absurd (cc)
timed_is time (a ∷ done) (x ∷ xs) blocks same =
    let both = placed_same (placed a) (placed_at time x) (map placed done) (map (placed_at time) xs) same in
    let here : with_block blocks a.access.space a.access.pointer a.access.new ≡ with_block blocks x.space x.pointer x.new = ap (λ (p : Placed). with_block blocks p.space p.pointer p.new) both.0 in
    ap (λ (b : Blocks). after_timed b done) here ∙ timed_is time done xs (with_block blocks x.space x.pointer x.new) both.1
