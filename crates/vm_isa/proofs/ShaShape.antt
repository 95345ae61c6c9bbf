-- The accesses of a SHA block: reads at many places, and then writes at places that differ.
use Rattle.std.proofs.Common.{◌≡◌, ℕ, zero, suc, ◌+◌, ◌*◌, ◌<◌, ◌≤◌, Bool, true, false, ◌&&◌, nat_eq, List, [], ◌∷◌, ◌++◌, length, map, take, drop, refl, sym, ap, ◌∙◌, subst, arith, if◌then◌else◌, length-drop, length-take-le}
use Rattle.std.specs.List.{AllByRecursion, range_with_len}
use Rattle.std.proofs.lemmas.Bool.Decides.{nat_tests}
use Rattle.std.proofs.lemmas.List.{take-append-drop}
use Rattle.vm_word.specs.Word.{word_of_limbs}
use Rattle.vm_word.specs.Arithmetic.{word_sum}
use Rattle.vm_isa.specs.declared.instr.VmInstr.{VmInstr}
use Rattle.vm_isa.specs.declared.meaning.Place.{Place}
use Rattle.vm_isa.specs.Means.{Accessed, accessed_by, is_refused, memory, memory_from, new_at, place, places_by, places_of, sha_places, word_at}
use Rattle.vm_isa.specs.Blocks.{Blocks, VmState, Meets, after_accesses, hints_used, with_block}
use Rattle.vm_isa.proofs.ReadsKept.{look, read_met, read_meets, after_read}
use Rattle.vm_isa.proofs.RowSteps.{accesses_of, Can}
use Rattle.vm_isa.proofs.Shapes.{is_at_block, access}

-- ---- over a range

pub all_range : {X : Type 0} (P : X → Type 0) (f : ℕ → X) (a n : ℕ) → ((j : ℕ) → a ≤ j → j < a + n → P (f j)) → AllByRecursion P (map f (range_with_len a n))
all_range P f a zero h = tt
all_range P f a (suc n) h = (h a (omega arith) (omega arith), all_range P f (a + 1) n (λ j low high. h j (omega arith) (omega arith)))

range_by : {X : Type 0} (P : X → Type 0) (f : ℕ → X) (a j : ℕ) (b : Bool) → nat_eq a j ≡ b → P (f a) → ((a ≡ j → ⊥) → P (f j)) → P (f j)
range_by P f a j true e here more = let same : a ≡ j = grind (arith, nat_tests) in subst (λ k. P (f k)) same here
range_by P f a j false e here more = more (λ same. grind (arith, nat_tests))

pub range_all : {X : Type 0} (P : X → Type 0) (f : ℕ → X) (a n j : ℕ) → AllByRecursion P (map f (range_with_len a n)) → a ≤ j → j < a + n → P (f j)
range_all P f a zero j h low high = absurd (omega arith)
range_all P f a (suc n) j h low high = range_by P f a j (nat_eq a j) refl h.0 (λ other. range_all P f (a + 1) n j h.1 (omega arith) (omega arith))

-- ---- reads

unfoldable pub Quiet : (ℕ → List ℕ → List ℕ) → Place → Type 0
Quiet new p = (x : List ℕ) → new p.slot x ≡ x

On : Place → Type 0
On p = is_at_block p ≡ true

reads_met : (blocks : Blocks) (new : ℕ → List ℕ → List ℕ) (ps : List Place) (xs : List (List ℕ)) (more : List Accessed) → AllByRecursion (Quiet new) ps → length xs ≡ length ps
    → Meets blocks (accessed_by new ps xs ++ more) → AllByRecursion On ps × (xs ≡ map (look blocks) ps) × Meets blocks more
unfolding accessed_by Quiet On
reads_met blocks new [] [] more quiet long h = (tt, refl, h)
reads_met blocks new [] (x ∷ xs) more quiet long h = absurd (omega arith)
reads_met blocks new (p ∷ ps) [] more quiet long h = absurd (omega arith)
reads_met blocks new (p ∷ ps) (x ∷ xs) more quiet long h =
    let first = read_met blocks (access new p x) (accessed_by new ps xs ++ more) (quiet.0 x) h in
    let rest = reads_met blocks new ps xs more quiet.1 (omega arith) first.2 in
    ((first.0, rest.0), ap (λ (w : List ℕ). w ∷ xs) (sym first.1) ∙ ap (λ (ws : List (List ℕ)). look blocks p ∷ ws) rest.1, rest.2)

reads_meet : (blocks : Blocks) (new : ℕ → List ℕ → List ℕ) (ps : List Place) (more : List Accessed) → AllByRecursion (Quiet new) ps → AllByRecursion On ps
    → Meets blocks more → Meets blocks (accessed_by new ps (map (look blocks) ps) ++ more)
unfolding accessed_by Quiet On
reads_meet blocks new [] more quiet on h = h
reads_meet blocks new (p ∷ ps) more quiet on h =
    read_meets blocks (access new p (look blocks p)) (accessed_by new ps (map (look blocks) ps) ++ more) (quiet.0 _) on.0 refl (reads_meet blocks new ps more quiet.1 on.1 h)

after_reads : (blocks : Blocks) (new : ℕ → List ℕ → List ℕ) (ps : List Place) (more : List Accessed) → AllByRecursion (Quiet new) ps
    → after_accesses blocks (accessed_by new ps (map (look blocks) ps) ++ more) ≡ after_accesses blocks more
unfolding accessed_by Quiet
after_reads blocks new [] more quiet = refl
after_reads blocks new (p ∷ ps) more quiet =
    after_read blocks (access new p (look blocks p)) (accessed_by new ps (map (look blocks) ps) ++ more) (quiet.0 _) refl ∙ after_reads blocks new ps more quiet.1

-- ---- writes

unfoldable pub Apart : Place → Place → Type 0
Apart p q = q.pointer ≡ p.pointer → ⊥

unfoldable pub Separate : List Place → Type 0
Separate [] = Unit {0}
Separate (p ∷ ps) = AllByRecursion (Apart p) ps × Separate ps

elsewhere_by : (blocks : Blocks) (s p s' p' : ℕ) (word : List ℕ) (x y : Bool) → nat_eq p' p ≡ y → (p' ≡ p → ⊥) → (if x && y then word else blocks s' p') ≡ blocks s' p'
elsewhere_by blocks s p s' p' word true true e other = absurd (other (grind (arith, nat_tests)))
elsewhere_by blocks s p s' p' word true false e other = refl
elsewhere_by blocks s p s' p' word false y e other = refl

looks_same : (blocks : Blocks) (p : Place) (word : List ℕ) (ps : List Place) → AllByRecursion (Apart p) ps → map (look (with_block blocks p.space p.pointer word)) ps ≡ map (look blocks) ps
unfolding Apart
looks_same blocks p word [] apart = refl
looks_same blocks p word (q ∷ ps) apart =
    let here : look (with_block blocks p.space p.pointer word) q ≡ look blocks q = elsewhere_by blocks p.space p.pointer q.space q.pointer word (nat_eq q.space p.space) (nat_eq q.pointer p.pointer) refl apart.0 in
    ap (λ (w : List ℕ). w ∷ map (look (with_block blocks p.space p.pointer word)) ps) here ∙ ap (λ (ws : List (List ℕ)). look blocks q ∷ ws) (looks_same blocks p word ps apart.1)

writes_met : (blocks : Blocks) (new : ℕ → List ℕ → List ℕ) (ps : List Place) (xs : List (List ℕ)) → Separate ps → length xs ≡ length ps
    → Meets blocks (accessed_by new ps xs) → AllByRecursion On ps × (xs ≡ map (look blocks) ps)
unfolding accessed_by Meets On Separate
writes_met blocks new [] [] separate long h = (tt, refl)
writes_met blocks new [] (x ∷ xs) separate long h = absurd (omega arith)
writes_met blocks new (p ∷ ps) [] separate long h = absurd (omega arith)
writes_met blocks new (p ∷ ps) (x ∷ xs) separate long h =
    let rest = writes_met (with_block blocks p.space p.pointer (new p.slot x)) new ps xs separate.1 (omega arith) h.2 in
    let same : xs ≡ map (look blocks) ps = rest.1 ∙ looks_same blocks p (new p.slot x) ps separate.0 in
    ((h.0, rest.0), ap (λ (w : List ℕ). w ∷ xs) (sym h.1) ∙ ap (λ (ws : List (List ℕ)). look blocks p ∷ ws) same)

writes_meet : (blocks : Blocks) (new : ℕ → List ℕ → List ℕ) (ps : List Place) → Separate ps → AllByRecursion On ps → Meets blocks (accessed_by new ps (map (look blocks) ps))
unfolding accessed_by Meets On Separate
writes_meet blocks new [] separate on = tt
writes_meet blocks new (p ∷ ps) separate on =
    let after = with_block blocks p.space p.pointer (new p.slot (look blocks p)) in (
      on.0,
      refl,
      subst (λ (ws : List (List ℕ)). Meets after (accessed_by new ps ws)) (looks_same blocks p (new p.slot (look blocks p)) ps separate.0) (writes_meet after new ps separate.1 on.1),
    )

-- ---- one list after another

accessed-none : (new : ℕ → List ℕ → List ℕ) (qs : List Place) → accessed_by new qs [] ≡ []
unfolding accessed_by
accessed-none new [] = refl
accessed-none new (q ∷ qs) = refl

accessed-append : (new : ℕ → List ℕ → List ℕ) (ps qs : List Place) (xs : List (List ℕ)) → accessed_by new (ps ++ qs) xs ≡ accessed_by new ps (take (length ps) xs) ++ accessed_by new qs (drop (length ps) xs)
unfolding accessed_by
accessed-append new [] qs xs = refl
accessed-append new (p ∷ ps) qs [] = sym (accessed-none new qs)
accessed-append new (p ∷ ps) qs (x ∷ xs) = ap (λ (more : List Accessed). access new p x ∷ more) (accessed-append new ps qs xs)

-- ---- the row

-- two words, and what stands at the places of the block and of the state
abbrev pub sha_olds : Blocks → List ℕ → List ℕ → ℕ → ℕ → List (List ℕ)
sha_olds blocks X Y b c = X ∷ Y ∷ (map (look blocks) (memory_from 2 c 16) ++ map (look blocks) (memory_from 18 b 8))

separate_range : (f : ℕ → Place) (a n : ℕ) → ((j k : ℕ) → a ≤ j → j < k → k < a + n → (f k).pointer ≡ (f j).pointer → ⊥) → Separate (map f (range_with_len a n))
unfolding Separate Apart
separate_range f a zero h = tt
separate_range f a (suc n) h = (
  all_range (λ q. q.pointer ≡ (f a).pointer → ⊥) f (a + 1) n (λ j low high. h a j (omega arith) (omega arith) (omega arith)),
  separate_range f (a + 1) n (λ j k low less high. h j k (omega arith) less (omega arith)),
)

pub state_separate : (b : ℕ) → Separate (memory_from 18 b 8)
state_separate b = separate_range (λ j. memory (18 + j) (word_sum b (4 * j))) 0 8 (λ j k low less high same. omega (arith, same))

module _ (i : VmInstr) (s : VmState) (pl : (b c : ℕ) → places_by i b c ≡ sha_places i b c)
    (quiet : (olds : List (List ℕ)) (given x : List ℕ) (slot : ℕ) → slot < 18 → new_at i olds given slot x ≡ x) where
  block_quiet : (olds : List (List ℕ)) (given : List ℕ) (c : ℕ) → AllByRecursion (Quiet (new_at i olds given)) (memory_from 2 c 16)
  unfolding Quiet
  block_quiet olds given c = all_range (λ p. (x : List ℕ) → new_at i olds given p.slot x ≡ x) (λ j. memory (2 + j) (word_sum c (4 * j))) 0 16 (λ j low high x. quiet olds given x (2 + j) (omega arith))

  sha_long : (olds : List (List ℕ)) → Can i s olds → length olds ≡ 26
  sha_long olds can = can.long ∙ ap (λ (ps : List Place). length ps) (pl _ _)

  -- the accesses behind the first two
  behind : (olds zs : List (List ℕ)) (given : List ℕ) (b c : ℕ)
      → accessed_by (new_at i olds given) (memory_from 2 c 16 ++ memory_from 18 b 8) zs
      ≡ accessed_by (new_at i olds given) (memory_from 2 c 16) (take 16 zs) ++ accessed_by (new_at i olds given) (memory_from 18 b 8) (drop 16 zs)
  behind olds zs given b c = accessed-append (new_at i olds given) (memory_from 2 c 16) (memory_from 18 b 8) zs

  record Parts (x y : List ℕ) (zs : List (List ℕ)) (olds : List (List ℕ)) : Type 0 where
    first : look s.blocks (place 0 1 (4 * i.rd)) ≡ x
    second : look s.blocks (place 1 1 (4 * i.rs1)) ≡ y
    block_on : AllByRecursion On (memory_from 2 (word_of_limbs y) 16)
    state_on : AllByRecursion On (memory_from 18 (word_of_limbs x) 8)
    words : zs ≡ map (look s.blocks) (memory_from 2 (word_of_limbs y) 16) ++ map (look s.blocks) (memory_from 18 (word_of_limbs x) 8)

  parts : (x y : List ℕ) (zs : List (List ℕ)) → Can i s (x ∷ y ∷ zs) → Parts x y zs (x ∷ y ∷ zs)
  unfolding accessed_by word_at
  parts x y zs can =
      let olds : List (List ℕ) = x ∷ y ∷ zs in
      let b : ℕ = word_of_limbs x in
      let c : ℕ = word_of_limbs y in
      let new = new_at i olds (take 4 s.hints) in
      let long : length olds ≡ 26 = sha_long olds can in
      let rest : length zs ≡ 24 = omega arith in
      let meets = subst (λ (ps : List Place). Meets s.blocks (accessed_by new ps olds)) (pl b c) can.meets in
      let one = read_met s.blocks (access new (place 0 1 (4 * i.rd)) x) (access new (place 1 1 (4 * i.rs1)) y ∷ accessed_by new (memory_from 2 c 16 ++ memory_from 18 b 8) zs) (quiet olds (take 4 s.hints) x 0 (omega arith)) meets in
      let two = read_met s.blocks (access new (place 1 1 (4 * i.rs1)) y) (accessed_by new (memory_from 2 c 16 ++ memory_from 18 b 8) zs) (quiet olds (take 4 s.hints) y 1 (omega arith)) one.2 in
      let both = subst (Meets s.blocks) (behind olds zs (take 4 s.hints) b c) two.2 in
      let short : length (take 16 zs) ≡ 16 = length-take-le 16 zs (omega arith) in
      let left : length (drop 16 zs) ≡ 8 = omega (arith, length-drop 16 zs) in
      let reads = reads_met s.blocks new (memory_from 2 c 16) (take 16 zs) (accessed_by new (memory_from 18 b 8) (drop 16 zs)) (block_quiet olds (take 4 s.hints) c) short both in
      let writes = writes_met s.blocks new (memory_from 18 b 8) (drop 16 zs) (state_separate b) left reads.2 in
      record {
        first = one.1;
        second = two.1;
        block_on = reads.0;
        state_on = writes.0;
        words = sym (take-append-drop 16 zs) ∙ ap (λ (ws : List (List ℕ)). ws ++ drop 16 zs) reads.1 ∙ ap (λ (ws : List (List ℕ)). map (look s.blocks) (memory_from 2 c 16) ++ ws) writes.1;
      }

  module _ (X Y : List ℕ) (b c : ℕ) (hx : look s.blocks (place 0 1 (4 * i.rd)) ≡ X) (hb : word_of_limbs X ≡ b) (hy : look s.blocks (place 1 1 (4 * i.rs1)) ≡ Y) (hc : word_of_limbs Y ≡ c) where
    forced_by : (x y : List ℕ) (zs : List (List ℕ)) → Parts x y zs (x ∷ y ∷ zs) → let xs : List (List ℕ) = x ∷ y ∷ zs in xs ≡ sha_olds s.blocks X Y b c
    forced_by x y zs p =
        let same_x : x ≡ X = sym p.first ∙ hx in
        let same_y : y ≡ Y = sym p.second ∙ hy in
        let state : word_of_limbs x ≡ b = ap word_of_limbs same_x ∙ hb in
        let block : word_of_limbs y ≡ c = ap word_of_limbs same_y ∙ hc in
        let rest : zs ≡ map (look s.blocks) (memory_from 2 c 16) ++ map (look s.blocks) (memory_from 18 b 8) =
        p.words ∙ ap (λ (n : ℕ). map (look s.blocks) (memory_from 2 n 16) ++ map (look s.blocks) (memory_from 18 (word_of_limbs x) 8)) block
        ∙ ap (λ (n : ℕ). map (look s.blocks) (memory_from 2 c 16) ++ map (look s.blocks) (memory_from 18 n 8)) state in
        λ j. same_x j ∷ same_y j ∷ rest j

    pub sha_forced : (olds : List (List ℕ)) → Can i s olds → olds ≡ sha_olds s.blocks X Y b c
    sha_forced [] can = let long = sha_long [] can in absurd (omega arith)
    sha_forced (x ∷ []) can = let long : length (x ∷ []) ≡ 26 = sha_long (x ∷ []) can in absurd (omega arith)
    sha_forced (x ∷ y ∷ zs) can = forced_by x y zs (parts x y zs can)

    pub sha_blocks : Can i s (sha_olds s.blocks X Y b c) → ((j : ℕ) → j < 16 → is_at_block (memory (2 + j) (word_sum c (4 * j))) ≡ true) × ((j : ℕ) → j < 8 → is_at_block (memory (18 + j) (word_sum b (4 * j))) ≡ true)
    unfolding On
    sha_blocks can =
        let p = parts X Y (map (look s.blocks) (memory_from 2 c 16) ++ map (look s.blocks) (memory_from 18 b 8)) can in
        let block = subst (λ (n : ℕ). AllByRecursion On (memory_from 2 n 16)) hc p.block_on in
        let state = subst (λ (n : ℕ). AllByRecursion On (memory_from 18 n 8)) hb p.state_on in (
          λ j low. range_all On (λ j. memory (2 + j) (word_sum c (4 * j))) 0 16 j block (omega arith) (omega arith),
          λ j low. range_all On (λ j. memory (18 + j) (word_sum b (4 * j))) 0 8 j state (omega arith) (omega arith),
        )

    sha_are : places_of i (sha_olds s.blocks X Y b c) ≡ sha_places i b c
    unfolding word_at
    sha_are = pl (word_of_limbs X) (word_of_limbs Y) ∙ ap (λ (n : ℕ). sha_places i n (word_of_limbs Y)) hb ∙ ap (λ (n : ℕ). sha_places i b n) hc

    pub sha_can : is_refused i (sha_olds s.blocks X Y b c) ≡ false → is_at_block (place 0 1 (4 * i.rd)) ≡ true → is_at_block (place 1 1 (4 * i.rs1)) ≡ true
        → ((j : ℕ) → j < 16 → is_at_block (memory (2 + j) (word_sum c (4 * j))) ≡ true) → ((j : ℕ) → j < 8 → is_at_block (memory (18 + j) (word_sum b (4 * j))) ≡ true)
        → hints_used i.op ≤ length s.hints → Can i s (sha_olds s.blocks X Y b c)
    unfolding accessed_by On
    sha_can fits on_d on_s block state enough =
        let olds : List (List ℕ) = sha_olds s.blocks X Y b c in
        let new = new_at i olds (take 4 s.hints) in
        let more : List Accessed = accessed_by new (memory_from 2 c 16 ++ memory_from 18 b 8) (map (look s.blocks) (memory_from 2 c 16) ++ map (look s.blocks) (memory_from 18 b 8)) in
        let writes = writes_meet s.blocks new (memory_from 18 b 8) (state_separate b) (all_range On (λ j. memory (18 + j) (word_sum b (4 * j))) 0 8 (λ j low high. state j (omega arith))) in
        let reads = reads_meet s.blocks new (memory_from 2 c 16) (accessed_by new (memory_from 18 b 8) (map (look s.blocks) (memory_from 18 b 8))) (block_quiet olds (take 4 s.hints) c)
        (all_range On (λ j. memory (2 + j) (word_sum c (4 * j))) 0 16 (λ j low high. block j (omega arith))) writes in
        let all : Meets s.blocks more = subst (Meets s.blocks) (sym (behind olds (map (look s.blocks) (memory_from 2 c 16) ++ map (look s.blocks) (memory_from 18 b 8)) (take 4 s.hints) b c)) reads in
        record {
          fits = fits;
          long = sym (ap (λ (ps : List Place). length ps) sha_are);
          meets = subst (λ (ps : List Place). Meets s.blocks (accessed_by new ps olds)) (sym sha_are)
              (read_meets s.blocks (access new (place 0 1 (4 * i.rd)) X) (access new (place 1 1 (4 * i.rs1)) Y ∷ more) (quiet olds (take 4 s.hints) X 0 (omega arith)) on_d hx
              (read_meets s.blocks (access new (place 1 1 (4 * i.rs1)) Y) more (quiet olds (take 4 s.hints) Y 1 (omega arith)) on_s hy all));
          enough = enough;
        }

    pub sha_after : (given : List ℕ) → after_accesses s.blocks (accesses_of i (sha_olds s.blocks X Y b c) given)
        ≡ after_accesses s.blocks (accessed_by (new_at i (sha_olds s.blocks X Y b c) given) (memory_from 18 b 8) (map (look s.blocks) (memory_from 18 b 8)))
    unfolding accessed_by
    sha_after given =
        let olds : List (List ℕ) = sha_olds s.blocks X Y b c in
        let new = new_at i olds given in
        let zs : List (List ℕ) = map (look s.blocks) (memory_from 2 c 16) ++ map (look s.blocks) (memory_from 18 b 8) in
        let more : List Accessed = accessed_by new (memory_from 2 c 16 ++ memory_from 18 b 8) zs in
        ap (λ (ps : List Place). after_accesses s.blocks (accessed_by new ps olds)) sha_are
        ∙ after_read s.blocks (access new (place 0 1 (4 * i.rd)) X) (access new (place 1 1 (4 * i.rs1)) Y ∷ more) (quiet olds given X 0 (omega arith)) hx
        ∙ after_read s.blocks (access new (place 1 1 (4 * i.rs1)) Y) more (quiet olds given Y 1 (omega arith)) hy
        ∙ ap (after_accesses s.blocks) (behind olds zs given b c)
        ∙ after_reads s.blocks new (memory_from 2 c 16) (accessed_by new (memory_from 18 b 8) (map (look s.blocks) (memory_from 18 b 8))) (block_quiet olds given c)
