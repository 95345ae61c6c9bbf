-- Segments that were read one after another, and what is kept of them.
use Rattle.std.proofs.Common.{◌≡◌, ℕ, zero, suc, ◌+◌, ◌-◌, ◌*◌, ◌<◌, ◌≤◌, Bool, true, false, List, [], ◌∷◌, ◌++◌, length, map, Option, Some, None, Result, Ok, Err, refl, sym, ap, subst, ◌∙◌, arith, append_assoc, append-nil, length-append, nat_eq, cond}
use Rattle.std.specs.List.{AllByRecursion}
use Rattle.std.proofs.lemmas.Bool.{eq-eqb, ne_eqb}
use Rattle.elf_image.specs.Loaded.{Loaded}
use Rattle.readings.specs.Readings.{Rest, Reading, by_mark, chain, listed, unless}
use Rattle.readings.specs.declared.Stop.{Stop}
use Rattle.readings.proofs.Gives.{state_after}
use Rattle.readings.proofs.Listed.{marked}
use Rattle.vm_host.specs.declared.Slot.TheVariants.{Second}
use Rattle.vm_host.specs.State.{HostState}
use Rattle.vm_isa.specs.declared.instr.VmInstr.{VmInstr}
use Rattle.vm_trace.specs.File.{Segment}
use Rattle.vm_trace.specs.Limits.{limits_of}
use Rattle.vm_transpile.specs.Program.{program_of}
use Rattle.air_core.specs.ListLemmas.{all_left, all_right}
use Rattle.air_core.specs.System.{System}
use Rattle.page_tree.specs.Tree.{Leaves, node, root}
use Rattle.acceptance.specs.Accepts.{shape_of}
use Rattle.acceptance.specs.Spelled.{HintEvent, Word, NextFrame, SegmentSpells, Spell, hints_before, low_byte}
use Rattle.table_format.specs.declared.reason.Reason.{Reason}
use Rattle.table_format.specs.declared.reason.Reason.TheVariants as reason
use Rattle.table_format.specs.Order.{Stand, first_stand, next_stand, stand_after, flag, segment}
use Rattle.table_format.specs.Stream.{Held}
use Rattle.table_format.proofs.Drawn.{Drew, Halts, drew_none, drew_more}
use Rattle.vm_checker.specs.declared.Before.{Before}
use Rattle.vm_checker.specs.declared.chain.Chain.{Chain}
use Rattle.vm_checker.specs.Chain.{IsEmptyChain, GoesOn, HasRows, KeepsSegments}
use Rattle.vm_checker.specs.FirstReason.{claim_test, closed_test, early_test, file_tests, follows_test, open_test, says_end, segment_alone, start_behind}
use Rattle.vm_checker.specs.Items.{mark_of, more_test, segments_of}
use Rattle.vm_checker.proofs.Bridge.{segment_is, drew_as, halts_as}
use Rattle.vm_checker.proofs.Marks.{drew_passed, may_at, mark_halts, value_halts, drew_marked, halts_behind, drew_end}

-- ---- where a segment stands

pub stand_is : (at : Stand) (ss : List Segment) → state_after next_stand at ss ≡ stand_after at ss
stand_is at [] = refl
stand_is at (s ∷ ss) = stand_is (next_stand at s) ss

stand_more : (at : Stand) (ss : List Segment) (s : Segment) → stand_after at (ss ++ s ∷ []) ≡ next_stand (stand_after at ss) s
stand_more at [] s = refl
stand_more at (q ∷ ss) s = stand_more (next_stand at q) ss s

stand_number : (at : Stand) (ss : List Segment) → (stand_after at ss).number ≡ at.number + length ss
stand_number at [] = omega arith
stand_number at (s ∷ ss) = stand_number (next_stand at s) ss ∙ omega arith

-- ---- hints

before_both : (a b : List HintEvent) → hints_before (a ++ b) [] ≡ hints_before a [] ++ hints_before b []
before_both [] b = refl
before_both (Word word ∷ a) b = ap (λ (bytes : List ℕ). map low_byte word ++ bytes) (before_both a b) ∙ sym (append_assoc (map low_byte word) (hints_before a []) (hints_before b []))
before_both (NextFrame ∷ a) b = before_both a b

spell_more : (x : System) (ss : List Segment) (s : Segment) (a b : List HintEvent) → Spell x ss a → SegmentSpells x s b → Spell x (ss ++ s ∷ []) (a ++ b)
spell_more x [] s a b h k = (b, [], k, ap (λ (e : List HintEvent). e ++ b) h ∙ sym (append-nil b), refl)
spell_more x (q ∷ ss) s a b h k =
    (h.0, h.1 ++ b, h.2, ap (λ (e : List HintEvent). e ++ b) h.3 ∙ append_assoc h.0 h.1 b, spell_more x ss s h.1 b h.4 k)

-- ---- what is kept

module _ (x : System) (image : Loaded) where
  begun : (k : Chain) → IsEmptyChain image k → KeepsSegments x image [] k
  begun k h = record { next = h.next; ended = h.ended; number = h.number; hints = λ _. ([], refl, h.hints) }

  one_more : (ss : List Segment) (s : Segment) (old new : Chain) → KeepsSegments x image ss old → GoesOn x s old new → KeepsSegments x image (ss ++ s ∷ []) new
  one_more ss s old new h k = record {
    next = k.next ∙ sym (ap (λ (at : Stand). start_behind image at.before) (stand_more first_stand ss s));
    ended = k.ended ∙ sym (ap (λ (at : Stand). says_end at.before) (stand_more first_stand ss s));
    number = omega (arith, k.number, h.number, length-append ss (s ∷ []));
    hints = λ rows.
        let a = h.hints (all_left (HasRows x) ss (s ∷ []) rows) in
        let b = k.hints (all_right (HasRows x) ss (s ∷ []) rows).0 in
        (a.0 ++ b.0, spell_more x ss s a.0 b.0 a.1 b.1, b.2 ∙ ap (λ (bytes : List ℕ). bytes ++ hints_before b.0 []) a.2 ∙ sym (before_both a.0 b.0));
  }

-- ---- turns

below_most : (ended : Bool) (n : ℕ) → n < 4096 → more_test ended n ≡ early_test ended n
below_most ended n low = rw (ne_eqb n 4096 (λ e. omega (arith, e, low))) refl

module _ (x : System) (image : Loaded) (version : ℕ) where
  abbrev full : Reason
  full = reason.TooManySegments

  abbrev each : Stand → Reading Reason Segment
  each = segment (limits_of version) (shape_of x image) (file_tests x image)

  abbrev each_marked : Stand → Reading Reason Segment
  each_marked = marked full follows_test closed_test flag each next_stand

  -- so many were read, and this is kept
  pub record ChainSo (count : ℕ) (a b : Held) (s t : HostState) (k : Chain) : Type 0 where
    pub given : List Segment
    pub many : length given ≡ count
    pub drew : Drew (chain each_marked next_stand count first_stand) a b s t given
    pub is : KeepsSegments x image given k

  pub chain_begins : (a : Held) (s : HostState) (k : Chain) → (s.input Second).is_open ≡ true → IsEmptyChain image k → ChainSo 0 a a s s k
  chain_begins a s k is_open h = record { given = []; many = refl; drew = drew_none each_marked next_stand first_stand a s is_open; is = begun x image k h }

  -- the stand behind them
  abbrev here : List Segment → Stand
  here ss = state_after next_stand first_stand ss

  -- the tests of a mark there
  may_here : (m : ℕ) (ss : List Segment) (k : Chain) → KeepsSegments x image ss k → k.segments + m ≡ 4096 → more_test k.ended k.segments ≡ may_at full follows_test closed_test flag each next_stand m (here ss)
  may_here zero ss k is sum =
      let same : k.segments ≡ 4096 = omega (arith, sum) in
      rw (eq-eqb k.segments 4096 same) refl
  may_here (suc m) ss k is sum =
      let low : k.segments < 4096 = omega (arith, sum) in
      let number : k.segments ≡ (here ss).number = is.number ∙ sym (ap (λ (at : Stand). at.number) (stand_is first_stand ss) ∙ stand_number first_stand ss ∙ omega arith) in
      let ended : k.ended ≡ says_end (here ss).before = is.ended ∙ sym (ap (λ (at : Stand). says_end at.before) (stand_is first_stand ss)) in
      below_most k.ended k.segments low ∙ ap (λ (b : Bool). early_test b k.segments) ended ∙ ap (early_test (says_end (here ss).before)) number

  ended_here : (ss : List Segment) (k : Chain) → KeepsSegments x image ss k → k.ended ≡ says_end (here ss).before
  ended_here ss k is = is.ended ∙ sym (ap (λ (at : Stand). says_end at.before) (stand_is first_stand ss))

  abbrev test_of : Option Reason → Option Reason → Reading Reason Bool
  test_of more none = unless (by_mark more none) flag

  -- one reading in place of another that is the same
  mark_here : (m : ℕ) (ss : List Segment) (k : Chain) → KeepsSegments x image ss k → k.segments + m ≡ 4096
      → mark_of k.ended k.segments ≡ test_of (may_at full follows_test closed_test flag each next_stand m (here ss)) (closed_test (here ss))
  mark_here m ss k is sum =
      ap (λ (more : Option Reason). test_of more (open_test k.ended)) (may_here m ss k is sum)
      ∙ ap (λ (ended : Bool). test_of (may_at full follows_test closed_test flag each next_stand m (here ss)) (open_test ended)) (ended_here ss k is)

  -- a segment there, alone and among the others
  same_segment : (at : Stand) (s : Rest) → segment_alone x (program_of image) version (Some (start_behind image at.before)) at.number s ≡ each at s
  same_segment at s =
      sym (segment_is x (program_of image) (λ any. Some (start_behind image at.before)) (λ any. None) (λ any. None) (λ any f. None) (limits_of version) (record { number = at.number; before = [] }) s)
      ∙ segment_is x (program_of image) (λ any. Some (start_behind image any.before)) follows_test closed_test (claim_test image) (limits_of version) at s

  alone_here : (p : List VmInstr) (ss : List Segment) (k : Chain) → p ≡ program_of image → KeepsSegments x image ss k
      → segment_alone x p version (Some k.next) k.segments ≡ segment_alone x (program_of image) version (Some (start_behind image (here ss).before)) (here ss).number
  alone_here p ss k e is =
      let next : k.next ≡ start_behind image (here ss).before = is.next ∙ sym (ap (λ (at : Stand). start_behind image at.before) (stand_is first_stand ss)) in
      let number : k.segments ≡ (here ss).number = is.number ∙ sym (ap (λ (at : Stand). at.number) (stand_is first_stand ss) ∙ stand_number first_stand ss ∙ omega arith) in
      ap (λ (q : List VmInstr). segment_alone x q version (Some k.next) k.segments) e
      ∙ ap (λ (b : Before). segment_alone x (program_of image) version (Some b) k.segments) next
      ∙ ap (segment_alone x (program_of image) version (Some (start_behind image (here ss).before))) number

  module _ {count : ℕ} {a b : Held} {s t : HostState} {k : Chain} (h : ChainSo count a b s t k) where
    counted : (m : ℕ) → count + m ≡ 4096 → k.segments + m ≡ 4096
    counted m sum = omega (arith, sum, h.many, h.is.number)

    pub none_may : count ≡ 4096 → more_test k.ended k.segments ≡ None → ⊥
    none_may e h' =
        let same : k.segments ≡ 4096 = omega (arith, e, h.many, h.is.number) in
        let some : Some full ≡ more_test k.ended k.segments = rw (eq-eqb k.segments 4096 same) refl in
        absurd cc

    -- behind as many as there may be none follows
    pub last_mark : count ≡ 4096 → (more : Bool) → by_mark (more_test k.ended k.segments) (open_test k.ended) more ≡ None → more ≡ false
    last_mark e true passes = absurd (none_may e passes)
    last_mark e false passes = refl

    pub chain_mark_halts : count ≤ 4096 → {c : Held} {u : HostState} {e : Stop Reason} → Halts (mark_of k.ended k.segments) b c t u e → Halts (segments_of x image version) a c s u e
    chain_mark_halts low {c} {u} {e} stopped =
        let m = 4096 - count in
        let sum : count + m ≡ 4096 = omega (arith, low) in
        let tested = subst (λ (r : Reading Reason Bool). Halts r b c t u e) (mark_here m h.given k h.is (counted m sum)) stopped in
        subst (λ (n : ℕ). Halts (listed full follows_test closed_test flag each next_stand n first_stand) a c s u e) sum
        (halts_behind full follows_test closed_test flag each next_stand count m first_stand h.drew (mark_halts full follows_test closed_test flag each next_stand m (here h.given) tested))

    -- a mark that one more follows
    follows_here : count < 4096 → more_test k.ended k.segments ≡ None → follows_test (here h.given) ≡ None
    follows_here low passes =
        let m = 4095 - count in
        let sum : count + suc m ≡ 4096 = omega (arith, low) in
        sym (may_here (suc m) h.given k h.is (counted (suc m) sum)) ∙ passes

    module _ (low : count < 4096) {c : Held} {u : HostState} (passes : more_test k.ended k.segments ≡ None) (mark : Drew (mark_of k.ended k.segments) b c t u true) (p : List VmInstr) (e : p ≡ program_of image) {d : Held} {w : HostState} where
      pub chain_more : (seg : Segment) (new : Chain) → Drew (segment_alone x p version (Some k.next) k.segments) c d u w seg → GoesOn x seg k new → ChainSo (count + 1) a d s w new
      chain_more seg new drew goes =
          let alone = subst (λ (r : Reading Reason Segment). Drew r c d u w seg) (alone_here p h.given k e h.is) drew in
          record {
            given = h.given ++ seg ∷ [];
            many = omega (arith, length-append h.given (seg ∷ []), h.many);
            drew = drew_more each_marked next_stand first_stand count h.drew
                (drew_marked full follows_test closed_test flag each next_stand (follows_here low passes) (drew_passed (by_mark (more_test k.ended k.segments) (open_test k.ended)) mark) (drew_as (same_segment (here h.given)) alone));
            is = one_more x image h.given seg k new h.is goes;
          }

      pub chain_segment_halts : {stop : Stop Reason} → Halts (segment_alone x p version (Some k.next) k.segments) c d u w stop → Halts (segments_of x image version) a d s w stop
      chain_segment_halts {stop} stopped =
          let m = 4095 - count in
          let sum : count + suc m ≡ 4096 = omega (arith, low) in
          let alone = subst (λ (r : Reading Reason Segment). Halts r c d u w stop) (alone_here p h.given k e h.is) stopped in
          subst (λ (n : ℕ). Halts (listed full follows_test closed_test flag each next_stand n first_stand) a d s w stop) sum
          (halts_behind full follows_test closed_test flag each next_stand count (suc m) first_stand h.drew
          (value_halts full follows_test closed_test flag each next_stand m (follows_here low passes) (drew_passed (by_mark (more_test k.ended k.segments) (open_test k.ended)) mark) (halts_as (same_segment (here h.given)) alone)))

    -- a mark that none follows
    pub chain_ends : count ≤ 4096 → {c : Held} {u : HostState} → open_test k.ended ≡ None → Drew (mark_of k.ended k.segments) b c t u false → Drew (segments_of x image version) a c s u h.given
    chain_ends low {c} {u} passes mark =
        let m = 4096 - count in
        let sum : count + m ≡ 4096 = omega (arith, low) in
        let closed : closed_test (here h.given) ≡ None = sym (ap open_test (ended_here h.given k h.is)) ∙ passes in
        subst (λ (n : ℕ). Drew (listed full follows_test closed_test flag each next_stand n first_stand) a c s u h.given) sum
        (drew_end full follows_test closed_test flag each next_stand count m first_stand h.drew (drew_passed (by_mark (more_test k.ended k.segments) (open_test k.ended)) mark) closed)
