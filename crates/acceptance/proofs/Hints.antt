-- What a meaning says of the word that the host gives.
use Rattle.std.proofs.Common.{◌≡◌, ℕ, false, nat_eq, List, [], ◌∷◌, length, map, refl, sym, ap, ◌∙◌, arith, Some, inl, inr}
use Rattle.std.specs.List.{AllByRecursion}
use Rattle.vm_isa.specs.declared.instr.VmInstr.{VmInstr}
use Rattle.vm_isa.specs.Means.{Accessed, Meaning, means_of, places_by, places_of, accessed_by, new_at, word_at}
use Rattle.vm_isa.proofs.GivenLaws.{means_same}
use Rattle.vm_isa.proofs.MeansLaws.{done_whole, whole}
use Rattle.vm_isa.proofs.NextLaws.{meant, is_done}
use Rattle.air_core.specs.Orders.{Member}
use Rattle.air_core.specs.Step.{Touched, FourEach, IsMeaning, accessed}
use Rattle.acceptance.proofs.Row.{slot_word}

-- only a HINT stores it
pub any_given : (i : VmInstr) (olds : List (List ℕ)) (given other : List ℕ) (m : Meaning) → nat_eq i.op 37 ≡ false → means_of i olds given ≡ Some m → means_of i olds other ≡ Some m
any_given i olds given other m none h = means_same i olds other given none ∙ h

pub hint_places : (i : VmInstr) (b c : ℕ) → i.op ≡ 37 → length (places_by i b c) ≡ 2
unfolding places_by
hint_places i b c h = rw h refl

abbrev pub olds_of : List Touched → List (List ℕ)
olds_of accesses = map (λ (a : Touched). a.old) accesses

-- the slot of an access, and its new word
abbrev slot_new : Accessed → ℕ × List ℕ
slot_new a = (a.slot, a.new)

-- what the two accesses of a HINT are
hint_accesses : (i : VmInstr) (x y : List ℕ) (given : List ℕ) → i.op ≡ 37 → map slot_new ((whole i (x ∷ y ∷ []) given).accesses) ≡ (0, x) ∷ (1, given) ∷ []
unfolding places_by accessed_by new_at
hint_accesses i x y given h = rw h refl

pairs : (a b : Touched) (x y : List ℕ) → map slot_new (map accessed (a ∷ b ∷ [])) ≡ (0, x) ∷ (1, y) ∷ [] → slot_word (a ∷ b ∷ []) ≡ y
pairs a b x y e =
    let first : (a.slot, a.new) ≡ (0, x) = cc in
    let second : (b.slot, b.new) ≡ (1, y) = cc in
    let zero_slot : a.slot ≡ 0 = ap (λ (t : ℕ × List ℕ). t.0) first in
    let one_slot : b.slot ≡ 1 = ap (λ (t : ℕ × List ℕ). t.0) second in
    rw (zero_slot, one_slot) (ap (λ (t : ℕ × List ℕ). t.1) second)

hint_word_by : (i : VmInstr) (next : ℕ) (accesses : List Touched) (given : List ℕ) → i.op ≡ 37 → length (olds_of accesses) ≡ 2
    → record { accesses = map accessed accesses; next = next } ≡ whole i (olds_of accesses) given → slot_word accesses ≡ given
hint_word_by i next [] given h two is = absurd (omega (arith, two))
hint_word_by i next (a ∷ []) given h two is = absurd (omega (arith, two))
hint_word_by i next (a ∷ b ∷ []) given h two is =
    pairs a b a.old given (ap (λ (m : Meaning). map slot_new m.accesses) is ∙ hint_accesses i a.old b.old given h)
hint_word_by i next (a ∷ b ∷ c ∷ more) given h two is = absurd (omega (arith, two))

-- the word that a HINT stores is that of its access in slot 1
pub hint_word : (i : VmInstr) (next : ℕ) (accesses : List Touched) (given : List ℕ) → i.op ≡ 37 → means_of i (olds_of accesses) given ≡ Some (record { accesses = map accessed accesses; next = next })
    → slot_word accesses ≡ given
hint_word i next accesses given h means =
    let is = meant i (olds_of accesses) given (record { accesses = map accessed accesses; next = next }) means in
    hint_word_by i next accesses given h (is.long ∙ hint_places i (word_at (olds_of accesses) 0) (word_at (olds_of accesses) 1) h) is.is

-- a HINT has accesses in two slots, so its word has four numbers
slot_four : (a b : Touched) (x y : List ℕ) → AllByRecursion FourEach (a ∷ b ∷ []) → map slot_new (map accessed (a ∷ b ∷ [])) ≡ (0, x) ∷ (1, y) ∷ [] → length y ≡ 4
slot_four a b x y four e =
    let second : (b.slot, b.new) ≡ (1, y) = cc in
    ap length (sym (ap (λ (t : ℕ × List ℕ). t.1) second)) ∙ four.1.0.new

hint_four_by : (i : VmInstr) (next : ℕ) (accesses : List Touched) (given : List ℕ) → i.op ≡ 37 → length (olds_of accesses) ≡ 2 → AllByRecursion FourEach accesses
    → record { accesses = map accessed accesses; next = next } ≡ whole i (olds_of accesses) given → length given ≡ 4
hint_four_by i next [] given h two four is = absurd (omega (arith, two))
hint_four_by i next (a ∷ []) given h two four is = absurd (omega (arith, two))
hint_four_by i next (a ∷ b ∷ []) given h two four is =
    slot_four a b a.old given four (ap (λ (m : Meaning). map slot_new m.accesses) is ∙ hint_accesses i a.old b.old given h)
hint_four_by i next (a ∷ b ∷ c ∷ more) given h two four is = absurd (omega (arith, two))

pub hint_four : (i : VmInstr) (next : ℕ) (accesses : List Touched) (given : List ℕ) → i.op ≡ 37 → AllByRecursion FourEach accesses
    → means_of i (olds_of accesses) given ≡ Some (record { accesses = map accessed accesses; next = next }) → length given ≡ 4
hint_four i next accesses given h four means =
    let is = meant i (olds_of accesses) given (record { accesses = map accessed accesses; next = next }) means in
    hint_four_by i next accesses given h (is.long ∙ hint_places i (word_at (olds_of accesses) 0) (word_at (olds_of accesses) 1) h) four is.is

-- ---- its access in memory

-- the access of a HINT that writes
pub record HintAccess (accesses : List Touched) : Type 0 where
  pub access : Touched
  pub stands : Member access accesses
  pub in_memory : access.space ≡ 2
  pub second : access.slot ≡ 1

abbrev slot_space : Accessed → ℕ × ℕ
slot_space a = (a.slot, a.space)

hint_spaces : (i : VmInstr) (x y : List ℕ) (given : List ℕ) → i.op ≡ 37 → map slot_space ((whole i (x ∷ y ∷ []) given).accesses) ≡ (0, 1) ∷ (1, 2) ∷ []
unfolding places_by accessed_by
hint_spaces i x y given h = rw h refl

hint_access_by : (i : VmInstr) (next : ℕ) (accesses : List Touched) (given : List ℕ) → i.op ≡ 37 → length (olds_of accesses) ≡ 2
    → record { accesses = map accessed accesses; next = next } ≡ whole i (olds_of accesses) given → HintAccess accesses
hint_access_by i next [] given h two is = absurd (omega (arith, two))
hint_access_by i next (a ∷ []) given h two is = absurd (omega (arith, two))
hint_access_by i next (a ∷ b ∷ []) given h two is =
    let all : map slot_space (map accessed (a ∷ b ∷ [])) ≡ (0, 1) ∷ (1, 2) ∷ [] = ap (λ (m : Meaning). map slot_space m.accesses) is ∙ hint_spaces i a.old b.old given h in
    let second : (b.slot, b.space) ≡ (1, 2) = cc in
    record {
      access = b;
      stands = inr (inl refl);
      in_memory = ap (λ (t : ℕ × ℕ). t.1) second;
      second = ap (λ (t : ℕ × ℕ). t.0) second;
    }
hint_access_by i next (a ∷ b ∷ c ∷ more) given h two is = absurd (omega (arith, two))

pub hint_access : (i : VmInstr) (next : ℕ) (accesses : List Touched) → i.op ≡ 37 → IsMeaning i accesses next → HintAccess accesses
hint_access i next accesses h means =
    let is = meant i (olds_of accesses) means.0 (record { accesses = map accessed accesses; next = next }) means.1 in
    hint_access_by i next accesses means.0 h (is.long ∙ hint_places i (word_at (olds_of accesses) 0) (word_at (olds_of accesses) 1) h) is.is
