-- The hints and the row of a step, and what it comes to.
use Rattle.std.proofs.Common.{◌≡◌, ℕ, ◌+◌, Bool, true, false, nat_eq, List, map, Some, None, Contains, refl, sym, ap, ◌∙◌, subst}
use Rattle.std.specs.List.{AllByRecursion}
use Rattle.vm_isa.specs.Blocks.{Blocks, Meets, Terminates, after_accesses}
use Rattle.vm_isa.specs.Opcodes.{TERMINATE}
use Rattle.vm_isa.specs.Slots.{slots_of}
use Rattle.vm_isa.specs.declared.access.TimedAccess.{TimedAccess}
use Rattle.vm_isa.specs.declared.instr.VmInstr.{VmInstr}
use Rattle.vm_isa.specs.Hints.{Hints, AreEnough, hints_after, next_hint}
use Rattle.vm_isa.specs.Means.{Accessed, Meaning, Placed, means_of, placed, placed_at}
use Rattle.vm_isa.specs.Words.{IsWord}
use Rattle.vm_isa.proofs.GivenLaws.{means_same}
use Rattle.vm_transpile.specs.Order.{RisesFrom}
use Rattle.vm_transpile.proofs.Lookups.{found, finds}
use Rattle.vm_executor.specs.Machine.{Befores, Machine, Goes, IsStuck, times_after}
use Rattle.vm_executor.specs.Memory.{Kept, KeepsAll, now_of, began_of, times_of}
use Rattle.vm_executor.specs.Pages.{Times}
use Rattle.vm_executor.specs.Read.{IsReadAs}
use Rattle.vm_executor.specs.Write.{AreMade, IsPlanned}
use Rattle.vm_executor.proofs.MetWords.{old_words}
use Rattle.vm_executor.proofs.VmSteps.{olds_of, olds_at}
use Rattle.vm_executor.proofs.WriteLemmas.{timed_is}

-- one row stands at a pc
pub one_row : (program : List VmInstr) (pc : ℕ) (a b : VmInstr) → RisesFrom 0 program → Rattle.std.specs.Prelude.find (λ r. nat_eq r.pc pc) program ≡ Some a → Contains program b → b.pc ≡ pc → b ≡ a
one_row program pc a b rises h stands here = let same : Some b ≡ Some a = sym (finds program pc b rises (record { stands = stands; here = here })) ∙ h in cc

pub no_row : (program : List VmInstr) (pc : ℕ) (b : VmInstr) → RisesFrom 0 program → Rattle.std.specs.Prelude.find (λ r. nat_eq r.pc pc) program ≡ None → Contains program b → b.pc ≡ pc → ⊥
no_row program pc b rises h stands here = let no : Some b ≡ None = sym (finds program pc b rises (record { stands = stands; here = here })) ∙ h in absurd (cc)

-- the meaning at the word that is given, and at the next hint
pub given_alike : (i : VmInstr) (words : List (List ℕ)) (given hint : List ℕ) → (nat_eq i.op 37 ≡ true → given ≡ hint) → means_of i words given ≡ means_of i words hint
given_alike i words given hint same = go (nat_eq i.op 37) refl
  where
    go : (b : Bool) → nat_eq i.op 37 ≡ b → means_of i words given ≡ means_of i words hint
    go true e = ap (means_of i words) (same e)
    go false e = means_same i words given hint e

pub made_words : (i : VmInstr) (words : List (List ℕ)) (given : List ℕ) (m : Meaning) (time : ℕ) (done : List TimedAccess) → means_of i words given ≡ Some m → map placed done ≡ map (placed_at time) m.accesses → map (λ (a : TimedAccess). a.access.old) done ≡ words
made_words i words given m time done h same =
    sym (olds_of done) ∙ ap (λ (ps : List Placed). map (λ (p : Placed). p.old) ps) same ∙ olds_at time m.accesses ∙ old_words i words given m h

pub stuck_off : (program : List VmInstr) (m : Machine) → RisesFrom 0 program → Rattle.std.specs.Prelude.find (λ r. nat_eq r.pc m.pc) program ≡ None → IsStuck program m m
stuck_off program m rises h = record {
  stays = refl;
  no_end = λ code e. no_row program m.pc e.row rises h e.stands e.here;
  no_step = λ t s. no_row program m.pc s.instr rises h s.stands s.here;
}

pub stuck_by : (program : List VmInstr) (m : Machine) (i : VmInstr) → RisesFrom 0 program → Rattle.std.specs.Prelude.find (λ r. nat_eq r.pc m.pc) program ≡ Some i → (i.op ≡ TERMINATE → ⊥)
    → ((olds : List (List ℕ)) (given : List ℕ) (meaning : Meaning) → means_of i olds given ≡ Some meaning → Meets m.now meaning.accesses → AreEnough i.op m.hints → ⊥) → IsStuck program m m
stuck_by program m i rises h goes none = record {
  stays = refl;
  no_end = λ code e. goes (ap (λ (r : VmInstr). r.op) (sym (one_row program m.pc i e.row rises h e.stands e.here)) ∙ e.is_end);
  no_step = λ t s.
      let same = one_row program m.pc i s.instr rises h s.stands s.here in
      let olds = map (λ (a : Accessed). a.old) s.meaning.accesses in
      none olds (next_hint m.hints) s.meaning (ap (λ (r : VmInstr). means_of r olds (next_hint m.hints)) (sym same) ∙ s.means) s.meets (subst (λ (r : VmInstr). AreEnough r.op m.hints) same s.enough);
}

-- where memory keeps its blocks, the machine is the same
pub same_machine : (pc time : ℕ) (hints : Hints) (old new : Kept) → KeepsAll old new
    → ◌≡◌ {A = Machine} (record { pc = pc; time = time; hints = hints; now = now_of new; start = began_of new; times = times_of new }) (record { pc = pc; time = time; hints = hints; now = now_of old; start = began_of old; times = times_of old })
same_machine pc time hints old new keeps =
    let make : Blocks → Blocks → Times → Machine = λ now start times. record { pc = pc; time = time; hints = hints; now = now; start = start; times = times } in
    ap (λ (b : Blocks). make b (began_of new) (times_of new)) keeps.now ∙ ap (λ (b : Blocks). make (now_of old) b (times_of new)) keeps.began ∙ ap (make (now_of old) (began_of old)) keeps.times

pub ends_by : (program : List VmInstr) (pc : ℕ) (i : VmInstr) → Rattle.std.specs.Prelude.find (λ r. nat_eq r.pc pc) program ≡ Some i → i.op ≡ TERMINATE → Terminates program pc (Rattle.std.specs.Prelude.slice_index i.imm 0)
ends_by program pc i h e = let f = found program pc i h in record { row = i; stands = f.stands; here = f.here; is_end = e; states = refl }

pub goes_by : (program : List VmInstr) (pc time : ℕ) (hints left : Hints) (old mid new : Kept) (i : VmInstr) (words : List (List ℕ)) (given : List ℕ) (done : List TimedAccess) (next n : ℕ)
    → Rattle.std.specs.Prelude.find (λ r. nat_eq r.pc pc) program ≡ Some i
    → IsReadAs i (now_of old) (Some words)
    → AreEnough i.op hints
    → (nat_eq i.op 37 ≡ true → given ≡ next_hint hints)
    → KeepsAll old mid
    → IsPlanned i words given time (times_of mid) done
    → AreMade mid new done
    → AllByRecursion (λ a. IsWord a.access.old) done
    → ((word : List ℕ) → (m : Meaning) × (means_of i words word ≡ Some m) × (m.next ≡ next))
    → left ≡ hints_after i.op hints
    → n ≡ slots_of i.op
    → Goes program (record { pc = pc; time = time; hints = hints; now = now_of old; start = began_of old; times = times_of old }) (record { pc = next; time = time + n; hints = left; now = now_of new; start = began_of new; times = times_of new }) (record { instr = i; time = time; accesses = done; next = next })
goes_by program pc time hints left old mid new i words given done next n look read enough same keeps did made are nexts lefts slots =
    let t = nexts (next_hint hints) in
    let m = t.0 in
    let there : means_of i words given ≡ Some m = given_alike i words given (next_hint hints) same ∙ t.1 in
    let planned = did m there in
    let f = found program pc i look in
    let make : ℕ → Hints → Blocks → Blocks → Times → Machine = λ k hs now start times. record { pc = next; time = time + k; hints = hs; now = now; start = start; times = times } in
    record {
      stands = f.stands;
      here = f.here;
      begins = refl;
      words = are;
      meaning = m;
      means = ap (λ (os : List (List ℕ)). means_of i os (next_hint hints)) (made_words i words given m time done there planned.placed_so) ∙ t.1;
      accesses = planned.placed_so;
      next = sym t.2;
      meets = read.1 (next_hint hints) m t.1;
      before = subst (λ (t : Times). Befores t done) keeps.times planned.before;
      enough = enough;
      after =
          ap (λ (k : ℕ). make k left (now_of new) (began_of new) (times_of new)) slots
          ∙ ap (λ (hs : Hints). make (slots_of i.op) hs (now_of new) (began_of new) (times_of new)) lefts
          ∙ ap (λ (b : Blocks). make (slots_of i.op) (hints_after i.op hints) b (began_of new) (times_of new)) (made.now ∙ timed_is time done m.accesses (now_of mid) planned.placed_so ∙ ap (λ (b : Blocks). after_accesses b m.accesses) keeps.now)
          ∙ ap (λ (b : Blocks). make (slots_of i.op) (hints_after i.op hints) (after_accesses (now_of old) m.accesses) b (times_of new)) (made.began ∙ keeps.began)
          ∙ ap (make (slots_of i.op) (hints_after i.op hints) (after_accesses (now_of old) m.accesses) (began_of old)) (made.times ∙ ap (λ (t : Times). times_after t done) keeps.times);
    }
