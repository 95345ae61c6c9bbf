-- The accesses of a step, from one memory with its times to the next.
use Rattle.std.proofs.Common.{◌≡◌, ℕ, ◌&&◌, Bool, true, false, cond, nat_eq, List, [], ◌∷◌, ◌++◌, map, Option, Some, refl, sym, ap, ◌∙◌, ⊎_elim}
use Rattle.std.proofs.lemmas.Bool.{eq-eqb, ne_eqb, cases_eq}
use Rattle.vm_isa.specs.declared.access.TimedAccess.{TimedAccess}
use Rattle.vm_isa.specs.Blocks.{Blocks, Meets, with_block, after_accesses}
use Rattle.vm_isa.specs.Means.{Accessed, Placed, placed, placed_at}
use Rattle.offline_memory.specs.Memory.{Access, is_cell_at, after_access, Replays}
use Rattle.vm_executor.specs.Pages.{Times, with_times}
use Rattle.vm_executor.specs.Records.{access_of}
use Rattle.vm_executor.specs.Machine.{with_time, times_after, Befores}

abbrev pub AMemory : Type 0
AMemory = ℕ → ℕ → Option (List ℕ × ℕ)

-- memories that agree at each place replay alike
pub replays_same : (m n : AMemory) → ((s p : ℕ) → m s p ≡ n s p) → (more : List Access) (final : AMemory) → Replays m more final → Replays n more final
replays_same m n same [] final h = λ s p. sym (same s p) ∙ h s p
replays_same m n same (a ∷ more) final h = (
  sym (same a.space a.pointer) ∙ h.0,
  replays_same (after_access a m) (after_access a n) (λ s p. ap (λ (t : Option (List ℕ × ℕ)). cond (is_cell_at a.space a.pointer s p) (Some (a.new, a.time)) t) (same s p)) more final h.1,
)

-- one after the other
pub replays_both : (m mid final : AMemory) (xs ys : List Access) → Replays m xs mid → Replays mid ys final → Replays m (xs ++ ys) final
replays_both m mid final [] ys h k = replays_same mid m (λ s p. sym (h s p)) ys final k
replays_both m mid final (a ∷ xs) ys h k = (h.0, replays_both (after_access a m) mid final xs ys h.1 k)

pub placed_same : (x y : Placed) (xs ys : List Placed) → x ∷ xs ≡ y ∷ ys → (x ≡ y) × (xs ≡ ys)
placed_same x y xs ys h = (cc, cc)

flip : (a b : ℕ) → nat_eq a b ≡ nat_eq b a
flip a b =
    ⊎_elim
    (λ (same : a ≡ b). eq-eqb a b same ∙ sym (eq-eqb b a (sym same)))
    (λ (differ : a ≡ b → ⊥). ne_eqb a b differ ∙ sym (ne_eqb b a (λ e. differ (sym e))))
    (cases_eq a b)

both_by : (b : Bool) (w u : List ℕ) (t v : ℕ) → ◌≡◌ {A = Option (List ℕ × ℕ)} (cond b (Some (w, t)) (Some (u, v))) (Some (cond b w u, cond b t v))
both_by true w u t v = refl
both_by false w u t v = refl

put_there : (space pointer s p : ℕ) (w : List ℕ) (t : ℕ) (blocks : Blocks) (times : Times)
    → ◌≡◌ {A = Option (List ℕ × ℕ)} (cond (nat_eq space s && nat_eq pointer p) (Some (w, t)) (Some (blocks s p, times s p)))
    (Some (with_block blocks space pointer w s p, with_time times space pointer t s p))
put_there space pointer s p w t blocks times =
    let b = nat_eq s space && nat_eq p pointer in
    let same : (nat_eq space s && nat_eq pointer p) ≡ b = ap (λ (x : Bool). x && nat_eq pointer p) (flip space s) ∙ ap (λ (y : Bool). nat_eq s space && y) (flip pointer p) in
    ap (λ (x : Bool). cond x (Some (w, t)) (Some (blocks s p, times s p))) same ∙ both_by b w (blocks s p) t (times s p)

-- a memory with its times after an access
after_by : (a : TimedAccess) (b : Accessed) (time : ℕ) (blocks : Blocks) (times : Times) (s p : ℕ) → placed a ≡ placed_at time b
    → after_access (access_of a) (with_times blocks times) s p ≡ with_times (with_block blocks b.space b.pointer b.new) (with_time times a.access.space a.access.pointer a.time) s p
after_by a b time blocks times s p same =
    let make : List ℕ → Option (List ℕ × ℕ) = λ w. Some (w, with_time times a.access.space a.access.pointer a.time s p) in
    put_there a.access.space a.access.pointer s p a.access.new a.time blocks times
    ∙ ap (λ (x : Placed). make (with_block blocks x.space x.pointer x.new s p)) same

-- Accesses that meet their blocks one after the other, with the times of the accesses before, replay.
pub meets_replay : (time : ℕ) (xs : List TimedAccess) (ys : List Accessed) (blocks : Blocks) (times : Times) → map placed xs ≡ map (placed_at time) ys → Meets blocks ys → Befores times xs
    → Replays (with_times blocks times) (map access_of xs) (with_times (after_accesses blocks ys) (times_after times xs))
unfolding Meets after_accesses
meets_replay time [] [] blocks times same meets befores = λ s p. refl
meets_replay time [] (b ∷ ys) blocks times same meets befores = absurd (cc)
meets_replay time (a ∷ xs) [] blocks times same meets befores = absurd (cc)
meets_replay time (a ∷ xs) (b ∷ ys) blocks times same meets befores =
    let both = placed_same (placed a) (placed_at time b) (map placed xs) (map (placed_at time) ys) same in
    let make : List ℕ → ℕ → Option (List ℕ × ℕ) = λ w t. Some (w, t) in
    let space : a.access.space ≡ b.space = ap (λ (x : Placed). x.space) both.0 in
    let pointer : a.access.pointer ≡ b.pointer = ap (λ (x : Placed). x.pointer) both.0 in
    let old : a.access.old ≡ b.old = ap (λ (x : Placed). x.old) both.0 in (
      ap (λ w. make w (times a.access.space a.access.pointer)) (ap (λ s. blocks s a.access.pointer) space ∙ ap (λ p. blocks b.space p) pointer ∙ meets.1 ∙ sym old)
          ∙ ap (λ t. make a.access.old t) (sym befores.0),
      replays_same (with_times (with_block blocks b.space b.pointer b.new) (with_time times a.access.space a.access.pointer a.time)) (after_access (access_of a) (with_times blocks times))
          (λ s p. sym (after_by a b time blocks times s p both.0)) (map access_of xs) (with_times (after_accesses blocks (b ∷ ys)) (times_after times (a ∷ xs)))
          (meets_replay time xs ys (with_block blocks b.space b.pointer b.new) (with_time times a.access.space a.access.pointer a.time) both.1 meets.2 befores.1),
    )
