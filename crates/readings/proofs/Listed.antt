-- What calls read that take values behind marks, one turn after another.
use Rattle.std.proofs.Common.{◌≡◌, ℕ, zero, suc, ◌+◌, Bool, true, false, List, [], ◌∷◌, ◌++◌, Option, Some, None, Result, Ok, Err, refl, ap, subst, ◌∙◌, append-nil, arith}
use Rattle.readings.specs.Readings.{Rest, Reading, after, seen, both, unless, by_mark, chain, listed}
use Rattle.readings.proofs.Exacts.{after_ok, ok_is, done}
use Rattle.readings.proofs.Gives.{state_after}
use Rattle.readings.proofs.Same.{after_after, unless_ok}

module _ {R S V : Type 0} (full : R) (may closed : S → Option R) (mark : Reading R Bool) (r : S → Reading R V) (next : S → V → S) where
  -- a mark, and the value behind it
  abbrev pub marked : S → Reading R V
  marked x = seen (λ p. p.1) (both (unless (by_mark (may x) (Some full)) mark) (λ more. r x))

  abbrev all : ℕ → S → Reading R (List V)
  all n x = listed full may closed mark r next n x

  abbrev then_these : List V → List V → Reading R (List V)
  then_these vs ws u = Ok (vs ++ ws, u)

  after_none : (y : Result (List V × Rest) R) → y ≡ after y (then_these [])
  after_none (Ok x) = refl
  after_none (Err e) = refl

  record IsMarked (x : S) (s t : Rest) (v : V) : Type 0 where
    behind : Rest
    begins : mark s ≡ Ok (true, behind)
    passes : may x ≡ None
    value : r x behind ≡ Ok (v, t)

  marked_by : (x : S) (s t u : Rest) (v : V) (more : Bool) → (mark s ≡ Ok (more, t)) × (by_mark (may x) (Some full) more ≡ None) → r x t ≡ Ok (v, u) → IsMarked x s u v
  marked_by x s t u v false h e = let no = h.1 in absurd cc
  marked_by x s t u v true h e = record { behind = t; begins = h.0; passes = h.1; value = e }

  is_marked : (x : S) (s t : Rest) (v : V) → marked x s ≡ Ok (v, t) → IsMarked x s t v
  is_marked x s t v e =
      let test = unless (by_mark (may x) (Some full)) mark in
      let a = after_ok (both test (λ more. r x) s) (λ p u. Ok (p.1, u)) (v, t) e in
      let b = after_ok (test s) (λ more k. after (r x k) (λ w l. Ok ((more, w), l))) a.0 a.1 in
      let c = after_ok (r x b.0.1) (λ w l. Ok ((b.0.0, w), l)) a.0 b.2 in
      let same : (c.0.0, c.0.1) ≡ (v, t) = ap (λ (p : (Bool × V) × Rest). (p.0.1, p.1)) (ok_is ((b.0.0, c.0.0), c.0.1) a.0 c.2) ∙ ok_is (a.0.0.1, a.0.1) (v, t) a.2 in
      marked_by x s b.0.1 t v b.0.0 (unless_ok (by_mark (may x) (Some full)) mark s b.0.1 b.0.0 b.1) (c.1 ∙ ap done same)

  one_turn : (n : ℕ) (x : S) (s t u : Rest) (v : V) → mark s ≡ Ok (true, t) → may x ≡ None → r x t ≡ Ok (v, u) → all (suc n) x s ≡ after (all n (next x v) u) (λ ws l. done (v ∷ ws, l))
  unfolding listed
  one_turn n x s t u v h k l = rw (h, k, l) refl

  -- behind as many values, what was to be read of all is what is to be read of the others
  pub listed_behind : (i m : ℕ) (x : S) (s t : Rest) (vs : List V) → chain marked next i x s ≡ Ok (vs, t) → all (i + m) x s ≡ after (all m (state_after next x vs) t) (then_these vs)
  unfolding chain listed
  listed_behind zero m x s t vs e =
      let none : 0 + m ≡ m = omega arith in
      rw none (subst (λ (p : List V × Rest). all m x s ≡ after (all m (state_after next x p.0) p.1) (then_these p.0)) (ok_is ([], s) (vs, t) e) (after_none (all m x s)))
  listed_behind (suc i) m x s t vs e =
      let a = after_ok (marked x s) (λ w k. after (chain marked next i (next x w) k) (λ ws l. Ok (w ∷ ws, l))) (vs, t) e in
      let b = after_ok (chain marked next i (next x a.0.0) a.0.1) (λ ws l. Ok (a.0.0 ∷ ws, l)) (vs, t) a.2 in
      let first = is_marked x s a.0.1 a.0.0 a.1 in
      let more = listed_behind i m (next x a.0.0) a.0.1 b.0.1 b.0.0 b.1 in
      let count : suc i + m ≡ suc (i + m) = omega arith in
      let here : all (suc (i + m)) x s ≡ after (all (i + m) (next x a.0.0) a.0.1) (λ ws l. done (a.0.0 ∷ ws, l)) = one_turn (i + m) x s first.behind a.0.1 a.0.0 first.begins first.passes first.value in
      let joined : after (all (i + m) (next x a.0.0) a.0.1) (λ ws l. done (a.0.0 ∷ ws, l)) ≡ after (all m (state_after next x (a.0.0 ∷ b.0.0)) b.0.1) (then_these (a.0.0 ∷ b.0.0)) =
      ap (λ (y : Result (List V × Rest) R). after y (λ ws l. done (a.0.0 ∷ ws, l))) more
      ∙ after_after (all m (state_after next (next x a.0.0) b.0.0) b.0.1) (then_these b.0.0) (λ ws l. done (a.0.0 ∷ ws, l)) in
      rw count (subst (λ (p : List V × Rest). all (suc (i + m)) x s ≡ after (all m (state_after next x p.0) p.1) (then_these p.0)) (ok_is (a.0.0 ∷ b.0.0, b.0.1) (vs, t) b.2) (here ∙ joined))

  -- ---- where it ends

  pub mark_stops : (m : ℕ) (y : S) (t : Rest) (e : R) → mark t ≡ Err e → all m y t ≡ Err e
  unfolding listed
  mark_stops zero y t e h = rw h refl
  mark_stops (suc m) y t e h = rw h refl

  pub full_stops : (y : S) (t u : Rest) → mark t ≡ Ok (true, u) → all 0 y t ≡ Err full
  unfolding listed
  full_stops y t u h = rw h refl

  pub may_stops : (m : ℕ) (y : S) (t u : Rest) (e : R) → mark t ≡ Ok (true, u) → may y ≡ Some e → all (suc m) y t ≡ Err e
  unfolding listed
  may_stops m y t u e h k = rw (h, k) refl

  pub value_stops : (m : ℕ) (y : S) (t u : Rest) (e : R) → mark t ≡ Ok (true, u) → may y ≡ None → r y u ≡ Err e → all (suc m) y t ≡ Err e
  unfolding listed
  value_stops m y t u e h k l = rw (h, k, l) refl

  pub closed_stops : (m : ℕ) (y : S) (t u : Rest) (e : R) → mark t ≡ Ok (false, u) → closed y ≡ Some e → all m y t ≡ Err e
  unfolding listed
  closed_stops zero y t u e h k = rw (h, k) refl
  closed_stops (suc m) y t u e h k = rw (h, k) refl

  pub none_follows : (m : ℕ) (y : S) (t u : Rest) → mark t ≡ Ok (false, u) → closed y ≡ None → all m y t ≡ Ok ([], u)
  unfolding listed
  none_follows zero y t u h k = rw (h, k) refl
  none_follows (suc m) y t u h k = rw (h, k) refl

  -- ---- behind as many values

  pub listed_ends : (i m : ℕ) (x : S) (s t u : Rest) (vs : List V) → chain marked next i x s ≡ Ok (vs, t) → all m (state_after next x vs) t ≡ Ok ([], u) → all (i + m) x s ≡ Ok (vs, u)
  listed_ends i m x s t u vs h k = listed_behind i m x s t vs h ∙ rw k (ap (λ (ws : List V). done (ws, u)) (append-nil vs))

  pub listed_stops : (i m : ℕ) (x : S) (s t : Rest) (vs : List V) (e : R) → chain marked next i x s ≡ Ok (vs, t) → all m (state_after next x vs) t ≡ Err e → all (i + m) x s ≡ Err e
  listed_stops i m x s t vs e h k = listed_behind i m x s t vs h ∙ rw k refl
