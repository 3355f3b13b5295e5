-- The law of simulation: where each step of the source is followed, the target's run refines the source's.
use Rattle.std.proofs.Common.{◌≡◌, ◌⊎◌, inl, inr, ⊎_elim, refl, sym, ap, ◌∙◌, subst, ℕ, zero, suc, ◌+◌, ◌-◌, ◌≤◌, ◌<◌, List, [], ◌∷◌, ◌++◌, length, Option, Some, None, arith, append_assoc, length-append}
use Rattle.std.proofs.lemmas.Bool.{cases_lt}
use Rattle.mir_semantics.specs.Step.{Code, Called, State, Outcome, Next, on, stop, fail, step}
use Rattle.mir_semantics.specs.Run.{Seen, going, ended, undefined, after, steps}
use Rattle.mir_semantics.specs.Refines.{trace_of, Stops, IsUndefined, RunsRefine}
use Rattle.mir_relate.specs.Simulation.{keep_on, moves, Follows, Simulation}
use Rattle.mir_relate.proofs.Traces.{TraceOk, trace_ok}

-- the newer trace goes on from the older one
Later : List Called → List Called → Type 0
Later u t = (pre : List Called) × (u ≡ pre ++ t)

later_refl : (t : List Called) → Later t t
unfolding Later
later_refl t = ([], refl)

later_trans : (v u t : List Called) → Later v u → Later u t → Later v t
unfolding Later
later_trans v u t (p, e) (q, f) = (p ++ q, e ∙ ap (λ x. p ++ x) f ∙ sym (append_assoc p q t))

later_step : (u t : List Called) → (u ≡ t) ⊎ ((c : Called) × (u ≡ c ∷ t)) → Later u t
unfolding Later
later_step u t (inl e) = ([], e)
later_step u t (inr (c, e)) = (c ∷ [], e)

-- between two traces that differ by one call at most there is no third
between : (v u t : List Called) → Later v u → Later u t → (v ≡ t) ⊎ ((c : Called) × (v ≡ c ∷ t)) → (u ≡ t) ⊎ (u ≡ v)
unfolding Later
between v u t (p, e) ([], f) h = inl f
between v u t ([], e) (c ∷ q, f) h = inr (sym e)
between v u t (d ∷ p, e) (c ∷ q, f) h = absurd (too_long h)
  where
    long : length v ≡ suc (length p) + (suc (length q) + length t)
    long = ap length e ∙ length-append (d ∷ p) u ∙ ap (λ n. suc (length p) + n) (ap length f ∙ length-append (c ∷ q) t)

    too_long : (v ≡ t) ⊎ ((c : Called) × (v ≡ c ∷ t)) → ⊥
    too_long (inl g) = let l : length v ≡ length t = ap length g in omega (arith, long)
    too_long (inr (c', g)) = let l : length v ≡ suc (length t) = ap length g in omega (arith, long)

-- along k moves
Along : Code → ℕ → State → State → Type 0
Along C m s s' = (u : List Called) × (steps C m s ≡ going u) × Later u s.trace × Later s'.trace u

some_same : {A : Type 0} (a b : A) → Some a ≡ Some b → a ≡ b
some_same a b e = grind arith

none_some : {A B : Type 0} (a : A) → ◌≡◌ {A = Option A} None (Some a) → B
none_some a e = absurd (grind arith)

moves_later : (C : Code) (k : ℕ) (s s' : State) → moves C k s ≡ Some s' → Later s'.trace s.trace
moves_later C zero s s' e = subst (λ x. Later x.trace s.trace) (some_same s s' e) (later_refl s.trace)
moves_later C (suc k) s s' e = go (λ s1 e. moves_later C k s1 s' e) (step C s) (trace_ok C s) e
  where
    go : ((s1 : State) → moves C k s1 ≡ Some s' → Later s'.trace s1.trace) → (o : Option Next) → TraceOk s.trace o → keep_on (moves C k) o ≡ Some s' → Later s'.trace s.trace
    go ih None ok e = none_some s' e
    go ih (Some (stop o)) ok e = none_some s' e
    go ih (Some (fail t)) ok e = none_some s' e
    go ih (Some (on s1)) ok e = later_trans s'.trace s1.trace s.trace (ih s1 e) (later_step s1.trace s.trace ok)

along : (C : Code) (k m : ℕ) (s s' : State) → moves C k s ≡ Some s' → m ≤ k → Along C m s s'
unfolding Along
along C k zero s s' e le = (s.trace, refl, later_refl s.trace, moves_later C k s s' e)
along C zero (suc m) s s' e le = absurd (omega arith)
along C (suc k) (suc m) s s' e le = go (λ s1 e. along C k m s1 s' e (omega arith)) (step C s) (trace_ok C s) e
  where
    go : ((s1 : State) → moves C k s1 ≡ Some s' → Along C m s1 s') → (o : Option Next) → TraceOk s.trace o → keep_on (moves C k) o ≡ Some s' → (u : List Called) × (after (steps C m) s.trace o ≡ going u) × Later u s.trace × Later s'.trace u
    go ih None ok e = none_some s' e
    go ih (Some (stop o)) ok e = none_some s' e
    go ih (Some (fail t)) ok e = none_some s' e
    go ih (Some (on s1)) ok e =
        let (u, f, l, r) = ih s1 e in
        (u, f, later_trans u s1.trace s.trace l (later_step s1.trace s.trace ok), r)

-- after k moves the run goes on from where they lead
beyond : (C : Code) (k m : ℕ) (s s' : State) → moves C k s ≡ Some s' → steps C (k + m) s ≡ steps C m s'
beyond C zero m s s' e = ap (λ x. steps C (0 + m) x) (some_same s s' e) ∙ (let z : 0 + m ≡ m = omega arith in ap (λ n. steps C n s') z)
beyond C (suc k) m s s' e =
    let z : suc k + m ≡ suc (k + m) = omega arith in
    ap (λ n. steps C n s) z ∙ go (λ s1 e. beyond C k m s1 s' e) (step C s) e
  where
    go : ((s1 : State) → moves C k s1 ≡ Some s' → steps C (k + m) s1 ≡ steps C m s') → (o : Option Next) → keep_on (moves C k) o ≡ Some s' → after (steps C (k + m)) s.trace o ≡ steps C m s'
    go ih None e = none_some s' e
    go ih (Some (stop o)) e = none_some s' e
    go ih (Some (fail t)) e = none_some s' e
    go ih (Some (on s1)) e = ih s1 e

-- one step, by what it gives
one : (C : Code) (n : ℕ) (s : State) (o : Option Next) → step C s ≡ o → steps C (suc n) s ≡ after (steps C n) s.trace o
one C n s o e = ap (λ x. after (steps C n) s.trace x) e

-- at m steps the target has nothing that the source doesn't come to
Covered : (target source : Code) → ℕ → State → State → Type 0
Covered target source m s2 s1 = (j : ℕ) × (IsUndefined (steps source j s1) ⊎ ((trace_of (steps source j s1) ≡ trace_of (steps target m s2)) × (Stops (steps target m s2) → Stops (steps source j s1))))

module _ (target source : Code) (R : ℕ → State → State → Type 0) (sim : Simulation target source R) where
  -- the source's end is the target's
  end_of : (n k : ℕ) (s2 s : State) (o : Outcome) → moves target k s2 ≡ Some s → step target s ≡ Some (stop o) → steps target (k + suc n) s2 ≡ ended s.trace o
  end_of n k s2 s o e f = beyond target k (suc n) s2 s e ∙ one target n s (Some (stop o)) f

  ends : (i n : ℕ) (s2 s1 : State) → R n s2 s1 → (t : List Called) (o : Outcome) → steps source i s1 ≡ ended t o → (m : ℕ) × (steps target m s2 ≡ ended t o)
  ends zero n s2 s1 r t o e = absurd (grind arith)
  ends (suc i) n s2 s1 r t o e = go (λ n' s s1' r' e'. ends i n' s s1' r' t o e') (step source s1) (sim.follows n s2 s1 r) e
    where
      go : ((n' : ℕ) (s s1' : State) → R n' s s1' → steps source i s1' ≡ ended t o → (m : ℕ) × (steps target m s ≡ ended t o)) → (x : Option Next) → Follows target R n s2 x → after (steps source i) s1.trace x ≡ ended t o → (m : ℕ) × (steps target m s2 ≡ ended t o)
      go ih None a e = absurd (grind arith)
      go ih (Some (fail t')) a e = absurd (grind arith)
      go ih (Some (stop o')) a e =
          let (k, s, mv, st, tr) = a in
          (k + suc 0, end_of 0 k s2 s o' mv st ∙ ap (λ u. ended u o') (tr ∙ sim.same_trace n s2 s1 r) ∙ e)
      go ih (Some (on s1')) a e =
          let (k, n', s, mv, r', _) = a in
          let (m, f) = ih n' s s1' r' e in
          (k + m, beyond target k m s2 s mv ∙ f)

  goes_on : (i n : ℕ) (s2 s1 : State) → R n s2 s1 → (t : List Called) → steps source i s1 ≡ going t → (m : ℕ) × (steps target m s2 ≡ going t)
  goes_on zero n s2 s1 r t e = (0, ap going (sim.same_trace n s2 s1 r) ∙ e)
  goes_on (suc i) n s2 s1 r t e = go (λ n' s s1' r' e'. goes_on i n' s s1' r' t e') (step source s1) (sim.follows n s2 s1 r) e
    where
      go : ((n' : ℕ) (s s1' : State) → R n' s s1' → steps source i s1' ≡ going t → (m : ℕ) × (steps target m s ≡ going t)) → (x : Option Next) → Follows target R n s2 x → after (steps source i) s1.trace x ≡ going t → (m : ℕ) × (steps target m s2 ≡ going t)
      go ih None a e = absurd (grind arith)
      go ih (Some (fail t')) a e = absurd (grind arith)
      go ih (Some (stop o')) a e = absurd (grind arith)
      go ih (Some (on s1')) a e =
          let (k, n', s, mv, r', _) = a in
          let (m, f) = ih n' s s1' r' e in
          (k + m, beyond target k m s2 s mv ∙ f)

  -- one step of the source more
  later_covers : (m' m : ℕ) (s s2 s1 s1' : State) → step source s1 ≡ Some (on s1') → steps target m' s2 ≡ steps target m s → Covered target source m s s1' → Covered target source m' s2 s1
  unfolding Covered
  later_covers m' m s s2 s1 s1' st same (j, c) = (suc j, subst (λ x. IsUndefined x ⊎ ((trace_of x ≡ trace_of (steps target m' s2)) × (Stops (steps target m' s2) → Stops x))) (sym (one source j s1 (Some (on s1')) st)) (subst (λ y. IsUndefined (steps source j s1') ⊎ ((trace_of (steps source j s1') ≡ trace_of y) × (Stops y → Stops (steps source j s1')))) (sym same) c))

  -- where the target has moved less than the source's step asks
  within : (m k n : ℕ) (s s2 s1 s1' : State) → R n s2 s1 → step source s1 ≡ Some (on s1') → moves target k s2 ≡ Some s → s.trace ≡ s1'.trace → m ≤ k → Covered target source m s2 s1
  unfolding Covered Along
  within m k n s s2 s1 s1' r st mv tr le =
      let (u, f, l, l') = along target k m s2 s mv le in
      choose u f (between s.trace u s2.trace l' l (grown (subst (TraceOk s1.trace) st (trace_ok source s1))))
    where
      same : s2.trace ≡ s1.trace
      same = sim.same_trace n s2 s1 r

      grown : (s1'.trace ≡ s1.trace) ⊎ ((c : Called) × (s1'.trace ≡ c ∷ s1.trace)) → (s.trace ≡ s2.trace) ⊎ ((c : Called) × (s.trace ≡ c ∷ s2.trace))
      grown (inl e) = inl (tr ∙ e ∙ sym same)
      grown (inr (c, e)) = inr (c, tr ∙ e ∙ ap (λ t. c ∷ t) (sym same))

      choose : (u : List Called) → steps target m s2 ≡ going u → (u ≡ s2.trace) ⊎ (u ≡ s.trace) → (j : ℕ) × (IsUndefined (steps source j s1) ⊎ ((trace_of (steps source j s1) ≡ trace_of (steps target m s2)) × (Stops (steps target m s2) → Stops (steps source j s1))))
      choose u f (inl e) = (0, inr (sym same ∙ sym e ∙ ap trace_of (sym f), λ st'. absurd (subst Stops f st')))
      choose u f (inr e) = (1, inr (ap trace_of (one source 0 s1 (Some (on s1')) st) ∙ sym tr ∙ sym e ∙ ap trace_of (sym f), λ st'. absurd (subst Stops f st')))

  -- where the source ends at its next step
  at_end : (m k n : ℕ) (s s2 s1 : State) (o : Outcome) → R n s2 s1 → step source s1 ≡ Some (stop o) → moves target k s2 ≡ Some s → step target s ≡ Some (stop o) → s.trace ≡ s2.trace → Covered target source m s2 s1
  unfolding Covered Along
  at_end m k n s s2 s1 o r st mv st2 tr = (1, inr (ap trace_of halt ∙ sym (same ∙ sim.same_trace n s2 s1 r), λ x. subst Stops (sym halt) tt))
    where
      halt : steps source 1 s1 ≡ ended s1.trace o
      halt = one source 0 s1 (Some (stop o)) st

      pick : (u : List Called) → steps target m s2 ≡ going u → (u ≡ s2.trace) ⊎ (u ≡ s.trace) → trace_of (steps target m s2) ≡ s2.trace
      pick u f (inl e) = ap trace_of f ∙ e
      pick u f (inr e) = ap trace_of f ∙ e ∙ tr

      before : m ≤ k → trace_of (steps target m s2) ≡ s2.trace
      before le = let (u, f, l, l') = along target k m s2 s mv le in pick u f (between s.trace u s2.trace l' l (inl tr))

      past : k < m → trace_of (steps target m s2) ≡ s2.trace
      past lt = let z : m ≡ k + suc (m - suc k) = omega arith in ap (λ i. trace_of (steps target i s2)) z ∙ ap trace_of (end_of (m - suc k) k s2 s o mv st2) ∙ tr

      same : trace_of (steps target m s2) ≡ s2.trace
      same = ⊎_elim past before (cases_lt k m)

  -- by the target's steps, and where it stands still by the number
  abbrev AllBelow : ℕ → Type 0
  AllBelow w = (m n : ℕ) (s2 s1 : State) → m < w → R n s2 s1 → Covered target source m s2 s1

  inner : (w : ℕ) → AllBelow w → (v m n : ℕ) (s2 s1 : State) → m < suc w → n < v → R n s2 s1 → Covered target source m s2 s1
  unfolding Covered
  inner w ih zero m n s2 s1 mw nv r = absurd (omega arith)
  inner w ih (suc v) m n s2 s1 mw nv r = go (λ n' s s1' lt r'. inner w ih v m n' s s1' mw lt r') (step source s1) refl (sim.follows n s2 s1 r)
    where
      moved : (k n' : ℕ) (s s1' : State) → step source s1 ≡ Some (on s1') → moves target (suc k) s2 ≡ Some s → R n' s s1' → (m < suc k) ⊎ (suc k ≤ m) → Covered target source m s2 s1
      moved k n' s s1' st mv r' (inl lt) = within m (suc k) n s s2 s1 s1' r st mv (sim.same_trace n' s s1' r') (omega arith)
      moved k n' s s1' st mv r' (inr le) = later_covers m (m - suc k) s s2 s1 s1' st (let z : m ≡ suc k + (m - suc k) = omega arith in ap (λ i. steps target i s2) z ∙ beyond target (suc k) (m - suc k) s2 s mv) (ih (m - suc k) n' s s1' (omega arith) r')

      gone_on : ((n' : ℕ) (s s1' : State) → n' < v → R n' s s1' → Covered target source m s s1') → (k n' : ℕ) (s s1' : State) → step source s1 ≡ Some (on s1') → moves target k s2 ≡ Some s → R n' s s1' → (0 < k) ⊎ (n' < n) → Covered target source m s2 s1
      gone_on next zero n' s s1' st mv r' (inl lt) = absurd (omega arith)
      gone_on next zero n' s s1' st mv r' (inr lt) = later_covers m m s s2 s1 s1' st (ap (λ x. steps target m x) (some_same s2 s mv)) (next n' s s1' (omega arith) r')
      gone_on next (suc k) n' s s1' st mv r' h = moved k n' s s1' st mv r' (cases_lt m (suc k))

      go : ((n' : ℕ) (s s1' : State) → n' < v → R n' s s1' → Covered target source m s s1') → (x : Option Next) → step source s1 ≡ x → Follows target R n s2 x → Covered target source m s2 s1
      go next None st a = (1, inl (subst IsUndefined (sym (one source 0 s1 None st)) tt))
      go next (Some (fail t)) st a = (1, inl (subst IsUndefined (sym (one source 0 s1 (Some (fail t)) st)) tt))
      go next (Some (stop o)) st a = let (k, s, mv, st2, tr) = a in at_end m k n s s2 s1 o r st mv st2 tr
      go next (Some (on s1')) st a = let (k, n', s, mv, r', h) = a in gone_on next k n' s s1' st mv r' h

  covered : (w : ℕ) → AllBelow w
  covered zero m n s2 s1 lt r = absurd (omega arith)
  covered (suc w) m n s2 s1 lt r = inner w (covered w) (suc n) m n s2 s1 lt (omega arith) r

  undefined_stops : (x : Seen) → IsUndefined x → Stops x
  undefined_stops (going t) h = absurd h
  undefined_stops (ended t o) h = tt
  undefined_stops (undefined t) h = tt

  pub runs_refine : (n : ℕ) (s2 s1 : State) → R n s2 s1 → RunsRefine (λ m. steps target m s2) (λ i. steps source i s1)
  unfolding Covered
  runs_refine n s2 s1 r = record {
    ends = λ i t o e. ends i n s2 s1 r t o e;
    goes_on = λ i t e. goes_on i n s2 s1 r t e;
    stops = λ m st. stopped m st (covered (suc m) m n s2 s1 (omega arith) r);
    traces = λ m. traced m (covered (suc m) m n s2 s1 (omega arith) r);
  }
    where
      stopped : (m : ℕ) → Stops (steps target m s2) → Covered target source m s2 s1 → (j : ℕ) × Stops (steps source j s1)
      stopped m st (j, inl u) = (j, undefined_stops (steps source j s1) u)
      stopped m st (j, inr c) = (j, c.1 st)

      traced : (m : ℕ) → Covered target source m s2 s1 → (j : ℕ) × ((trace_of (steps source j s1) ≡ trace_of (steps target m s2)) ⊎ IsUndefined (steps source j s1))
      traced m (j, inl u) = (j, inr u)
      traced m (j, inr c) = (j, inl c.0)
