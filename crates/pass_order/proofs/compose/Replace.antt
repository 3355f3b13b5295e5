-- Bodies that are replaced one by one.
use Rattle.std.proofs.Common.{◌≡◌, ◌≢◌, refl, sym, ap, ◌∙◌, subst, ℕ, zero, suc, ◌<◌, ◌≤◌, Bool, true, false, ◌&&◌, length, ◌⊎◌, inl, inr, arith}
use Rattle.std.specs.Prelude.{if◌then◌else◌, nat_lt}
use Rattle.std.proofs.lemmas.Bool.Decides.{nat_tests}
use Rattle.mir_syntax.specs.Crate.{TypedBody, Crate}
use Rattle.mir_semantics.specs.Refines.{Refines}
use Rattle.mir_relate.proofs.Refine.{refines_refl, refines_trans}
use Rattle.sched_core.specs.State.{upd}
use Rattle.sched_core.proofs.Upd.{upd_tells}
use Rattle.call_graph.proofs.Once.{bool_tells}
use Rattle.pass_order.specs.Bodies.{with_bodies}
use Rattle.pass_order.proofs.compose.Bodies.{same_bodies}

-- ---- all that pass a test, one by one. `Fits` is kept of the crate, and `After` is shown of each function

module _ (Fits : Crate → Type 0) (After : ℕ → Type 0) (C : Crate) (old new : ℕ → TypedBody) (p : ℕ → Bool) where
  -- the bodies while they are replaced: each is the old one or the new one of a function that passes
  abbrev pub Mixed : (ℕ → TypedBody) → Type 0
  Mixed bs = (g : ℕ) → (bs g ≡ old g) ⊎ ((p g ≡ true) × (bs g ≡ new g))

  -- at any moment the next one may be replaced
  pub record Step (bs : ℕ → TypedBody) (f : ℕ) : Type 0 where
    pub fits : Fits (with_bodies C (upd bs f (new f)))
    pub refines : Refines (with_bodies C (upd bs f (new f))) (with_bodies C bs)
    pub after : After f

  pub record Replaced (bs : ℕ → TypedBody) (n : ℕ) : Type 0 where
    pub fits : Fits (with_bodies C bs)
    pub refines : Refines (with_bodies C bs) (with_bodies C old)
    pub after : (f : ℕ) → f < n → p f ≡ true → After f

  -- the first k are replaced
  upto : ℕ → ℕ → TypedBody
  upto k f = if p f && nat_lt f k then new f else old f

  upto_mixed : (k : ℕ) → Mixed (upto k)
  unfolding upto
  upto_mixed k g = go (bool_tells (p g)) (bool_tells (nat_lt g k))
    where
      go : (p g ≡ true) ⊎ (p g ≡ false) → (nat_lt g k ≡ true) ⊎ (nat_lt g k ≡ false) → (upto k g ≡ old g) ⊎ ((p g ≡ true) × (upto k g ≡ new g))
      go (inl a) (inl b) = inr (a, grind arith)
      go (inl a) (inr b) = inl (grind arith)
      go (inr a) b = inl (grind arith)

  upto_old : (k : ℕ) → upto k k ≡ old k
  unfolding upto
  upto_old k = let e : nat_lt k k ≡ false = grind (arith, nat_tests) in go (p k) e
    where
      go : (b : Bool) → nat_lt k k ≡ false → (if b && nat_lt k k then new k else old k) ≡ old k
      go true e = grind arith
      go false e = refl

  upto_none : (f : ℕ) → upto zero f ≡ old f
  unfolding upto
  upto_none f = let e : nat_lt f 0 ≡ false = grind (arith, nat_tests) in go (p f) e
    where
      go : (b : Bool) → nat_lt f 0 ≡ false → (if b && nat_lt f 0 then new f else old f) ≡ old f
      go true e = grind arith
      go false e = refl

  module _ (step : (bs : ℕ → TypedBody) (f : ℕ) → f < length C.functions → p f ≡ true → Mixed bs → bs f ≡ old f → Fits (with_bodies C bs) → Step bs f) where
    after_one : (k : ℕ) → p k ≡ true → (f : ℕ) → upd (upto k) k (new k) f ≡ upto (suc k) f
    unfolding upto
    after_one k a f = go (upd_tells (upto k) k (new k) f)
      where
        go : ((f ≡ k) × (upd (upto k) k (new k) f ≡ new k)) ⊎ ((f ≢ k) × (upd (upto k) k (new k) f ≡ upto k f)) → upd (upto k) k (new k) f ≡ upto (suc k) f
        go (inl e) =
            let passes : p f ≡ true = subst (λ (x : ℕ). p x ≡ true) (sym e.0) a in
            let low : nat_lt f (suc k) ≡ true = (let s = e.0 in grind (arith, nat_tests)) in
            let is : (if p f && nat_lt f (suc k) then new f else old f) ≡ new f = grind arith in
            e.1 ∙ ap new (sym e.0) ∙ sym is
        go (inr e) =
            let same : nat_lt f (suc k) ≡ nat_lt f k = (let s = e.0 in grind (arith, nat_tests)) in
            e.1 ∙ sym (ap (λ (b : Bool). if p f && b then new f else old f) same)

    stays_one : (k : ℕ) → p k ≡ false → (f : ℕ) → upto k f ≡ upto (suc k) f
    unfolding upto
    stays_one k a f = go (let c : (f ≡ k) ⊎ (f ≢ k) = grind (arith, nat_tests) in c)
      where
        go : (f ≡ k) ⊎ (f ≢ k) → upto k f ≡ upto (suc k) f
        go (inl e) =
            let fails : p f ≡ false = subst (λ (x : ℕ). p x ≡ false) (sym e) a in
            let is1 : (if p f && nat_lt f k then new f else old f) ≡ old f = grind arith in
            let is2 : (if p f && nat_lt f (suc k) then new f else old f) ≡ old f = grind arith in
            is1 ∙ sym is2
        go (inr e) =
            let same : nat_lt f (suc k) ≡ nat_lt f k = grind (arith, nat_tests) in
            sym (ap (λ (b : Bool). if p f && b then new f else old f) same)

    below_suc : (f k : ℕ) → f < suc k → (f ≡ k) ⊎ (f < k)
    below_suc f k h = grind arith

    more : (k : ℕ) → k < length C.functions → p k ≡ true → Replaced (upto k) k → Replaced (upto (suc k)) (suc k)
    more k lt a r =
        let s = step (upto k) k lt a (upto_mixed k) (upto_old k) r.fits in
        let same : with_bodies C (upd (upto k) k (new k)) ≡ with_bodies C (upto (suc k)) = same_bodies C (upd (upto k) k (new k)) (upto (suc k)) (λ f h. after_one k a f) in
        record {
          fits = subst Fits same s.fits;
          refines = refines_trans (with_bodies C (upto (suc k))) (with_bodies C (upto k)) (with_bodies C old) (subst (λ c. Refines c (with_bodies C (upto k))) same s.refines) r.refines;
          after = λ f h q. elim (below_suc f k h) [ inl e ↦ subst After (sym e) s.after | inr l ↦ r.after f l q ];
        }

    less : (k : ℕ) → p k ≡ false → Replaced (upto k) k → Replaced (upto (suc k)) (suc k)
    less k a r =
        let same : with_bodies C (upto k) ≡ with_bodies C (upto (suc k)) = same_bodies C (upto k) (upto (suc k)) (λ f h. stays_one k a f) in
        record {
          fits = subst Fits same r.fits;
          refines = subst (λ c. Refines c (with_bodies C old)) same r.refines;
          after = λ f h q. elim (below_suc f k h) [ inl e ↦ absurd (let x : p k ≡ true = subst (λ (x : ℕ). p x ≡ true) e q in grind arith) | inr l ↦ r.after f l q ];
        }

    first_ones : Fits (with_bodies C old) → (k : ℕ) → k ≤ length C.functions → Replaced (upto k) k
    first_ones fits zero l =
        let same : with_bodies C old ≡ with_bodies C (upto zero) = same_bodies C old (upto zero) (λ f h. sym (upto_none f)) in
        record { fits = subst Fits same fits; refines = subst (λ c. Refines c (with_bodies C old)) same (refines_refl (with_bodies C old)); after = λ f h q. absurd (omega (arith, h)) }
    first_ones fits (suc k) l =
        let r = first_ones fits k (omega (arith, l)) in
        elim (bool_tells (p k)) [ inl a ↦ more k (omega (arith, l)) a r | inr a ↦ less k a r ]

    -- all of them
    pub all_replaced : Fits (with_bodies C old) → Replaced (λ f. if p f then new f else old f) (length C.functions)
    unfolding upto
    all_replaced fits =
        let r = first_ones fits (length C.functions) (omega arith) in
        let same : with_bodies C (upto (length C.functions)) ≡ with_bodies C (λ f. if p f then new f else old f) =
        same_bodies C (upto (length C.functions)) (λ f. if p f then new f else old f) (λ f h. let low : nat_lt f (length C.functions) ≡ true = grind (arith, nat_tests) in all_low f low (p f)) in
        record { fits = subst Fits same r.fits; refines = subst (λ c. Refines c (with_bodies C old)) same r.refines; after = r.after }
      where
        all_low : (f : ℕ) → nat_lt f (length C.functions) ≡ true → (b : Bool) → (if b && nat_lt f (length C.functions) then new f else old f) ≡ (if b then new f else old f)
        all_low f low true = grind arith
        all_low f low false = refl
