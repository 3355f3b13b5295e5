-- Each event that goes on leaves less to do.
use Rattle.std.proofs.Common.{◌≡◌, ◌≢◌, ℕ, zero, suc, ◌+◌, ◌*◌, ◌<◌, ◌≤◌, Bool, true, false, List, [], ◌∷◌, ◌++◌, inl, inr, refl, sym, subst, ap, arith}
use Rattle.std.specs.Prelude.{Option, Some, None, if◌then◌else◌}
use Rattle.sched_core.specs.declared.Status.{Status}
use Rattle.sched_core.specs.declared.Status.TheVariants.{Unclaimed, Claimed, Done, Failed, Stolen}
use Rattle.sched_core.specs.declared.Event.{Event}
use Rattle.sched_core.specs.declared.Event.TheVariants.{Claim, Look, Borrow, Release, Steal, Publish, Fail, Draw}
use Rattle.sched_core.specs.Plan.{Plan, IsLawful, has}
use Rattle.sched_core.specs.State.{State, Entry, upd, give, below_top, settled, borrowed_more, borrowed_less, Legal, after, on_top, saw, published_by}
use Rattle.sched_core.specs.Good.{Good}
use Rattle.sched_core.specs.Turn.{Useful}
use Rattle.sched_core.specs.Work.{sum_below, missing, open_work, weight, is_free_hand, unseen, work_left}
use Rattle.sched_core.proofs.Upd.{upd_same, upd_other}
use Rattle.sched_core.proofs.Lists.{bool_tells, nat_cases, next_out, has_last}
use Rattle.sched_core.proofs.Steals.{top_claimed}
use Rattle.sched_core.proofs.Turns.{top_below}
use Rattle.std.proofs.lemmas.Bool.Decides.{nat_tests}

-- a sum after a change at one place
module _ {A : Type 0} (h : ℕ → A → ℕ) (f : ℕ → A) (k : ℕ) (v : A) where
  sum_else : (n : ℕ) → n ≤ k → sum_below (λ i. h i (upd f k v i)) n ≡ sum_below (λ i. h i (f i)) n
  sum_else zero le = refl
  sum_else (suc n) le =
      let r : sum_below (λ i. h i (upd f k v i)) n ≡ sum_below (λ i. h i (f i)) n = sum_else n (omega arith) in
      let e : h n (upd f k v n) ≡ h n (f n) = ap (h n) (upd_other f k v n (λ e. omega arith)) in
      λ i. e i + r i

  last : (n a b : ℕ) → n ≡ k → a ≡ b → (h n (upd f k v n) + a) + h k (f k) ≡ (h n (f n) + b) + h k v
  last n a b e r =
      let u : h n (upd f k v n) ≡ h k v = subst (λ (i : ℕ). h i (upd f k v i) ≡ h k v) (sym e) (ap (h k) (upd_same f k v)) in
      let w : h k (f k) ≡ h n (f n) = ap (λ i. h i (f i)) (sym e) in
      let x : ℕ = h n (upd f k v n) in let y : ℕ = h n (f n) in let z : ℕ = h k (f k) in omega arith

  earlier : (n a b : ℕ) → n ≢ k → a + h k (f k) ≡ b + h k v → (h n (upd f k v n) + a) + h k (f k) ≡ (h n (f n) + b) + h k v
  earlier n a b ne r = let u : h n (upd f k v n) ≡ h n (f n) = ap (h n) (upd_other f k v n ne) in
      let x : ℕ = h n (upd f k v n) in let y : ℕ = h n (f n) in let z : ℕ = h k (f k) in omega arith

  pub sum_upd : (n : ℕ) → k < n → sum_below (λ i. h i (upd f k v i)) n + h k (f k) ≡ sum_below (λ i. h i (f i)) n + h k v
  sum_upd zero lt = absurd (omega arith)
  sum_upd (suc n) lt =
      let r = λ (lt : k < n). sum_upd n lt in
      elim (nat_cases n k) [
        | inl e ↦ last n (sum_below (λ i. h i (upd f k v i)) n) (sum_below (λ i. h i (f i)) n) e (sum_else n (omega arith))
        | inr e ↦ earlier n (sum_below (λ i. h i (upd f k v i)) n) (sum_below (λ i. h i (f i)) n) e (r (omega arith))
      ]

-- one given need more
missing_more : (ns given : List ℕ) (s : ℕ) → missing ns (given ++ s ∷ []) ≤ missing ns given
missing_more [] given s = omega arith
missing_more (n ∷ ns) given s = let r : missing ns (given ++ s ∷ []) ≤ missing ns given = missing_more ns given s in at (missing ns (given ++ s ∷ [])) (missing ns given) r
  where
    keeps : has n given ≡ true → has n (given ++ s ∷ []) ≡ true
    keeps h = by given h
      where
        by : (xs : List ℕ) → has n xs ≡ true → has n (xs ++ s ∷ []) ≡ true
        by [] h = absurd (cc)
        by (x ∷ xs) h = let r = by xs in grind (arith, nat_tests, bool_tells (has n xs))

    at : (a b : ℕ) → a ≤ b → (if has n (given ++ s ∷ []) then 0 else 1) + a ≤ (if has n given then 0 else 1) + b
    at a b h = elim (bool_tells (has n given)) [
      | inl t ↦ (let t' = keeps t in grind arith)
      | inr f ↦ elim (bool_tells (has n (given ++ s ∷ []))) [ inl t ↦ (grind arith) | inr g ↦ (grind arith) ]
    ]

missing_less : (ns given : List ℕ) (s : ℕ) → has s ns ≡ true → has s given ≡ false → missing ns (given ++ s ∷ []) < missing ns given
missing_less [] given s h o = absurd (cc)
missing_less (n ∷ ns) given s h o =
    let r = λ (i : has s ns ≡ true). missing_less ns given s i o in
    let m = missing_more ns given s in
    let last = has_last given s in
    let more = missing_more (n ∷ []) given s in
    at (missing ns (given ++ s ∷ [])) (missing ns given) r m last more
  where
    at : (a b : ℕ) → (has s ns ≡ true → a < b) → a ≤ b → has s (given ++ s ∷ []) ≡ true
        → (if has n (given ++ s ∷ []) then 0 else 1) + 0 ≤ (if has n given then 0 else 1) + 0
        → (if has n (given ++ s ∷ []) then 0 else 1) + a < (if has n given then 0 else 1) + b
    at a b r m last more = elim (nat_cases s n) [
      | inl e ↦ (let o' : has n given ≡ false = subst (λ (x : ℕ). has x given ≡ false) e o in let t : has n (given ++ s ∷ []) ≡ true = subst (λ (x : ℕ). has x (given ++ s ∷ []) ≡ true) e last in grind arith)
      | inr ne ↦ (let i : has s ns ≡ true = rest ne in let k = r i in let x : ℕ = if has n (given ++ s ∷ []) then 0 else 1 in let y : ℕ = if has n given then 0 else 1 in omega arith)
    ]
      where
        rest : s ≢ n → has s ns ≡ true
        rest ne = grind (arith, nat_tests)

-- what is seen grows
unseen_upd : (f : ℕ → Bool) (q n : ℕ) → q < n → unseen (upd f q true) n + (if f q then 0 else 1) ≡ unseen f n
unseen_upd f q n lt = let s = sum_upd (λ _ (b : Bool). if b then 0 else 1) f q true n lt in omega arith

module _ (p : Plan) (c : State) (l : IsLawful p) (g : Good p c) where
  abbrev of_status : (ℕ → Status) → ℕ
  of_status f = sum_below (λ q. weight p q (f q)) p.queries

  abbrev of_stack : (ℕ → List Entry) → ℕ
  of_stack f = sum_below (λ w. open_work p (f w)) c.workers

  abbrev of_borrow : (ℕ → Option ℕ) → ℕ
  of_borrow f = sum_below (λ w. is_free_hand (f w)) c.workers

  abbrev of_seen : (ℕ → ℕ → Bool) → ℕ
  of_seen f = sum_below (λ w. unseen (f w) p.queries) c.workers

  status_sum : (q : ℕ) (st : Status) → q < p.queries → of_status (upd c.status q st) + weight p q (c.status q) ≡ of_status c.status + weight p q st
  status_sum q st lt = sum_upd (λ i (s : Status). weight p i s) c.status q st p.queries lt

  stack_sum : (w : ℕ) (es : List Entry) → w < c.workers → of_stack (upd c.stack w es) + open_work p (c.stack w) ≡ of_stack c.stack + open_work p es
  stack_sum w es lt = sum_upd (λ _ (s : List Entry). open_work p s) c.stack w es c.workers lt

  borrow_sum : (w : ℕ) (o : Option ℕ) → w < c.workers → of_borrow (upd c.borrow w o) + is_free_hand (c.borrow w) ≡ of_borrow c.borrow + is_free_hand o
  borrow_sum w o lt = sum_upd (λ _ (b : Option ℕ). is_free_hand b) c.borrow w o c.workers lt

  seen_sum : (w q : ℕ) → w < c.workers → q < p.queries → of_seen (upd c.seen w (upd (c.seen w) q true)) + (if c.seen w q then 0 else 1) ≡ of_seen c.seen
  seen_sum w q lt lt' =
      let s = sum_upd (λ _ (f : ℕ → Bool). unseen f p.queries) c.seen w (upd (c.seen w) q true) c.workers lt in
      let u = unseen_upd (c.seen w) q p.queries lt' in
      let a : ℕ = of_seen (upd c.seen w (upd (c.seen w) q true)) in let b : ℕ = of_seen c.seen in
      let x : ℕ = unseen (upd (c.seen w) q true) p.queries in let y : ℕ = unseen (c.seen w) p.queries in let z : ℕ = if c.seen w q then 0 else 1 in omega arith

  sees_falls : (w q : ℕ) → w < c.workers → q < p.queries → c.seen w q ≡ false → work_left p (record c { wait = upd c.wait w None; seen = upd c.seen w (upd (c.seen w) q true) }) < work_left p c
  sees_falls w q lt lt' h =
      let s = seen_sum w q lt lt' in
      let one : ◌≡◌ {A = ℕ} (if c.seen w q then 0 else 1) 1 = ap (λ (b : Bool). if◌then◌else◌ {A = ℕ} b 0 1) h in
      let s2 : ℕ = of_status c.status in let x : ℕ = of_stack c.stack in let z : ℕ = of_borrow c.borrow in
      let a : ℕ = of_seen (upd c.seen w (upd (c.seen w) q true)) in let b : ℕ = of_seen c.seen in omega arith

  look_falls : (w q : ℕ) → w < c.workers → q < p.queries → c.seen w q ≡ false → (st : Status) → c.status q ≡ st → settled st ≡ true → work_left p (saw c w q st) < work_left p c
  look_falls w q lt lt' h Unclaimed e s = absurd (cc)
  look_falls w q lt lt' h (Claimed v) e s = absurd (cc)
  look_falls w q lt lt' h (Done b) e s = sees_falls w q lt lt' h
  look_falls w q lt lt' h Failed e s = absurd (cc)
  look_falls w q lt lt' h Stolen e s = sees_falls w q lt lt' h

  give_less : (s : ℕ) (e : Entry) (es : List Entry) → has s (p.needs e.0) ≡ true → has s e.1 ≡ false → open_work p (give s (e ∷ es)) + 2 ≤ open_work p (e ∷ es)
  give_less s e es h o = let m = missing_less (p.needs e.0) e.1 s h o in let x : ℕ = open_work p es in let a : ℕ = missing (p.needs e.0) (e.1 ++ s ∷ []) in let b : ℕ = missing (p.needs e.0) e.1 in omega arith

  pop_less : (es : List Entry) → open_work p (below_top es) ≤ open_work p es
  pop_less [] = omega arith
  pop_less (e ∷ es) = let x : ℕ = open_work p es in let a : ℕ = missing (p.needs e.0) e.1 in omega arith

  publish_falls : (w : ℕ) (e : Entry) (es : List Entry) → w < c.workers → c.stack w ≡ e ∷ es → work_left p (published_by c w e.0) < work_left p c
  publish_falls w e es lt top =
      let q = e.0 in
      let lt' = top_below p c l g w lt e es top in
      let a = status_sum q (Done 0) lt' in
      let was : weight p q (c.status q) ≡ 3 = ap (weight p q) (top_claimed p c l g w e es top) in
      let b = stack_sum w (below_top (c.stack w)) lt in
      let less = pop_less (c.stack w) in
      let s = seen_sum w q lt lt' in
      let s1 : ℕ = of_status (upd c.status q (Done 0)) in let s2 : ℕ = of_status c.status in
      let t : ℕ = of_stack (upd c.stack w (below_top (c.stack w))) in let t' : ℕ = of_stack c.stack in
      let y : ℕ = of_seen (upd c.seen w (upd (c.seen w) q true)) in let y' : ℕ = of_seen c.seen in
      let z : ℕ = of_borrow c.borrow in let i : ℕ = if c.seen w q then 0 else 1 in omega arith

  pub falls : (e : Event) → Legal p c e → Useful c e → ((w : ℕ) → e ≢ Fail w) → work_left p (after p c e) < work_left p c
  falls (Claim w q) m u n =
      let a = status_sum q (Claimed w) m.query in
      let b = stack_sum w ((q, []) ∷ c.stack w) m.worker in
      let was : weight p q (c.status q) ≡ 2 * missing (p.needs q) [] + 4 = ap (weight p q) m.free in
      let s : ℕ = of_status (upd c.status q (Claimed w)) in let s' : ℕ = of_status c.status in
      let t : ℕ = of_stack (upd c.stack w ((q, []) ∷ c.stack w)) in let t' : ℕ = of_stack c.stack in
      let x : ℕ = of_borrow c.borrow in let y : ℕ = of_seen c.seen in omega arith
  falls (Look w q) m u n = look_falls w q m.worker m.query u.1 (c.status q) refl u.0
  falls (Borrow w s) m u n =
      let k = m.3 in
      let a = status_sum s (borrowed_more (c.status s)) k.query in
      let b = borrow_sum w (Some s) k.worker in
      let was : weight p s (c.status s) ≡ 1 = ap (weight p s) k.done in
      let will : weight p s (borrowed_more (c.status s)) ≡ 1 = ap (λ st. weight p s (borrowed_more st)) k.done in
      let free : is_free_hand (c.borrow w) ≡ 1 = ap is_free_hand k.free in
      let s1 : ℕ = of_status (upd c.status s (borrowed_more (c.status s))) in let s2 : ℕ = of_status c.status in
      let t : ℕ = of_borrow (upd c.borrow w (Some s)) in let t' : ℕ = of_borrow c.borrow in
      let x : ℕ = of_stack c.stack in let y : ℕ = of_seen c.seen in omega arith
  falls (Release w s) m u n =
      let o = g.borrowed w s m.borrows in
      let a = status_sum s (borrowed_less (c.status s)) m.query in
      let was : weight p s (c.status s) ≡ 1 = ap (weight p s) o.done in
      let will : weight p s (borrowed_less (c.status s)) ≡ 1 = ap (λ st. weight p s (borrowed_less st)) o.done in
      let b = borrow_sum w None m.worker in
      let held : is_free_hand (c.borrow w) ≡ 0 = ap is_free_hand m.borrows in
      let d = stack_sum w (give s (c.stack w)) m.worker in
      let less : open_work p (give s (c.stack w)) + 2 ≤ open_work p (c.stack w) =
      subst (λ (es : List Entry). open_work p (give s es) + 2 ≤ open_work p es) (sym o.stack) (give_less s o.top o.rest o.reads.0 (next_out (p.needs o.top.0) o.top.1 s o.next)) in
      let s1 : ℕ = of_status (upd c.status s (borrowed_less (c.status s))) in let s2 : ℕ = of_status c.status in
      let t : ℕ = of_stack (upd c.stack w (give s (c.stack w))) in let t' : ℕ = of_stack c.stack in
      let z : ℕ = of_borrow (upd c.borrow w None) in let z' : ℕ = of_borrow c.borrow in
      let y : ℕ = of_seen c.seen in omega arith
  falls (Steal w s) m u n =
      let k = m.2 in
      let a = status_sum s Stolen k.query in
      let was : weight p s (c.status s) ≡ 1 = ap (weight p s) k.done in
      let s1 : ℕ = of_status (upd c.status s Stolen) in let s2 : ℕ = of_status c.status in
      let x : ℕ = of_stack c.stack in let y : ℕ = of_seen c.seen in let z : ℕ = of_borrow c.borrow in omega arith
  falls (Publish w) m u n = subst (λ (xs : List Entry). work_left p (on_top c xs (λ d q. published_by d w q)) < work_left p c) (sym m.2.top) (publish_falls w m.0 m.1 m.2.worker m.2.top)
  falls (Fail w) m u n = absurd (n w refl)
  falls (Draw w) m u n =
      let left = m.left in
      let s2 : ℕ = of_status c.status in let x : ℕ = of_stack c.stack in let y : ℕ = of_seen c.seen in let z : ℕ = of_borrow c.borrow in omega arith
