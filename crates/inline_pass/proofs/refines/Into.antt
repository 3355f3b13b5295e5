-- Several frames of the source in one frame of the target: each stands in it from a local on.
use Rattle.std.proofs.Common.{◌≡◌, ◌⊎◌, inl, inr, refl, sym, ap, ap₂, ◌∙◌, subst, ℕ, ◌+◌, ◌<◌, Bool, true, false, nat_eq, nat_lt, if◌then◌else◌, List, Option, Some, None, slice_get, arith}
use Rattle.std.proofs.Common.{ltb-true, lt-ltb}
use Rattle.mir_semantics.specs.Values.{Value}
use Rattle.mir_semantics.specs.Memory.{Memory, local_at, open_frame, close_frame}
use Rattle.mir_renaming.specs.Renaming.{Renaming, SomeRel, Sub}
use Rattle.mir_renaming.proofs.Memory.{same_or_not, same_pair}
use Rattle.mir_renaming.proofs.Statements.{Linked}
use Rattle.mir_renaming.proofs.Ghosts.{value_mono}
use Rattle.mir_relate.proofs.Leaves.{some_val}
use Rattle.mir_syntax.proofs.Bools.{if_true, if_false}
use Rattle.mir_renaming.proofs.Frames.{equal, unequal, open_same, open_other, close_same, close_other}

-- where a frame of the source stands: in a frame of the target, from a local on, and so many of them
pub record Into : Type 0 where
  pub frame : ℕ
  pub offset : ℕ
  pub size : ℕ

-- of each frame of the source, also of those that have ended
abbrev pub Stands : Type 0
Stands = ℕ → Option Into

abbrev pub within : ℕ → Into → Bool → Option (ℕ × ℕ)
within x i true = Some (i.frame, i.offset + x)
within x i false = None

abbrev pub placed : ℕ → Option Into → Option (ℕ × ℕ)
placed x None = None
placed x (Some i) = within x i (nat_lt x i.size)

abbrev pub into : Stands → Renaming
into F f x = placed x (F f)

abbrev pub stand : Stands → ℕ → Into → Stands
stand F n i f = if nat_eq n f then Some i else F f

pub stand_new : (F : Stands) (n : ℕ) (i : Into) → stand F n i n ≡ Some i
stand_new F n i = if_true (Some i) (F n) (equal n n refl)

pub stand_old : (F : Stands) (n : ℕ) (i : Into) (f : ℕ) → (n ≡ f → ⊥) → stand F n i f ≡ F f
stand_old F n i f ne = if_false (Some i) (F f) (unequal n f ne)

pub stand_sub : (F : Stands) (n : ℕ) (i : Into) → F n ≡ None → Sub (into F) (into (stand F n i))
stand_sub F n i none f x r e = go (same_or_not n f)
  where
    go : ((nat_eq n f ≡ true) × (n ≡ f)) ⊎ ((nat_eq n f ≡ false) × (n ≡ f → ⊥)) → into (stand F n i) f x ≡ Some r
    go (inl p) = absurd (let h : into F f x ≡ None = ap (placed x) (ap F (sym p.1) ∙ none) in grind arith)
    go (inr p) = ap (placed x) (stand_old F n i f p.1) ∙ e

-- the parts of what a local stands for
pub into_parts : (F : Stands) (f x g z : ℕ) → into F f x ≡ Some (g, z) → (i : Into) × (F f ≡ Some i) × (x < i.size) × (i.frame ≡ g) × (i.offset + x ≡ z)
into_parts F f x g z e = go (F f) refl e
  where
    here : (i : Into) (b : Bool) → F f ≡ Some i → nat_lt x i.size ≡ b → within x i b ≡ Some (g, z) → (i : Into) × (F f ≡ Some i) × (x < i.size) × (i.frame ≡ g) × (i.offset + x ≡ z)
    here i true h l k = let (p, q) = same_pair i.frame (i.offset + x) g z k in (i, h, ltb-true x i.size l, p, q)
    here i false h l k = absurd (grind arith)

    go : (o : Option Into) → F f ≡ o → placed x o ≡ Some (g, z) → (i : Into) × (F f ≡ Some i) × (x < i.size) × (i.frame ≡ g) × (i.offset + x ≡ z)
    go None h k = absurd (grind arith)
    go (Some i) h k = here i (nat_lt x i.size) h refl k

-- what stands in a frame of the target below that of a new frame isn't the new one
pub new_apart : (F : Stands) (n : ℕ) (i : Into) (e x a z : ℕ) → into (stand F n i) e x ≡ Some (a, z) → a < i.frame → n ≡ e → ⊥
new_apart F n i e x a z q l s =
    let (j, h, _, r, _) = into_parts (stand F n i) e x a z q in
    let same : j ≡ i = some_val (sym h ∙ ap (stand F n i) (sym s) ∙ stand_new F n i) in
    let y : i.frame ≡ a = ap (λ (j : Into). j.frame) (sym same) ∙ r in
    omega (arith, y, l)

pub into_is : (F : Stands) (f x : ℕ) (i : Into) → F f ≡ Some i → x < i.size → into F f x ≡ Some (i.frame, i.offset + x)
into_is F f x i h l = ap (placed x) h ∙ ap (within x i) (lt-ltb x i.size l)

pub into_at : (F : Stands) (f x : ℕ) (i : Into) (z : ℕ) → F f ≡ Some i → x < i.size → i.offset + x ≡ z → into F f x ≡ Some (i.frame, z)
into_at F f x i z h l q = into_is F f x i h l ∙ ap (λ y. Some (i.frame, y)) q

-- ---- a frame of the source opens

module _ (F : Stands) (m2 m1 : Memory) (n : ℕ) (i : Into) (vs1 : List Value) (none : F n ≡ None) (l : Linked (into F) (into F) m2 m1) where
  abbrev K : Stands
  K = stand F n i

  new : (f x g z : ℕ) → n ≡ f → into K f x ≡ Some (g, z) → (x < i.size) × (i.frame ≡ g) × (i.offset + x ≡ z)
  new f x g z p e =
      let (j, h, lt, q, r) = into_parts K f x g z e in
      let same : j ≡ i = (let k : Some j ≡ Some i = sym h ∙ ap K (sym p) ∙ stand_new F n i in grind arith) in
      (subst (λ (j : Into). x < j.size) same lt, subst (λ (j : Into). j.frame ≡ g) same q, subst (λ (j : Into). j.offset + x ≡ z) same r)

  old : (f x : ℕ) → (n ≡ f → ⊥) → into K f x ≡ into F f x
  old f x ne = ap (placed x) (stand_old F n i f ne)

  before : (f x : ℕ) (u : Value) → (n ≡ f → ⊥) → local_at (open_frame m1 n vs1) f x ≡ Some u → local_at m1 f x ≡ Some u
  before f x u ne k = sym (open_other m1 n vs1 f x ne) ∙ k

  -- no local that lives is kept there
  abbrev pub Free : Type 0
  Free = (f x z : ℕ) (u : Value) → into F f x ≡ Some (i.frame, z) → local_at m1 f x ≡ Some u → (y : ℕ) → y < i.size → i.offset + y ≡ z → ⊥

  -- the target's memory has what the new frame needs, and what the old ones have
  opened : (m2' : Memory) → Free → ((f x g z : ℕ) (w : Value) → into F f x ≡ Some (g, z) → local_at m2 g z ≡ Some w → local_at m2' g z ≡ Some w) → ((x : ℕ) (v : Value) → x < i.size → slice_get vs1 x ≡ Some v → SomeRel (into K) v (local_at m2' i.frame (i.offset + x))) → Linked (into K) (into K) m2' (open_frame m1 n vs1)
  opened m2' free kept sl = record { mem = record { at = λ f x g z e v r. at f x g z e v r (same_or_not n f) }; apart = λ f x f' x' r u u' e e' k k'. apart f x f' x' r.0 r.1 u u' e e' k k' (same_or_not n f) (same_or_not n f') }
    where
      at : (f x g z : ℕ) → into K f x ≡ Some (g, z) → (v : Value) → local_at (open_frame m1 n vs1) f x ≡ Some v → ((nat_eq n f ≡ true) × (n ≡ f)) ⊎ ((nat_eq n f ≡ false) × (n ≡ f → ⊥)) → SomeRel (into K) v (local_at m2' g z)
      at f x g z e v r (inl p) =
          let (lt, e2, e3) = new f x g z p.1 e in
          let (w, s, rel) = sl x v lt (sym (open_same m1 n vs1 x) ∙ ap (λ k. local_at (open_frame m1 n vs1) k x) p.1 ∙ r) in
          (w, ap₂ (local_at m2') (sym e2) (sym e3) ∙ s, rel)
      at f x g z e v r (inr p) =
          let e' = sym (old f x p.1) ∙ e in
          let (w, s, rel) = l.mem.at f x g z e' v (before f x v p.1 r) in
          (w, kept f x g z w e' s, value_mono (into F) (into K) (stand_sub F n i none) v w rel)

      clash : (f x f' x' a b : ℕ) (u' : Value) → n ≡ f → (n ≡ f' → ⊥) → into K f x ≡ Some (a, b) → into K f' x' ≡ Some (a, b) → local_at (open_frame m1 n vs1) f' x' ≡ Some u' → ⊥
      clash f x f' x' a b u' p ne e e' k' =
          let (lt, e2, e3) = new f x a b p e in
          free f' x' b u' (sym (old f' x' ne) ∙ e' ∙ ap (λ s. Some (s, b)) (sym e2)) (before f' x' u' ne k') x lt e3

      apart : (f x f' x' a b : ℕ) (u u' : Value) → into K f x ≡ Some (a, b) → into K f' x' ≡ Some (a, b) → local_at (open_frame m1 n vs1) f x ≡ Some u → local_at (open_frame m1 n vs1) f' x' ≡ Some u' → ((nat_eq n f ≡ true) × (n ≡ f)) ⊎ ((nat_eq n f ≡ false) × (n ≡ f → ⊥)) → ((nat_eq n f' ≡ true) × (n ≡ f')) ⊎ ((nat_eq n f' ≡ false) × (n ≡ f' → ⊥)) → (f ≡ f') × (x ≡ x')
      apart f x f' x' a b u u' e e' k k' (inr p) (inr q) = l.apart f x f' x' (a, b) u u' (sym (old f x p.1) ∙ e) (sym (old f' x' q.1) ∙ e') (before f x u p.1 k) (before f' x' u' q.1 k')
      apart f x f' x' a b u u' e e' k k' (inl p) (inr q) = absurd (clash f x f' x' a b u' p.1 q.1 e e' k')
      apart f x f' x' a b u u' e e' k k' (inr p) (inl q) = absurd (clash f' x' f x a b u q.1 p.1 e' e k)
      apart f x f' x' a b u u' e e' k k' (inl p) (inl q) =
          let (_, e2, e3) = new f x a b p.1 e in
          let (_, d2, d3) = new f' x' a b q.1 e' in
          let z : i.offset + x ≡ i.offset + x' = e3 ∙ sym d3 in
          (sym p.1 ∙ q.1, omega (arith, z))

  -- the target takes no step: the frame stands in locals that it has
  pub open_inner : Free → ((x : ℕ) (v : Value) → x < i.size → slice_get vs1 x ≡ Some v → SomeRel (into K) v (local_at m2 i.frame (i.offset + x))) → Linked (into K) (into K) m2 (open_frame m1 n vs1)
  open_inner free sl = opened m2 free (λ f x g z w e r. r) sl

  -- a frame of the target opens too
  pub open_both : (vs2 : List Value) → i.offset ≡ 0 → ((f : ℕ) (j : Into) → F f ≡ Some j → j.frame < i.frame) → ((x : ℕ) (v : Value) → x < i.size → slice_get vs1 x ≡ Some v → SomeRel (into K) v (slice_get vs2 x)) → Linked (into K) (into K) (open_frame m2 i.frame vs2) (open_frame m1 n vs1)
  open_both vs2 zero low sl = opened (open_frame m2 i.frame vs2) free kept (λ x v lt e. let (w, s, r) = sl x v lt e in (w, there x ∙ s, r))
    where
      away : (f x g z : ℕ) → into F f x ≡ Some (g, z) → i.frame ≡ g → ⊥
      away f x g z e q = let (j, h, _, p, _) = into_parts F f x g z e in let lt = low f j h in omega (arith, lt, p, q)

      free : Free
      free f x z u e k y lt q = away f x i.frame z e refl

      kept : (f x g z : ℕ) (w : Value) → into F f x ≡ Some (g, z) → local_at m2 g z ≡ Some w → local_at (open_frame m2 i.frame vs2) g z ≡ Some w
      kept f x g z w e r = open_other m2 i.frame vs2 g z (away f x g z e) ∙ r

      there : (x : ℕ) → local_at (open_frame m2 i.frame vs2) i.frame (i.offset + x) ≡ slice_get vs2 x
      there x = let q : i.offset + x ≡ x = omega (arith, zero) in open_same m2 i.frame vs2 (i.offset + x) ∙ ap (slice_get vs2) q

-- ---- a frame of the source ends

pub close_back : (m1 : Memory) (n f x : ℕ) (u : Value) → local_at (close_frame m1 n) f x ≡ Some u → (f ≡ n → ⊥) × (local_at m1 f x ≡ Some u)
close_back m1 n f x u k = go (same_or_not f n)
  where
    go : ((nat_eq f n ≡ true) × (f ≡ n)) ⊎ ((nat_eq f n ≡ false) × (f ≡ n → ⊥)) → (f ≡ n → ⊥) × (local_at m1 f x ≡ Some u)
    go (inl p) = absurd (let q : local_at (close_frame m1 n) f x ≡ None = ap (λ k. local_at (close_frame m1 n) k x) p.1 ∙ close_same m1 n x in grind arith)
    go (inr p) = (p.1, sym (close_other m1 n f x p.1) ∙ k)

-- the target's locals stay
pub close_inner : (F : Stands) (m2 m1 : Memory) (n : ℕ) → Linked (into F) (into F) m2 m1 → Linked (into F) (into F) m2 (close_frame m1 n)
close_inner F m2 m1 n l = record { mem = record { at = λ f x g z e v r. l.mem.at f x g z e v (close_back m1 n f x v r).1 }; apart = λ f x f' x' r u u' e e' k k'. l.apart f x f' x' r u u' e e' (close_back m1 n f x u k).1 (close_back m1 n f' x' u' k').1 }

-- a frame of the target ends too, in which no other that lives stands
pub close_both : (F : Stands) (m2 m1 : Memory) (n g : ℕ) → ((f x z : ℕ) (u : Value) → into F f x ≡ Some (g, z) → local_at m1 f x ≡ Some u → f ≡ n) → Linked (into F) (into F) m2 m1 → Linked (into F) (into F) (close_frame m2 g) (close_frame m1 n)
close_both F m2 m1 n g alone l = record { mem = record { at = at }; apart = λ f x f' x' r u u' e e' k k'. l.apart f x f' x' r u u' e e' (close_back m1 n f x u k).1 (close_back m1 n f' x' u' k').1 }
  where
    at : (f x g' z : ℕ) → into F f x ≡ Some (g', z) → (v : Value) → local_at (close_frame m1 n) f x ≡ Some v → SomeRel (into F) v (local_at (close_frame m2 g) g' z)
    at f x g' z e v r =
        let (ne, k) = close_back m1 n f x v r in
        let (w, s, rel) = l.mem.at f x g' z e v k in
        (w, close_other m2 g g' z (λ q. ne (alone f x z v (e ∙ ap (λ a. Some (a, z)) q) k)) ∙ s, rel)
