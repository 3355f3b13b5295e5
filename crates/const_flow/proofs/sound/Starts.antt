-- The tracked places of a body are scalars of locals that aren't borrowed; what is known at the start holds.
use Rattle.std.proofs.Common.{◌≡◌, ◌⊎◌, inl, inr, refl, sym, ap, ◌∙◌, subst, ℕ, zero, suc, ◌+◌, ◌<◌, ◌≤◌, Bool, true, false, not, nat_eq, nat_le, ◌&&◌, if◌then◌else◌, List, [], ◌∷◌, ◌++◌, map, length, drop, Option, Some, None, slice_get, option_map, arith}
use Rattle.std.specs.List.{All}
use Rattle.std.proofs.lemmas.List.Elements.{All-nil, All-cons, All-head, All-tail, All-append, All-weaker, All-take, All-map}
use Rattle.std.proofs.lemmas.Option.{slice_get-map}
use Rattle.mir_syntax.specs.declared.types.ScalarTy.{ScalarTy}
use Rattle.mir_syntax.specs.declared.body.Proj.{Proj}
use Rattle.mir_syntax.specs.declared.body.Place.{Place}
use Rattle.mir_syntax.specs.Tree.{Tree, scalar, empty, more, ref, ref_mut, named}
use Rattle.mir_syntax.specs.Crate.{TypedBody}
use Rattle.mir_syntax.specs.Shapes.{Shape, ◌>>=◌, path_ty, place_ty, fields_of, field_ty}
use Rattle.mir_semantics.specs.Values.{Value, at_path, blank}
use Rattle.mir_semantics.specs.Memory.{Memory, local_at, value_at, open_frame}
use Rattle.mir_semantics.specs.Step.{type_of, blanks, new_slots}
use Rattle.mir_syntax.specs.Parts.{is_direct}
use Rattle.mir_syntax.proofs.Binds.{bind_some, some_bind}
use Rattle.mir_renaming.proofs.Memory.{same_or_not}
use Rattle.mir_renaming.proofs.Frames.{open_same}
use Rattle.escape_info.specs.Borrowed.{borrowed}
use Rattle.const_flow.specs.declared.cell.Cell.TheVariants.{Nothing, Many}
use Rattle.place_map.specs.Tracked as places
use Rattle.place_map.specs.Tracked.{deeper, scalars_by, scalars_in, scalars_def, scalars, place_at, untaken_scalars}
use Rattle.const_flow.specs.ConstAt.{tracked, is_arg, first_fact, first_facts}
use Rattle.const_flow.specs.Holding.{Fits, ScalarPlace, addr_of, Holds}
use Rattle.const_flow.proofs.sound.Values.{many_fits, blank_scalar}

some_one : {A : Type 0} {x y : A} → Some x ≡ Some y → x ≡ y
some_one e = grind arith

-- ways to scalars of a type
pub record ScalarPath (D : List Shape) (t : Tree) (ps : List Proj) : Type 0 where
  pub direct : is_direct ps ≡ true
  pub ty : ScalarTy
  pub scalar : path_ty D t ps ≡ Some (scalar ty)

deeper_good : (D : List Shape) (v u t : Tree) (i : ℕ) → fields_of D v ≡ Some u → field_ty u i ≡ Some t → (ps : List Proj) → ScalarPath D t ps → ScalarPath D v (deeper i ps)
deeper_good D v u t i r f ps g = record { direct = g.direct; ty = g.ty; scalar = some_bind _ (some_bind _ r f) g.scalar }

-- the tuple U of the type V has these fields from number i on
abbrev FromHere : List Shape → Tree → Option ℕ → Tree → Type 0
FromHere D v None t = v ≡ t
FromHere D v (Some i) ts = (u : Tree) × (fields_of D v ≡ Some u) × ((n : ℕ) → field_ty ts n ≡ field_ty u (i + n))

scalars_good : (D : List Shape) (of_def : ℕ → List (List Proj)) → ((d : ℕ) → All (ScalarPath D (named d)) (of_def d)) → (v : Tree) (o : Option ℕ) (t : Tree) → FromHere D v o t → All (ScalarPath D v) (scalars_by of_def o t)
unfolding ◌>>=◌
scalars_good D of_def h v None (scalar s) e = All-cons (ScalarPath D v) [] [] (record { direct = refl; ty = s; scalar = ap Some e }) (All-nil (ScalarPath D v))
scalars_good D of_def h v None (more t ts) e =
    All-append (ScalarPath D v) _ _ (All-map (ScalarPath D v) (deeper 0) (scalars_by of_def None t) (All-weaker (ScalarPath D t) (λ ps. ScalarPath D v (deeper 0 ps)) (deeper_good D v (more t ts) t 0 (ap (fields_of D) e) refl) (scalars_by of_def None t) (scalars_good D of_def h t None t refl))) (scalars_good D of_def h v (Some 1) ts (more t ts, ap (fields_of D) e, λ n. ap (field_ty (more t ts)) (let z : suc n ≡ 1 + n = omega arith in z)))
scalars_good D of_def h v None (named d) e = subst (λ t. All (ScalarPath D t) (of_def d)) (sym e) (h d)
scalars_good D of_def h v (Some i) (more t ts) (u, r, k) =
    All-append (ScalarPath D v) _ _ (All-map (ScalarPath D v) (deeper i) (scalars_by of_def None t) (All-weaker (ScalarPath D t) (λ ps. ScalarPath D v (deeper i ps)) (deeper_good D v u t i r (ap (field_ty u) (let z : i ≡ i + 0 = omega arith in z) ∙ sym (k 0))) (scalars_by of_def None t) (scalars_good D of_def h t None t refl))) (scalars_good D of_def h v (Some (suc i)) ts (u, r, λ n. k (suc n) ∙ ap (field_ty u) (let z : i + suc n ≡ suc i + n = omega arith in z)))
scalars_good D of_def h v None empty e = All-nil (ScalarPath D v)
scalars_good D of_def h v None (ref t) e = All-nil (ScalarPath D v)
scalars_good D of_def h v None (ref_mut t) e = All-nil (ScalarPath D v)
scalars_good D of_def h v (Some i) (scalar s) e = All-nil (ScalarPath D v)
scalars_good D of_def h v (Some i) empty e = All-nil (ScalarPath D v)
scalars_good D of_def h v (Some i) (ref t) e = All-nil (ScalarPath D v)
scalars_good D of_def h v (Some i) (ref_mut t) e = All-nil (ScalarPath D v)
scalars_good D of_def h v (Some i) (named d) e = All-nil (ScalarPath D v)

def_good : (D : List Shape) (n d : ℕ) → All (ScalarPath D (named d)) (scalars_def D n d)
unfolding ◌>>=◌
def_good D zero d = All-nil (ScalarPath D (named d))
def_good D (suc n) d = go (def_good D n) (fields_of D (named d)) refl
  where
    go : ((d : ℕ) → All (ScalarPath D (named d)) (scalars_def D n d)) → (o : Option Tree) → fields_of D (named d) ≡ o → All (ScalarPath D (named d)) (scalars_in (scalars_def D n) o)
    go ih None e = All-nil (ScalarPath D (named d))
    go ih (Some t) e = scalars_good D (scalars_def D n) ih (named d) (Some 0) t (t, e, λ n. ap (field_ty t) (let z : n ≡ 0 + n = omega arith in z))

pub type_good : (D : List Shape) (t : Tree) → All (ScalarPath D t) (scalars D t)
unfolding scalars
type_good D t = scalars_good D (scalars_def D (length D)) (def_good D (length D)) t None t refl

module _ (D : List Shape) (b : TypedBody) (f : ℕ) where
  abbrev pub Good : Place → Type 0
  Good = ScalarPlace D b.locals f (λ x. borrowed D b x ≡ false)

  from_good : (x : ℕ) (ts : List Tree) → ((n : ℕ) → slice_get ts n ≡ slice_get b.locals (x + n)) → All Good (untaken_scalars D (borrowed D b) x ts)
  unfolding type_of place_ty
  from_good x [] h = All-nil Good
  from_good x (t ∷ ts) h = All-append Good _ _ (pick (borrowed D b x) refl) (from_good (suc x) ts (λ n. h (suc n) ∙ ap (slice_get b.locals) (let z : x + suc n ≡ suc x + n = omega arith in z)))
    where
      good : borrowed D b x ≡ false → (ps : List Proj) → ScalarPath D t ps → Good (place_at x ps)
      good q ps g = record { direct = g.direct; ty = g.ty; free = q; scalar = some_bind _ (ap (slice_get b.locals) (let z : x ≡ x + 0 = omega arith in z) ∙ sym (h 0)) g.scalar }

      pick : (c : Bool) → borrowed D b x ≡ c → All Good (if c then [] else map (place_at x) (scalars D t))
      pick true q = All-nil Good
      pick false q = All-map Good (place_at x) (scalars D t) (All-weaker (ScalarPath D t) (λ ps. Good (place_at x ps)) (good q) (scalars D t) (type_good D t))

  pub tracked_good : All Good (tracked D b)
  unfolding places.tracked
  tracked_good = All-take Good _ _ (from_good 0 b.locals (λ n. ap (slice_get b.locals) (let z : n ≡ 0 + n = omega arith in z)))

  -- the blank locals of a new frame
  after_args : (args : List Value) (ts : List Tree) (n : ℕ) (v : Value) (t : Tree) → slice_get (args ++ blanks D (drop (length args) ts)) n ≡ Some v → slice_get ts n ≡ Some t → length args ≤ n → v ≡ blank D t
  after_args [] ts n v t e h le = some_one (sym e ∙ slice_get-map (blank D) ts n ∙ ap (option_map (blank D)) h)
  after_args (a ∷ args) [] n v t e h le = absurd (grind arith)
  after_args (a ∷ args) (u ∷ ts) zero v t e h le = absurd (omega arith)
  after_args (a ∷ args) (u ∷ ts) (suc n) v t e h le = after_args args ts n v t e h (omega arith)

  slot_blank : (args : List Value) (ts : List Tree) (x : ℕ) (v : Value) (t : Tree) → slice_get (new_slots D ts args) x ≡ Some v → slice_get ts x ≡ Some t → (x ≡ 0) ⊎ (length args < x) → v ≡ blank D t
  unfolding new_slots
  slot_blank args [] x v t e h k = absurd (grind arith)
  slot_blank args (u ∷ ts) zero v t e h k = sym (some_one e) ∙ ap (blank D) (some_one h)
  slot_blank args (u ∷ ts) (suc n) v t e h (inl k) = absurd (grind arith)
  slot_blank args (u ∷ ts) (suc n) v t e h (inr k) = after_args args ts n v t e h (omega arith)

  module _ (m : Memory) (args : List Value) (fits : length args ≤ b.args) where
    abbrev new_mem : Memory
    new_mem = open_frame m f (new_slots D b.locals args)

    not_arg : (x : ℕ) → is_arg b x ≡ false → (x ≡ 0) ⊎ (length args < x)
    not_arg x e = go (same_or_not x 0) (nat_le x b.args) refl e
      where
        go : ((nat_eq x 0 ≡ true) × (x ≡ 0)) ⊎ ((nat_eq x 0 ≡ false) × (x ≡ 0 → ⊥)) → (c : Bool) → nat_le x b.args ≡ c → (not (nat_eq x 0) && nat_le x b.args) ≡ false → (x ≡ 0) ⊎ (length args < x)
        go (inl h) c q e = inl h.1
        go (inr h) c q e = inr (let z : nat_le x b.args ≡ false = ap (λ a. not a && nat_le x b.args) (sym h.0) ∙ e in grind arith)

    fact_holds : (p : Place) → Good p → Fits (if is_arg b p.local then Many else Nothing) (value_at new_mem (addr_of D b.locals f (λ x. borrowed D b x ≡ false) p))
    unfolding value_at ◌>>=◌ type_of place_ty blank
    fact_holds p g = go (is_arg b p.local) refl
      where
        slot : (o : Option Value) → slice_get (new_slots D b.locals args) p.local ≡ o → is_arg b p.local ≡ false → Fits Nothing (o >>= at_path p.proj)
        slot None e q = tt
        slot (Some v) e q =
            let (t, e1, e2) = bind_some g.scalar in
            subst (λ v. Fits Nothing (at_path p.proj v)) (sym (slot_blank args b.locals p.local v t e e1 (not_arg p.local q))) (blank_scalar D p.proj (length D) t g.ty g.direct e2)

        go : (c : Bool) → is_arg b p.local ≡ c → Fits (if c then Many else Nothing) (local_at new_mem f p.local >>= at_path p.proj)
        go true q = many_fits _
        go false q = subst (λ o. Fits Nothing (o >>= at_path p.proj)) (sym (open_same m f (new_slots D b.locals args) p.local)) (slot (slice_get (new_slots D b.locals args) p.local) refl q)

    facts_hold : (ps : List Place) → All Good ps → Holds D b.locals f (λ x. borrowed D b x ≡ false) new_mem (map (first_fact b) ps)
    facts_hold [] h = tt
    facts_hold (p ∷ ps) h = (let good = All-head Good p ps h in ((good, fact_holds p good), facts_hold ps (All-tail Good p ps h)))

    -- at the start of a frame
    pub first_holds : Holds D b.locals f (λ x. borrowed D b x ≡ false) new_mem (first_facts D b)
    first_holds = facts_hold (tracked D b) tracked_good
