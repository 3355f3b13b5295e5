-- Which units of a memory are initialised, and what writes make of it.
use Rattle.std.proofs.Common.{◌≡◌, ◌⊎◌, inl, inr, refl, sym, ap, ap₂, ◌∙◌, subst, ℕ, Bool, true, false, List, ◌++◌, length, Option, Some, None, slice_get, option_map, arith}
use Rattle.mir_syntax.specs.declared.body.Proj.{Proj}
use Rattle.mir_syntax.specs.Tree.{Tree, named}
use Rattle.mir_syntax.specs.Shapes.{Shape, ◌>>=◌, path_ty, needs_drop, path_through}
use Rattle.mir_rules.specs.DefinitionRules.{holds}
use Rattle.mir_syntax.specs.Parts.{is_direct}
use Rattle.mir_rules.specs.Weights.{units}
use Rattle.mir_semantics.specs.Values.{Addr, Value, is_hole, whole, at_path, put, full, is_unit, blank}
use Rattle.mir_semantics.specs.Memory.{Memory, local_at, value_at, write}
use Rattle.mir_semantics.specs.Step.{Dest, allows, store}
use Rattle.mir_renaming.specs.Renaming.{RootOf}
use Rattle.mir_syntax.proofs.Binds.{bind_some, some_bind}
use Rattle.mir_renaming.proofs.Memory.{root_or_not, write_same, write_other}
use Rattle.mir_renaming.proofs.Statements.{only_true}
use Rattle.mir_renaming.proofs.Types.{TypeMap, HasTy, AddrTy, MemTy, some_eq, value_at_ty}
use Rattle.drop_elab.proofs.refines.Items.{Proper, ProperShapes}
use Rattle.drop_elab.proofs.refines.Sound.{Has}
use Rattle.drop_elab.proofs.refines.Puts.{hole_at, put_beside}
use Rattle.drop_elab.proofs.refines.Deep.{Deep, Loose, put_loose, put_blank, blank_loose, at_path_deep, deep_solid, unit_deep}
use Rattle.drop_elab.proofs.refines.Kept.{units_fields, kept_by_write, ended_by_blank, begun_by_whole}

-- whether a hole stands at a unit of a local of a frame
abbrev pub unit_hole : Memory → ℕ → ℕ → List Proj → Option Bool
unit_hole m g x u = local_at m g x >>= hole_at u

module _ (D : List Shape) (apart : (d : ℕ) → holds D (length D) d d ≡ false) (proper : ProperShapes D) (G : TypeMap) where
  -- a write in another local changes nothing
  pub write_elsewhere : (m : Memory) (a : Addr) (w : Value) (g x : ℕ) (u : List Proj) → (g ≡ a.frame → x ≡ a.local → ⊥) → unit_hole (write m a w) g x u ≡ unit_hole m g x u
  write_elsewhere m a w g x u ne = ap (λ o. o >>= hole_at u) (write_other m a w g x ne)

  -- in the same local: by what the write makes of the local's value
  write_here : (m : Memory) (a : Addr) (w o : Value) (g x : ℕ) (u : List Proj) → RootOf a g x → local_at m g x ≡ Some o → unit_hole (write m a w) g x u ≡ hole_at u (put a.path w o)
  write_here m a w o g x u r e = ap (λ q. q >>= hole_at u) (write_same m a w g x r ∙ ap (option_map (put a.path w)) e) ∙ some_bind (hole_at u) {o = Some (put a.path w o)} refl refl

  -- a write that leaves no unit as a hole where none was, and of a type that needs drop only over a full value
  pub write_keeps : (m : Memory) (a : Addr) (t : Tree) (old w : Value) → MemTy D G m → (h : AddrTy D G a t) → value_at m a ≡ Some old → HasTy D G t w → (needs_drop D t ≡ true → (full D t old ≡ true) × (whole w ≡ true)) → (g x : ℕ) (lt : Tree) (u : List Proj) → G g x ≡ Some lt → Proper lt → Has (units D lt) u → unit_hole (write m a w) g x u ≡ unit_hole m g x u
  unfolding value_at
  write_keeps m a t old w mt h ev tw ok g x lt u gt pr hu =
      let (o, e1, e2) = bind_some ev in
      let told = value_at_ty D G m a t old mt h ev in
      go o e1 e2 told (root_or_not a g x)
    where
      go : (o : Value) → local_at m a.frame a.local ≡ Some o → at_path a.path o ≡ Some old → HasTy D G t old → RootOf a g x ⊎ (g ≡ a.frame → x ≡ a.local → ⊥) → unit_hole (write m a w) g x u ≡ unit_hole m g x u
      go o e1 e2 told (inr ne) = write_elsewhere m a w g x u ne
      go o e1 e2 told (inl r) =
          let here : local_at m g x ≡ Some o = ap₂ (local_at m) r.0 r.1 ∙ e1 in
          let z : h.local ≡ lt = some_eq D G h.local lt (G g x) (ap₂ G r.0 r.1 ∙ h.is) gt in
          let pt : path_ty D lt a.path ≡ Some t = subst (λ lt. path_ty D lt a.path ≡ Some t) z h.path in
          write_here m a w o g x u r here ∙ kept_by_write D apart proper G u a.path lt t o old w pr hu pt tw e2 (λ n. (let k = ok n in (k.0, k.1, told))) ∙ sym (some_bind (hole_at u) here refl)

  -- an assignment through a reference, or a result that is written through one: the guard stands, or the type needs no drop
  pub store_keeps : (m m' : Memory) (d : Dest) (t : Tree) (v : Value) → MemTy D G m → AddrTy D G d.addr t → HasTy D G t v → whole v ≡ true → (needs_drop D t ≡ true → d.guard ≡ Some t) → store D m d v ≡ Some m' → (g x : ℕ) (lt : Tree) (u : List Proj) → G g x ≡ Some lt → Proper lt → Has (units D lt) u → unit_hole m' g x u ≡ unit_hole m g x u
  unfolding store
  store_keeps m m' d t v mt h tv wh guard e g x lt u gt pr hu =
      let (old, e1, e2) = bind_some e in
      let (ok, z) = only_true (allows D d.guard old) (write m d.addr v) m' e2 in
      subst (λ m'. unit_hole m' g x u ≡ unit_hole m g x u) z
      (write_keeps m d.addr t old v mt h e1 tv (λ n. (subst (λ q. allows D q old ≡ true) (guard n) ok, wh)) g x lt u gt pr hu)

  -- what is moved out through a reference or a variant needs no drop
  pub move_keeps : (m : Memory) (a : Addr) (t : Tree) (old : Value) → MemTy D G m → AddrTy D G a t → value_at m a ≡ Some old → HasTy D G t (blank D t) → needs_drop D t ≡ false → (g x : ℕ) (lt : Tree) (u : List Proj) → G g x ≡ Some lt → Proper lt → Has (units D lt) u → unit_hole (write m a (blank D t)) g x u ≡ unit_hole m g x u
  move_keeps m a t old mt h ev tb no_need g x lt u gt pr hu = write_keeps m a t old (blank D t) mt h ev tb (λ n. absurd (let z : true ≡ false = sym n ∙ no_need in grind arith)) g x lt u gt pr hu

  -- a move, a storage statement or the end of a drop, at a place above the unit
  pub blank_ends : (m : Memory) (a : Addr) (t : Tree) (old : Value) → AddrTy D G a t → Proper t → value_at m a ≡ Some old → (lt : Tree) (u rest : List Proj) → G a.frame a.local ≡ Some lt → Proper lt → Has (units D lt) u → u ≡ a.path ++ rest → unit_hole (write m a (blank D t)) a.frame a.local u ≡ Some true
  unfolding value_at
  blank_ends m a t old h prt ev lt u rest gt pr hu eu =
      let (o, e1, e2) = bind_some ev in
      let z : h.local ≡ lt = some_eq D G h.local lt (G a.frame a.local) h.is gt in
      write_here m a (blank D t) o a.frame a.local u (refl, refl) e1 ∙ ended_by_blank D apart proper u a.path rest lt t o old pr hu eu (subst (λ lt. path_ty D lt a.path ≡ Some t) z h.path) prt e2

  -- a value that is written at a place above the unit
  pub value_begins : (m : Memory) (a : Addr) (t : Tree) (old w : Value) → AddrTy D G a t → Proper t → value_at m a ≡ Some old → HasTy D G t w → whole w ≡ true → (lt : Tree) (u rest : List Proj) → G a.frame a.local ≡ Some lt → Proper lt → Has (units D lt) u → u ≡ a.path ++ rest → unit_hole (write m a w) a.frame a.local u ≡ Some false
  unfolding value_at
  value_begins m a t old w h prt ev tw wh lt u rest gt pr hu eu =
      let (o, e1, e2) = bind_some ev in
      let z : h.local ≡ lt = some_eq D G h.local lt (G a.frame a.local) h.is gt in
      write_here m a w o a.frame a.local u (refl, refl) e1 ∙ begun_by_whole D apart proper G u a.path rest lt t o old w pr hu eu (subst (λ lt. path_ty D lt a.path ≡ Some t) z h.path) prt tw wh e2

  -- at a place that isn't above the unit nothing changes
  pub write_beside : (m : Memory) (a : Addr) (w old : Value) → value_at m a ≡ Some old → (lt : Tree) (u : List Proj) → Proper lt → Has (units D lt) u → ((rest : List Proj) → u ≡ a.path ++ rest → ⊥) → unit_hole (write m a w) a.frame a.local u ≡ unit_hole m a.frame a.local u
  unfolding value_at
  write_beside m a w old ev lt u pr hu ne =
      let (o, e1, e2) = bind_some ev in
      write_here m a w o a.frame a.local u (refl, refl) e1 ∙ put_beside a.path u w o (units_fields D apart proper u lt pr hu) (λ q. ne q.0 q.1) ∙ sym (some_bind (hole_at u) e1 refl)

-- ---- memories in which each local is loose at its type: a unit that is no hole has none inside

module _ (D : List Shape) (G : TypeMap) where
  pub record MemLoose (m : Memory) : Type 0 where
    pub at : (f x : ℕ) (t : Tree) (v : Value) → G f x ≡ Some t → local_at m f x ≡ Some v → Loose D t v

  abbrev ChangeLoose : Memory → Addr → Value → Type 0
  ChangeLoose m a w = (lt : Tree) (o : Value) → G a.frame a.local ≡ Some lt → local_at m a.frame a.local ≡ Some o → Loose D lt o → Loose D lt (put a.path w o)

  changed_loose : (m : Memory) (a : Addr) (w : Value) → ChangeLoose m a w → MemLoose m → MemLoose (write m a w)
  changed_loose m a w change k = record { at = λ f x t v g e. go f x t v g e (root_or_not a f x) }
    where
      here : (f x : ℕ) (t : Tree) (v : Value) → G f x ≡ Some t → RootOf a f x → (o : Option Value) → local_at m f x ≡ o → option_map (put a.path w) o ≡ Some v → Loose D t v
      here f x t v g r None e p = absurd (grind arith)
      here f x t v g r (Some o) e p =
          let z : put a.path w o ≡ v = grind arith in
          subst (λ v. Loose D t v) z (change t o (ap₂ G (sym r.0) (sym r.1) ∙ g) (ap₂ (local_at m) (sym r.0) (sym r.1) ∙ e) (k.at f x t o g e))

      go : (f x : ℕ) (t : Tree) (v : Value) → G f x ≡ Some t → local_at (write m a w) f x ≡ Some v → RootOf a f x ⊎ (f ≡ a.frame → x ≡ a.local → ⊥) → Loose D t v
      go f x t v g e (inl r) = here f x t v g r (local_at m f x) refl (sym (write_same m a w f x r) ∙ e)
      go f x t v g e (inr n) = k.at f x t v g (sym (write_other m a w f x n) ∙ e)

  -- a whole value, or any value of a type that needs no drop
  pub write_loose : (m : Memory) (a : Addr) (t : Tree) (w : Value) → MemLoose m → AddrTy D G a t → Deep D t w → MemLoose (write m a w)
  write_loose m a t w k h dw = changed_loose m a w (λ lt o g e l. put_loose D a.path lt t w o dw l (subst (λ lt. path_ty D lt a.path ≡ Some t) (some_eq D G h.local lt (G a.frame a.local) h.is g) h.path)) k

  -- a blank, at a place of fields that goes through no type with a destructor
  pub blank_write_loose : (proper : ProperShapes D) (m : Memory) (a : Addr) (t : Tree) → MemLoose m → (h : AddrTy D G a t) → is_direct a.path ≡ true → path_through D (Some h.local) a.path ≡ false → MemLoose (write m a (blank D t))
  blank_write_loose proper m a t k h di th =
      changed_loose m a (blank D t) (λ lt o g e l. (let z = some_eq D G h.local lt (G a.frame a.local) h.is g in put_blank D a.path lt t (blank D t) o (blank_loose D proper t) l (subst (λ lt. path_ty D lt a.path ≡ Some t) z h.path) di (subst (λ lt. path_through D (Some lt) a.path ≡ false) z th))) k

  -- inside a unit that is no hole, what needs drop is no hole
  pub inside_solid : (t : Tree) (rest : List Proj) (d : ℕ) (s : Shape) (u v : Value) → slice_get D d ≡ Some s → is_unit s ≡ true → HasTy D G (named d) u → Loose D (named d) u → is_hole u ≡ false → path_ty D (named d) rest ≡ Some t → at_path rest u ≡ Some v → needs_drop D t ≡ true → is_hole v ≡ false
  inside_solid t rest d s u v es un ty lo solid pt e n = deep_solid D t v (at_path_deep D rest (named d) t u v (unit_deep D G d s u es un ty lo solid) pt e) n
