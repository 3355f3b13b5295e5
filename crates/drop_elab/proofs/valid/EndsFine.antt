-- The text of the source's body keeps the rules in the elaborated one, and so do the settings of flags and the ends of blocks.
use Rattle.std.proofs.Common.{◌≡◌, refl, sym, ap, ◌∙◌, subst, ℕ, zero, suc, ◌+◌, ◌<◌, ◌≤◌, Bool, true, false, ◌&&◌, ◌||◌, if◌then◌else◌, List, [], ◌∷◌, ◌++◌, length, Option, Some, None, slice_get, arith, ltb-true, lt-ltb}
use Rattle.move_paths.specs.Inits.{is_argument}
use Rattle.drop_elab.proofs.refines.Bodies.{front_stays}
use Rattle.std.specs.List.{list_all}
use Rattle.std.proofs.lemmas.Bool.{and_from}
use Rattle.std.proofs.lemmas.Option.{slice_get_within}
use Rattle.mir_syntax.specs.declared.body.Place.{Place}
use Rattle.mir_syntax.specs.declared.body.Proj.{Proj}
use Rattle.mir_syntax.specs.declared.body.Proj.TheVariants.{Field, Downcast, Deref}
use Rattle.mir_syntax.specs.declared.body.Operand.{Operand}
use Rattle.mir_syntax.specs.declared.body.Callee.{Callee}
use Rattle.mir_syntax.specs.declared.body.Term.{Term}
use Rattle.mir_syntax.specs.declared.body.Term.TheVariants.{Goto, Switch, Return, Unreachable, Drop, Call, Assert}
use Rattle.mir_syntax.specs.Tree.{Tree}
use Rattle.mir_syntax.specs.Parts.{is_direct, path_formed, term_operands, term_places, targets}
use Rattle.mir_syntax.specs.Crate.{TypedStmt, assign, storage_live, storage_dead, set_discriminant, TypedBlock, TypedBody, Crate}
use Rattle.mir_syntax.specs.Shapes.{Shape, path_ty, place_ty}
use Rattle.mir_syntax.proofs.Binds.{bind_some, some_bind}
use Rattle.mir_rules.specs.DefinitionRules.{holds}
use Rattle.mir_rules.specs.Formed.{place_formed, operand_formed, stmt_formed, call_formed, block_there, term_formed}
use Rattle.mir_rules.specs.Typing.{bool_ty}
use Rattle.mir_rules.proofs.Lists.{and_true-left, and_true-right, list_all_true, list_all_true-at}
use Rattle.mir_rules.proofs.Statements.{StmtTyped}
use Rattle.mir_rules.proofs.Terminators.{TermTyped, not_to_start, slice_get_there}
use Rattle.move_paths.specs.Effects.{units_of_body, is_under, effect, moved, begun}
use Rattle.drop_elab.specs.Plan.{Plan, done, clear}
use Rattle.drop_elab.specs.Elab.{Status, dead, static, conditional, Flagged, set_to, settings, with_settings, first_settings, only_if, cleared, typed_glue, guarded_by, plan_unit, plan_drop, call_end, lay_end}
use Rattle.mir_relate.specs.Renumbered.{StmtSame}
use Rattle.mir_relate.proofs.Leaves.{some_val}
use Rattle.mir_relate.proofs.Renumbered.{assign_keeps, set_keeps, term_keeps, stmt_formed_same, term_formed_same}
use Rattle.drop_elab.proofs.refines.Items.{Proper}
use Rattle.drop_elab.proofs.refines.Propers.{direct_proper}
use Rattle.drop_elab.proofs.refines.Sound.{Has}
use Rattle.drop_elab.proofs.refines.Puts.{Fields}
use Rattle.drop_elab.proofs.refines.Kept.{units_fields}
use Rattle.drop_elab.proofs.refines.Solid.{unit_of_local}
use Rattle.drop_elab.proofs.refines.Places.{Stands, head_stands}
use Rattle.drop_elab.proofs.refines.Texts.{Itself, stmt_self, term_self}
use Rattle.drop_elab.proofs.valid.Fine.{Each, each_append}
use Rattle.drop_elab.proofs.valid.Fine as fine
use Rattle.drop_elab.proofs.valid.LaidFine as laid
use Rattle.drop_elab.proofs.valid.GlueFine as glued

pub fields_formed : (ps : List Proj) → Fields ps → (path_formed ps ≡ true) × (is_direct ps ≡ true)
fields_formed [] h = (refl, refl)
fields_formed (Field i ∷ ps) h = fields_formed ps h
fields_formed (Downcast k ∷ ps) h = absurd h
fields_formed (Deref ∷ ps) h = absurd h

module _ (C : Crate) (D : List Shape) (apart : (d : ℕ) → holds D (length D) d d ≡ false) (e : TypedBody) (defs : glued.DefsFine C D e) (body : TypedBody) (args : e.args ≡ body.args) (others : List Tree) (more : e.locals ≡ body.locals ++ others) (long : length body.blocks ≤ length e.blocks) (proper_locals : (x : ℕ) (t : Tree) → slice_get body.locals x ≡ Some t → Proper t) where
  abbrev StmtFine : TypedStmt → Type 0
  StmtFine = fine.StmtFine C D e

  abbrev TermFine : Term → Type 0
  TermFine = fine.TermFine C D e

  -- ---- the source's text

  abbrev R : ℕ → ℕ → Type 0
  R = Itself body

  lifted : (x : ℕ) (t : Tree) → slice_get body.locals x ≡ Some t → slice_get e.locals x ≡ Some t
  lifted x t q = ap (λ ts. slice_get ts x) more ∙ front_stays body.locals others x t q

  types : (x y : ℕ) → R x y → slice_get body.locals x ≡ slice_get e.locals y
  types x y (l, z) = (let (t, q) = slice_get_there body.locals x l in q ∙ sym (lifted x t q) ∙ ap (slice_get e.locals) z)

  -- the body with the other's blocks
  abbrev B : TypedBody
  B = record { args = body.args; locals = body.locals; blocks = e.blocks }

  pub stmt_stays : (s : TypedStmt) → stmt_formed C body s ≡ true → StmtTyped D body.args body.locals s → fine.StmtFine C D e s
  unfolding stmt_formed
  stmt_stays s h t = record { formed = stmt_formed_same C B e R types refl s s (stmt_self C body s h) ∙ formed s h; typed = subst (λ n. StmtTyped D n e.locals s) (sym args) (typed s (stmt_self C body s h) t) }
    where
      formed : (s : TypedStmt) → stmt_formed C body s ≡ true → stmt_formed C B s ≡ true
      formed (assign p r) h = h
      formed (storage_live x) h = h
      formed (storage_dead x) h = h
      formed (set_discriminant p k) h = h

      typed : (s : TypedStmt) → StmtSame R s s → StmtTyped D body.args body.locals s → StmtTyped D body.args e.locals s
      typed (assign p r) h t = assign_keeps D body.locals e.locals R types body.args p p r r h.0 h.1 t
      typed (storage_live x) h t = t
      typed (storage_dead x) h t = t
      typed (set_discriminant p k) h t = set_keeps D body.locals e.locals R types body.args p p k k h.0 h.1 t

  block_stays : (i : ℕ) → block_there body i ≡ true → block_there e i ≡ true
  block_stays i h = lt-ltb i (length e.blocks) (let l = ltb-true i (length body.blocks) h in omega (arith, l, long))

  pub target_stays : (t : Term) (i u : ℕ) → term_formed C body t ≡ true → TermTyped C D body.locals t → slice_get (targets t) i ≡ Some u → fine.Target C D e u
  unfolding term_formed
  target_stays t i u h k q =
      let ops = list_all operand_formed (term_operands t) in
      let places = list_all (place_formed body) (term_places t) in
      let all = list_all (block_there body) (targets t) in
      let there = and_true-right places all (and_true-right ops (places && all) (and_true-right (call_formed C t) (ops && (places && all)) h)) in
      record { there = block_stays u (list_all_true-at (block_there body) (targets t) i u there q); later = positive u (not_to_start t i u k.targets q) }
    where
      positive : (u : ℕ) → (u ≡ 0 → ⊥) → 0 < u
      positive zero n = absurd (n refl)
      positive (suc u) n = omega arith

  pub term_stays : (t : Term) → term_formed C body t ≡ true → TermTyped C D body.locals t → fine.TermFine C D e t
  unfolding term_formed
  term_stays t h k =
      let ops = list_all operand_formed (term_operands t) in
      let places = list_all (place_formed body) (term_places t) in
      let all = list_all (block_there body) (targets t) in
      let h1 = and_true-right (call_formed C t) (ops && (places && all)) h in
      let h2 = and_true-right ops (places && all) h1 in
      let in_b : term_formed C B t ≡ true = and_from _ _ (and_true-left (call_formed C t) (ops && (places && all)) h) (and_from _ _ (and_true-left ops (places && all) h1) (and_from _ _ (and_true-left places all h2) (list_all_true (block_there e) (targets t) (λ i u q. block_stays u (list_all_true-at (block_there body) (targets t) i u (and_true-right places all h2) q))))) in
      record { formed = term_formed_same C B e R types refl t t (term_self C body t h) ∙ in_b; typed = term_keeps D body.locals e.locals R types C t t (term_self C body t h) k }

  -- a call that returns to another block
  pub call_moves : (p : Place) (g : Callee) (os : List Operand) (next b : ℕ) → fine.TermFine C D e (Call p g os next) → fine.Target C D e b → fine.TermFine C D e (Call p g os b)
  unfolding term_formed
  call_moves p g os next b h t =
      let T = Call p g os next in
      let ops = list_all operand_formed (term_operands T) in
      let places = list_all (place_formed e) (term_places T) in
      let all = list_all (block_there e) (targets T) in
      let h1 = and_true-right (call_formed C T) (ops && (places && all)) h.formed in
      let h2 = and_true-right ops (places && all) h1 in
      record {
        formed = and_from _ _ (and_true-left (call_formed C T) (ops && (places && all)) h.formed) (and_from _ _ (and_true-left ops (places && all) h1) (and_from _ _ (and_true-left places all h2) (and_from _ _ t.there refl)));
        typed = record { targets = ap (λ b. b || false) (fine.not_first C D e b t.later); own = h.typed.own; moves = h.typed.moves };
      }

  -- ---- units and flags

  pub record FlagFine (k : Flagged) : Type 0 where
    pub unit : Has (units_of_body D body) k.unit
    pub typed : (x : ℕ) → k.flag ≡ Some x → slice_get e.locals x ≡ Some bool_ty

  unit_fine : (u : Place) (t : Tree) → Has (units_of_body D body) u → place_ty D body.locals u ≡ Some t → fine.PlaceFine C D e u t × Proper t
  unfolding place_ty
  unit_fine u t hu q =
      let (y, lt, ul, el, hp) = unit_of_local D 0 body.locals u hu in
      let z : y ≡ u.local = sym (ul ∙ (let z : 0 + y ≡ y = omega arith in z)) in
      let el' : slice_get body.locals u.local ≡ Some lt = subst (λ y. slice_get body.locals y ≡ Some lt) z el in
      let (l, e1, e2) = bind_some q in
      let same : l ≡ lt = some_val (sym e1 ∙ el') in
      let pt : path_ty D lt u.proj ≡ Some t = subst (λ l. path_ty D l u.proj ≡ Some t) same e2 in
      let pr = proper_locals u.local lt el' in
      let (pf, di) = fields_formed u.proj (units_fields D apart defs.proper u.proj lt pr hp) in
      let el2 = lifted u.local lt el' in
      (record { formed = and_from _ _ (lt-ltb u.local (length e.locals) (slice_get_within e.locals u.local lt el2)) pf; typed = some_bind _ el2 pt }, direct_proper D defs.proper u.proj lt t pr di pt)

  pub settings_fine : (change : Place → Option Bool) (ks : List Flagged) → Each FlagFine ks → Each (fine.StmtFine C D e) (settings change ks)
  settings_fine change [] h = tt
  settings_fine change (k ∷ ks) h = each_append StmtFine (set_to k.flag (change k.unit)) (settings change ks) (one k.flag (change k.unit) h.0.typed) (settings_fine change ks h.1)
    where
      one : (o : Option ℕ) (b : Option Bool) → ((x : ℕ) → o ≡ Some x → slice_get e.locals x ≡ Some bool_ty) → Each StmtFine (set_to o b)
      one None b h = tt
      one (Some x) None h = tt
      one (Some x) (Some b) h = (fine.set_fine C D e x b (h x refl), tt)

  pub with_settings_fine : (ks : List Flagged) (ss : List TypedStmt) → Each FlagFine ks → Each (fine.StmtFine C D e) ss → Each (fine.StmtFine C D e) (with_settings ks ss)
  with_settings_fine ks [] h s = tt
  with_settings_fine ks (x ∷ ss) h s = (s.0, each_append StmtFine (settings (λ u. effect u x) ks) (with_settings ks ss) (settings_fine (λ u. effect u x) ks h) (with_settings_fine ks ss h s.1))

  pub first_fine : (n i : ℕ) (ks : List Flagged) → Each FlagFine ks → Each (fine.StmtFine C D e) (first_settings n i ks)
  first_fine n zero ks h = settings_fine (λ u. Some (is_argument n u)) ks h
  first_fine n (suc i) ks h = tt

  -- ---- the plan of a drop

  typed_glue_fine : (u : Place) (o : Option Tree) (rest : Plan) → Has (units_of_body D body) u → place_ty D body.locals u ≡ o → laid.PlanFine C D e rest → laid.PlanFine C D e (typed_glue D u o rest)
  typed_glue_fine u None rest hu q h = h
  typed_glue_fine u (Some t) rest hu q h = (let (p, pr) = unit_fine u t hu q in glued.glue_fine C D e defs u t rest pr p h)

  unit_plan_fine : (k : Flagged) (s : Status) (rest : Plan) → FlagFine k → laid.PlanFine C D e rest → laid.PlanFine C D e (plan_unit D body.locals k s rest)
  unit_plan_fine k dead rest h r = r
  unit_plan_fine k static rest h r = typed_glue_fine k.unit (place_ty D body.locals k.unit) (cleared k.flag rest) h.unit refl (clear_fine k.flag h.typed)
    where
      clear_fine : (o : Option ℕ) → ((x : ℕ) → o ≡ Some x → slice_get e.locals x ≡ Some bool_ty) → laid.PlanFine C D e (cleared o rest)
      clear_fine None t = r
      clear_fine (Some x) t = (t x refl, r)
  unit_plan_fine k conditional rest h r = guard k.flag h.typed
    where
      guard : (o : Option ℕ) → ((x : ℕ) → o ≡ Some x → slice_get e.locals x ≡ Some bool_ty) → laid.PlanFine C D e (guarded_by o (λ x. typed_glue D k.unit (place_ty D body.locals k.unit) (clear x done)) rest)
      guard None t = r
      guard (Some x) t = (t x refl, typed_glue_fine k.unit (place_ty D body.locals k.unit) (clear x done) h.unit refl (t x refl, tt), r)

  plan_fine : (p : Place) (ks : List Flagged) (ss : List Status) → Each FlagFine ks → laid.PlanFine C D e (plan_drop D body.locals p ks ss)
  plan_fine p [] ss h = tt
  plan_fine p (k ∷ ks) [] h = tt
  plan_fine p (k ∷ ks) (s ∷ ss) h = go (is_under p k.unit) (plan_fine p ks ss h.1)
    where
      go : (b : Bool) → laid.PlanFine C D e (plan_drop D body.locals p ks ss) → laid.PlanFine C D e (if b then plan_unit D body.locals k s (plan_drop D body.locals p ks ss) else plan_drop D body.locals p ks ss)
      go true r = unit_plan_fine k s (plan_drop D body.locals p ks ss) h.0 r
      go false r = r

  -- ---- ends of blocks

  call_end_fine : (clears sets : List TypedStmt) (p : Place) (g : Callee) (os : List Operand) (next l b : ℕ) → Each (fine.StmtFine C D e) clears → Each (fine.StmtFine C D e) sets → fine.TermFine C D e (Call p g os next) → fine.Target C D e next → 0 < b → Stands e l b (call_end clears (Call p g os next) (Call p g os b) next sets) → laid.LaidFine C D e (call_end clears (Call p g os next) (Call p g os b) next sets)
  call_end_fine clears [] p g os next l b hc hs ht tn lt st = record { stmts = hc; term = ht; locals = tt; blocks = tt; heads = tt }
  call_end_fine clears (x ∷ xs) p g os next l b hc hs ht tn lt st =
      let back : TypedBlock = record { stmts = x ∷ xs; term = Goto next } in
      record {
        stmts = hc;
        term = call_moves p g os next b ht (fine.target_at C D e b back lt (head_stands e.blocks b back [] st.blocks));
        locals = tt;
        blocks = (record { stmts = hs; term = fine.goto_fine C D e next tn }, tt);
        heads = tt;
      }

  pub end_fine : (ks : List Flagged) (ss : List Status) (t : Term) (l b : ℕ) → Each FlagFine ks → term_formed C body t ≡ true → TermTyped C D body.locals t → 0 < b → Stands e l b (lay_end D body.locals ks ss t l b) → laid.LaidFine C D e (lay_end D body.locals ks ss t l b)
  end_fine ks ss (Drop p next) l b h tf ty lt st = laid.lay_fine C D e (plan_drop D body.locals p ks ss) l b next (plan_fine p ks ss h) (target_stays (Drop p next) 0 next tf ty refl) lt st
  end_fine ks ss (Call p g os next) l b h tf ty lt st = call_end_fine (settings (λ u. only_if (moved u (Call p g os next)) false) ks) (settings (λ u. only_if (begun u (Call p g os next)) true) ks) p g os next l b (settings_fine (λ u. only_if (moved u (Call p g os next)) false) ks h) (settings_fine (λ u. only_if (begun u (Call p g os next)) true) ks h) (term_stays (Call p g os next) tf ty) (target_stays (Call p g os next) 0 next tf ty refl) lt st
  end_fine ks ss (Goto u) l b h tf ty lt st = record { stmts = tt; term = term_stays (Goto u) tf ty; locals = tt; blocks = tt; heads = tt }
  end_fine ks ss (Switch o arms u) l b h tf ty lt st = record { stmts = tt; term = term_stays (Switch o arms u) tf ty; locals = tt; blocks = tt; heads = tt }
  end_fine ks ss Return l b h tf ty lt st = record { stmts = tt; term = term_stays Return tf ty; locals = tt; blocks = tt; heads = tt }
  end_fine ks ss Unreachable l b h tf ty lt st = record { stmts = tt; term = term_stays Unreachable tf ty; locals = tt; blocks = tt; heads = tt }
  end_fine ks ss (Assert o c w os u) l b h tf ty lt st = record { stmts = tt; term = term_stays (Assert o c w os u) tf ty; locals = tt; blocks = tt; heads = tt }
