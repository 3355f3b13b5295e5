-- A crate with an elaborated body is valid.
use Rattle.std.proofs.Common.{◌≡◌, refl, sym, ap, ap₂, ◌∙◌, subst, ℕ, zero, suc, ◌+◌, ◌<◌, ◌≤◌, Bool, true, false, List, [], ◌∷◌, ◌++◌, length, take, Some, None, slice_get, arith, lt-ltb}
use Rattle.std.specs.List.{list_all}
use Rattle.std.proofs.lemmas.Bool.{and_from}
use Rattle.std.proofs.lemmas.Option.{slice_get_within}
use Rattle.mir_syntax.specs.declared.body.Place.{Place}
use Rattle.mir_syntax.specs.Tree.{Tree, named, tuple_of}
use Rattle.mir_syntax.specs.Crate.{TypedBlock, TypedBody, TypedFunction, Crate}
use Rattle.mir_syntax.specs.Shapes.{Shape, shapes_of}
use Rattle.mir_syntax.proofs.Binds.{some_bind}
use Rattle.mir_rules.specs.DefinitionRules.{holds}
use Rattle.mir_rules.specs.Formed.{type_formed, stmt_formed, term_formed, block_formed, body_formed}
use Rattle.mir_rules.specs.Typing.{bool_ty, result_of, args_of}
use Rattle.mir_rules.specs.Valid.{Valid, with_body, at_function}
use Rattle.mir_rules.proofs.Bodies.{Alike}
use Rattle.mir_rules.proofs.Destructors.{IsDestructor, shape_is, destructor_found}
use Rattle.mir_rules.proofs.Fixed.{apart_in}
use Rattle.mir_rules.proofs.Keeps.{BodyKeeps}
use Rattle.mir_rules.proofs.Lists.{list_all_true}
use Rattle.mir_rules.proofs.Statements.{typed_stmt}
use Rattle.mir_rules.proofs.Terminators.{TermTyped, typed_term}
use Rattle.mir_rules.proofs.ValidCrates.{body_formed_at, first_block, args_below, local_formed_at, stmt_formed_at, term_formed_at, stmt_at, term_at, valid_put}
use Rattle.move_paths.specs.Effects.{units_of_body}
use Rattle.drop_elab.specs.Plan.{Laid}
use Rattle.drop_elab.specs.Elab.{Inits, Flagged, with_flags, flag_locals, want_flags, statuses_at, with_settings, first_settings, lay_end, LaidBlocks, lay_blocks, elab_by}
use Rattle.drop_elab.specs.Tupled.{TypesTupled, FewVariants}
use Rattle.drop_elab.proofs.refines.Items.{Proper}
use Rattle.drop_elab.proofs.refines.Bodies.{flags_of, first_new, blocks_long, stands_behind}
use Rattle.drop_elab.proofs.refines.Flags.{flags_range}
use Rattle.drop_elab.proofs.refines.Places.{StandsIn, left_stands, right_stands}
use Rattle.drop_elab.proofs.refines.Refined.{proper_shapes}
use Rattle.drop_elab.proofs.valid.Fine.{Each, each_append, each_at, each_from}
use Rattle.drop_elab.proofs.valid.Fine as fine
use Rattle.drop_elab.proofs.valid.GlueFine as glued
use Rattle.drop_elab.proofs.valid.EndsFine as ends

-- ---- lists

each_all : {A : Type 0} (p : A → Bool) (xs : List A) → Each (λ x. p x ≡ true) xs → list_all p xs ≡ true
each_all p xs h = list_all_true p xs (λ i x e. each_at (λ x. p x ≡ true) xs i x h e)

take_front : {A : Type 0} (n : ℕ) (xs ys : List A) → n ≤ length xs → take n (xs ++ ys) ≡ take n xs
take_front zero xs ys l = refl
take_front (suc n) [] ys l = absurd (omega (arith, l))
take_front (suc n) (x ∷ xs) ys l = ap (λ zs. x ∷ zs) (take_front n xs ys (omega (arith, l)))

longer : {A : Type 0} (xs ys : List A) → length xs ≤ length (xs ++ ys)
longer [] ys = omega arith
longer (x ∷ xs) ys = (let l = longer xs ys in omega (arith, l))

-- ---- flags

bools : (bs : List Bool) → Each (λ t. t ≡ bool_ty) (flag_locals bs)
bools [] = tt
bools (true ∷ bs) = (refl, bools bs)
bools (false ∷ bs) = bools bs

bool_at : (xs ys zs : List Tree) (y : ℕ) → length xs ≤ y → y < length xs + length ys → Each (λ t. t ≡ bool_ty) ys → slice_get (xs ++ (ys ++ zs)) y ≡ Some bool_ty
bool_at (x ∷ xs) ys zs zero le lt h = absurd (omega (arith, le))
bool_at (x ∷ xs) ys zs (suc y) le lt h = bool_at xs ys zs y (omega (arith, le)) (omega (arith, lt)) h
bool_at [] [] zs y le lt h = absurd (omega (arith, lt))
bool_at [] (t ∷ ys) zs zero le lt h = ap (λ t. Some t) h.0
bool_at [] (t ∷ ys) zs (suc y) le lt h = bool_at [] ys zs y (omega arith) (omega (arith, lt)) h.1

pub unit_at : (x : ℕ) (us : List Place) (bs : List Bool) (i : ℕ) (k : Flagged) → slice_get (with_flags x us bs) i ≡ Some k → slice_get us i ≡ Some k.unit
unit_at x [] bs i k e = absurd (grind arith)
unit_at x (u ∷ us) [] i k e = absurd (grind arith)
unit_at x (u ∷ us) (true ∷ bs) zero k e = ap (λ (k : Flagged). Some k.unit) (let z : record { unit = u; flag = Some x } ≡ k = grind arith in z)
unit_at x (u ∷ us) (true ∷ bs) (suc i) k e = unit_at (suc x) us bs i k e
unit_at x (u ∷ us) (false ∷ bs) zero k e = ap (λ (k : Flagged). Some k.unit) (let z : record { unit = u; flag = None } ≡ k = grind arith in z)
unit_at x (u ∷ us) (false ∷ bs) (suc i) k e = unit_at x us bs i k e

-- ---- definitions

module _ (C : Crate) (e : TypedBody) where
  destroys : (d g : ℕ) → (fn : TypedFunction) × (slice_get C.functions g ≡ Some fn) × IsDestructor d fn → fine.Destroys C (shapes_of C) e (named d) g
  destroys d g (fn, at, is) = record {
    formed = lt-ltb g (length C.functions) (slice_get_within C.functions g fn at);
    args = some_bind _ at (ap₂ (λ n ts. Some (tuple_of (args_of (record { args = n; locals = ts; blocks = [] })))) is.args is.locals);
    result = some_bind _ at (ap (λ ts. Some (result_of (record { args = 0; locals = ts; blocks = [] }))) is.locals);
  }

  defs_fine : (b : TypedBody) → TypesTupled (shapes_of C) b → FewVariants (shapes_of C) → glued.DefsFine C (shapes_of C) e
  defs_fine b tu few = record {
    proper = proper_shapes C b tu;
    few = few;
    formed = λ d s es. (let (def, at, same) = shape_is C d s es in lt-ltb d (length C.defs) (slice_get_within C.defs d def at));
    destroys = λ d s g es q. destroys d g (destructor_found C d g (some_bind _ es q));
  }

-- ---- blocks

module _ (C : Crate) (D : List Shape) (apart : (d : ℕ) → holds D (length D) d d ≡ false) (e : TypedBody) (defs : glued.DefsFine C D e) (body : TypedBody) (args : e.args ≡ body.args) (others : List Tree) (more : e.locals ≡ body.locals ++ others) (long : length body.blocks ≤ length e.blocks) (proper_locals : (x : ℕ) (t : Tree) → slice_get body.locals x ≡ Some t → Proper t) (us : List Place) (inits : Inits) (ks : List Flagged) (flags : Each (ends.FlagFine C D apart e defs body args others more long proper_locals) ks) where
  -- a block of the source
  pub record OldFine (k : TypedBlock) : Type 0 where
    pub stmts : Each (fine.StmtFine C D e) k.stmts
    pub formed : term_formed C body k.term ≡ true
    pub typed : TermTyped C D body.locals k.term

  pub blocks_fine : (i : ℕ) (bs : List TypedBlock) (l b : ℕ) → Each OldFine bs → 0 < b → StandsIn e.locals l (lay_blocks D body us ks inits i bs l b).new_locals → StandsIn e.blocks b (lay_blocks D body us ks inits i bs l b).new_blocks → Each (fine.BlockFine C D e) (lay_blocks D body us ks inits i bs l b).blocks × Each (fine.BlockFine C D e) (lay_blocks D body us ks inits i bs l b).new_blocks × Each (fine.TypeFine C D e) (lay_blocks D body us ks inits i bs l b).new_locals
  blocks_fine i [] l b h lt sl sb = (tt, tt, tt)
  blocks_fine i (k ∷ bs) l b h lt sl sb =
      let en : Laid = lay_end D body.locals ks (statuses_at us inits i k) k.term l b in
      let r : LaidBlocks = lay_blocks D body us ks inits (suc i) bs (l + length en.locals) (b + length en.blocks) in
      let ef = ends.end_fine C D apart e defs body args others more long proper_locals ks (statuses_at us inits i k) k.term l b flags h.0.formed h.0.typed lt (record { locals = left_stands e.locals l en.locals r.new_locals sl; blocks = left_stands e.blocks b en.blocks r.new_blocks sb }) in
      let (p, q, t) = blocks_fine (suc i) bs (l + length en.locals) (b + length en.blocks) h.1 (omega (arith, lt)) (right_stands e.locals l en.locals r.new_locals sl) (right_stands e.blocks b en.blocks r.new_blocks sb) in
      let first = ends.first_fine C D apart e defs body args others more long proper_locals body.args i ks flags in
      let set = ends.with_settings_fine C D apart e defs body args others more long proper_locals ks k.stmts flags h.0.stmts in (
        (record { stmts = each_append (fine.StmtFine C D e) (first_settings body.args i ks) (with_settings ks k.stmts ++ en.stmts) first (each_append (fine.StmtFine C D e) (with_settings ks k.stmts) en.stmts set ef.stmts); term = ef.term }, p),
        each_append (fine.BlockFine C D e) en.blocks r.new_blocks ef.blocks q,
        each_append (fine.TypeFine C D e) en.locals r.new_locals ef.locals t,
      )

-- ---- in a crate

module _ (C : Crate) (valid : Valid C) (f : ℕ) (g : TypedFunction) (there : slice_get C.functions f ≡ Some g) (tu : TypesTupled (shapes_of C) g.body) (few : FewVariants (shapes_of C)) (inits : Inits) where
  abbrev D : List Shape
  D = shapes_of C

  abbrev b : TypedBody
  b = g.body

  abbrev e : TypedBody
  e = elab_by (shapes_of C) g.body inits

  us : List Place
  us = units_of_body D b

  formed : body_formed C b ≡ true
  formed = body_formed_at C valid f g there

  wanted : List Bool
  wanted = want_flags (units_of_body D b) inits 0 b.blocks

  w : LaidBlocks
  w = lay_blocks D b (units_of_body D b) (flags_of D b inits) inits 0 b.blocks (first_new D b inits) (length b.blocks)

  same_args : e.args ≡ b.args
  unfolding elab_by
  same_args = refl

  locals_are : e.locals ≡ b.locals ++ (flag_locals wanted ++ w.new_locals)
  unfolding elab_by wanted w
  locals_are = refl

  blocks_are : e.blocks ≡ w.blocks ++ w.new_blocks
  unfolding elab_by w
  blocks_are = refl

  as_long : length w.blocks ≡ length b.blocks
  unfolding w
  as_long = blocks_long D b (units_of_body D b) (flags_of D b inits) inits 0 b.blocks (first_new D b inits) (length b.blocks)

  long : length b.blocks ≤ length e.blocks
  long = (let l = longer w.blocks w.new_blocks in let n = ap length blocks_are in let m = as_long in omega (arith, l, n, m))

  abbrev defs : glued.DefsFine C (shapes_of C) (elab_by (shapes_of C) g.body inits)
  defs = defs_fine C e b tu few

  abbrev Flag : Flagged → Type 0
  Flag = ends.FlagFine C D (apart_in C valid) e defs b same_args (flag_locals wanted ++ w.new_locals) locals_are long tu.locals

  flags : Each Flag (flags_of D b inits)
  unfolding wanted
  flags = each_from Flag (flags_of D b inits) (λ i k q. record { unit = (i, unit_at (length b.locals) (units_of_body D b) wanted i k q); typed = λ x z. (let (lo, hi) = flags_range (length b.locals) (units_of_body D b) wanted i k x q z in ap (λ ts. slice_get ts x) locals_are ∙ bool_at b.locals (flag_locals wanted) w.new_locals x lo hi (bools wanted)) })

  abbrev Old : TypedBlock → Type 0
  Old = OldFine C D (apart_in C valid) e defs b same_args (flag_locals wanted ++ w.new_locals) locals_are long tu.locals (units_of_body D b) inits (flags_of D b inits) flags

  old : Each Old b.blocks
  old = each_from Old b.blocks (λ j k q. record {
    stmts = each_from (fine.StmtFine C D e) k.stmts (λ i s z. ends.stmt_stays C D (apart_in C valid) e defs b same_args (flag_locals wanted ++ w.new_locals) locals_are long tu.locals s (stmt_formed_at C b formed j i k s q z) (stmt_at C valid f j i g k s there q z));
    formed = term_formed_at C b formed j k q;
    typed = term_at C valid f j g k there q;
  })

  some_block : 0 < length b.blocks
  some_block = (let (k, q) = first_block C b formed in slice_get_within b.blocks 0 k q)

  laid_fine : Each (fine.BlockFine C D e) w.blocks × Each (fine.BlockFine C D e) w.new_blocks × Each (fine.TypeFine C D e) w.new_locals
  unfolding w wanted
  laid_fine = blocks_fine C D (apart_in C valid) e defs b same_args (flag_locals wanted ++ w.new_locals) locals_are long tu.locals (units_of_body D b) inits (flags_of D b inits) flags 0 b.blocks (first_new D b inits) (length b.blocks) old some_block new_locals new_blocks
    where
      new_locals : StandsIn e.locals (first_new D b inits) w.new_locals
      new_locals = subst (λ ts. StandsIn ts (first_new D b inits) w.new_locals) (sym locals_are) (right_stands (b.locals ++ (flag_locals wanted ++ w.new_locals)) (length b.locals) (flag_locals wanted) w.new_locals (stands_behind b.locals (flag_locals wanted ++ w.new_locals)))

      new_blocks : StandsIn e.blocks (length b.blocks) w.new_blocks
      new_blocks = subst (λ bs. StandsIn bs (length b.blocks) w.new_blocks) (sym blocks_are) (subst (λ n. StandsIn (w.blocks ++ w.new_blocks) n w.new_blocks) as_long (stands_behind w.blocks w.new_blocks))

  all_blocks : Each (fine.BlockFine C D e) e.blocks
  all_blocks = (let (p, q, t) = laid_fine in subst (Each (fine.BlockFine C D e)) (sym blocks_are) (each_append (fine.BlockFine C D e) w.blocks w.new_blocks p q))

  all_types : Each (fine.TypeFine C D e) e.locals
  all_types =
      let (p, q, t) = laid_fine in
      subst (Each (fine.TypeFine C D e)) (sym locals_are) (each_append (fine.TypeFine C D e) b.locals (flag_locals wanted ++ w.new_locals)
      (each_from (fine.TypeFine C D e) b.locals (λ x t z. local_formed_at C b formed x t z))
      (each_append (fine.TypeFine C D e) (flag_locals wanted) w.new_locals (each_from (fine.TypeFine C D e) (flag_locals wanted) (λ i t z. ap (type_formed C) (each_at (λ t. t ≡ bool_ty) (flag_locals wanted) i t (bools wanted) z))) t))

  block_formed_fine : (k : TypedBlock) → fine.BlockFine C D e k → block_formed C e k ≡ true
  block_formed_fine k h = and_from _ _ (list_all_true (stmt_formed C e) k.stmts (λ i s z. (each_at (fine.StmtFine C D e) k.stmts i s h.stmts z).formed)) h.term.formed

  pub formed_by : body_formed C (elab_by (shapes_of C) g.body inits) ≡ true
  unfolding body_formed
  formed_by =
      let lt = some_block in
      let lo = long in
      let ab = args_below C b formed in
      let ll = ap length locals_are in
      let lm = longer b.locals (flag_locals wanted ++ w.new_locals) in
      and_from _ _ (and_from _ _ (lt-ltb 0 (length e.blocks) (omega (arith, lt, lo))) (lt-ltb e.args (length e.locals) (let sa = same_args in omega (arith, ab, ll, lm, sa))))
      (and_from _ _ (each_all (type_formed C) e.locals all_types) (list_all_true (block_formed C e) e.blocks (λ i k z. block_formed_fine k (each_at (fine.BlockFine C D e) e.blocks i k all_blocks z))))

  pub keeps_by : BodyKeeps C (elab_by (shapes_of C) g.body inits)
  keeps_by = record {
    stmts = λ j i k s q z. typed_stmt D e.args e.locals s (each_at (fine.StmtFine C D e) k.stmts i s (each_at (fine.BlockFine C D e) e.blocks j k all_blocks q).stmts z).typed;
    terms = λ j k q. typed_term C D e.locals k.term (each_at (fine.BlockFine C D e) e.blocks j k all_blocks q).term.typed;
  }

  pub alike_by : Alike (with_body g (elab_by (shapes_of C) g.body inits)) g
  alike_by = record {
    is_drop = refl;
    args = same_args;
    start = ap (λ ts. take (suc b.args) ts) locals_are ∙ take_front (suc b.args) b.locals (flag_locals wanted ++ w.new_locals) (let ab = args_below C b formed in omega (arith, ab));
  }

  pub valid_by : Valid (at_function C f g (elab_by (shapes_of C) g.body inits))
  valid_by = valid_put C f g e valid there alike_by formed_by keeps_by
