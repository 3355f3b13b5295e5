-- Rvalues and statements whose names have no fault are formed.
use Rattle.std.proofs.Common.{◌≡◌, ◌∙◌, ℕ, true, false, List, [], ◌∷◌, slice_get, Option, Some, None, is_some, refl, sym, ap}
use Rattle.std.specs.List.{list_all}
use Rattle.std.proofs.lemmas.Bool.{and_from}
use Rattle.mir_syntax.specs.Crate as c
use Rattle.mir_syntax.specs.Crate.{TypedVariant, TypedDef, TypedRvalue, TypedBody, Crate}
use Rattle.mir_syntax.specs.Shapes.{◌>>=◌}
use Rattle.mir_text.specs.Grammar.{items_of, AllOf}
use Rattle.mir_text.specs.GrammarPlaces.{PlaceRule}
use Rattle.mir_text.specs.GrammarStatements as r
use Rattle.mir_text.specs.GrammarStatements.{BuildRule, RvalueRule, StmtRule}
use Rattle.mir_text.specs.Names.{Names}
use Rattle.mir_text.specs.NamedBodies.{Declared, declared_ty, place_named, operand_named, built_by, or_first, rvalue_named, stmt_named, stmts_named}
use Rattle.mir_text.specs.NameFaults.{local_codes, place_codes, operand_codes, parts_codes, variant_fits, variant_number, def_number, built_variant, build_codes, rvalue_codes, stmt_codes}
use Rattle.mir_text.specs.Nesting.{RvalueGood, StmtGood}
use Rattle.mir_syntax.specs.Parts.{rvalue_operands, rvalue_places}
use Rattle.mir_rules.specs.Formed.{place_formed, operand_formed, has_variant, shape_formed, rvalue_formed, local_formed, stmt_formed}
use Rattle.mir_rules.proofs.Lists.{append_empty-left, append_empty-right}
use Rattle.mir_text.proofs.Numbered.{def_numbered, variant_numbered}
use Rattle.mir_text.proofs.Codes.{unless_met, first_good}
use Rattle.read_formed.proofs.Tests.{all_append}
use Rattle.read_formed.proofs.Types.{ty_formed}
use Rattle.read_formed.proofs.Knows.{Knows}
use Rattle.read_formed.proofs.Places.{Holds, place_named_formed}
use Rattle.read_formed.proofs.Operands.{one_placed, more_placed, items_placed, parts_placed, one_fitting, more_fitting, items_fitting, parts_fitting}

-- ---- what is built

variant-of : (o : Option TypedDef) (k : ℕ) → (o >>= λ d. slice_get d.variants k) ≡ (o >>= λ d. variant_number d.variants k)
unfolding ◌>>=◌
variant-of None k = refl
variant-of (Some d) k = variant_numbered d.variants k

fits-some : (N : Names) (x : BuildRule) (o : Option TypedVariant) → variant_fits N x o ≡ true → is_some o ≡ true
fits-some N x None h = absurd cc
fits-some N x (Some v) h = refl

build-there : (C : Crate) (N : Names) → Knows C N → (x : BuildRule) (o : Option (ℕ × ℕ)) → variant_fits N x (o >>= built_variant N) ≡ true → has_variant C (or_first o).0 (or_first o).1 ≡ true
unfolding ◌>>=◌
build-there C N knows x None h = absurd cc
build-there C N knows x (Some (d, k)) h =
    let same : (slice_get C.defs d >>= λ def. slice_get def.variants k) ≡ built_variant N (d, k) =
    variant-of (slice_get C.defs d) k ∙ ap (λ o. o >>= λ def. variant_number def.variants k) (def_numbered C.defs d ∙ ap (λ ds. def_number ds d) (sym knows.defs)) in
    ap is_some same ∙ fits-some N x (built_variant N (d, k)) h

-- ---- rvalues

module _ (C : Crate) (N : Names) (knows : Knows C N) (L : Declared) (labels : List ℕ) (b : TypedBody) (holds : Holds L labels b) where
  formed-by : (x : TypedRvalue) → shape_formed C x ≡ true → list_all operand_formed (rvalue_operands x) ≡ true → list_all (place_formed b) (rvalue_places x) ≡ true → rvalue_formed C b x ≡ true
  formed-by x shape fitting placed =
      and_from (shape_formed C x) _ shape (and_from (list_all operand_formed (rvalue_operands x)) (list_all (place_formed b) (rvalue_places x)) fitting placed)

  of-place : (x : TypedRvalue) → shape_formed C x ≡ true → rvalue_operands x ≡ [] → (q : PlaceRule) → rvalue_places x ≡ place_named N L q ∷ [] → place_codes N L q ≡ [] → rvalue_formed C b x ≡ true
  of-place x shape none q one h =
      formed-by x shape (ap (list_all operand_formed) none)
      (ap (list_all (place_formed b)) one ∙ and_from (place_formed b (place_named N L q)) true (place_named_formed N L labels b holds q h) refl)

  rvalue-formed : (x : RvalueRule) → rvalue_codes N L x ≡ [] → RvalueGood x → rvalue_formed C b (rvalue_named N L x) ≡ true
  rvalue-formed (r.«use» x) h good = formed-by (c.«use» (operand_named N L x)) refl (one_fitting N L x good) (one_placed N L labels b holds x h)
  rvalue-formed (r.cast x u) h good =
      formed-by (rvalue_named N L (r.cast x u)) (ty_formed C N knows.paths u (append_empty-right (operand_codes N L x) _ h)) (one_fitting N L x good.0) (one_placed N L labels b holds x (append_empty-left (operand_codes N L x) _ h))
  rvalue-formed (r.binary op x y) h good =
      formed-by (rvalue_named N L (r.binary op x y)) refl (more_fitting N L x (operand_named N L y ∷ []) good.0 (one_fitting N L y good.1))
      (more_placed N L labels b holds x (operand_named N L y ∷ []) (append_empty-left (operand_codes N L x) _ h) (one_placed N L labels b holds y (append_empty-right (operand_codes N L x) _ h)))
  rvalue-formed (r.overflow op x y) h good =
      formed-by (rvalue_named N L (r.overflow op x y)) refl (more_fitting N L x (operand_named N L y ∷ []) good.0 (one_fitting N L y good.1))
      (more_placed N L labels b holds x (operand_named N L y ∷ []) (append_empty-left (operand_codes N L x) _ h) (one_placed N L labels b holds y (append_empty-right (operand_codes N L x) _ h)))
  rvalue-formed (r.unary op x) h good = formed-by (rvalue_named N L (r.unary op x)) refl (one_fitting N L x good) (one_placed N L labels b holds x h)
  rvalue-formed (r.reference true q) h good = of-place (c.ref_mut (place_named N L q)) refl refl q refl h
  rvalue-formed (r.reference false q) h good = of-place (c.ref (place_named N L q)) refl refl q refl h
  rvalue-formed (r.discriminant q) h good = of-place (c.discriminant (place_named N L q)) refl refl q refl h
  rvalue-formed r.nothing h good = refl
  rvalue-formed (r.tuple_of x xs) h good =
      formed-by (rvalue_named N L (r.tuple_of x xs)) refl (more_fitting N L x (items_of (operand_named N L) xs) (first_good x good.0) (items_fitting N L xs good.1))
      (more_placed N L labels b holds x (items_of (operand_named N L) xs) (append_empty-left (operand_codes N L x) _ h) (items_placed N L labels b holds xs (append_empty-right (operand_codes N L x) _ h)))
  rvalue-formed (r.build path x) h good =
      let own = unless_met (variant_fits N x (built_by N path >>= built_variant N)) 13 (append_empty-left (build_codes N path x) (parts_codes N L x) h) in
      formed-by (rvalue_named N L (r.build path x)) (build-there C N knows x (built_by N path) own) (parts_fitting N L x good)
      (parts_placed N L labels b holds x (append_empty-right (build_codes N path x) (parts_codes N L x) h))

  -- ---- statements

  local-formed : (x : ℕ) → local_codes L x ≡ [] → local_formed b x ≡ true
  local-formed x h = holds.locals x (unless_met (is_some (declared_ty L x)) 14 h)

  stmt-formed : (x : StmtRule) → stmt_codes N L x ≡ [] → StmtGood x → list_all (stmt_formed C b) (stmt_named N L x) ≡ true
  unfolding stmt_formed
  stmt-formed (r.assign q x) h good =
      let place = place_named_formed N L labels b holds q (append_empty-left (place_codes N L q) (rvalue_codes N L x) h) in
      let rvalue = rvalue-formed x (append_empty-right (place_codes N L q) (rvalue_codes N L x) h) good.1 in
      and_from _ true (and_from (place_formed b (place_named N L q)) (rvalue_formed C b (rvalue_named N L x)) place rvalue) refl
  stmt-formed r.nop h good = refl
  stmt-formed (r.live x) h good = and_from _ true (local-formed x h) refl
  stmt-formed (r.dead x) h good = and_from _ true (local-formed x h) refl
  stmt-formed (r.set q k) h good = and_from _ true (place_named_formed N L labels b holds q h) refl

  pub stmts_formed : (xs : List StmtRule) → AllOf (λ x. stmt_codes N L x ≡ []) xs → AllOf StmtGood xs → list_all (stmt_formed C b) (stmts_named N L xs) ≡ true
  stmts_formed [] h good = refl
  stmts_formed (x ∷ xs) h good = all_append (stmt_formed C b) (stmt_named N L x) (stmts_named N L xs) (stmt-formed x h.0 good.0) (stmts_formed xs h.1 good.1)
