-- A program of which the headers alone are left is seen as before, and the bodies fit it.
use Rattle.std.proofs.Common.{◌≡◌, ◌⊎◌, inl, inr, refl, sym, ap, ap₂, ◌∙◌, subst, ℕ, zero, suc, ◌+◌, ◌<◌, ◌≤◌, true, nat_lt, ◌&&◌, List, [], ◌∷◌, ◌++◌, map, take, length, set, get_or, Some, slice_get, arith, lt-ltb}
use Rattle.std.specs.List.{All, list_all}
use Rattle.std.proofs.lemmas.List.{length-map}
use Rattle.std.proofs.lemmas.Option.{slice_get-get_or}
use Rattle.std.proofs.lemmas.Bool.{ltb-false}
use Rattle.mir_syntax.proofs.Lists.{map_back, map_there}
use Rattle.mir_syntax.specs.declared.types.TyId.{TyId}
use Rattle.mir_syntax.specs.declared.body.Function.{Function}
use Rattle.mir_syntax.specs.Tree.{Tree, at_id}
use Rattle.mir_syntax.specs.Crate.{TypedStmt, TypedBlock, TypedBody, TypedFunction, Crate, block_of, body_of, function_of}
use Rattle.mir_syntax.specs.Shapes.{Shape, shapes_of}
use Rattle.mir_syntax.specs.Table.{all_below}
use Rattle.mir_syntax.specs.Ids.{block_below, function_below}
use Rattle.mir_rules.specs.Formed.{type_formed, term_formed, block_formed, has_start, body_formed}
use Rattle.mir_rules.specs.Broken.{gather, at_spot, header, if_broken, terminator_broken}
use Rattle.mir_rules.specs.Limits.{most_in_body, most_functions, most_statements, blocks_count, locals_count, count_passed, functions_passed, types_passed, bodies_passed, statements_passed, passed}
use Rattle.mir_rules.specs.Valid.{Valid, Within, with_body}
use Rattle.mir_rules.proofs.Lists.{gather_empty-at, append_empty-left, append_empty-right, map_empty-source, if_broken_empty, and_true-left, and_true-right}
use Rattle.mir_rules.proofs.Keeps.{BodyKeeps}
use Rattle.mir_rules.proofs.Bodies.{Alike, AllAlike, set_cases, shapes_alike, valid_with}
use Rattle.mir_rules.proofs.ValidCrates.{body_formed_at, keeps, args_below}
use Rattle.pass_order.specs.Fits.{FitsAt}
use Rattle.pass_order.specs.Programs.{one_block, header_body, header_function, HasHeader}

-- ---- the limits on a body

gathered_at : {A B : Type 0} (find : ℕ → A → List B) (xs : List A) (i : ℕ) (x : A) → gather find 0 xs ≡ [] → slice_get xs i ≡ Some x → find i x ≡ []
gathered_at find xs i x h e = rw (let k : i + 0 ≡ i = omega arith in k) at (gather_empty-at find 0 xs i x h e)

module _ (C : Crate) (within : Within C) (f : ℕ) (g : TypedFunction) (there : slice_get C.functions f ≡ Some g) where
  abbrev D : List Shape
  D = shapes_of C

  bodies_within : bodies_passed C ≡ []
  unfolding passed
  bodies_within =
      append_empty-left (bodies_passed C) (statements_passed most_statements C)
      (append_empty-right (types_passed C) (bodies_passed C ++ statements_passed most_statements C)
      (append_empty-right (functions_passed most_functions C) (types_passed C ++ (bodies_passed C ++ statements_passed most_statements C)) within.limits))

  counted : (code : ℕ) (count : TypedBody → ℕ) → gather (count_passed code count) 0 C.functions ≡ [] → count g.body ≤ most_in_body
  counted code count h =
      ltb-false most_in_body (count g.body)
      (if_broken_empty (nat_lt most_in_body (count g.body)) code
      (map_empty-source (at_spot (header f)) (if_broken (nat_lt most_in_body (count g.body)) code) (gathered_at (count_passed code count) C.functions f g h there)))

  pub blocks_counted : blocks_count (shapes_of C) g.body ≤ most_in_body
  unfolding bodies_passed
  blocks_counted = counted 4 (blocks_count D) (append_empty-left (gather (count_passed 4 (blocks_count D)) 0 C.functions) (gather (count_passed 5 (locals_count D)) 0 C.functions) bodies_within)

  pub locals_counted : locals_count (shapes_of C) g.body ≤ most_in_body
  unfolding bodies_passed
  locals_counted = counted 5 (locals_count D) (append_empty-right (gather (count_passed 4 (blocks_count D)) 0 C.functions) (gather (count_passed 5 (locals_count D)) 0 C.functions) bodies_within)

  pub blocks_within : length g.body.blocks ≤ most_in_body
  unfolding blocks_count
  blocks_within = let all = blocks_counted in omega (arith, all)

  pub locals_within : length g.body.locals ≤ most_in_body
  unfolding locals_count
  locals_within = let all = locals_counted in omega (arith, all)

-- ---- lists

pub front_of_front : {A B : Type 0} (f : A → B) (n : ℕ) (xs : List A) → take n (map f (take n xs)) ≡ take n (map f xs)
front_of_front f zero xs = refl
front_of_front f (suc n) [] = refl
front_of_front f (suc n) (x ∷ xs) = ap (λ ys. f x ∷ ys) (front_of_front f n xs)

-- ---- headers

module _ (trees : List Tree) where
  alone : Function → TypedFunction
  alone g = function_of trees (header_function g)

  abbrev pub alones : List Function → List TypedFunction
  alones fs = map (function_of trees) (map header_function fs)

  pub header_alike : (g : Function) → Alike (function_of trees (header_function g)) (function_of trees g)
  header_alike g = record { is_drop = refl; args = refl; start = front_of_front (at_id trees) (suc g.body.args) g.body.locals }

  pub headers_alike : (fs : List Function) → AllAlike (alones fs) (map (function_of trees) fs)
  headers_alike [] = tt
  headers_alike (g ∷ fs) = (header_alike g, headers_alike fs)

-- ids of a header lie where those of the function do
front_below : (n k : ℕ) (ids : List TyId) → all_below n ids ≡ true → all_below n (take k ids) ≡ true
front_below n zero ids h = refl
front_below n (suc k) [] h = refl
front_below n (suc k) (id ∷ ids) h = ap₂ (λ a b. a && b) (and_true-left (nat_lt id.0 n) (all_below n ids) h) (front_below n k ids (and_true-right (nat_lt id.0 n) (all_below n ids) h))

pub headers_below : (n : ℕ) (fs : List Function) → list_all (function_below n) fs ≡ true → list_all (function_below n) (map header_function fs) ≡ true
headers_below n [] h = refl
headers_below n (g ∷ fs) h =
    let locals = all_below n g.body.locals in
    let blocks = list_all (block_below n) g.body.blocks in
    let front : all_below n (take (suc g.body.args) g.body.locals) ≡ true = front_below n (suc g.body.args) g.body.locals (and_true-left locals blocks (and_true-left (locals && blocks) (list_all (function_below n) fs) h)) in
    ap₂ (λ a b. (a && true) && b) front (headers_below n fs (and_true-right (locals && blocks) (list_all (function_below n) fs) h))

-- ---- the bodies fit

module _ (C : Crate) (trees : List Tree) (fs : List Function) (same : C.functions ≡ map (function_of trees) fs) (valid : Valid C) (within : Within C) where
  -- the crate with headers alone
  abbrev pub Alone : Crate
  Alone = record C { functions = alones trees fs }

  all_alike : AllAlike (alones trees fs) C.functions
  all_alike = subst (AllAlike (alones trees fs)) (sym same) (headers_alike trees fs)

  pub shapes_alone : shapes_of Alone ≡ shapes_of C
  shapes_alone = shapes_alike C (alones trees fs) all_alike

  typed_there : (i : ℕ) (g : Function) → slice_get fs i ≡ Some g → slice_get C.functions i ≡ Some (function_of trees g)
  typed_there i g e = ap (λ gs. slice_get gs i) same ∙ map_there (function_of trees) fs i g e

  body_formed_there : (i : ℕ) (g : Function) → slice_get fs i ≡ Some g → body_formed C (body_of trees g.body) ≡ true
  body_formed_there i g e = body_formed_at C valid i (function_of trees g) (typed_there i g e)

  pub has_header : (i : ℕ) (g : Function) → slice_get fs i ≡ Some g → HasHeader g
  has_header i g e =
      let below = args_below C (body_of trees g.body) (body_formed_there i g e) in
      let long = length-map g.body.locals (at_id trees) in
      omega (arith, below, long)

  pub have_headers : All HasHeader fs
  have_headers i d l = has_header i (get_or fs i d) (slice_get-get_or fs i d l)

  front_formed : (k : ℕ) (ids : List TyId) → list_all (type_formed C) (map (at_id trees) ids) ≡ true → list_all (type_formed C) (map (at_id trees) (take k ids)) ≡ true
  front_formed zero ids h = refl
  front_formed (suc k) [] h = refl
  front_formed (suc k) (id ∷ ids) h = ap₂ (λ a b. a && b) (and_true-left (type_formed C (at_id trees id)) _ h) (front_formed k ids (and_true-right (type_formed C (at_id trees id)) _ h))

  front_long : (k : ℕ) (ids : List TyId) → k < length ids → k < length (map (at_id trees) (take (suc k) ids))
  front_long k [] l = absurd (omega (arith, l))
  front_long zero (id ∷ ids) l = omega arith
  front_long (suc k) (id ∷ ids) l = let h = front_long k ids (omega (arith, l)) in omega (arith, h)

  abbrev header_typed : Function → TypedBody
  header_typed g = body_of trees (header_body g.body)

  header_formed : (i : ℕ) (g : Function) → slice_get fs i ≡ Some g → body_formed C (header_typed g) ≡ true
  unfolding body_formed term_formed
  header_formed i g e =
      let b = body_of trees g.body in
      let rest = list_all (type_formed C) b.locals && list_all (block_formed C b) b.blocks in
      let types = and_true-left (list_all (type_formed C) b.locals) (list_all (block_formed C b) b.blocks) (and_true-right (has_start b) rest (body_formed_there i g e)) in
      let args : nat_lt g.body.args (length (map (at_id trees) (take (suc g.body.args) g.body.locals))) ≡ true = lt-ltb g.body.args (length (map (at_id trees) (take (suc g.body.args) g.body.locals))) (front_long g.body.args g.body.locals (has_header i g e)) in
      rw (args, front_formed (suc g.body.args) g.body.locals types) refl

  header_keeps : (g : Function) → BodyKeeps C (header_typed g)
  unfolding terminator_broken
  header_keeps g = record { stmts = λ j i k s e e2. absurd (none j i k s e e2); terms = λ j k e. ends j k e }
    where
      none : (j i : ℕ) (k : TypedBlock) (s : TypedStmt) → slice_get (map (block_of trees) (one_block ∷ [])) j ≡ Some k → slice_get k.stmts i ≡ Some s → ⊥
      none zero i k s e e2 = absurd (let z : block_of trees one_block ≡ k = grind arith in let y : slice_get {X = TypedStmt} [] i ≡ Some s = ap (λ (k : TypedBlock). slice_get k.stmts i) z ∙ e2 in grind arith)
      none (suc j) i k s e e2 = absurd (grind arith)

      ends : (j : ℕ) (k : TypedBlock) → slice_get (map (block_of trees) (one_block ∷ [])) j ≡ Some k → terminator_broken C (shapes_of C) (map (at_id trees) (take (suc g.body.args) g.body.locals)) k.term ≡ []
      ends zero k e = subst (λ (k : TypedBlock). terminator_broken C (shapes_of C) (map (at_id trees) (take (suc g.body.args) g.body.locals)) k.term ≡ []) (let z : block_of trees one_block ≡ k = grind arith in z) refl
      ends (suc j) k e = absurd (grind arith)

  module _ (i : ℕ) (g : Function) (at : slice_get fs i ≡ Some g) where
    abbrev there : TypedFunction
    there = function_of trees (header_function g)

    alone_there : slice_get Alone.functions i ≡ Some there
    alone_there = map_there (function_of trees) (map header_function fs) i (header_function g) (map_there header_function fs i g at)

    abbrev put : List TypedFunction
    put = set (alones trees fs) i (with_body (function_of trees (header_function g)) (body_of trees g.body))

    own_alike : Alike (with_body there (body_of trees g.body)) (function_of trees g)
    own_alike = record { is_drop = refl; args = refl; start = refl }

    put_alike : (gs2 gs : List TypedFunction) (n : ℕ) (v w : TypedFunction) → AllAlike gs2 gs → slice_get gs n ≡ Some w → Alike v w → AllAlike (set gs2 n v) gs
    put_alike (x2 ∷ gs2) (x ∷ gs) zero v w h e a = (subst (Alike v) (let z : w ≡ x = grind arith in z) a, h.1)
    put_alike (x2 ∷ gs2) (x ∷ gs) (suc n) v w h e a = (h.0, put_alike gs2 gs n v w h.1 e a)
    put_alike [] [] n v w h e a = absurd (grind arith)
    put_alike [] (x ∷ gs) n v w h e a = absurd h
    put_alike (x2 ∷ gs2) [] n v w h e a = absurd h

    each : (j : ℕ) (g2 : TypedFunction) → slice_get put j ≡ Some g2 → (body_formed C g2.body ≡ true) × BodyKeeps C g2.body
    each j g2 e = go (set_cases (alones trees fs) i j (with_body there (body_of trees g.body)) g2 e)
      where
        go : (g2 ≡ with_body there (body_of trees g.body)) ⊎ (slice_get (alones trees fs) j ≡ Some g2) → (body_formed C g2.body ≡ true) × BodyKeeps C g2.body
        go (inl is) = rw is (body_formed_there i g at, (keeps C valid).bodies i (function_of trees g) (typed_there i g at))
        go (inr e2) =
            let (a, e3, is) = map_back (function_of trees) (map header_function fs) j g2 e2 in
            let (b, e4, is2) = map_back header_function fs j a e3 in
            let whole : function_of trees (header_function b) ≡ g2 = ap (function_of trees) is2 ∙ is in
            subst (λ (g2 : TypedFunction). (body_formed C g2.body ≡ true) × BodyKeeps C g2.body) whole (header_formed j b e4, header_keeps b)

    pub body_fits : FitsAt Alone i (function_of trees (header_function g)) (body_of trees g.body)
    body_fits = record {
      is = alone_there;
      valid = valid_with C put (put_alike (alones trees fs) C.functions i (with_body there (body_of trees g.body)) (function_of trees g) all_alike (typed_there i g at) own_alike) valid each;
      args = refl;
      start = sym (front_of_front (at_id trees) (suc g.body.args) g.body.locals);
      blocks = blocks_within C within i (function_of trees g) (typed_there i g at);
      locals = locals_within C within i (function_of trees g) (typed_there i g at);
    }
