-- The functions that a derivation names are such as a canonical text writes.
use Rattle.mir_round_trip.specs.Names.{IsTy}
use Rattle.mir_round_trip.specs.Bodies.{names_at, IsFn}
use Rattle.std.proofs.Common.{◌≡◌, ◌<◌, ◌≤◌, ◌+◌, ◌^◌, ℕ, max, Bool, true, false, List, [], ◌∷◌, ◌++◌, map, length, refl, sym, ap, subst, ◌∙◌, arith}
use Rattle.mir_syntax.specs.Tree.{Tree}
use Rattle.mir_syntax.specs.Crate.{TypedStmt, TypedBlock, TypedFunction, Crate}
use Rattle.mir_text.specs.Grammar as G
use Rattle.mir_text.specs.Grammar.{Items, items_of, AllItems, AllOf}
use Rattle.mir_text.specs.GrammarStatements.{StmtRule}
use Rattle.mir_text.specs.GrammarTerms.{BlockRule, ended_put, block_put}
use Rattle.mir_text.specs.GrammarItems as m
use Rattle.mir_text.specs.GrammarItems.{ArgRule, arg_put, decl_put, DeclRule, DeclsRule, FnRule}
use Rattle.mir_text.specs.Names.{Strings, Names, ty_of}
use Rattle.mir_text.specs.NamedBodies.{Declared, stmt_named, stmts_named, block_named}
use Rattle.mir_text.specs.Naming.{lets_in, lets_of, declarations, declares, declared, locals_from, function_named}
use Rattle.mir_text.specs.PartLines.{LinesFrom, past, Lined, items_lined, each_lined, lets_lined_in, lets_lined, blocks_lined, fn_lined}
use Rattle.mir_text.specs.NameFaults.{unless, each, type_codes, stmt_codes, term_codes, stmt_faults, block_faults, declaration_faults, args_in_place, declared_once, result_faults, none_missing, blocks_in_order, labels_of, fn_faults}
use Rattle.mir_text.specs.Nesting.{type_depth, ArgGood, decl_depth, decls_depth, BlockGood, FnGood}
use Rattle.mir_text.specs.ReadLines.{stmt_places, term_places, any_wrong, line_if, wrong_stmt, wrong_in_block}
use Rattle.mir_text.proofs.Counting.{labels_few, locals_from-length, blocks_lined-length}
use Rattle.mir_text.proofs.Codes.{unless_met, no_codes}
use Rattle.mir_syntax.specs.Parts as mir
use Rattle.mir_rules.proofs.Lists.{append_empty-left, append_empty-right}
use Rattle.mir_round_trip.proofs.Spelling.{all-append}
use Rattle.mir_round_trip.proofs.Rvalues.{two-same}
use Rattle.mir_round_trip.proofs.Blocks.{all-left, all-right}
use Rattle.mir_round_trip.proofs.FunctionsBack.{map-append, map-length}
use Rattle.mir_round_trip.proofs.Carried.{PathNice, BlockNice, LocalNice}
use Rattle.mir_round_trip.proofs.TypesWritten.{path_written, ty_written}
use Rattle.mir_round_trip.proofs.PlacesWritten.{DefsKnown, Typed, Given, Read}
use Rattle.mir_round_trip.proofs.BodiesWritten.{CallsKnown, Labelled, BlockRead, blocks_written}
use Rattle.mir_round_trip.proofs.PlacesRead.{places_of_stmt, AllTyped, stmt_read, term_read}
use Rattle.mir_round_trip.proofs.LocalsWritten.{declared_there, declared_typed, locals_written}
use Rattle.mir_round_trip.proofs.Counting.{declared_most, order_most}

-- ---- without lines

line-right : (b : Bool) (n : ℕ) → line_if b n ≡ [] → b ≡ false
line-right true n h = absurd cc
line-right false n h = refl

stmts-clean : (N : Names) (L : Declared) (xs : List StmtRule) (lines : LinesFrom) → each (stmt_faults N L) (each_lined ended_put xs lines) ≡ [] → AllOf (λ x. stmt_codes N L x ≡ []) xs
stmts-clean N L [] lines h = tt
stmts-clean N L (x ∷ xs) lines h = (no_codes _ _ (append_empty-left _ _ h), stmts-clean N L xs (past ended_put x lines) (append_empty-right _ _ h))

stmts-right : (N : Names) (L : Declared) (xs : List StmtRule) (lines : LinesFrom) → each (wrong_stmt N L) (each_lined ended_put xs lines) ≡ [] → AllOf (λ x. any_wrong N L (stmt_places x) ≡ false) xs
stmts-right N L [] lines h = tt
stmts-right N L (x ∷ xs) lines h = (line-right _ _ (append_empty-left _ _ h), stmts-right N L xs (past ended_put x lines) (append_empty-right _ _ h))

record BlockClean (N : Names) (L : Declared) (labels : List ℕ) (b : BlockRule) : Type 0 where
  pub stmts : AllOf (λ x. stmt_codes N L x ≡ []) b.stmts
  pub term : term_codes N L labels b.term ≡ []

blocks-clean : (N : Names) (L : Declared) (labels : List ℕ) (bs : List BlockRule) (lines : LinesFrom) → each (block_faults N L labels) (blocks_lined bs lines) ≡ [] → AllOf (BlockClean N L labels) bs
blocks-clean N L labels [] lines h = tt
blocks-clean N L labels (b ∷ bs) lines h =
    let here = append_empty-left _ _ h in
    (record { stmts = stmts-clean N L b.stmts _ (append_empty-left _ _ here); term = no_codes _ _ (append_empty-right _ _ here) }, blocks-clean N L labels bs (past block_put b lines) (append_empty-right _ _ h))

record BlockRight (N : Names) (L : Declared) (b : BlockRule) : Type 0 where
  pub stmts : AllOf (λ x. any_wrong N L (stmt_places x) ≡ false) b.stmts
  pub term : any_wrong N L (term_places b.term) ≡ false

blocks-right : (N : Names) (L : Declared) (bs : List BlockRule) (lines : LinesFrom) → each (wrong_in_block N L) (blocks_lined bs lines) ≡ [] → AllOf (BlockRight N L) bs
blocks-right N L [] lines h = tt
blocks-right N L (b ∷ bs) lines h =
    let here = append_empty-left _ _ h in
    (record { stmts = stmts-right N L b.stmts _ (append_empty-left _ _ here); term = line-right _ _ (append_empty-right _ _ here) }, blocks-right N L bs (past block_put b lines) (append_empty-right _ _ h))

-- ---- blocks

-- each place of a block has a type
pub record BlockTyped (c : Crate) (locals : List Tree) (b : TypedBlock) : Type 0 where
  pub stmts : AllOf (λ s. AllTyped c locals (places_of_stmt s)) b.stmts
  pub term : AllTyped c locals (mir.term_places b.term)

stmts-read : (c : Crate) (strings : Strings) (L : Declared) (locals : List Tree) → Typed L locals → (xs : List StmtRule) → AllOf (λ s. AllTyped c locals (places_of_stmt s)) (stmts_named (names_at c strings) L xs)
    → AllOf (λ x. stmt_codes (names_at c strings) L x ≡ []) xs → AllOf (λ x. any_wrong (names_at c strings) L (stmt_places x) ≡ false) xs → AllOf (λ x. AllOf (Read c strings L) (stmt_places x)) xs
stmts-read c strings L locals typed [] h codes right = tt
stmts-read c strings L locals typed (x ∷ xs) h codes right =
    let P : TypedStmt → Type 0 = λ s. AllTyped c locals (places_of_stmt s) in (
      stmt_read c strings L locals typed x (all-left P (stmt_named (names_at c strings) L x) (stmts_named (names_at c strings) L xs) h) codes.0 right.0,
      stmts-read c strings L locals typed xs (all-right P (stmt_named (names_at c strings) L x) (stmts_named (names_at c strings) L xs) h) codes.1 right.1,
    )

blocks-read : (c : Crate) (strings : Strings) (L : Declared) (locals : List Tree) → Typed L locals → (labels : List ℕ) (bs : List BlockRule) → AllOf (BlockTyped c locals) (map (block_named (names_at c strings) L) bs)
    → AllOf (BlockClean (names_at c strings) L labels) bs → AllOf (BlockRight (names_at c strings) L) bs → AllOf BlockGood bs → AllOf (BlockNice strings) bs → AllOf (BlockRead c strings L labels) bs
blocks-read c strings L locals typed labels [] h clean right good nice = tt
blocks-read c strings L locals typed labels (b ∷ bs) h clean right good nice = (
  record {
    stmts = stmts-read c strings L locals typed b.stmts h.0.stmts clean.0.stmts right.0.stmts;
    stmt_codes = clean.0.stmts;
    term = term_read c strings L locals typed labels b.term h.0.term clean.0.term right.0.term;
    term_codes = clean.0.term;
    good = good.0;
    nice = nice.0.1;
  },
  blocks-read c strings L locals typed labels bs h.1 clean.1 right.1 good.1 nice.1,
)

-- ---- labels

lined-labels : (bs : List BlockRule) (lines : LinesFrom) → map (λ b. b.label) (blocks_lined bs lines) ≡ map (λ b. b.label) bs
lined-labels [] lines = refl
lined-labels (b ∷ bs) lines = ap (λ l. b.label ∷ l) (lined-labels bs (past block_put b lines))

labels-nice : (strings : Strings) (bs : List BlockRule) → AllOf (BlockNice strings) bs → AllOf (λ n. n < 2 ^ 32) (map (λ b. b.label) bs)
labels-nice strings [] h = tt
labels-nice strings (b ∷ bs) h = (h.0.0, labels-nice strings bs h.1)

order-most : (ls : List ℕ) → blocks_in_order ls ≡ true → AllOf (λ n. n < 2 ^ 32) ls → length ls ≤ 2 ^ 32
order-most [] h all = absurd cc
order-most (l ∷ ls) h all = let k = order_most (2 ^ 32) 0 (l ∷ ls) h all (omega arith) in omega (arith, k)

labels-most : (strings : Strings) (bs : List BlockRule) (ls : List ℕ) → ls ≡ map (λ b. b.label) bs → AllOf (BlockNice strings) bs → blocks_in_order ls ≡ true → length bs ≤ 2 ^ 32
labels-most strings bs ls same nice order =
    let all = order-most ls order (subst (AllOf (λ n. n < 2 ^ 32)) (sym same) (labels-nice strings bs nice)) in
    let many = ap length same ∙ map-length (λ b. b.label) bs in
    omega (arith, all, many)

-- ---- declarations

args-rules : (xs : Items ArgRule) (lines : LinesFrom) → map (λ a. a.1) (items_lined arg_put xs lines) ≡ items_of (λ a. a) xs
args-rules G.end lines = refl
args-rules (G.last x) lines = refl
args-rules (G.more x xs) lines = ap (λ l. x ∷ l) (args-rules xs _)

mutual
  lets-rules-in : (d : DeclRule) (lines : LinesFrom) → map (λ a. a.1) (lets_lined_in d lines) ≡ lets_in d
  lets-rules-in (m.«let» b x u) lines = refl
  lets-rules-in (m.debug xs) lines = refl
  lets-rules-in (m.scope n q ds) lines = lets-rules ds _

  lets-rules : (ds : DeclsRule) (lines : LinesFrom) → map (λ a. a.1) (lets_lined ds lines) ≡ lets_of ds
  lets-rules m.no_decls lines = refl
  lets-rules (m.decls d ds) lines =
      map-append (λ a. a.1) (lets_lined_in d lines) (lets_lined ds (past decl_put d lines)) ∙ two-same (λ a b. a ++ b) (lets-rules-in d lines) (lets-rules ds (past decl_put d lines))

types-clean : (N : Names) (xs : List (Lined ArgRule)) → each (declaration_faults N) xs ≡ [] → AllOf (λ a. type_codes N a.1 ≡ []) (map (λ a. a.1) xs)
types-clean N [] h = tt
types-clean N (x ∷ xs) h = (no_codes _ _ (append_empty-left _ _ h), types-clean N xs (append_empty-right _ _ h))

pub max-left : (a b n : ℕ) → max a b ≤ n → a ≤ n
max-left a b n h = grind arith

pub max-right : (a b n : ℕ) → max a b ≤ n → b ≤ n
max-right a b n h = grind arith

mutual
  let-good : (n : ℕ) (d : DeclRule) → decl_depth d ≤ n → AllOf (λ a. type_depth a.1 ≤ n) (lets_in d)
  let-good n (m.«let» b x u) h = (h, tt)
  let-good n (m.debug xs) h = tt
  let-good n (m.scope k q ds) h = lets-good n ds (omega arith)

  lets-good : (n : ℕ) (ds : DeclsRule) → decls_depth ds ≤ n → AllOf (λ a. type_depth a.1 ≤ n) (lets_of ds)
  lets-good n m.no_decls h = tt
  lets-good n (m.decls d ds) h =
      all-append (λ a. type_depth a.1 ≤ n) (lets_in d) (lets_of ds) (let-good n d (max-left (decl_depth d) (decls_depth ds) n h)) (lets-good n ds (max-right (decl_depth d) (decls_depth ds) n h))

pub items-all : {R : Type 0} (P : R → Type 0) (xs : Items R) → AllItems P xs → AllOf P (items_of (λ x. x) xs)
items-all P G.end h = tt
items-all P (G.last x) h = (h, tt)
items-all P (G.more x xs) h = (h.0, items-all P xs h.1)

declared-types : (c : Crate) (strings : Strings) → DefsKnown c → (as' : List ArgRule) → AllOf (λ a. type_codes (names_at c strings) a.1 ≡ []) as' → AllOf (λ a. type_depth a.1 ≤ 65) as'
    → AllOf (λ d. IsTy c d.1) (map (declares (names_at c strings)) as')
declared-types c strings known [] h good = tt
declared-types c strings known (a ∷ others) h good = (ty_written c strings known.paths a.1 (unless_met _ 12 h.0) good.0, declared-types c strings known others h.1 good.1)

-- ---- functions

-- what is said of a function of a derivation and of the one that it names
pub record FnRead (c : Crate) (strings : Strings) (f : FnRule) : Type 0 where
  pub lines : LinesFrom
  pub faults : fn_faults (names_at c strings) (fn_lined f lines) ≡ []
  pub wrong : each (wrong_in_block (names_at c strings) (declared (names_at c strings) f)) (fn_lined f lines).blocks ≡ []
  pub good : FnGood f
  pub path : PathNice strings f.path
  pub numbers : AllOf LocalNice (declarations f)
  pub nice : AllOf (BlockNice strings) f.blocks

-- what the rules say of a function
pub record FnValid (c : Crate) (g : TypedFunction) : Type 0 where
  pub args : g.body.args < length g.body.locals
  pub some : 0 < length g.body.blocks
  pub typed : AllOf (BlockTyped c g.body.locals) g.body.blocks

pub function_written : (c : Crate) (strings : Strings) → DefsKnown c → CallsKnown c → (f : FnRule) → FnRead c strings f → FnValid c (function_named (names_at c strings) f) → IsFn c (function_named (names_at c strings) f)
function_written c strings known calls f read valid =
    let N = names_at c strings in
    let L = declared N f in
    let locals = locals_from L 0 (length L) in
    let lined = fn_lined f read.lines in
    let blocks = append_empty-right _ (each (block_faults N L (labels_of lined)) lined.blocks) read.faults in
    let five = append_empty-left _ (each (block_faults N L (labels_of lined)) lined.blocks) read.faults in
    let four = append_empty-left _ (result_faults N (ty_of N f.result) (lined.args ++ lined.lets)) five in
    let three = append_empty-left _ (declared_once [] (lined.args ++ lined.lets)) four in
    let two = append_empty-left _ (args_in_place 1 lined.args) three in
    let types = append_empty-right _ (each (declaration_faults N) (lined.args ++ lined.lets)) two in
    let head = no_codes lined.head _ (append_empty-left _ (each (declaration_faults N) (lined.args ++ lined.lets)) two) in
    let order = unless_met (blocks_in_order (labels_of lined)) 15 (append_empty-right _ (unless (blocks_in_order (labels_of lined)) 15) head) in
    let missing = unless_met (none_missing L) 14 (append_empty-right _ (unless (none_missing L) 14) (append_empty-left _ (unless (blocks_in_order (labels_of lined)) 15) head)) in
    let rules : map (λ a. a.1) (lined.args ++ lined.lets) ≡ declarations f =
    map-append (λ a. a.1) lined.args lined.lets ∙ two-same (λ a b. a ++ b) (args-rules f.args _) (lets-rules f.locals _) in
    let codes : AllOf (λ a. type_codes N a.1 ≡ []) (declarations f) = subst (AllOf (λ a. type_codes N a.1 ≡ [])) rules (types-clean N (lined.args ++ lined.lets) types) in
    let deep : AllOf (λ a. type_depth a.1 ≤ 65) (declarations f) =
    all-append (λ a. type_depth a.1 ≤ 65) (items_of (λ a. a) f.args) (lets_of f.locals) (items-all ArgGood f.args read.good.0) (lets-good 65 f.locals read.good.2.0) in
    let once = append_empty-right _ (declared_once [] (lined.args ++ lined.lets)) four in
    let listed = declared_most (2 ^ 32) (lined.args ++ lined.lets) once (subst (AllOf LocalNice) (sym rules) read.numbers) in
    let all-listed = sym (map-length (λ a. a.1) (lined.args ++ lined.lets)) ∙ ap length rules ∙ sym (map-length (declares N) (declarations f)) in
    let from = locals_from-length L 0 (length L) in
    let few : length locals ≤ 2 ^ 32 = omega (arith, listed, all-listed, from) in
    let same : labels_of lined ≡ map (λ b. b.label) f.blocks = lined-labels f.blocks _ in
    let marks = labels-most strings f.blocks (labels_of lined) same read.nice order in
    let few-blocks : length (map (block_named N L) f.blocks) ≤ 2 ^ 32 = let n = map-length (block_named N L) f.blocks in omega (arith, n, marks) in
    let given : Given c strings L locals = record { defs = known; typed = declared_typed L; there = λ x h. declared_there L x missing h; few = few } in
    let many : length (labels_of lined) ≡ length (map (block_named N L) f.blocks) = blocks_lined-length f.blocks _ ∙ sym (map-length (block_named N L) f.blocks) in
    let labels : Labelled (labels_of lined) (length (map (block_named N L) f.blocks)) = record { below = λ b h. subst (λ n. b < n) many (labels_few (labels_of lined) b order h); few = few-blocks } in
    let all = blocks-read c strings L locals (declared_typed L) (labels_of lined) f.blocks valid.typed (blocks-clean N L (labels_of lined) f.blocks _ blocks) (blocks-right N L f.blocks _ read.wrong) read.good.3 read.nice in
    record {
      path = path_written strings f.path read.path;
      args = valid.args;
      few = few;
      types = locals_written c L 0 (length L) (declared-types c strings known (declarations f) codes deep);
      some = valid.some;
      few_blocks = few-blocks;
      blocks = blocks_written c strings L locals given calls (labels_of lined) (length (map (block_named N L) f.blocks)) labels f.blocks all;
    }
