-- A function whose names have no fault is formed.
use Rattle.std.proofs.Common.{◌≡◌, ◌∙◌, ◌<◌, true, ◌&&◌, nat_lt, [], ◌++◌, map, length, is_some, sym, ap, subst, arith}
use Rattle.std.specs.List.{list_all}
use Rattle.std.proofs.lemmas.Bool.{and_from, and_parts, lt-ltb}
use Rattle.std.proofs.lemmas.List.{map-append, length-map}
use Rattle.mir_syntax.specs.Crate.{TypedBody, Crate}
use Rattle.mir_text.specs.Grammar.{items_of}
use Rattle.mir_text.specs.GrammarItems.{FnRule}
use Rattle.mir_text.specs.Names.{Names, ty_of}
use Rattle.mir_text.specs.NamedBodies.{Declared, declared_ty, block_named}
use Rattle.mir_text.specs.Naming.{declares, declared, body_named, function_named}
use Rattle.mir_text.specs.PartLines.{LinesFrom, LinedFn, fn_lined}
use Rattle.mir_text.specs.NameFaults.{on_line, unless, each, type_codes, none_missing, none_missing_in, blocks_in_order, labels_of, declaration_faults, args_in_place, declared_once, result_faults, block_faults, fn_faults}
use Rattle.mir_text.specs.Nesting.{FnGood}
use Rattle.mir_rules.specs.Formed.{type_formed, block_formed, has_start, body_formed, function_formed}
use Rattle.mir_rules.proofs.Lists.{append_empty-left, append_empty-right}
use Rattle.read_formed.proofs.Knows.{Knows}
use Rattle.read_formed.proofs.Places.{Holds}
use Rattle.read_formed.proofs.Terms.{blocks_formed}
use Rattle.mir_text.proofs.Counting.{declared_few, labels_few, labels_some, locals_from-length, blocks_lined-length}
use Rattle.mir_text.proofs.Codes.{unless_met, no_codes}
use Rattle.read_formed.proofs.Declarations.{unlined, args_unlined, declarations_unlined, declared_formed, declared_types, locals_formed, args_fewer}

-- what of the faults of a function there is not
record Clean (N : Names) (f : LinedFn) : Type 0 where
  pub missing : none_missing (declared N f.rule) ≡ true
  pub order : blocks_in_order (labels_of f) ≡ true
  pub types : each (declaration_faults N) (f.args ++ f.lets) ≡ []
  pub args : args_in_place 1 f.args ≡ []
  pub blocks : each (block_faults N (declared N f.rule) (labels_of f)) f.blocks ≡ []

clean : (N : Names) (f : LinedFn) → fn_faults N f ≡ [] → Clean N f
clean N f h =
    let L = declared N f.rule in
    let all = f.args ++ f.lets in
    let blocks = append_empty-right _ (each (block_faults N L (labels_of f)) f.blocks) h in
    let five = append_empty-left _ (each (block_faults N L (labels_of f)) f.blocks) h in
    let four = append_empty-left _ (result_faults N (ty_of N f.rule.result) all) five in
    let three = append_empty-left _ (declared_once [] all) four in
    let two = append_empty-left _ (args_in_place 1 f.args) three in
    let head = no_codes f.head _ (append_empty-left _ (each (declaration_faults N) all) two) in
    let front = append_empty-left _ (unless (blocks_in_order (labels_of f)) 15) head in
    record {
      missing = unless_met (none_missing L) 14 (append_empty-right (type_codes N f.rule.result) (unless (none_missing L) 14) front);
      order = unless_met (blocks_in_order (labels_of f)) 15 (append_empty-right (type_codes N f.rule.result ++ unless (none_missing L) 14) (unless (blocks_in_order (labels_of f)) 15) head);
      types = append_empty-right (on_line f.head _) (each (declaration_faults N) all) two;
      args = append_empty-right _ (args_in_place 1 f.args) three;
      blocks = blocks;
    }

module _ (C : Crate) (N : Names) (knows : Knows C N) (f : FnRule) (lines : LinesFrom) (good : FnGood f) (faultless : fn_faults N (fn_lined f lines) ≡ []) where
  abbrev L : Declared
  L = declared N f

  abbrev lined : LinedFn
  lined = fn_lined f lines

  abbrev body : TypedBody
  body = body_named N L f

  is-clean : Clean N lined
  is-clean = clean N lined faultless

  -- so many locals are there, and so many blocks
  locals-there : length body.locals ≡ length L
  locals-there = locals_from-length L 0 (length L)

  blocks-there : length body.blocks ≡ length (labels_of lined)
  blocks-there = length-map f.blocks (block_named N L) ∙ sym (blocks_lined-length f.blocks _)

  holds : Holds L (labels_of lined) body
  holds = record {
    locals = λ x h. lt-ltb x (length body.locals) (subst (λ n. x < n) (sym locals-there) (declared_few L x is-clean.missing h));
    blocks = λ n h. lt-ltb n (length body.blocks) (subst (λ k. n < k) (sym blocks-there) (labels_few (labels_of lined) n is-clean.order h));
  }

  -- ---- its start

  declared-parts : L ≡ map (declares N) (map unlined lined.args) ++ map (declares N) (map unlined lined.lets)
  declared-parts =
      ap (map (declares N)) (sym (declarations_unlined f lines) ∙ map-append unlined lined.args lined.lets) ∙ map-append (declares N) (map unlined lined.args) (map unlined lined.lets)

  args-many : length (items_of (λ a. a) f.args) ≡ length lined.args
  args-many = ap length (sym (args_unlined f.args _)) ∙ length-map lined.args unlined

  args-there : body.args < length body.locals
  args-there =
      let zero-there = (and_parts (is_some (declared_ty L 0)) (none_missing_in L L) is-clean.missing).0 in
      let lets = map (declares N) (map unlined lined.lets) in
      let less = args_fewer N 0 lined.args lets is-clean.args (subst (λ l. is_some (declared_ty l 0) ≡ true) declared-parts zero-there) in
      let all = ap length declared-parts in
      let there = locals-there in
      let many = args-many in
      omega (arith, less, all, there, many)

  start : has_start body ≡ true
  start =
      let some = subst (λ n. 0 < n) (sym blocks-there) (labels_some (labels_of lined) is-clean.order) in
      and_from (nat_lt 0 (length body.blocks)) (nat_lt body.args (length body.locals)) (lt-ltb 0 (length body.blocks) some) (lt-ltb body.args (length body.locals) args-there)

  -- ---- its parts

  types : list_all (type_formed C) body.locals ≡ true
  types =
      let all = declared_types C N knows (lined.args ++ lined.lets) is-clean.types in
      locals_formed C L 0 (length L) (subst (λ l. list_all (declared_formed C) (map (declares N) l) ≡ true) (declarations_unlined f lines) all)

  pub function_is_formed : function_formed C (function_named N f) ≡ true
  unfolding body_formed
  function_is_formed =
      let blocks = blocks_formed C N knows L (labels_of lined) body holds f.blocks _ is-clean.blocks good.3 in
      and_from (has_start body) (list_all (type_formed C) body.locals && list_all (block_formed C body) body.blocks) start
      (and_from (list_all (type_formed C) body.locals) (list_all (block_formed C body) body.blocks) types blocks)
