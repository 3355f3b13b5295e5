-- Parsing types is the grammar's rule, both ways.
use Rattle.std.proofs.Common.{◌≡◌, ℕ, zero, suc, ◌+◌, ◌<◌, ◌≤◌, Bool, true, false, List, [], ◌∷◌, ◌++◌, length, Ok, None, refl, sym, ap, subst, ◌∙◌, arith, append_assoc}
use Rattle.mir_text.specs.declared.symbol.Symbol.{Symbol}
use Rattle.mir_text.specs.declared.symbol.Symbol.TheVariants as s
use Rattle.mir_text.specs.Grammar as g
use Rattle.mir_text.specs.Grammar.{items_put, AllItems}
use Rattle.mir_text.specs.GrammarTypes.{PathRule, name, name_in, path_put, TypeRule, int, bool, ref, path, unit, tuple, TypesRule, end, last, more, mut_put, type_put, types_put}
use Rattle.mir_text.specs.Nesting.{type_depth, types_depth}
use Rattle.mir_tree.specs.declared.Items.{Items}
use Rattle.mir_tree.specs.declared.ty.TypePart.{TypePart}
use Rattle.mir_tree.specs.declared.ty.TypePart.TheVariants as p
use Rattle.mir_tree.specs.declared.ty.TypeText.{TypeText}
use Rattle.mir_tree.specs.Types.{type_parts, types_parts, types_count, ends_in_comma, type_text, type_rule, types_rule}
use Rattle.mir_tree.proofs.TypesBack.{type-back}
use Rattle.mir_parse.specs.declared.list.Turn.{Turn}
use Rattle.mir_parse.specs.declared.list.Turn.TheVariants as turn
use Rattle.mir_parse.specs.Promises.{starts_colons}
use Rattle.mir_parse.specs.Parser.{and_then}
use Rattle.mir_parse.specs.Signs.{comma}
use Rattle.mir_parse.specs.Lists.{closing_paren, after_item}
use Rattle.mir_parse.specs.Paths.{path as path_at}
use Rattle.mir_parse.specs.Types.{ParseType, mut_at, tuple_turn, tuple_goes_on, tuple_from, tuple_at, parens_with, type_with, type_at, type_text_at, types_at}
use Rattle.mir_parse.proofs.Laws.{in_steps, ok_same, IsRead, paren_closes, ItemLaws, items-complete, items-sound, items_text, comma-sound}
use Rattle.mir_parse.proofs.PathsRead.{path-complete, path-sound, path_grows}

-- a type doesn't begin with `mut`
not_mut : (t : TypeRule) (rest : List Symbol) → mut_at (type_put t rest) ≡ (false, type_put t rest)
unfolding mut_at
not_mut (int i) rest = refl
not_mut bool rest = refl
not_mut (ref m t) rest = refl
not_mut (path (name n)) rest = refl
not_mut (path (name_in n q)) rest = refl
not_mut unit rest = refl
not_mut (tuple t ts) rest = refl

past_mut : (m : Bool) (t : TypeRule) (rest : List Symbol) → mut_at (mut_put m (type_put t rest)) ≡ (m, type_put t rest)
unfolding mut_at
past_mut false t rest = not_mut t rest
past_mut true t rest = refl

-- a type doesn't begin with a closing parenthesis
turn-type : (type : ParseType) (before : List TypePart) (count : ℕ) (t : TypeRule) (rest : List Symbol)
    → tuple_turn type before count (type_put t rest) ≡ and_then (type before (type_put t rest)) (λ parts ts. and_then (after_item closing_paren ts) (λ u ts. Ok (((u, count + 1), parts), ts)))
unfolding tuple_turn
turn-type type before count (int i) rest = refl
turn-type type before count bool rest = refl
turn-type type before count (ref m t) rest = refl
turn-type type before count (path (name n)) rest = refl
turn-type type before count (path (name_in n q)) rest = refl
turn-type type before count unit rest = refl
turn-type type before count (tuple t ts) rest = refl

parens-type : (type : ParseType) (before : List TypePart) (t : TypeRule) (rest : List Symbol)
    → parens_with type before (type_put t rest) ≡ and_then (type before (type_put t rest)) (λ parts ts. and_then (comma ts) (λ _ ts. and_then (tuple_at type parts 1 ts) (λ parts ts. Ok (parts, ts))))
unfolding parens_with
parens-type type before (int i) rest = refl
parens-type type before bool rest = refl
parens-type type before (ref m t) rest = refl
parens-type type before (path (name n)) rest = refl
parens-type type before (path (name_in n q)) rest = refl
parens-type type before unit rest = refl
parens-type type before (tuple t ts) rest = refl

no_paren : (t : TypeRule) (rest : List Symbol) → closing_paren (type_put t rest) ≡ None
unfolding closing_paren
no_paren (int i) rest = refl
no_paren bool rest = refl
no_paren (ref m t) rest = refl
no_paren (path (name n)) rest = refl
no_paren (path (name_in n q)) rest = refl
no_paren unit rest = refl
no_paren (tuple t ts) rest = refl

type-path : (type : ParseType) (before : List TypePart) (q : PathRule) (rest : List Symbol) → type_with type before (path_put q rest) ≡ and_then (path_at (path_put q rest)) (λ x ts. Ok (before ++ p.Path x ∷ [], ts))
unfolding type_with
type-path type before (name n) rest = refl
type-path type before (name_in n q) rest = refl

mutual
  pub type_grows : (t : TypeRule) (rest : List Symbol) → length rest < length (type_put t rest)
  type_grows (int i) rest = omega arith
  type_grows bool rest = omega arith
  type_grows (ref true t) rest = omega (arith, type_grows t rest)
  type_grows (ref false t) rest = omega (arith, type_grows t rest)
  type_grows (path q) rest = path_grows q rest
  type_grows unit rest = omega arith
  type_grows (tuple t ts) rest = omega (arith, type_grows t (s.Comma ∷ types_put ts rest), types_grow ts rest)

  pub types_grow : (ts : TypesRule) (rest : List Symbol) → length rest < length (types_put ts rest)
  types_grow end rest = omega arith
  types_grow (last t) rest = omega (arith, type_grows t (s.Close ∷ rest))
  types_grow (more t ts) rest = omega (arith, type_grows t (s.Comma ∷ types_put ts rest), types_grow ts rest)

some_type : (t : TypeRule) → type_depth t ≤ 0 → ⊥
some_type (int i) h = omega arith
some_type bool h = omega arith
some_type (ref m t) h = omega arith
some_type (path q) h = omega arith
some_type unit h = omega arith
some_type (tuple t ts) h = omega arith

-- ---- what the grammar puts is read

-- the parts of a tuple behind those of its first type
abbrev tuple_parts : ℕ → TypesRule → List TypePart
tuple_parts count ts = types_parts ts ++ p.Tuple (count + types_count ts) (ends_in_comma ts) ∷ []

tuple-more : (parts more_parts : List TypePart) (n m : ℕ) (trailing : Bool) → n ≡ m → parts ++ (more_parts ++ p.Tuple n trailing ∷ []) ≡ parts ++ (more_parts ++ p.Tuple m trailing ∷ [])
tuple-more parts more_parts n m trailing e = ap (λ k. parts ++ (more_parts ++ p.Tuple k trailing ∷ [])) e

mutual
  unfolding type_at type_with parens_with tuple_from tuple_turn after_item closing_paren comma

  pub parts-complete : (t : TypeRule) (d : ℕ) (before : List TypePart) (rest : List Symbol) → type_depth t ≤ d → starts_colons rest ≡ false → type_at d before (type_put t rest) ≡ Ok (before ++ type_parts t, rest)
  parts-complete t zero before rest h e = absurd (some_type t h)
  parts-complete (int i) (suc d) before rest h e = refl
  parts-complete bool (suc d) before rest h e = refl
  parts-complete (ref m t) (suc d) before rest h e =
      rw (past_mut m t rest, parts-complete t d before rest (omega arith) e, append_assoc before (type_parts t) (p.Ref m ∷ [])) refl
  parts-complete (path q) (suc d) before rest h e = rw (type-path (type_at d) before q rest, path-complete q rest e) refl
  parts-complete unit (suc d) before rest h e = refl
  parts-complete (tuple t ts) (suc d) before rest h e =
      let after = s.Comma ∷ types_put ts rest in
      let n : 1 + types_count ts ≡ suc (types_count ts) = omega arith in
      rw (
        parens-type (type_at d) before t after,
        parts-complete t d before after (omega arith) refl,
        tuple-complete ts d (suc (length (types_put ts rest))) (before ++ type_parts t) 1 rest (omega arith) (few_types ts rest),
        append_assoc before (type_parts t) (tuple_parts 1 ts),
        n,
      ) refl

  few_types : (ts : TypesRule) (rest : List Symbol) → types_count ts < suc (length (types_put ts rest))
  few_types end rest = omega arith
  few_types (last t) rest = omega (arith, type_grows t (s.Close ∷ rest))
  few_types (more t ts) rest = omega (arith, type_grows t (s.Comma ∷ types_put ts rest), few_types ts rest)

  tuple-complete : (ts : TypesRule) (d n : ℕ) (before : List TypePart) (count : ℕ) (rest : List Symbol) → types_depth ts ≤ d → types_count ts < n
      → tuple_from (type_at d) n before count (types_put ts rest) ≡ Ok (before ++ tuple_parts count ts, rest)
  tuple-complete ts d zero before count rest h k = absurd (omega arith)
  tuple-complete end d (suc n) before count rest h k = let z : count + 0 ≡ count = omega arith in rw z refl
  tuple-complete (last t) d (suc n) before count rest h k =
      let after = s.Close ∷ rest in
      rw (turn-type (type_at d) before count t after, parts-complete t d before after (omega arith) refl, append_assoc before (type_parts t) (p.Tuple (count + 1) false ∷ [])) refl
  tuple-complete (more t ts) d (suc n) before count rest h k =
      let after = s.Comma ∷ types_put ts rest in
      let z : count + 1 + types_count ts ≡ count + suc (types_count ts) = omega arith in
      rw (
        turn-type (type_at d) before count t after,
        parts-complete t d before after (omega arith) refl,
        tuple-complete ts d n (before ++ type_parts t) (count + 1) rest (omega arith) (omega arith),
        append_assoc before (type_parts t) (tuple_parts (count + 1) ts),
        append_assoc (type_parts t) (types_parts ts) (p.Tuple (count + suc (types_count ts)) (ends_in_comma ts) ∷ []),
        z,
      ) refl

abbrev pub Nests : ℕ → TypeRule → Type 0
Nests d t = type_depth t ≤ d

pub type-complete : (t : TypeRule) (d : ℕ) (rest : List Symbol) → type_depth t ≤ d → starts_colons rest ≡ false → type_text_at d (type_put t rest) ≡ Ok (type_text t, rest)
unfolding type_text_at
type-complete t d rest h e = rw (parts-complete t d [] rest h e) refl

-- ---- what is read is what the grammar puts

-- a type was read, and its parts stand behind others
record IsType (d : ℕ) (ts : List Symbol) (before parts : List TypePart) (rest : List Symbol) : Type 0 where
  pub rule : TypeRule
  pub reads : before ++ type_parts rule ≡ parts
  pub yields : ts ≡ type_put rule rest
  pub nests : type_depth rule ≤ d

record IsTuple (d : ℕ) (ts : List Symbol) (before : List TypePart) (count : ℕ) (parts : List TypePart) (rest : List Symbol) : Type 0 where
  pub rule : TypesRule
  pub reads : before ++ tuple_parts count rule ≡ parts
  pub yields : ts ≡ types_put rule rest
  pub nests : types_depth rule ≤ d

abbrev TypeSound : ℕ → Type 0
TypeSound d = (ts : List Symbol) (before parts : List TypePart) (rest : List Symbol) → type_at d before ts ≡ Ok (parts, rest) → IsType d ts before parts rest

abbrev TupleSound : ℕ → ℕ → Type 0
TupleSound d n = (ts : List Symbol) (before : List TypePart) (count : ℕ) (parts : List TypePart) (rest : List Symbol) → tuple_from (type_at d) n before count ts ≡ Ok (parts, rest) → IsTuple d ts before count parts rest

last-type : (d : ℕ) (ts past over : List Symbol) (before middle parts : List TypePart) (count : ℕ) → IsType d ts before middle past → past ≡ s.Close ∷ over → middle ++ p.Tuple (count + 1) false ∷ [] ≡ parts → IsTuple d ts before count parts over
last-type d ts past over before middle parts count first close_is e =
    record {
      rule = last first.rule;
      reads = sym (append_assoc before (type_parts first.rule) (p.Tuple (count + 1) false ∷ [])) ∙ ap (λ l. l ++ p.Tuple (count + 1) false ∷ []) first.reads ∙ e;
      yields = first.yields ∙ ap (type_put first.rule) close_is;
      nests = first.nests;
    }

more-types : (d : ℕ) (ts past after over : List Symbol) (before middle parts : List TypePart) (count : ℕ) → IsType d ts before middle past → past ≡ s.Comma ∷ after → IsTuple d after middle (count + 1) parts over → IsTuple d ts before count parts over
more-types d ts past after over before middle parts count first comma_is others =
    let z : count + suc (types_count others.rule) ≡ count + 1 + types_count others.rule = omega arith in
    let n_part : ℕ → List TypePart = λ n. p.Tuple n (ends_in_comma others.rule) ∷ [] in
    record {
      rule = more first.rule others.rule;
      reads =
          ap (λ n. before ++ ((type_parts first.rule ++ types_parts others.rule) ++ n_part n)) z
          ∙ ap (λ l. before ++ l) (append_assoc (type_parts first.rule) (types_parts others.rule) (n_part (count + 1 + types_count others.rule)))
          ∙ sym (append_assoc before (type_parts first.rule) (tuple_parts (count + 1) others.rule))
          ∙ ap (λ l. l ++ tuple_parts (count + 1) others.rule) first.reads
          ∙ others.reads;
      yields = first.yields ∙ ap (type_put first.rule) (comma_is ∙ ap (λ l. s.Comma ∷ l) others.yields);
      nests = omega (arith, first.nests, others.nests);
    }

-- what stands behind an item
pub after_paren-sound : {R : Type 0} (ts : List Symbol) (t : Turn) (rest : List Symbol) → after_item closing_paren ts ≡ Ok (t, rest)
    → (ts ≡ s.Close ∷ rest → t ≡ turn.Ends false → R) → (ts ≡ s.Comma ∷ rest → t ≡ turn.More → R) → R
unfolding after_item closing_paren comma
after_paren-sound [] t rest h close_k comma_k = absurd cc
after_paren-sound (s.Close ∷ ts) t rest h close_k comma_k = let e = ok_same _ _ h in close_k (ap (λ q. s.Close ∷ q.1) e) (sym (ap (λ q. q.0) e))
after_paren-sound (s.Comma ∷ ts) t rest h close_k comma_k = let e = ok_same _ _ h in comma_k (ap (λ q. s.Comma ∷ q.1) e) (sym (ap (λ q. q.0) e))
after_paren-sound (x ∷ ts) t rest h close_k comma_k = absurd cc

tuple-first : (d n : ℕ) → TypeSound d → TupleSound d n → (ts : List Symbol) (before : List TypePart) (count : ℕ) (parts : List TypePart) (rest : List Symbol)
    → and_then (and_then (type_at d before ts) (λ parts ts. and_then (after_item closing_paren ts) (λ u ts. Ok (((u, count + 1), parts), ts)))) (tuple_goes_on (tuple_from (type_at d) n)) ≡ Ok (parts, rest)
    → IsTuple d ts before count parts rest
tuple-first d n sound more_sound ts before count parts rest h =
    in_steps _ _ (parts, rest) h (λ q after found went.
    in_steps _ _ (q, after) found (λ middle past first turned.
    in_steps _ _ (q, after) turned (λ t past2 is_after same_h.
    let same = ok_same _ _ same_h in
    let went2 = subst (λ (y : ((Turn × ℕ) × List TypePart) × List Symbol). tuple_goes_on (tuple_from (type_at d) n) y.0 y.1 ≡ Ok (parts, rest)) (sym same) went in
    after_paren-sound past t past2 is_after
    (λ close_is is. let e = ok_same _ _ (ap (λ c. tuple_goes_on (tuple_from (type_at d) n) ((c, count + 1), middle) past2) (sym is) ∙ went2) in
    last-type d ts past rest before middle parts count (sound ts before middle past first) (close_is ∙ ap (λ q. s.Close ∷ q.1) e) (ap (λ q. q.0) e))
    (λ comma_is is. more-types d ts past past2 rest before middle parts count (sound ts before middle past first) comma_is
    (more_sound past2 middle (count + 1) parts rest (ap (λ c. tuple_goes_on (tuple_from (type_at d) n) ((c, count + 1), middle) past2) (sym is) ∙ went2))))))

tuple-sound : (d n : ℕ) → TypeSound d → TupleSound d n
unfolding tuple_from tuple_turn
tuple-sound d zero sound ts before count parts rest h = absurd cc
tuple-sound d (suc n) sound (s.Close ∷ ts) before count parts rest h =
    let e = ok_same _ _ h in
    let z : count + 0 ≡ count = omega arith in
    record { rule = end; reads = ap (λ k. before ++ p.Tuple k true ∷ []) z ∙ ap (λ q. q.0) e; yields = ap (λ q. s.Close ∷ q.1) e; nests = omega arith }
tuple-sound d (suc n) sound [] before count parts rest h = tuple-first d n sound (tuple-sound d n sound) [] before count parts rest h
tuple-sound d (suc n) sound (x ∷ ts) before count parts rest h = tuple-first d n sound (tuple-sound d n sound) (x ∷ ts) before count parts rest h

joins-tuple : (d : ℕ) (ts past after rest : List Symbol) (before middle parts : List TypePart) → IsType d ts before middle past → past ≡ s.Comma ∷ after → IsTuple d after middle 1 parts rest → IsType (suc d) (s.Open ∷ ts) before parts rest
joins-tuple d ts past after rest before middle parts first comma_is others =
    let n : suc (types_count others.rule) ≡ 1 + types_count others.rule = omega arith in
    record {
      rule = tuple first.rule others.rule;
      reads =
          ap (λ k. before ++ (type_parts first.rule ++ (types_parts others.rule ++ p.Tuple k (ends_in_comma others.rule) ∷ []))) n
          ∙ sym (append_assoc before (type_parts first.rule) (tuple_parts 1 others.rule))
          ∙ ap (λ l. l ++ tuple_parts 1 others.rule) first.reads
          ∙ others.reads;
      yields = ap (λ l. s.Open ∷ l) (first.yields ∙ ap (type_put first.rule) (comma_is ∙ ap (λ l. s.Comma ∷ l) others.yields));
      nests = omega (arith, first.nests, others.nests);
    }

parens-first : (d : ℕ) → TypeSound d → (ts : List Symbol) (before parts : List TypePart) (rest : List Symbol)
    → and_then (type_at d before ts) (λ parts ts. and_then (comma ts) (λ _ ts. and_then (tuple_at (type_at d) parts 1 ts) (λ parts ts. Ok (parts, ts)))) ≡ Ok (parts, rest) → IsType (suc d) (s.Open ∷ ts) before parts rest
parens-first d sound ts before parts rest h =
    in_steps _ _ (parts, rest) h (λ middle past found went.
    in_steps _ _ (parts, rest) went (λ nothing after is_comma went2.
    in_steps _ _ (parts, rest) went2 (λ us over found2 same_h.
    let P : List TypePart × List Symbol → Type 0 = λ q. IsType (suc d) (s.Open ∷ ts) before q.0 q.1 in
    subst P (ok_same _ _ same_h) (joins-tuple d ts past after over before middle us (sound ts before middle past found) (comma-sound past (nothing, after) is_comma)
    (tuple-sound d _ sound after middle 1 us over found2)))))

parens-sound : (d : ℕ) → TypeSound d → (ts : List Symbol) (before parts : List TypePart) (rest : List Symbol) → parens_with (type_at d) before ts ≡ Ok (parts, rest) → IsType (suc d) (s.Open ∷ ts) before parts rest
unfolding parens_with
parens-sound d sound (s.Close ∷ ts) before parts rest h =
    let e = ok_same _ _ h in
    record { rule = unit; reads = ap (λ q. q.0) e; yields = ap (λ q. s.Open ∷ s.Close ∷ q.1) e; nests = omega arith }
parens-sound d sound [] before parts rest h = parens-first d sound [] before parts rest h
parens-sound d sound (x ∷ ts) before parts rest h = parens-first d sound (x ∷ ts) before parts rest h

pub mut-put : (ts : List Symbol) → ts ≡ mut_put (mut_at ts).0 (mut_at ts).1
unfolding mut_at
mut-put [] = refl
mut-put (s.Mut ∷ ts) = refl
mut-put (x ∷ ts) = refl

parts-sound : (d : ℕ) → TypeSound d
unfolding type_at type_with
parts-sound zero ts before parts rest h = absurd cc
parts-sound (suc d) [] before parts rest h = absurd cc
parts-sound (suc d) (s.Int i ∷ ts) before parts rest h =
    let e = ok_same _ _ h in
    record { rule = int i; reads = ap (λ q. q.0) e; yields = ap (λ q. s.Int i ∷ q.1) e; nests = omega arith }
parts-sound (suc d) (s.Bool ∷ ts) before parts rest h =
    let e = ok_same _ _ h in
    record { rule = bool; reads = ap (λ q. q.0) e; yields = ap (λ q. s.Bool ∷ q.1) e; nests = omega arith }
parts-sound (suc d) (s.Name n ∷ ts) before parts rest h =
    in_steps _ _ (parts, rest) h (λ x past found same_h.
    let e = ok_same _ _ same_h in
    let inner = path-sound (s.Name n ∷ ts) x past found in
    record { rule = path inner.rule; reads = ap (λ y. before ++ p.Path y ∷ []) inner.reads ∙ ap (λ q. q.0) e; yields = inner.yields ∙ ap (λ q. path_put inner.rule q.1) e; nests = omega arith })
parts-sound (suc d) (s.Ampersand ∷ ts) before parts rest h =
    in_steps _ _ (parts, rest) h (λ us past found same_h.
    let inner = parts-sound d (mut_at ts).1 before us past found in
    let e = ok_same _ _ same_h in
    record {
      rule = ref (mut_at ts).0 inner.rule;
      reads = sym (append_assoc before (type_parts inner.rule) (p.Ref (mut_at ts).0 ∷ [])) ∙ ap (λ l. l ++ p.Ref (mut_at ts).0 ∷ []) inner.reads ∙ ap (λ q. q.0) e;
      yields = ap (λ l. s.Ampersand ∷ l) (mut-put ts ∙ ap (λ l. mut_put (mut_at ts).0 l) (inner.yields ∙ ap (λ q. type_put inner.rule q.1) e));
      nests = omega (arith, inner.nests);
    })
parts-sound (suc d) (s.Open ∷ ts) before parts rest h =
    in_steps _ _ (parts, rest) h (λ us past found same_h.
    let P : List TypePart × List Symbol → Type 0 = λ q. IsType (suc d) (s.Open ∷ ts) before q.0 q.1 in
    subst P (ok_same _ _ same_h) (parens-sound d (parts-sound d) ts before us past found))
parts-sound (suc d) (x ∷ ts) before parts rest h = absurd cc

pub type-sound : (d : ℕ) (ts : List Symbol) (x : TypeText) (rest : List Symbol) → type_text_at d ts ≡ Ok (x, rest) → IsRead type_put type_text (Nests d) ts x rest
unfolding type_text_at
type-sound d ts x rest h =
    in_steps _ _ (x, rest) h (λ parts past found same_h.
    let e = ok_same _ _ same_h in
    let inner = parts-sound d ts [] parts past found in
    let f : List TypePart → TypeText = λ l. record { parts = l } in
    record { rule = inner.rule; reads = ap f inner.reads ∙ ap (λ q. q.0) e; yields = inner.yields ∙ ap (λ q. type_put inner.rule q.1) e; good = inner.nests })

pub type_rule-back : (t : TypeRule) → type_rule (type_text t) ≡ t
type_rule-back t = type-back t

-- ---- type,*

type_laws : (d : ℕ) → ItemLaws closing_paren (type_text_at d) type_put type_text (Nests d) s.Close
type_laws d = record {
  closes = paren_closes;
  no_item = no_paren;
  before_comma = λ t rest h. type-complete t d (s.Comma ∷ rest) h refl;
  before_sign = λ t rest h. type-complete t d (s.Close ∷ rest) h refl;
  sound = type-sound d;
  grows = type_grows;
}

-- the same list, by the general form
abbrev to_items : TypesRule → g.Items TypeRule
to_items end = g.end
to_items (last t) = g.last t
to_items (more t ts) = g.more t (to_items ts)

abbrev from_items : g.Items TypeRule → TypesRule
from_items g.end = end
from_items (g.last t) = last t
from_items (g.more t ts) = more t (from_items ts)

to_put : (ts : TypesRule) (rest : List Symbol) → items_put type_put s.Close (to_items ts) rest ≡ types_put ts rest
to_put end rest = refl
to_put (last t) rest = refl
to_put (more t ts) rest = ap (λ l. type_put t (s.Comma ∷ l)) (to_put ts rest)

from_put : (ts : g.Items TypeRule) (rest : List Symbol) → items_put type_put s.Close ts rest ≡ types_put (from_items ts) rest
from_put g.end rest = refl
from_put (g.last t) rest = refl
from_put (g.more t ts) rest = ap (λ l. type_put t (s.Comma ∷ l)) (from_put ts rest)

to_nests : (d : ℕ) (ts : TypesRule) → types_depth ts ≤ d → AllItems (Nests d) (to_items ts)
to_nests d end h = tt
to_nests d (last t) h = h
to_nests d (more t ts) h = (omega arith, to_nests d ts (omega arith))

from_nests : (d : ℕ) (ts : g.Items TypeRule) → AllItems (Nests d) ts → types_depth (from_items ts) ≤ d
from_nests d g.end h = omega arith
from_nests d (g.last t) h = h
from_nests d (g.more t ts) h = omega (arith, h.0, from_nests d ts h.1)

abbrev pub types_text : TypesRule → Items TypeText
types_text ts = items_text type_text (to_items ts)

abbrev pub TypesNest : ℕ → TypesRule → Type 0
TypesNest d ts = types_depth ts ≤ d

to_from : (ts : g.Items TypeRule) → to_items (from_items ts) ≡ ts
to_from g.end = refl
to_from (g.last t) = refl
to_from (g.more t ts) = ap (g.more t) (to_from ts)

pub types_rule-back : (ts : TypesRule) → types_rule (types_text ts) ≡ ts
types_rule-back end = refl
types_rule-back (last t) = ap last (type-back t)
types_rule-back (more t end) = ap (λ x. more x end) (type-back t)
types_rule-back (more t (last u)) = ap (λ x. more x (types_rule (types_text (last u)))) (type-back t) ∙ ap (more t) (types_rule-back (last u))
types_rule-back (more t (more u ts)) = ap (λ x. more x (types_rule (types_text (more u ts)))) (type-back t) ∙ ap (more t) (types_rule-back (more u ts))

pub types-complete : (ts : TypesRule) (d : ℕ) (rest : List Symbol) → types_depth ts ≤ d → types_at d (types_put ts rest) ≡ Ok (types_text ts, rest)
types-complete ts d rest h =
    subst (λ l. types_at d l ≡ Ok (types_text ts, rest)) (to_put ts rest)
    (items-complete closing_paren (type_text_at d) type_put type_text (Nests d) s.Close (type_laws d) (to_items ts) rest (to_nests d ts h))

pub types-sound : (d : ℕ) (ts : List Symbol) (xs : Items TypeText) (rest : List Symbol) → types_at d ts ≡ Ok (xs, rest) → IsRead types_put types_text (TypesNest d) ts xs rest
types-sound d ts xs rest h =
    let found = items-sound closing_paren (type_text_at d) type_put type_text (Nests d) s.Close (type_laws d) _ ts xs rest h in
    record {
      rule = from_items found.rule;
      reads = ap (items_text type_text) (to_from found.rule) ∙ found.reads;
      yields = found.yields ∙ from_put found.rule rest;
      good = from_nests d found.rule found.good;
    }
