-- The edges of a body, block by block.
use Rattle.std.proofs.Common.{◌≡◌, ◌⊎◌, inl, inr, refl, sym, ap, ◌∙◌, ℕ, ◌+◌, ◌<◌, List, [], ◌∷◌, ◌++◌, Bool, true, false, ◌==◌, cond, map, length, get_or, set, take, arith, append-nil, append_assoc}
use Rattle.std.specs.List.{filter, flat_map, range_with_len}
use Rattle.std.proofs.lemmas.Bool.{cases_eq, eq-eqb, ne_eqb}
use Rattle.std.proofs.lemmas.List.{take_more, map-append, get_or-set_same, get_or-set_other, length-set, flat_map_more, get_or-map}
use Rattle.std.proofs.lemmas.List.Elements.{filter-append}
use Rattle.mir_syntax.specs.declared.body.Block.{Block}
use Rattle.mir_syntax.specs.declared.body.Term.{Term}
use Rattle.mir_syntax.specs.declared.body.Term.TheVariants.{Unreachable}
use Rattle.mir_syntax.proofs.Lists.{range_more}
use Rattle.mir_syntax.specs.Parts.{targets}
use Rattle.mir_cfg.specs.Paths.{block_term, exits, edges_between}

-- of a list with one more target, as often as it is the block
pub edge_more : (from b : ℕ) (ts : List ℕ) (t : ℕ) → map (λ _. from) (filter (λ c. c == b) (ts ++ t ∷ [])) ≡ map (λ _. from) (filter (λ c. c == b) ts) ++ cond (t == b) (from ∷ []) []
edge_more from b ts t =
    ap (map (λ _. from)) (filter-append (λ c. c == b) ts (t ∷ []))
    ∙ map-append (λ _. from) (filter (λ c. c == b) ts) (filter (λ c. c == b) (t ∷ []))
    ∙ ap (λ xs. map (λ _. from) (filter (λ c. c == b) ts) ++ xs) (one (t == b))
  where
    one : (q : Bool) → map (λ _. from) (cond q (t ∷ []) []) ≡ cond q (from ∷ []) []
    one true = refl
    one false = refl

-- one more edge is added
pub added_more : (old lists : List (List ℕ)) (from : ℕ) (to : List ℕ) (i d : ℕ) → i < length to → length lists ≡ length old → get_or to i d < length old → ((b : ℕ) → b < length old → get_or lists b [] ≡ get_or old b [] ++ map (λ _. from) (filter (λ c. c == b) (take i to))) → (lists2 : List (List ℕ)) → lists2 ≡ set lists (get_or to i d) (get_or lists (get_or to i d) [] ++ from ∷ []) → (length lists2 ≡ length old) × ((b : ℕ) → b < length old → get_or lists2 b [] ≡ get_or old b [] ++ map (λ _. from) (filter (λ c. c == b) (take (i + 1) to)))
added_more old lists from to i d l long within all lists2 e = (ap length e ∙ length-set lists (get_or to i d) (get_or lists (get_or to i d) [] ++ from ∷ []) ∙ long, λ b m. ap (λ t. get_or t b []) e ∙ step b m (cases_eq b (get_or to i d)))
  where
    t : ℕ
    t = get_or to i d

    whole : (b : ℕ) → map (λ _. from) (filter (λ c. c == b) (take (i + 1) to)) ≡ map (λ _. from) (filter (λ c. c == b) (take i to)) ++ cond (get_or to i d == b) (from ∷ []) []
    whole b = ap (λ ts. map (λ _. from) (filter (λ c. c == b) ts)) (take_more to i d l) ∙ edge_more from b (take i to) (get_or to i d)

    step : (b : ℕ) → b < length old → (b ≡ get_or to i d) ⊎ (b ≡ get_or to i d → ⊥) → get_or (set lists (get_or to i d) (get_or lists (get_or to i d) [] ++ from ∷ [])) b [] ≡ get_or old b [] ++ map (λ _. from) (filter (λ c. c == b) (take (i + 1) to))
    step b m (inl s) =
        ap (λ n. get_or (set lists (get_or to i d) (get_or lists (get_or to i d) [] ++ from ∷ [])) n []) s
        ∙ get_or-set_same lists (get_or to i d) (get_or lists (get_or to i d) [] ++ from ∷ []) [] (omega (arith, long, within))
        ∙ ap (λ n. get_or lists n [] ++ from ∷ []) (sym s)
        ∙ ap (λ xs. xs ++ from ∷ []) (all b m)
        ∙ append_assoc (get_or old b []) (map (λ _. from) (filter (λ c. c == b) (take i to))) (from ∷ [])
        ∙ ap (λ xs. get_or old b [] ++ xs) (ap (λ q. map (λ _. from) (filter (λ c. c == b) (take i to)) ++ cond q (from ∷ []) []) (sym (eq-eqb (get_or to i d) b (sym s))) ∙ sym (whole b))
    step b m (inr ne) =
        get_or-set_other lists (get_or to i d) b (get_or lists (get_or to i d) [] ++ from ∷ []) [] ne
        ∙ all b m
        ∙ ap (λ xs. get_or old b [] ++ xs) (sym (append-nil (map (λ _. from) (filter (λ c. c == b) (take i to)))) ∙ ap (λ q. map (λ _. from) (filter (λ c. c == b) (take i to)) ++ cond q (from ∷ []) []) (sym (ne_eqb (get_or to i d) b (λ f. ne (sym f)))) ∙ sym (whole b))

-- one more block's edges
pub sources_more : (terms : List Term) (b n : ℕ) (list list2 : List ℕ) → list ≡ flat_map (edges_between terms b) (range_with_len 0 n) → list2 ≡ list ++ edges_between terms b n → list2 ≡ flat_map (edges_between terms b) (range_with_len 0 (n + 1))
sources_more terms b n list list2 e f = f ∙ ap (λ xs. xs ++ edges_between terms b n) e ∙ flat_map_more (edges_between terms b) [] (range_with_len 0 n) n ∙ ap (flat_map (edges_between terms b)) (sym (range_more n))

pub exits_at : (blocks : List Block) (i : ℕ) (d : Block) → i < length blocks → exits (map block_term blocks) i ≡ targets (get_or blocks i d).term
exits_at blocks i d l = ap targets (get_or-map block_term blocks i d Unreachable l)
