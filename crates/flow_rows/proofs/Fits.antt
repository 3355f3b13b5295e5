-- A body that passes the test is ready.
use Rattle.std.proofs.Common.{◌≡◌, refl, sym, ap, ap₂, ◌∙◌, ℕ, zero, suc, ◌<◌, ◌^◌, Bool, true, false, ◌&&◌, List, [], ◌∷◌, ◌++◌, map, length, get_or, nat_lt, arith}
use Rattle.std.specs.Bool.{OnTrue}
use Rattle.std.specs.List.{list_all, All}
use Rattle.std.proofs.lemmas.Bool.{and_parts, and_from, ltb-true}
use Rattle.std.proofs.lemmas.List.{length-map, get_or_past}
use Rattle.std.proofs.lemmas.List.Sums.{AllPass-from_list_all}
use Rattle.mir_syntax.specs.declared.types.Ty.{Ty}
use Rattle.mir_syntax.specs.declared.types.TyId.{TyId}
use Rattle.mir_syntax.specs.declared.body.Arm.{Arm}
use Rattle.mir_syntax.specs.declared.body.Stmt.{Stmt}
use Rattle.mir_syntax.specs.declared.body.Term.{Term}
use Rattle.mir_syntax.specs.declared.body.Term.TheVariants.{Unreachable}
use Rattle.mir_syntax.specs.declared.body.Block.{Block}
use Rattle.mir_syntax.specs.declared.body.Body.{Body}
use Rattle.mir_syntax.specs.Table.{all_below}
use Rattle.mir_syntax.specs.Ids.{stmt_below, block_below}
use Rattle.mir_syntax.specs.Parts.{targets, arm_block}
use Rattle.mir_cfg.specs.Paths.{block_term, terms_of, exits, Closed}
use Rattle.dead_store.specs.Rounds.{set_locals, BlockSetsBelow, SetsBelow, IsReady}
use Rattle.flow_rows.specs.Ready.{are_below, arm_fits, id_fits, stmt_fits, block_fits, body_fits}

pub arms_below : (n : ℕ) (arms : List Arm) (other : ℕ) → (list_all (arm_fits n) arms && nat_lt other n) ≡ are_below n (map arm_block arms ++ other ∷ [])
arms_below n [] other = last (nat_lt other n)
  where
    last : (b : Bool) → b ≡ (b && true)
    last true = refl
    last false = refl
arms_below n (arm ∷ arms) other = first (nat_lt arm.block n) (list_all (arm_fits n) arms) (nat_lt other n) (are_below n (map arm_block arms ++ other ∷ [])) (arms_below n arms other)
  where
    first : (a b c d : Bool) → (b && c) ≡ d → ((a && b) && c) ≡ (a && d)
    first true b c d e = e
    first false b c d e = refl

-- what passes one test passes a weaker one
weaker : {X : Type 0} (p q : X → Bool) → ((x : X) → p x ≡ true → q x ≡ true) → (xs : List X) → list_all p xs ≡ true → list_all q xs ≡ true
weaker p q h [] e = refl
weaker p q h (x ∷ xs) e = let r = and_parts (p x) (list_all p xs) e in and_from (q x) (list_all q xs) (h x r.0) (weaker p q h xs r.1)

ids_below : (n : ℕ) (ids : List TyId) → list_all (id_fits n) ids ≡ true → all_below n ids ≡ true
ids_below n [] e = refl
ids_below n (id ∷ ids) e = let r = and_parts (id_fits n id) (list_all (id_fits n) ids) e in and_from (nat_lt id.0 n) (all_below n ids) r.0 (ids_below n ids r.1)

below : (n : ℕ) (xs : List ℕ) → are_below n xs ≡ true → All (λ x. x < n) xs
below n xs e = λ k d l. ltb-true _ n (AllPass-from_list_all (λ x. nat_lt x n) xs e k d l)

exits_fit : (n : ℕ) (blocks : List Block) (a : ℕ) → list_all (λ (k : Block). are_below n (targets k.term)) blocks ≡ true → are_below n (exits (map block_term blocks) a) ≡ true
exits_fit n [] a e = ap (λ (t : Term). are_below n (targets t)) (get_or_past {X = Term} [] a Unreachable (omega arith))
exits_fit n (k ∷ ks) zero e = (and_parts (are_below n (targets k.term)) (list_all (λ (k : Block). are_below n (targets k.term)) ks) e).0
exits_fit n (k ∷ ks) (suc a) e = exits_fit n ks a ((and_parts (are_below n (targets k.term)) (list_all (λ (k : Block). are_below n (targets k.term)) ks) e).1)

sets_fit : (types locals : ℕ) (stmts : List Stmt) → list_all (stmt_fits types locals) stmts ≡ true → SetsBelow locals stmts
sets_fit types locals stmts e = λ k d l. below locals _ ((and_parts _ _ (AllPass-from_list_all (stmt_fits types locals) stmts e k d l)).1)

abbrev fits_in : List Ty → Body → Block → Bool
fits_in types b = block_fits (length types) (length b.locals) (length b.blocks)

ready : (types : List Ty) (b : Body) → length b.blocks < 2 ^ 30 → length b.locals < 2 ^ 30 → body_fits (length types) b ≡ true → IsReady types b
ready types b few_blocks few_locals e = record {
  ids = and_from (all_below (length types) b.locals) (list_all (block_below (length types)) b.blocks) (ids_below (length types) b.locals parts.0) (weaker (fits_in types b) (block_below (length types)) inside b.blocks parts.1);
  closed = λ a. (let z = exits_fit (length b.blocks) b.blocks a (weaker (fits_in types b) (λ (k : Block). are_below (length b.blocks) (targets k.term)) (λ k h. (halves k h).1) b.blocks parts.1) in rw (length-map b.blocks block_term) (below (length b.blocks) (exits (terms_of b) a) z));
  few_blocks = few_blocks;
  few_locals = few_locals;
  sets = λ i d l. sets_fit (length types) (length b.locals) (get_or b.blocks i d).stmts ((halves (get_or b.blocks i d) (AllPass-from_list_all (fits_in types b) b.blocks parts.1 i d l)).0);
}
  where
    parts : (list_all (id_fits (length types)) b.locals ≡ true) × (list_all (block_fits (length types) (length b.locals) (length b.blocks)) b.blocks ≡ true)
    parts = and_parts (list_all (id_fits (length types)) b.locals) (list_all (block_fits (length types) (length b.locals) (length b.blocks)) b.blocks) e

    halves : (k : Block) → block_fits (length types) (length b.locals) (length b.blocks) k ≡ true → (list_all (stmt_fits (length types) (length b.locals)) k.stmts ≡ true) × (are_below (length b.blocks) (targets k.term) ≡ true)
    halves k h = and_parts (list_all (stmt_fits (length types) (length b.locals)) k.stmts) (are_below (length b.blocks) (targets k.term)) h

    inside : (k : Block) → block_fits (length types) (length b.locals) (length b.blocks) k ≡ true → block_below (length types) k ≡ true
    inside k h = weaker (stmt_fits (length types) (length b.locals)) (stmt_below (length types)) (λ s g. (and_parts (stmt_below (length types) s) (are_below (length b.locals) (set_locals s)) g).0) k.stmts ((halves k h).0)

pub ready_if : (types : List Ty) (b : Body) (n : ℕ) (r : Bool) → length b.blocks < 2 ^ 30 → length b.locals < 2 ^ 30 → n ≡ length types → r ≡ body_fits n b → OnTrue r (IsReady types b)
ready_if types b n true few_blocks few_locals e f = ready types b few_blocks few_locals (ap (λ m. body_fits m b) (sym e) ∙ sym f)
ready_if types b n false few_blocks few_locals e f = tt
