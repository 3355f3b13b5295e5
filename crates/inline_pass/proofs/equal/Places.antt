-- Lists of which the item at a place is another one.
use Rattle.std.proofs.Common.{◌≡◌, refl, sym, ap, ◌∙◌, subst, ℕ, zero, suc, ◌<◌, ◌+◌, List, [], ◌∷◌, ◌++◌, map, length, slice_set, get_or, Option, Some, None, MatchOption, arith}
use Rattle.std.proofs.lemmas.Option.{slice_get-get_or}
use Rattle.mir_syntax.specs.declared.body.Block.{Block}
use Rattle.mir_syntax.specs.declared.body.Body.{Body}
use Rattle.mir_syntax.specs.declared.types.TyId.{TyId}
use Rattle.inline_pass.specs.declared.call.Call.{Call}
use Rattle.inline_pass.specs.Spliced.{kept_dest}
use Rattle.inline_pass.specs.Code.{kept_id, bare_block, bare_entered, set_by, bare_with_call, IsCall, NoCall, IsCallAt, NoCallAt, without_call}

pub set_is : (f : Block → Block) (ks : List Block) (i : ℕ) (d n : Block) → i < length ks → n ≡ f (get_or ks i d) → slice_set ks i n ≡ set_by f ks i
set_is f [] i d n lt q = absurd (omega (arith, lt))
set_is f (x ∷ ks) zero d n lt q = ap (λ y. y ∷ ks) q
set_is f (x ∷ ks) (suc i) d n lt q = ap (λ ys. x ∷ ys) (set_is f ks i d n (omega (arith, lt)) q)

pub took : (ks : List Block) (i : ℕ) (d n : Block) (r : Option Call) → i < length ks → MatchOption r ((n ≡ get_or ks i d) × NoCall (get_or ks i d).term) (λ call. (n ≡ without_call (get_or ks i d)) × IsCall (get_or ks i d).term call) → MatchOption r (NoCallAt ks i) (λ call. (slice_set ks i n ≡ set_by without_call ks i) × IsCallAt ks i call)
took ks i d n None lt h = λ k at. subst (λ (k : Block). NoCall k.term) (let z : get_or ks i d ≡ k = some_is (get_or ks i d) k (sym (slice_get-get_or ks i d lt) ∙ at) in z) h.1
  where
    some_is : (a b : Block) → Some a ≡ Some b → a ≡ b
    some_is a b e = grind arith
took ks i d n (Some call) lt h = (set_is without_call ks i d n lt h.0, (get_or ks i d, slice_get-get_or ks i d lt, h.1))

-- ---- a block that is changed twice

pub set_long : (f : Block → Block) (ks : List Block) (i : ℕ) → length (set_by f ks i) ≡ length ks
set_long f [] i = refl
set_long f (k ∷ ks) zero = refl
set_long f (k ∷ ks) (suc i) = ap suc (set_long f ks i)

set_again : (locals blocks d : ℕ) (call : Call) (ks : List Block) (i : ℕ) → set_by (bare_entered locals blocks d call) (set_by without_call ks i) i ≡ set_by (bare_entered locals blocks d call) ks i
set_again l b d call [] i = refl
set_again l b d call (k ∷ ks) zero = refl
set_again l b d call (k ∷ ks) (suc i) = ap (λ xs. k ∷ xs) (set_again l b d call ks i)

-- it makes no difference that the call was taken out before
pub same_without : (b : Body) (i : ℕ) (call : Call) (callee : Body) (id : TyId) → bare_with_call (record b { blocks = set_by without_call b.blocks i }) i call callee id ≡ bare_with_call b i call callee id
same_without b i call callee id = long ∙ ap (λ ks. made (length b.blocks) ks) (set_again (length b.locals) (length b.blocks) (length b.locals + length callee.locals) call b.blocks i)
  where
    made : ℕ → List Block → Body
    made n ks = record { args = b.args; locals = b.locals ++ (callee.locals ++ kept_id id call.dest); blocks = ks ++ map (bare_block (length b.locals) n (kept_dest (length b.locals + length callee.locals) call.dest) call.next) callee.blocks }

    long : bare_with_call (record b { blocks = set_by without_call b.blocks i }) i call callee id ≡ made (length b.blocks) (set_by (bare_entered (length b.locals) (length b.blocks) (length b.locals + length callee.locals) call) (set_by without_call b.blocks i) i)
    long = ap (λ n. made n (set_by (bare_entered (length b.locals) n (length b.locals + length callee.locals) call) (set_by without_call b.blocks i) i)) (set_long without_call b.blocks i)
