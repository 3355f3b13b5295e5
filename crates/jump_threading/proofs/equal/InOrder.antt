-- Threads leave their blocks in order.
use Rattle.std.proofs.Common.{◌≡◌, refl, sym, ap, ap₂, ◌∙◌, subst, ℕ, zero, suc, ◌-◌, ◌<◌, ◌≤◌, List, [], ◌∷◌, ◌++◌, map, take, length, Option, Some, None, slice_get, arith}
use Rattle.std.proofs.lemmas.List.{length-map, map-append}
use Rattle.std.proofs.lemmas.Option.{slice_get_within}
use Rattle.mir_syntax.specs.declared.body.Block.{Block}
use Rattle.mir_syntax.specs.Tree.{Tree}
use Rattle.mir_syntax.specs.Crate.{block_of, TypedBlock, TypedBody}
use Rattle.mir_syntax.specs.Shapes.{Shape}
use Rattle.mir_syntax.proofs.Binds.{bind_some}
use Rattle.mir_rules.specs.Limits.{most_in_body}
use Rattle.mir_semantics.specs.Step.{Here}
use Rattle.const_flow.specs.ConstAt.{Reached, text}
use Rattle.jump_threading.specs.Threaded.{Thread, thread_of, and_then, threads_from, threads, redirected, threaded_by}
use Rattle.jump_threading.proofs.Threads.{each_thread}
use Rattle.jump_threading.proofs.equal.Redirects.{After, FromThere, copies_are, redirects_are}
use Rattle.jump_threading.specs.declared.thread.Edge.{Edge}
use Rattle.jump_threading.specs.Code.{bare_copy, bare_redirected, StandFor}

some_one : {A : Type 0} {x y : A} → Some x ≡ Some y → x ≡ y
some_one e = grind arith

thread_from : (h : Here) (all : List TypedBlock) (a : ℕ) (k : TypedBlock) (x : Reached) (t : Thread) → thread_of h all a k x ≡ Some t → t.from ≡ a
unfolding thread_of
thread_from h all a k x t e =
    let (fs, e1, k1) = bind_some e in
    let (b, e2, k2) = bind_some k1 in
    let (u, e3, k3) = bind_some k2 in
    ap (λ (t : Thread). t.from) (sym (some_one k3))

after_less : (a b : ℕ) (ts : List Thread) → b ≤ a → After a ts → After b ts
after_less a b [] le h = tt
after_less a b (t ∷ ts) le h = (let low = h.0 in (omega (arith, low, le), h.1))

after_first : (a : ℕ) (o : Option Thread) (ts : List Thread) → ((t : Thread) → o ≡ Some t → t.from ≡ a) → After (suc a) ts → After a (and_then o ts)
after_first a None ts is h = after_less (suc a) a ts (omega arith) h
after_first a (Some t) ts is h = (let same = is t refl in (omega (arith, same), subst (λ i. After (suc i) ts) (sym same) h))

from_after : (h : Here) (all : List TypedBlock) (a : ℕ) (ks : List TypedBlock) (xs : List Reached) → After a (threads_from h all a ks xs)
from_after h all a [] xs = tt
from_after h all a (k ∷ ks) [] = tt
from_after h all a (k ∷ ks) (x ∷ xs) = after_first a (thread_of h all a k x) (threads_from h all (suc a) ks xs) (thread_from h all a k x) (from_after h all (suc a) ks xs)

take_after : (n a : ℕ) (ts : List Thread) → After a ts → After a (take n ts)
take_after zero a ts h = tt
take_after (suc n) a [] h = tt
take_after (suc n) a (t ∷ ts) h = (h.0, take_after n (suc t.from) ts h.1)

all_there : (n : ℕ) (ts : List Thread) → ((i : ℕ) (t : Thread) → slice_get ts i ≡ Some t → t.from < n) → FromThere n ts
all_there n [] h = tt
all_there n (t ∷ ts) h = (h 0 t refl, all_there n ts (λ i s e. h (suc i) s e))

module _ (D : List Shape) (xs : List Reached) (b : TypedBody) where
  pub threads_after : After 0 (threads D xs b)
  unfolding threads
  threads_after = take_after (most_in_body - length b.blocks) 0 (threads_from (text D b) b.blocks 0 b.blocks xs) (from_after (text D b) b.blocks 0 b.blocks xs)

  pub threads_there : FromThere (length b.blocks) (threads D xs b)
  threads_there = all_there (length b.blocks) (threads D xs b) (λ i t e. (let is = each_thread D xs b i t e in slice_get_within b.blocks t.from is.block is.is_block))

-- the blocks of the threaded body are those that the code makes for edges that stand for its threads
pub blocks_are : (trees : List Tree) (D : List Shape) (xs : List Reached) (args : ℕ) (locals : List Tree) (ks : List Block) (es : List Edge) → (let b : TypedBody = record { args = args; locals = locals; blocks = map (block_of trees) ks } in StandFor b.blocks es (threads D xs b) → map (block_of trees) (bare_redirected ks (length ks) es ++ map (bare_copy ks) es) ≡ (threaded_by D xs b).blocks)
unfolding threaded_by
blocks_are trees D xs args locals ks es h =
    let b : TypedBody = record { args = args; locals = locals; blocks = map (block_of trees) ks } in
    let ts = threads D xs b in
    let long : length (map (block_of trees) ks) ≡ length ks = length-map ks (block_of trees) in
    let old = redirects_are trees ks (length ks) es ts h (threads_after D xs b) (subst (λ n. FromThere n ts) long (threads_there D xs b)) in
    map-append (block_of trees) (bare_redirected ks (length ks) es) (map (bare_copy ks) es) ∙ ap₂ (λ xs ys. xs ++ ys) (old ∙ ap (λ n. redirected n ts 0 b.blocks) (sym long)) (copies_are trees ks es ts h)
