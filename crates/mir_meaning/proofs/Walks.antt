-- Places that are resolved step by step.
use Rattle.std.proofs.Common.{◌≡◌, ℕ, zero, suc, ◌+◌, add-one, ◌<◌, Bool, true, false, ◌&&◌, IsTrue, List, [], ◌∷◌, ◌++◌, length, take, drop, slice_get, Option, Some, None, option_map, refl, sym, ap, ◌∙◌, arith, append_assoc, length-drop, ◌-◌}
use Rattle.mir_syntax.specs.declared.body.Proj.{Proj}
use Rattle.mir_syntax.specs.declared.body.Proj.TheVariants.{Field, Downcast, Deref}
use Rattle.mir_syntax.specs.Shapes.{◌>>=◌}
use Rattle.mir_syntax.proofs.Binds.{bind_back}
use Rattle.mir_syntax.specs.Parts.{path_formed, begins_with_field}
use Rattle.mir_semantics.specs.Values.{Value, Addr, inner, at_path}
use Rattle.mir_meaning.specs.declared.place.Spot.{Spot}
use Rattle.mir_meaning.specs.declared.part.Part.{Part}
use Rattle.mir_meaning.specs.Views.{part_of}
use Rattle.mir_meaning.specs.Spots.{spot_of, IsSpot}
use Rattle.mir_semantics.specs.Memory.{Memory, local_at, value_at, further, there, referent, project, walk}

-- ---- lists

pub drop_at : {X : Type 0} (xs : List X) (n : ℕ) (x : X) → Some x ≡ slice_get xs n → drop n xs ≡ x ∷ drop (n + 1) xs
drop_at xs n x h = rw add-one (go xs n h)
  where
    go : {X : Type 0} {x : X} (xs : List X) (n : ℕ) → Some x ≡ slice_get xs n → drop n xs ≡ x ∷ drop (suc n) xs
    go [] n h = absurd cc
    go {X} {x} (y ∷ xs) zero h = let same : y ≡ x = cc in ap (λ z. z ∷ xs) same
    go (y ∷ xs) (suc n) h = go xs n h

pub deref_at : (xs : List Proj) (n : ℕ) (x : Proj) → Some x ≡ slice_get xs n → x ≡ Deref → drop n xs ≡ Deref ∷ drop (n + 1) xs
deref_at xs n x h e = drop_at xs n x h ∙ ap (λ y. y ∷ drop (n + 1) xs) e

pub take_at : {X : Type 0} (xs : List X) (n : ℕ) (x : X) → Some x ≡ slice_get xs n → take (n + 1) xs ≡ take n xs ++ x ∷ []
take_at xs n x h = rw add-one (go xs n h)
  where
    go : {X : Type 0} {x : X} (xs : List X) (n : ℕ) → Some x ≡ slice_get xs n → take (suc n) xs ≡ take n xs ++ x ∷ []
    go [] n h = absurd cc
    go {X} {x} (y ∷ xs) zero h = let same : y ≡ x = cc in ap (λ z. z ∷ []) same
    go (y ∷ xs) (suc n) h = ap (λ l. y ∷ l) (go xs n h)

pub at_below : {X : Type 0} (xs : List X) (n : ℕ) (x : X) → Some x ≡ slice_get xs n → n < length xs
at_below [] n x h = absurd cc
at_below (y ∷ xs) zero x h = omega arith
at_below (y ∷ xs) (suc n) x h = let below : n < length xs = at_below xs n x h in omega arith

pub drop_end : {X : Type 0} (xs : List X) (n : ℕ) → None ≡ slice_get xs n → drop n xs ≡ []
drop_end [] zero h = refl
drop_end [] (suc n) h = refl
drop_end (x ∷ xs) zero h = absurd cc
drop_end (x ∷ xs) (suc n) h = drop_end xs n h

-- ---- parts

at_further : (ps : List Proj) (p : Proj) (v : Value) → at_path (ps ++ p ∷ []) v ≡ (at_path ps v >>= inner p)
unfolding ◌>>=◌
at_further [] p v = bind_back (inner p v)
at_further (q ∷ ps) p v = go (at_further ps p) (inner q v)
  where
    go : ((w : Value) → at_path (ps ++ p ∷ []) w ≡ (at_path ps w >>= inner p)) → (o : Option Value) → (o >>= at_path (ps ++ p ∷ [])) ≡ ((o >>= at_path ps) >>= inner p)
    go ih None = refl
    go ih (Some w) = ih w

pub value_further : (m : Memory) (a : Addr) (p : Proj) → value_at m (further a p) ≡ (value_at m a >>= inner p)
unfolding value_at ◌>>=◌
value_further m a p = go (local_at m a.frame a.local)
  where
    go : (o : Option Value) → (o >>= at_path (a.path ++ p ∷ [])) ≡ ((o >>= at_path a.path) >>= inner p)
    go None = refl
    go (Some w) = at_further a.path p w

-- ---- one projection

pub part_further : (m : Memory) (a : Addr) (p : Proj) (v w : Value) → Some v ≡ value_at m a → Some w ≡ inner p v → Some w ≡ value_at m (further a p)
unfolding ◌>>=◌
part_further m a p v w h i = i ∙ (ap (λ o. o >>= inner p) h ∙ sym (value_further m a p))

pub walk_further : (m : Memory) (a : Addr) (p : Proj) (ps : List Proj) (v w : Value) → (p ≡ Deref → ⊥) → Some v ≡ value_at m a → Some w ≡ inner p v → walk m (further a p) ps ≡ walk m a (p ∷ ps)
unfolding walk project ◌>>=◌
walk_further m a (Field i) ps v w n h e = ap (λ o. there o (further a (Field i)) >>= λ b. walk m b ps) (part_further m a (Field i) v w h e)
walk_further m a (Downcast k) ps v w n h e = ap (λ o. there o (further a (Downcast k)) >>= λ b. walk m b ps) (part_further m a (Downcast k) v w h e)
walk_further m a Deref ps v w n h e = absurd (n refl)

none_further : (m : Memory) (a : Addr) (p : Proj) (v : Value) → Some v ≡ value_at m a → None ≡ inner p v → None ≡ value_at m (further a p)
unfolding ◌>>=◌
none_further m a p v h i = i ∙ (ap (λ o. o >>= inner p) h ∙ sym (value_further m a p))

pub walk_no_part : (m : Memory) (a : Addr) (p : Proj) (ps : List Proj) (v : Value) → (p ≡ Deref → ⊥) → Some v ≡ value_at m a → None ≡ inner p v → None ≡ walk m a (p ∷ ps)
unfolding walk project ◌>>=◌
walk_no_part m a (Field i) ps v n h e = ap (λ o. there o (further a (Field i)) >>= λ b. walk m b ps) (none_further m a (Field i) v h e)
walk_no_part m a (Downcast k) ps v n h e = ap (λ o. there o (further a (Downcast k)) >>= λ b. walk m b ps) (none_further m a (Downcast k) v h e)
walk_no_part m a Deref ps v n h e = absurd (n refl)

nothing_further : (m : Memory) (a : Addr) (p : Proj) → None ≡ value_at m a → None ≡ value_at m (further a p)
unfolding ◌>>=◌
nothing_further m a p h = ap (λ o. o >>= inner p) h ∙ sym (value_further m a p)

pub walk_nothing : (m : Memory) (a : Addr) (p : Proj) (ps : List Proj) → None ≡ value_at m a → None ≡ walk m a (p ∷ ps)
unfolding walk project ◌>>=◌
walk_nothing m a (Field i) ps h = ap (λ o. there o (further a (Field i)) >>= λ b. walk m b ps) (nothing_further m a (Field i) h)
walk_nothing m a (Downcast k) ps h = ap (λ o. there o (further a (Downcast k)) >>= λ b. walk m b ps) (nothing_further m a (Downcast k) h)
walk_nothing m a Deref ps h = ap (λ o. (o >>= referent >>= λ b. there (value_at m b) b) >>= λ b. walk m b ps) h

pub walk_deref : (m : Memory) (a b : Addr) (ps : List Proj) (v w : Value) → Some v ≡ value_at m a → Some b ≡ referent v → Some w ≡ value_at m b → walk m b ps ≡ walk m a (Deref ∷ ps)
unfolding walk project ◌>>=◌
walk_deref m a b ps v w h r e =
    ap (λ o. there o b >>= λ c. walk m c ps) e
    ∙ (ap (λ o. (o >>= λ c. there (value_at m c) c) >>= λ c. walk m c ps) r
    ∙ ap (λ o. (o >>= referent >>= λ c. there (value_at m c) c) >>= λ c. walk m c ps) h)

pub walk_no_reference : (m : Memory) (a : Addr) (ps : List Proj) (v : Value) → Some v ≡ value_at m a → None ≡ referent v → None ≡ walk m a (Deref ∷ ps)
unfolding walk project ◌>>=◌
walk_no_reference m a ps v h r =
    ap (λ o. (o >>= λ c. there (value_at m c) c) >>= λ c. walk m c ps) r
    ∙ ap (λ o. (o >>= referent >>= λ c. there (value_at m c) c) >>= λ c. walk m c ps) h

pub walk_dangling : (m : Memory) (a b : Addr) (ps : List Proj) (v : Value) → Some v ≡ value_at m a → Some b ≡ referent v → None ≡ value_at m b → None ≡ walk m a (Deref ∷ ps)
unfolding walk project ◌>>=◌
walk_dangling m a b ps v h r e =
    ap (λ o. there o b >>= λ c. walk m c ps) e
    ∙ (ap (λ o. (o >>= λ c. there (value_at m c) c) >>= λ c. walk m c ps) r
    ∙ ap (λ o. (o >>= referent >>= λ c. there (value_at m c) c) >>= λ c. walk m c ps) h)

pub walk_end : (m : Memory) (a : Addr) → walk m a [] ≡ Some a
unfolding walk
walk_end m a = refl

-- ---- paths

begins_more : (ps qs : List Proj) → IsTrue (begins_with_field ps) → IsTrue (begins_with_field (ps ++ qs))
begins_more [] qs h = absurd cc
begins_more (Field i ∷ ps) qs h = h
begins_more (Downcast k ∷ ps) qs h = absurd cc
begins_more (Deref ∷ ps) qs h = absurd cc

both_true : (s t : Bool) → IsTrue (s && t) → IsTrue s × IsTrue t
both_true true true h = (refl, refl)
both_true true false h = absurd cc
both_true false t h = absurd cc

true_both : (s t : Bool) → IsTrue s → IsTrue t → IsTrue (s && t)
true_both true t a b = b
true_both false t a b = absurd cc

pub formed_append : (ps qs : List Proj) → IsTrue (path_formed ps) → IsTrue (path_formed qs) → IsTrue (path_formed (ps ++ qs))
formed_append [] qs a b = b
formed_append (Field i ∷ ps) qs a b = formed_append ps qs a b
formed_append (Deref ∷ ps) qs a b = formed_append ps qs a b
formed_append (Downcast k ∷ ps) qs a b =
    let (field, rest) = both_true (begins_with_field ps) (path_formed ps) a in
    true_both (begins_with_field (ps ++ qs)) (path_formed (ps ++ qs)) (begins_more ps qs field) (formed_append ps qs rest b)

formed_rest : (p : Proj) (ps : List Proj) → IsTrue (path_formed (p ∷ ps)) → IsTrue (path_formed ps)
formed_rest (Field i) ps h = h
formed_rest Deref ps h = h
formed_rest (Downcast k) ps h = (both_true (begins_with_field ps) (path_formed ps) h).1

pub formed_drop : (n : ℕ) (ps : List Proj) → IsTrue (path_formed ps) → IsTrue (path_formed (drop n ps))
formed_drop zero ps h = h
formed_drop (suc n) [] h = h
formed_drop (suc n) (p ∷ ps) h = formed_drop n ps (formed_rest p ps h)

take_all : {X : Type 0} (xs : List X) → take (length xs) xs ≡ xs
take_all [] = refl
take_all (x ∷ xs) = ap (λ l. x ∷ l) (take_all xs)

-- the slice of a list from a place on
pub slice_rest : {X : Type 0} (xs : List X) (n : ℕ) → take (length xs - n) (drop n xs) ≡ drop n xs
slice_rest xs n = ap (λ k. take k (drop n xs)) (sym (length-drop n xs)) ∙ take_all (drop n xs)

pub take_rest : {X : Type 0} (xs : List X) (n : ℕ) → drop n xs ≡ [] → take n xs ≡ xs
take_rest [] zero h = refl
take_rest [] (suc n) h = refl
take_rest (x ∷ xs) zero h = absurd cc
take_rest (x ∷ xs) (suc n) h = ap (λ l. x ∷ l) (take_rest xs n h)

pub spot_further : (front back more : List Proj) (p : Proj) → more ≡ back ++ p ∷ [] → front ++ more ≡ (front ++ back) ++ p ∷ []
spot_further front back more p e = rw e (sym (append_assoc front back (p ∷ [])))

-- ---- spots

pub spot_nothing : (m : Memory) (s : Spot) → IsSpot m s → s.part ≡ None → None ≡ value_at m (spot_of s)
spot_nothing m s is e = ap (option_map part_of) (sym e) ∙ is

pub spot_some : (m : Memory) (s : Spot) (p : Part) → IsSpot m s → s.part ≡ Some p → Some (part_of p) ≡ value_at m (spot_of s)
spot_some m s p is e = ap (option_map part_of) (sym e) ∙ is
