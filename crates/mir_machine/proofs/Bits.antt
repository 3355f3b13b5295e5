-- The bits of several numbers.
use Rattle.std.proofs.Common.{◌≡◌, ℕ, suc, ◌+◌, ◌<◌, ◌≤◌, List, [], ◌∷◌, ◌++◌, map, length, drop, get_or, Option, Some, None, refl, sym, ap, ◌∙◌, append_assoc, add-one, drop-cons}
use Rattle.std.proofs.lemmas.List.{append-nil, drop_all}
use Rattle.mir_syntax.specs.Shapes.{◌>>=◌}
use Rattle.mir_semantics.specs.Values.{Value}
use Rattle.mir_semantics.specs.Step.{number_in, numbers_in}
use Rattle.mir_meaning.specs.declared.datum.Datum.{Datum}
use Rattle.mir_meaning.specs.Views.{value_of}
use Rattle.mir_syntax.proofs.Binds.{bind_gone}

-- what is left of them, after the numbers so far
abbrev pub then_numbers : List ℕ → Option (List ℕ) → Option (List ℕ)
then_numbers ns o = o >>= λ ms. Some (ns ++ ms)

pub all_numbers : (vs : List Value) (ns : List ℕ) → ns ≡ [] → numbers_in vs ≡ then_numbers ns (numbers_in vs)
unfolding ◌>>=◌
all_numbers vs ns e = go (numbers_in vs) ∙ ap (λ l. then_numbers l (numbers_in vs)) (sym e)
  where
    go : (o : Option (List ℕ)) → o ≡ then_numbers [] o
    go None = refl
    go (Some ms) = refl

next_datum : (vs : List Datum) (i : ℕ) (v : Datum) → i < length vs → v ≡ get_or vs i v → drop i vs ≡ v ∷ drop (i + 1) vs
next_datum vs i v h e = rw (add-one, drop-cons vs i v h) (ap (λ x. x ∷ drop (suc i) vs) (sym e))

pub number_missing : (vs : List Datum) (i : ℕ) (v : Datum) (ns : List ℕ) → i < length vs → v ≡ get_or vs i v → None ≡ number_in (value_of v) → then_numbers ns (numbers_in (map value_of (drop i vs))) ≡ None
number_missing vs i v ns h e n = bind_gone _ _ (ap (λ l. numbers_in (map value_of l)) (next_datum vs i v h e) ∙ bind_gone _ _ (sym n))

pub number_next : (vs : List Datum) (i : ℕ) (v : Datum) (ns new : List ℕ) (n : ℕ) → i < length vs → v ≡ get_or vs i v → Some n ≡ number_in (value_of v) → new ≡ ns ++ n ∷ []
    → then_numbers ns (numbers_in (map value_of (drop i vs))) ≡ then_numbers new (numbers_in (map value_of (drop (i + 1) vs)))
unfolding ◌>>=◌
number_next vs i v ns new n h e k f =
    ap (λ l. then_numbers ns (numbers_in (map value_of l))) (next_datum vs i v h e) ∙ (ap (λ o. then_numbers ns (o >>= λ m. numbers_in (map value_of (drop (i + 1) vs)) >>= λ ms. Some (m ∷ ms))) (sym k)
    ∙ (go (numbers_in (map value_of (drop (i + 1) vs))) ∙ ap (λ l. then_numbers l (numbers_in (map value_of (drop (i + 1) vs)))) (sym f)))
  where
    go : (o : Option (List ℕ)) → then_numbers ns (o >>= λ ms. Some (n ∷ ms)) ≡ then_numbers (ns ++ n ∷ []) o
    go None = refl
    go (Some ms) = ap Some (sym (append_assoc ns (n ∷ []) ms))

pub no_numbers_left : (vs : List Datum) (i : ℕ) (ns : List ℕ) → length vs ≤ i → then_numbers ns (numbers_in (map value_of (drop i vs))) ≡ Some ns
unfolding ◌>>=◌
no_numbers_left vs i ns h = ap (λ l. then_numbers ns (numbers_in (map value_of l))) (drop_all i vs h) ∙ ap Some (append-nil ns)
